use Rattle.mesa_record.proofs.RecordsBoth.{record_found}
use Rattle.mesa_record.proofs.laws.spells_records.Goals as goal

pub returns-clause-sound : goal.returns-clause-sound
returns-clause-sound c = λ bytes r are h. (record_found bytes r are h).0

pub returns-clause-spelled : goal.returns-clause-spelled
returns-clause-spelled c = λ bytes r are h. (record_found bytes r are h).1
