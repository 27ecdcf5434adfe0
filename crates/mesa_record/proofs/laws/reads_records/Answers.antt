use Rattle.mesa_record.proofs.RecordsBoth.{record_again}
use Rattle.mesa_record.proofs.laws.reads_records.Goals as goal

pub returns : goal.returns
returns c = record_again
