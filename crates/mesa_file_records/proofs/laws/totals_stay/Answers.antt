use Rattle.mesa_file_records.proofs.KeysOnce.{totals_by_key}
use Rattle.mesa_file_records.proofs.laws.totals_stay.Goals as goal

pub returns : goal.returns
returns c = totals_by_key
