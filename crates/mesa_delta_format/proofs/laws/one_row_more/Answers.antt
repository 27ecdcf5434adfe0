use Rattle.mesa_delta_format.proofs.Adding.{combined_rows, last_key-push}
use Rattle.mesa_delta_format.proofs.Spreading.{rise_on}
use Rattle.mesa_delta_format.proofs.laws.one_row_more.Goals as goal

pub returns : goal.returns
returns c = record { last = last_key-push; rises = rise_on; combined = combined_rows }
