use Rattle.mesa_model.proofs.Numbers.{session_told, entry_told, history_told}
use Rattle.mesa_model.proofs.laws.numbers_tell_entries.Goals as goal

pub returns : goal.returns
returns c = record { session = session_told; entry = entry_told; history = history_told }
