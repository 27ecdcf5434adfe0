use Rattle.mesa_key.proofs.SpellingOrder.{spelling_order}
use Rattle.mesa_key.proofs.laws.orders_bytes_as_keys.Goals as goal

pub returns : goal.returns
returns c = spelling_order
