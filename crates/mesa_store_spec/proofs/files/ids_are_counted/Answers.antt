use Rattle.mesa_store_spec.proofs.Ids.{counted}
use Rattle.mesa_store_spec.proofs.Moving.{kind_of}
use Rattle.mesa_store_spec.proofs.files.ids_are_counted.Goals as goal

pub returns : goal.returns
returns g c r id rules fit = counted id c r rules (kind_of c r fit)
