use Rattle.mesa_store_spec.proofs.Ids.{brought_own}
use Rattle.mesa_store_spec.proofs.Named.{brought_new}
use Rattle.mesa_store_spec.proofs.files.brought_ids_are_new.Goals as goal

pub returns : goal.returns
returns g = record { unnamed = brought_new; own = λ c r id fit some. brought_own id c r fit some }
