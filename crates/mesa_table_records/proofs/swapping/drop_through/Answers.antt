use Rattle.std.proofs.Common.{rules}
use Rattle.std.specs.Prelude.{nat_lt}
use Rattle.std.proofs.lemmas.Fn.{filter_same}
use Rattle.mesa_catalog_table.specs.declared.table.Loaded.{Loaded}
use Rattle.mesa_table_records.proofs.swapping.drop_through.Goals as goal

pub returns : goal.returns
returns c = filter_same _ (λ (l : Loaded). nat_lt c.args.to l.version) _ (λ x b f' k. search rules) _ _ c.retain.ensures.filtered
