use Rattle.std.proofs.Common.{rules, tests}
use Rattle.std.proofs.lemmas.Fn.{always_returns_same}
use Rattle.mesa_schema.specs.mesa_key.Order.{byte_cmp}
use Rattle.mesa_schema.specs.mesa_columns.declared.rows.Row.{Row as RowOf}
use Rattle.mesa_batch.proofs.fold.place_of.Goals as goal

pub returns-clause-place : goal.returns-clause-place
returns-clause-place c = c.binary_search_by.ensures.position (λ (row : RowOf). byte_cmp row.key c.args.key.now) (always_returns_same _ _ _ (λ a r f' k. search (rules, tests)))
