use Rattle.std.proofs.Common.{◌≡◌, [], ◌∷◌, List, subst}
use Rattle.std.specs.Prelude.{Some, slice_get}
use Rattle.std.specs.List.{AllByRecursion}
use Rattle.std.proofs.lemmas.Option.{get_or_from_slice_get}
use Rattle.mesa_query.specs.mesa_columns.declared.rows.Row.{Row}
use Rattle.mesa_block.specs.Layout.{Layout}
use Rattle.mesa_query.specs.mesa_columns.Lent.{lent}
use Rattle.mesa_block.specs.Rows.{IsRow}
use Rattle.mesa_key.specs.declared.Format.TheVariants.{Two}
use Rattle.mesa_file_tests.proofs.delta.writing.write_one.Goals as goal

first : (s : Layout) (rows : List Row) (row : Row) → AllByRecursion (IsRow s) rows → slice_get rows 0 ≡ Some row → IsRow s row
first s [] row all at = absurd cc
first s (x ∷ rows) row all at = subst (IsRow s) (get_or_from_slice_get (x ∷ rows) 0 row x at) all.0

pub write_row-requires : goal.write_row-requires
write_row-requires g c =
    let s : Layout = record { format = Two; columns = c.schema-schema.result } in
    first s c.in-Ok.block (lent c.row.result) c.in-Ok.ensures.rows.good c.row.ensures
