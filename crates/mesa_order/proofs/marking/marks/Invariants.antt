use Rattle.std.proofs.Common.{◌≡◌, drop, length, map}
use Rattle.mesa_model.specs.mesa_columns.Columns.{places_in}
use Rattle.mesa_order.proofs.Marks.{Marks}
use Rattle.mesa_order.proofs.marking.marks.Given as goal

-- the columns so far are marked
abbrev pub invariant-names : goal.invariant-names
invariant-names g l = record {
  count : length l.marks ≡ 16;
  marked : Marks l.marks (places_in (map g.C.Named.name_of l.columns) (drop l.name-index l.names)) (places_in (map g.C.Named.name_of l.columns) l.names);
}
