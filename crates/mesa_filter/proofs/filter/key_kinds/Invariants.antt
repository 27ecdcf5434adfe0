use Rattle.std.proofs.Common.{◌≡◌, ◌++◌, drop, map}
use Rattle.mesa_fold.specs.mesa_columns.declared.columns.KeyColumn.{KeyColumn}
use Rattle.mesa_fold.specs.mesa_columns.Columns.{kinds_of}
use Rattle.mesa_filter.proofs.filter.key_kinds.Given as goal

-- the types so far and those of the columns that are left are those of all
abbrev pub invariant-loop-column : goal.invariant-loop-column
invariant-loop-column l = l.kinds ++ map (λ (c : KeyColumn). c.kind) (drop l.column-index l.column-items) ≡ kinds_of l.schema
