use Rattle.std.proofs.Common.{◌≡◌, ◌++◌, ◌∷◌, [], List, map}
use Rattle.mesa_open_files.specs.mesa_columns.declared.rows.Row.{Row}
use Rattle.mesa_open_files.specs.mesa_columns.Lent.{lent}
use Rattle.mesa_answer.specs.Gathered.{HasPut, wanted_of}
use Rattle.mesa_answer.specs.declared.groups.Groups.{Groups}
use Rattle.mesa_compact.specs.Grouping.{HavePut}
use Rattle.mesa_compact.proofs.Putting.{AllUpTo}
use Rattle.mesa_compact.proofs.grouping.put_all.Given as goal

-- the row is put into the first of them
abbrev pub invariant-groups : goal.invariant-groups
invariant-groups l = record {
  put : (given : List Row) → HavePut l.fn.groups given → AllUpTo l.i (λ (x : Groups). HasPut x (given ++ lent l.row ∷ [])) (λ (x : Groups). HasPut x given) l.groups;
  wanted : map wanted_of l.groups ≡ map wanted_of l.fn.groups;
}
