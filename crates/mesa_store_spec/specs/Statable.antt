-- What every catalogue keeps, so that a checkpoint can state it.
use Rattle.std.specs.Prelude.{◌≡◌, ◌⊎◌, ℕ, List, Some, None, IfSome}
use Rattle.std.specs.List.{AllByRecursion}
use Rattle.mesa_record.specs.declared.record.Files.{Files}
use Rattle.mesa_store_spec.specs.Catalog.{Delta, Ending, TableMeta, Catalog, empty_delta}

-- A delta has files and recorded totals.
pub record HasRows (d : Delta) : Type 0 where
  pub own : Files
  pub counts : List ℕ
  pub files : d.files ≡ Some own
  pub totals : d.totals ≡ Some counts

-- A singleton has rows, or nothing is known of it.
abbrev pub IsSingle : Delta → Type 0
IsSingle d = (d ≡ empty_delta) ⊎ HasRows d

-- Of a merged range no totals are recorded.
abbrev pub IsUncounted : Ending → Type 0
IsUncounted e = e.delta.totals ≡ None

-- A checkpoint can state a table: no totals are recorded of its merged ranges, and of each singleton all is known or nothing.
pub record IsStatable (t : TableMeta) : Type 0 where
  pub base : IfSome t.base IsUncounted
  pub cumulatives : AllByRecursion IsUncounted t.cumulatives
  pub singles : AllByRecursion IsSingle t.singles

abbrev pub AreStatable : Catalog → Type 0
AreStatable c = AllByRecursion IsStatable c.tables
