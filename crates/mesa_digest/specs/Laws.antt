-- What digests don't depend on.
use Rattle.std.specs.Prelude.{◌≡◌, List, [], ◌∷◌, ⊤, IsTrue}
use Rattle.std.specs.List.{list_all}
use Rattle.std.specs.List.Sorted.{IsPermutation}
use Rattle.mesa_columns.specs.Columns.{Columns, key_names, value_names}
use Rattle.mesa_schema.specs.Lineages.{is_view_of}
use Rattle.mesa_columns.specs.Names.{has_name}
use Rattle.mesa_columns.specs.Rows.{AreRowsOf, keys_rise}
use Rattle.mesa_columns.specs.Schema.{is_schema}
use Rattle.mesa_schema.specs.Views.{view_columns, view_rows}
use Rattle.mesa_columns.specs.declared.rows.Row.{Row}
use Rattle.mesa_columns.specs.declared.views.View.{View}
use Rattle.mesa_digest.specs.Digests.{cells, named, set}

-- Rows of other columns have the same columns, each in another order.
abbrev pub AreMoved : Columns → Columns → List Row → List Row → Type 0
AreMoved s t [] [] = ⊤
AreMoved s t [] (y ∷ ys) = ⊥
AreMoved s t (x ∷ xs) [] = ⊥
AreMoved s t (x ∷ xs) (y ∷ ys) = IsPermutation (cells s x) (cells t y) × AreMoved s t xs ys

-- A row's named spelling doesn't depend on the order of its columns.
abbrev pub NamesOnce : Type 0
NamesOnce = (s t : Columns) (a b : Row) → IsPermutation (cells s a) (cells t b) → named s a ≡ named t b

-- Neither does the set digest of rows, nor does it depend on the rows' order.
abbrev pub SetsOnce : Type 0
SetsOnce = (s t : Columns) (xs ys zs : List Row) → AreMoved s t xs ys → IsPermutation ys zs → set s xs ≡ set t zs

-- ---- further orders

-- A view has all columns of its table, in an order of its own.
pub record HasAllColumns (s : Columns) (v : View) : Type 0 where
  pub keys : IsTrue (list_all (λ name. has_name name v.keys) (key_names s))
  pub values : IsTrue (list_all (λ name. has_name name v.values) (value_names s))

-- Such a view has its table's set digest.
abbrev pub FurtherOrder : Type 0
FurtherOrder = (s : Columns) (v : View) (rows : List Row) → IsTrue (is_schema s) → IsTrue (is_view_of s v) → HasAllColumns s v → AreRowsOf s rows → IsTrue (keys_rise rows)
    → set (view_columns s v) (view_rows s v rows) ≡ set s rows
