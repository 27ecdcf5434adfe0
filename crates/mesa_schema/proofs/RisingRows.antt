-- Rows whose keys rise: rows after a change.
use Rattle.std.proofs.Common.{◌≡◌, ℕ, List, [], ◌∷◌, ◌++◌, map, refl, sym, ◌∙◌, ap, ◌&&◌}
use Rattle.std.specs.Ordering.{is_lt, ordering_then}
use Rattle.std.specs.declared.cmp.Ordering.{Ordering}
use Rattle.std.specs.declared.cmp.Ordering.TheVariants.{Less, Equal, Greater}
use Rattle.std.specs.Cmp.{nat_cmp_is}
use Rattle.std.specs.List.{AllByRecursion}
use Rattle.mesa_fold.specs.mesa_key.declared.KeyValue.{KeyValue}
use Rattle.mesa_fold.specs.mesa_key.Order.{byte_cmp, key_cmp}
use Rattle.mesa_fold.specs.mesa_key.Spelling.{key_of, value_spelling}
use Rattle.mesa_fold.proofs.mesa_key.SpellingOrder.{spelling_order, spelling_order_then}
use Rattle.mesa_columns.specs.declared.rows.Row.{Row}
use Rattle.mesa_columns.specs.declared.changes.Change.{Change}
use Rattle.mesa_columns.specs.declared.changes.Change.TheVariants.{AddKey, AddValue, DropValue}
use Rattle.mesa_columns.specs.Columns.{Columns, kinds_of}
use Rattle.mesa_columns.specs.Changes.{lifted_once}
use Rattle.mesa_columns.specs.Rows.{AreRowsOf, IsRowOf, keys_rise}

-- ---- changes

then_equal : (o : Ordering) → ordering_then o Equal ≡ o
then_equal Less = refl
then_equal Equal = refl
then_equal Greater = refl

same_order : (bytes : List ℕ) → byte_cmp bytes bytes ≡ Equal
same_order [] = refl
same_order (b ∷ bytes) = ap (λ o. ordering_then o (byte_cmp bytes bytes)) (sym (nat_cmp_is b b Equal refl)) ∙ same_order bytes

-- the same bytes behind two keys leave their order
suffix_order : (s : Columns) (bytes : List ℕ) (a b : Row) → IsRowOf s a → IsRowOf s b → byte_cmp (a.key ++ bytes) (b.key ++ bytes) ≡ byte_cmp a.key b.key
suffix_order s bytes a b f g =
    let x : List KeyValue = key_of (kinds_of s) a.key in
    let y : List KeyValue = key_of (kinds_of s) b.key in
    (λ i. byte_cmp (sym f.spelled i ++ bytes) (sym g.spelled i ++ bytes))
    ∙ spelling_order_then (kinds_of s) x y bytes bytes f.key g.key
    ∙ ap (ordering_then (key_cmp x y)) (same_order bytes) ∙ then_equal (key_cmp x y)
    ∙ sym (spelling_order (kinds_of s) x y f.key g.key)
    ∙ (λ i. byte_cmp (f.spelled i) (g.spelled i))

-- rows that are mapped to others in the same order
mapped_rise : (P : Row → Type 0) (f : Row → Row) (rows : List Row) → ((a b : Row) → P a → P b → byte_cmp (f a).key (f b).key ≡ byte_cmp a.key b.key) → AllByRecursion P rows → keys_rise (map f rows) ≡ keys_rise rows
mapped_rise P f [] same all = refl
mapped_rise P f (row ∷ []) same all = refl
mapped_rise P f (row ∷ next ∷ rows) same all = λ i. is_lt (same row next all.0 all.1.0 i) && mapped_rise P f (next ∷ rows) same all.1 i

-- A change leaves the order of rows.
pub lifted_rise : (s : Columns) (c : Change) (rows : List Row) → AreRowsOf s rows → keys_rise (map (lifted_once s c) rows) ≡ keys_rise rows
lifted_rise s (AddValue column default) rows all = mapped_rise (IsRowOf s) (lifted_once s (AddValue column default)) rows (λ a b f g. refl) all
lifted_rise s (DropValue name) rows all = mapped_rise (IsRowOf s) (lifted_once s (DropValue name)) rows (λ a b f g. refl) all
lifted_rise s (AddKey column default) rows all = mapped_rise (IsRowOf s) (lifted_once s (AddKey column default)) rows (suffix_order s (value_spelling default)) all
