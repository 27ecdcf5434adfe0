-- The keys of grouped rows spell keys of the group columns.
use Rattle.std.proofs.Common.{◌≡◌, ℕ, zero, suc, List, [], ◌∷◌, ◌++◌, map, length, arith, true, is_some, refl, sym, ◌∙◌, ap, subst, ◌⊎◌, inl, inr, Option, Some, None, slice_get}
use Rattle.std.specs.Prelude.{option_map}
use Rattle.std.specs.List.{AllByRecursion, concat, cons_option}
use Rattle.mesa_columns.specs.mesa_value.declared.Agg.{Agg}
use Rattle.mesa_columns.specs.mesa_key.declared.KeyType.{KeyType}
use Rattle.mesa_columns.specs.mesa_key.declared.KeyValue.{KeyValue}
use Rattle.mesa_columns.specs.mesa_key.Spelling.{IsKey, IsValue, columns_of, key_of, key_spelling, value_spelling}
use Rattle.mesa_columns.proofs.mesa_key.Columns.{begins}
use Rattle.mesa_columns.specs.declared.columns.KeyColumn.{KeyColumn}
use Rattle.mesa_columns.specs.declared.columns.ValueColumn.{ValueColumn}
use Rattle.mesa_columns.specs.declared.rows.Row.{Row}
use Rattle.mesa_columns.specs.Columns.{Columns, aggs_of, chosen, kinds_of}
use Rattle.mesa_fold.specs.Folded.{folded, folded_at, grouped, keys_of, regrouped, rows_of}
use Rattle.mesa_columns.specs.Rows.{AreOf, AreRowsOf, IsRowOf, keys_rise}
use Rattle.mesa_fold.proofs.Forms.{folded_form, row-full, spells_key}
use Rattle.mesa_fold.proofs.Ranges.{ranges_chosen}
use Rattle.mesa_fold.proofs.KeyLifts.{Spells, keys_of-all}
use Rattle.mesa_fold.proofs.RisingRows.{folded_rise}
use Rattle.mesa_columns.proofs.Lists.{all_append, all_map, all_so}

-- each of the rows has a key of these types
abbrev pub AllSpell : List KeyType → List Row → Type 0
AllSpell types rows = AllByRecursion (λ (row : Row). Spells types row.key) rows

-- ---- columns of a key

-- the columns of a spelling are the values' spellings
pub columns_spelled : (types : List KeyType) (key : List KeyValue) → IsKey types key → columns_of types (key_spelling key) ≡ map value_spelling key
columns_spelled [] [] is = refl
columns_spelled [] (v ∷ key) is = absurd is
columns_spelled (t ∷ types) [] is = absurd is
columns_spelled (t ∷ types) (v ∷ key) is =
    let at = begins t v (key_spelling key) is.0 in
    (λ i. at.column i ∷ columns_of types (at.rest i)) ∙ ap (λ rest. value_spelling v ∷ rest) (columns_spelled types key is.1)

pub concat_spelled : (key : List KeyValue) → concat (map value_spelling key) ≡ key_spelling key
concat_spelled [] = refl
concat_spelled (v ∷ key) = ap (λ rest. value_spelling v ++ rest) (concat_spelled key)

-- ---- chosen columns

got_mapped : {A B : Type 0} (f : A → B) (xs : List A) (i : ℕ) → slice_get (map f xs) i ≡ option_map f (slice_get xs i)
got_mapped f [] i = refl
got_mapped f (x ∷ xs) zero = refl
got_mapped f (x ∷ xs) (suc i) = got_mapped f xs i

cons_mapped : {A B : Type 0} (f : A → B) (o : Option A) (xs : List A) → cons_option (option_map f o) (map f xs) ≡ map f (cons_option o xs)
cons_mapped f None xs = refl
cons_mapped f (Some x) xs = refl

pub chosen_mapped : {A B : Type 0} (f : A → B) (places : List ℕ) (xs : List A) → chosen places (map f xs) ≡ map f (chosen places xs)
chosen_mapped f [] xs = refl
chosen_mapped f (place ∷ places) xs = (λ i. cons_option (got_mapped f xs place i) (chosen_mapped f places xs i)) ∙ cons_mapped f (slice_get xs place) (chosen places xs)

-- a place of a key and of its types: nothing stands there in both, or a value of the type
record IsCell (t : KeyType) (v : KeyValue) (types : Option KeyType) (values : Option KeyValue) : Type 0 where
  kind : types ≡ Some t
  value : values ≡ Some v
  fits : IsValue t v

cell : (types : List KeyType) (key : List KeyValue) (place : ℕ) → IsKey types key
    → ((slice_get types place ≡ None) × (slice_get key place ≡ None)) ⊎ ((t : KeyType) × (v : KeyValue) × IsCell t v (slice_get types place) (slice_get key place))
cell [] [] place is = inl (refl, refl)
cell [] (v ∷ key) place is = absurd is
cell (t ∷ types) [] place is = absurd is
cell (t ∷ types) (v ∷ key) zero is = inr (t, v, record { kind = refl; value = refl; fits = is.0 })
cell (t ∷ types) (v ∷ key) (suc place) is = cell types key place is.1

pub chosen_key : (places : List ℕ) (types : List KeyType) (key : List KeyValue) → IsKey types key → IsKey (chosen places types) (chosen places key)
chosen_key [] types key is = tt
chosen_key (place ∷ places) types key is =
    let rest = chosen_key places types key is in
    elim (cell types key place is) as (λ _. IsKey (chosen (place ∷ places) types) (chosen (place ∷ places) key)) [
      | inl none ↦ subst (λ o. IsKey (cons_option o (chosen places types)) (chosen (place ∷ places) key)) (sym none.0) (subst (λ o. IsKey (chosen places types) (cons_option o (chosen places key))) (sym none.1) rest)
      | inr some ↦ subst (λ o. IsKey (cons_option o (chosen places types)) (chosen (place ∷ places) key)) (sym some.2.kind)
          (subst (λ o. IsKey (some.0 ∷ chosen places types) (cons_option o (chosen places key))) (sym some.2.value) (some.2.fits, rest))
    ]

-- ---- grouped rows

regrouped_spells : (s : Columns) (columns values : List ℕ) (row : Row) → Spells (kinds_of s) row.key → Spells (chosen columns (kinds_of s)) (regrouped s columns values row).key
regrouped_spells s columns values row is =
    let types : List KeyType = kinds_of s in
    let key : List KeyValue = key_of types row.key in
    spells_key (chosen columns types) (chosen columns key) (regrouped s columns values row).key (chosen_key columns types key is.key)
    (ap (λ bytes. concat (chosen columns (columns_of types bytes))) (sym is.spelled)
    ∙ ap (λ parts. concat (chosen columns parts)) (columns_spelled types key is.key)
    ∙ ap (λ (parts : List (List ℕ)). concat parts) (chosen_mapped value_spelling columns key) ∙ concat_spelled (chosen columns key))

-- Grouped rows have keys of the group columns' types.
pub grouped_spell : (s : Columns) (columns values : List ℕ) (rows : List Row) → AllSpell (kinds_of s) rows → AllSpell (chosen columns (kinds_of s)) (grouped s columns values rows)
grouped_spell s columns values rows all =
    let types : List KeyType = chosen columns (kinds_of s) in
    let parts : List Row = map (regrouped s columns values) rows ++ [] in
    let each : AllSpell types parts =
    all_append (λ (row : Row). Spells types row.key) (map (regrouped s columns values) rows) [] (all_map (λ (row : Row). Spells types row.key) (regrouped s columns values) rows
    (all_so (λ (row : Row). Spells (kinds_of s) row.key) (λ (row : Row). Spells types (regrouped s columns values row).key) rows (λ row is. regrouped_spells s columns values row is) all)) tt in
    all_map (λ (row : Row). Spells types row.key) (folded_at (chosen values (aggs_of s)) parts) (keys_of parts) (keys_of-all (Spells types) parts each)

-- Rows of the form of some columns have keys of their types.
pub rows_spell : (s : Columns) (rows : List Row) → AreRowsOf s rows → AllSpell (kinds_of s) rows
rows_spell s rows all = all_so (IsRowOf s) (λ (row : Row). Spells (kinds_of s) row.key) rows (λ row is. record { key = is.key; spelled = is.spelled }) all

-- ---- their form

same_options : {A B : Type 0} (o : Option A) (p : Option B) (xs : List A) (ys : List B) → is_some o ≡ is_some p → length xs ≡ length ys → length (cons_option o xs) ≡ length (cons_option p ys)
same_options None None xs ys e f = f
same_options None (Some y) xs ys e f = cc
same_options (Some x) None xs ys e f = cc
same_options (Some x) (Some y) xs ys e f = ap suc f

both_there : {A B : Type 0} (place : ℕ) (xs : List A) (ys : List B) → length xs ≡ length ys → is_some (slice_get xs place) ≡ is_some (slice_get ys place)
both_there place [] [] e = refl
both_there place [] (y ∷ ys) e = absurd (omega (arith, e))
both_there place (x ∷ xs) [] e = absurd (omega (arith, e))
both_there zero (x ∷ xs) (y ∷ ys) e = refl
both_there (suc place) (x ∷ xs) (y ∷ ys) e = both_there place xs ys (omega (arith, e))

-- lists of one length have as many elements at chosen places
chosen_count : {A B : Type 0} (places : List ℕ) (xs : List A) (ys : List B) → length xs ≡ length ys → length (chosen places xs) ≡ length (chosen places ys)
chosen_count [] xs ys e = refl
chosen_count (place ∷ places) xs ys e = same_options (slice_get xs place) (slice_get ys place) (chosen places xs) (chosen places ys) (both_there place xs ys e) (chosen_count places xs ys e)

-- The keys of grouped rows rise.
pub groups_rise : (s : Columns) (columns values : List ℕ) (rows : List Row) → keys_rise (grouped s columns values rows) ≡ true
groups_rise s columns values rows = folded_rise (chosen values (aggs_of s)) (map (regrouped s columns values) rows ∷ [])

-- A row that is regrouped has the form of the columns to which it is.
pub regrouped_form : (s : Columns) (columns values : List ℕ) (row : Row) → IsRowOf s row → IsRowOf (record { keys = chosen columns s.keys; values = chosen values s.values }) (regrouped s columns values row)
regrouped_form s columns values row form =
    let wide : Columns = record { keys = chosen columns s.keys; values = chosen values s.values } in
    let kinds : chosen columns (kinds_of s) ≡ kinds_of wide = chosen_mapped (λ (c : KeyColumn). c.kind) columns s.keys in
    let aggs : chosen values (aggs_of s) ≡ aggs_of wide = chosen_mapped (λ (c : ValueColumn). c.agg) values s.values in
    let spells = subst (λ (types : List KeyType). Spells types (regrouped s columns values row).key) kinds (regrouped_spells s columns values row (record { key = form.key; spelled = form.spelled })) in
    record {
      key = spells.key;
      spelled = spells.spelled;
      values = chosen_count values row.values s.values form.values;
      ranges = subst (λ (gs : List Agg). AreOf gs (chosen values row.values)) aggs (ranges_chosen values (aggs_of s) row.values (row-full s row form) form.ranges);
    }

-- Grouped rows have the form of the columns that they are grouped to.
pub groups_form : (s : Columns) (columns values : List ℕ) (rows : List Row) → AreRowsOf s rows → AreRowsOf (record { keys = chosen columns s.keys; values = chosen values s.values }) (grouped s columns values rows)
groups_form s columns values rows all =
    let wide : Columns = record { keys = chosen columns s.keys; values = chosen values s.values } in
    let aggs : chosen values (aggs_of s) ≡ aggs_of wide = chosen_mapped (λ (c : ValueColumn). c.agg) values s.values in
    let parts : AreRowsOf wide (rows_of (map (regrouped s columns values) rows ∷ [])) =
    all_append (IsRowOf wide) (map (regrouped s columns values) rows) [] (all_map (IsRowOf wide) (regrouped s columns values) rows (all_so (IsRowOf s) (λ (row : Row). IsRowOf wide (regrouped s columns values row)) rows (regrouped_form s columns values) all)) tt in
    subst (λ gs. AreRowsOf wide (folded gs (map (regrouped s columns values) rows ∷ []))) (sym aggs) (folded_form wide (map (regrouped s columns values) rows ∷ []) parts)
