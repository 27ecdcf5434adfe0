-- The names of tables and views, through every command.
use Rattle.std.proofs.Common.{◌≡◌, ℕ, zero, suc, ◌+◌, List, [], ◌∷◌, ◌++◌, map, set, true, false, cond, refl, sym, ◌∙◌, ap, ◌||◌, Option, Some, None, is_none, is_some, slice_get, flat_map, find, option_map, append_assoc}
use Rattle.std.proofs.lemmas.Grind.{flat_map-append}
use Rattle.std.proofs.lemmas.List.{append-nil, map-append}
use Rattle.std.proofs.lemmas.List.Folds.{list_any-append}
use Rattle.mesa_history_spec.specs.mesa_list.Bytes.{same_bytes}
use Rattle.mesa_history_spec.specs.mesa_columns.declared.views.View.{View}
use Rattle.mesa_history_spec.specs.mesa_columns.declared.changes.Change.{Change}
use Rattle.mesa_history_spec.specs.mesa_columns.Names.{has_name, repeated}
use Rattle.mesa_history_spec.specs.mesa_batch.Batch.{Placed}
use Rattle.mesa_history_spec.specs.mesa_model.declared.commands.ViewWords.{ViewWords}
use Rattle.mesa_history_spec.specs.mesa_model.Warehouse.{Store, Table}
use Rattle.mesa_history_spec.specs.mesa_model.WellFormed.{relation_names}
use Rattle.mesa_history_spec.specs.mesa_model.Relations.{Relation, is_taken, relation_from}
use Rattle.mesa_history_spec.specs.mesa_model.Load.{tables_loaded}
use Rattle.mesa_history_spec.specs.mesa_model.Tables.{table_changed}
use Rattle.mesa_history_spec.proofs.mesa_schema.Apart.{apart, apart_insert, unrepeated}
use Rattle.mesa_history_laws.proofs.Moves.{viewed}

-- a table's name and its views'
abbrev pub names_in : Table → List (List ℕ)
names_in t = t.name ∷ map (λ (v : View). v.name) t.lineage.views

abbrev pub names_of : List Table → List (List ℕ)
names_of tables = flat_map names_in tables

-- ---- a name that isn't taken

-- a table's view of a name
abbrev pub view_named : List ℕ → List View → Option View
view_named name views = find (λ (v : View). same_bytes name v.name) views

view_found : {A : Type 0} (name : List ℕ) (f : View → A) (views : List View) → is_some (option_map f (view_named name views)) ≡ has_name name (map (λ (v : View). v.name) views)
view_found name f [] = refl
view_found name f (v ∷ views) = elim (same_bytes name v.name) as (λ b. is_some (option_map f (cond b (Some v) (view_named name views))) ≡ (b || has_name name (map (λ (x : View). x.name) views))) [ true ↦ refl | false ↦ view_found name f views ]

abbrev pub relation_in : ℕ → List ℕ → Table → Option Relation
relation_in number name t = cond (same_bytes name t.name) (Some (record { number = number; table = t; view = None })) (option_map (λ view. record { number = number; table = t; view = Some view }) (view_named name t.lineage.views))

pub in_table : (number : ℕ) (name : List ℕ) (t : Table) → is_some (relation_in number name t) ≡ has_name name (names_in t)
in_table number name t = elim (same_bytes name t.name) as (λ b. is_some {T = Relation} (cond b (Some (record { number = number; table = t; view = None })) (option_map (λ view. record { number = number; table = t; view = Some view }) (view_named name t.lineage.views))) ≡ (b || has_name name (map (λ (v : View). v.name) t.lineage.views))) [
  | true ↦ refl
  | false ↦ view_found name (λ view. record { number = number; table = t; view = Some view }) t.lineage.views
]

-- the first of two
abbrev pub first_of_both : Option Relation → Option Relation → Option Relation
first_of_both o rest = elim o [ None ↦ rest | Some relation ↦ Some relation ]

either : (o rest : Option Relation) → is_some (first_of_both o rest) ≡ (is_some o || is_some rest)
either None rest = refl
either (Some relation) rest = refl

is_found : (number : ℕ) (name : List ℕ) (tables : List Table) → is_some (relation_from number name tables) ≡ has_name name (names_of tables)
is_found number name [] = refl
is_found number name (t ∷ tables) =
    either (relation_in number name t) (relation_from (number + 1) name tables)
    ∙ (λ i. in_table number name t i || is_found (number + 1) name tables i)
    ∙ sym (list_any-append (same_bytes name) (names_in t) (names_of tables))

-- A name is taken where it is one of the names.
pub taken : (s : Store) (name : List ℕ) → is_taken s name ≡ has_name name (relation_names s)
taken s name = is_found 0 name s.tables

-- ---- names after commands

-- A table with a new name.
pub names_pushed : (s : Store) (t : Table) → t.lineage.views ≡ [] → is_taken s t.name ≡ false → is_none (repeated (relation_names s)) ≡ true → is_none (repeated (names_of (s.tables ++ t ∷ []))) ≡ true
names_pushed s t none free h =
    let before : List (List ℕ) = relation_names s in
    let names : names_of (s.tables ++ t ∷ []) ≡ before ++ t.name ∷ [] =
    flat_map-append names_in s.tables (t ∷ []) ∙ ap (λ (views : List View). before ++ ((t.name ∷ map (λ (v : View). v.name) views) ++ [])) none in
    let new : has_name t.name (before ++ []) ≡ false = ap (has_name t.name) (append-nil before) ∙ sym (taken s t.name) ∙ free in
    ap (λ ns. is_none (repeated ns)) names
    ∙ unrepeated [] (before ++ t.name ∷ []) (apart_insert t.name [] before [] refl new (apart [] (before ++ []) (ap (λ ns. is_none (repeated ns)) (append-nil before) ∙ h)))

-- where a view's name stands among the names
record Inserted (name : List ℕ) (before after : List (List ℕ)) : Type 0 where
  front : List (List ℕ)
  back : List (List ℕ)
  was : before ≡ front ++ back
  is : after ≡ front ++ name ∷ back

inserted : (tables : List Table) (number : ℕ) (t : Table) (words : ViewWords) → slice_get tables number ≡ Some t → Inserted words.view (names_of tables) (names_of (set tables number (viewed t words)))
inserted [] number t words at = cc
inserted (x ∷ tables) zero t words at =
    let same : x ≡ t = cc in
    let new : View = record { name = words.view; keys = words.keys; values = words.values } in
    record {
      front = names_in t;
      back = names_of tables;
      was = ap (λ y. names_in y ++ names_of tables) same;
      is = ap (λ names. (t.name ∷ names) ++ names_of tables) (map-append (λ (v : View). v.name) t.lineage.views (new ∷ []))
          ∙ append_assoc (names_in t) (words.view ∷ []) (names_of tables);
    }
inserted (x ∷ tables) (suc number) t words at =
    let rest = inserted tables number t words at in
    record {
      front = names_in x ++ rest.front;
      back = rest.back;
      was = ap (λ names. names_in x ++ names) rest.was ∙ sym (append_assoc (names_in x) rest.front rest.back);
      is = ap (λ names. names_in x ++ names) rest.is ∙ sym (append_assoc (names_in x) rest.front (words.view ∷ rest.back));
    }

-- A view with a new name.
pub names_viewed : (s : Store) (number : ℕ) (t : Table) (words : ViewWords) → slice_get s.tables number ≡ Some t → is_taken s words.view ≡ false → is_none (repeated (relation_names s)) ≡ true
    → is_none (repeated (names_of (set s.tables number (viewed t words)))) ≡ true
names_viewed s number t words at free h =
    let place = inserted s.tables number t words at in
    let new : has_name words.view (place.front ++ place.back) ≡ false = ap (has_name words.view) (sym place.was) ∙ sym (taken s words.view) ∙ free in
    ap (λ ns. is_none (repeated ns)) place.is
    ∙ unrepeated [] (place.front ++ words.view ∷ place.back) (apart_insert words.view [] place.front place.back refl new (apart [] (place.front ++ place.back) (ap (λ ns. is_none (repeated ns)) (sym place.was) ∙ h)))

-- A change leaves the names.
pub names_changed : (tables : List Table) (number : ℕ) (t : Table) (c : Change) → slice_get tables number ≡ Some t → names_of (set tables number (table_changed t c)) ≡ names_of tables
names_changed [] number t c at = refl
names_changed (x ∷ tables) zero t c at = let same : x ≡ t = cc in ap (λ y. names_in y ++ names_of tables) (sym same)
names_changed (x ∷ tables) (suc number) t c at = ap (λ names. names_in x ++ names) (names_changed tables number t c at)

-- A load does.
pub names_loaded : (batch : List Placed) (number : ℕ) (tables : List Table) → names_of (tables_loaded batch number tables) ≡ names_of tables
names_loaded batch number [] = refl
names_loaded batch number (t ∷ tables) = ap (λ names. names_in t ++ names) (names_loaded batch (number + 1) tables)

-- So does whatever leaves each table's names.
pub names_mapped : (f : Table → Table) (tables : List Table) → ((t : Table) → names_in (f t) ≡ names_in t) → names_of (map f tables) ≡ names_of tables
names_mapped f [] same = refl
names_mapped f (t ∷ tables) same = λ i. same t i ++ names_mapped f tables same i

-- So does a table in the place of one with the same names.
pub names_set : (tables : List Table) (number : ℕ) (t other : Table) → slice_get tables number ≡ Some t → names_in other ≡ names_in t → names_of (set tables number other) ≡ names_of tables
names_set [] number t other at same = refl
names_set (x ∷ tables) zero t other at same = (let is : x ≡ t = cc in ap (λ names. names ++ names_of tables) (same ∙ ap names_in (sym is)))
names_set (x ∷ tables) (suc number) t other at same = ap (λ names. names_in x ++ names) (names_set tables number t other at same)
