-- A relation's name keeps its table and its view.
use Rattle.std.proofs.Common.{◌≡◌, ℕ, zero, suc, ◌+◌, List, [], ◌∷◌, ◌++◌, refl, sym, ◌∙◌, ap, subst, arith, Bool, true, false, cond, ◌||◌, Option, Some, None, is_none, is_some, slice_get, option_map, inl, inr}
use Rattle.std.proofs.lemmas.Bool.{or_cases, or_left, or_right}
use Rattle.std.proofs.lemmas.Cmp.{nat_list_eq_equiv}
use Rattle.std.proofs.lemmas.List.Folds.{list_any-append}
use Rattle.mesa_history_spec.specs.mesa_list.Bytes.{same_bytes}
use Rattle.mesa_history_spec.specs.mesa_columns.declared.views.View.{View}
use Rattle.mesa_history_spec.specs.mesa_columns.Names.{has_name, repeated}
use Rattle.mesa_history_spec.specs.mesa_model.Warehouse.{Store, Table}
use Rattle.mesa_history_spec.specs.mesa_model.WellFormed.{relation_names}
use Rattle.mesa_history_spec.specs.mesa_model.Relations.{Relation, relation_from, relation_of}
use Rattle.mesa_history_spec.proofs.mesa_schema.Apart.{Apart, apart, is_nothing, not_some}
use Rattle.mesa_history_laws.proofs.RelationNames.{first_of_both, in_table, names_in, names_of, relation_in, view_named}

-- ---- names that stand apart

-- the same names are there of two that are the same
same_there : (a b : List ℕ) (names : List (List ℕ)) → same_bytes a b ≡ true → has_name a names ≡ has_name b names
same_there a b [] same = refl
same_there a b (name ∷ names) same = λ i. nat_list_eq_equiv.congr a b name same i || same_there a b names same i

not_both : (b : Bool) → b ≡ true → b ≡ false → ⊥
not_both b is isnt = cc

is_not : (b : Bool) → (b ≡ true → ⊥) → b ≡ false
is_not true isnt = absurd (isnt refl)
is_not false isnt = refl

-- a name that comes later is none of those before
not_seen : (q : List ℕ) (seen names : List (List ℕ)) → Apart seen names → has_name q names ≡ true → has_name q seen ≡ true → ⊥
not_seen q seen [] apart there was = cc
not_seen q seen (name ∷ names) apart there was = elim (or_cases (same_bytes q name) (has_name q names) there) as (λ _. ⊥) [
  | inl first ↦ not_both (has_name name seen) (sym (same_there q name seen first) ∙ was) apart.0
  | inr later ↦ not_seen q (name ∷ seen) names apart.1 later (or_right (same_bytes q name) (has_name q seen) was)
]

in_back : (q : List ℕ) (xs ys : List (List ℕ)) → has_name q ys ≡ true → has_name q (xs ++ ys) ≡ true
in_back q xs ys there = list_any-append (same_bytes q) xs ys ∙ or_right (has_name q xs) (has_name q ys) there

in_front : (q : List ℕ) (xs ys : List (List ℕ)) → has_name q xs ≡ true → has_name q (xs ++ ys) ≡ true
in_front q xs ys there = list_any-append (same_bytes q) xs ys ∙ or_left (has_name q xs) (has_name q ys) there

not_in_front : (q : List ℕ) (seen xs ys : List (List ℕ)) → Apart seen (xs ++ ys) → has_name q ys ≡ true → has_name q xs ≡ true → ⊥
not_in_front q seen [] ys apart there was = cc
not_in_front q seen (x ∷ xs) ys apart there was = elim (or_cases (same_bytes q x) (has_name q xs) was) as (λ _. ⊥) [
  | inl first ↦ not_seen q (x ∷ seen) (xs ++ ys) apart.1 (in_back q xs ys there) (or_left (same_bytes q x) (has_name q seen) first)
  | inr later ↦ not_in_front q (x ∷ seen) xs ys apart.1 there later
]

apart_back : (seen xs ys : List (List ℕ)) → Apart seen (xs ++ ys) → (others : List (List ℕ)) × Apart others ys
apart_back seen [] ys apart = (seen, apart)
apart_back seen (x ∷ xs) ys apart = apart_back (x ∷ seen) xs ys apart.1

-- ---- the table of a name

among : (name : List ℕ) (tables : List Table) (i : ℕ) (t : Table) → slice_get tables i ≡ Some t → has_name name (names_in t) ≡ true → has_name name (names_of tables) ≡ true
among name [] i t at there = cc
among name (x ∷ tables) zero t at there =
    let same : x ≡ t = cc in
    in_front name (names_in x) (names_of tables) (subst (λ y. has_name name (names_in y) ≡ true) (sym same) there)
among name (x ∷ tables) (suc i) t at there = in_back name (names_in x) (names_of tables) (among name tables i t at there)

first_some : (o rest : Option Relation) → is_some o ≡ true → first_of_both o rest ≡ o
first_some None rest is = cc
first_some (Some relation) rest is = refl

-- where no name is repeated, a name of a table is found in it
found_at : (n : ℕ) (name : List ℕ) (tables : List Table) (i : ℕ) (t : Table) (seen : List (List ℕ)) → Apart seen (names_of tables) → slice_get tables i ≡ Some t → has_name name (names_in t) ≡ true
    → relation_from n name tables ≡ relation_in (n + i) name t
found_at n name [] i t seen apart at there = cc
found_at n name (x ∷ tables) zero t seen apart at there =
    let same : x ≡ t = cc in
    let place : n ≡ n + 0 = omega arith in
    first_some (relation_in n name x) (relation_from (n + 1) name tables) (in_table n name x ∙ subst (λ y. has_name name (names_in y) ≡ true) (sym same) there)
    ∙ (λ i. relation_in (place i) name (same i))
found_at n name (x ∷ tables) (suc i) t seen apart at there =
    let later : has_name name (names_of tables) ≡ true = among name tables i t at there in
    let none : relation_in n name x ≡ None = is_nothing (relation_in n name x) (not_some (relation_in n name x) (in_table n name x ∙ is_not (has_name name (names_in x)) (not_in_front name seen (names_in x) (names_of tables) apart later))) in
    let rest = apart_back seen (names_in x) (names_of tables) apart in
    let place : n + 1 + i ≡ n + suc i = omega arith in
    ap (λ o. first_of_both o (relation_from (n + 1) name tables)) none ∙ found_at (n + 1) name tables i t rest.0 rest.1 at there ∙ ap (λ k. relation_in k name t) place

-- the table in which a relation was found
record IsIn (n : ℕ) (name : List ℕ) (tables : List Table) (r : Relation) : Type 0 where
  i : ℕ
  at : slice_get tables i ≡ Some r.table
  number : r.number ≡ n + i
  found : relation_in (n + i) name r.table ≡ Some r

abbrev with_view : ℕ → Table → View → Relation
with_view number t view = record { number = number; table = t; view = Some view }

view_of : (number : ℕ) (t : Table) (o : Option View) (r : Relation) → option_map (with_view number t) o ≡ Some r → (r.number ≡ number) × (t ≡ r.table)
view_of number t None r e = cc
view_of number t (Some view) r e = (let same : with_view number t view ≡ r = cc in (ap (λ (x : Relation). x.number) (sym same), ap (λ (x : Relation). x.table) same))

its_table : (number : ℕ) (name : List ℕ) (t : Table) (r : Relation) → relation_in number name t ≡ Some r → (r.number ≡ number) × (t ≡ r.table)
its_table number name t r = elim (same_bytes name t.name) as (λ b. cond b (Some (record { number = number; table = t; view = None })) (option_map (with_view number t) (view_named name t.lineage.views)) ≡ Some r → (r.number ≡ number) × (t ≡ r.table)) [
  | true ↦ λ e. (let same : record { number = number; table = t; view = None } ≡ r = cc in (ap (λ (x : Relation). x.number) (sym same), ap (λ (x : Relation). x.table) same))
  | false ↦ λ e. view_of number t (view_named name t.lineage.views) r e
]

is_in : (n : ℕ) (name : List ℕ) (tables : List Table) (r : Relation) → relation_from n name tables ≡ Some r → IsIn n name tables r
is_in n name [] r e = cc
is_in n name (t ∷ tables) r e = elim (relation_in n name t) as (λ o. relation_in n name t ≡ o → first_of_both o (relation_from (n + 1) name tables) ≡ Some r → IsIn n name (t ∷ tables) r) [
  | None ↦ λ none e.
      let rest = is_in (n + 1) name tables r e in
      let i : ℕ = rest.i in
      let count = rest.number in
      let place : n + 1 + i ≡ n + suc i = omega arith in
      record { i = suc i; at = rest.at; number = omega (arith, count); found = ap (λ k. relation_in k name r.table) (sym place) ∙ rest.found }
  | Some relation ↦ λ some e.
      let of = its_table n name t r (some ∙ e) in
      let count = of.0 in
      let place : n ≡ n + 0 = omega arith in
      record { i = 0; at = ap Some of.1; number = omega (arith, count); found = (λ i. relation_in (sym place i) name (sym of.1 i)) ∙ some ∙ e }
] refl e

-- A relation that is found is of the table of its number.
pub relation_there : (s : Store) (name : List ℕ) (r : Relation) → relation_of s name ≡ Some r → slice_get s.tables r.number ≡ Some r.table
relation_there s name r e =
    let is = is_in 0 name s.tables r e in
    let count = is.number in
    let same : is.i ≡ r.number = omega (arith, count) in
    subst (λ n. slice_get s.tables n ≡ Some r.table) same is.at

-- ---- a relation later on

view_still : (name : List ℕ) (views more : List View) (view : View) → view_named name views ≡ Some view → view_named name (views ++ more) ≡ Some view
view_still name [] more view e = cc
view_still name (v ∷ views) more view e = elim (same_bytes name v.name) as (λ b. cond b (Some v) (view_named name views) ≡ Some view → cond b (Some v) (view_named name (views ++ more)) ≡ Some view) [
  | true ↦ λ e. e
  | false ↦ λ e. view_still name views more view e
] e

-- the same relation of a table with more views
still_in : (number : ℕ) (name : List ℕ) (t later : Table) (more : List View) (r : Relation) → later.name ≡ t.name → later.lineage.views ≡ t.lineage.views ++ more → relation_in number name t ≡ Some r
    → relation_in number name later ≡ Some (record r { table = later })
still_in number name t later more r named views =
    elim (same_bytes name t.name) as (λ b. same_bytes name t.name ≡ b → cond b (Some (record { number = number; table = t; view = None })) (option_map (with_view number t) (view_named name t.lineage.views)) ≡ Some r
    → relation_in number name later ≡ Some (record r { table = later })) [
      | true ↦ λ is e.
          let same : record { number = number; table = t; view = None } ≡ r = cc in
          ap (λ b. cond b (Some (record { number = number; table = later; view = None })) (option_map (with_view number later) (view_named name later.lineage.views))) (ap (same_bytes name) named ∙ is)
          ∙ ap (λ (x : Relation). Some (record x { table = later })) same
      | false ↦ λ is e.
          ap (λ b. cond b (Some (record { number = number; table = later; view = None })) (option_map (with_view number later) (view_named name later.lineage.views))) (ap (same_bytes name) named ∙ is)
          ∙ of_view (view_named name t.lineage.views) refl e
    ] refl
  where
    of_view : (o : Option View) → view_named name t.lineage.views ≡ o → option_map (with_view number t) o ≡ Some r → option_map (with_view number later) (view_named name later.lineage.views) ≡ Some (record r { table = later })
    of_view None is e = cc
    of_view (Some view) is e =
        let same : with_view number t view ≡ r = cc in
        ap (λ o. option_map (with_view number later) o) (ap (view_named name) views ∙ view_still name t.lineage.views more view is) ∙ ap (λ (x : Relation). Some (record x { table = later })) same

-- A relation's name keeps its table and its view, where the table has kept its name and its views.
pub relation_later : (s now : Store) (name : List ℕ) (r : Relation) (later : Table) (more : List View) → relation_of s name ≡ Some r → is_none (repeated (relation_names now)) ≡ true
    → slice_get now.tables r.number ≡ Some later → later.name ≡ r.table.name → later.lineage.views ≡ r.table.lineage.views ++ more → relation_of now name ≡ Some (record r { table = later })
relation_later s now name r later more found names at named views =
    let is = is_in 0 name s.tables r found in
    let count = is.number in
    let same : r.number ≡ 0 + is.i = omega (arith, count) in
    let own : relation_in r.number name r.table ≡ Some r = ap (λ k. relation_in k name r.table) same ∙ is.found in
    let still : relation_in r.number name later ≡ Some (record r { table = later }) = still_in r.number name r.table later more r named views own in
    let there : has_name name (names_in later) ≡ true = sym (in_table r.number name later) ∙ ap is_some still in
    let place : 0 + r.number ≡ r.number = omega arith in
    found_at 0 name now.tables r.number later [] (apart [] (names_of now.tables) names) at there ∙ ap (λ k. relation_in k name later) place ∙ still
