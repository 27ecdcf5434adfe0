-- What a batch brings to the tables, one after the other.
use Rattle.std.proofs.Common.{◌≡◌, ℕ, zero, suc, ◌+◌, ◌-◌, ◌≤◌, ◌<◌, List, [], ◌∷◌, ◌++◌, length, map, take, drop, get_or, set, refl, sym, ◌∙◌, ap, subst, arith, append_assoc, Bool, true, false, cond}
use Rattle.std.specs.Prelude.{◌==◌, Option, Some, None, option_map, find, slice_get, IfSome, position}
use Rattle.std.specs.List.{AllByRecursion, position_from, remove}
use Rattle.std.proofs.lemmas.Bool.Decides.{nat_tests}
use Rattle.std.proofs.lemmas.Iterator.Adapters.{position_from-zero}
use Rattle.std.proofs.lemmas.List.{drop-drop, drop-set-lt, drop_more, map_push, take_more_set}
use Rattle.std.proofs.lemmas.Option.{slice_get-get_or}
use Rattle.mesa_table_records.specs.mesa_record.declared.record.Part.{Part}
use Rattle.mesa_table_records.specs.mesa_store_spec.Catalog.{part_of, meta_loaded, metas_loaded}
use Rattle.mesa_table_records.specs.mesa_catalog_table.declared.table.Table.{Table}
use Rattle.mesa_table_records.specs.declared.ready.ReadyPart.{ReadyPart}
use Rattle.mesa_table_records.specs.mesa_catalog_table.Meaning.{IsTable, meta_of}
use Rattle.mesa_table_records.specs.Readied.{IsPartOf, is_part_of}
use Rattle.mesa_catalog_records.proofs.TableMetas.{all_pushed}

-- ---- the first part of a table

found_from : {X : Type 0} (p : X → Bool) (n : ℕ) (xs : List X) (i : ℕ) → position_from p n xs ≡ Some i → (n ≤ i) × (find p xs ≡ slice_get xs (i - n))
found_from p n [] i e = absurd (cc)
found_from p n (x ∷ xs) i e =
    elim (p x) as (λ b. cond b (Some n) (position_from p (n + 1) xs) ≡ Some i → (n ≤ i) × (cond b (Some x) (find p xs) ≡ slice_get (x ∷ xs) (i - n))) [
      | true ↦ λ f. let same : n ≡ i = cc in let none : i - n ≡ 0 = omega arith in (omega arith, ap (slice_get (x ∷ xs)) (sym none))
      | false ↦ λ f.
          let rest = found_from p (n + 1) xs i f in
          let least : n + 1 ≤ i = rest.0 in
          let one : suc (i - (n + 1)) ≡ i - n = omega arith in
          (omega arith, rest.1 ∙ ap (slice_get (x ∷ xs)) one)
    ] e

pub found_at : {X : Type 0} (p : X → Bool) (xs : List X) (i : ℕ) → position p xs ≡ Some i → find p xs ≡ slice_get xs i
found_at p xs i e = let whole : i - 0 ≡ i = omega arith in (found_from p 0 xs i (sym (position_from-zero p xs) ∙ e)).1 ∙ ap (slice_get xs) whole

none_from : {X : Type 0} (p : X → Bool) (n : ℕ) (xs : List X) → position_from p n xs ≡ None → find p xs ≡ None
none_from p n [] e = refl
none_from p n (x ∷ xs) e =
    elim (p x) as (λ b. cond b (Some n) (position_from p (n + 1) xs) ≡ None → cond b (Some x) (find p xs) ≡ None) [
      | true ↦ λ f. absurd (cc)
      | false ↦ λ f. none_from p (n + 1) xs f
    ] e

pub found_nowhere : {X : Type 0} (p : X → Bool) (xs : List X) → position p xs ≡ None → find p xs ≡ None
found_nowhere p xs e = none_from p 0 xs (sym (position_from-zero p xs) ∙ e)

-- taking out what doesn't pass changes nothing
pub find_without : {X : Type 0} (p : X → Bool) (xs : List X) (i : ℕ) (d : X) → i < length xs → p (get_or xs i d) ≡ false → find p (remove xs i) ≡ find p xs
find_without p [] i d h e = absurd (omega arith)
find_without p (x ∷ xs) zero d h e = sym (ap (λ b. cond b (Some x) (find p xs)) e)
find_without p (x ∷ xs) (suc i) d h e = ap (cond (p x) (Some x)) (find_without p xs i d (omega arith) e)

pub found_passes : {X : Type 0} (p : X → Bool) (xs : List X) (x : X) → find p xs ≡ Some x → p x ≡ true
found_passes p [] x e = absurd (cc)
found_passes p (y ∷ ys) x e =
    elim (p y) as (λ b. p y ≡ b → cond b (Some y) (find p ys) ≡ Some x → p x ≡ true) [
      | true ↦ λ passes f. let same : y ≡ x = cc in ap p (sym same) ∙ passes
      | false ↦ λ _ f. found_passes p ys x f
    ] refl e

pub find_mapped : {X Y : Type 0} (p : Y → Bool) (f : X → Y) (xs : List X) → find p (map f xs) ≡ option_map f (find (λ x. p (f x)) xs)
find_mapped p f [] = refl
find_mapped p f (x ∷ xs) = elim (p (f x)) as (λ b. cond b (Some (f x)) (find p (map f xs)) ≡ option_map f (cond b (Some x) (find (λ y. p (f y)) xs))) [ true ↦ refl | false ↦ find_mapped p f xs ]

pub found_holds : {X : Type 0} (P : X → Type 0) (p : X → Bool) (xs : List X) (x : X) → AllByRecursion P xs → find p xs ≡ Some x → P x
found_holds P p [] x all e = absurd (cc)
found_holds P p (y ∷ ys) x all e =
    elim (p y) as (λ b. cond b (Some y) (find p ys) ≡ Some x → P x) [
      | true ↦ λ f. let same : y ≡ x = cc in subst P same all.0
      | false ↦ λ f. found_holds P p ys x all.1 f
    ] e

-- ---- the tables

-- The tables before a number have what the version brings, and those from it on are as they were.
pub record AreLoading (version : ℕ) (parts : List Part) (old now : List Table) (number : ℕ) : Type 0 where
  pub done : map (meta_of (version + 1)) (take number now) ++ metas_loaded parts number (map (meta_of version) (drop number old)) ≡ metas_loaded parts 0 (map (meta_of version) old)
  pub rest : drop number now ≡ drop number old
  pub are : AllByRecursion (IsTable (version + 1)) (take number now)

pub loads_begin : (version : ℕ) (parts : List Part) (old : List Table) → AreLoading version parts old old 0
loads_begin version parts old = record { done = refl; rest = refl; are = tt }

pub loads_step : (version : ℕ) (parts : List Part) (old now : List Table) (number : ℕ) (t new : Table) → number < length now → get_or now number t ≡ t
    → meta_of (version + 1) new ≡ meta_loaded (meta_of version t) (part_of number parts) → IsTable (version + 1) new
    → AreLoading version parts old now number → AreLoading version parts old (set now number new) (number + 1)
loads_step version parts old now number t new h here is table loading =
    let f = meta_of (version + 1) in
    let g = meta_of version in
    let before = take_more_set now number new h in
    let cut : drop number old ≡ t ∷ drop (number + 1) now = sym loading.rest ∙ drop_more now number t h ∙ ap (λ x. x ∷ drop (number + 1) now) here in
    let rest : drop (number + 1) now ≡ drop (number + 1) old = sym (drop-drop 1 number now) ∙ ap (drop 1) loading.rest ∙ drop-drop 1 number old in
    let later = metas_loaded parts (number + 1) (map g (drop (number + 1) old)) in
    let one : metas_loaded parts number (map g (drop number old)) ≡ f new ∷ later =
    ap (λ ts. metas_loaded parts number (map g ts)) cut
    ∙ (λ i. sym is i ∷ metas_loaded parts (number + 1) (map g (rest i))) in
    record {
      done =
          ap (λ ts. map f ts ++ later) before ∙ ap (λ xs. xs ++ later) (map_push f (take number now) new)
          ∙ append_assoc (map f (take number now)) (f new ∷ []) later ∙ ap (λ xs. map f (take number now) ++ xs) (sym one) ∙ loading.done;
      rest = drop-set-lt (number + 1) now number new (omega arith) ∙ rest;
      are = subst (AllByRecursion (IsTable (version + 1))) (sym before) (all_pushed (IsTable (version + 1)) (take number now) new loading.are table);
    }

head_same : {X : Type 0} (n : ℕ) (xs ys : List X) (d : X) → n < length xs → n < length ys → drop n xs ≡ drop n ys → get_or xs n d ≡ get_or ys n d
head_same n xs ys d h k e = sym (ap (λ zs. get_or zs 0 d) (drop_more xs n d h)) ∙ ap (λ zs. get_or zs 0 d) e ∙ ap (λ zs. get_or zs 0 d) (drop_more ys n d k)

-- the part of a table is made for it, also where others were loaded before
pub part_here : (old now : List Table) (parts : List ReadyPart) (number : ℕ) (d : Table) (found : Option ReadyPart) → AllByRecursion (λ (p : ReadyPart). IfSome (slice_get old p.table) (λ t. IsPartOf t p)) parts
    → found ≡ find (is_part_of number) parts → number < length now → length now ≡ length old → drop number now ≡ drop number old → IfSome found (IsPartOf (get_or now number d))
part_here old now parts number d None all e h same rest = tt
part_here old now parts number d (Some p) all e h same rest =
    let made = found_holds (λ (q : ReadyPart). IfSome (slice_get old q.table) (λ t. IsPartOf t q)) (is_part_of number) parts p all (sym e) in
    let test : (p.table == number) ≡ true = found_passes (is_part_of number) parts p (sym e) in
    let at : p.table ≡ number = grind (arith, nat_tests) in
    let within : number < length old = omega arith in
    let is = ap (slice_get old) at ∙ slice_get-get_or old number d within ∙ ap Some (sym (head_same number now old d h within rest)) in
    subst (λ o. IfSome o (λ t. IsPartOf t p)) is made
