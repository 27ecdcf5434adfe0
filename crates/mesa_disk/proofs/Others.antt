-- What adopting and removing files leaves of an image.
use Rattle.std.proofs.Common.{◌≡◌, ◌≢◌, inl, inr, ⊎_elim, ℕ, List, [], ◌∷◌, Option, Some, None, cond, Bool, true, false, refl, sym, ◌∙◌, ap}
use Rattle.std.specs.Ordering.{nat_cmp, eq_by_cmp}
use Rattle.std.specs.FinMap.{get-insert, get-remove}
use Rattle.std.specs.Cmp.{nat_cmp_total, eq_by_cmp_equiv}
use Rattle.mesa_disk.specs.Image.{Image, with_file, without_file, file_of, Adopts, Loses, May, InArea}
use Rattle.mesa_disk.specs.Files.{AddsAll, AddsSome, AddsFirst, LosesAll, LosesSome, LosesFirst, HasOtherIds, HasDistinctIds, OthersStay, AreThere, IsNoneOf, AreGone}
use Rattle.mesa_disk.specs.declared.area.Area.{Area}
use Rattle.mesa_disk.specs.declared.area.Area.TheVariants.{Zero, One}
use Rattle.mesa_disk.proofs.Rounds.{other_file, not_equal, each, first_some}

-- ---- one file

nat_tied : (n : ℕ) → eq_by_cmp nat_cmp n n ≡ true
nat_tied n = (eq_by_cmp_equiv nat_cmp_total).refl n

-- the file that was put there
pub own_file : (id : ℕ) (bytes : List ℕ) (i : Image) → file_of (with_file id bytes i) id ≡ Some bytes
own_file id bytes i = get-insert nat_cmp_total i.files id bytes id ∙ ap (λ b. cond b (Some bytes) (file_of i id)) (nat_tied id)

without_any : (id q : ℕ) (i : Image) → file_of (without_file id i) q ≡ cond (eq_by_cmp nat_cmp q id) None (file_of i q)
without_any id q i = get-remove nat_cmp_total i.files id q

-- the file that was taken away
pub no_file : (id : ℕ) (i : Image) → file_of (without_file id i) id ≡ None
no_file id i = without_any id id i ∙ ap (λ b. cond b None (file_of i id)) (nat_tied id)

pub other_than_lost : (id q : ℕ) (i j : Image) → q ≢ id → Loses id i j → file_of j q ≡ file_of i q
other_than_lost id q i j other is = ap (λ (k : Image). file_of k q) is ∙ without_any id q i ∙ ap (λ b. cond b None (file_of i q)) (not_equal q id other)

none_either : (b : Bool) (o : Option (List ℕ)) → o ≡ None → cond b None o ≡ None
none_either true o none = refl
none_either false o none = none

-- ---- others

pub others_same : (P : ℕ → Type 0) (i j : Image) → j ≡ i → OthersStay P i j
others_same P i j same = record { zero = ap (λ (k : Image). k.zero) same; one = ap (λ (k : Image). k.one) same; files = λ id other. ap (λ (k : Image). file_of k id) same }

pub others_again : (P : ℕ → Type 0) (i j k : Image) → OthersStay P i j → OthersStay P j k → OthersStay P i k
others_again P i j k first next = record { zero = next.zero ∙ first.zero; one = next.one ∙ first.one; files = λ id other. next.files id other ∙ first.files id other }

pub others_fewer : (P Q : ℕ → Type 0) (i j : Image) → ((id : ℕ) → Q id → P id) → OthersStay P i j → OthersStay Q i j
others_fewer P Q i j fewer stay = record { zero = stay.zero; one = stay.one; files = λ id other. stay.files id (fewer id other) }

-- a step that is done or not
others_may : {A : Type 0} (step : A → Image → Image → Type 0) (x : A) (P : ℕ → Type 0) (i j : Image) → (step x i j → OthersStay P i j) → May step x i j → OthersStay P i j
others_may step x P i j done (inl same) = others_same P i j same
others_may step x P i j done (inr is) = done is

pub others_adopted : (file : ℕ × Option (List ℕ)) (i j : Image) → Adopts file i j → OthersStay (λ id. file.0 ≢ id) i j
others_adopted file i j is = record {
  zero = ap (λ (k : Image). k.zero) is.same;
  one = ap (λ (k : Image). k.one) is.same;
  files = λ id other. other_file file.0 id file.1 i j (λ same. other (sym same)) is;
}

pub others_lost : (gone : ℕ) (i j : Image) → Loses gone i j → OthersStay (λ id. gone ≢ id) i j
others_lost gone i j is = record {
  zero = ap (λ (k : Image). k.zero) is;
  one = ap (λ (k : Image). k.one) is;
  files = λ id other. other_than_lost gone id i j (λ same. other (sym same)) is;
}

-- ---- adoptions

pub adds_only : (files : List (ℕ × Option (List ℕ))) (i j : Image) → AddsSome files i j → OthersStay (λ id. HasOtherIds id files) i j
adds_only [] i j run = others_same (λ id. HasOtherIds id []) i j run
adds_only (file ∷ files) i j run =
    let P = λ (id : ℕ). HasOtherIds id (file ∷ files) in
    others_again P i run.0 j
    (others_may Adopts file P i run.0 (λ is. others_fewer (λ id. file.0 ≢ id) P i run.0 (λ id other. other.0) (others_adopted file i run.0 is)) run.1)
    (others_fewer (λ id. HasOtherIds id files) P run.0 j (λ id other. other.1) (adds_only files run.0 j run.2))

pub adds_first_only : (files : List (ℕ × Option (List ℕ))) (i j : Image) → AddsFirst files i j → OthersStay (λ id. HasOtherIds id files) i j
adds_first_only files i j run = adds_only files i j (first_some Adopts files i j run)

pub adds_there : (files : List (ℕ × Option (List ℕ))) (i j : Image) → HasDistinctIds files → AddsAll files i j → AreThere files j
adds_there [] i j distinct run = tt
adds_there (file ∷ files) i j distinct run =
    let step : Adopts file i run.0 = run.1 in
    let put : file_of run.0 file.0 ≡ Some step.bytes = ap (λ (k : Image). file_of k file.0) step.same ∙ own_file file.0 step.bytes i in
    let stays = (adds_only files run.0 j (each Adopts (May Adopts) (λ x k l is. inr is) files run.0 j run.2)).files file.0 distinct.0 in
    ((step.bytes, stays ∙ put, step.told), adds_there files run.0 j distinct.1 run.2)

-- ---- removals

pub loses_only : (ids : List ℕ) (i j : Image) → LosesSome ids i j → OthersStay (IsNoneOf ids) i j
loses_only [] i j run = others_same (IsNoneOf []) i j run
loses_only (gone ∷ ids) i j run =
    let P = IsNoneOf (gone ∷ ids) in
    others_again P i run.0 j
    (others_may Loses gone P i run.0 (λ is. others_fewer (λ id. gone ≢ id) P i run.0 (λ id other. other.0) (others_lost gone i run.0 is)) run.1)
    (others_fewer (IsNoneOf ids) P run.0 j (λ id other. other.1) (loses_only ids run.0 j run.2))

pub loses_first_only : (ids : List ℕ) (i j : Image) → LosesFirst ids i j → OthersStay (IsNoneOf ids) i j
loses_first_only ids i j run = loses_only ids i j (first_some Loses ids i j run)

-- what isn't there stays away
pub loses_none : (ids : List ℕ) (i j : Image) → LosesSome ids i j → (id : ℕ) → file_of i id ≡ None → file_of j id ≡ None
loses_none [] i j run id none = ap (λ (k : Image). file_of k id) run ∙ none
loses_none (gone ∷ ids) i j run id none =
    loses_none ids run.0 j run.2 id
    (⊎_elim (λ same. ap (λ (k : Image). file_of k id) same ∙ none) (λ is. ap (λ (k : Image). file_of k id) is ∙ without_any gone id i ∙ none_either (eq_by_cmp nat_cmp id gone) (file_of i id) none) run.1)

pub loses_gone : (ids : List ℕ) (i j : Image) → LosesAll ids i j → AreGone ids j
loses_gone [] i j run = tt
loses_gone (gone ∷ ids) i j run =
    (loses_none ids run.0 j (each Loses (May Loses) (λ x k l is. inr is) ids run.0 j run.2) gone (ap (λ (k : Image). file_of k gone) run.1 ∙ no_file gone i), loses_gone ids run.0 j run.2)

-- ---- a change of an area

pub area_others : (area : Area) (step : List ℕ → List ℕ → Type 0) (i j : Image) → InArea area step i j → (id : ℕ) → file_of j id ≡ file_of i id
area_others Zero step i j is id = ap (λ (k : Image). file_of k id) is.same
area_others One step i j is id = ap (λ (k : Image). file_of k id) is.same
