-- Fields that are written one after the other.
use Rattle.std.proofs.Common.{◌≡◌, ℕ, zero, suc, ◌+◌, ◌<◌, List, [], ◌∷◌, ◌++◌, length, get_or, take, drop, flat_map, refl, sym, ap, subst, ◌∙◌, add-one, append_assoc, append-nil, arith, Bool}
use Rattle.std.specs.Prelude.{IsTrue}
use Rattle.std.specs.List.{AllByRecursion, list_all}
use Rattle.std.proofs.Math.Seq.{drop-cons, drop-length, take-length}
use Rattle.std.proofs.lemmas.List.{take_more}
use Rattle.std.proofs.lemmas.List.Concat.{flat_map-cons}
use Rattle.mesa_file.proofs.mesa_list.Whole.{both, each_push}

-- the bytes so far and those of the fields that are left are those of all
pub record Written {A : Type 0} (spelling : A → List ℕ) (Is : A → Type 0) (fields : List A) (index : ℕ) (before now : List ℕ) : Type 0 where
  pub bytes : now ++ flat_map spelling (drop index fields) ≡ before ++ flat_map spelling fields
  pub typed : AllByRecursion Is (take index fields)

-- a field more
pub one_more : {A : Type 0} (spelling : A → List ℕ) (Is : A → Type 0) (fields : List A) (index : ℕ) (before now after : List ℕ) (field : A)
    → index < length fields → field ≡ get_or fields index field → after ≡ now ++ spelling field → Is field → Written spelling Is fields index before now → Written spelling Is fields (index + 1) before after
one_more spelling Is fields index before now after field within is more typed w =
    let rest = flat_map spelling (drop (index + 1) fields) in
    let left : flat_map spelling (drop index fields) ≡ spelling field ++ rest =
    ap (flat_map spelling) (drop-cons fields index field within ∙ (λ i. sym is i ∷ drop (sym (add-one index) i) fields)) ∙ flat_map-cons spelling field (drop (index + 1) fields) in
    record {
      bytes = ap (λ bytes. bytes ++ rest) more ∙ append_assoc now (spelling field) rest ∙ ap (λ bytes. now ++ bytes) (sym left) ∙ w.bytes;
      typed = subst (AllByRecursion Is) (sym (take_more fields index field within ∙ ap (λ x. take index fields ++ x ∷ []) (sym is))) (each_push Is (take index fields) field w.typed typed);
    }

-- what holds of each field holds of the one at a place
pub each_holds : {A : Type 0} (test : A → Bool) (fields : List A) (index : ℕ) (field : A) → IsTrue (list_all test fields) → index < length fields → field ≡ get_or fields index field → IsTrue (test field)
each_holds test [] index field all within is = absurd (omega arith)
each_holds test (x ∷ xs) zero field all within is = subst (λ y. IsTrue (test y)) (sym is) (both (test x) (list_all test xs) all).0
each_holds test (x ∷ xs) (suc index) field all within is = each_holds test xs index field (both (test x) (list_all test xs) all).1 (omega arith) is

-- no field yet
pub none_yet : {A : Type 0} (spelling : A → List ℕ) (Is : A → Type 0) (fields : List A) (before : List ℕ) → Written spelling Is fields 0 before before
none_yet spelling Is fields before = record { bytes = refl; typed = tt }

-- each field
pub all_written : {A : Type 0} (spelling : A → List ℕ) (Is : A → Type 0) (fields : List A) (index : ℕ) (before now : List ℕ) → index ≡ length fields → Written spelling Is fields index before now
    → (now ≡ before ++ flat_map spelling fields) × AllByRecursion Is fields
all_written spelling Is fields index before now end w = (
  sym (ap (λ left. now ++ flat_map spelling left) (ap (λ n. drop n fields) end ∙ drop-length fields) ∙ append-nil now) ∙ w.bytes,
  subst (AllByRecursion Is) (ap (λ n. take n fields) end ∙ take-length fields) w.typed,
)
