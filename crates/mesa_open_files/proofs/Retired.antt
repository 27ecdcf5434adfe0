-- Readers that are given back one after another.
use Rattle.std.proofs.Common.{◌≡◌, ℕ, ◌≤◌, List, [], ◌∷◌, ◌++◌, refl, sym, ap, subst, ◌∙◌, arith, append_assoc, append-nil}
use Rattle.std.specs.List.{AllByRecursion}
use Rattle.mesa_scan.specs.mesa_io.Causes.{Rose}
use Rattle.mesa_disk.specs.Story.{Story}
use Rattle.mesa_delta.specs.declared.input.Input.{Input}
use Rattle.mesa_open_files.specs.GivingBack.{GivesBack}

pub all_append : {A : Type 0} (P : A → Type 0) (xs ys : List A) → AllByRecursion P xs → AllByRecursion P ys → AllByRecursion P (xs ++ ys)
all_append P [] ys a b = b
all_append P (x ∷ xs) ys a b = (a.0, all_append P xs ys a.1 b)

pub all_front : {A : Type 0} (P : A → Type 0) (xs ys : List A) → AllByRecursion P (xs ++ ys) → AllByRecursion P xs
all_front P [] ys a = tt
all_front P (x ∷ xs) ys a = (a.0, all_front P xs ys a.1)

pub all_back : {A : Type 0} (P : A → Type 0) (xs ys : List A) → AllByRecursion P (xs ++ ys) → AllByRecursion P ys
all_back P [] ys a = a
all_back P (x ∷ xs) ys a = all_back P xs ys a.1

pub all_map : {A : Type 0} (P Q : A → Type 0) (xs : List A) → ((x : A) → P x → Q x) → AllByRecursion P xs → AllByRecursion Q xs
all_map P Q [] f a = tt
all_map P Q (x ∷ xs) f a = (f x a.0, all_map P Q xs f a.1)

pub rose_more : (a b d : ℕ) → Rose a b → b ≤ d → Rose a d
rose_more a b d one more = omega (arith, one, more)

pub rose_later : (a b d : ℕ) → a ≤ b → Rose b d → Rose a d
rose_later a b d later one = omega (arith, later, one)

-- Those at the end of a list were given back, and these are left.
pub record HaveGiven {A R : Type 0} (inputs_of : List A → List (Input R)) (faults : R → ℕ) (all left : List A) (old new : Story) : Type 0 where
  pub given : List A
  pub split : all ≡ left ++ given
  pub back : GivesBack faults (inputs_of given) old new

module _ {R : Type 0} (faults : R → ℕ) where
  pub given_none : (s : Story) → GivesBack faults [] s s
  given_none s = record { calls = refl; later = omega arith; counted = tt; quiet = λ none. refl }

  -- the readers of one list, after those behind it
  pub given_after : (xs ys : List (Input R)) (a b d : Story) → GivesBack faults ys a b → GivesBack faults xs b d → GivesBack faults (xs ++ ys) a d
  given_after xs ys a b d one two = record {
    calls = two.calls ∙ one.calls;
    later = omega (arith, one.later, two.later);
    counted = all_append _ xs ys
        (all_map _ _ xs (λ (i : Input R) h failed. rose_later a.read_faults b.read_faults d.read_faults one.later (h failed)) two.counted)
        (all_map _ _ ys (λ (i : Input R) h failed. rose_more a.read_faults b.read_faults d.read_faults (h failed) two.later) one.counted);
    quiet = λ none. two.quiet (all_front _ xs ys none) ∙ one.quiet (all_back _ xs ys none);
  }

  -- the readers of one list, and then those behind it
  pub given_both : (xs ys : List (Input R)) (a b d : Story) → GivesBack faults xs a b → GivesBack faults ys b d → GivesBack faults (xs ++ ys) a d
  given_both xs ys a b d one two = record {
    calls = two.calls ∙ one.calls;
    later = omega (arith, one.later, two.later);
    counted = all_append _ xs ys
        (all_map _ _ xs (λ (i : Input R) h failed. rose_more a.read_faults b.read_faults d.read_faults (h failed) two.later) one.counted)
        (all_map _ _ ys (λ (i : Input R) h failed. rose_later a.read_faults b.read_faults d.read_faults one.later (h failed)) two.counted);
    quiet = λ none. two.quiet (all_back _ xs ys none) ∙ one.quiet (all_front _ xs ys none);
  }

  module _ {A : Type 0} (inputs_of : List A → List (Input R)) where
    pub given_nothing : (all : List A) (s : Story) → inputs_of [] ≡ [] → HaveGiven inputs_of faults all all s s
    given_nothing all s none = record { given = []; split = sym (append-nil all); back = subst (λ (is : List (Input R)). GivesBack faults is s s) (sym none) (given_none s) }

    -- one more
    pub given_next : (all left : List A) (x : A) (its : List (Input R)) (a b d : Story) → ((xs : List A) → inputs_of (x ∷ xs) ≡ its ++ inputs_of xs)
        → HaveGiven inputs_of faults all (left ++ x ∷ []) a b → GivesBack faults its b d → HaveGiven inputs_of faults all left a d
    given_next all left x its a b d first have one = record {
      given = x ∷ have.given;
      split = have.split ∙ append_assoc left (x ∷ []) have.given;
      back = subst (λ (is : List (Input R)). GivesBack faults is a d) (sym (first have.given)) (given_after its (inputs_of have.given) a b d have.back one);
    }

    pub given_all : (all left : List A) (a b : Story) → left ≡ [] → HaveGiven inputs_of faults all left a b → GivesBack faults (inputs_of all) a b
    given_all all left a b none have = subst (λ (is : List A). GivesBack faults (inputs_of is) a b) (sym (have.split ∙ ap (λ (is : List A). is ++ have.given) none)) have.back
