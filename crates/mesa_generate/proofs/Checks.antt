-- What holds of checks one after another, of each of their refusals and of what comes once all have passed.
use Rattle.std.proofs.Common.{◌≡◌, Bool, true, false, refl, Option, Some, None, Result, Ok, Err, ok_or}
use Rattle.mesa_invariant_spec.specs.mesa_list.Checks.{◌>>=◌, ◌>>◌, refuse_if, refuse_unless, refused_as}

module _ {B E : Type 0} (P : Result B E → Type 0) where
  pub on_check : {A : Type 0} (r : Result A E) (next : Result B E) → ((e : E) → r ≡ Err e → P (Err e)) → P next → P (r >> next)
  on_check (Ok x) next bad good = good
  on_check (Err e) next bad good = bad e refl

  pub on_if : (t : Bool) (e : E) (next : Result B E) → P (Err e) → P next → P (refuse_if t e >> next)
  on_if true e next bad good = bad
  on_if false e next bad good = good

  pub on_unless : (t : Bool) (e : E) (next : Result B E) → P (Err e) → (t ≡ true → P next) → P (refuse_unless t e >> next)
  on_unless true e next bad good = good refl
  on_unless false e next bad good = bad

  pub on_some : {A : Type 0} (o : Option A) (e : E) (f : A → Result B E) → P (Err e) → ((x : A) → o ≡ Some x → P (f x)) → P (ok_or o e >>= f)
  on_some None e f bad good = bad
  on_some (Some x) e f bad good = good x refl

  pub on_other : {A D : Type 0} (say : D → E) (r : Result A D) (f : A → Result B E) → ((d : D) → P (Err (say d))) → ((x : A) → P (f x)) → P (refused_as say r >>= f)
  on_other say (Ok x) f bad good = good x
  on_other say (Err d) f bad good = bad d

  pub on_other_check : {A D : Type 0} (say : D → E) (r : Result A D) (next : Result B E) → ((d : D) → r ≡ Err d → P (Err (say d))) → P next → P (refused_as say r >> next)
  on_other_check say (Ok x) next bad good = good
  on_other_check say (Err d) next bad good = bad d refl
