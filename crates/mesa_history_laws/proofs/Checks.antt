-- What holds of checks one after another: each refusal, or what comes once all have passed.
use Rattle.std.proofs.Common.{◌≡◌, Bool, true, false, refl, Option, Some, None, Result, Ok, Err, ok_or, is_ok}
use Rattle.mesa_history_spec.specs.mesa_list.Checks.{◌>>=◌, ◌>>◌, refuse_if, refuse_unless, refused_as}

module _ {B E : Type 0} (P : Result B E → Type 0) (refused : (e : E) → P (Err e)) where
  -- an outcome's value handed on
  pub after_value : {A : Type 0} (r : Result A E) (f : A → Result B E) → ((x : A) → r ≡ Ok x → P (f x)) → P (r >>= f)
  after_value (Ok x) f good = good x refl
  after_value (Err e) f good = refused e

  -- a check passed
  pub after_check : {A : Type 0} (r : Result A E) (next : Result B E) → (is_ok r ≡ true → P next) → P (r >> next)
  after_check (Ok x) next good = good refl
  after_check (Err e) next good = refused e

  pub after_refuse_if : (t : Bool) (e : E) (next : Result B E) → (t ≡ false → P next) → P (refuse_if t e >> next)
  after_refuse_if true e next good = refused e
  after_refuse_if false e next good = good refl

  pub after_refuse_unless : (t : Bool) (e : E) (next : Result B E) → (t ≡ true → P next) → P (refuse_unless t e >> next)
  after_refuse_unless true e next good = good refl
  after_refuse_unless false e next good = refused e

  -- a value that is there
  pub after_some : {A : Type 0} (o : Option A) (e : E) (f : A → Result B E) → ((x : A) → o ≡ Some x → P (f x)) → P (ok_or o e >>= f)
  after_some None e f good = refused e
  after_some (Some x) e f good = good x refl

  -- another layer's value
  pub after_other : {A D : Type 0} (say : D → E) (r : Result A D) (f : A → Result B E) → ((x : A) → r ≡ Ok x → P (f x)) → P (refused_as say r >>= f)
  after_other say (Ok x) f good = good x refl
  after_other say (Err d) f good = refused (say d)

  -- another layer's check
  pub after_other_check : {A D : Type 0} (say : D → E) (r : Result A D) (next : Result B E) → (is_ok r ≡ true → P next) → P (refused_as say r >> next)
  after_other_check say (Ok x) next good = good refl
  after_other_check say (Err d) next good = refused (say d)

-- ---- what an outcome says of the checks before it

pub bound : {A B E : Type 0} (r : Result A E) (f : A → Result B E) (y : B) → (r >>= f) ≡ Ok y → (x : A) × (r ≡ Ok x) × (f x ≡ Ok y)
bound (Ok x) f y h = (x, refl, h)
bound (Err e) f y h = cc

pub bound_some : {A B E : Type 0} (o : Option A) (e : E) (f : A → Result B E) (y : B) → (ok_or o e >>= f) ≡ Ok y → (x : A) × (o ≡ Some x) × (f x ≡ Ok y)
bound_some (Some x) e f y h = (x, refl, h)
bound_some None e f y h = cc

pub bound_other : {A B D E : Type 0} (say : D → E) (r : Result A D) (f : A → Result B E) (y : B) → (refused_as say r >>= f) ≡ Ok y → (x : A) × (r ≡ Ok x) × (f x ≡ Ok y)
bound_other say (Ok x) f y h = (x, refl, h)
bound_other say (Err d) f y h = cc

pub passed : {A B E : Type 0} (r : Result A E) (next : Result B E) (y : B) → (r >> next) ≡ Ok y → next ≡ Ok y
passed (Ok x) next y h = h
passed (Err e) next y h = cc

pub checked_ok : {A B E : Type 0} (r : Result A E) (next : Result B E) (y : B) → (r >> next) ≡ Ok y → is_ok r ≡ true
checked_ok (Ok x) next y h = refl
checked_ok (Err e) next y h = cc

pub passed_unless : {B E : Type 0} (t : Bool) (e : E) (next : Result B E) (y : B) → (refuse_if t e >> next) ≡ Ok y → t ≡ false
passed_unless true e next y h = cc
passed_unless false e next y h = refl
