-- What holds of an outcome that passed checks one after another.
use Rattle.std.proofs.Common.{◌≡◌, Bool, true, false, refl}
use Rattle.std.specs.Prelude.{Result, Ok, Err, IfOk}
use Rattle.mesa_script.specs.mesa_list.Checks.{◌>>=◌, ◌>>◌, refuse_if, refused_as}

pub ok_bind : {A B E : Type 0} (P : B → Type 0) (x : Result A E) (f : A → Result B E) → ((a : A) → x ≡ Ok a → IfOk (f a) P) → IfOk (x >>= f) P
ok_bind P (Ok a) f all = all a refl
ok_bind P (Err e) f all = tt

pub ok_then : {A B E : Type 0} (P : B → Type 0) (x : Result A E) (next : Result B E) → IfOk next P → IfOk (x >> next) P
ok_then P (Ok a) next all = all
ok_then P (Err e) next all = tt

-- a check that passed is known behind it
pub ok_check : {B E : Type 0} (P : B → Type 0) (x : Result (Unit {0}) E) (next : Result B E) → (x ≡ Ok tt → IfOk next P) → IfOk (x >> next) P
ok_check P (Ok a) next all = all refl
ok_check P (Err e) next all = tt

pub passed_as : {D E : Type 0} (f : D → E) (x : Result (Unit {0}) D) → refused_as f x ≡ Ok tt → x ≡ Ok tt
passed_as f (Ok a) h = refl
passed_as f (Err d) h = cc

pub ok_if : {B E : Type 0} (P : B → Type 0) (t : Bool) (e : E) (next : Result B E) → (t ≡ false → IfOk next P) → IfOk (refuse_if t e >> next) P
ok_if P true e next all = tt
ok_if P false e next all = all refl

pub ok_as : {A D E : Type 0} (P : A → Type 0) (f : D → E) (x : Result A D) → IfOk x P → IfOk (refused_as f x) P
ok_as P f (Ok a) all = all
ok_as P f (Err d) all = tt

-- what holds of a value that is there is used behind it
pub ok_on : {A B E : Type 0} (P : B → Type 0) (Q : A → Type 0) (x : Result A E) (f : A → Result B E) → IfOk x Q → ((a : A) → Q a → IfOk (f a) P) → IfOk (x >>= f) P
ok_on P Q (Ok a) f holds all = all a holds
ok_on P Q (Err e) f holds all = tt
