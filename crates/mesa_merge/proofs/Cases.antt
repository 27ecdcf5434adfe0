-- Facts about a value that may be none, or an error.
use Rattle.std.proofs.Common.{◌≡◌, sym}
use Rattle.std.proofs.lemmas.Bool.{false≢true}
use Rattle.std.specs.Bool.{OnFalse, OnTrue}
use Rattle.std.specs.Prelude.{Bool, true, false, Option, Some, None, IfNone, IfSome, Result, Ok, Err, IfOk, IfErr, OnOk}

pub if_none : {X : Type 0} (o : Option X) (P Q : Type 0) → (P → Q) → IfNone o P → IfNone o Q
if_none None P Q f p = f p
if_none (Some x) P Q f p = tt

pub if_none2 : {X : Type 0} (o : Option X) (P Q S : Type 0) → (P → Q → S) → IfNone o P → IfNone o Q → IfNone o S
if_none2 None P Q S f p q = f p q
if_none2 (Some x) P Q S f p q = tt

pub if_some : {X : Type 0} (o : Option X) (P Q : X → Type 0) → ((x : X) → P x → Q x) → IfSome o P → IfSome o Q
if_some None P Q f p = tt
if_some (Some x) P Q f p = f x p

pub if_ok : {X E : Type 0} (r : Result X E) (P Q : X → Type 0) → ((x : X) → P x → Q x) → IfOk r P → IfOk r Q
if_ok (Ok x) P Q f p = f x p
if_ok (Err e) P Q f p = tt

pub if_err : {X E : Type 0} (r : Result X E) (P Q : E → Type 0) → ((e : E) → P e → Q e) → IfErr r P → IfErr r Q
if_err (Ok x) P Q f p = tt
if_err (Err e) P Q f p = f e p

pub if_both : {X E : Type 0} (r : Result X E) (P Q S : X → Type 0) → ((x : X) → P x → Q x → S x) → IfOk r P → IfOk r Q → IfOk r S
if_both (Ok x) P Q S f p q = f x p q
if_both (Err e) P Q S f p q = tt

-- of an Ok value two facts
pub if_ok2 : {X E : Type 0} (r : Result X E) (A : Type 0) (P Q : X → Type 0) → ((x : X) → A → P x → Q x) → OnOk r A → IfOk r P → IfOk r Q
if_ok2 (Ok x) A P Q f a p = f x a p
if_ok2 (Err e) A P Q f a p = tt

-- and three
pub if_ok3 : {X E : Type 0} (r : Result X E) (A : Type 0) (P Q S : X → Type 0) → ((x : X) → A → P x → Q x → S x) → OnOk r A → IfOk r P → IfOk r Q → IfOk r S
if_ok3 (Ok x) A P Q S f a p q = f x a p q
if_ok3 (Err e) A P Q S f a p q = tt

-- what holds where a test is true, or where it isn't
pub if_true : (b : Bool) (P : Type 0) → b ≡ true → OnTrue b P → P
if_true true P e p = p
if_true false P e p = absurd (false≢true e)

pub if_false : (b : Bool) (P : Type 0) → b ≡ false → OnFalse b P → P
if_false true P e p = absurd (false≢true (sym e))
if_false false P e p = p
