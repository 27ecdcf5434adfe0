-- Checks of a change, as code tells them.
use Rattle.std.proofs.Common.{◌≡◌, sym, ◌∙◌, Result, Ok, Err}
use Rattle.std.specs.Prelude.{◌≢◌, IfErr, OnOk}

-- An outcome that is the rule's own.
pub told_ok : {E : Type 0} (r rule : Result (Unit {0}) E) → r ≡ rule → OnOk r (rule ≡ Ok tt)
told_ok (Ok x) rule e = sym e
told_ok (Err x) rule e = tt

pub told_err : {E : Type 0} (r rule : Result (Unit {0}) E) (memory : E) → r ≡ rule → IfErr r (λ x. x ≢ memory → rule ≡ Err x)
told_err (Ok x) rule memory e = tt
told_err (Err x) rule memory e = λ _. sym e

-- One that is the rule's but for want of memory, where the rule has another spelling.
pub told_same : {E : Type 0} (r rule other : Result (Unit {0}) E) (memory : E) → rule ≡ other → IfErr r (λ x. x ≢ memory → rule ≡ Err x) → IfErr r (λ x. x ≢ memory → other ≡ Err x)
told_same (Ok x) rule other memory e told = tt
told_same (Err x) rule other memory e told = λ no. sym e ∙ told no
