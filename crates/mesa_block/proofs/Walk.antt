-- Reading one thing after the other, as a loop does.
use Rattle.std.proofs.Common.{◌≡◌, ◌≢◌, ℕ, suc, ◌-◌, ◌+◌, ◌≤◌, ◌<◌, List, [], ◌∷◌, ◌++◌, Result, Ok, Err, refl, sym, ap, ◌∙◌, append_assoc, arith}
use Rattle.std.specs.Prelude.{replicate}
use Rattle.std.proofs.lemmas.List.{append-nil}
use Rattle.mesa_list.specs.Checks.{◌>>=◌}
use Rattle.mesa_block.specs.declared.error.BlockError.{BlockError}
use Rattle.mesa_block.specs.declared.error.BlockError.TheVariants as fault
use Rattle.mesa_block.specs.Reading.{with_front, many}

regroup : {A : Type 0} (front : List A) (a : A) (read : Result (List A × List ℕ) BlockError) → with_front front (read >>= λ x. Ok (a ∷ x.0, x.1)) ≡ with_front (front ++ a ∷ []) read
regroup {A = A} front a (Ok x) = ap (λ (ys : List A). Ok (ys, x.1)) (sym (append_assoc front (a ∷ []) x.0))
regroup front a (Err f) = refl

pub goes_on : {I A : Type 0} (read : I → List ℕ → Result (A × List ℕ) BlockError) (front : List A) (left others : List I) (i : I) (bytes : List ℕ) (a : A) (after : List ℕ) (total : Result (List A × List ℕ) BlockError)
    → left ≡ i ∷ others → read i bytes ≡ Ok (a, after) → with_front front (many read left bytes) ≡ total → with_front (front ++ a ∷ []) (many read others after) ≡ total
unfolding many
goes_on read front left others i bytes a after total is h so_far =
    let one : with_front front (many read left bytes) ≡ with_front (front ++ a ∷ []) (many read others after) = rw (is, h) (regroup front a (many read others after)) in
    sym one ∙ so_far

pub ends : {I A : Type 0} (read : I → List ℕ → Result (A × List ℕ) BlockError) (e : BlockError) (front : List A) (left others : List I) (i : I) (bytes : List ℕ) (total : Result (List A × List ℕ) BlockError)
    → left ≡ i ∷ others → (e ≢ fault.Memory → read i bytes ≡ Err e) → with_front front (many read left bytes) ≡ total → e ≢ fault.Memory → total ≡ Err e
unfolding many
ends read e front left others i bytes total is h so_far other =
    let one : with_front front (many read left bytes) ≡ Err e = rw (is, h other) refl in
    sym so_far ∙ one

pub is_done : {I A : Type 0} (read : I → List ℕ → Result (A × List ℕ) BlockError) (front : List A) (left : List I) (bytes : List ℕ) (total : Result (List A × List ℕ) BlockError)
    → left ≡ [] → with_front front (many read left bytes) ≡ total → total ≡ Ok (front, bytes)
unfolding many
is_done {A = A} read front left bytes total is so_far =
    let one : with_front front (many read left bytes) ≡ Ok (front, bytes) = rw is (ap (λ (ys : List A). Ok (ys, bytes)) (append-nil front)) in
    sym so_far ∙ one

same : {A : Type 0} (read : Result (List A × List ℕ) BlockError) → with_front [] read ≡ read
same (Ok x) = refl
same (Err e) = refl

pub begins : {I A : Type 0} (read : I → List ℕ → Result (A × List ℕ) BlockError) (left : List I) (bytes : List ℕ) → with_front [] (many read left bytes) ≡ many read left bytes
begins read left bytes = same (many read left bytes)

pub one_less : (r i x : ℕ) → i < r → replicate (r - i) x ≡ x ∷ replicate (r - (i + 1)) x
one_less r i x lt = let e : r - i ≡ suc (r - (i + 1)) = omega arith in ap (λ n. replicate n x) e

pub none_left : (r i x : ℕ) → r ≤ i → replicate (r - i) x ≡ []
none_left r i x le = let e : r - i ≡ 0 = omega arith in ap (λ n. replicate n x) e
