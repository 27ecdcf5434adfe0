-- Fields that are read one after the other.
use Rattle.std.proofs.Common.{◌≡◌, ◌≢◌, ℕ, suc, ◌+◌, List, [], ◌∷◌, ◌++◌, refl, sym, ap, ◌∙◌, append_assoc, append-nil, Ok, Err}
use Rattle.mesa_columns.specs.mesa_list.Checks.{◌>>=◌}
use Rattle.mesa_record_fields.specs.declared.error.RecordError.{RecordError}
use Rattle.mesa_record_fields.specs.declared.error.RecordError.TheVariants as fault
use Rattle.mesa_record_fields.specs.Reading.{Left, Read, rising, with_front}

regroup : {A : Type 0} (front : List A) (x : A) (read : Read (List A)) → with_front front (read >>= λ xs. Ok (x ∷ xs.0, xs.1)) ≡ with_front (front ++ x ∷ []) read
regroup front x (Ok (xs, l)) = ap (λ ys. Ok (ys, l)) (sym (append_assoc front (x ∷ []) xs))
regroup front x (Err e) = refl

-- a field more was read
pub goes_on : {A : Type 0} (number : A → ℕ) (read : ℕ → Left → Read A) (least n m : ℕ) (front : List A) (x : A) (l after : Left) (total : Read (List A))
    → n ≡ suc m → read least l ≡ Ok (x, after) → with_front front (rising number read least n l) ≡ total → with_front (front ++ x ∷ []) (rising number read (number x + 1) m after) ≡ total
unfolding rising
goes_on number read least n m front x l after total is h all =
    let one : with_front front (rising number read least n l) ≡ with_front (front ++ x ∷ []) (rising number read (number x + 1) m after) = rw (is, h) (regroup front x (rising number read (number x + 1) m after)) in
    sym one ∙ all

-- the next field is faulty
pub ends : {A : Type 0} (number : A → ℕ) (read : ℕ → Left → Read A) (least n m : ℕ) (front : List A) (e : RecordError) (l : Left) (total : Read (List A))
    → n ≡ suc m → (e ≢ fault.Memory → read least l ≡ Err e) → with_front front (rising number read least n l) ≡ total → e ≢ fault.Memory → total ≡ Err e
unfolding rising
ends number read least n m front e l total is h all other =
    let one : with_front front (rising number read least n l) ≡ Err e = rw (is, h other) refl in
    sym all ∙ one

-- no field is left
pub is_done : {A : Type 0} (number : A → ℕ) (read : ℕ → Left → Read A) (least n : ℕ) (front : List A) (l : Left) (total : Read (List A))
    → n ≡ 0 → with_front front (rising number read least n l) ≡ total → total ≡ Ok (front, l)
unfolding rising
is_done number read least n front l total is all =
    let one : with_front front (rising number read least n l) ≡ Ok (front, l) = rw is (ap (λ ys. Ok (ys, l)) (append-nil front)) in
    sym all ∙ one

pub begins : {A : Type 0} (read : Read (List A)) → with_front [] read ≡ read
begins (Ok xs) = refl
begins (Err e) = refl
