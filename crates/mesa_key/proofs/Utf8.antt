-- What reading a text says of its bytes.
use Rattle.std.proofs.Common.{◌≡◌, ◌∙◌, ℕ, List, Bool, true, false, refl, sym, ap, drop}
use Rattle.std.specs.Prelude.{Option, Result, Ok, Err, is_ok, is_some, not, ◌&&◌, MatchResult}
use Rattle.std.specs.Str.{is_utf8, IsUtf8}
use Rattle.std.specs.Str.Lossy.{utf8_error_len, utf8_valid_len}
use Rattle.std.proofs.lemmas.Str.{IsUtf8-from_is_utf8, is_utf8-from_IsUtf8}
use Rattle.mesa_key.specs.Faults.{breaks_off}

fails : (bs : List ℕ) (b : Bool) → is_utf8 bs ≡ b → (IsUtf8 bs → ⊥) → false ≡ b
fails bs true e untext = absurd (untext (IsUtf8-from_is_utf8 bs e))
fails bs false e untext = refl

pub utf8_told : {X E : Type 0} (P : X → Type 0) (Q : E → Type 0) (bs : List ℕ) (r : Result X E)
    → MatchResult r (λ s. P s × IsUtf8 bs) (λ e. ¬ (IsUtf8 bs) × Q e) → is_ok r ≡ is_utf8 bs
utf8_told P Q bs (Ok s) told = sym (is_utf8-from_IsUtf8 bs told.1)
utf8_told P Q bs (Err e) told = fails bs (is_utf8 bs) refl told.0

-- UTF-8 holds no byte that can't stand where it does
pub whole_text : (bs : List ℕ) → IsUtf8 bs → false ≡ breaks_off bs
whole_text bs text = sym (ap (λ b. not b && is_some (utf8_error_len (drop (utf8_valid_len bs) bs))) (is_utf8-from_IsUtf8 bs text))

-- other bytes do where their fault has a length
pub broken_text : (bs : List ℕ) (n : ℕ) (len : Option ℕ) → (IsUtf8 bs → ⊥) → n ≡ utf8_valid_len bs → len ≡ utf8_error_len (drop n bs) → is_some len ≡ breaks_off bs
broken_text bs n len untext valid fault =
    ap is_some (fault ∙ ap (λ k. utf8_error_len (drop k bs)) valid)
    ∙ ap (λ b. not b && is_some (utf8_error_len (drop (utf8_valid_len bs) bs))) (fails bs (is_utf8 bs) refl untext)
