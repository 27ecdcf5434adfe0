-- Fields with a rule or a meaning, texts and keys, both ways.
use Rattle.std.proofs.Common.{◌≡◌, ℕ, ◌+◌, ◌<◌, ◌^◌, List, [], ◌∷◌, ◌++◌, length, get_or, refl, sym, ap, subst, ◌∙◌, arith, Bool, true, false, Result, Ok, Err, Option, Some, None}
use Rattle.std.specs.Prelude.{IsTrue, drop, if◌then◌else◌}
use Rattle.std.specs.Int.{w16, from_be_bytes, to_be_bytes}
use Rattle.std.proofs.lemmas.Nat.{from_be_bytes-to_be_bytes_2}
use Rattle.mesa_record_fields.specs.declared.error.RecordError.{RecordError}
use Rattle.mesa_record_fields.specs.Reading.{Left, Read, byte_at, key_at, meaning, piece_at, ruled, text_at}
use Rattle.mesa_record_fields.specs.Spelling.{half, key, text}
use Rattle.mesa_record_fields.proofs.Both.{Again, Begins, Bytes, Found, of_ok, step_of}
use Rattle.mesa_record_fields.proofs.Numbers.{byte_again, byte_found, half_of, one, piece_again, piece_found}

-- ---- rules

pub ruled_again : {A : Type 0} (rule : A → Bool) (read : Left → Read A) (bytes : List ℕ) (x : A) → IsTrue (rule x) → Again read bytes x → Again (ruled rule read) bytes x
ruled_again rule read bytes x h again at more = let r = again at more in (r.0, rw (r.1, h) refl)

passed : {A E : Type 0} (b : Bool) (x y : A) (e : E) → if◌then◌else◌ {A = Result A E} b (Ok x) (Err e) ≡ Ok y → (b ≡ true) × (x ≡ y)
passed true x y e h = (refl, of_ok _ x y refl h)
passed false x y e h = absurd cc

pub ruled_found : {A : Type 0} (rule : A → Bool) (read : Left → Read A) (spell : A → List ℕ) (Is : A → Type 0) → Found read spell Is → Found (ruled rule read) spell (λ x. Is x × IsTrue (rule x))
ruled_found {A = A} rule read spell Is found l after x bytes h =
    let s = step_of (read l) _ _ h in
    let p = passed (rule s.0.0) s.0 (x, after) _ s.2 in
    let f = found l s.0.1 s.0.0 bytes s.1 in
    subst (λ (z : A × Left). (Is z.0 × IsTrue (rule z.0)) × Begins l (spell z.0) z.1) p.1 ((f.0, p.0), f.1)

-- ---- meanings

pub meaning_again : {A : Type 0} (mean : ℕ → Option A) (b : ℕ) (y : A) → mean b ≡ Some y → Again (meaning mean) (one b) y
meaning_again mean b y h at more = (at + 1, rw (byte_again b at more, h) refl)

meant : {A : Type 0} (o : Option A) (l after : Left) (y : A) (e : RecordError) → elim o as (λ o. Read A) [ None ↦ Err e | Some z ↦ Ok (z, l) ] ≡ Ok (y, after) → (o ≡ Some y) × (l ≡ after)
meant {A = A} None l after y e h = absurd cc
meant {A = A} (Some z) l after y e h = let both = of_ok _ (z, l) (y, after) refl h in (ap (λ (p : A × Left). Some p.0) both, ap (λ (p : A × Left). p.1) both)

pub meaning_found : {A : Type 0} (mean : ℕ → Option A) (byte : A → ℕ) → ((b : ℕ) (y : A) → mean b ≡ Some y → byte y ≡ b) → Found (meaning mean) (λ y. one (byte y)) (λ y. Unit {0})
meaning_found mean byte each l after y bytes h =
    let s = step_of (byte_at l) _ _ h in
    let m = meant (mean s.0.0) s.0.1 after y _ s.2 in
    let f = byte_found l s.0.1 s.0.0 bytes s.1 in
    (tt, subst (λ b. Begins l (one b) after) (sym (each s.0.0 y m.0)) (subst (Begins l (one s.0.0)) m.1 f.1))

-- ---- texts

pub text_again : (t : List ℕ) → Again text_at (text t) t
text_again t at more = (at + (length t + 1), rw (piece_again (text t) (length t + 1) at more (omega arith)) refl)

text_of : (p bytes rest : List ℕ) → bytes ≡ p ++ rest → length p ≡ get_or bytes 0 0 + 1 → text (drop 1 p) ≡ p
text_of [] bytes rest split len = absurd (omega (arith, len))
text_of (b ∷ t) bytes rest split len =
    let first : get_or bytes 0 0 ≡ b = ap (λ l. get_or l 0 0) split in
    ap (λ n. n ∷ t) (omega (arith, len, first))

pub text_found : Found text_at text (λ t. Unit {0})
text_found l after t bytes h =
    let s = step_of (piece_at (get_or l.bytes 0 0 + 1) l) _ _ h in
    let f = piece_found (get_or l.bytes 0 0 + 1) l s.0.1 s.0.0 bytes s.1 in
    let same : text (drop 1 s.0.0) ≡ s.0.0 = text_of s.0.0 l.bytes s.0.1.bytes f.begins.split f.len in
    (tt, subst (λ (z : List ℕ × Left). Begins l (text z.0) z.1) (of_ok _ (drop 1 s.0.0, s.0.1) (t, after) refl s.2) (subst (λ p. Begins l p s.0.1) (sym same) f.begins))

-- ---- keys

pub key_again : (k : List ℕ) → length k < 2 ^ 16 → Again key_at (key k) k
unfolding half
key_again k small at more =
    let len : from_be_bytes w16 (to_be_bytes w16 (length k)) ≡ length k = from_be_bytes-to_be_bytes_2 (length k) small in
    (at + (length k + 2), rw (len, piece_again (key k) (length k + 2) at more (omega arith)) refl)

key_of : (p bytes rest : List ℕ) → Bytes p → bytes ≡ p ++ rest → length p ≡ from_be_bytes w16 (get_or bytes 0 0 ∷ get_or bytes 1 0 ∷ []) + 2 → (length (drop 2 p) < 2 ^ 16) × (key (drop 2 p) ≡ p)
key_of [] bytes rest all split len = absurd (omega (arith, len))
key_of (a ∷ []) bytes rest all split len = absurd (omega (arith, len))
key_of (a ∷ b ∷ k) bytes rest all split len =
    let front : from_be_bytes w16 (get_or bytes 0 0 ∷ get_or bytes 1 0 ∷ []) ≡ from_be_bytes w16 (a ∷ b ∷ []) = ap (λ l. from_be_bytes w16 (get_or l 0 0 ∷ get_or l 1 0 ∷ [])) split in
    let count : length k ≡ from_be_bytes w16 (a ∷ b ∷ []) = omega (arith, len, front) in
    let is = half_of (a ∷ b ∷ []) refl (all.0, (all.1.0, tt)) in
    (rw count is.0, ap (λ n. half n ++ k) count ∙ ap (λ bs. bs ++ k) is.1)

pub key_found : Found key_at key (λ k. length k < 2 ^ 16)
key_found l after k bytes h =
    let n = from_be_bytes w16 (get_or l.bytes 0 0 ∷ get_or l.bytes 1 0 ∷ []) + 2 in
    let s = step_of (piece_at n l) _ _ h in
    let f = piece_found n l s.0.1 s.0.0 bytes s.1 in
    let is = key_of s.0.0 l.bytes s.0.1.bytes f.bytes f.begins.split f.len in
    subst (λ (z : List ℕ × Left). (length z.0 < 2 ^ 16) × Begins l (key z.0) z.1) (of_ok _ (drop 2 s.0.0, s.0.1) (k, after) refl s.2) (is.0, subst (λ p. Begins l p s.0.1) (sym is.1) f.begins)
