-- Literals: their bytes without escapes, and each of several.
use Rattle.std.proofs.Common.{◌≡◌, ℕ, ◌+◌, ◌*◌, ◌≤◌, List, [], ◌∷◌, ◌++◌, length, drop, get_or, true, false, cond, refl, sym, ◌∙◌, ap, arith, Option, Some, None, append_assoc}
use Rattle.std.specs.Prelude.{◌==◌, option_map}
use Rattle.mesa_filter.specs.Hex.{hex_value, with_byte}
use Rattle.mesa_filter.specs.Filter.{unescaped}

-- what was found goes before what is to come
abbrev pub after : {A : Type 0} → List A → Option (List A) → Option (List A)
after found more = option_map (λ xs. found ++ xs) more

-- one more was found
pub after_more : {A : Type 0} (found : List A) (x : A) (more : Option (List A)) → after (found ++ x ∷ []) more ≡ after found (option_map (λ xs. x ∷ xs) more)
after_more found x None = refl
after_more found x (Some xs) = ap Some (append_assoc found (x ∷ []) xs)

-- a byte that is no `%` stands for itself
pub plain_byte : (b : ℕ) (rest : List ℕ) → (b == 37) ≡ false → unescaped (b ∷ rest) ≡ option_map (λ text. b ∷ text) (unescaped rest)
plain_byte b [] h = rw h refl
plain_byte b (c ∷ []) h = rw h (elim (c == 37) as (λ t. cond t None (Some (b ∷ c ∷ [])) ≡ option_map (λ text. b ∷ text) (cond t None (Some (c ∷ [])))) [ true ↦ refl | false ↦ refl ])
plain_byte b (c ∷ d ∷ rest) h = rw h refl

-- an escaped byte
pub escaped_byte : (high low : Option ℕ) (byte : ℕ) (rest : Option (List ℕ)) → with_byte high low (Some []) ≡ Some (byte ∷ []) → with_byte high low rest ≡ option_map (λ text. byte ∷ text) rest
escaped_byte None low byte rest h = cc
escaped_byte (Some a) None byte rest h = cc
escaped_byte (Some a) (Some b) byte None h = refl
escaped_byte (Some a) (Some b) byte (Some text) h = let same : 16 * a + b ≡ byte = cc in ap (λ x. Some (x ∷ text)) same

-- A byte more of a literal.
pub byte_more : (bytes rest behind more text new : List ℕ) (first byte : ℕ) → rest ≡ first ∷ behind → unescaped (first ∷ behind) ≡ option_map (λ t. byte ∷ t) (unescaped more) → new ≡ text ++ byte ∷ []
    → after text (unescaped rest) ≡ unescaped bytes → after new (unescaped more) ≡ unescaped bytes
byte_more bytes rest behind more text new first byte e u n before =
    ap (λ found. after found (unescaped more)) n ∙ after_more text byte (unescaped more) ∙ ap (after text) (sym u) ∙ ap (λ xs. after text (unescaped xs)) (sym e) ∙ before

-- An escape is read.
pub escape_read : (first : ℕ) (rest : List ℕ) (byte : ℕ) → first ≡ 37 → 2 ≤ length rest → with_byte (hex_value (get_or rest 0 0)) (hex_value (get_or rest 1 0)) (Some []) ≡ Some (byte ∷ [])
    → unescaped (first ∷ rest) ≡ option_map (λ text. byte ∷ text) (unescaped (drop 2 rest))
escape_read first [] byte e l h = absurd (omega arith)
escape_read first (a ∷ []) byte e l h = absurd (omega arith)
escape_read first (a ∷ b ∷ rest) byte e l h = ap (λ f. unescaped (f ∷ a ∷ b ∷ rest)) e ∙ escaped_byte (hex_value a) (hex_value b) byte (unescaped rest) h
