-- The bytes behind an open gate.
use Rattle.std.proofs.Common.{◌≡◌, ℕ, zero, suc, ◌+◌, ◌-◌, ◌^◌, ◌<◌, ◌≤◌, List, [], ◌∷◌, ◌++◌, length, get_or, take, drop, refl, sym, ◌∙◌, ap, arith, append_assoc, length-append, length-drop, take-append-drop, inl, inr, lit<}
use Rattle.std.specs.List.{AllByRecursion}
use Rattle.std.proofs.lemmas.Bool.{cases_lt}
use Rattle.std.proofs.lemmas.List.{drop_at, get_or-take, get_or_past, length-take, length-take-le}
use Rattle.std.proofs.lemmas.Nat.{be_bytes_4}
use Rattle.mesa_disk.specs.mesa_key.Spelling.{AreBytes}
use Rattle.mesa_journal.specs.Journal.{word, of_word, needed_of, frames, AllFit}
use Rattle.mesa_journal.specs.Read.{placed_from}
use Rattle.mesa_journal.specs.declared.reading.Body.{Body}
use Rattle.mesa_journal.proofs.Bytes.{length-word, frames-push, AllFit-push, length-frames-push}

pub needed_of_long : (tail : List ℕ) → 4 ≤ length tail → needed_of tail ≡ of_word tail + 6
unfolding of_word
needed_of_long [] long = absurd (omega arith)
needed_of_long (a ∷ []) long = absurd (omega arith)
needed_of_long (a ∷ b ∷ []) long = absurd (omega arith)
needed_of_long (a ∷ b ∷ c ∷ []) long = absurd (omega arith)
needed_of_long (a ∷ b ∷ c ∷ d ∷ rest) long = refl

first_four : (a b c d : ℕ) (rest : List ℕ) → ((i : ℕ) → get_or (a ∷ b ∷ c ∷ d ∷ rest) i 0 < 256) → (i : ℕ) → get_or (a ∷ b ∷ c ∷ d ∷ []) i 0 < 256
first_four a b c d rest fit zero = fit 0
first_four a b c d rest fit (suc zero) = fit 1
first_four a b c d rest fit (suc (suc zero)) = fit 2
first_four a b c d rest fit (suc (suc (suc zero))) = fit 3
first_four a b c d rest fit (suc (suc (suc (suc i)))) = omega arith

-- four bytes are the spelling of their number
word_tail : (tail : List ℕ) (n : ℕ) → 4 ≤ length tail → ((i : ℕ) → get_or tail i 0 < 256) → n ≡ of_word tail → tail ≡ word n ++ drop 4 tail
unfolding of_word word
word_tail [] n long fit is = absurd (omega arith)
word_tail (a ∷ []) n long fit is = absurd (omega arith)
word_tail (a ∷ b ∷ []) n long fit is = absurd (omega arith)
word_tail (a ∷ b ∷ c ∷ []) n long fit is = absurd (omega arith)
word_tail (a ∷ b ∷ c ∷ d ∷ rest) n long fit is = ap (λ (l : List ℕ). l ++ rest) (sym (be_bytes_4 (a ∷ b ∷ c ∷ d ∷ []) n refl (first_four a b c d rest fit) is))

pub whole : (tail body : List ℕ) (n : ℕ) → 4 ≤ length tail → ((i : ℕ) → get_or tail i 0 < 256) → n ≡ of_word tail → n < 2 ^ 32 → n < length tail - 4 → body ≡ take n (drop 4 tail)
    → (length body < 2 ^ 32) × ((rest : List ℕ) × (0 < length rest) × (tail ≡ word (length body) ++ body ++ rest))
whole tail body n long fit is small inside body_is =
    let len : length body ≡ n = ap length body_is ∙ length-take-le n (drop 4 tail) (omega (arith, length-drop 4 tail)) in
    let parts : drop 4 tail ≡ body ++ drop n (drop 4 tail) = sym (take-append-drop n (drop 4 tail)) ∙ ap (λ (l : List ℕ). l ++ drop n (drop 4 tail)) (sym body_is) in
    let split : tail ≡ word (length body) ++ body ++ drop n (drop 4 tail) =
    word_tail tail n long fit is
    ∙ ap (λ (l : List ℕ). word n ++ l) parts
    ∙ sym (append_assoc (word n) body (drop n (drop 4 tail)))
    ∙ ap (λ (m : ℕ). word m ++ body ++ drop n (drop 4 tail)) (sym len) in
    (omega (arith, len), (drop n (drop 4 tail), omega (arith, length-drop n (drop 4 tail), length-drop 4 tail), split))

-- one record more
pub record Parsed (area : List ℕ) (bodies : List (List ℕ)) (at : ℕ) : Type 0 where
  pub split : area ≡ frames bodies ++ drop at area
  pub place : at ≡ length (frames bodies)
  pub fit : AllFit bodies
  pub within : at < length area

pub parsed_more : (area : List ℕ) (bodies : List (List ℕ)) (at : ℕ) (tail body rest : List ℕ) → Parsed area bodies at → drop at area ≡ 1 ∷ tail
    → length body < 2 ^ 32 → 0 < length rest → tail ≡ word (length body) ++ body ++ rest → Parsed area (bodies ++ body ∷ []) (at + length body + 5)
parsed_more area bodies at tail body rest parsed here small some is =
    let all : area ≡ frames (bodies ++ body ∷ []) ++ rest =
    parsed.split
    ∙ ap (λ (l : List ℕ). frames bodies ++ l) (here ∙ ap (λ (l : List ℕ). 1 ∷ l) is)
    ∙ sym (append_assoc (frames bodies) (1 ∷ (word (length body) ++ body)) rest)
    ∙ ap (λ (l : List ℕ). l ++ rest) (sym (frames-push bodies body)) in
    let place : at + length body + 5 ≡ length (frames (bodies ++ body ∷ [])) = omega (arith, parsed.place, length-frames-push bodies body) in
    let behind : drop (at + length body + 5) area ≡ rest =
    ap (λ (l : List ℕ). drop (at + length body + 5) l) all ∙ drop_at (frames (bodies ++ body ∷ [])) rest (at + length body + 5) (sym place) in
    record {
      split = all ∙ ap (λ (l : List ℕ). frames (bodies ++ body ∷ []) ++ l) (sym behind);
      place = place;
      fit = AllFit-push bodies body parsed.fit small;
      within = omega (arith, place, ap length all, length-append (frames (bodies ++ body ∷ [])) rest);
    }

-- the place of one body more
pub placed_from-push : (from : ℕ) (bodies : List (List ℕ)) (body : List ℕ) (at : ℕ) → at ≡ from + length (frames bodies) → placed_from from bodies ++ record { at = at; bytes = body } ∷ [] ≡ placed_from from (bodies ++ body ∷ [])
placed_from-push from [] body at is = let at_is : at ≡ from = omega arith in λ i. record { at = at_is i; bytes = body } ∷ []
placed_from-push from (b ∷ bodies) body at is =
    let next : at ≡ from + length b + 5 + length (frames bodies) =
    omega (arith, is, length-append (word (length b) ++ b) (frames bodies), length-append (word (length b)) b, length-word (length b)) in
    ap (λ (l : List Body). record { at = from; bytes = b } ∷ l) (placed_from-push (from + length b + 5) bodies body at next)

-- bytes from the front of bytes
pub bytes_within : (n : ℕ) (l : List ℕ) → AreBytes l → AreBytes (take n l)
bytes_within n l all i = elim (cases_lt i n) [
  | inl lt ↦ rw (get_or-take n l i 0 lt) (all i)
  | inr ge ↦ rw (get_or_past (take n l) i 0 (omega (arith, length-take n l))) (lit< tt)
]

-- one body of bytes more
pub bytes_push : (bodies : List (List ℕ)) (body : List ℕ) → AllByRecursion AreBytes bodies → AreBytes body → AllByRecursion AreBytes (bodies ++ body ∷ [])
bytes_push [] body all is = (is, tt)
bytes_push (b ∷ bodies) body all is = (all.0, bytes_push bodies body all.1 is)
