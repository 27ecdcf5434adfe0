-- Pieces that are joined, and where each ends.
use Rattle.std.proofs.Common.{◌≡◌, ℕ, zero, suc, ◌+◌, ◌^◌, ◌<◌, ◌≤◌, List, [], ◌∷◌, ◌++◌, length, take, drop, refl, ap, sym, subst, ◌∙◌, arith, append_assoc, length-append}
use Rattle.std.specs.Prelude.{slice_index_or}
use Rattle.std.specs.List.{concat}
use Rattle.std.proofs.lemmas.List.{append-nil, drop_all, length-take, take-append-le}
use Rattle.mesa_list.specs.Pieces.{Rise, ends_from, last_end, pieces}
use Rattle.mesa_list.proofs.Pieces.{last_end_push, pieces_push, rise_push}

-- ---- words behind the pieces that are there

pub pieces_joined : (items : List ℕ) (start : ℕ) (ends : List ℕ) (words : List (List ℕ)) → Rise start ends → last_end start ends ≡ length items
    → pieces (items ++ concat words) start (ends ++ ends_from (length items) words) ≡ pieces items start ends ++ words
pieces_joined items start ends [] rise last =
    (λ i. pieces (append-nil items i) start (append-nil ends i)) ∙ sym (append-nil (pieces items start ends))
pieces_joined items start ends (word ∷ words) rise last =
    let end = length items + length word in
    let more : length (items ++ word) ≡ end = length-append items word in
    let next = pieces_joined (items ++ word) start (ends ++ end ∷ []) words (rise_push start ends end rise (omega (arith, last))) (last_end_push start ends end ∙ sym more) in
    (λ i. pieces (sym (append_assoc items word (concat words)) i) start (sym (append_assoc ends (end ∷ []) (ends_from end words)) i))
    ∙ ap (λ (n : ℕ). pieces ((items ++ word) ++ concat words) start ((ends ++ end ∷ []) ++ ends_from n words)) (sym more)
    ∙ next
    ∙ ap (λ (l : List (List ℕ)). l ++ words) (pieces_push items word start ends end rise last refl)
    ∙ append_assoc (pieces items start ends) (word ∷ []) words

pub rise_joined : (start : ℕ) (ends : List ℕ) (n : ℕ) (words : List (List ℕ)) → Rise start ends → last_end start ends ≡ n → Rise start (ends ++ ends_from n words)
rise_joined start ends n [] rise last = subst (Rise start) (sym (append-nil ends)) rise
rise_joined start ends n (word ∷ words) rise last =
    let end = n + length word in
    subst (Rise start) (append_assoc ends (end ∷ []) (ends_from end words)) (rise_joined start (ends ++ end ∷ []) end words (rise_push start ends end rise (omega (arith, last))) (last_end_push start ends end))

pub last_joined : (start : ℕ) (ends : List ℕ) (n : ℕ) (words : List (List ℕ)) → last_end start ends ≡ n → last_end start (ends ++ ends_from n words) ≡ n + length (concat words)
last_joined start ends n [] last = ap (last_end start) (append-nil ends) ∙ last ∙ (let none : n ≡ n + 0 = omega arith in none)
last_joined start ends n (word ∷ words) last =
    let end = n + length word in
    let sum : end + length (concat words) ≡ n + length (word ++ concat words) = omega (arith, length-append word (concat words)) in
    ap (last_end start) (sym (append_assoc ends (end ∷ []) (ends_from end words))) ∙ last_joined start (ends ++ end ∷ []) end words (last_end_push start ends end) ∙ sum

-- ---- the word at a place, and those behind it

pub words_from : (words : List (List ℕ)) (place : ℕ) → place < length words → drop place words ≡ slice_index_or words place [] ∷ drop (place + 1) words
words_from [] place lt = absurd (omega (arith, lt))
words_from (word ∷ words) zero lt = refl
words_from (word ∷ words) (suc place) lt = let next : suc place + 1 ≡ suc (place + 1) = omega arith in words_from words place (omega (arith, lt)) ∙ ap (λ (n : ℕ). slice_index_or words place [] ∷ drop n (word ∷ words)) (sym next)

-- ---- one word more

-- The words before a place stand behind what was there, and where each of them ends.
pub record AreBehind (old_bytes old_ends : List ℕ) (words : List (List ℕ)) (place : ℕ) (bytes ends : List ℕ) : Type 0 where
  pub joined : bytes ++ concat (drop place words) ≡ old_bytes ++ concat words
  pub ended : ends ++ ends_from (length bytes) (drop place words) ≡ old_ends ++ ends_from (length old_bytes) words
  pub few : length bytes < 2 ^ 32
  pub kept_bytes : take (length old_bytes) bytes ≡ old_bytes
  pub kept_ends : take (length old_ends) ends ≡ old_ends

kept_more : {X : Type 0} (old now : List X) (more : List X) → take (length old) now ≡ old → take (length old) (now ++ more) ≡ old
kept_more old now more kept =
    let long : length old ≤ length now = omega (arith, ap length kept, length-take (length old) now) in
    take-append-le (length old) now more long ∙ kept

pub behind_bytes : (old_bytes old_ends : List ℕ) (words : List (List ℕ)) (place : ℕ) (bytes ends new : List ℕ) → AreBehind old_bytes old_ends words place bytes ends → new ≡ bytes ++ slice_index_or words place [] → take (length old_bytes) new ≡ old_bytes
behind_bytes old_bytes old_ends words place bytes ends new h is = ap (take (length old_bytes)) is ∙ kept_more old_bytes bytes (slice_index_or words place []) h.kept_bytes

pub behind_more : (old_bytes old_ends : List ℕ) (words : List (List ℕ)) (place : ℕ) (bytes ends new more : List ℕ) → AreBehind old_bytes old_ends words place bytes ends → place < length words
    → length bytes + length (slice_index_or words place []) < 2 ^ 32 → new ≡ bytes ++ slice_index_or words place [] → more ≡ ends ++ length new ∷ [] → AreBehind old_bytes old_ends words (place + 1) new more
behind_more old_bytes old_ends words place bytes ends new more h lt few is add =
    let word = slice_index_or words place [] in
    let rest = drop (place + 1) words in
    let end : length new ≡ length bytes + length word = ap length is ∙ length-append bytes word in
    record {
      joined = ap (λ (l : List ℕ). l ++ concat rest) is ∙ append_assoc bytes word (concat rest) ∙ ap (λ (l : List (List ℕ)). bytes ++ concat l) (sym (words_from words place lt)) ∙ h.joined;
      ended = ap (λ (l : List ℕ). l ++ ends_from (length new) rest) add ∙ append_assoc ends (length new ∷ []) (ends_from (length new) rest)
          ∙ ap (λ (n : ℕ). ends ++ n ∷ ends_from n rest) end ∙ ap (λ (l : List (List ℕ)). ends ++ ends_from (length bytes) l) (sym (words_from words place lt)) ∙ h.ended;
      few = omega (arith, few, end);
      kept_bytes = behind_bytes old_bytes old_ends words place bytes ends new h is;
      kept_ends = ap (take (length old_ends)) add ∙ kept_more old_ends ends (length new ∷ []) h.kept_ends;
    }

pub behind_all : (old_bytes old_ends : List ℕ) (words : List (List ℕ)) (place : ℕ) (bytes ends : List ℕ) → AreBehind old_bytes old_ends words place bytes ends → length words ≤ place
    → (bytes ≡ old_bytes ++ concat words) × (ends ≡ old_ends ++ ends_from (length old_bytes) words)
behind_all old_bytes old_ends words place bytes ends h le =
    let none : drop place words ≡ [] = drop_all place words le in (
      sym (append-nil bytes) ∙ ap (λ (l : List (List ℕ)). bytes ++ concat l) (sym none) ∙ h.joined,
      sym (append-nil ends) ∙ ap (λ (l : List (List ℕ)). ends ++ ends_from (length bytes) l) (sym none) ∙ h.ended,
    )
