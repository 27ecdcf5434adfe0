-- An area has one reading.
use Rattle.std.proofs.Common.{Result, Ok, Err, ◌≡◌, ◌≢◌, inl, inr, ℕ, ◌+◌, ◌^◌, ◌<◌, ◌≤◌, List, [], ◌∷◌, ◌++◌, length, take, drop, refl, sym, ◌∙◌, ap, arith, append_assoc, length-append}
use Rattle.std.proofs.lemmas.List.{take_at, drop_at}
use Rattle.std.proofs.lemmas.Nat.{from_be_bytes-to_be_bytes_4}
use Rattle.mesa_journal.specs.Journal.{word, of_word, needed_of, frames, AllFit, Closed, NoRecord, IsJournal, IsDamaged}
use Rattle.mesa_journal.specs.Read.{placed_from, Finds, Agrees, AgreesOnDamage}
use Rattle.mesa_journal.specs.declared.reading.JournalRead.{JournalRead}
use Rattle.mesa_journal.specs.declared.reading.JournalError.{JournalError}
use Rattle.mesa_journal.specs.declared.reading.JournalError.TheVariants.{Fault, Damaged, Memory}
use Rattle.mesa_journal.proofs.Bytes.{length-word}
use Rattle.mesa_journal.proofs.Tails.{needed_of_long}

of_word-word : (n : ℕ) → n < 2 ^ 32 → of_word (word n) ≡ n
unfolding of_word word
of_word-word n small = from_be_bytes-to_be_bytes_4 n small

of_word-append : (n : ℕ) (xs : List ℕ) → of_word (word n ++ xs) ≡ of_word (word n)
unfolding of_word word
of_word-append n xs = refl

same_word : (m n : ℕ) → m < 2 ^ 32 → n < 2 ^ 32 → word m ≡ word n → m ≡ n
same_word m n small small' is = sym (of_word-word m small) ∙ ap of_word is ∙ of_word-word n small'

-- one record in front
record SameFront (b c xs ys : List ℕ) : Type 0 where
  body : b ≡ c
  rest : xs ≡ ys

same_front : (b c xs ys : List ℕ) → length b < 2 ^ 32 → length c < 2 ^ 32 → (word (length b) ++ b) ++ xs ≡ (word (length c) ++ c) ++ ys → SameFront b c xs ys
same_front b c xs ys fit fit' is =
    let split : word (length b) ++ (b ++ xs) ≡ word (length c) ++ (c ++ ys) = sym (append_assoc (word (length b)) b xs) ∙ is ∙ append_assoc (word (length c)) c ys in
    let words : word (length b) ≡ word (length c) = sym (take_at (word (length b)) (b ++ xs) 4 (length-word (length b))) ∙ ap (λ (l : List ℕ). take 4 l) split ∙ take_at (word (length c)) (c ++ ys) 4 (length-word (length c)) in
    let tails : b ++ xs ≡ c ++ ys = sym (drop_at (word (length b)) (b ++ xs) 4 (length-word (length b))) ∙ ap (λ (l : List ℕ). drop 4 l) split ∙ drop_at (word (length c)) (c ++ ys) 4 (length-word (length c)) in
    let len : length b ≡ length c = same_word _ _ fit fit' words in
    record {
      body = sym (take_at b xs (length b) refl) ∙ ap (λ (l : List ℕ). take (length b) l) tails ∙ take_at c ys (length b) (sym len);
      rest = sym (drop_at b xs (length b) refl) ∙ ap (λ (l : List ℕ). drop (length b) l) tails ∙ drop_at c ys (length b) (sym len);
    }

cancel : (x y : ℕ) (xs ys : List ℕ) → x ∷ xs ≡ y ∷ ys → xs ≡ ys
cancel x y xs ys is = cc

pub same_bodies : (bs cs : List (List ℕ)) (g h : ℕ) (xs ys : List ℕ) → AllFit bs → AllFit cs → g ≢ 1 → h ≢ 1 → frames bs ++ g ∷ xs ≡ frames cs ++ h ∷ ys → bs ≡ cs
same_bodies [] [] g h xs ys fit fit' shut shut' is = refl
same_bodies [] (c ∷ cs) g h xs ys fit fit' shut shut' is = let e : g ≡ 1 = cc in absurd (shut e)
same_bodies (b ∷ bs) [] g h xs ys fit fit' shut shut' is = let e : h ≡ 1 = cc in absurd (shut' e)
same_bodies (b ∷ bs) (c ∷ cs) g h xs ys fit fit' shut shut' is =
    let inner = sym (append_assoc (word (length b) ++ b) (frames bs) (g ∷ xs)) ∙ cancel 1 1 _ _ is ∙ append_assoc (word (length c) ++ c) (frames cs) (h ∷ ys) in
    let front = same_front b c (frames bs ++ g ∷ xs) (frames cs ++ h ∷ ys) fit.0 fit'.0 inner in
    λ i. front.body i ∷ same_bodies bs cs g h xs ys fit.1 fit'.1 shut shut' front.rest i

-- a whole record behind an open gate has what it needs
enough : (c : List ℕ) (ys tail : List ℕ) → length c < 2 ^ 32 → 0 < length ys → tail ≡ (word (length c) ++ c) ++ ys → needed_of tail ≤ length tail + 1
enough c ys tail fit some is =
    let len : length tail ≡ 4 + length c + length ys = ap length is ∙ length-append (word (length c) ++ c) ys ∙ omega (arith, length-append (word (length c)) c, length-word (length c)) in
    let first : of_word tail ≡ length c = ap of_word (is ∙ append_assoc (word (length c)) c ys) ∙ of_word-append (length c) (c ++ ys) ∙ of_word-word (length c) fit in
    omega (arith, needed_of_long tail (omega (arith, len)), first, len, some)

pub never_both : (bs cs : List (List ℕ)) (h : ℕ) (tail ys : List ℕ) → AllFit bs → AllFit cs → h ≢ 1 → length tail + 1 < needed_of tail → frames bs ++ 1 ∷ tail ≡ frames cs ++ h ∷ ys → ⊥
never_both [] [] h tail ys fit fit' shut short is = let e : h ≡ 1 = cc in shut e
never_both [] (c ∷ cs) h tail ys fit fit' shut short is =
    let inner : tail ≡ (word (length c) ++ c) ++ (frames cs ++ h ∷ ys) = cancel 1 1 _ _ is ∙ append_assoc (word (length c) ++ c) (frames cs) (h ∷ ys) in
    let long = enough c (frames cs ++ h ∷ ys) tail fit'.0 (omega (arith, length-append (frames cs) (h ∷ ys))) inner in
    omega (arith, long, short)
never_both (b ∷ bs) [] h tail ys fit fit' shut short is = let e : h ≡ 1 = cc in shut e
never_both (b ∷ bs) (c ∷ cs) h tail ys fit fit' shut short is =
    let inner = sym (append_assoc (word (length b) ++ b) (frames bs) (1 ∷ tail)) ∙ cancel 1 1 _ _ is ∙ append_assoc (word (length c) ++ c) (frames cs) (h ∷ ys) in
    let front = same_front b c (frames bs ++ 1 ∷ tail) (frames cs ++ h ∷ ys) fit.0 fit'.0 inner in
    never_both bs cs h tail ys fit.1 fit'.1 shut short front.rest

-- no record, and none by a gate
none_short : (area : List ℕ) (bodies cs : List (List ℕ)) (end e : ℕ) → NoRecord area bodies end → Closed area cs e → bodies ≡ cs
none_short area bodies [] end e none closed = none.none
none_short area bodies (c ∷ cs) end e none closed = absurd (omega (arith, none.short, ap length closed.split, length-append (frames (c ∷ cs)) (closed.gate ∷ closed.rest), length-append (word (length c) ++ c) (frames cs), length-append (word (length c)) c, length-word (length c)))

pub same_journal : (area : List ℕ) (bodies cs : List (List ℕ)) (end e : ℕ) → IsJournal area bodies end → IsJournal area cs e → bodies ≡ cs
same_journal area bodies cs end e (inl none) (inl none') = none.none ∙ sym none'.none
same_journal area bodies cs end e (inl none) (inr closed) = none_short area bodies cs end e none closed
same_journal area bodies cs end e (inr closed) (inl none) = sym (none_short area cs bodies e end none closed)
same_journal area bodies cs end e (inr closed) (inr closed') = same_bodies bodies cs closed.gate closed'.gate closed.rest closed'.rest closed.fit closed'.fit closed.shut closed'.shut (sym closed.split ∙ closed'.split)

ends_at : (area : List ℕ) (bodies : List (List ℕ)) (end : ℕ) → IsJournal area bodies end → end ≡ length (frames bodies)
ends_at area bodies end (inl none) = none.ends ∙ ap (λ bs. length (frames bs)) (sym none.none)
ends_at area bodies end (inr closed) = closed.ends

pub same_end : (area : List ℕ) (bodies cs : List (List ℕ)) (end e : ℕ) → IsJournal area bodies end → IsJournal area cs e → end ≡ e
same_end area bodies cs end e one other = ends_at area bodies end one ∙ ap (λ bs. length (frames bs)) (same_journal area bodies cs end e one other) ∙ sym (ends_at area cs e other)

pub not_damaged : (area : List ℕ) (bodies : List (List ℕ)) (end at want : ℕ) → IsJournal area bodies end → IsDamaged area at want → ⊥
not_damaged area bodies end at want (inl none) damaged = omega (arith, none.short, damaged.some)
not_damaged area bodies end at want (inr closed) damaged =
    never_both damaged.bodies bodies closed.gate damaged.tail closed.rest damaged.fit closed.fit closed.shut
    (omega (arith, damaged.short, damaged.wants, damaged.place, ap length damaged.split, length-append (frames damaged.bodies) (1 ∷ damaged.tail)))
    (sym damaged.split ∙ closed.split)

-- an area is damaged in one place
same_damage_bodies : (bs cs : List (List ℕ)) (xs ys : List ℕ) → AllFit bs → AllFit cs → length xs + 1 < needed_of xs → length ys + 1 < needed_of ys → frames bs ++ 1 ∷ xs ≡ frames cs ++ 1 ∷ ys → bs ≡ cs
same_damage_bodies [] [] xs ys fit fit' short short' is = refl
same_damage_bodies [] (c ∷ cs) xs ys fit fit' short short' is =
    let inner : xs ≡ (word (length c) ++ c) ++ (frames cs ++ 1 ∷ ys) = cancel 1 1 _ _ is ∙ append_assoc (word (length c) ++ c) (frames cs) (1 ∷ ys) in
    let long = enough c (frames cs ++ 1 ∷ ys) xs fit'.0 (omega (arith, length-append (frames cs) (1 ∷ ys))) inner in
    absurd (omega (arith, long, short))
same_damage_bodies (b ∷ bs) [] xs ys fit fit' short short' is =
    let inner : ys ≡ (word (length b) ++ b) ++ (frames bs ++ 1 ∷ xs) = cancel 1 1 _ _ (sym is) ∙ append_assoc (word (length b) ++ b) (frames bs) (1 ∷ xs) in
    let long = enough b (frames bs ++ 1 ∷ xs) ys fit.0 (omega (arith, length-append (frames bs) (1 ∷ xs))) inner in
    absurd (omega (arith, long, short'))
same_damage_bodies (b ∷ bs) (c ∷ cs) xs ys fit fit' short short' is =
    let inner = sym (append_assoc (word (length b) ++ b) (frames bs) (1 ∷ xs)) ∙ cancel 1 1 _ _ is ∙ append_assoc (word (length c) ++ c) (frames cs) (1 ∷ ys) in
    let front = same_front b c (frames bs ++ 1 ∷ xs) (frames cs ++ 1 ∷ ys) fit.0 fit'.0 inner in
    λ i. front.body i ∷ same_damage_bodies bs cs xs ys fit.1 fit'.1 short short' front.rest i

shortness : (area : List ℕ) (at want : ℕ) (d : IsDamaged area at want) → length d.tail + 1 < needed_of d.tail
shortness area at want d = omega (arith, d.short, d.wants, d.place, ap length d.split, length-append (frames d.bodies) (1 ∷ d.tail))

record SameDamage (at want a w : ℕ) : Type 0 where
  place : a ≡ at
  wants : w ≡ want

same_damage : (area : List ℕ) (at want a w : ℕ) → IsDamaged area at want → IsDamaged area a w → SameDamage at want a w
same_damage area at want a w d e =
    let bodies = same_damage_bodies d.bodies e.bodies d.tail e.tail d.fit e.fit (shortness area at want d) (shortness area a w e) (sym d.split ∙ e.split) in
    let place : a ≡ at = e.place ∙ ap (λ bs. length (frames bs)) (sym bodies) ∙ sym d.place in
    let both : frames d.bodies ++ 1 ∷ d.tail ≡ frames d.bodies ++ 1 ∷ e.tail = sym d.split ∙ e.split ∙ ap (λ bs. frames bs ++ 1 ∷ e.tail) (sym bodies) in
    let rest : 1 ∷ d.tail ≡ 1 ∷ e.tail =
    sym (drop_at (frames d.bodies) (1 ∷ d.tail) (length (frames d.bodies)) refl) ∙ ap (λ (l : List ℕ). drop (length (frames d.bodies)) l) both ∙ drop_at (frames d.bodies) (1 ∷ e.tail) (length (frames d.bodies)) refl in
    let tails : d.tail ≡ e.tail = cancel 1 1 _ _ rest in
    record { place = place; wants = omega (arith, d.wants, e.wants, place, ap needed_of tails) }

pub agrees : (area : List ℕ) (bodies : List (List ℕ)) (end : ℕ) (result : Result JournalRead JournalError) → IsJournal area bodies end → Finds area result → Agrees bodies end result
agrees area bodies end (Ok read) is found = (found.1 ∙ ap (placed_from 0) (same_journal area _ bodies _ end found.0 is), same_end area _ bodies _ end found.0 is)
agrees area bodies end (Err (Damaged at want found)) is damaged = not_damaged area bodies end at want is damaged.0
agrees area bodies end (Err Fault) is found = tt
agrees area bodies end (Err Memory) is found = tt

pub agrees_on_damage : (area : List ℕ) (at want : ℕ) (result : Result JournalRead JournalError) → IsDamaged area at want → Finds area result → AgreesOnDamage area at want result
agrees_on_damage area at want (Ok read) is found = not_damaged area _ _ at want found.0 is
agrees_on_damage area at want (Err (Damaged a w found)) is damaged = let same = same_damage area at want a w is damaged.0 in (same.place, same.wants, damaged.1)
agrees_on_damage area at want (Err Fault) is found = tt
agrees_on_damage area at want (Err Memory) is found = tt
