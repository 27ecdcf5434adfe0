-- What is known of areas whose first bodies were read.
use Rattle.std.proofs.Common.{◌≡◌, get_or, inl, inr, ℕ, zero, ◌+◌, ◌<◌, ◌≤◌, List, [], ◌∷◌, ◌++◌, length, true, false, ◌==◌, Option, is_some, Result, Ok, Err, refl, sym, ◌∙◌, ap, subst, arith, append_assoc}
use Rattle.std.specs.Prelude.{unwrap_or, if◌then◌else◌, IfOk, IfErr}
use Rattle.std.specs.Int.{w32, from_be_bytes}
use Rattle.std.proofs.lemmas.Bool.Decides.{nat_tests}
use Rattle.mesa_disk.specs.Image.{Image, area_of}
use Rattle.mesa_disk.specs.declared.area.Area.{Area}
use Rattle.mesa_disk.specs.declared.area.Area.TheVariants.{Zero, One}
use Rattle.mesa_journal.specs.Journal.{word, of_word, frames, IsJournal}
use Rattle.mesa_journal.specs.Areas.{is_checkpoint, number_in, number_of, rank, Leads, IsBehind, HasJournal, IsWhole, holds_body, other_of}
use Rattle.mesa_journal.specs.Live.{first_number, rank_of, FindsLive, IsScanned, IsUnread, IsUnreadIn}
use Rattle.mesa_journal.specs.Read.{Agrees, bodies_of, placed_from}
use Rattle.mesa_journal.specs.declared.both.LiveJournal.{LiveJournal}
use Rattle.mesa_journal.specs.declared.reading.JournalError.{JournalError}
use Rattle.mesa_journal.specs.declared.reading.JournalError.TheVariants.{Fault, Damaged, Memory}
use Rattle.mesa_journal.proofs.Unique.{same_journal}

pub rank_is : (bodies : List (List ℕ)) → rank_of (first_number bodies) ≡ rank bodies
rank_is [] = refl
rank_is (body ∷ bodies) = refl

pub number_is : (bodies : List (List ℕ)) → unwrap_or (first_number bodies) 0 ≡ number_of bodies
number_is [] = refl
number_is (body ∷ bodies) = refl

-- ---- whether an area holds a body

shut : (gate : ℕ) (rest : List ℕ) → (gate ≡ 1 → ⊥) → holds_body (gate ∷ rest) ≡ false
shut gate [] not = refl
shut gate (next ∷ rest) not = (let t : (gate == 1) ≡ false = grind (arith, nat_tests) in t)

none_held : (area : List ℕ) → length area ≤ 1 → holds_body area ≡ false
none_held [] short = refl
none_held (gate ∷ []) short = refl
none_held (gate ∷ next ∷ rest) short = absurd (omega (arith, short))

open_held : (n : ℕ) (rest : List ℕ) → holds_body (1 ∷ (word n ++ rest)) ≡ true
unfolding word
open_held n rest = refl

pub holds_is : (area : List ℕ) (bodies : List (List ℕ)) (end : ℕ) → IsJournal area bodies end → holds_body area ≡ is_some (first_number bodies)
holds_is area bodies end (inl none) = none_held area none.short ∙ ap (λ bs. is_some (first_number bs)) (sym none.none)
holds_is area [] end (inr closed) = ap holds_body closed.split ∙ shut closed.gate closed.rest closed.shut
holds_is area (body ∷ bodies) end (inr closed) =
    let flat : frames (body ∷ bodies) ++ closed.gate ∷ closed.rest ≡ 1 ∷ (word (length body) ++ (body ++ (frames bodies ++ closed.gate ∷ closed.rest))) = simp append_assoc refl in
    ap holds_body (closed.split ∙ flat) ∙ open_held (length body) (body ++ (frames bodies ++ closed.gate ∷ closed.rest))

-- ---- both areas

pub whole_of : (area : List ℕ) (first : Option ℕ) → IsScanned area first → IsWhole area
whole_of area first s = (s.bodies, s.end, s.whole)

-- an area that was read, beside one that is whole and doesn't lead
pub behind_scanned : (live : Area) (area other : List ℕ) (first second : Option ℕ) (bodies : List (List ℕ)) (end : ℕ) → IsJournal area bodies end → IsScanned area first → (o : IsScanned other second)
    → ((bs os : List (List ℕ)) → rank_of first ≡ rank bs → rank_of second ≡ rank os → Leads live bs os) → IsBehind live bodies other
behind_scanned live area other first second bodies end whole s o leads =
    let same : s.bodies ≡ bodies = same_journal area s.bodies bodies s.end end s.whole whole in
    record {
      others = o.bodies;
      end = o.end;
      whole = o.whole;
      leads = leads bodies o.bodies (ap rank_of s.is ∙ rank_is s.bodies ∙ ap rank same) (ap rank_of o.is ∙ rank_is o.bodies);
    }

pub held_scanned : (area : List ℕ) (first : Option ℕ) → IsScanned area first → is_some first ≡ holds_body area
held_scanned area first s = ap is_some s.is ∙ sym (holds_is area s.bodies s.end s.whole)

-- the damage of area 0, and that of area 1 where area 0 is whole
pub unread_zero : (i : Image) (area : Area) (e : JournalError) → area ≡ Zero → IsUnread i.zero e → IsUnreadIn i area e
unread_zero i area e is un = subst (λ a. IsUnreadIn i a e) (sym is) (by e un)
  where
    by : (e : JournalError) → IsUnread i.zero e → IsUnreadIn i Zero e
    by (Damaged at want found) un = un
    by Fault un = tt
    by Memory un = tt

pub unread_one : (i : Image) (area : Area) (e : JournalError) → area ≡ One → IsWhole i.zero → IsUnread i.one e → IsUnreadIn i area e
unread_one i area e is whole un = subst (λ a. IsUnreadIn i a e) (sym is) (by e un)
  where
    by : (e : JournalError) → IsUnread i.one e → IsUnreadIn i One e
    by (Damaged at want found) un = ((whole, un.0), un.1)
    by Fault un = tt
    by Memory un = tt

-- What is read of the live area, beside the other one.
module _ (i : Image) (live : Area) (first second : Option ℕ) (own : IsScanned (area_of live i) first) (other : IsScanned (area_of (other_of live) i) second)
    (leads : (bs os : List (List ℕ)) → rank_of first ≡ rank bs → rank_of second ≡ rank os → Leads live bs os) where
  pub found_live : (r : Result LiveJournal (Area × JournalError)) → IfOk r (λ x. x.live ≡ live) → IfOk r (λ x. x.number ≡ number_of (bodies_of x.read.bodies)) → IfOk r (λ x. x.holds ≡ is_some second)
      → IfOk r (λ x. IsJournal (area_of live i) (bodies_of x.read.bodies) x.read.end) → IfOk r (λ x. x.read.bodies ≡ placed_from 0 (bodies_of x.read.bodies)) → IfErr r (λ e. e.1 ≡ Memory) → FindsLive i r
  found_live (Ok x) is number holds whole places memory =
      let bodies = bodies_of x.read.bodies in
      let journal : HasJournal i live bodies x.read.end = record { whole = whole; behind = behind_scanned live (area_of live i) (area_of (other_of live) i) first second bodies x.read.end whole own other leads } in
      record {
        journal = subst (λ (a : Area). HasJournal i a bodies x.read.end) (sym is) journal;
        places = places;
        number = number;
        holds = subst (λ (a : Area). x.holds ≡ holds_body (area_of (other_of a) i)) (sym is) (holds ∙ held_scanned (area_of (other_of live) i) second other);
      }
  found_live (Err e) is number holds whole places memory = subst (IsUnreadIn i e.0) (sym memory) tt

-- ---- an area that is whole is read, unless memory runs out

pub only_memory : (bodies : List (List ℕ)) (end : ℕ) (e : JournalError) → Agrees bodies end (Err e) → (e ≡ Fault → ⊥) → e ≡ Memory
only_memory bodies end (Damaged at want found) agrees never = absurd agrees
only_memory bodies end Fault agrees never = absurd (never refl)
only_memory bodies end Memory agrees never = refl

pub number_scanned : (area : List ℕ) (first : Option ℕ) (bodies : List (List ℕ)) (end : ℕ) → IsScanned area first → IsJournal area bodies end → unwrap_or first 0 ≡ number_of bodies
number_scanned area first bodies end s whole = ap (λ o. unwrap_or o 0) s.is ∙ number_is s.bodies ∙ ap number_of (same_journal area s.bodies bodies s.end end s.whole whole)

-- ---- the number of a body

pub number_short : (body : List ℕ) → length body < 5 → 0 ≡ number_in body
unfolding number_in
number_short [] short = refl
number_short (k ∷ []) short = refl
number_short (k ∷ a ∷ []) short = refl
number_short (k ∷ a ∷ b ∷ []) short = refl
number_short (k ∷ a ∷ b ∷ c ∷ []) short = refl
number_short (k ∷ a ∷ b ∷ c ∷ d ∷ rest) short = absurd (omega (arith, short))

pub number_other : (body : List ℕ) → is_checkpoint (get_or body 0 0) ≡ false → 0 ≡ number_in body
unfolding number_in
number_other [] e = refl
number_other (k ∷ []) e = refl
number_other (k ∷ a ∷ []) e = refl
number_other (k ∷ a ∷ b ∷ []) e = refl
number_other (k ∷ a ∷ b ∷ c ∷ []) e = refl
number_other (k ∷ a ∷ b ∷ c ∷ d ∷ rest) e = ap (λ t. if◌then◌else◌ {A = ℕ} t (of_word (a ∷ b ∷ c ∷ d ∷ [])) 0) (sym e)

pub number_long : (body : List ℕ) → 5 ≤ length body → is_checkpoint (get_or body 0 0) ≡ true → from_be_bytes w32 (get_or body 1 0 ∷ get_or body 2 0 ∷ get_or body 3 0 ∷ get_or body 4 0 ∷ []) ≡ number_in body
unfolding number_in of_word
number_long [] long e = absurd (omega (arith, long))
number_long (k ∷ []) long e = absurd (omega (arith, long))
number_long (k ∷ a ∷ []) long e = absurd (omega (arith, long))
number_long (k ∷ a ∷ b ∷ []) long e = absurd (omega (arith, long))
number_long (k ∷ a ∷ b ∷ c ∷ []) long e = absurd (omega (arith, long))
number_long (k ∷ a ∷ b ∷ c ∷ d ∷ rest) long e = ap (λ t. if◌then◌else◌ {A = ℕ} t (of_word (a ∷ b ∷ c ∷ d ∷ [])) 0) (sym e)
