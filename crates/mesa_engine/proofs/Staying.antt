-- How each turn that moves no image keeps a vault.
use Rattle.std.proofs.Common.{◌≡◌, ℕ, ◌+◌, ◌≤◌, List, [], ◌∷◌, ◌++◌, length, Bool, true, not, refl, sym, ap, subst, arith, Option, None, Some, IsTrue}
use Rattle.std.specs.Prelude.{filter}
use Rattle.mesa_commit.specs.Images.{Has}
use Rattle.mesa_disk.specs.Image.{Image}
use Rattle.mesa_disk.specs.Story.{Story, Unmoved}
use Rattle.mesa_lease.specs.Book.{Book}
use Rattle.mesa_model.specs.declared.entries.Entry.{Entry}
use Rattle.mesa_catalog.specs.mesa_store_spec.Contents.{kept_of}
use Rattle.mesa_catalog.specs.mesa_store_spec.Fitting.{live_files}
use Rattle.mesa_catalog.specs.mesa_store_spec.Sound.{StandsFor, wants}
use Rattle.mesa_commit.specs.declared.trash.Hold.{Hold}
use Rattle.mesa_invariant_spec.specs.Books.{pinned_books, released_books}
use Rattle.mesa_invariant_spec.specs.Invariant.{Outset, KeepsInvariant, AllStand}
use Rattle.mesa_engine.specs.EngineState.{OpenQuery, EngineState, books_of, next_id}
use Rattle.mesa_engine.specs.Turned.{pin_now, pinned_state, is_held_pin, released_state, queried_state, answered_state, leased_state, shut_state}
use Rattle.mesa_engine.specs.Vault.{Origin, IsVersioned, IsVault}
use Rattle.mesa_engine.proofs.Holding.{AreKept, hold_at, holds_stay, seen_more, pin_kept, query_kept, fewer_kept}
use Rattle.mesa_engine.proofs.Pins.{pinned_as, released_as, counted_more}
use Rattle.mesa_engine.proofs.ReadOnly.{kept_holds, quiet_vault}
use Rattle.mesa_engine.proofs.RecordedStates.{more_given}
use Rattle.mesa_engine.proofs.Standing.{held_stand, held_there}

all_stay : {A : Type 0} (xs : List A) → filter (λ x. true) xs ≡ xs
all_stay [] = refl
all_stay (x ∷ xs) = ap (λ ys. x ∷ ys) (all_stay xs)

module _ (o : Outset) (g : Origin) (sound : Bool) (l : EngineState) (story : Story) (held : Option (List ℕ)) (h : List Entry) (running refused : Bool) (v : IsVault o g sound l story held h running refused) where
  -- while a vault is open, each image stands for its catalogue, and a read gives its files
  pub stands_now : l.closed ≡ None → IsTrue sound → AllStand StandsFor story (kept_of v.rows l.catalogue)
  stands_now is ok = held_stand story l.area v.bodies l.end l.catalogue v.rows (v.stands ok is)

  pub there_now : l.closed ≡ None → IsTrue sound → (i : Image) → story.told ≡ Some i → Has (wants v.rows (live_files l.catalogue)) i
  there_now is ok i told = held_there story l.area v.bodies l.end l.catalogue v.rows (v.stands ok is) i told

  module _ (e : Entry) (new : Story) (new_held : Option (List ℕ)) (now told : Bool) (same : Unmoved story new) where
    abbrev kept : AreKept v.rows sound story.told v.seen l (length h)
    kept = kept_holds o g sound l story held h running refused v

    abbrev stay : AreKept v.rows sound story.told v.seen l (length h + 1)
    stay = holds_stay v.rows sound story.told v.seen l (length h) kept

    -- Nothing changes: a look, an explain, whatever is refused or not done, a query at a pin, and a turn that is skipped.
    pub still_vault : KeepsInvariant o sound (books_of v.rows l) new new_held h e now told → IsVault o g sound l new new_held (h ++ e ∷ []) now told
    still_vault on =
        quiet_vault o g sound l story held h running refused v l.pins l.queries l.leases l.given l.closed e new new_held now told on same (λ is. is) (omega arith) (more_given (length h) l.given v.counts.given) v.seen stay

    -- The leases change: one is granted or renewed, or has ended.
    pub leased_vault : (leases : Book) → leases.granted ≤ l.leases.granted + 1 → KeepsInvariant o sound (books_of v.rows (leased_state l leases)) new new_held h e now told → IsVault o g sound (leased_state l leases) new new_held (h ++ e ∷ []) now told
    leased_vault leases granted on =
        quiet_vault o g sound l story held h running refused v l.pins l.queries leases l.given l.closed e new new_held now told on same (λ is. is) granted (more_given (length h) l.given v.counts.given) v.seen
        (record { filed = stay.filed; copies = stay.copies; versions = stay.versions; sound_rows = stay.sound_rows; there = stay.there })

    -- It closes: a file that was built has failed, where the clock stands at its last value; a work's lease may have ended.
    pub closed_vault : (leases : Book) (position : ℕ) → leases.granted ≤ l.leases.granted → KeepsInvariant o sound (books_of v.rows (shut_state (leased_state l leases) position)) new new_held h e now told
        → IsVault o g sound (shut_state (leased_state l leases) position) new new_held (h ++ e ∷ []) now told
    closed_vault leases position granted on =
        quiet_vault o g sound l story held h running refused v l.pins l.queries leases l.given (Some position) e new new_held now told on same (λ is. absurd (let never : Some position ≡ None = is in cc)) (omega (arith, granted)) (more_given (length h) l.given v.counts.given) v.seen
        (record { filed = stay.filed; copies = stay.copies; versions = stay.versions; sound_rows = stay.sound_rows; there = stay.there })

    -- ---- queries

    -- A query is answered, and holds the files that it is answered from.
    pub queried_vault : l.closed ≡ None → (session : ℕ) (hold : Hold) → hold ≡ hold_at (length h) (next_id l) → KeepsInvariant o sound (books_of v.rows (queried_state l session hold)) new new_held h e now told
        → IsVault o g sound (queried_state l session hold) new new_held (h ++ e ∷ []) now told
    queried_vault is session hold hold_is on =
        quiet_vault o g sound l story held h running refused v l.pins (l.queries ++ record { session = session; hold = hold } ∷ []) l.leases l.given l.closed e new new_held now told on same (λ o. o) (omega arith) (more_given (length h) l.given v.counts.given)
        (seen_more v.seen (length h) l.catalogue)
        (query_kept v.rows sound story.told v.seen l (length h) kept v.shaped (λ ok. (v.sound_rows ok).0) (there_now is) (record { session = session; hold = hold }) hold_is)

    -- Its hold is given back.
    pub answered_vault : (stays : OpenQuery → Bool) → KeepsInvariant o sound (books_of v.rows (answered_state l stays)) new new_held h e now told → IsVault o g sound (answered_state l stays) new new_held (h ++ e ∷ []) now told
    answered_vault stays on =
        quiet_vault o g sound l story held h running refused v l.pins (answered_state l stays).queries l.leases l.given l.closed e new new_held now told on same (λ is. is) (omega arith) (more_given (length h) l.given v.counts.given) v.seen
        (subst (λ pins. AreKept v.rows sound story.told v.seen (record l { pins = pins; queries = (answered_state l stays).queries }) (length h + 1)) (all_stay l.pins)
        (fewer_kept v.rows sound story.told v.seen l (length h) kept (λ p. true) stays))

    -- ---- pins

    -- A version is pinned.
    pub pinned_vault : l.closed ≡ None → (session version : ℕ) (hold : Hold) → hold ≡ hold_at (length h) (next_id l) → IsVersioned (pin_now l session version hold) → KeepsInvariant o sound (pinned_books session version (books_of v.rows l)) new new_held h e now told
        → IsVault o g sound (pinned_state l session version hold) new new_held (h ++ e ∷ []) now told
    pinned_vault is session version hold hold_is versioned on =
        quiet_vault o g sound l story held h running refused v (pinned_state l session version hold).pins l.queries l.leases (pinned_state l session version hold).given l.closed e new new_held now told
        (subst (λ b. KeepsInvariant o sound b new new_held h e now told) (sym (pinned_as v.rows l session version hold)) on) same (λ o. o) (omega arith) (counted_more (length h) l.given session v.counts.given) v.seen
        (let more = pin_kept v.rows sound story.told v.seen l (length h) kept v.shaped (λ ok. (v.sound_rows ok).0) (there_now is) (pin_now l session version hold) hold_is refl versioned in
        record { filed = more.filed; copies = more.copies; versions = more.versions; sound_rows = more.sound_rows; there = more.there })

    -- A pin is released.
    pub released_vault : (session token : ℕ) → KeepsInvariant o sound (released_books session token (books_of v.rows l)) new new_held h e now told → IsVault o g sound (released_state l session token) new new_held (h ++ e ∷ []) now told
    released_vault session token on =
        quiet_vault o g sound l story held h running refused v (released_state l session token).pins l.queries l.leases l.given l.closed e new new_held now told
        (subst (λ b. KeepsInvariant o sound b new new_held h e now told) (sym (released_as v.rows l session token)) on) same (λ is. is) (omega arith) (more_given (length h) l.given v.counts.given) v.seen
        (subst (λ queries. AreKept v.rows sound story.told v.seen (record l { pins = (released_state l session token).pins; queries = queries }) (length h + 1)) (all_stay l.queries)
        (fewer_kept v.rows sound story.told v.seen l (length h) kept (λ p. not (is_held_pin session token p)) (λ q. true)))
