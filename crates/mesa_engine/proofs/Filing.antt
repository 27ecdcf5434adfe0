-- The files of holds, through the device work of a turn.
use Rattle.std.proofs.Common.{◌≡◌, ◌⊎◌, inl, inr, ⊎_elim, ℕ, ◌+◌, ◌<◌, ◌≤◌, List, [], ◌∷◌, ◌++◌, map, Option, Bool, true, false, cond, not, refl, sym, ◌∙◌, subst, arith}
use Rattle.std.specs.Prelude.{filter}
use Rattle.std.specs.List.{AllByRecursion}
use Rattle.std.proofs.lemmas.List.{append-nil, map-append}
use Rattle.std.proofs.lemmas.Simd.{map-map}
use Rattle.mesa_disk.specs.Image.{Image}
use Rattle.mesa_commit.specs.Images.{Has}
use Rattle.mesa_commit.specs.Turn.{MovesOnly, made_ids}
use Rattle.mesa_catalog.specs.mesa_store_spec.Catalog.{Catalog}
use Rattle.mesa_catalog.specs.mesa_store_spec.Fitting.{LiveFile, live_files, live_id}
use Rattle.mesa_catalog.specs.mesa_store_spec.Sound.{wants}
use Rattle.mesa_catalog.proofs.mesa_store_spec.Agreeing.{Agrees, agree_wants}
use Rattle.mesa_catalog.specs.mesa_store_spec.Ids.{named}
use Rattle.mesa_invariant_spec.specs.mesa_history_spec.Rows.{Rows}
use Rattle.mesa_commit.specs.declared.trash.Hold.{Hold}
use Rattle.mesa_commit.specs.declared.trash.Dropped.{Dropped}
use Rattle.mesa_commit.specs.Filed.{AreGiven, Renames, waits_after}
use Rattle.mesa_commit.specs.Holding.{Among, is_held, ids_of, freed, kept, dropped_at, Held, holds_of, AreFiled}
use Rattle.mesa_commit.proofs.Adopting.{pin_stays, had_apart}
use Rattle.mesa_commit.proofs.Filing.{filed_later, filed_brought, filed_dropped, filed_removed, freed_unheld}
use Rattle.mesa_commit.proofs.Waiting.{among_front, among_back, dropped_among}
use Rattle.mesa_engine.specs.EngineState.{EngineState, Holder, pin_holder, query_holder, holders, ids_held}
use Rattle.mesa_engine.specs.Recorded.{holds_in}
use Rattle.mesa_engine.proofs.Lists.{among_left, among_split}

-- ---- ids

given_of : (next later : ℕ) (made : List (ℕ × Option (List ℕ))) (id : ℕ) → AreGiven next later made → Among id (made_ids made) → (next ≤ id) × (id < later)
given_of next later [] id given is = absurd is
given_of next later (f ∷ made) id given (inl is) = subst (λ n. (next ≤ n) × (n < later)) is given.0
given_of next later (f ∷ made) id given (inr is) = given_of next later made id given.1 is

-- what waits is kept or freed
kept_or_freed : (test : Dropped → Bool) (id : ℕ) (ds : List Dropped) → Among id (ids_of ds) → Among id (ids_of (filter test ds)) ⊎ Among id (ids_of (filter (λ d. not (test d)) ds))
kept_or_freed test id [] is = absurd is
kept_or_freed test id (d ∷ ds) is = by (test d) is (λ more. kept_or_freed test id ds more)
  where
    by : (b : Bool) → Among id (ids_of (d ∷ ds)) → (Among id (ids_of ds) → Among id (ids_of (filter test ds)) ⊎ Among id (ids_of (filter (λ e. not (test e)) ds)))
        → Among id (ids_of (cond b (d ∷ filter test ds) (filter test ds))) ⊎ Among id (ids_of (cond (not b) (d ∷ filter (λ e. not (test e)) ds) (filter (λ e. not (test e)) ds)))
    by true (inl one) rest = inl (inl one)
    by true (inr more) rest = ⊎_elim (λ a. inl (inr a)) (λ a. inr a) (rest more)
    by false (inl one) rest = inr (inl one)
    by false (inr more) rest = ⊎_elim (λ a. inl a) (λ a. inr (inr a)) (rest more)

-- ---- the holds as the code has them

abbrev hold_of : Holder → Hold
hold_of x = x.0

pub holds_are : (seen : ℕ → Catalog) (l : EngineState) → holds_of (map ids_held (holders seen l)) ≡ holds_in l
holds_are seen l =
    map-map (λ (p : Held). p.0) ids_held (holders seen l) ∙ map-append hold_of (map pin_holder l.pins) (map (query_holder seen) l.queries)
    ∙ (λ i. map-map hold_of pin_holder l.pins i ++ map-map hold_of (query_holder seen) l.queries i)

-- ---- ids, whatever a read tells

-- A turn at a position removes files, and leaves others waiting: no hold is on those that it removes; the holds tell their files still; and each file that was named or waited is named now, waits, or is removed.
pub record IsCleared (position later_id : ℕ) (named : List ℕ) (trash : List Dropped) (pins : List Held) (later : List ℕ) (waits : List Dropped) (removed : List ℕ) : Type 0 where
  pub unheld : (id : ℕ) → Among id removed → AllByRecursion (λ (p : Held). Among id p.1 → ⊥) pins
  pub filed : AreFiled (position + 1) later_id later waits pins
  pub goes : (id : ℕ) → Among id named ⊎ Among id (ids_of trash) → Among id later ⊎ (Among id (ids_of waits) ⊎ Among id removed)

module _ (position next : ℕ) (named : List ℕ) (trash : List Dropped) (pins : List Held) (f : AreFiled position next named trash pins) (made : List (ℕ × Option (List ℕ))) (later_id : ℕ) (given : AreGiven next later_id made) (le : next ≤ later_id) where
  -- files were brought, or not, and no record names them
  pub filed_lost : AreFiled (position + 1) later_id named trash pins
  filed_lost = filed_later position later_id named trash pins (filed_brought position next named trash pins f later_id named le (λ id is. is) (λ id is. inl is)) (position + 1) (omega arith)

  module _ (later gone : List ℕ) (renames : Renames named made later gone) where
    abbrev mid : List ℕ
    mid = named ++ made_ids made

    abbrev waits : List Dropped
    waits = waits_after position trash gone

    brought : AreFiled position later_id mid trash pins
    brought = filed_brought position next named trash pins f later_id mid le (λ id is. among_left id named (made_ids made) is) (λ id is. ⊎_elim (λ (o : Among id named). inl o) (λ n. inr (given_of next later_id made id given n)) (among_split id named (made_ids made) is))

    -- a record names them, and drops others
    pub filed_moved : AreFiled (position + 1) later_id later waits pins
    filed_moved = filed_dropped position later_id mid trash pins brought later gone renames.fewer (λ id is. among_left id named (made_ids made) (renames.were id is)) renames.split renames.apart

    pub filed_recorded : AreFiled (position + 1) later_id later (kept (holds_of pins) waits) pins
    filed_recorded = filed_removed (position + 1) later_id later waits pins filed_moved

    -- a file that was named or waited is named, waits, or is removed
    pub still_waits : (id : ℕ) → Among id named ⊎ Among id (ids_of trash) → Among id later ⊎ (Among id (ids_of (kept (holds_of pins) waits)) ⊎ Among id (ids_of (freed (holds_of pins) waits)))
    still_waits id had = ⊎_elim
        (λ (one : Among id named). ⊎_elim (λ (still : Among id later). inl still)
        (λ (out : Among id gone). inr (kept_or_freed (is_held (holds_of pins)) id waits (among_back id trash (map (dropped_at position) gone) (dropped_among position id gone out)))) (renames.split id (among_left id named (made_ids made) one)))
        (λ two. inr (kept_or_freed (is_held (holds_of pins)) id waits (among_front id trash (map (dropped_at position) gone) two))) had

    -- all files go that no hold is on
    pub freed_cleared : IsCleared position later_id named trash pins later (kept (holds_of pins) waits) (ids_of (freed (holds_of pins) waits))
    freed_cleared = record { unheld = freed_unheld (position + 1) later_id later waits pins filed_moved; filed = filed_recorded; goes = still_waits }

  -- a record drops no file, and all that waited wait still
  pub none_cleared : (later : List ℕ) → Renames named made later [] → IsCleared position later_id named trash pins later trash []
  none_cleared later renames = record {
    unheld = λ id is. absurd is;
    filed = subst (λ ds. AreFiled (position + 1) later_id later ds pins) (append-nil trash) (filed_moved later [] renames);
    goes = λ id had. ⊎_elim (λ (one : Among id named). ⊎_elim (λ (still : Among id later). inl still) (λ out. absurd out) (renames.split id (among_left id named (made_ids made) one))) (λ two. inr (inl two)) had;
  }

-- ---- files of holds

-- what holds of each id that a catalogue names
named_all : (P : ℕ → Type 0) (xs : List LiveFile) → ((id : ℕ) → Among id (map live_id xs) → P id) → AllByRecursion (λ (x : LiveFile). P x.file.id) xs
named_all P [] all = tt
named_all P (x ∷ xs) all = (all x.file.id (inl refl), named_all P xs (λ id is. all id (inr is)))

wanted_all : (P : ℕ → Type 0) (rows : Rows) (xs : List LiveFile) → ((id : ℕ) → Among id (map live_id xs) → P id) → AllByRecursion (λ (w : ℕ × List ℕ). P w.0) (wants rows xs)
wanted_all P rows [] all = tt
wanted_all P rows (x ∷ xs) all = (all x.file.id (inl refl), wanted_all P rows xs (λ id is. all id (inr is)))

module _ (rows later : Rows) (next later_id : ℕ) (agree : (id : ℕ) → id < next → later id ≡ rows id) (c : Catalog) (below : (id : ℕ) → Among id (named c) → id < next) where
  -- files that were there before have the same rows
  pub old_agree : AllByRecursion (Agrees rows later) (live_files c)
  old_agree = named_all (λ id. later id ≡ rows id) (live_files c) (λ id is. agree id (below id is))

  -- and stay, unless they are removed
  pub files_stay : (made : List (ℕ × Option (List ℕ))) (removed : List ℕ) (i j : Image) → MovesOnly made removed i j → AreGiven next later_id made → ((id : ℕ) → Among id removed → Among id (named c) → ⊥) → Has (wants rows (live_files c)) i → Has (wants later (live_files c)) j
  files_stay made removed i j moves given apart has =
      subst (λ f. Has f j) (sym (agree_wants rows later (live_files c) old_agree))
      (pin_stays (wants rows (live_files c)) made removed i j moves (had_apart (wants rows (live_files c)) (named c) next later_id made removed given (wanted_all (λ id. Among id (named c)) rows (live_files c) (λ id is. is)) below apart) has)
