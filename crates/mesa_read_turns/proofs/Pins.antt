-- How a pin keeps a vault.
use Rattle.std.proofs.Common.{◌≡◌, ℕ, zero, suc, ◌+◌, ◌-◌, ◌<◌, ◌≤◌, ◌^◌, List, [], ◌∷◌, ◌++◌, length, map, Bool, true, false, ◌==◌, ◌||◌, ◌⊎◌, inl, inr, refl, sym, ap, subst, arith, Option, None, Some, Result, Ok, Err, nat_le, nat_lt}
use Rattle.std.specs.Prelude.{IfErr, IfOk}
use Rattle.std.specs.List.{AllByRecursion}
use Rattle.std.proofs.lemmas.Bool.{leb-false, ltb-false}
use Rattle.std.proofs.lemmas.List.{length-map}
use Rattle.std.proofs.lemmas.Simd.{map-map}
use Rattle.mesa_disk.specs.Story.{Story}
use Rattle.mesa_filter.specs.declared.words.VersionWord.{VersionWord}
use Rattle.mesa_filter.specs.declared.words.VersionWord.TheVariants as asks
use Rattle.mesa_engine.specs.mesa_store_spec.Catalog.{Catalog, TableMeta}
use Rattle.mesa_engine.specs.mesa_store_spec.Shape.{IsCatalog, IsShaped}
use Rattle.mesa_pick_files.specs.mesa_list.Checks.{◌>>=◌, ◌>>◌, refuse_if}
use Rattle.mesa_model.specs.Pins.{count_at, make_pin, next_token, with_pin}
use Rattle.mesa_model.specs.Refusals.{refuse_closed}
use Rattle.mesa_model.specs.Versions.{common_oldest, oldest_among, version_asked}
use Rattle.mesa_model.specs.Warehouse.{Table, Warehouse, max_pins, newest_of}
use Rattle.mesa_model.specs.declared.commands.Command.TheVariants as command
use Rattle.mesa_model.specs.declared.entries.Entry.{Entry}
use Rattle.mesa_model.specs.declared.entries.Kind.TheVariants as kind
use Rattle.mesa_model.specs.declared.entries.Outcome.TheVariants as outcome
use Rattle.mesa_model.specs.declared.replies.Refusal.{Refusal}
use Rattle.mesa_model.specs.declared.replies.Refusal.TheVariants as no
use Rattle.mesa_model.specs.declared.replies.Reply.{Reply}
use Rattle.mesa_model.specs.declared.replies.Reply.TheVariants as reply
use Rattle.mesa_engine.specs.mesa_history_spec.Run.{First}
use Rattle.mesa_engine.specs.mesa_history_spec.Turns.{IsDue}
use Rattle.mesa_engine.specs.mesa_history_spec.Output.{block}
use Rattle.mesa_validate.specs.Seen.{HasCatalog, known_of}
use Rattle.mesa_engine.specs.mesa_history_spec.Rows.{Rows}
use Rattle.mesa_engine.specs.Engine.{most_turns}
use Rattle.mesa_engine.specs.mesa_invariant_spec.Causes.{told_at}
use Rattle.mesa_engine.specs.mesa_invariant_spec.Changes.{MakesPin}
use Rattle.mesa_engine.specs.mesa_invariant_spec.Printing.{IsPut}
use Rattle.mesa_engine.specs.mesa_invariant_spec.Turns.{entry}
use Rattle.mesa_engine.specs.mesa_invariant_spec.Invariant.{Outset, run_of}
use Rattle.mesa_engine.proofs.mesa_invariant_spec.Pinning.{pin_turn}
use Rattle.mesa_engine.proofs.mesa_invariant_spec.Turning.{stays}
use Rattle.mesa_engine.specs.EngineState.{EngineState, bare_held, books_of, projection_of, projections}
use Rattle.mesa_engine.specs.Turned.{pinned_state}
use Rattle.mesa_engine.specs.Vault.{Origin, IsVault}
use Rattle.mesa_engine.proofs.Staying.{pinned_vault}
use Rattle.mesa_engine.specs.Memory.{hold_now}

-- ---- results

pub ok_so : {T E : Type 0} (r : Result T E) (P Q : T → Type 0) → IfOk r P → ((x : T) → P x → Q x) → IfOk r Q
ok_so (Ok x) P Q is so = so x is
ok_so (Err e) P Q is so = tt

pub err_so : {T E : Type 0} (r : Result T E) (P Q : E → Type 0) → IfErr r P → ((e : E) → P e → Q e) → IfErr r Q
err_so (Ok x) P Q is so = tt
err_so (Err e) P Q is so = so e is

-- ---- the books have the catalogue

module _ (rows : Rows) (l : EngineState) where
  -- they have the state's catalogue
  pub catalog_there : (c : Catalog) → c ≡ l.catalogue → l.closed ≡ None → HasCatalog c (books_of rows l).bare
  catalog_there c is open' =
      subst (λ (x : Catalog). HasCatalog x (books_of rows l).bare) (sym is) (record {
        opened = open';
        tables = map-map known_of projection_of l.catalogue.tables;
        oldests = map-map (λ (t : Table). t.oldest) projection_of l.catalogue.tables;
        floor = refl;
        next = refl;
      })

  pub pins_counted : length (books_of rows l).bare.pins ≡ length l.pins
  pins_counted = length-map l.pins bare_held

-- ---- a pin's version is one that the catalogue has

version_in : Reply → ℕ
version_in (reply.Pinned token v) = v
version_in r = 0

module _ (w : Warehouse) where
  abbrev made : ℕ → ℕ → Result (Warehouse × Reply) Refusal
  made s v = Ok (with_pin w s v, reply.Pinned (next_token w s) v)

  asked_version : (s : ℕ) (asked : VersionWord) (v : ℕ) → make_pin w s asked ≡ made s v → version_asked w (common_oldest w.store) asked ≡ Ok v
  unfolding version_in
  asked_version s asked v is = by w.closed (version_asked w (common_oldest w.store) asked) (nat_le max_pins (length w.pins)) is
    where
      by : (o : Option ℕ) (q : Result ℕ Refusal) (b : Bool) → (refuse_closed o >> (q >>= (λ version. refuse_if b (no.PinsFull max_pins) >> made s version))) ≡ made s v → q ≡ Ok v
      by (Some p) q b e = absurd cc
      by None (Err x) b e = absurd cc
      by None (Ok u) true e = absurd cc
      by None (Ok u) false e = let same : (with_pin w s u, reply.Pinned (next_token w s) u) ≡ (with_pin w s v, reply.Pinned (next_token w s) v) = cc in ap (λ (d : Warehouse × Reply). Ok (version_in d.1)) same

  -- ---- where this version is the oldest

  module _ (oldest : ℕ) where
    abbrev IsThere : ℕ → Type 0
    IsThere v = (oldest ≤ v) × (v < w.next)

    newest_there : (none : Bool) (v : ℕ) → (refuse_if none (no.Future asks.Latest None) >> Ok (w.next - 1)) ≡ Ok v → (none ≡ false → 0 < w.next) → (oldest < w.next) ⊎ ((oldest ≡ 0) × (w.next ≡ 0)) → IsThere v
    newest_there true v is some there = absurd cc
    newest_there false v is some there =
        let last : w.next - 1 ≡ v = cc in
        let more = some refl in
        elim there [ inl low ↦ (omega (arith, low, last, more), omega (arith, last, more)) | inr empty ↦ (let zero = empty.1 in (omega (arith, zero, more), omega (arith, zero, more))) ]

    checked_there : (stale future : Bool) (version v : ℕ) → ((refuse_if stale (no.Stale version oldest) >> refuse_if future (no.Future (asks.At version) (newest_of w))) >> Ok version) ≡ Ok v
        → (stale ≡ false → oldest ≤ version) → (future ≡ false → version < w.next) → IsThere v
    checked_there true future version v is low high = absurd cc
    checked_there false true version v is low high = absurd cc
    checked_there false false version v is low high = let same : version ≡ v = cc in (let a = low refl in omega (arith, a, same), (let b = high refl in omega (arith, b, same)))

    version_there : (asked : VersionWord) (v : ℕ) → version_asked w oldest asked ≡ Ok v → (oldest < w.next) ⊎ ((oldest ≡ 0) × (w.next ≡ 0)) → IsThere v
    version_there asks.Latest v is there = newest_there (w.next == 0) v is (some w.next) there
      where
        some : (n : ℕ) → (n == 0) ≡ false → 0 < n
        some zero e = absurd cc
        some (suc n) e = omega arith
    version_there (asks.At version) v is there = checked_there (nat_lt version oldest) (nat_le w.next version) version v is (ltb-false version oldest) (leb-false w.next version)
    version_there (asks.Pin token) v is there = absurd cc

-- ---- the first version that all tables have is there, where any is

among_there : (floor next : ℕ) (tables : List TableMeta) → AllByRecursion (IsShaped floor next) tables → (floor < next) ⊎ ((floor ≡ 0) × (next ≡ 0))
    → (oldest_among floor (map projection_of tables) < next) ⊎ ((oldest_among floor (map projection_of tables) ≡ 0) × (next ≡ 0))
among_there floor next [] all there = there
among_there floor next (t ∷ tables) all there =
    elim (among_there floor next tables all.1 there) [
      | inl low ↦ inl (elim all.0.oldest [ inl own ↦ omega (arith, own, low) | inr empty ↦ (let none = empty.1 in omega (arith, none, low)) ])
      | inr empty ↦ (let zero = empty.0 in let none = empty.1 in elim all.0.oldest [ inl own ↦ absurd (omega (arith, own, none)) | inr its ↦ (let first = its.0 in inr (omega (arith, first, zero), none)) ])
    ]

common_there : (c : Catalog) → IsCatalog c → (common_oldest (projections c) < c.next) ⊎ ((common_oldest (projections c) ≡ 0) × (c.next ≡ 0))
common_there c is = among_there c.floor c.next c.tables is.tables is.floor

-- ---- its turn

-- the vault with the pin
pub with_pin_vault : (o : Outset) (g : Origin) (sound : Bool) (l : EngineState) (story : Story) (held : Option (List ℕ)) (h : List Entry) (running refused : Bool) → IsVault o g sound l story held h running refused
    → (s number : ℕ) → s < 2 ^ 16 → number < 2 ^ 32 → (m : ℕ) → m ≡ story.moment → running ≡ true → (at : ℕ) → at ≡ length h → l.closed ≡ None → (asked : VersionWord) (version : ℕ) (a : Rows) → IsDue o.script (run_of o h) s number (command.Pin asked) First
    → MakesPin (books_of a l) s asked version
    → (now : Bool) (new_held : Option (List ℕ)) → IsPut (block (entry s number kind.Decide outcome.Stands m) (Some (told_at at (reply.Pinned (count_at l.given s + 1) version)))) now held new_held
    → IsVault o g sound (pinned_state l s version (hold_now l at)) story new_held (h ++ entry s number kind.Decide outcome.Stands m ∷ []) now (refused || false)
with_pin_vault o g sound l story held h running refused v s number low few m moment ran at place was_open asked version a due makes now new_held put =
    pinned_vault o g sound l story held h running refused v (entry s number kind.Decide outcome.Stands m) story new_held now (refused || false) (stays story) was_open s version (hold_now l at) (λ i. record { at = place i; next = (hold_now l at).next })
    (version_there (books_of a l).bare (common_oldest (projections l.catalogue)) asked version (asked_version (books_of a l).bare s asked version makes) (common_there l.catalogue v.shaped))
    (pin_turn o sound (books_of v.rows l) story held h running refused v.invariant s number low few m moment ran at place was_open asked due version makes now new_held put)

-- ---- how many pins a session was given

count_within : (counts : List ℕ) (place n : ℕ) → AllByRecursion (λ x. x ≤ n) counts → count_at counts place ≤ n
count_within [] place n all = omega arith
count_within (c ∷ counts) zero n all = all.0
count_within (c ∷ counts) (suc place) n all = count_within counts place n all.1

-- a session's next pin has a token of 32 bits
pub token_fits : (counts : List ℕ) (s n turns : ℕ) → AllByRecursion (λ x. x ≤ n) counts → n < turns → turns ≤ most_turns → count_at counts s + 1 < 2 ^ 32
token_fits counts s n turns all room few = let within = count_within counts s n all in omega (arith, within, room, few)
