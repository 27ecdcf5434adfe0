-- Pins and releases change a vault's books and nothing that a store keeps.
use Rattle.std.proofs.Common.{◌≡◌, ℕ, ◌<◌, ◌^◌, List, [], ◌∷◌, ◌++◌, length, Bool, true, false, refl, sym, ◌∙◌, ap, ◌||◌, Option, None, Some, Result, Ok, Err, nat_le}
use Rattle.std.specs.Prelude.{is_none}
use Rattle.mesa_history_spec.specs.mesa_list.Checks.{◌>>=◌, ◌>>◌, refuse_if}
use Rattle.mesa_disk.specs.Story.{Story}
use Rattle.mesa_history_spec.specs.mesa_filter.declared.words.VersionWord.{VersionWord}
use Rattle.mesa_history_spec.specs.mesa_model.declared.commands.Command.TheVariants as command
use Rattle.mesa_history_spec.specs.mesa_model.declared.entries.Entry.{Entry}
use Rattle.mesa_history_spec.specs.mesa_model.declared.entries.Kind.TheVariants as kind
use Rattle.mesa_history_spec.specs.mesa_model.declared.entries.Outcome.TheVariants as outcome
use Rattle.mesa_history_spec.specs.mesa_model.declared.replies.Refusal.{Refusal}
use Rattle.mesa_history_spec.specs.mesa_model.declared.replies.Refusal.TheVariants as no
use Rattle.mesa_history_spec.specs.mesa_model.declared.replies.Reply.{Reply}
use Rattle.mesa_history_spec.specs.mesa_model.declared.replies.Reply.TheVariants as reply
use Rattle.mesa_history_spec.specs.mesa_model.Warehouse.{Warehouse, max_pins}
use Rattle.mesa_history_spec.specs.mesa_model.Pins.{make_pin, release_pin, with_pin, next_token, store_at, pin_of}
use Rattle.mesa_history_spec.specs.mesa_model.Refusals.{refuse_closed}
use Rattle.mesa_history_spec.specs.mesa_model.Versions.{common_oldest, version_asked}
use Rattle.mesa_history_spec.specs.Run.{First}
use Rattle.mesa_history_spec.specs.Replay.{stepped}
use Rattle.mesa_history_spec.specs.Found.{kept_of}
use Rattle.mesa_history_spec.specs.Turns.{IsDue}
use Rattle.mesa_history_spec.specs.Output.{block}
use Rattle.mesa_history_spec.specs.Bare.{bare, bare_done, bare_result}
use Rattle.mesa_history_spec.proofs.BareSteps.{pin-bare, release-bare}
use Rattle.mesa_invariant_spec.specs.Books.{Books, pinned_books, without_pin, released_books}
use Rattle.mesa_invariant_spec.specs.Causes.{told_at}
use Rattle.mesa_invariant_spec.specs.Changes.{Doing, IsChange, MakesPin, ReleasesPin}
use Rattle.mesa_invariant_spec.specs.Printing.{IsPut}
use Rattle.mesa_invariant_spec.specs.Turns.{entry}
use Rattle.mesa_invariant_spec.specs.Invariant.{Outset, run_of, HoldsInvariant, KeepsInvariant}
use Rattle.mesa_invariant_spec.proofs.Changing.{pin_decided, release_decided, changed_turn}

version_in : Reply → ℕ
version_in (reply.Pinned token v) = v
version_in r = 0

done_in : Result (Warehouse × Reply) Refusal → Warehouse → Warehouse
done_in (Ok d) w = d.0
done_in (Err e) w = w

abbrev pinned_ok : Warehouse → ℕ → ℕ → Result (Warehouse × Reply) Refusal
pinned_ok w s version = Ok (with_pin w s version, reply.Pinned (next_token w s) version)

abbrev released_ok : Warehouse → ℕ → ℕ → Result (Warehouse × Reply) Refusal
released_ok w s token = Ok (record w { pins = without_pin s token w.pins }, reply.Released token)

-- what a pin that was made is
pin_made : (w : Warehouse) (s : ℕ) (asked : VersionWord) (after : Warehouse) (r : Reply) → make_pin w s asked ≡ Ok (after, r) → (v : ℕ) × (after ≡ with_pin w s v) × (r ≡ reply.Pinned (next_token w s) v)
pin_made w s asked after r is = by w.closed (version_asked w (common_oldest w.store) asked) (nat_le max_pins (length w.pins)) is
  where
    by : (o : Option ℕ) (q : Result ℕ Refusal) (b : Bool) → (refuse_closed o >> (q >>= (λ version. refuse_if b (no.PinsFull max_pins) >> pinned_ok w s version))) ≡ Ok (after, r)
        → (v : ℕ) × (after ≡ with_pin w s v) × (r ≡ reply.Pinned (next_token w s) v)
    by (Some p) q b e = absurd cc
    by None (Err x) b e = absurd cc
    by None (Ok v) true e = absurd cc
    by None (Ok v) false e = let same : (with_pin w s v, reply.Pinned (next_token w s) v) ≡ (after, r) = cc in (v, ap (λ (d : Warehouse × Reply). d.0) (sym same), ap (λ (d : Warehouse × Reply). d.1) (sym same))

-- what a warehouse is once a pin was released
pin_released : (w : Warehouse) (s token : ℕ) (after : Warehouse) (r : Reply) → release_pin w s token ≡ Ok (after, r) → (after ≡ record w { pins = without_pin s token w.pins }) × (r ≡ reply.Released token)
pin_released w s token after r is = by w.closed (is_none (pin_of w s token)) is
  where
    by : (o : Option ℕ) (b : Bool) → (refuse_closed o >> (refuse_if b (no.NoPin token) >> released_ok w s token)) ≡ Ok (after, r) → (after ≡ record w { pins = without_pin s token w.pins }) × (r ≡ reply.Released token)
    by (Some p) b e = absurd cc
    by None true e = absurd cc
    by None false e = let same : (record w { pins = without_pin s token w.pins }, reply.Released token) ≡ (after, r) = cc in (ap (λ (d : Warehouse × Reply). d.0) (sym same), ap (λ (d : Warehouse × Reply). d.1) (sym same))

-- the projection after a command, by what the books say it is
pub bare_after : (books : Books) (w : Warehouse) (f : Doing) → bare_result bare_done (f w) ≡ bare_result bare_done (f (bare w)) → bare w ≡ books.bare → (after made : Warehouse) (r : Reply) → f w ≡ Ok (after, r) → f books.bare ≡ Ok (made, r) → bare after ≡ bare made
unfolding done_in
bare_after books w f alike projection after made r one two = ap (λ q. done_in q after) (sym (ap (bare_result bare_done) one) ∙ (alike ∙ ap (λ x. bare_result bare_done (f x)) projection ∙ ap (bare_result bare_done) two))

pub pin_change : (sound : Bool) (books : Books) (s : ℕ) (asked : VersionWord) (v : ℕ) → MakesPin books s asked v → books.bare.closed ≡ None → IsChange sound books (pinned_books s v books) (λ w. make_pin w s asked) (reply.Pinned (next_token books.bare s) v)
unfolding version_in
pin_change sound books s asked v is was_open = record {
  projection = (with_pin books.bare s v, is);
  follows = λ st after had made. (let inv = pin_made st.warehouse s asked after (reply.Pinned (next_token books.bare s) v) made in
      let same : v ≡ inv.0 = ap version_in inv.2 in
      let after_is : after ≡ with_pin st.warehouse s v = inv.1 ∙ ap (with_pin st.warehouse s) (sym same) in
      record {
        projection = bare_after books st.warehouse (λ w. make_pin w s asked) (pin-bare st.warehouse s asked) had.projection after (with_pin books.bare s v) _ made is;
        machine = had.machine;
        rows = λ ok. ap (λ (w : Warehouse). kept_of (stepped st w (reply.Pinned (next_token books.bare s) v))) after_is ∙ had.rows ok;
        pins = λ ok. ap (λ (w : Warehouse). w.pins) after_is
            ∙ (λ i. had.pins ok i ++ record { session = s; token = next_token (had.projection i) s; version = v; store = store_at (had.rows ok i).store v } ∷ []);
      });
  opened = was_open;
  plain = refl;
}

pub release_change : (sound : Bool) (books : Books) (s token : ℕ) → ReleasesPin books s token → books.bare.closed ≡ None → IsChange sound books (released_books s token books) (λ w. release_pin w s token) (reply.Released token)
release_change sound books s token is was_open = record {
  projection = (record books.bare { pins = without_pin s token books.bare.pins }, is);
  follows = λ st after had made. (let inv = pin_released st.warehouse s token after (reply.Released token) made in
      record {
        projection = bare_after books st.warehouse (λ w. release_pin w s token) (release-bare st.warehouse s token) had.projection after (record books.bare { pins = without_pin s token books.bare.pins }) _ made is;
        machine = had.machine;
        rows = λ ok. ap (λ (w : Warehouse). kept_of (stepped st w (reply.Released token))) inv.0 ∙ had.rows ok;
        pins = λ ok. ap (λ (w : Warehouse). w.pins) inv.0 ∙ ap (without_pin s token) (had.pins ok);
      });
  opened = was_open;
  plain = refl;
}

module _ (o : Outset) (sound : Bool) (books : Books) (story : Story) (held : Option (List ℕ)) (h : List Entry) (running refused : Bool) (v : HoldsInvariant o sound books story held h running refused)
    (s n : ℕ) (low : s < 2 ^ 16) (few : n < 2 ^ 32) (m : ℕ) (moment : m ≡ story.moment) (ran : running ≡ true) (at : ℕ) (place : at ≡ length h) (was_open : books.bare.closed ≡ None) where
  -- a version is pinned
  pub pin_turn : (asked : VersionWord) → IsDue o.script (run_of o h) s n (command.Pin asked) First → (version : ℕ) → MakesPin books s asked version → (now : Bool) (new_held : Option (List ℕ))
      → IsPut (block (entry s n kind.Decide outcome.Stands m) (Some (told_at at (reply.Pinned (next_token books.bare s) version)))) now held new_held → KeepsInvariant o sound (pinned_books s version books) story new_held h (entry s n kind.Decide outcome.Stands m) now (refused || false)
  pin_turn asked due version is now new_held put =
      changed_turn o sound books story held h running refused v s n low few (command.Pin asked) First (λ w. make_pin w s asked) (pin_decided s asked) due m ran at place (pinned_books s version books) (reply.Pinned (next_token books.bare s) version)
      (pin_change sound books s asked version is was_open) refl (λ after made. ap (λ (w : Warehouse). kept_of (stepped (run_of o h).state w (reply.Pinned (next_token books.bare s) version))) (pin_made (run_of o h).state.warehouse s asked after _ made).1) moment now new_held put

  -- a pin is released
  pub release_turn : (token : ℕ) → IsDue o.script (run_of o h) s n (command.Release token) First → ReleasesPin books s token → (now : Bool) (new_held : Option (List ℕ))
      → IsPut (block (entry s n kind.Decide outcome.Stands m) (Some (told_at at (reply.Released token)))) now held new_held → KeepsInvariant o sound (released_books s token books) story new_held h (entry s n kind.Decide outcome.Stands m) now (refused || false)
  release_turn token due is now new_held put =
      changed_turn o sound books story held h running refused v s n low few (command.Release token) First (λ w. release_pin w s token) (release_decided s token) due m ran at place (released_books s token books) (reply.Released token)
      (release_change sound books s token is was_open) refl (λ after made. ap (λ (w : Warehouse). kept_of (stepped (run_of o h).state w (reply.Released token))) (pin_released (run_of o h).state.warehouse s token after _ made).0) moment now new_held put
