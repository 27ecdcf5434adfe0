-- The close of a recast: its table is recast, or its lease ends.
use Rattle.std.proofs.Common.{◌≡◌, ℕ, ◌<◌, ◌^◌, List, length, map, slice_set, Bool, true, false, ◌||◌, IsTrue, refl, sym, ◌∙◌, ap, Option, Some, Ok, Err}
use Rattle.mesa_disk.specs.mesa_io.Causes.{last}
use Rattle.mesa_disk.specs.Story.{Story, Unmoved}
use Rattle.mesa_history_spec.specs.mesa_schema.Recasts.{Recast}
use Rattle.mesa_history_spec.specs.mesa_model.declared.commands.Command.{Command}
use Rattle.mesa_history_spec.specs.mesa_model.declared.entries.Entry.{Entry}
use Rattle.mesa_history_spec.specs.mesa_model.declared.entries.Kind.TheVariants as kind
use Rattle.mesa_history_spec.specs.mesa_model.declared.entries.Outcome.TheVariants as outcome
use Rattle.mesa_history_spec.specs.mesa_model.declared.replies.Refusal.{Refusal}
use Rattle.mesa_history_spec.specs.mesa_model.declared.replies.Reply.{Reply}
use Rattle.mesa_history_spec.specs.mesa_model.declared.replies.Reply.TheVariants as reply
use Rattle.mesa_history_spec.specs.mesa_model.Tables.{recast_reply, table_recast, with_recast}
use Rattle.mesa_history_spec.specs.mesa_model.Warehouse.{Table, Warehouse, table_at}
use Rattle.mesa_history_spec.specs.Machine.{Claim, Recasts, claim_checked, claim_recast, still_checked}
use Rattle.mesa_history_spec.specs.Run.{State, Renewed, Run}
use Rattle.mesa_history_spec.specs.Replay.{completes, does, prints, recasted, recasts}
use Rattle.mesa_history_spec.specs.Legal.{is_work}
use Rattle.mesa_history_spec.specs.Found.{Kept}
use Rattle.mesa_history_spec.specs.Turns.{IsDue}
use Rattle.mesa_history_spec.specs.Bare.{bare, bare_store, bare_table}
use Rattle.mesa_history_spec.proofs.BareLists.{set_same}
use Rattle.mesa_history_spec.proofs.BareSteps.{table_bare}
use Rattle.mesa_history_spec.specs.Output.{block}
use Rattle.mesa_invariant_spec.specs.Books.{Books, AreBooksOf, closed_books, ended_books, recast_books}
use Rattle.mesa_invariant_spec.specs.Causes.{Unwritten, reply_of, told_at}
use Rattle.mesa_invariant_spec.specs.Printing.{IsPut}
use Rattle.mesa_invariant_spec.specs.Turns.{entry}
use Rattle.mesa_invariant_spec.specs.Invariant.{Outset, run_of, HoldsInvariant, KeepsInvariant, KeepsInvariantTelling, Counts, AllStand, Passes, Writes}
use Rattle.mesa_invariant_spec.specs.Works.{Regroups}
use Rattle.mesa_invariant_spec.proofs.Working.{checked_is, done_turn, undone_turn, unfit_turn}

-- the projection of a recast warehouse is the recast projection
recast_bare : (w : Warehouse) (b : Warehouse) (table : ℕ) (r : Recast) → bare w ≡ b → bare (with_recast w table r) ≡ with_recast b table r
recast_bare w b table r is = once ∙ ap (λ x. with_recast x table r) is
  where
    once : bare (with_recast w table r) ≡ with_recast (bare w) table r
    once = λ i. record (bare w) {
      store = record (bare_store w.store) {
        tables = (set_same bare_table w.store.tables table (table_recast (table_at w.store table) r) ∙ ap (λ t. slice_set (map bare_table w.store.tables) table (table_recast t r)) (sym (table_bare w.store table))) i;
      };
    }

-- a table but for its contents is told by the projection
bare_there : (w : Warehouse) (b : Warehouse) (table : ℕ) → bare w ≡ b → bare_table (table_at w.store table) ≡ table_at b.store table
bare_there w b table is = sym (table_bare w.store table) ∙ ap (λ (x : Warehouse). table_at x.store table) is

module _ (o : Outset) (sound : Bool) (books : Books) (story : Story) (held : Option (List ℕ)) (h : List Entry) (running refused : Bool) (v : HoldsInvariant o sound books story held h running refused)
    (s n : ℕ) (low : s < 2 ^ 16) (few : n < 2 ^ 32) (c : Command) (is_one : is_work c ≡ true) (m : ℕ) (ran : running ≡ true) (at : ℕ) (place : at ≡ length h)
    (claim : Claim) (epoch : ℕ) (recast : Recast) (errand : claim.errand ≡ Recasts epoch recast) (due : IsDue o.script (run_of o h) s n c (Renewed claim)) (holds : claim_checked books.bare books.machine at claim ≡ Ok tt) where
  abbrev r : Run
  r = run_of o h

  abbrev told_table : Table
  told_table = table_at books.bare.store claim.table

  there : bare_table (table_at r.state.warehouse.store claim.table) ≡ told_table
  there = bare_there r.state.warehouse books.bare claim.table v.state.projection

  -- what the books say of the recast is what Replay says
  still_is : still_checked (table_at r.state.warehouse.store claim.table).lineage epoch recast ≡ still_checked told_table.lineage epoch recast
  still_is = ap (λ (t : Table). still_checked t.lineage epoch recast) there

  does_is : does r.position r.state claim claim.errand ≡ recasts r.position r.state claim recast (still_checked told_table.lineage epoch recast)
  does_is = ap (does r.position r.state claim) errand ∙ ap (recasts r.position r.state claim recast) still_is

  -- the table has changed, or a view would lose a column: the lease ends
  pub changed_turn : (x : Refusal) → still_checked told_table.lineage epoch recast ≡ Err x → m ≡ story.moment → (new : Story) → Unmoved story new → Counts story new false → (now : Bool) (new_held : Option (List ℕ))
      → IsPut (block (entry s n kind.Close outcome.Stands m) (Some (told_at at (reply.Refused x)))) now held new_held → KeepsInvariant o sound (ended_books claim books) new new_held h (entry s n kind.Close outcome.Stands m) now (refused || true)
  changed_turn x is moment new unmoved counts now new_held put =
      unfit_turn o sound books story held h running refused v s n low few c is_one m ran at place moment new unmoved claim due x
      (ap (completes r.position r.state claim) (checked_is o sound books story held h running refused v s n low few c is_one m ran at place claim ∙ holds) ∙ does_is ∙ ap (recasts r.position r.state claim recast) is) counts now new_held put

  module _ (still : still_checked told_table.lineage epoch recast ≡ Ok tt) (new : Story) (moment : m ≡ new.moment) (passes : Passes story new)
      (had : IsTrue sound → story.moment < last → AllStand o.stands story books.kept) (kept : Kept) (regroups : Regroups sound books claim recast kept) (writes : IsTrue sound → Writes o.stands story new books.kept kept) (now : Bool) (new_held : Option (List ℕ)) where
    abbrev recast_state : State
    recast_state = recasted r.state claim recast

    abbrev rep : Reply
    rep = recast_reply told_table

    recast_is : does r.position r.state claim claim.errand ≡ prints r.position recast_state rep
    recast_is = does_is ∙ ap (recasts r.position r.state claim recast) still ∙ ap (λ (t : Table). prints r.position recast_state (recast_reply t)) there

    recast_stands : AreBooksOf sound (recast_books claim recast kept books) recast_state
    recast_stands = record {
      projection = recast_bare r.state.warehouse books.bare claim.table recast v.state.projection;
      machine = λ i. claim_recast (v.state.machine i) claim;
      rows = λ ok. regroups r.state v.state ok;
      pins = v.state.pins;
    }

    -- its device work is done: the books have the table recast, and the lease has ended
    pub recast_turn : Counts story new false → (IsTrue sound → new.moment < last → AllStand o.stands new kept) → IsPut (block (entry s n kind.Close outcome.Stands m) (Some (told_at at rep))) now held new_held
        → KeepsInvariantTelling o sound (recast_books claim recast kept books) new new_held h (entry s n kind.Close outcome.Stands m) now (refused || false) rep
    recast_turn counts stand put =
        done_turn o sound books story held h running refused v s n low few c is_one m ran at place claim due holds new moment passes had recast_state rep recast_is refl refl kept (λ ok. regroups r.state v.state ok) writes now new_held
        (recast_books claim recast kept books) recast_stands counts stand put

    -- its device work has failed: the books close, and the lease has ended
    pub unrecast_turn : Counts story new true → IsPut (block (entry s n kind.Close outcome.WriteFault m) (Some (told_at at (reply_of Unwritten)))) now held new_held
        → KeepsInvariant o sound (closed_books at (ended_books claim books)) new new_held h (entry s n kind.Close outcome.WriteFault m) now (refused || true)
    unrecast_turn counts put =
        undone_turn o sound books story held h running refused v s n low few c is_one m ran at place claim due holds new moment passes had recast_state rep recast_is refl refl kept (λ ok. regroups r.state v.state ok) writes now new_held counts put
