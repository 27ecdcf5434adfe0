-- How the renewal of a work or a recast keeps a vault.
use Rattle.std.proofs.Common.{◌≡◌, ◌∙◌, ℕ, ◌<◌, ◌^◌, ◌≤◌, ◌+◌, List, [], ◌∷◌, ◌++◌, length, Bool, true, ◌||◌, not, sym, ap, subst, arith, Option, None, Some, Ok, Err, refl}
use Rattle.std.specs.Prelude.{vec_capacity}
use Rattle.mesa_write_turns.specs.mesa_list.Checks.{◌>>◌, refuse_unless}
use Rattle.mesa_disk.specs.Story.{Story}
use Rattle.mesa_write_turns.specs.mesa_history_spec.Legal.{is_work}
use Rattle.mesa_write_turns.specs.mesa_history_spec.Machine.{Claim, claim_checked}
use Rattle.mesa_write_turns.specs.mesa_history_spec.Replay.{renews}
use Rattle.mesa_write_turns.specs.mesa_history_spec.Run.{Granted, Renewed, Finished}
use Rattle.mesa_write_turns.specs.mesa_history_spec.Turns.{IsDue}
use Rattle.mesa_lease.specs.Book.{is_held, other_holder, renewed}
use Rattle.mesa_lease.specs.declared.lease.Lost.{Lost}
use Rattle.mesa_lease.specs.Book.{IsLost}
use Rattle.mesa_model.specs.Refusals.{refuse_closed}
use Rattle.mesa_model.specs.declared.commands.Command.{Command}
use Rattle.mesa_model.specs.declared.entries.Entry.{Entry}
use Rattle.mesa_model.specs.declared.entries.Kind.TheVariants as kind
use Rattle.mesa_model.specs.declared.entries.Outcome.TheVariants as outcome
use Rattle.mesa_model.specs.declared.replies.Refusal.{Refusal}
use Rattle.mesa_model.specs.declared.replies.Refusal.TheVariants as no
use Rattle.mesa_model.specs.declared.replies.Reply.TheVariants as reply
use Rattle.mesa_write_turns.specs.mesa_history_spec.Output.{block}
use Rattle.mesa_write_turns.specs.mesa_history_spec.Rows.{Rows, no_rows}
use Rattle.mesa_write_turns.specs.mesa_invariant_spec.Causes.{told_at}
use Rattle.mesa_write_turns.specs.mesa_invariant_spec.Printing.{IsPut}
use Rattle.mesa_write_turns.specs.mesa_invariant_spec.Turns.{Shown, IsSeen, Takes, entry}
use Rattle.mesa_write_turns.specs.mesa_invariant_spec.Invariant.{Outset, run_at, run_of}
use Rattle.mesa_write_turns.proofs.mesa_invariant_spec.Turning.{stays, counts_same}
use Rattle.mesa_write_turns.proofs.mesa_invariant_spec.Going.{takes_as}
use Rattle.mesa_write_turns.proofs.mesa_invariant_spec.Working.{checked_is, renewed_turn, unrenewed_ends, unrenewed_turn}
use Rattle.mesa_engine.specs.EngineState.{EngineState, books_of}
use Rattle.mesa_engine.specs.Turned.{leased_state}
use Rattle.mesa_engine.specs.Vault.{Origin, Starts, IsVault, outset_of}
use Rattle.mesa_engine.proofs.Staying.{leased_vault, still_vault}
use Rattle.mesa_engine.specs.declared.log.Log.{Log}
use Rattle.mesa_engine.specs.Printing.{PrintsBlock}
use Rattle.mesa_engine.specs.Memory.{Memory, with_leases}
use Rattle.mesa_engine.specs.Engine.{IsEngine}
use Rattle.mesa_engine.proofs.Turning.{passed_engine, told_engine}
use Rattle.mesa_work_turns.specs.Claims.{lease_checked}

-- ---- what the books say of a claim

module _ (rows : Rows) (l : EngineState) (at table lease : ℕ) where
  pub shut_claim : (p : ℕ) → l.closed ≡ Some p → lease_checked (books_of rows l) at table lease ≡ Err (no.Closed p)
  shut_claim p shut =
      λ i. (refuse_closed (shut i) >> refuse_unless (is_held l.leases table lease at) (no.Lost lease (other_holder l.leases table lease at)))

  pub held_claim : l.closed ≡ None → is_held l.leases table lease at ≡ true → lease_checked (books_of rows l) at table lease ≡ Ok tt
  held_claim open' holds =
      λ i. (refuse_closed (open' i) >> refuse_unless (holds i) (no.Lost lease (other_holder l.leases table lease at)))

  pub lost_claim : (lost : Lost) → l.closed ≡ None → IsLost l.leases table lease at lost → lease_checked (books_of rows l) at table lease ≡ Err (no.Lost lost.lease lost.holder)
  lost_claim lost open' is =
      λ i. (refuse_closed (open' i) >> refuse_unless (is.not_held i) (no.Lost (sym is.lease i) (sym is.holder_is i)))

-- ---- its turn

module _ (o : Outset) (g : Origin) (sound : Bool) (l : EngineState) (story : Story) (held : Option (List ℕ)) (h : List Entry) (running refused : Bool) (v : IsVault o g sound l story held h running refused)
    (s number : ℕ) (low : s < 2 ^ 16) (few : number < 2 ^ 32) (c : Command) (one : is_work c ≡ true) (m : ℕ) (moment : m ≡ story.moment) (ran : running ≡ true) (at : ℕ) (place : at ≡ length h) (claim : Claim) (due : IsDue o.script (run_of o h) s number c (Granted claim)) where
  pub renewed_vault : (a : Rows) → claim_checked (books_of a l).bare (books_of a l).machine at claim ≡ Ok tt
      → IsVault o g sound (leased_state l (renewed claim.table claim.lease at l.leases)) story held (h ++ entry s number kind.Renew outcome.Stands m ∷ []) running refused
  renewed_vault a holds =
      leased_vault o g sound l story held h running refused v (entry s number kind.Renew outcome.Stands m) story held running refused (stays story) (renewed claim.table claim.lease at l.leases) (omega arith)
      (renewed_turn o sound (books_of v.rows l) story held h running refused v.invariant s number low few c one m ran at place moment story (stays story) claim due holds (counts_same story))

  pub lost_vault : (a : Rows) (x : Refusal) → claim_checked (books_of a l).bare (books_of a l).machine at claim ≡ Err x → (now : Bool) (new_held : Option (List ℕ)) → IsPut (block (entry s number kind.Renew outcome.Stands m) (Some (told_at at (reply.Refused x)))) now held new_held
      → IsVault o g sound l story new_held (h ++ entry s number kind.Renew outcome.Stands m ∷ []) now (refused || true)
  lost_vault a x lost now new_held put =
      still_vault o g sound l story held h running refused v (entry s number kind.Renew outcome.Stands m) story new_held now (refused || true) (stays story)
      (unrenewed_turn o sound (books_of v.rows l) story held h running refused v.invariant s number low few c one m ran at place moment story (stays story) claim due x lost (counts_same story) now new_held put)

-- ---- the engine behind it

module _ {K : Type 0} (held : K → Option (List ℕ)) (faults : K → ℕ) (n : Starts) (turns sinks : ℕ) (m after : Memory) (story : Story) (log later : Log K) (v : IsEngine held faults n turns sinks m story log)
    (s number : ℕ) (low : s < 2 ^ 16) (few : number < 2 ^ 32) (c : Command) (one : is_work c ≡ true) (mo : ℕ) (moment : mo ≡ story.moment) (ran : not log.printer.broken ≡ true) (at : ℕ) (place : at ≡ length log.history.items) (claim : Claim)
    (due : (w : Rows) → IsDue n.script (run_at n.script (n.start w) log.history.items) s number c (Granted claim))
    (grew : later.history.items ≡ log.history.items ++ entry s number kind.Renew outcome.Stands mo ∷ []) (roomy : vec_capacity log.history ≤ vec_capacity later.history) where
  pub renewed_engine : claim_checked (books_of no_rows m.state).bare (books_of no_rows m.state).machine at claim ≡ Ok tt → after ≡ with_leases (renewed claim.table claim.lease at m.state.leases) (at + 1) m → later.printer ≡ log.printer → later.refused ≡ log.refused
      → IsEngine held faults n turns sinks after story later
  renewed_engine holds is printer refused =
      passed_engine held faults n turns sinks m after story story log later (entry s number kind.Renew outcome.Stands mo) v grew roomy moment (omega arith) (let same = ap (λ (x : Memory). x.leased) is in omega (arith, same, place)) (λ w sound. refl) printer refused
      (λ w b ok. subst (λ (x : Memory). IsVault (outset_of n w) (n.origin w) b x.state story (held log.printer.sink) (log.history.items ++ entry s number kind.Renew outcome.Stands mo ∷ []) (not log.printer.broken) log.refused) (sym is)
      (renewed_vault (outset_of n w) (n.origin w) b m.state story (held log.printer.sink) log.history.items (not log.printer.broken) log.refused (v.vault w b ok) s number low few c one mo moment ran at place claim (due w) no_rows holds))

  pub lost_engine : (x : Refusal) → claim_checked (books_of no_rows m.state).bare (books_of no_rows m.state).machine at claim ≡ Err x → after.state ≡ m.state → after.leased ≤ at + 1 → PrintsBlock held faults log.printer later.printer (entry s number kind.Renew outcome.Stands mo) (told_at at (reply.Refused x))
      → later.refused ≡ (log.refused || true) → IsEngine held faults n turns sinks after story later
  lost_engine x lost same leased prints refused =
      told_engine held faults n turns sinks m after story story log later (entry s number kind.Renew outcome.Stands mo) v grew roomy moment (omega arith) (omega (arith, leased, place)) (λ w sound. refl) (told_at at (reply.Refused x)) true prints refused
      (λ put w b ok. subst (λ (l : EngineState). IsVault (outset_of n w) (n.origin w) b l story (held later.printer.sink) (log.history.items ++ entry s number kind.Renew outcome.Stands mo ∷ []) (not later.printer.broken) (log.refused || true)) (sym same)
      (lost_vault (outset_of n w) (n.origin w) b m.state story (held log.printer.sink) log.history.items (not log.printer.broken) log.refused (v.vault w b ok) s number low few c one mo moment ran at place claim (due w) no_rows x lost (not later.printer.broken) (held later.printer.sink) put))

-- ---- where it takes its session

module _ (o : Outset) (g : Origin) (sound : Bool) (l : EngineState) (story : Story) (held : Option (List ℕ)) (h : List Entry) (running refused : Bool) (v : IsVault o g sound l story held h running refused)
    (s number : ℕ) (low : s < 2 ^ 16) (few : number < 2 ^ 32) (c : Command) (one : is_work c ≡ true) (ran : running ≡ true) (at : ℕ) (place : at ≡ length h) (claim : Claim) (due : IsDue o.script (run_of o h) s number c (Granted claim))
    (clock : ℕ) (new : Shown) (moment : new.clock ≡ story.moment) (seen : IsSeen o.script o.start new) (grew : new.history ≡ h ++ entry s number kind.Renew outcome.Stands new.clock ∷ []) where
  abbrev old : Shown
  old = record { history = h; running = running; clock = clock }

  pub renewed_takes : claim_checked (books_of no_rows l).bare (books_of no_rows l).machine at claim ≡ Ok tt → Takes o.script o.start old new s number kind.Renew (Renewed claim)
  renewed_takes holds =
      takes_as o.script o.start old new s number c (Granted claim) kind.Renew (Renewed claim) due outcome.Stands
      (ap (λ q. (renews (run_of o h).position (run_of o h).state claim q).stage) (checked_is o sound (books_of v.rows l) story held h running refused v.invariant s number low few c one new.clock ran at place claim ∙ holds))
      grew (ap not (sym ran)) (λ on. ran) seen

  pub lost_takes : (x : Refusal) → claim_checked (books_of no_rows l).bare (books_of no_rows l).machine at claim ≡ Err x → Takes o.script o.start old new s number kind.Renew Finished
  lost_takes x lost =
      takes_as o.script o.start old new s number c (Granted claim) kind.Renew Finished due outcome.Stands
      (unrenewed_ends o sound (books_of v.rows l) story held h running refused v.invariant s number low few c one new.clock ran at place moment story (stays story) claim due x lost)
      grew (ap not (sym ran)) (λ on. ran) seen
