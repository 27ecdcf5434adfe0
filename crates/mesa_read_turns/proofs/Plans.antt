-- How an explain keeps a vault.
use Rattle.std.proofs.Common.{◌≡◌, ℕ, ◌<◌, ◌^◌, List, [], ◌∷◌, ◌++◌, length, Bool, true, false, ◌||◌, refl, sym, ap, Option, None, Some, Result, Ok, Err}
use Rattle.std.specs.Option.{ok_or}
use Rattle.mesa_engine.specs.mesa_binding.Told.{IsDue as IsTold}
use Rattle.mesa_engine.specs.mesa_binding.declared.failure.Failure.{Failure}
use Rattle.mesa_engine.specs.mesa_binding.declared.failure.Failure.TheVariants as failure
use Rattle.mesa_disk.specs.Story.{Story}
use Rattle.mesa_engine.specs.Failing.{is_of_device}
use Rattle.mesa_pick_files.specs.mesa_list.Checks.{◌>>=◌, ◌>>◌}
use Rattle.mesa_model.specs.Orders.{order_asked}
use Rattle.mesa_model.specs.Refusals.{no_such_table, refuse_closed}
use Rattle.mesa_model.specs.Relations.{Relation, relation_of}
use Rattle.mesa_model.specs.Versions.{version_asked}
use Rattle.mesa_model.specs.Warehouse.{Warehouse}
use Rattle.mesa_model.specs.declared.commands.Command.TheVariants as command
use Rattle.mesa_model.specs.declared.commands.ExplainWords.{ExplainWords}
use Rattle.mesa_model.specs.declared.entries.Entry.{Entry}
use Rattle.mesa_model.specs.declared.entries.Kind.TheVariants as kind
use Rattle.mesa_model.specs.declared.entries.Outcome.TheVariants as outcome
use Rattle.mesa_model.specs.declared.replies.Refusal.{Refusal}
use Rattle.mesa_model.specs.declared.replies.Reply.{Reply}
use Rattle.mesa_model.specs.declared.replies.Reply.TheVariants as reply
use Rattle.mesa_engine.specs.mesa_history_spec.Legal.{is_written}
use Rattle.mesa_engine.specs.mesa_history_spec.Machine.{Machine, explained, ranges_at}
use Rattle.mesa_engine.specs.mesa_history_spec.Refused.{is_refusal}
use Rattle.mesa_engine.specs.mesa_history_spec.Run.{First}
use Rattle.mesa_engine.specs.mesa_history_spec.Turns.{IsDue}
use Rattle.mesa_engine.specs.mesa_history_spec.Output.{block}
use Rattle.mesa_engine.specs.mesa_history_spec.Rows.{Rows}
use Rattle.mesa_engine.specs.mesa_span.Plan.{plan}
use Rattle.mesa_engine.specs.mesa_invariant_spec.Causes.{told_at}
use Rattle.mesa_engine.specs.mesa_invariant_spec.Changes.{HasNoPlan, is_plain}
use Rattle.mesa_engine.specs.mesa_invariant_spec.Printing.{IsPut}
use Rattle.mesa_engine.specs.mesa_invariant_spec.Turns.{entry}
use Rattle.mesa_engine.specs.mesa_invariant_spec.Invariant.{Outset, run_of}
use Rattle.mesa_engine.proofs.mesa_invariant_spec.Reading.{explained_turn}
use Rattle.mesa_engine.proofs.mesa_invariant_spec.Turning.{stays}
use Rattle.mesa_engine.specs.EngineState.{EngineState, books_of}
use Rattle.mesa_engine.specs.Failure.{cause_in, told_as}
use Rattle.mesa_engine.specs.Vault.{Origin, IsVault}
use Rattle.mesa_engine.proofs.Staying.{still_vault}

-- what is told of a plan is its ranges: no page, no refusal, and nothing that was written
pub record IsPlanReply (r : Reply) : Type 0 where
  pub plain : is_plain r ≡ true
  pub silent : is_written r ≡ false
  pub granted : is_refusal r ≡ false

pub plan_told : (w : Warehouse) (m : Machine) (words : ExplainWords) (r : Reply) → explained w m words ≡ Ok r → IsPlanReply r
plan_told w m words r is = by w.closed (ok_or (relation_of w.store words.relation) no_such_table) is
  where
    at : (relation : Relation) (order : Option (List ℕ)) (v : Result ℕ Refusal) → (v >>= (λ version. Ok (reply.Spans (plan (ranges_at m relation.number) version) order))) ≡ Ok r → IsPlanReply r
    at relation order (Err x) e = absurd cc
    at relation order (Ok version) e =
        let same : reply.Spans (plan (ranges_at m relation.number) version) order ≡ r = cc in record { plain = ap is_plain (sym same); silent = ap is_written (sym same); granted = ap is_refusal (sym same) }

    ordered : (relation : Relation) (q : Result (Option (List ℕ)) Refusal) → (q >>= (λ order. version_asked w relation.table.oldest words.version >>= (λ version. Ok (reply.Spans (plan (ranges_at m relation.number) version) order)))) ≡ Ok r → IsPlanReply r
    ordered relation (Err x) e = absurd cc
    ordered relation (Ok order) e = at relation order (version_asked w relation.table.oldest words.version) e

    by : (o : Option ℕ) (q : Result Relation Refusal)
        → (refuse_closed o >> (q >>= (λ relation. order_asked relation words.filter >>= (λ order. version_asked w relation.table.oldest words.version >>= (λ version. Ok (reply.Spans (plan (ranges_at m relation.number) version) order)))))) ≡ Ok r → IsPlanReply r
    by (Some p) q e = absurd cc
    by None (Err x) e = absurd cc
    by None (Ok relation) e = ordered relation (order_asked relation words.filter) e

-- the vault behind it
pub explained_vault : (o : Outset) (g : Origin) (sound : Bool) (l : EngineState) (story : Story) (held : Option (List ℕ)) (h : List Entry) (running refused : Bool) → IsVault o g sound l story held h running refused
    → (s number : ℕ) → s < 2 ^ 16 → number < 2 ^ 32 → (m : ℕ) → m ≡ story.moment → running ≡ true → (at : ℕ) → at ≡ length h → (words : ExplainWords) (rep : Reply) (a : Rows) → IsDue o.script (run_of o h) s number (command.Explain words) First
    → explained (books_of a l).bare (books_of a l).machine words ≡ Ok rep
    → (now : Bool) (new_held : Option (List ℕ)) → IsPut (block (entry s number kind.Decide outcome.Stands m) (Some (told_at at rep))) now held new_held
    → IsVault o g sound l story new_held (h ++ entry s number kind.Decide outcome.Stands m ∷ []) now (refused || is_refusal rep)
explained_vault o g sound l story held h running refused v s number low few m moment ran at place words rep a due is now new_held put =
    still_vault o g sound l story held h running refused v (entry s number kind.Decide outcome.Stands m) story new_held now (refused || is_refusal rep) (stays story)
    (explained_turn o sound (books_of v.rows l) story held h running refused v.invariant s number low few m moment words due ran at place rep is (plan_told (books_of a l).bare (books_of a l).machine words rep is).silent now new_held put)

-- ---- why there is none

pub no_plan : (a : Rows) (l : EngineState) (words : ExplainWords) (f : Failure) → l.closed ≡ None → IsTold (explained (books_of a l).bare (books_of a l).machine words) f → HasNoPlan (books_of a l) words (cause_in (told_as f))
no_plan a l words (failure.Refused refusal) was_open is = (refusal, is, refl)
no_plan a l words failure.Memory was_open is = was_open

pub no_device : (f : Failure) → is_of_device (cause_in (told_as f)) ≡ false
no_device (failure.Refused refusal) = refl
no_device failure.Memory = refl
