-- What the close of a recast finds of its table.
use Rattle.std.proofs.Common.{◌≡◌, ◌<◌, ℕ, List, length, Bool, true, false, ap, subst, arith, Option, Ok}
use Rattle.std.specs.Prelude.{◌==◌, is_ok}
use Rattle.std.proofs.lemmas.Bool.Decides.{nat_tests}
use Rattle.std.proofs.lemmas.List.{length-map}
use Rattle.mesa_disk.specs.Story.{Story}
use Rattle.mesa_work_turns.specs.mesa_history_spec.Claims.{HasClaimAt, HasErrand, HasRecastClaim}
use Rattle.mesa_work_turns.specs.mesa_history_spec.Machine.{Claim, Errand, Machine, Recasts, still_checked}
use Rattle.mesa_work_turns.specs.mesa_history_spec.Run.{Place, Renewed}
use Rattle.mesa_work_turns.specs.mesa_history_spec.Turns.{IsDue}
use Rattle.mesa_engine.specs.mesa_store_spec.Catalog.{ranges_of}
use Rattle.mesa_engine.specs.EngineState.{EngineState}
use Rattle.mesa_engine.specs.Vault.{Origin, IsVault}
use Rattle.mesa_engine.proofs.BeforeTurns.{vault_claims}
use Rattle.mesa_work_turns.specs.mesa_invariant_spec.Invariant.{Outset, run_of}
use Rattle.mesa_list.specs.Checks.{refused_as}
use Rattle.mesa_model.specs.Refusals.{recast_refusal}
use Rattle.mesa_model.specs.declared.commands.Command.TheVariants as command
use Rattle.mesa_model.specs.declared.commands.RecastWords.{RecastWords}
use Rattle.mesa_model.specs.declared.entries.Entry.{Entry}
use Rattle.mesa_model.specs.declared.replies.Refusal.TheVariants as no
use Rattle.mesa_work_turns.proofs.mesa_schema.Passing.{passed_unless}
use Rattle.mesa_work_turns.specs.mesa_schema.Changes.{Lineage, epoch_of}
use Rattle.mesa_work_turns.specs.mesa_schema.Recasts.{Recast, recast_checked}

-- a recast that may be done still has its table's epoch
pub epoch_still : (l : Lineage) (epoch : ℕ) (r : Recast) → still_checked l epoch r ≡ Ok tt → epoch_of l ≡ epoch
epoch_still l epoch r still =
    let same : (epoch_of l == epoch) ≡ true = (passed_unless (epoch_of l == epoch) (no.Changed (epoch_of l)) (refused_as recast_refusal (recast_checked l r)) (ap is_ok still)).0 in
    grind (arith, nat_tests)

-- a renewed recast's table is there
pub recast_is_there : (o : Outset) (g : Origin) (l : EngineState) (story : Story) (held : Option (List ℕ)) (h : List Entry) (running refused : Bool) → IsVault o g false l story held h running refused → (s number : ℕ) (words : RecastWords) (claim : Claim) (epoch : ℕ) (r : Recast)
    → claim.errand ≡ Recasts epoch r → IsDue o.script (run_of o h) s number (command.Recast words) (Renewed claim) → claim.table < length l.catalogue.tables
recast_is_there o g l story held h running refused v s number words claim epoch r errand due =
    let at_stage : HasErrand (run_of o h).state claim claim.errand = subst (λ (p : Place). HasClaimAt (run_of o h).state p.stage) due.place (vault_claims o g false l story held h running refused v s) in
    let has : HasRecastClaim (run_of o h).state claim epoch r = subst (λ (e : Errand). HasErrand (run_of o h).state claim e) errand at_stage in
    let within = subst (λ (m : Machine). claim.table < length m.ranges) v.invariant.state.machine has.there in
    omega (arith, within, length-map l.catalogue.tables ranges_of)
