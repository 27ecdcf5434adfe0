-- At the close of a recast only a view can be against it.
use Rattle.std.proofs.Common.{◌≡◌, ◌==◌, ◌⊎◌, ⊎_elim, ℕ, true, sym, ◌∙◌, ap, subst}
use Rattle.std.proofs.lemmas.Bool.{eq-eqb}
use Rattle.mesa_history_spec.specs.mesa_list.Checks.{◌>>◌, refuse_unless, refused_as}
use Rattle.mesa_history_spec.specs.mesa_schema.Changes.{Lineage, epoch_of}
use Rattle.mesa_history_spec.specs.mesa_schema.Recasts.{Recast, recast_checked, views_kept}
use Rattle.mesa_history_spec.proofs.mesa_schema.LineageRecasts.{recast_goes_on}
use Rattle.mesa_history_spec.specs.mesa_model.Refusals.{recast_refusal}
use Rattle.mesa_history_spec.specs.mesa_model.declared.replies.Refusal.TheVariants as no
use Rattle.mesa_history_spec.specs.Claims.{HasClaimAt, HasErrand, HasRecastClaim}
use Rattle.mesa_history_spec.specs.Machine.{Claim}
use Rattle.mesa_history_spec.specs.Run.{Stage, State, begins}
use Rattle.mesa_history_spec.proofs.Claims.{begins_hold, runs_hold}
use Rattle.mesa_history_laws.specs.Closing.{ClosesByViews, IsHeldAt, RecastsCloseByViews, lineage_now}

held_claim : (s : State) (stage : Stage) (claim : Claim) → IsHeldAt stage claim → HasClaimAt s stage → HasErrand s claim claim.errand
held_claim s stage claim held has = ⊎_elim (λ at. subst (HasClaimAt s) at has) (λ at. subst (HasClaimAt s) at has) held

closes : (s : State) (claim : Claim) (epoch : ℕ) (r : Recast) → HasRecastClaim s claim epoch r → ClosesByViews s claim epoch r
closes s claim epoch r c now =
    let l : Lineage = lineage_now s claim in
    let rules : recast_checked l r ≡ views_kept l.views r = recast_goes_on c.was l r c.allowed (c.columns now) (now ∙ sym c.epoch_was) in
    let same : (epoch_of l == epoch) ≡ true = eq-eqb (epoch_of l) epoch now in
    ap (λ b. refuse_unless b (no.Changed (epoch_of l)) >> refused_as recast_refusal (recast_checked l r)) same ∙ ap (refused_as recast_refusal) rules

pub recasts_close : RecastsCloseByViews
recasts_close script start h session claim epoch r ranges held is =
    let has = (runs_hold script (begins start) h (begins_hold start ranges)).claims session in
    let its = held_claim _ _ claim held has in
    closes _ claim epoch r (subst (HasErrand _ claim) is its)
