-- What the check before a recast's close tells.
use Rattle.std.proofs.Common.{◌≡◌, ℕ, refl, sym, ◌∙◌, ap, Result, Ok, Err}
use Rattle.std.specs.Prelude.{◌≢◌}
use Rattle.std.proofs.lemmas.Bool.{eq-eqb, ne_eqb}
use Rattle.mesa_list.specs.Checks.{◌>>◌, refuse_unless, refused_as}
use Rattle.mesa_work_turns.specs.mesa_binding.Told.{recast_failure}
use Rattle.mesa_work_turns.specs.mesa_history_spec.Machine.{Claim, claim_checked, still_checked}
use Rattle.mesa_model.specs.Refusals.{recast_refusal}
use Rattle.mesa_model.specs.Warehouse.{table_at}
use Rattle.mesa_model.specs.declared.replies.Refusal.TheVariants as no
use Rattle.mesa_work_turns.specs.mesa_schema.Changes.{Lineage, epoch_of}
use Rattle.mesa_work_turns.specs.mesa_schema.Recasts.{Recast, recast_checked}
use Rattle.mesa_work_turns.specs.mesa_schema.declared.recasts.RecastError.{RecastError}
use Rattle.mesa_work_turns.specs.mesa_schema.declared.recasts.RecastError.TheVariants as recast
use Rattle.mesa_work_turns.specs.mesa_invariant_spec.Books.{Books}
use Rattle.mesa_work_turns.proofs.mesa_invariant_spec.Working.{checked_open}
use Rattle.mesa_recast_turns.proofs.Dues.{epoch_still}
use Rattle.mesa_recast_turns.specs.Unfit.{HasNotRecast, unfit_of}

passed_as : (checked : Result (Unit {0}) RecastError) → refused_as recast_refusal checked ≡ Ok tt → checked ≡ Ok tt
passed_as (Ok u) is = refl
passed_as (Err e) is = absurd cc

module _ (l : Lineage) (epoch : ℕ) (r : Recast) where
  -- what may be done still is allowed
  pub still_allowed : still_checked l epoch r ≡ Ok tt → recast_checked l r ≡ Ok tt
  still_allowed still =
      let same = epoch_still l epoch r still in
      passed_as (recast_checked l r) (sym (ap (λ b. refuse_unless b (no.Changed (epoch_of l)) >> refused_as recast_refusal (recast_checked l r)) (eq-eqb (epoch_of l) epoch same)) ∙ still)

  -- the epoch is another one
  pub still_other : (epoch_of l ≡ epoch → ⊥) → still_checked l epoch r ≡ Err (no.Changed (epoch_of l))
  still_other other = ap (λ b. refuse_unless b (no.Changed (epoch_of l)) >> refused_as recast_refusal (recast_checked l r)) (ne_eqb (epoch_of l) epoch other)

  module _ (same : epoch_of l ≡ epoch) where
    its_epoch : still_checked l epoch r ≡ refused_as recast_refusal (recast_checked l r)
    its_epoch = ap (λ b. refuse_unless b (no.Changed (epoch_of l)) >> refused_as recast_refusal (recast_checked l r)) (eq-eqb (epoch_of l) epoch same)

    pub still_fits : recast_checked l r ≡ Ok tt → still_checked l epoch r ≡ Ok tt
    still_fits passed = its_epoch ∙ ap (refused_as recast_refusal) passed

    still_not : (e : RecastError) → recast_checked l r ≡ Err e → still_checked l epoch r ≡ Err (recast_refusal e)
    still_not e failed = its_epoch ∙ ap (refused_as recast_refusal) failed

    module _ (books : Books) (at : ℕ) (claim : Claim) (table : (table_at books.bare.store claim.table).lineage ≡ l) (held : claim_checked books.bare books.machine at claim ≡ Ok tt) where
      changed : (e : RecastError) → recast_checked l r ≡ Err e → (claim_checked books.bare books.machine at claim ≡ Ok tt) × (still_checked (table_at books.bare.store claim.table).lineage epoch r ≡ Err (recast_refusal e))
      changed e failed = (held, ap (λ (k : Lineage). still_checked k epoch r) table ∙ still_not e failed)

      -- the rules don't allow it any more, or there was no memory
      pub unfit_by : (e : RecastError) → (e ≢ recast.Memory → recast_checked l r ≡ Err e) → HasNotRecast books at claim epoch r (unfit_of (recast_failure e))
      unfit_by recast.NoColumn failed = changed recast.NoColumn (failed (λ is. cc))
      unfit_by recast.NoKey failed = changed recast.NoKey (failed (λ is. cc))
      unfit_by recast.NoValue failed = changed recast.NoValue (failed (λ is. cc))
      unfit_by recast.NameTwice failed = changed recast.NameTwice (failed (λ is. cc))
      unfit_by (recast.ReplaceGroup column) failed = changed (recast.ReplaceGroup column) (failed (λ is. cc))
      unfit_by (recast.InView view) failed = changed (recast.InView view) (failed (λ is. cc))
      unfit_by recast.EpochsFull failed = changed recast.EpochsFull (failed (λ is. cc))
      unfit_by recast.Memory failed = checked_open books.bare books.machine at claim held
