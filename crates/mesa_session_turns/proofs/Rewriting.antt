-- A recast whose ranges were rewritten: what is known of it is what was known before, and its files are those of the ranges as they are now.
use Rattle.std.proofs.Common.{◌≡◌, ◌⊎◌, inl, inr, ℕ, List, refl, sym, ap, ◌∙◌, subst}
use Rattle.std.specs.Prelude.{Option, None, Some, Result, Ok, Err, IfOk, IfErr, IfSome}
use Rattle.mesa_compact.specs.Writing.{HasCauses, damaged_by}
use Rattle.mesa_core.specs.mesa_merge.Faults.{faults_of}
use Rattle.mesa_copy.proofs.Same.{bounded_same}
use Rattle.mesa_copy.specs.Copying.{AreRangesBounded, IsRecastBounded, IsSameRecast}
use Rattle.mesa_core.specs.mesa_recast_turns.Rested.{IsLonger}
use Rattle.mesa_delta.specs.declared.error.FileError.{FileError}
use Rattle.mesa_delta.specs.declared.error.FileError.TheVariants as file
use Rattle.mesa_file.specs.declared.damage.Damage.{Damage}
use Rattle.mesa_core.specs.mesa_history_spec.Machine.{Recasts}
use Rattle.mesa_core.specs.mesa_schema.Changes.{Lineage, columns_of}
use Rattle.mesa_core.specs.Recasts.{CanBeRegrouped, HasRegrouped, IsUnmade, KnownRecast, known_recast}
use Rattle.mesa_open_files.specs.Errors.{Differs}
use Rattle.mesa_open_files.specs.Recasts.{IsRecastTask, IsRecasted, claim_of_recast, recast_inputs, recast_table}
use Rattle.mesa_open_files.specs.declared.merging.CompactError.{CompactError}
use Rattle.mesa_open_files.specs.declared.merging.CompactError.TheVariants as compact
use Rattle.mesa_open_files.specs.declared.recasting.Recast.{Recast}
use Rattle.mesa_open_files.specs.declared.recasting.Recasted.{Recasted}
use Rattle.mesa_query.proofs.Differing.{rose_failed}

-- no damage was met where none is told
pub none_met : (o : Option Damage) → ((d : Damage) → o ≡ Some d → ⊥) → o ≡ None
none_met None never = refl
none_met (Some d) never = absurd (never d refl)

module _ {R : Type 0} (bytes : R → Option (List ℕ)) where
  pub recast_known : (old new : Recast R) → IsSameRecast bytes old new → known_recast bytes new ≡ known_recast bytes old
  recast_known old new same = λ j. record {
    table = same.table j;
    lease = same.lease j;
    epoch = same.epoch j;
    lineage = (same.evolving j).value;
    keys = same.keys j;
    values = same.values j;
    ranges = same.ranges j;
    damage = same.damage j;
  }

  -- the claim is by what is known of it
  pub claim_known : (old new : Recast R) → known_recast bytes new ≡ known_recast bytes old → claim_of_recast new ≡ claim_of_recast old
  claim_known old new same = ap (λ (k : KnownRecast). record { table = k.table; lease = k.lease; errand = Recasts k.epoch (record { keys = k.keys; values = k.values }) }) same

  -- and further ranges don't change it
  pub claim_longer : (old new : Recast R) → IsLonger bytes old new → claim_of_recast new ≡ claim_of_recast old
  claim_longer old new longer = λ j. record { table = longer.table j; lease = longer.lease j; errand = Recasts (longer.epoch j) (record { keys = longer.keys j; values = longer.values j }) }

  -- it can be rewritten still
  pub stays_so : (old new : Recast R) → IsSameRecast bytes old new → IsRecastTask bytes new → IfSome old.damage Differs → CanBeRegrouped bytes new
  stays_so old new same kept damage = record { task = kept; damage = subst (λ (d : Option Damage). IfSome d Differs) (sym same.damage) damage }

  bounded_was : (old new : Recast R) → IsSameRecast bytes old new → IsRecastBounded bytes new → IsRecastBounded bytes old
  bounded_was old new same bounded =
      subst (λ (l : Lineage). AreRangesBounded bytes (columns_of l) old.ranges.items) (λ j. (same.evolving j).value) (bounded_same bytes (columns_of (recast_table new)) new.ranges.items old.ranges.items (sym same.ranges) bounded)

  module _ (faults : R → ℕ) (old new : Recast R) (same : IsSameRecast bytes old new) (Met : Damage → Type 0) (differs : (d : Damage) → Met d → Differs d) (before now : ℕ) where
    -- why its ranges aren't rewritten, told of the recast as it is now
    pub unmade_closes : (T : Type 0) (e : CompactError) → HasCauses {T = T} before now (faults_of faults (recast_inputs old)) (faults_of faults (recast_inputs new)) Met (Err e)
        → ((d : Damage) → e ≡ damaged_by d → old.damage ≡ None → IsRecastBounded bytes old → ⊥) → IsUnmade bytes faults new e
    unmade_closes T compact.Draft causes accepts = tt
    unmade_closes T (compact.File file.Read) causes accepts = rose_failed faults _ (recast_inputs new) (causes.reads.failed refl)
    unmade_closes T (compact.File (file.Damaged d)) causes accepts = record {
      differs = differs d (causes.damaged d refl);
      never = λ none keeps. accepts d refl (sym same.damage ∙ none) (bounded_was old new same keeps);
    }
    unmade_closes T (compact.File file.Memory) causes accepts = tt

    -- what came of it
    pub regroup_closes : {M : Type 0} (made_bytes : M → Option (List ℕ)) (id_of : M → ℕ) (r : Result (Recasted M) CompactError) → IfOk r (IsRecasted made_bytes id_of bytes new)
        → HasCauses before now (faults_of faults (recast_inputs old)) (faults_of faults (recast_inputs new)) Met r
        → IfErr r (λ e. (d : Damage) → e ≡ damaged_by d → old.damage ≡ None → IsRecastBounded bytes old → ⊥) → HasRegrouped made_bytes id_of bytes faults new r
    regroup_closes made_bytes id_of (Ok made) rewritten causes accepts = rewritten
    regroup_closes {M = M} made_bytes id_of (Err e) rewritten causes accepts = unmade_closes (Recasted M) e causes accepts

  -- where further files couldn't be opened
  pub rest_closes : {M Unpaid : Type 0} (made_bytes : M → Option (List ℕ)) (id_of : M → ℕ) (faults : R → ℕ) (t : Recast R) (e : FileError) → (e ≡ file.Read) ⊎ (e ≡ file.Memory) → (e ≡ file.Read → Unpaid)
      → HasRegrouped made_bytes id_of bytes faults t (Err (compact.File e)) ⊎ (◌≡◌ {A = Result (Recasted M) CompactError} (Err (compact.File e)) (Err (compact.File file.Read)) × Unpaid)
  rest_closes made_bytes id_of faults t e (inl is) unpaid = inr (ap (λ x. Err (compact.File x)) is, unpaid is)
  rest_closes made_bytes id_of faults t e (inr is) unpaid = inl (subst (λ x. IsUnmade bytes faults t (compact.File x)) (sym is) tt)
