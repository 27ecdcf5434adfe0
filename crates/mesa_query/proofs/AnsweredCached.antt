-- The page of a query with caches is the page without them, and so is whatever else comes of answering it.
use Rattle.std.proofs.Common.{◌≡◌, ℕ, List, ap, sym, subst, ◌∙◌}
use Rattle.std.specs.Prelude.{◌⊎◌, IfErr, IfOk, Option, Result}
use Rattle.std.proofs.Math.Logic.{⊎_map}
use Rattle.std.proofs.lemmas.Result.{IfErr-weaker, IfOk-weaker}
use Rattle.mesa_cache.specs.Reading.{Reading}
use Rattle.mesa_group_blocks.specs.mesa_delta.declared.error.FileError.{FileError}
use Rattle.mesa_group_blocks.specs.mesa_delta.declared.error.FileError.TheVariants as file_error
use Rattle.mesa_model.specs.declared.replies.Page.{Page}
use Rattle.mesa_file.specs.declared.damage.Damage.{Damage}
use Rattle.mesa_group_blocks.specs.mesa_columns.declared.rows.Row.{Row}
use Rattle.mesa_group_blocks.specs.mesa_columns.Columns.{Columns}
use Rattle.mesa_group_blocks.specs.mesa_fold.Folded.{rows_of}
use Rattle.mesa_group_blocks.specs.mesa_columns.Rows.{AreRowsOf}
use Rattle.mesa_group_blocks.specs.Moved.{inputs_in}
use Rattle.mesa_query.specs.Files.{IsDamageIn}
use Rattle.mesa_group_blocks.specs.Ungrouped.{parts_ungrouped}
use Rattle.mesa_query.specs.Relation.{page_over, parts_pinned}
use Rattle.mesa_query.specs.Sums.{IsSumIn}
use Rattle.mesa_group_blocks.specs.mesa_answer.Answering.{KeepsSums, grouped_columns}
use Rattle.mesa_group_blocks.specs.mesa_answer.Gathering.{wanted_by}
use Rattle.mesa_group_blocks.specs.mesa_merge.Faults.{HaveFaultCause, faults_of}
use Rattle.mesa_group_blocks.specs.mesa_merge.Inputs.{Known, AreTold, knowns_of}
use Rattle.mesa_group_blocks.specs.mesa_open_files.Pins.{IsPinned}
use Rattle.mesa_group_blocks.specs.mesa_open_files.declared.querying.Pinned.{Pinned}
use Rattle.mesa_query.specs.Cooled.{cooled}
use Rattle.mesa_query.proofs.Cooling.{damage_cooled, faults_cooled, known_cooled, parts_cooled, pinned_warm, sum_cooled, through, ungrouped_cooled}

-- ---- what a query's answer is, by the pin

abbrev pub IsPageOf : {R : Type 0} → (R → Option (List ℕ)) → Pinned R → Result Page FileError → Type 0
IsPageOf bytes p r = IfOk r (λ page. (s : Columns) → IsPinned bytes s p → (contents : List (List Row)) → AreTold (knowns_of bytes (inputs_in p.inputs.items)) contents → page ≡ page_over s p.query (parts_pinned p.view p.inputs.items contents))

abbrev pub HasForm : {R : Type 0} → (R → Option (List ℕ)) → Pinned R → Result Page FileError → Type 0
HasForm bytes p r = IfOk r (λ page. (s : Columns) → IsPinned bytes s p → AreRowsOf (grouped_columns s p.query.asked.columns p.query.asked.values) page.rows)

abbrev pub HasCause : {R : Type 0} → (R → ℕ) → Pinned R → Pinned R → Result Page FileError → Type 0
HasCause faults old new r = HaveFaultCause (λ e. e ≡ file_error.Read) (faults_of faults (inputs_in old.inputs.items)) (faults_of faults (inputs_in new.inputs.items)) r

abbrev pub IsDamaged : {R : Type 0} → (R → Option (List ℕ)) → (R → ℕ) → Pinned R → Pinned R → Result Page FileError → Type 0
IsDamaged bytes size old new r = IfErr r (λ e. (d : Damage) → e ≡ file_error.Damaged d → (s : Columns) → IsPinned bytes s old
    → IsDamageIn bytes size d old.inputs.items new.inputs.items ⊎ IsSumIn bytes (wanted_by s old.query) old.query.asked.terms old.view old.inputs.items d)

abbrev pub IsNever : {R : Type 0} → (R → Option (List ℕ)) → Pinned R → Result Page FileError → Type 0
IsNever bytes p r = IfErr r (λ e. (d : Damage) → e ≡ file_error.Damaged d → (s : Columns) → IsPinned bytes s p → (contents : List (List Row)) → AreTold (knowns_of bytes (inputs_in p.inputs.items)) contents
    → KeepsSums s (rows_of (parts_ungrouped p.view p.inputs.items contents)) → ⊥)

-- ---- without the caches

module _ {R : Type 0} (bytes : R → Option (List ℕ)) where
  told_warm : (p : Pinned (Reading R)) (contents : List (List Row)) → AreTold (knowns_of bytes (inputs_in (cooled p).inputs.items)) contents → AreTold (knowns_of (through bytes) (inputs_in p.inputs.items)) contents
  told_warm p contents told = subst (λ (ks : List Known). AreTold ks contents) (known_cooled bytes p.inputs.items) told

  pub page_cooled : (p : Pinned (Reading R)) (r : Result Page FileError) → IsPageOf (through bytes) p r → IsPageOf bytes (cooled p) r
  page_cooled p r h = IfOk-weaker r _ _ (λ page is s pinned contents told.
      is s (pinned_warm bytes s p pinned) contents (told_warm p contents told) ∙ ap (page_over s p.query) (sym (parts_cooled p.view p.inputs.items contents))) h

  pub form_cooled : (p : Pinned (Reading R)) (r : Result Page FileError) → HasForm (through bytes) p r → HasForm bytes (cooled p) r
  form_cooled p r h = IfOk-weaker r _ _ (λ page is s pinned. is s (pinned_warm bytes s p pinned)) h

  pub cause_cooled : (faults : R → ℕ) (old new : Pinned (Reading R)) (r : Result Page FileError) → HasCause (through faults) old new r → HasCause faults (cooled old) (cooled new) r
  cause_cooled faults old new r h = rw (faults_cooled faults old.inputs.items, faults_cooled faults new.inputs.items) h

  pub damaged_cooled : (size : R → ℕ) (old new : Pinned (Reading R)) (r : Result Page FileError) → IsDamaged (through bytes) (through size) old new r → IsDamaged bytes size (cooled old) (cooled new) r
  damaged_cooled size old new r h = IfErr-weaker r _ _ (λ e is d shown s pinned.
      ⊎_map (damage_cooled bytes size d old.inputs.items new.inputs.items) (sum_cooled bytes (wanted_by s old.query) old.query.asked.terms old.view old.inputs.items d) (is d shown s (pinned_warm bytes s old pinned))) h

  pub never_cooled : (p : Pinned (Reading R)) (r : Result Page FileError) → IsNever (through bytes) p r → IsNever bytes (cooled p) r
  never_cooled p r h = IfErr-weaker r _ _ (λ e is d shown s pinned contents told keeps.
      is d shown s (pinned_warm bytes s p pinned) contents (told_warm p contents told) (subst (λ (parts : List (List Row)). KeepsSums s (rows_of parts)) (ungrouped_cooled p.view p.inputs.items contents) keeps)) h
