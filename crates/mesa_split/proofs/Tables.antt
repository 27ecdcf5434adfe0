-- The file of a table's range, by the readers that were lent for it.
use Rattle.std.proofs.Common.{◌≡◌, ◌⊎◌, inl, inr, ℕ, ◌+◌, ◌<◌, List, ◌++◌, length, map, sym, ap, subst, ◌∙◌, Global, Vec}
use Rattle.std.proofs.lemmas.Result.{IfErr-weaker, IfOk-weaker}
use Rattle.std.specs.Prelude.{Option, None, Result, Ok, Err, IfErr, IfOk, flat_map, slice_get}
use Rattle.std.specs.List.{AllByRecursion}
use Rattle.mesa_file.specs.declared.damage.Damage.{Damage}
use Rattle.mesa_compact.specs.mesa_columns.declared.rows.Row.{Row}
use Rattle.mesa_schema.specs.Changes.{Lineage, columns_of}
use Rattle.mesa_schema.specs.Lineages.{IsLineage}
use Rattle.mesa_batch.specs.Bound.{FoldsTotals}
use Rattle.mesa_delta.specs.declared.error.FileError.{FileError}
use Rattle.mesa_delta.specs.declared.error.FileError.TheVariants.{Read}
use Rattle.mesa_delta.specs.declared.input.Input.{Input}
use Rattle.mesa_answer.specs.Answering.{KeepsSums}
use Rattle.mesa_answer.specs.declared.groups.Groups.{Groups}
use Rattle.mesa_compact.specs.mesa_scan.Cursors.{IsInput}
use Rattle.mesa_merge.specs.Faults.{HaveFaultCause, faults_of}
use Rattle.mesa_merge.specs.Inputs.{AreInputs, knowns_of}
use Rattle.mesa_open_files.specs.GivingBack.{spare_inputs}
use Rattle.mesa_open_files.specs.Inputs.{AreInputsOf, IsMergeOf}
use Rattle.mesa_open_files.specs.Spares.{AreSpareInputs}
use Rattle.mesa_open_files.specs.declared.made.MadeFile.{MadeFile}
use Rattle.mesa_open_files.specs.declared.merging.CompactError.{CompactError}
use Rattle.mesa_open_files.specs.declared.merging.CompactError.TheVariants.{File}
use Rattle.mesa_open_files.specs.declared.merging.Spare.{Spare}
use Rattle.mesa_compact.specs.Bounded.{AreBounded}
use Rattle.mesa_compact.specs.Damaged.{IsMergeDamage}
use Rattle.mesa_compact.specs.Writing.{HasCauses, IsReadFault, damaged_by}
use Rattle.mesa_compact.proofs.Viewing.{mergeable, of_table}
use Rattle.mesa_split.specs.Lending.{AllTell, AreLent, AreReady, IsEndOf, Moved, Tells, items_of, knowns_in, lists_in, lists_of, own_in, returned}
use Rattle.mesa_split.specs.Parts.{IsPartOf}
use Rattle.mesa_split.specs.Rounds.{HasRangeFile, IsFrontTotal, IsRangeFile, merge_of}
use Rattle.mesa_split.specs.Split.{IsSpareDamage}
use Rattle.mesa_split.specs.declared.parts.Part.{Part}
use Rattle.mesa_split.proofs.Loans.{damaged_list, lent_all, lent_moved, lent_same, lists_all, own_lent, parts_all}
use Rattle.mesa_split.proofs.Splitting.{damage_at, each_input, fold_keeps, lists_each, lists_tell, own_known, rest_known, spares_inputs, spares_ready, whole_keeps, whole_merge}
use Rattle.mesa_split.proofs.Verdicts.{caused_lists, gained_lists}

abbrev Answers : Type 0
Answers = List (Result (List Row) FileError)

-- the counts of all readers of a task, by why its parts ended
caused_end : {R T : Type 0} (faults : R → ℕ) (old new : Vec (Input R) Global) (os ns : List (Spare R)) (rs : Answers) (r : Result T CompactError) → Moved (map (faults_of faults) (items_of (lists_of old os))) (map (faults_of faults) (items_of (lists_of new ns))) rs → IsEndOf rs r
    → HaveFaultCause IsReadFault (faults_of faults (old.items ++ flat_map spare_inputs os)) (faults_of faults (new.items ++ flat_map spare_inputs ns)) r
caused_end faults old new os ns rs (Ok v) moved end = let all = gained_lists faults old new os ns rs v moved end in record { later = all.later; failed = tt; quiet = all.quiet; other = tt }
caused_end faults old new os ns rs (Err e) moved end = elim end [
  | inl gained ↦ (
      let all = gained_lists faults {T = ℕ} old new os ns rs 0 moved gained.0 in
      record { later = all.later; failed = λ is. absurd (gained.1 is); quiet = tt; other = λ _. all.quiet }
      )
  | inr failed ↦ (
      let all = caused_lists faults {T = List Row} old new os ns rs failed.0 moved failed.2 in
      record {
        later = all.later;
        failed = λ is. all.failed (let both : File failed.0 ≡ File Read = sym failed.1 ∙ is in cc);
        quiet = tt;
        other = λ never. all.other (λ read. never (failed.1 ∙ ap File read));
      }
      )
]

module _ {R : Type 0} (bytes : R → Option (List ℕ)) (faults size : R → ℕ) (l : Lineage) (own now back : Vec (Input R) Global) (os ns gs : List (Spare R)) (ps qs : List (Part R)) where
  -- the inputs of a task and its spares were lent to parts, and are back
  pub record Lent : Type 0 where
    pub lent : AreLent (lists_of own os) (lists_of now ns) (lists_in ps)
    pub some : 0 < length ps
    pub same : length qs ≡ length ps
    pub given_back : lists_of back gs ≡ returned (lists_of now ns) (lists_in qs)
    pub inputs : AreInputsOf bytes l own.items
    pub spares : AllByRecursion (λ (x : Spare R). AreSpareInputs bytes own.items x.inputs.items) os

  pub lent_ready : AreLent (lists_of own os) (lists_of now ns) (lists_in ps) → AreInputsOf bytes l own.items → AllByRecursion (λ (x : Spare R). AreSpareInputs bytes own.items x.inputs.items) os → AreReady bytes (columns_of l) ps
  lent_ready lent inputs spares =
      parts_all (AreInputs bytes (columns_of l)) (lists_of own os) (lists_of now ns) ps lent
      (lists_all (AreInputs bytes (columns_of l)) own os (mergeable bytes (columns_of l) own.items (of_table bytes l own.items inputs)) (spares_ready bytes l own os inputs spares))

  pub lent_tells : AreLent (lists_of own os) (lists_of now ns) (lists_in ps) → 0 < length ps → AllByRecursion (λ (x : Spare R). AreSpareInputs bytes own.items x.inputs.items) os → AllTell bytes (own_in ps) ps
  lent_tells lent some spares = subst (λ is. AllTell bytes is ps) (sym (own_lent own now os ns ps lent some)) (parts_all (Tells bytes own.items) (lists_of own os) (lists_of now ns) ps lent (lists_tell bytes own os spares))

  known_lists : Lent → knowns_in bytes qs ≡ knowns_in bytes ps → map (knowns_of bytes) (items_of (lists_of back gs)) ≡ map (knowns_of bytes) (items_of (lists_of own os))
  known_lists h same = ap (λ (ls : List (Vec (Input R) Global)). map (knowns_of bytes) (items_of ls)) h.given_back ∙ lent_same (knowns_of bytes) (lists_of own os) (lists_of now ns) ps qs h.lent same

  pub own_back : Lent → knowns_in bytes qs ≡ knowns_in bytes ps → knowns_of bytes back.items ≡ knowns_of bytes own.items
  own_back h same = own_known bytes own back os gs (known_lists h same)

  pub spares_back : Lent → knowns_in bytes qs ≡ knowns_in bytes ps → map (λ (x : Spare R). knowns_of bytes x.inputs.items) gs ≡ map (λ (x : Spare R). knowns_of bytes x.inputs.items) os
  spares_back h same = rest_known bytes own back os gs (known_lists h same)

  each_list : Lent → AllByRecursion (λ (q : Part R). AllByRecursion (IsInput bytes) q.inputs.items) qs → AllByRecursion (AllByRecursion (IsInput bytes)) (items_of (lists_of back gs))
  each_list h each =
      subst (λ (ls : List (Vec (Input R) Global)). AllByRecursion (AllByRecursion (IsInput bytes)) (items_of ls)) (sym h.given_back)
      (lent_all (AllByRecursion (IsInput bytes)) (lists_of own os) (lists_of now ns) ps qs h.lent h.same (lists_each bytes own os (each_input bytes l own.items h.inputs) h.spares) each)

  pub own_inputs_back : Lent → AllByRecursion (λ (q : Part R). AllByRecursion (IsInput bytes) q.inputs.items) qs → AllByRecursion (IsInput bytes) back.items
  own_inputs_back h each = (each_list h each).0

  pub spares_inputs_back : Lent → AllByRecursion (λ (q : Part R). AllByRecursion (IsInput bytes) q.inputs.items) qs → AllByRecursion (λ (x : Spare R). AllByRecursion (IsInput bytes) x.inputs.items) gs
  spares_inputs_back h each = spares_inputs bytes back gs (each_list h each)

  module _ {M : Type 0} (told : M → Option (List ℕ)) (drawn : M → ℕ) (id newest : ℕ) (groups after : List Groups) (before end : ℕ) (r : Result (Option (MadeFile M)) CompactError) where
    abbrev File_ : Type 0
    File_ = HasRangeFile told drawn bytes faults size (columns_of l) id newest (own_in ps) ps qs groups after before end r

    abbrev Told : Damage → Type 0
    Told d = (IsMergeDamage bytes size back.items d ⊎ IsSpareDamage bytes size gs d) ⊎ IsFrontTotal (columns_of l) (knowns_of bytes own.items) newest d

    pub table_causes : Lent → File_ → HasCauses before end (faults_of faults (own.items ++ flat_map spare_inputs os)) (faults_of faults (back.items ++ flat_map spare_inputs gs)) Told r
    table_causes h f =
        let moved = subst (λ (ls : List (Vec (Input R) Global)). Moved (map (faults_of faults) (items_of (lists_of own os))) (map (faults_of faults) (items_of ls)) f.reads.0) (sym h.given_back) (lent_moved faults (lists_of own os) (lists_of now ns) ps qs f.reads.0 h.lent f.reads.1) in
        record {
          drafts = f.drafts;
          reads = caused_end faults own back os gs f.reads.0 r moved f.reads.2;
          damaged = IfErr-weaker r _ _ (λ e damaged d is. elim (damaged d is) [
            | inl there ↦ (
                let list = damaged_list bytes size (lists_of own os) (lists_of now ns) ps qs d h.lent h.same there in
                inl (damage_at bytes size back gs d (list.0, list.1, ap (λ (ls : List (Vec (Input R) Global)). slice_get (items_of ls) list.0) h.given_back ∙ list.2, list.3))
                )
            | inr total ↦ inr (subst (λ is. IsFrontTotal (columns_of l) (knowns_of bytes is) newest d) (own_lent own now os ns ps h.lent h.some) total)
          ]) f.damaged;
        }

    pub table_made : FoldsTotals → IsLineage l → Lent → File_ → IfOk r (λ made. (rows : List Row) × IsMergeOf bytes (columns_of l) own.items rows × IsRangeFile told drawn (columns_of l) id rows after made × (AreBounded (columns_of l) (knowns_of bytes own.items) → KeepsSums (columns_of l) rows))
    table_made law line h f = IfOk-weaker r _ _ (λ made all.
        let part = subst (λ is. IsPartOf (columns_of l) None None (knowns_of bytes is) all.0) (own_lent own now os ns ps h.lent h.some) all.1 in
        (all.0, whole_merge bytes (columns_of l) own.items all.0 part, all.2, whole_keeps bytes l own.items all.0 law line h.inputs part)) f.file

    pub table_accepts : FoldsTotals → IsLineage l → Lent → File_ → IfErr r (λ e. (d : Damage) → e ≡ damaged_by d → AreBounded (columns_of l) (knowns_of bytes own.items) → ⊥)
    table_accepts law line h f = IfErr-weaker r _ _ (λ e accepts d is b.
        let same = own_lent own now os ns ps h.lent h.some in
        (subst (λ is. (c : AreBounded (columns_of l) (knowns_of bytes is)) → KeepsSums (columns_of l) (merge_of (columns_of l) (knowns_of bytes is) c.contents) → ⊥) same (accepts d is)) b (fold_keeps bytes l own.items law line h.inputs b)) f.accepts
