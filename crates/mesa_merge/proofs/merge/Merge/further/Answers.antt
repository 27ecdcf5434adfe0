use Rattle.std.proofs.Common.{◌≡◌, ◌<◌, [], ℕ, List, length, get_or, refl, sym, ◌∙◌, ap, subst, arith}
use Rattle.std.specs.Prelude.{IsTrue, Option}
use Rattle.std.specs.Bool.{then_some}
use Rattle.std.specs.List.{AllByRecursion}
use Rattle.mesa_scan.specs.mesa_columns.Columns.{aggs_of}
use Rattle.mesa_scan.specs.mesa_fold.Folded.{folded, rows_of}
use Rattle.mesa_batch.specs.Bound.{KeepsBound}
use Rattle.mesa_scan.specs.declared.cursor.Cursor.{Cursor}
use Rattle.mesa_scan.specs.Cursors.{IsInput}
use Rattle.mesa_scan.specs.Cut.{cut, lies_in}
use Rattle.mesa_merge.specs.Damaged.{IsDamageOf}
use Rattle.mesa_merge.specs.Faults.{faults_of}
use Rattle.mesa_merge.specs.Hands.{IsPast, hands_of}
use Rattle.mesa_merge.specs.Inputs.{AreTold, knowns_of, lifted_parts}
use Rattle.mesa_merge.specs.Matches.{IsTree}
use Rattle.mesa_merge.specs.Merging.{IsMerging}
use Rattle.mesa_merge.proofs.Answering.{answered, answered_cause, answered_none, answered_not}
use Rattle.mesa_merge.proofs.Between.{below_upto, fold_between}
use Rattle.mesa_merge.proofs.Cases.{if_err, if_none, if_none2, if_ok, if_ok2, if_ok3, if_some}
use Rattle.mesa_merge.proofs.Causing.{cause_kept}
use Rattle.mesa_merge.proofs.Handing.{merged_with, refill}
use Rattle.mesa_merge.proofs.merge.Merge.further.Goals as goal

pub next_row-requires-clause-tree : goal.next_row-requires-clause-tree
next_row-requires-clause-tree g c = λ _ _.
    let m = c.args.self.now in
    subst (λ (cs : List Cursor). IsTree (hands_of cs) m.tree) (sym c.deref_mut-2.ensures.value) c.requires.4.tree

pub next_row-requires-clause-merging : goal.next_row-requires-clause-merging
next_row-requires-clause-merging g c = λ _ _.
    let bytes = g.R.FileReader.bytes in
    let m = c.args.self.now in
    let low = c.requires.0 in
    let s = c.requires.2 in
    let givens = c.requires.3 in
    let h = c.requires.4 in (
      low,
      s,
      givens,
      (λ some. c.deref.ensures.value ∙ h.columns (subst (λ is. 0 < length is) c.deref_mut.ensures.value some)),
      subst (λ is. IsMerging bytes low s is c.deref_mut-2.result.now givens) (sym c.deref_mut.ensures.value) (subst (λ cs. IsMerging bytes low s m.inputs.items cs givens) (sym c.deref_mut-2.ensures.value) (h.merging c.requires.5)),
    )

pub returns : goal.returns
returns g c =
    let bytes = g.R.FileReader.bytes in
    let m = c.args.self.now in
    let ei = refill m.inputs.len m.inputs.items c.next_row.new.inputs (sym m.inputs.ok.0) (c.next_row.auto.inputs ∙ ap length c.deref_mut.ensures.value) in
    let ec = refill m.cursors.len m.cursors.items c.next_row.new.cursors (sym m.cursors.ok.0) (c.next_row.auto.cursors ∙ ap length c.deref_mut-2.ensures.value) in
    record {
      some =
          answered c.next_row.result _ _ (if_ok2 c.next_row.result _ _ _ (λ more tree some. if_some (then_some more c.next_row.new.row) _ _ (λ row some low high s givens h.
          let merging = subst (λ is. IsMerging bytes low s is c.deref_mut-2.result.now givens) (sym c.deref_mut.ensures.value) (subst (λ cs. IsMerging bytes low s m.inputs.items cs givens) (sym c.deref_mut-2.ensures.value) (h.merging c.requires.5)) in
          let next = some low s givens (λ any. c.deref.ensures.value ∙ h.columns (subst (λ is. 0 < length is) c.deref_mut.ensures.value any)) merging in
          let columns : 0 < length c.next_row.new.inputs → m.aggs.items ≡ aggs_of s = λ any. h.columns (omega (arith, any, c.next_row.auto.inputs, ap length c.deref_mut.ensures.value)) in
          let lies : IsTrue (lies_in low high row.key) = subst (λ (end : Option (List ℕ)). IsTrue (lies_in low end row.key)) h.end next.4 in
          (next.0, merged_with bytes low high s _ c.next_row.new.inputs c.next_row.new.cursors c.next_row.new.tree next.0 ei ec refl c.requires.5 h.going h.end (λ j. below_upto low high row.key (get_or next.0 j []) lies (next.5 j)) columns tree next.1, next.2, next.3, lies, next.6)) some) c.next_row.ensures.tree c.next_row.ensures.some);
      none =
          answered c.next_row.result _ _ (if_ok3 c.next_row.result _ _ _ _ (λ more tree none past. if_none2 (then_some more c.next_row.new.row) _ _ _ (λ none past low high s givens h.
          let merging = subst (λ is. IsMerging bytes low s is c.deref_mut-2.result.now givens) (sym c.deref_mut.ensures.value) (subst (λ cs. IsMerging bytes low s m.inputs.items cs givens) (sym c.deref_mut-2.ensures.value) (h.merging c.requires.5)) in
          let all = none low s givens merging in
          let columns : 0 < length c.next_row.new.inputs → m.aggs.items ≡ aggs_of s = λ any. h.columns (omega (arith, any, c.next_row.auto.inputs, ap length c.deref_mut.ensures.value)) in
          let left : (j : ℕ) → IsPast high (get_or (hands_of c.next_row.new.cursors) j []) = λ j. subst (λ (end : Option (List ℕ)). IsPast end (get_or (hands_of c.next_row.new.cursors) j [])) h.end (past j) in (
            merged_with bytes low high s _ c.next_row.new.inputs c.next_row.new.cursors c.next_row.new.tree givens ei ec refl c.requires.5 h.going h.end h.below columns tree all,
            λ contents told.
                subst (λ is. folded (aggs_of s) givens ≡ cut low high (folded (aggs_of s) (lifted_parts (knowns_of bytes is) contents))) (sym ei)
                (fold_between bytes low high s c.next_row.new.inputs c.next_row.new.cursors givens contents all h.below left (subst (λ is. AreTold (knowns_of bytes is) contents) ei told)),
          )) none past) c.next_row.ensures.tree c.next_row.ensures.none c.next_row.ensures.past);
      ended =
          answered c.next_row.result _ _ (if_ok c.next_row.result _ _ (λ more past. if_none (then_some more c.next_row.new.row) _ _ (λ past.
          record { begun = c.requires.5; past = λ j. subst (λ (cs : List Cursor). IsPast m.high (get_or (hands_of cs) j [])) (sym ec) (past j) }) past) c.next_row.ensures.past);
      stays =
          λ ended.
          answered_none c.next_row.result _ (c.next_row.ensures.stays (λ j. subst (λ (cs : List Cursor). IsPast m.high (get_or (hands_of cs) j [])) (sym c.deref_mut-2.ensures.value) (ended.past j)));
      high = refl;
      known =
          ap (knowns_of g.R.FileReader.bytes) ei ∙ c.next_row.ensures.known ∙ ap (knowns_of g.R.FileReader.bytes) c.deref_mut.ensures.value;
      inputs =
          λ all.
          subst (AllByRecursion (IsInput g.R.FileReader.bytes)) (sym ei) (c.next_row.ensures.inputs (subst (AllByRecursion (IsInput g.R.FileReader.bytes)) (sym c.deref_mut.ensures.value) all));
      cause =
          answered_cause _ _ _ c.next_row.result _ (cause_kept c.next_row.result _ _ _ _ (ap (faults_of g.R.FileReader.faults) c.deref_mut.ensures.value) (sym (ap (faults_of g.R.FileReader.faults) ei)) c.next_row.ensures.cause);
      accepts =
          answered_not c.next_row.result _ _ (if_err c.next_row.result _ _ (λ e accepts d is low high s givens h contents told bound.
          let merging = subst (λ xs. IsMerging bytes low s xs c.deref_mut-2.result.now givens) (sym c.deref_mut.ensures.value) (subst (λ cs. IsMerging bytes low s m.inputs.items cs givens) (sym c.deref_mut-2.ensures.value) (h.merging c.requires.5)) in
          accepts d is low s givens (λ any. c.deref.ensures.value ∙ h.columns (subst (λ xs. 0 < length xs) c.deref_mut.ensures.value any)) merging contents
          (subst (λ xs. AreTold (knowns_of bytes xs) contents) (sym c.deref_mut.ensures.value) told)
          (subst (λ xs. KeepsBound (aggs_of s) [] (rows_of (lifted_parts (knowns_of bytes xs) contents))) (sym c.deref_mut.ensures.value) bound)) c.next_row.ensures.accepts);
      damaged =
          answered_not c.next_row.result _ _ (if_err c.next_row.result _ _ (λ e damaged d is. subst (λ xs. IsDamageOf bytes g.R.FileReader.size xs d) (sym ei) (damaged d is)) c.next_row.ensures.damaged);
    }
