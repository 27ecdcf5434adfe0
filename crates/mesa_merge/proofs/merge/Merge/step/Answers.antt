use Rattle.std.proofs.Common.{inl, ◌≡◌, [], ℕ, List, length, get_or, refl, sym, ◌∙◌, ap, subst, arith}
use Rattle.std.proofs.lemmas.Bool.{false≢true}
use Rattle.std.specs.List.{AllByRecursion}
use Rattle.mesa_scan.specs.mesa_columns.Columns.{aggs_of}
use Rattle.mesa_scan.specs.mesa_fold.Folded.{rows_of}
use Rattle.mesa_batch.specs.Bound.{KeepsBound}
use Rattle.mesa_scan.specs.declared.cursor.Cursor.{Cursor}
use Rattle.mesa_scan.specs.Cursors.{IsInput}
use Rattle.mesa_merge.specs.Calls.{answer_of}
use Rattle.mesa_merge.specs.Damaged.{IsBlockOf}
use Rattle.mesa_merge.specs.Faults.{faults_of}
use Rattle.mesa_merge.specs.Hands.{hands_of}
use Rattle.mesa_merge.specs.Inputs.{AreAlike, AreTold, knowns_of, lifted_parts}
use Rattle.mesa_merge.specs.Matches.{IsTree}
use Rattle.mesa_merge.specs.Merging.{HasGivens}
use Rattle.mesa_merge.proofs.Cases.{if_err, if_none, if_ok, if_some}
use Rattle.mesa_merge.proofs.Causing.{cause_kept, cause_on}
use Rattle.mesa_merge.proofs.Handing.{merged_with, refill}
use Rattle.mesa_merge.proofs.Inputs.{cursors_count}
use Rattle.mesa_merge.proofs.merge.Merge.step.Goals as goal

pub begin-requires-clause-count : goal.begin-requires-clause-count
begin-requires-clause-count g c = λ _ _.
    let m = c.args.self.now in
    ap length c.deref_mut-2.ensures.value ∙ cursors_count g.R.FileReader.bytes c.requires.0 m.inputs.items m.cursors.items c.requires.3 c.requires.4.given ∙ sym (ap length c.deref_mut.ensures.value)

pub begin-requires-clause-none : goal.begin-requires-clause-none
begin-requires-clause-none g c = λ _ _. subst (λ (cs : List Cursor). (j : ℕ) → get_or (hands_of cs) j [] ≡ []) (sym c.deref_mut-2.ensures.value) (c.requires.4.none c.if-self.false)

pub begin-requires-clause-tree : goal.begin-requires-clause-tree
begin-requires-clause-tree g c = λ _ _.
    let m = c.args.self.now in
    subst (λ (cs : List Cursor). IsTree (hands_of cs) m.tree) (sym c.deref_mut-2.ensures.value) c.requires.4.tree

pub further-requires : goal.further-requires
further-requires g c = (c.type_bounds.send-R, (c.requires.0, c.requires.1, c.requires.2, c.requires.3, c.requires.4, c.if-self.true))

pub further-requires-in-Ok-after_bounds : goal.further-requires-in-Ok-after_bounds
further-requires-in-Ok-after_bounds g c = λ _ _.
    let bytes = g.R.FileReader.bytes in
    let m = c.args.self.now in
    let ei = refill m.inputs.len m.inputs.items c.begin.new.inputs (sym m.inputs.ok.0) (c.begin.auto.inputs ∙ ap length c.deref_mut.ensures.value) in
    let ec = refill m.cursors.len m.cursors.items c.begin.new.cursors (sym m.cursors.ok.0) (c.begin.auto.cursors ∙ ap length c.deref_mut-2.ensures.value) in
    let low = c.requires.0 in
    let high = c.requires.1 in
    let s = c.requires.2 in
    let given = c.requires.3 in
    let h = c.requires.4 in (
      low,
      high,
      s,
      given,
      merged_with bytes low high s _ c.begin.new.inputs c.begin.new.cursors c.begin.new.tree given ei ec refl refl h.going h.end h.below (λ any. h.columns (omega (arith, any, c.begin.auto.inputs, ap length c.deref_mut.ensures.value))) c.in-Ok.ensures.tree
          (c.in-Ok.ensures.merging low s given (subst (λ xs. AreAlike s (knowns_of bytes xs)) (sym c.deref_mut.ensures.value) h.alike)
          (subst (λ xs. HasGivens bytes low xs c.deref_mut-2.result.now given) (sym c.deref_mut.ensures.value) (subst (λ cs. HasGivens bytes low m.inputs.items cs given) (sym c.deref_mut-2.ensures.value) h.given)) (h.fresh c.if-self.false)),
      refl,
    )

pub returns-in-Ok : goal.returns-in-Ok
returns-in-Ok g c =
    let bytes = g.R.FileReader.bytes in
    let faults = g.R.FileReader.faults in
    let m = c.args.self.now in
    let ei = refill m.inputs.len m.inputs.items c.begin.new.inputs (sym m.inputs.ok.0) (c.begin.auto.inputs ∙ ap length c.deref_mut.ensures.value) in
    let ec = refill m.cursors.len m.cursors.items c.begin.new.cursors (sym m.cursors.ok.0) (c.begin.auto.cursors ∙ ap length c.deref_mut-2.ensures.value) in
    record {
      some =
          if_ok (answer_of c.further-in-Ok.result c.further-in-Ok.new.self) _ _ (λ o some. if_some o _ _ (λ row more low high s givens h. more low high s givens (merged_with bytes low high s _ c.begin.new.inputs c.begin.new.cursors c.begin.new.tree givens ei ec refl refl h.going h.end h.below (λ any. h.columns (omega (arith, any, c.begin.auto.inputs, ap length c.deref_mut.ensures.value))) c.in-Ok.ensures.tree
          (c.in-Ok.ensures.merging low s givens (subst (λ xs. AreAlike s (knowns_of bytes xs)) (sym c.deref_mut.ensures.value) h.alike)
          (subst (λ xs. HasGivens bytes low xs c.deref_mut-2.result.now givens) (sym c.deref_mut.ensures.value) (subst (λ cs. HasGivens bytes low m.inputs.items cs givens) (sym c.deref_mut-2.ensures.value) h.given)) (h.fresh c.if-self.false)))) some) c.further-in-Ok.ensures.some;
      none =
          if_ok (answer_of c.further-in-Ok.result c.further-in-Ok.new.self) _ _ (λ o none. if_none o _ _ (λ more low high s givens h. more low high s givens (merged_with bytes low high s _ c.begin.new.inputs c.begin.new.cursors c.begin.new.tree givens ei ec refl refl h.going h.end h.below (λ any. h.columns (omega (arith, any, c.begin.auto.inputs, ap length c.deref_mut.ensures.value))) c.in-Ok.ensures.tree
          (c.in-Ok.ensures.merging low s givens (subst (λ xs. AreAlike s (knowns_of bytes xs)) (sym c.deref_mut.ensures.value) h.alike)
          (subst (λ xs. HasGivens bytes low xs c.deref_mut-2.result.now givens) (sym c.deref_mut.ensures.value) (subst (λ cs. HasGivens bytes low m.inputs.items cs givens) (sym c.deref_mut-2.ensures.value) h.given)) (h.fresh c.if-self.false)))) none) c.further-in-Ok.ensures.none;
      ended = c.further-in-Ok.ensures.ended;
      stays = λ ended. absurd (false≢true (sym c.if-self.false ∙ ended.begun));
      high = c.further-in-Ok.ensures.high;
      known =
          c.further-in-Ok.ensures.known ∙ ap (knowns_of bytes) ei ∙ c.in-Ok.ensures.known ∙ ap (knowns_of bytes) c.deref_mut.ensures.value;
      inputs =
          λ all.
          c.further-in-Ok.ensures.inputs (subst (AllByRecursion (IsInput g.R.FileReader.bytes)) (sym ei) (c.in-Ok.ensures.inputs (subst (AllByRecursion (IsInput g.R.FileReader.bytes)) (sym c.deref_mut.ensures.value) all)));
      cause =
          cause_kept (answer_of c.further-in-Ok.result c.further-in-Ok.new.self) _ _ _ _ (ap (faults_of faults) ei ∙ c.in-Ok.ensures.cause.quiet ∙ ap (faults_of faults) c.deref_mut.ensures.value) refl c.further-in-Ok.ensures.cause;
      damaged = c.further-in-Ok.ensures.damaged;
      accepts =
          let known = ap (knowns_of bytes) ei ∙ c.in-Ok.ensures.known ∙ ap (knowns_of bytes) c.deref_mut.ensures.value in
          if_err (answer_of c.further-in-Ok.result c.further-in-Ok.new.self) _ _ (λ e accepts d is low high s givens h contents told bound. accepts d is low high s givens (merged_with bytes low high s _ c.begin.new.inputs c.begin.new.cursors c.begin.new.tree givens ei ec refl refl h.going h.end h.below (λ any. h.columns (omega (arith, any, c.begin.auto.inputs, ap length c.deref_mut.ensures.value))) c.in-Ok.ensures.tree
          (c.in-Ok.ensures.merging low s givens (subst (λ xs. AreAlike s (knowns_of bytes xs)) (sym c.deref_mut.ensures.value) h.alike)
          (subst (λ xs. HasGivens bytes low xs c.deref_mut-2.result.now givens) (sym c.deref_mut.ensures.value) (subst (λ cs. HasGivens bytes low m.inputs.items cs givens) (sym c.deref_mut-2.ensures.value) h.given)) (h.fresh c.if-self.false))) contents
          (subst (λ ks. AreTold ks contents) (sym known) told) (subst (λ ks. KeepsBound (aggs_of s) [] (rows_of (lifted_parts ks contents))) (sym known) bound)) c.further-in-Ok.ensures.accepts;
    }

pub returns-in-Err : goal.returns-in-Err
returns-in-Err g c =
    let bytes = g.R.FileReader.bytes in
    let faults = g.R.FileReader.faults in
    let m = c.args.self.now in
    let ei = refill m.inputs.len m.inputs.items c.begin.new.inputs (sym m.inputs.ok.0) (c.begin.auto.inputs ∙ ap length c.deref_mut.ensures.value) in
    record {
      some = tt;
      none = tt;
      ended = tt;
      stays = λ ended. absurd (false≢true (sym c.if-self.false ∙ ended.begun));
      high = refl;
      known =
          ap (knowns_of bytes) ei ∙ c.in-Err.ensures.known ∙ ap (knowns_of bytes) c.deref_mut.ensures.value;
      inputs =
          λ all.
          subst (AllByRecursion (IsInput g.R.FileReader.bytes)) (sym ei) (c.in-Err.ensures.inputs (subst (AllByRecursion (IsInput g.R.FileReader.bytes)) (sym c.deref_mut.ensures.value) all));
      cause =
          cause_on _ _ _ _ _ refl (cause_kept _ _ _ _ _ (ap (faults_of faults) c.deref_mut.ensures.value) (sym (ap (faults_of faults) ei)) c.in-Err.ensures.cause) refl;
      damaged = λ d is.
          let low = c.requires.0 in
          let givens = c.requires.3 in
          let known = ap (knowns_of bytes) ei ∙ c.in-Err.ensures.known in
          inl (subst (λ ks. IsBlockOf bytes g.R.FileReader.size ks d) (sym known) (c.in-Err.ensures.damaged d is low givens (subst (λ xs. HasGivens bytes low xs c.deref_mut-2.result.now givens) (sym c.deref_mut.ensures.value) (subst (λ cs. HasGivens bytes low m.inputs.items cs givens) (sym c.deref_mut-2.ensures.value) c.requires.4.given))));
      accepts =
          λ d is low high s givens h contents told bound.
          c.in-Err.ensures.accepts d is low givens (subst (λ xs. HasGivens bytes low xs c.deref_mut-2.result.now givens) (sym c.deref_mut.ensures.value) (subst (λ cs. HasGivens bytes low m.inputs.items cs givens) (sym c.deref_mut-2.ensures.value) h.given)) contents (subst (λ xs. AreTold (knowns_of bytes xs) contents) (sym c.deref_mut.ensures.value) told);
    }
