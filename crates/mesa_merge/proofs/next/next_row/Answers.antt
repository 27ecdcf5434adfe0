use Rattle.std.proofs.Common.{inl, ◌≡◌, ◌<◌, ◌++◌, ◌∷◌, [], get_or, length, set, true, refl, sym, ◌∙◌, subst, arith}
use Rattle.std.proofs.lemmas.Bool.{and_from}
use Rattle.std.proofs.lemmas.Result.{err_from_is_err_and}
use Rattle.mesa_scan.specs.mesa_columns.Columns.{aggs_of}
use Rattle.mesa_scan.specs.mesa_fold.Folded.{folded, rows_of}
use Rattle.mesa_batch.specs.Bound.{KeepsBound}
use Rattle.mesa_delta.specs.declared.error.FileError.TheVariants.{Memory, Read}
use Rattle.mesa_scan.specs.Cut.{is_from, is_under, lies_in}
use Rattle.mesa_merge.specs.Damaged.{IsBlockOf}
use Rattle.mesa_merge.specs.Inputs.{AreTold, knowns_of, lifted_parts}
use Rattle.mesa_merge.specs.Merging.{AreReady}
use Rattle.mesa_merge.proofs.Causing.{cause_on, cause_other, cause_quiet}
use Rattle.mesa_merge.proofs.Combining.{gather_first}
use Rattle.mesa_merge.proofs.Hands.{hand_of_get}
use Rattle.mesa_merge.proofs.Inputs.{cursors_count, givens_from}
use Rattle.mesa_merge.proofs.next.next_row.Goals as goal

pub take_head-requires : goal.take_head-requires
take_head-requires g c =
    let least = c.in-Some.ensures.least in
    (least.row, least.rows, sym (hand_of_get c.args.cursors.now c.in-Some.i c.index-cursors-i.result c.in-Some.ensures.within) ∙ least.there)

pub advance-requires-clause-within : goal.advance-requires-clause-within
advance-requires-clause-within g c =
    let m = c.requires.merging in
    omega (arith, c.in-Some.ensures.within, cursors_count g.R.FileReader.bytes m.0 c.args.inputs.now c.args.cursors.now m.2 m.4.given)

pub advance-requires-clause-count : goal.advance-requires-clause-count
advance-requires-clause-count g c = λ _ _.
    let m = c.requires.merging in
    cursors_count g.R.FileReader.bytes m.0 c.args.inputs.now c.args.cursors.now m.2 m.4.given

pub gather-requires-clause-within : goal.gather-requires-clause-within
gather-requires-clause-within g c =
    let m = c.requires.merging in
    omega (arith, c.in-Some.ensures.within, cursors_count g.R.FileReader.bytes m.0 c.args.inputs.now c.args.cursors.now m.2 m.4.given, c.advance.auto.inputs)

pub gather-requires-clause-count : goal.gather-requires-clause-count
gather-requires-clause-count g c =
    let m = c.requires.merging in
    omega (arith, cursors_count g.R.FileReader.bytes m.0 c.args.inputs.now c.args.cursors.now m.2 m.4.given, c.advance.auto.inputs, c.advance.auto.cursors)

pub gather-requires-clause-gathering : goal.gather-requires-clause-gathering
gather-requires-clause-gathering g c = λ _ _.
    let bytes = g.R.FileReader.bytes in
    let m = c.requires.merging in
    let low = m.0 in
    let s = m.1 in
    let givens = m.2 in
    let i = c.in-Some.i in
    let first = c.take_head.new.row in
    let head = c.in_ok-take_head.ensures in
    let there = hand_of_get c.args.cursors.now i c.index-cursors-i.result c.in-Some.ensures.within ∙ head.1 in
    let given = c.in-Ok.ensures.given first head.0 there in
    let form = c.in-Ok.ensures.form first head.0 there in
    let above = c.in-Ok.ensures.above first head.0 there in
    let lt : i < length c.args.inputs.now = omega (arith, c.in-Some.ensures.within, cursors_count bytes low c.args.inputs.now c.args.cursors.now givens m.4.given) in (
      low,
      s,
      folded (aggs_of s) givens,
      set givens i (get_or givens i [] ++ first ∷ []),
      m.3 (omega (arith, lt)),
      gather_first c.folds_go_on.ensures.given bytes low s c.args.inputs.now c.advance.new.inputs c.args.cursors.now c.advance.new.cursors i givens first m.4 c.in-Some.ensures.least
          (record {
            within = lt;
            rows = head.0;
            there = there;
            given = given low givens m.4.given;
            form = form low s givens m.4.alike m.4.given;
            ahead = above low givens m.4.given;
            others = c.in-Ok.ensures.others;
            ready = subst (λ n. AreReady n c.advance.new.inputs c.advance.new.cursors) (sym c.advance.auto.inputs) (c.in-Ok.ensures.ready (length c.args.inputs.now) m.4.ready);
            known = c.in-Ok.ensures.known;
          }),
    )

pub returns-in_default-clause-cause : goal.returns-in_default-clause-cause
returns-in_default-clause-cause g c = cause_quiet _ _ _ refl

pub returns-in_err-take_head-clause-cause : goal.returns-in_err-take_head-clause-cause
returns-in_err-take_head-clause-cause g c =
    let p = err_from_is_err_and c.from_residual.result c.from_residual.ensures.1 in
    rw (p.1, p.2) (cause_other _ _ Memory refl (λ read. let both : Memory ≡ Read = read in cc))

pub returns-in-Err-clause-accepts : goal.returns-in-Err-clause-accepts
returns-in-Err-clause-accepts g c = λ d e low s givens columns m contents told bound.
    c.in-Err.ensures.accepts d e low givens m.given contents told

pub returns-in-Err-clause-cause : goal.returns-in-Err-clause-cause
returns-in-Err-clause-cause g c = cause_on _ _ _ _ _ refl c.in-Err.ensures.cause refl

pub returns-in-Ok-gather-clause-cause : goal.returns-in-Ok-gather-clause-cause
returns-in-Ok-gather-clause-cause g c = cause_on _ _ _ _ _ c.in-Ok.ensures.cause.quiet c.in-Ok-gather.ensures.cause tt

pub returns-in-Err-gather-clause-cause : goal.returns-in-Err-gather-clause-cause
returns-in-Err-gather-clause-cause g c = cause_on _ _ _ _ _ c.in-Ok.ensures.cause.quiet c.in-Err-gather.ensures.cause refl

pub returns-in-Ok-gather-clause-some : goal.returns-in-Ok-gather-clause-some
returns-in-Ok-gather-clause-some g c = λ low s givens columns m.
    let bytes = g.R.FileReader.bytes in
    let i = c.in-Some.i in
    let first = c.take_head.new.row in
    let head = c.in_ok-take_head.ensures in
    let there = hand_of_get c.args.cursors.now i c.index-cursors-i.result c.in-Some.ensures.within ∙ head.1 in
    let given = c.in-Ok.ensures.given first head.0 there in
    let form = c.in-Ok.ensures.form first head.0 there in
    let above = c.in-Ok.ensures.above first head.0 there in
    let lt : i < length c.args.inputs.now = omega (arith, c.in-Some.ensures.within, cursors_count bytes low c.args.inputs.now c.args.cursors.now givens m.given) in
    let from : is_from low first.key ≡ true = givens_from bytes low c.args.inputs.now c.args.cursors.now givens i first head.0 m.given lt there in
    let under : is_under c.args.high.now first.key ≡ true = c.in-Some.ensures.below first head.0 there in
    let lies : lies_in low c.args.high.now c.gather.new.row.key ≡ true = subst (λ k. lies_in low c.args.high.now k ≡ true) (sym c.in-Ok-gather.ensures.key) (and_from (is_from low first.key) (is_under c.args.high.now first.key) from under) in
    let after = c.in-Ok-gather.ensures.merging low s (folded (aggs_of s) givens) (set givens i (get_or givens i [] ++ first ∷ [])) (columns (omega (arith, lt)))
    (gather_first c.folds_go_on.ensures.given bytes low s c.args.inputs.now c.advance.new.inputs c.args.cursors.now c.advance.new.cursors i givens first m c.in-Some.ensures.least
    (record {
      within = lt;
      rows = head.0;
      there = there;
      given = given low givens m.given;
      form = form low s givens m.alike m.given;
      ahead = above low givens m.given;
      others = c.in-Ok.ensures.others;
      ready = subst (λ n. AreReady n c.advance.new.inputs c.advance.new.cursors) (sym c.advance.auto.inputs) (c.in-Ok.ensures.ready (length c.args.inputs.now) m.ready);
      known = c.in-Ok.ensures.known;
    })) in
    (after.0, after.1, after.2, after.3, lies, after.4, after.5)

pub returns-in-Err-gather-clause-accepts : goal.returns-in-Err-gather-clause-accepts
returns-in-Err-gather-clause-accepts g c = λ d e low s givens columns m contents told bound.
    let bytes = g.R.FileReader.bytes in
    let i = c.in-Some.i in
    let first = c.take_head.new.row in
    let head = c.in_ok-take_head.ensures in
    let there = hand_of_get c.args.cursors.now i c.index-cursors-i.result c.in-Some.ensures.within ∙ head.1 in
    let given = c.in-Ok.ensures.given first head.0 there in
    let form = c.in-Ok.ensures.form first head.0 there in
    let above = c.in-Ok.ensures.above first head.0 there in
    let lt : i < length c.args.inputs.now = omega (arith, c.in-Some.ensures.within, cursors_count bytes low c.args.inputs.now c.args.cursors.now givens m.given) in
    let known : knowns_of bytes c.advance.new.inputs ≡ knowns_of bytes c.args.inputs.now = c.in-Ok.ensures.known in
    c.in-Err-gather.ensures.accepts d e low s (folded (aggs_of s) givens) (set givens i (get_or givens i [] ++ first ∷ [])) (columns (omega (arith, lt)))
    (gather_first c.folds_go_on.ensures.given bytes low s c.args.inputs.now c.advance.new.inputs c.args.cursors.now c.advance.new.cursors i givens first m c.in-Some.ensures.least
    (record {
      within = lt;
      rows = head.0;
      there = there;
      given = given low givens m.given;
      form = form low s givens m.alike m.given;
      ahead = above low givens m.given;
      others = c.in-Ok.ensures.others;
      ready = subst (λ n. AreReady n c.advance.new.inputs c.advance.new.cursors) (sym c.advance.auto.inputs) (c.in-Ok.ensures.ready (length c.args.inputs.now) m.ready);
      known = c.in-Ok.ensures.known;
    })) contents (subst (λ ks. AreTold ks contents) (sym known) told) (subst (λ ks. KeepsBound (aggs_of s) [] (rows_of (lifted_parts ks contents))) (sym known) bound)

pub returns-in-Err-clause-damaged : goal.returns-in-Err-clause-damaged
returns-in-Err-clause-damaged g c = λ d e.
    let bytes = g.R.FileReader.bytes in
    let m = c.requires.merging in
    inl (subst (λ ks. IsBlockOf bytes g.R.FileReader.size ks d) (sym c.in-Err.ensures.known) (c.in-Err.ensures.damaged d e m.0 m.2 m.4.given))
