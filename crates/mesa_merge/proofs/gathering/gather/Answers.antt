use Rattle.std.proofs.Common.{◌≡◌, inl, inr, ◌<◌, ◌+◌, ◌++◌, ◌∷◌, [], ℕ, get_or, length, set, refl, sym, ◌∙◌, ap, subst, arith, rules}
use Rattle.mesa_scan.specs.mesa_columns.declared.rows.Row.{Row}
use Rattle.mesa_scan.specs.mesa_columns.Columns.{aggs_of}
use Rattle.mesa_scan.specs.mesa_fold.Folded.{AllCombine, row_combined}
use Rattle.mesa_scan.specs.mesa_columns.Rows.{AreRowsOf}
use Rattle.mesa_scan.specs.Cursors.{at_hand}
use Rattle.mesa_delta.specs.declared.error.FileError.TheVariants.{Damaged, Read}
use Rattle.mesa_merge.specs.Damaged.{IsBlockOf}
use Rattle.mesa_merge.specs.Hands.{IsAhead, IsFrom, IsLeastOf, hands_of}
use Rattle.mesa_merge.specs.Inputs.{AreTold, knowns_of, lifted_parts}
use Rattle.mesa_merge.specs.Merging.{AreReady}
use Rattle.mesa_merge.specs.Sums.{IsNewest, sum_damage}
use Rattle.mesa_merge.proofs.Bounds.{sum_stays}
use Rattle.mesa_merge.proofs.Cases.{if_false, if_true}
use Rattle.mesa_merge.proofs.Causing.{cause_on, cause_other, cause_quiet}
use Rattle.mesa_merge.proofs.Combining.{aggs_count, gather_done, gather_later, gather_more}
use Rattle.mesa_merge.proofs.Damages.{leaves_bound, sum_of}
use Rattle.mesa_merge.proofs.Ending.{AreFronts, givens_fronts}
use Rattle.mesa_merge.proofs.Hands.{hand_of_get}
use Rattle.mesa_merge.proofs.Inputs.{alike_at, given_at, givens_count}
use Rattle.mesa_merge.proofs.Lasting.{last_of}
use Rattle.mesa_merge.proofs.Taking.{hand_form}
use Rattle.mesa_merge.proofs.gathering.gather.Goals as goal

pub same-preserved : goal.same-preserved
same-preserved g c =
    let bytes = g.R.FileReader.bytes in
    let inv = c.same.invariant in
    let i = c.in-Some.i in
    let head = c.in-Some.ensures.least.least in
    let more = head.row in
    let given = c.in-Ok.ensures.given more head.rows head.there in
    let form = c.in-Ok.ensures.form more head.rows head.there in
    let above = c.in-Ok.ensures.above more head.rows head.there in
    let hand = sym (hand_of_get c.same.cursors i c.index-cursors-i-in-Some.result c.in-Some.ensures.within) ∙ head.there in
    let combined = if_true _ _ c.if-not-combined.false c.combine_head-combined.ensures.yes more head.rows hand in
    let lt : i < length c.same.inputs = omega (arith, c.in-Some.ensures.within, inv.count) in
    record {
      within = omega (arith, lt, c.advance.auto.inputs);
      count = omega (arith, inv.count, c.advance.auto.inputs, c.advance.auto.cursors);
      tree = c.advance.ensures.tree;
      known = c.in-Ok.ensures.known ∙ inv.known;
      inputs = λ all. c.in-Ok.ensures.inputs (inv.inputs all);
      faults = c.in-Ok.ensures.cause.quiet ∙ inv.faults;
      key = ap (λ (r : Row). r.key) combined.1 ∙ inv.key;
      stage = λ low s front givens e start.
          let now = inv.stage low s front givens e start in
          let least : IsLeastOf c.same.row.key i (hands_of c.same.cursors) = subst (λ k. IsLeastOf k i (hands_of c.same.cursors)) c.as_slice.ensures c.in-Some.ensures.least in
          let made : c.combine_head-combined.new.row ≡ record c.same.row { values = row_combined (aggs_of s) c.same.row.values more.values } =
          combined.1 ∙ ap (λ gs. record c.same.row { values = row_combined gs c.same.row.values more.values }) e in (
            set now.0 i (get_or now.0 i [] ++ more ∷ []),
            gather_more c.folds_go_on.ensures.given bytes low s c.same.inputs c.advance.new.inputs c.same.cursors c.advance.new.cursors (c.same.from + 1) i c.same.row more _ front now.0 now.1 least
                (record {
                  within = lt;
                  rows = head.rows;
                  there = head.there;
                  given = given low now.0 now.1.given;
                  form = form low s now.0 now.1.alike now.1.given;
                  ahead = above low now.0 now.1.given;
                  others = c.in-Ok.ensures.others;
                  ready = subst (λ n. AreReady n c.advance.new.inputs c.advance.new.cursors) (sym c.advance.auto.inputs) (c.in-Ok.ensures.ready (length c.same.inputs) now.1.ready);
                  known = c.in-Ok.ensures.known;
                }) made,
          );
    }

pub same-smaller : goal.same-smaller
same-smaller g c =
    let inv = c.same.invariant in
    let start = c.requires.gathering in
    let now = inv.stage start.0 start.1 start.2 start.3 start.4 start.5 in
    let least : IsLeastOf c.same.row.key c.in-Some.i (hands_of c.same.cursors) = subst (λ k. IsLeastOf k c.in-Some.i (hands_of c.same.cursors)) c.as_slice.ensures c.in-Some.ensures.least in
    let later = gather_later g.R.FileReader.bytes start.0 start.1 c.same.inputs c.same.cursors (c.same.from + 1) c.in-Some.i c.same.row start.2 now.0 now.1 least in
    omega (arith, later, inv.within, inv.count, c.in-Some.ensures.within, c.advance.auto.inputs)

pub combine_head-combined-requires-clause-old_full : goal.combine_head-combined-requires-clause-old_full
combine_head-combined-requires-clause-old_full g c =
    let start = c.requires.gathering in
    let now = c.same.invariant.stage start.0 start.1 start.2 start.3 start.4 start.5 in
    now.1.form.values ∙ sym (aggs_count start.1) ∙ sym (ap length start.4)

pub combine_head-combined-requires-clause-new_full : goal.combine_head-combined-requires-clause-new_full
combine_head-combined-requires-clause-new_full g c =
    let bytes = g.R.FileReader.bytes in
    let i = c.in-Some.i in
    let start = c.requires.gathering in
    let low = start.0 in
    let s = start.1 in
    let now = c.same.invariant.stage low s start.2 start.3 start.4 start.5 in
    let head = c.in-Some.ensures.least.least in
    let hand = sym (hand_of_get c.same.cursors i c.index-cursors-i.result c.in-Some.ensures.within) ∙ head.there in
    let again = sym (hand_of_get c.same.cursors i c.index-cursors-i-in-Some.result c.in-Some.ensures.within) ∙ head.there in
    let lt : i < length c.same.inputs = omega (arith, c.in-Some.ensures.within, c.same.invariant.count) in
    let was = given_at bytes low c.same.inputs c.same.cursors now.0 i c.index-inputs-i.result c.index-cursors-i.result now.1.given lt in
    let form = c.rises.ensures.form low (get_or now.0 i []) was in
    let same = alike_at bytes s c.same.inputs i c.index-inputs-i.result now.1.alike lt in
    let own = hand_form s (get_or now.0 i []) (at_hand (get_or c.same.cursors i c.index-cursors-i.result)) head.row head.rows (subst (λ t. AreRowsOf t (get_or now.0 i [] ++ at_hand (get_or c.same.cursors i c.index-cursors-i.result))) same form) hand in
    (head.row, head.rows, again, own.values ∙ sym (aggs_count s) ∙ sym (ap length start.4))

pub offset_bounds-inputs-i : goal.offset_bounds-inputs-i
offset_bounds-inputs-i g c =
    let within : c.in-Some.i < length c.args.inputs.now = omega (arith, c.in-Some.ensures.within, c.same.invariant.count, c.same.auto.inputs) in
    search rules

pub returns-in-Err-clause-accepts : goal.returns-in-Err-clause-accepts
returns-in-Err-clause-accepts g c = λ d e low s front givens columns start contents told bound.
    let bytes = g.R.FileReader.bytes in
    let now = c.same.invariant.stage low s front givens columns start in
    c.in-Err.ensures.accepts d e low now.0 now.1.given contents (subst (λ ks. AreTold ks contents) (sym c.same.invariant.known) told)

pub returns-in-Err-clause-cause : goal.returns-in-Err-clause-cause
returns-in-Err-clause-cause g c = cause_on _ _ _ _ _ c.same.invariant.faults c.in-Err.ensures.cause refl

pub returns-then-not-combined-clause-accepts : goal.returns-then-not-combined-clause-accepts
returns-then-not-combined-clause-accepts g c = λ d e low s front givens columns start contents told bound.
    let bytes = g.R.FileReader.bytes in
    let inv = c.same.invariant in
    let i = c.in-Some.i in
    let head = c.in-Some.ensures.least.least in
    let more = head.row in
    let hand = sym (hand_of_get c.same.cursors i c.index-cursors-i-in-Some.result c.in-Some.ensures.within) ∙ head.there in
    let now = inv.stage low s front givens columns start in
    let given = c.in-Ok.ensures.given more head.rows head.there in
    let known : knowns_of bytes c.advance.new.inputs ≡ knowns_of bytes c.args.inputs.now = c.in-Ok.ensures.known ∙ inv.known in
    let lt : i < length now.0 = omega (arith, c.in-Some.ensures.within, inv.count, givens_count bytes low c.same.inputs c.same.cursors now.0 now.1.given) in
    let fronts : AreFronts low (set now.0 i (get_or now.0 i [] ++ more ∷ [])) (lifted_parts (knowns_of bytes c.args.inputs.now) contents) =
    subst (λ ks. AreFronts low (set now.0 i (get_or now.0 i [] ++ more ∷ [])) (lifted_parts ks contents)) known (givens_fronts bytes low c.advance.new.inputs c.advance.new.cursors _ contents (given low now.0 now.1.given) (subst (λ ks. AreTold ks contents) (sym known) told)) in
    let stays : AllCombine (aggs_of s) c.same.row.values more.values = sum_stays c.folds_totals.ensures low s now.0 _ front c.same.row more i (aggs_count s) now.1.formed now.1.fold lt fronts bound in
    absurd ((if_false _ _ c.if-not-combined.true c.combine_head-combined.ensures.no).1 more head.rows hand (subst (λ gs. AllCombine gs c.same.row.values more.values) (sym columns) stays))

pub returns-then-not-combined-clause-cause : goal.returns-then-not-combined-clause-cause
returns-then-not-combined-clause-cause g c =
    cause_other _ _ _ (c.in-Ok.ensures.cause.quiet ∙ c.same.invariant.faults) (λ read. let both : Damaged (sum_damage c.file_at.result) ≡ Read = sym c.sum_fault.ensures ∙ read in cc)

pub returns-then-not-combined-clause-inputs : goal.returns-then-not-combined-clause-inputs
returns-then-not-combined-clause-inputs g c = λ all. c.in-Ok.ensures.inputs (c.same.invariant.inputs all)

pub returns-clause-merging : goal.returns-clause-merging
returns-clause-merging g c = λ low s front givens columns start.
    let now = c.same.invariant.stage low s front givens columns start in
    let hands = hands_of c.same.cursors in
    let none : ((j : ℕ) → IsFrom c.same.row.key (get_or hands j [])) → (j : ℕ) → IsAhead c.same.row.key (get_or hands j []) = subst (λ k. ((j : ℕ) → IsFrom k (get_or hands j [])) → (j : ℕ) → IsAhead k (get_or hands j [])) c.as_slice.ensures c.in_default.ensures.none in
    (now.0, gather_done g.R.FileReader.bytes low s c.same.inputs c.same.cursors (c.same.from + 1) c.same.row front now.0 now.1 none, now.1.fold, now.1.form, now.1.stage.upto, last_of g.R.FileReader.bytes low s c.same.inputs c.same.cursors c.same.from c.same.row front now.0 now.1)

pub returns-clause-cause : goal.returns-clause-cause
returns-clause-cause g c = cause_quiet _ _ _ c.same.invariant.faults

pub file_at-requires : goal.file_at-requires
file_at-requires g c = (c.type_bounds.send-R, omega (arith, c.newest_with-newest.ensures.within, c.same.invariant.count, c.advance.auto.inputs, c.advance.auto.cursors))

pub returns-in-Err-clause-damaged : goal.returns-in-Err-clause-damaged
returns-in-Err-clause-damaged g c = λ d e.
    let bytes = g.R.FileReader.bytes in
    let start = c.requires.gathering in
    let now = c.same.invariant.stage start.0 start.1 start.2 start.3 start.4 start.5 in
    inl (subst (λ ks. IsBlockOf bytes g.R.FileReader.size ks d) (sym c.in-Err.ensures.known) (c.in-Err.ensures.damaged d e start.0 now.0 now.1.given))

pub returns-then-not-combined-clause-damaged : goal.returns-then-not-combined-clause-damaged
returns-then-not-combined-clause-damaged g c = λ d e.
    let bytes = g.R.FileReader.bytes in
    let start = c.requires.gathering in
    let inv = c.same.invariant in
    let i = c.in-Some.i in
    let head = c.in-Some.ensures.least.least in
    let more = head.row in
    let hand = sym (hand_of_get c.same.cursors i c.index-cursors-i-in-Some.result c.in-Some.ensures.within) ∙ head.there in
    let low = start.0 in
    let s = start.1 in
    let now = inv.stage low s start.2 start.3 start.4 start.5 in
    let given = c.in-Ok.ensures.given more head.rows head.there in
    let form = c.in-Ok.ensures.form more head.rows head.there in
    let above = c.in-Ok.ensures.above more head.rows head.there in
    let lt : i < length c.same.inputs = omega (arith, c.in-Some.ensures.within, inv.count) in
    let least : IsLeastOf c.same.row.key i (hands_of c.same.cursors) = subst (λ k. IsLeastOf k i (hands_of c.same.cursors)) c.as_slice.ensures c.in-Some.ensures.least in
    let next : Row = record c.same.row { values = row_combined (aggs_of s) c.same.row.values more.values } in
    let after = gather_more c.folds_go_on.ensures.given bytes low s c.same.inputs c.advance.new.inputs c.same.cursors c.advance.new.cursors (c.same.from + 1) i c.same.row more next start.2 now.0 now.1 least
    (record {
      within = lt;
      rows = head.rows;
      there = head.there;
      given = given low now.0 now.1.given;
      form = form low s now.0 now.1.alike now.1.given;
      ahead = above low now.0 now.1.given;
      others = c.in-Ok.ensures.others;
      ready = subst (λ n. AreReady n c.advance.new.inputs c.advance.new.cursors) (sym c.advance.auto.inputs) (c.in-Ok.ensures.ready (length c.same.inputs) now.1.ready);
      known = c.in-Ok.ensures.known;
    }) refl in
    let file = c.file_at.ensures in
    let no = if_false _ _ c.if-not-combined.true c.combine_head-combined.ensures.no in
    let newest = subst (λ k. IsNewest k i c.newest_with-newest.result (hands_of c.advance.new.cursors)) (c.as_slice-then-not-combined.ensures ∙ ap (λ (r : Row). r.key) no.0) c.newest_with-newest.ensures.newest in
    let told : d ≡ sum_damage file.0.file.file = let both : Damaged (sum_damage c.file_at.result) ≡ Damaged d = sym c.sum_fault.ensures ∙ e in let one : d ≡ sum_damage c.file_at.result = cc in one ∙ ap sum_damage file.2 in
    let off = leaves_bound (aggs_of s) c.same.row.values more.values (λ all. no.1 more head.rows hand (subst (λ gs. AllCombine gs c.same.row.values more.values) (sym start.4) all)) in
    inr (sum_of bytes low s c.advance.new.inputs c.advance.new.cursors i c.newest_with-newest.result next start.2 _ file.0 d after off newest file.1 told)
