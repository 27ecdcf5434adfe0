use Rattle.std.proofs.Common.{◌≡◌, ◌≢◌, ◌≤◌, length, refl, sym, ◌∙◌, subst, arith, Err}
use Rattle.mesa_delta.specs.Ahead.{AreAhead}
use Rattle.mesa_merge.specs.Damaged.{IsBlockOf}
use Rattle.mesa_merge.specs.Inputs.{AreAlike, AreTold, tolds_of}
use Rattle.mesa_merge.specs.Merging.{AreReady}
use Rattle.mesa_merge.proofs.Beginning.{begun_merging}
use Rattle.mesa_merge.proofs.Causing.{cause_on, cause_quiet}
use Rattle.mesa_merge.proofs.next.begin.Goals as goal

pub inputs-init : goal.inputs-init
inputs-init g c = record {
  count = c.requires.count;
  tree = c.requires.tree;
  none = λ j le. c.requires.none j;
  given = λ low givens h. h;
  ready = tt;
  known = refl;
  kept = λ all. all;
  ahead = rw c.new-ahead.ensures tt;
  faults = refl;
}

pub start-requires-clause-ahead : goal.start-requires-clause-ahead
start-requires-clause-ahead g c = λ lifetimes longer.
    let inv = c.inputs.invariant in
    let wait = c.wait_from.ensures.waiting in
    subst (λ ks. AreAhead (tolds_of ks) c.wait_from.new.ahead) (sym wait.known) (wait.ahead (subst (λ ks. AreAhead (tolds_of ks) c.inputs.ahead) (sym inv.known) inv.ahead))

pub inputs-preserved : goal.inputs-preserved
inputs-preserved g c =
    let inv = c.inputs.invariant in
    let i = c.inputs.i in
    let wait = c.wait_from.ensures.waiting in
    let begun = c.in-Ok-start.ensures in
    let known = wait.known ∙ inv.known in
    record {
      count = omega (arith, inv.count, c.wait_from.auto.inputs, c.start.auto.inputs, c.start.auto.cursors);
      tree = begun.tree;
      none = λ j le. let ne : j ≢ i = omega (arith, le) in let was : i ≤ j = omega (arith, le) in begun.others j ne ∙ inv.none j was;
      given = λ low givens h. begun.given low givens (wait.given low givens (inv.given low givens h));
      ready = begun.more (wait.ready i inv.ready);
      known = begun.known ∙ known;
      kept = λ all. begun.inputs (wait.inputs (inv.kept all));
      ahead = subst (λ ks. AreAhead (tolds_of ks) c.start.new.ahead) known begun.ahead;
      faults = begun.cause.quiet ∙ c.in-Ok.ensures.cause.quiet ∙ inv.faults;
    }

pub returns-in-Err-clause-cause : goal.returns-in-Err-clause-cause
returns-in-Err-clause-cause g c = cause_on {T = Unit {0}} {U = Unit {0}} _ _ _ (Err c.in-Err.error) (Err c.in-Err.error) c.inputs.invariant.faults c.in-Err.ensures.cause refl

pub returns-in-Err-clause-known : goal.returns-in-Err-clause-known
returns-in-Err-clause-known g c = c.wait_from.ensures.waiting.known ∙ c.inputs.invariant.known

pub returns-in-Err-clause-inputs : goal.returns-in-Err-clause-inputs
returns-in-Err-clause-inputs g c = λ all. c.wait_from.ensures.waiting.inputs (c.inputs.invariant.kept all)

pub returns-in-Err-clause-damaged : goal.returns-in-Err-clause-damaged
returns-in-Err-clause-damaged g c = λ d e low givens h. absurd (let read = c.in-Err.ensures.fault in cc)

pub returns-in-Err-clause-accepts : goal.returns-in-Err-clause-accepts
returns-in-Err-clause-accepts g c = λ d e low givens h contents told. absurd (let read = c.in-Err.ensures.fault in cc)

pub returns-in-Err-start-clause-cause : goal.returns-in-Err-start-clause-cause
returns-in-Err-start-clause-cause g c =
    cause_on {T = Unit {0}} {U = Unit {0}} _ _ _ (Err c.in-Err-start.error) (Err c.in-Err-start.error) (c.in-Ok.ensures.cause.quiet ∙ c.inputs.invariant.faults) c.in-Err-start.ensures.cause refl

pub returns-in-Err-start-clause-known : goal.returns-in-Err-start-clause-known
returns-in-Err-start-clause-known g c = c.start.ensures.known ∙ c.wait_from.ensures.waiting.known ∙ c.inputs.invariant.known

pub returns-in-Err-start-clause-inputs : goal.returns-in-Err-start-clause-inputs
returns-in-Err-start-clause-inputs g c = λ all. c.start.ensures.inputs (c.wait_from.ensures.waiting.inputs (c.inputs.invariant.kept all))

pub returns-in-Err-start-clause-damaged : goal.returns-in-Err-start-clause-damaged
returns-in-Err-start-clause-damaged g c = λ d e low givens h.
    let inv = c.inputs.invariant in
    let wait = c.wait_from.ensures.waiting in
    subst (λ ks. IsBlockOf g.R.FileReader.bytes g.R.FileReader.size ks d) (wait.known ∙ inv.known) (c.in-Err-start.ensures.damaged d e low givens (wait.given low givens (inv.given low givens h)))

pub returns-in-Err-start-clause-accepts : goal.returns-in-Err-start-clause-accepts
returns-in-Err-start-clause-accepts g c = λ d e low givens h contents told.
    let inv = c.inputs.invariant in
    let wait = c.wait_from.ensures.waiting in
    c.in-Err-start.ensures.accepts d e low givens (wait.given low givens (inv.given low givens h)) contents (subst (λ ks. AreTold ks contents) (sym (wait.known ∙ inv.known)) told)

pub returns-clause-merging : goal.returns-clause-merging
returns-clause-merging g c = λ low s givens alike h none.
    let inv = c.inputs.invariant in
    let all : c.inputs.i ≡ length c.inputs.inputs = omega (arith, c.inputs-test.false, c.inputs.auto.inputs, c.inputs.auto.i-end) in
    begun_merging g.R.FileReader.bytes low s c.inputs.inputs c.inputs.cursors givens (subst (AreAlike s) (sym inv.known) alike) (inv.given low givens h) none (subst (λ n. AreReady n c.inputs.inputs c.inputs.cursors) all inv.ready)

pub returns-clause-cause : goal.returns-clause-cause
returns-clause-cause g c = cause_quiet _ _ _ c.inputs.invariant.faults
