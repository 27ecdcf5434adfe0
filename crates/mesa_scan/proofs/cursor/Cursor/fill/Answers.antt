use Rattle.std.proofs.Common.{◌≡◌, [], length, sym, ap, ◌∙◌, subst, arith}
use Rattle.mesa_delta.specs.Reading.{IsBlockDamage, IsIndexed, index_of}
use Rattle.mesa_scan.specs.Cursors.{IsDamageFrom, at_hand, next_of, reader_in}
use Rattle.mesa_scan.proofs.Handing.{past_end, some_left}
use Rattle.mesa_scan.proofs.cursor.Cursor.fill.Goals as goal
use Rattle.mesa_scan.proofs.cursor.Cursor.fill.Goals.{then-reading-test+else-self-blocks, else-reading-test}

pub returns-in-Err-clause-stays : goal.returns-in-Err-clause-stays
returns-in-Err-clause-stays g c = λ some.
    let is = c.reading.invariant.stays some in
    let none : at_hand c.reading.self ≡ [] = past_end c.reading.self.block c.reading.self.given (omega (arith, c.len.ensures, c.reading-test.true)) in
    absurd (omega (arith, some, ap (λ s. length (at_hand s)) is.0, ap length none))

pub returns-in-Err-clause-damaged : goal.returns-in-Err-clause-damaged
returns-in-Err-clause-damaged g c = λ d e all input.
    let bytes = g.R.FileReader.bytes in
    let size = g.R.FileReader.size in
    let inv = c.reading.invariant in
    let none : at_hand c.reading.self ≡ [] = past_end c.reading.self.block c.reading.self.given (omega (arith, c.len.ensures, c.reading-test.true)) in
    let is = inv.whole all none in
    let there = c.in-Err.ensures.damaged d e (inv.low ∙ all) (inv.input input) in (
      there.0,
      subst (λ n. IsBlockDamage (bytes (reader_in c.args.input.now)) (size (reader_in c.args.input.now)) (index_of c.args.input.now.reader) n there.0 d) (ap next_of is.0)
          (subst (λ x. IsBlockDamage (bytes (reader_in c.args.input.now)) (size (reader_in c.args.input.now)) x (next_of c.reading.self) there.0 d) inv.same.index
          (subst (λ n. IsBlockDamage (bytes (reader_in c.args.input.now)) n (index_of c.reading.input.reader) (next_of c.reading.self) there.0 d) inv.size
          (subst (λ t. IsBlockDamage t (size (reader_in c.reading.input)) (index_of c.reading.input.reader) (next_of c.reading.self) there.0 d) inv.same.told there.1))),
    )

pub returns-in-Err-clause-accepts : goal.returns-in-Err-clause-accepts
returns-in-Err-clause-accepts g c = λ d e all input b rows told indexed.
    let inv = c.reading.invariant in
    c.in-Err.ensures.accepts d e (inv.low ∙ all) (inv.input input) b rows (inv.same.told ∙ told) (subst (λ x. IsIndexed x rows b) (sym inv.same.index) indexed)

pub returns-in-Err-clause-damaged_from : goal.returns-in-Err-clause-damaged_from
returns-in-Err-clause-damaged_from g c = λ d e low given h.
    let bytes = g.R.FileReader.bytes in
    let size = g.R.FileReader.size in
    let inv = c.reading.invariant in
    let there = c.in-Err.ensures.damaged_from d e low given (inv.given low given h) in
    subst (λ x. IsDamageFrom (bytes (reader_in c.args.input.now)) (size (reader_in c.args.input.now)) x d) inv.same.index
    (subst (λ n. IsDamageFrom (bytes (reader_in c.args.input.now)) n (index_of c.reading.input.reader) d) inv.size
    (subst (λ t. IsDamageFrom t (size (reader_in c.reading.input)) (index_of c.reading.input.reader) d) inv.same.told there))

pub returns-in-Err-clause-accepts_from : goal.returns-in-Err-clause-accepts_from
returns-in-Err-clause-accepts_from g c = λ d e low given h b all told indexed.
    let inv = c.reading.invariant in
    c.in-Err.ensures.accepts_from d e low given (inv.given low given h) b all (inv.same.told ∙ told) (subst (λ x. IsIndexed x all b) (sym inv.same.index) indexed)

pub returns-clause-ready : goal.returns-clause-ready
returns-clause-ready g c = λ none. elim c.reading-test.branch [
  | then-reading-test+else-self-blocks w ↦ omega (arith, w.blocks-in-reading.ensures, w.if-self-blocks)
  | else-reading-test w ↦ absurd (some_left c.reading.self.block c.reading.self.given (omega (arith, c.len.ensures, w.reading-test)) none)
]
