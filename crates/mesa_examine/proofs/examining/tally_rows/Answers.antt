use Rattle.std.proofs.Common.{◌∷◌, [], ◌++◌, length, sym, ap, subst, ◌∙◌}
use Rattle.mesa_schema.specs.Changes.{columns_of}
use Rattle.mesa_delta.specs.Reading.{IsIndexed}
use Rattle.mesa_examine.proofs.Streams.{same_input}
use Rattle.mesa_examine.proofs.examining.tally_rows.Goals as goal

pub returns-in-Err-clause-accepts : goal.returns-in-Err-clause-accepts
returns-in-Err-clause-accepts g c = λ d is b all told indexed.
    let inv = c.rows.invariant in
    c.in-Err.ensures.accepts d is inv.tallied.1.key inv.input b all (inv.same.told ∙ told) (subst (λ x. IsIndexed x all b) (sym inv.same.index) indexed)

pub returns-then-not-more-clause-tallied : goal.returns-then-not-more-clause-tallied
returns-then-not-more-clause-tallied g c = λ present start.
    let so_far = c.rows.invariant.tallied in
    let none = rw c.if-not-more.true at c.in-Ok.ensures.none in
    (so_far.0, (none so_far.0 so_far.1).1, so_far.2 present start)

pub add-requires : goal.add-requires
add-requires g c =
    let inv = c.rows.invariant in
    let some = rw c.if-not-more.false at c.in-Ok.ensures.some in
    (some inv.tallied.0 inv.tallied.1).1.values ∙ ap (λ s. length s.values) (ap (λ e. columns_of e.value) inv.same.evolving ∙ sym c.requires.own)

pub rows-preserved : goal.rows-preserved
rows-preserved g c =
    let inv = c.rows.invariant in
    let so_far = inv.tallied in
    let some = rw c.if-not-more.false at c.in-Ok.ensures.some in
    record {
      input = c.in-Ok.ensures.input inv.input;
      same = same_input g.R.FileReader.bytes c.args.input.now c.rows.input c.next_row.new.input inv.same c.in-Ok.ensures.same;
      faults = c.in-Ok.ensures.cause.quiet ∙ inv.faults;
      tallied = (so_far.0 ++ c.next_row.new.row ∷ [], (some so_far.0 so_far.1).0, λ present start. c.in_ok-add.ensures present so_far.0 (so_far.2 present start));
    }
