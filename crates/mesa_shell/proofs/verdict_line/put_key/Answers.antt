use Rattle.std.proofs.Common.{ℕ, List, [], ◌++◌, sym, ap, ◌∙◌, subst, rules, append_assoc, append-nil}
use Rattle.std.proofs.lemmas.List.{nil_from_length}
use Rattle.std.specs.Slice.Iter.{chunks_rest}
use Rattle.mesa_session.specs.mesa_filter.Hex.{hex_of}
use Rattle.mesa_print.specs.Printed.{Printed}
use Rattle.mesa_print.proofs.Printing.{printed_then}
use Rattle.mesa_shell.proofs.Printing.{hex_append, printed_nothing}
use Rattle.mesa_shell.proofs.verdict_line.put_key.Goals as goal

pub pieces-init : goal.pieces-init
pieces-init g c = record {
  next = search rules;
  ends = tt;
  size = search rules;
  printed = ([], printed_nothing g.K.Sink.held g.K.Sink.faults c.args.printer.now, search rules);
}

pub pieces-preserved : goal.pieces-preserved
pieces-preserved g c =
    let so_far = c.pieces.invariant in
    let done = so_far.printed.0 in
    let piece = c.in-Some.piece.now in
    let steps = c.in-Some.ensures.steps in
    record {
      next = search rules;
      ends = tt;
      size = steps.0 ∙ so_far.size;
      printed = (
        done ++ piece,
        subst (λ (t : List ℕ). Printed g.K.Sink.held g.K.Sink.faults c.args.printer.now c.put_hex.new.printer t) (sym (hex_append done piece)) (printed_then _ _ _ _ _ _ _ so_far.printed.1 c.put_hex.ensures),
        append_assoc done piece (chunks_rest c.next.new.self) ∙ ap (λ (t : List ℕ). done ++ t) (sym steps.1.0) ∙ so_far.printed.2,
      );
    }

pub returns : goal.returns
returns g c =
    let so_far = c.pieces.invariant in
    let done = so_far.printed.0 in
    let none = nil_from_length _ c.in-None.ensures.steps.1.0 in
    subst (λ (t : List ℕ). Printed g.K.Sink.held g.K.Sink.faults c.args.printer.now c.pieces.printer (hex_of t)) (sym (append-nil done) ∙ ap (λ (t : List ℕ). done ++ t) (sym none) ∙ so_far.printed.2) so_far.printed.1
