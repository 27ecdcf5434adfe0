use Rattle.std.proofs.Common.{◌≡◌, length, false, arith, ◌≤◌, sym, ◌∙◌}
use Rattle.std.proofs.lemmas.List.{take_all}
use Rattle.std.proofs.lemmas.Bool.{false≢true}
use Rattle.mesa_print.proofs.printer.Printer.put.Goals as goal

pub returns-in_default : goal.returns-in_default
returns-in_default g c =
    let good : c.args.self.now.broken ≡ false = c.if-self.false in
    let le : length c.args.bytes.now ≤ length c.args.bytes.now = omega arith in
    record {
      whole = λ e. (good, c.in_default.ensures.ok);
      front = (length c.args.bytes.now, rw (take_all (length c.args.bytes.now) c.args.bytes.now le) c.in_default.ensures.ok);
      still = λ e. absurd (false≢true (sym good ∙ e));
      later = c.in_default.ensures.cause.later;
      cause = λ e f. absurd (false≢true (sym good ∙ f));
      quiet = λ e. c.in_default.ensures.cause.quiet;
    }
