use Rattle.std.proofs.Common.{rules, sym, subst}
use Rattle.std.specs.Prelude.{IfSome, slice_get}
use Rattle.mesa_delta.specs.Ahead.{AreAhead, IsOfFile, Told, Untested}
use Rattle.mesa_scan.specs.Moving.{told_in}
use Rattle.mesa_scan.proofs.Moving.{all_push, there_ahead}
use Rattle.mesa_merge.proofs.waiting.wait_for.Goals as goal

pub returns-clause-ahead : goal.returns-clause-ahead
returns-clause-ahead g c = λ files at h.
    let more = c.in_ok-read.ensures.more (search rules) in
    subst (AreAhead files) (sym more.1)
    (all_push (λ (u : Untested). IfSome (slice_get files u.file) (λ (f : Told). IsOfFile f.content f.index u)) c.args.ahead.now more.0 h
    (there_ahead files c.args.place (told_in g.R.FileReader.bytes c.args.input.now) more.0 at more.2 more.4))
