use Rattle.std.proofs.Common.{sym, subst, ◌≤◌, ℕ, length}
use Rattle.mesa_delta.proofs.Accepting.{begins_so}
use Rattle.mesa_delta.proofs.reader.DeltaReader.seek.Goals as goal

pub returns-clause-begins : goal.returns-clause-begins
returns-clause-begins g c = λ rows b f before front row back behind is le.
    subst (λ (n : ℕ). n ≤ length before) (sym c.seek.ensures)
    (begins_so c.fits_alone.ensures c.begins_before.ensures c.args.self.now.index c.args.key.now rows b before front row back behind c.blocks-blocks.ensures.index f is le)
