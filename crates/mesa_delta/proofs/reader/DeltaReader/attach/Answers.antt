use Rattle.mesa_delta.proofs.Accepting.{tail_accepts}
use Rattle.mesa_delta.proofs.reader.DeltaReader.attach.Goals as goal

pub returns-in-Err-clause-accepts : goal.returns-in-Err-clause-accepts
returns-in-Err-clause-accepts g c = λ d is b rows at h ref.
    let r = g.R.FileReader in
    tail_accepts c.fits_alone.ensures (r.bytes c.args.reader) (r.size c.args.reader) (record { format = c.args.file.now.format; columns = c.args.schema.now }) c.args.file.now d b rows c.keys-columns.ensures.sound c.told_length.ensures at (c.told_sizes.ensures b at) h ref
    (c.in-Err.ensures.damaged d is)
