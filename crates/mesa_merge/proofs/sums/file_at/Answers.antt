use Rattle.std.proofs.Common.{get_or, ◌∙◌, ap}
use Rattle.mesa_scan.specs.mesa_delta_format.Indexed.{Indexed}
use Rattle.mesa_merge.specs.Inputs.{known_of}
use Rattle.mesa_merge.proofs.Inputs.{known_get}
use Rattle.mesa_merge.proofs.sums.file_at.Goals as goal

pub returns : goal.returns
returns g c =
    let i = get_or c.args.inputs.now c.args.i c.index-inputs-i.result in
    (known_of g.R.FileReader.bytes i, known_get g.R.FileReader.bytes c.args.inputs.now c.args.i c.index-inputs-i.result c.requires, c.file.ensures ∙ ap (λ (x : Indexed). x.file) c.index.ensures)
