use Rattle.std.proofs.Common.{◌∙◌}
use Rattle.mesa_recover.proofs.Unnamed.{found_so}
use Rattle.mesa_recover.proofs.strays.is_among.Goals as goal

pub returns : goal.returns
returns c = c.is_ok.ensures.value ∙ found_so c.args.numbers.now c.args.number c.binary_search.result c.requires c.binary_search.ensures.position
