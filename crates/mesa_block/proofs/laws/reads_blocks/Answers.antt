use Rattle.mesa_block.proofs.OnlyBlock.{block_again}
use Rattle.mesa_block.proofs.laws.reads_blocks.Goals as goal

pub returns : goal.returns
returns c = block_again c.reads_back.ensures.passes
