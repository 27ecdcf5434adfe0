use Rattle.mesa_block.proofs.Forms.{all_read, is_read}
use Rattle.mesa_block.proofs.Sizes.{block_more}
use Rattle.mesa_block.proofs.laws.grows_by_rows.Goals as goal

pub returns : goal.returns
returns c =
    let passes = c.reads_back.ensures.passes in
    λ s rows row all h. block_more s rows row (all_read passes s rows all) (is_read passes s row h)
