use Rattle.std.proofs.Common.{◌∙◌, ◌<◌, ◌≤◌, ◌++◌, ◌∷◌, [], List, ap, append_assoc, append-nil, arith, length, sym}
use Rattle.std.proofs.lemmas.Bool.{OnFalse_at}
use Rattle.mesa_delta.specs.Reading.{index_of}
use Rattle.mesa_group_blocks.specs.declared.pieces.Piece.{Piece}
use Rattle.mesa_group_blocks.proofs.PieceRows.{first_all, first_more, first_none, first_skipped}
use Rattle.mesa_group_blocks.proofs.pieces.add_pieces.Goals as goal

pub each_block-init : goal.each_block-init
each_block-init g c = ([], sym (append-nil c.args.pieces.now.items), first_none g.R.FileReader.bytes c.args.input.now c.args.filter.now c.args.place)

pub each_block-preserved-then-not-allows : goal.each_block-preserved-then-not-allows
each_block-preserved-then-not-allows g c =
    let h = c.each_block.invariant in
    let lt : c.each_block.block < length (index_of c.args.input.now.reader).entries = omega (arith, c.each_block-test.true, c.blocks-blocks.ensures) in (
      h.0,
      h.1,
      first_skipped g.R.FileReader.bytes c.args.input.now c.args.filter.now c.args.place c.each_block.block h.0 lt
          (λ rows told. OnFalse_at c.if-not-allows.true c.allows.ensures.none told.0 rows told.1 told.2) h.2,
    )

pub each_block-preserved : goal.each_block-preserved
each_block-preserved g c =
    let h = c.each_block.invariant in
    let p : Piece = record { file = c.args.place; block = c.each_block.block } in
    let lt : c.each_block.block < length (index_of c.args.input.now.reader).entries = omega (arith, c.each_block-test.true, c.blocks-blocks.ensures) in (
      h.0 ++ p ∷ [],
      c.in_ok-push.ensures.items ∙ ap (λ (xs : List Piece). xs ++ p ∷ []) h.1 ∙ append_assoc c.args.pieces.now.items h.0 (p ∷ []),
      first_more g.R.FileReader.bytes c.args.input.now c.args.filter.now c.args.place c.each_block.block h.0 lt h.2,
    )

pub returns : goal.returns
returns g c =
    let h = c.each_block.invariant in
    let le : length (index_of c.args.input.now.reader).entries ≤ c.each_block.block = omega (arith, c.each_block-test.false, c.blocks-blocks.ensures) in
    record { more = (h.0, h.1, first_all g.R.FileReader.bytes c.args.input.now c.args.filter.now c.args.place c.each_block.block h.0 le h.2) }
