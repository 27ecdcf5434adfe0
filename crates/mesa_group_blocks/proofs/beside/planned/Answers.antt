use Rattle.std.proofs.Common.{◌∙◌, [], List, ap, subst, sym}
use Rattle.std.specs.List.{AllByRecursion}
use Rattle.mesa_merge.specs.Inputs.{Known, knowns_of}
use Rattle.mesa_answer.specs.Gathered.{wanted_of}
use Rattle.mesa_group_blocks.specs.declared.pieces.Piece.{Piece}
use Rattle.mesa_group_blocks.specs.Moved.{inputs_in}
use Rattle.mesa_group_blocks.specs.Pieces.{IsPieceOf, rows_of_pieces}
use Rattle.mesa_group_blocks.proofs.Owned.{all_alike, all_inputs}
use Rattle.mesa_group_blocks.proofs.beside.planned.Goals as goal

pub pieces_of-requires-clause-files : goal.pieces_of-requires-clause-files
pieces_of-requires-clause-files g c = λ κs below. ((wanted_of c.args.groups.now).schema, c.requires.filter, c.requires.files)

pub pieces_of-requires-clause-own : goal.pieces_of-requires-clause-own
pieces_of-requires-clause-own g c = λ κs below. c.are_own.ensures c.if-not-are_own.false

pub lifts_of-requires-after_bounds : goal.lifts_of-requires-after_bounds
lifts_of-requires-after_bounds g c = λ κs below. all_inputs g.R.FileReader.bytes (wanted_of c.args.groups.now).schema c.args.view c.args.files.now c.requires.files

pub deal-requires : goal.deal-requires
deal-requires g c = record { gathering = ([], c.requires.gathering) }

pub returns-clause-run : goal.returns-clause-run
returns-clause-run g c =
    let bytes = g.R.FileReader.bytes in
    let w = wanted_of c.args.groups.now in
    let files = c.args.files.now in
    let ks : List Known = knowns_of bytes (inputs_in files) in
    record {
      filter = c.requires.filter;
      alike = all_alike bytes w.schema c.args.view files c.requires.files (c.are_own.ensures c.if-not-are_own.false);
      each = c.in_ok-jobs.ensures.begun ks c.args.filter.now (subst (λ (ps : List Piece). AllByRecursion (IsPieceOf ks) ps) (sym c.as_slice.ensures.value) c.in_ok-pieces.ensures.pieces);
    }

pub returns-clause-rows : goal.returns-clause-rows
returns-clause-rows g c = λ contents told.
    let ks : List Known = knowns_of g.R.FileReader.bytes (inputs_in c.args.files.now) in
    ap (rows_of_pieces c.args.filter.now ks contents) (c.in_ok-jobs.ensures.dealt ∙ c.as_slice.ensures.value)
    ∙ c.in_ok-pieces.ensures.rows (wanted_of c.args.groups.now).schema c.requires.files contents told
