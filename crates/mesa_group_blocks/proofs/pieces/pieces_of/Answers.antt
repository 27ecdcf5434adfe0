use Rattle.std.proofs.Common.{◌≡◌, ◌∙◌, ◌<◌, ◌≤◌, [], List, Some, ap, arith, get_or, length, refl, subst, sym, true}
use Rattle.std.specs.Prelude.{slice_get}
use Rattle.std.specs.List.{AllByRecursion}
use Rattle.mesa_open_files.specs.mesa_columns.declared.rows.Row.{Row}
use Rattle.mesa_open_files.specs.mesa_columns.Columns.{kinds_of}
use Rattle.mesa_filter.specs.Filter.{filtered}
use Rattle.mesa_merge.specs.Inputs.{Known, known_of, knowns_of}
use Rattle.mesa_merge.proofs.Inputs.{known_get}
use Rattle.mesa_open_files.proofs.Retired.{all_append}
use Rattle.mesa_open_files.specs.Inputs.{lifted_in, lineage_of}
use Rattle.mesa_open_files.specs.Pins.{IsPinnedInput}
use Rattle.mesa_open_files.specs.declared.querying.PinnedInput.{PinnedInput}
use Rattle.mesa_group_blocks.specs.Moved.{inputs_in}
use Rattle.mesa_group_blocks.specs.Pieces.{IsPieceOf, rows_of_pieces}
use Rattle.mesa_group_blocks.specs.Ungrouped.{rows_ungrouped}
use Rattle.mesa_group_blocks.proofs.Contents.{all_matching, given_more, none_matching, told_count, told_here}
use Rattle.mesa_group_blocks.proofs.Moved.{all_at, input_here, input_within, length_knowns}
use Rattle.mesa_group_blocks.proofs.Owned.{own_columns, own_rows}
use Rattle.mesa_group_blocks.proofs.PieceRows.{pieces_here, rows_append, rows_here}
use Rattle.mesa_group_blocks.proofs.pieces.pieces_of.Goals as goal

pub each_file-init : goal.each_file-init
each_file-init g c =
    let ks = knowns_of g.R.FileReader.bytes (inputs_in c.args.files.now) in
    let none : c.new-pieces.result.items ≡ [] = c.new-pieces.ensures.items in
    record {
      pieces = subst (AllByRecursion (IsPieceOf ks)) (sym none) tt;
      rows = λ s pinned contents told. ap (rows_of_pieces c.args.filter.now ks contents) none ∙ none_matching s c.args.filter.now.terms c.args.view c.args.files.now contents;
    }

pub add_pieces-requires-clause-input : goal.add_pieces-requires-clause-input
add_pieces-requires-clause-input g c = λ κs below.
    let files = c.args.files.now in
    let file = get_or files c.each_file.i c.index-files-i.result in
    let is = ap (get_or files c.each_file.i) c.index-files-i.is in
    let lt : c.each_file.i < length files = omega arith in
    (all_at (IsPinnedInput g.R.FileReader.bytes c.requires.files.0 c.args.view) files c.each_file.i file c.requires.files.2 lt is).input

pub add_pieces-requires-clause-filter : goal.add_pieces-requires-clause-filter
add_pieces-requires-clause-filter g c = λ κs below.
    let files = c.args.files.now in
    let file = get_or files c.each_file.i c.index-files-i.result in
    let is = ap (get_or files c.each_file.i) c.index-files-i.is in
    let s = c.requires.files.0 in
    let lt : c.each_file.i < length files = omega arith in
    let pinned = all_at (IsPinnedInput g.R.FileReader.bytes s c.args.view) files c.each_file.i file c.requires.files.2 lt is in
    let own = all_at (λ (f : PinnedInput g.row.R.Denot). f.own ≡ true) files c.each_file.i file c.requires.own lt is in
    c.requires.files.1 ∙ ap kinds_of (sym (own_columns s c.args.view (lineage_of file.input) file.own own pinned.relation))

pub each_file-preserved : goal.each_file-preserved
each_file-preserved g c =
    let bytes = g.R.FileReader.bytes in
    let view = c.args.view in
    let f = c.args.filter.now in
    let files = c.args.files.now in
    let i = c.each_file.i in
    let file = get_or files i c.index-files-i.result in
    let ks = knowns_of bytes (inputs_in files) in
    let k : Known = known_of bytes file.input in
    let lt : i < length files = omega arith in
    let is : file ≡ get_or files i file = ap (get_or files i) c.index-files-i.is in
    let inv = c.each_file.invariant in
    let more = c.in_ok-add_pieces.ensures.more in
    let at : slice_get ks i ≡ Some k = known_get bytes (inputs_in files) i file.input (input_within files i lt) ∙ ap (λ x. Some (known_of bytes x)) (input_here files i file is) in
    let there : i < length ks = subst (λ n. i < n) (sym (length_knowns bytes files)) lt in
    let own = all_at (λ (x : PinnedInput g.row.R.Denot). x.own ≡ true) files i file c.requires.own lt is in
    record {
      pieces = subst (AllByRecursion (IsPieceOf ks)) (sym more.1) (all_append (IsPieceOf ks) c.each_file.pieces.items more.0 inv.pieces (pieces_here ks k i more.0 there at more.2.each));
      rows = λ s pinned contents told.
          let rows : List Row = get_or contents i [] in
          let one = all_at (IsPinnedInput bytes s view) files i file pinned lt is in
          let here : rows_of_pieces f ks contents more.0 ≡ filtered s f.terms (rows_ungrouped view file rows) =
          rows_here f ks contents k rows i more.0 at refl more.2.each
          ∙ more.2.told rows (told_here bytes files contents i file told lt is)
          ∙ own_rows s f.terms view (lineage_of file.input) file.own (lifted_in file.input rows) own one.relation in
          ap (rows_of_pieces f ks contents) more.1 ∙ rows_append f ks contents c.each_file.pieces.items more.0
          ∙ given_more s f.terms view files contents i file (rows_of_pieces f ks contents c.each_file.pieces.items) (rows_of_pieces f ks contents more.0) lt (told_count bytes files contents told) is (inv.rows s pinned contents told) here;
    }

pub returns-clause-rows : goal.returns-clause-rows
returns-clause-rows g c = λ s pinned contents told.
    let files = c.args.files.now in
    let le : length files ≤ c.each_file.i = omega (arith, c.each_file-test.false) in
    c.each_file.invariant.rows s pinned contents told ∙ all_matching s c.args.filter.now.terms c.args.view files contents c.each_file.i (told_count g.R.FileReader.bytes files contents told) le
