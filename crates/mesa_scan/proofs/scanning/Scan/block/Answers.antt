use Rattle.std.proofs.Common.{refl, sym, subst, arith}
use Rattle.std.specs.Prelude.{IsTrue}
use Rattle.std.specs.List.{AllByRecursion}
use Rattle.mesa_delta.specs.mesa_key.Spelling.{is_spelling}
use Rattle.mesa_delta.specs.mesa_columns.declared.rows.Row.{Row}
use Rattle.mesa_delta.specs.mesa_columns.Lifting.{lifted_with}
use Rattle.mesa_schema.specs.Lineages.{IsLineage}
use Rattle.mesa_schema.proofs.mesa_columns.Lists.{all_map}
use Rattle.mesa_delta.specs.mesa_delta_format.Indexed.{IsIndex}
use Rattle.mesa_delta.specs.Reading.{index_of}
use Rattle.mesa_scan.specs.Cursors.{IsSameInput}
use Rattle.mesa_scan.proofs.Giving.{input_more}
use Rattle.mesa_scan.specs.Scanning.{next_of}
use Rattle.mesa_scan.proofs.Going.{block_spells, input_failed, onward_read, onward_skipped, read_few}
use Rattle.mesa_scan.proofs.scanning.Scan.block.Goals as goal

pub returns-then-not-may_have-clause-more : goal.returns-then-not-may_have-clause-more
returns-then-not-may_have-clause-more g c = λ given h.
    let input = c.args.input.now in
    let index = c.index-index.ensures in
    let lineage : IsLineage input.evolving.value = subst IsLineage c.deref.ensures c.present-columns.ensures.rules in
    rw c.none.ensures (onward_skipped c.fits_alone.ensures c.keys_between.ensures c.lifts_to_present.ensures.form c.lifts_to_present.ensures.keys g.R.FileReader.bytes input c.args.self.now _ given lineage
    (subst IsIndex index c.blocks-blocks.ensures.index) h c.requires.left (record { filter = refl; lift = refl; columns = refl; next = refl }) refl (rw index at c.if-not-may_have.ensures.walk) (rw index at c.if-not-may_have.ensures.none))

pub returns-in-Err-clause-input : goal.returns-in-Err-clause-input
returns-in-Err-clause-input g c = input_failed g.R.FileReader.bytes c.args.input.now c.block.new.self c.in-Err.ensures.err c.in-Err.ensures.bytes c.requires.scanning.1.input

pub returns-in-Err-clause-damaged : goal.returns-in-Err-clause-damaged
returns-in-Err-clause-damaged g c = λ d e.
    let read = c.requires.scanning.1.input.read in
    record {
      block = next_of c.args.self.now;
      before = read.0;
      shown = c.in-Err.ensures.damaged d e read.0 read.1;
      unsound = λ b all told indexed. c.in-Err.ensures.accepts d e read.0 read.1 b all told indexed;
    }

pub matching_in-requires : goal.matching_in-requires
matching_in-requires g c =
    let input = c.args.input.now in
    let scan = c.args.self.now in
    let lineage : IsLineage input.evolving.value = subst IsLineage c.deref.ensures c.present-columns.ensures.rules in
    let spells = block_spells c.reads_back.ensures.passes c.lifts_to_present.ensures.form g.R.FileReader.bytes input scan c.requires.scanning.0 (next_of scan) c.in-Ok.block lineage c.requires.scanning.1 c.in-Ok.ensures.block in
    subst (AllByRecursion (λ (row : Row). IsTrue (is_spelling scan.filter.now.kinds row.key))) (sym c.in_ok-lifted.ensures) (all_map (λ (row : Row). IsTrue (is_spelling scan.filter.now.kinds row.key)) (lifted_with scan.lift) c.in-Ok.block spells)

pub returns-in_err-lifted-clause-input : goal.returns-in_err-lifted-clause-input
returns-in_err-lifted-clause-input g c =
    let old = c.args.input.now in
    let same : IsSameInput g.R.FileReader.bytes old (record old { reader = c.block.new.self }) = record { index = c.block.ensures.index; evolving = refl; epoch = refl; told = c.block.ensures.bytes } in
    input_more g.R.FileReader.bytes old (record old { reader = c.block.new.self }) (next_of c.args.self.now) c.in-Ok.block same c.in-Ok.ensures.first c.in-Ok.ensures.next c.in-Ok.ensures.other c.requires.scanning.1.input

pub returns-in_err-rows-clause-input : goal.returns-in_err-rows-clause-input
returns-in_err-rows-clause-input g c =
    let old = c.args.input.now in
    let same : IsSameInput g.R.FileReader.bytes old (record old { reader = c.block.new.self }) = record { index = c.block.ensures.index; evolving = refl; epoch = refl; told = c.block.ensures.bytes } in
    input_more g.R.FileReader.bytes old (record old { reader = c.block.new.self }) (next_of c.args.self.now) c.in-Ok.block same c.in-Ok.ensures.first c.in-Ok.ensures.next c.in-Ok.ensures.other c.requires.scanning.1.input

pub overflow_add-self-2 : goal.overflow_add-self-2
overflow_add-self-2 g c =
    let few = read_few g.R.FileReader.bytes c.args.input.now c.args.self.now c.requires.scanning.0 c.requires.scanning.1 in
    let index : IsIndex (index_of c.args.input.now.reader) = subst IsIndex c.index-index.ensures c.blocks-blocks.ensures.index in
    omega (arith, few, index.few, c.requires.left)

pub returns-clause-more : goal.returns-clause-more
returns-clause-more g c = λ given h.
    let bytes = g.R.FileReader.bytes in
    let old = c.args.input.now in
    let lineage : IsLineage old.evolving.value = subst IsLineage c.deref.ensures c.present-columns.ensures.rules in
    let same : IsSameInput bytes old (record old { reader = c.block.new.self }) = record { index = c.block.ensures.index; evolving = refl; epoch = refl; told = c.block.ensures.bytes } in
    let input = input_more bytes old (record old { reader = c.block.new.self }) (next_of c.args.self.now) c.in-Ok.block same c.in-Ok.ensures.first c.in-Ok.ensures.next c.in-Ok.ensures.other h.input in
    rw (c.in_ok-rows.ensures, c.in_ok-lifted.ensures) (onward_read c.lifts_to_present.ensures.form bytes old (record old { reader = c.block.new.self }) c.args.self.now _ given c.in-Ok.block lineage same input h c.requires.left (record { filter = refl; lift = refl; columns = refl; next = refl }) refl (rw c.index-index.ensures at c.if-not-may_have.ensures.walk) c.in-Ok.ensures.block c.in-Ok.ensures.again)

pub returns-clause-input : goal.returns-clause-input
returns-clause-input g c =
    let old = c.args.input.now in
    let same : IsSameInput g.R.FileReader.bytes old (record old { reader = c.block.new.self }) = record { index = c.block.ensures.index; evolving = refl; epoch = refl; told = c.block.ensures.bytes } in
    input_more g.R.FileReader.bytes old (record old { reader = c.block.new.self }) (next_of c.args.self.now) c.in-Ok.block same c.in-Ok.ensures.first c.in-Ok.ensures.next c.in-Ok.ensures.other c.requires.scanning.1.input
