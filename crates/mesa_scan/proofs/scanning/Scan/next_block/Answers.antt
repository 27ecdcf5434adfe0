use Rattle.std.proofs.Common.{◌≡◌, ◌<◌, ◌∙◌, true, refl, sym, ap, subst, arith, length}
use Rattle.std.specs.Prelude.{IsTrue}
use Rattle.std.specs.List.{AllByRecursion}
use Rattle.mesa_delta.specs.mesa_key.Spelling.{is_spelling}
use Rattle.mesa_delta.specs.mesa_columns.declared.rows.Row.{Row}
use Rattle.mesa_delta.specs.mesa_columns.Lifting.{lifted_with}
use Rattle.mesa_schema.specs.Lineages.{IsLineage}
use Rattle.mesa_schema.proofs.mesa_columns.Lists.{all_map}
use Rattle.mesa_delta.specs.mesa_delta_format.Indexed.{Indexed, IsIndex}
use Rattle.mesa_delta.specs.Reading.{index_of}
use Rattle.mesa_scan.specs.Cursors.{IsSameInput, reader_in}
use Rattle.mesa_scan.specs.Allowing.{allows_block}
use Rattle.mesa_scan.specs.Damaged.{IsDamaged}
use Rattle.mesa_scan.specs.Scanning.{filter_of, next_of}
use Rattle.mesa_scan.proofs.Going.{block_spells, input_failed, onward_read, onward_skipped, read_few}
use Rattle.mesa_scan.proofs.Moving.{ahead_left, own_left, stays_input, stays_own, stays_same, stays_scanned}
use Rattle.mesa_scan.proofs.Onwards.{damaged_before, same_input}
use Rattle.mesa_scan.proofs.Giving.{input_more}
use Rattle.mesa_scan.proofs.scanning.Scan.next_block.Goals as goal

pub returns-then-not-may_have-clause-more : goal.returns-then-not-may_have-clause-more
returns-then-not-may_have-clause-more g c = λ given h.
    let input = c.args.input.now in
    let index = c.index-index.ensures in
    let lineage : IsLineage input.evolving.value = subst IsLineage c.deref.ensures c.present-columns.ensures.rules in
    rw c.none.ensures (onward_skipped c.fits_alone.ensures c.keys_between.ensures c.lifts_to_present.ensures.form c.lifts_to_present.ensures.keys g.R.FileReader.bytes input c.args.self.now _ given lineage
    (subst IsIndex index c.blocks-blocks.ensures.index) h c.requires.left (record { filter = refl; lift = refl; columns = refl; next = refl }) refl (rw index at c.if-not-may_have.ensures.walk) (rw index at c.if-not-may_have.ensures.none))

pub returns-in_err-fill-clause-input : goal.returns-in_err-fill-clause-input
returns-in_err-fill-clause-input g c = stays_input g.R.FileReader.bytes c.args.input.now c.fill.new.input c.fill.ensures.input c.fill.ensures.bytes c.requires.scanning.1.input

pub returns-in_err-fill-clause-same : goal.returns-in_err-fill-clause-same
returns-in_err-fill-clause-same g c = stays_same g.R.FileReader.bytes c.args.input.now c.fill.new.input c.fill.ensures.input c.fill.ensures.bytes

pub take_block-requires-clause-within : goal.take_block-requires-clause-within
take_block-requires-clause-within g c = λ κs below.
    let same = stays_same g.R.FileReader.bytes c.args.input.now c.fill.new.input c.fill.ensures.input c.fill.ensures.bytes in
    subst (λ (x : Indexed). next_of c.args.self.now < length x.entries) (sym same.index) c.requires.left

pub take_block-requires-clause-ahead : goal.take_block-requires-clause-ahead
take_block-requires-clause-ahead g c = λ κs below. stays_own g.R.FileReader.bytes c.args.input.now c.fill.new.input c.fill.ensures.input c.fill.ensures.bytes c.args.place c.fill.new.ahead (c.fill.ensures.own c.requires.ahead)

pub returns-in-Err-clause-own : goal.returns-in-Err-clause-own
returns-in-Err-clause-own g c =
    own_left (g.R.FileReader.bytes (reader_in c.args.input.now)) (index_of c.args.input.now.reader) c.args.place c.fill.new.ahead c.take_block.new.ahead c.take_block.ensures.taken (c.fill.ensures.own c.requires.ahead)

pub returns-in-Err-clause-ahead : goal.returns-in-Err-clause-ahead
returns-in-Err-clause-ahead g c =
    λ files at h. ahead_left files c.fill.new.ahead c.take_block.new.ahead c.take_block.ensures.taken (c.fill.ensures.ahead files at h)

pub returns-in-Err-clause-same : goal.returns-in-Err-clause-same
returns-in-Err-clause-same g c =
    let bytes = g.R.FileReader.bytes in
    let old = c.args.input.now in
    let fill = c.fill.new.input in
    same_input bytes old fill (record fill { reader = c.take_block.new.self }) (stays_same bytes old fill c.fill.ensures.input c.fill.ensures.bytes) (record { index = c.take_block.ensures.index; evolving = refl; epoch = refl; told = c.take_block.ensures.bytes })

pub returns-in-Err-clause-input : goal.returns-in-Err-clause-input
returns-in-Err-clause-input g c =
    let bytes = g.R.FileReader.bytes in
    let old = c.args.input.now in
    let fill = c.fill.new.input in
    input_failed bytes fill c.take_block.new.self c.in-Err.ensures.err c.in-Err.ensures.bytes (stays_input bytes old fill c.fill.ensures.input c.fill.ensures.bytes c.requires.scanning.1.input)

pub returns-in-Err-clause-damaged : goal.returns-in-Err-clause-damaged
returns-in-Err-clause-damaged g c =
    λ d e.
    let bytes = g.R.FileReader.bytes in
    let size = g.R.FileReader.size in
    let old = c.args.input.now in
    let fill = c.fill.new.input in
    let read = (stays_input bytes old fill c.fill.ensures.input c.fill.ensures.bytes c.requires.scanning.1.input).read in
    let here : IsDamaged bytes size fill d = record {
      block = next_of c.args.self.now;
      before = read.0;
      shown = c.in-Err.ensures.damaged d e read.0 read.1;
      unsound = λ b all told indexed. c.in-Err.ensures.accepts d e read.0 read.1 b all told indexed;
    } in
    damaged_before bytes size old fill d (stays_same bytes old fill c.fill.ensures.input c.fill.ensures.bytes) c.fill.ensures.size here

pub matching_in-requires : goal.matching_in-requires
matching_in-requires g c =
    let bytes = g.R.FileReader.bytes in
    let input = c.args.input.now in
    let fill = c.fill.new.input in
    let scan = c.args.self.now in
    let lineage : IsLineage input.evolving.value = subst IsLineage c.deref.ensures c.present-columns.ensures.rules in
    let same = stays_same bytes input fill c.fill.ensures.input c.fill.ensures.bytes in
    let scanned = stays_scanned bytes input fill c.fill.ensures.input c.fill.ensures.bytes scan c.requires.scanning.0 c.requires.scanning.1 in
    let here : IsLineage fill.evolving.value = subst (λ e. IsLineage e.value) (sym same.evolving) lineage in
    let spells = block_spells c.reads_back.ensures.passes c.lifts_to_present.ensures.form bytes fill scan c.requires.scanning.0 (next_of scan) c.in-Ok.block here scanned c.in-Ok.ensures.block in
    subst (AllByRecursion (λ (row : Row). IsTrue (is_spelling scan.filter.now.kinds row.key))) (sym c.in_ok-lifted.ensures) (all_map (λ (row : Row). IsTrue (is_spelling scan.filter.now.kinds row.key)) (lifted_with scan.lift) c.in-Ok.block spells)

pub returns-in_err-lifted-clause-own : goal.returns-in_err-lifted-clause-own
returns-in_err-lifted-clause-own g c =
    own_left (g.R.FileReader.bytes (reader_in c.args.input.now)) (index_of c.args.input.now.reader) c.args.place c.fill.new.ahead c.take_block.new.ahead c.take_block.ensures.taken (c.fill.ensures.own c.requires.ahead)

pub returns-in_err-lifted-clause-ahead : goal.returns-in_err-lifted-clause-ahead
returns-in_err-lifted-clause-ahead g c =
    λ files at h. ahead_left files c.fill.new.ahead c.take_block.new.ahead c.take_block.ensures.taken (c.fill.ensures.ahead files at h)

pub returns-in_err-lifted-clause-same : goal.returns-in_err-lifted-clause-same
returns-in_err-lifted-clause-same g c =
    let bytes = g.R.FileReader.bytes in
    let old = c.args.input.now in
    let fill = c.fill.new.input in
    same_input bytes old fill (record fill { reader = c.take_block.new.self }) (stays_same bytes old fill c.fill.ensures.input c.fill.ensures.bytes) (record { index = c.take_block.ensures.index; evolving = refl; epoch = refl; told = c.take_block.ensures.bytes })

pub returns-in_err-lifted-clause-input : goal.returns-in_err-lifted-clause-input
returns-in_err-lifted-clause-input g c =
    let bytes = g.R.FileReader.bytes in
    let old = c.args.input.now in
    let fill = c.fill.new.input in
    let same : IsSameInput bytes fill (record fill { reader = c.take_block.new.self }) = record { index = c.take_block.ensures.index; evolving = refl; epoch = refl; told = c.take_block.ensures.bytes } in
    input_more bytes fill (record fill { reader = c.take_block.new.self }) (next_of c.args.self.now) c.in-Ok.block same c.in-Ok.ensures.first c.in-Ok.ensures.next c.in-Ok.ensures.other (stays_input bytes old fill c.fill.ensures.input c.fill.ensures.bytes c.requires.scanning.1.input)

pub returns-in_err-rows-clause-own : goal.returns-in_err-rows-clause-own
returns-in_err-rows-clause-own g c =
    own_left (g.R.FileReader.bytes (reader_in c.args.input.now)) (index_of c.args.input.now.reader) c.args.place c.fill.new.ahead c.take_block.new.ahead c.take_block.ensures.taken (c.fill.ensures.own c.requires.ahead)

pub returns-in_err-rows-clause-ahead : goal.returns-in_err-rows-clause-ahead
returns-in_err-rows-clause-ahead g c =
    λ files at h. ahead_left files c.fill.new.ahead c.take_block.new.ahead c.take_block.ensures.taken (c.fill.ensures.ahead files at h)

pub returns-in_err-rows-clause-same : goal.returns-in_err-rows-clause-same
returns-in_err-rows-clause-same g c =
    let bytes = g.R.FileReader.bytes in
    let old = c.args.input.now in
    let fill = c.fill.new.input in
    same_input bytes old fill (record fill { reader = c.take_block.new.self }) (stays_same bytes old fill c.fill.ensures.input c.fill.ensures.bytes) (record { index = c.take_block.ensures.index; evolving = refl; epoch = refl; told = c.take_block.ensures.bytes })

pub returns-in_err-rows-clause-input : goal.returns-in_err-rows-clause-input
returns-in_err-rows-clause-input g c =
    let bytes = g.R.FileReader.bytes in
    let old = c.args.input.now in
    let fill = c.fill.new.input in
    let same : IsSameInput bytes fill (record fill { reader = c.take_block.new.self }) = record { index = c.take_block.ensures.index; evolving = refl; epoch = refl; told = c.take_block.ensures.bytes } in
    input_more bytes fill (record fill { reader = c.take_block.new.self }) (next_of c.args.self.now) c.in-Ok.block same c.in-Ok.ensures.first c.in-Ok.ensures.next c.in-Ok.ensures.other (stays_input bytes old fill c.fill.ensures.input c.fill.ensures.bytes c.requires.scanning.1.input)

pub overflow_add-self-2 : goal.overflow_add-self-2
overflow_add-self-2 g c =
    let few = read_few g.R.FileReader.bytes c.args.input.now c.args.self.now c.requires.scanning.0 c.requires.scanning.1 in
    let index : IsIndex (index_of c.args.input.now.reader) = subst IsIndex c.index-index.ensures c.blocks-blocks.ensures.index in
    omega (arith, few, index.few, c.requires.left)

pub returns-clause-more : goal.returns-clause-more
returns-clause-more g c = λ given h.
    let bytes = g.R.FileReader.bytes in
    let old = c.args.input.now in
    let fill = c.fill.new.input in
    let was = c.args.self.now in
    let lineage : IsLineage old.evolving.value = subst IsLineage c.deref.ensures c.present-columns.ensures.rules in
    let moved = stays_same bytes old fill c.fill.ensures.input c.fill.ensures.bytes in
    let scanned = stays_scanned bytes old fill c.fill.ensures.input c.fill.ensures.bytes was given h in
    let here : IsLineage fill.evolving.value = subst (λ e. IsLineage e.value) (sym moved.evolving) lineage in
    let same : IsSameInput bytes fill (record fill { reader = c.take_block.new.self }) = record { index = c.take_block.ensures.index; evolving = refl; epoch = refl; told = c.take_block.ensures.bytes } in
    let input = input_more bytes fill (record fill { reader = c.take_block.new.self }) (next_of was) c.in-Ok.block same c.in-Ok.ensures.first c.in-Ok.ensures.next c.in-Ok.ensures.other scanned.input in
    let left : next_of was < length (index_of fill.reader).entries = subst (λ (x : Indexed). next_of was < length x.entries) (sym moved.index) c.requires.left in
    let opened : true ≡ allows_block (filter_of was) was.columns (index_of fill.reader) (next_of was) = (rw c.index-index.ensures at c.if-not-may_have.ensures.walk) ∙ ap (λ (x : Indexed). allows_block (filter_of was) was.columns x (next_of was)) (sym moved.index) in
    rw (c.in_ok-rows.ensures, c.in_ok-lifted.ensures) (onward_read c.lifts_to_present.ensures.form bytes fill (record fill { reader = c.take_block.new.self }) was _ given c.in-Ok.block here same input scanned left (record { filter = refl; lift = refl; columns = refl; next = refl }) refl opened c.in-Ok.ensures.block c.in-Ok.ensures.again)

pub returns-clause-own : goal.returns-clause-own
returns-clause-own g c =
    own_left (g.R.FileReader.bytes (reader_in c.args.input.now)) (index_of c.args.input.now.reader) c.args.place c.fill.new.ahead c.take_block.new.ahead c.take_block.ensures.taken (c.fill.ensures.own c.requires.ahead)

pub returns-clause-ahead : goal.returns-clause-ahead
returns-clause-ahead g c =
    λ files at h. ahead_left files c.fill.new.ahead c.take_block.new.ahead c.take_block.ensures.taken (c.fill.ensures.ahead files at h)

pub returns-clause-same : goal.returns-clause-same
returns-clause-same g c =
    let bytes = g.R.FileReader.bytes in
    let old = c.args.input.now in
    let fill = c.fill.new.input in
    same_input bytes old fill (record fill { reader = c.take_block.new.self }) (stays_same bytes old fill c.fill.ensures.input c.fill.ensures.bytes) (record { index = c.take_block.ensures.index; evolving = refl; epoch = refl; told = c.take_block.ensures.bytes })

pub returns-clause-input : goal.returns-clause-input
returns-clause-input g c =
    let bytes = g.R.FileReader.bytes in
    let old = c.args.input.now in
    let fill = c.fill.new.input in
    let same : IsSameInput bytes fill (record fill { reader = c.take_block.new.self }) = record { index = c.take_block.ensures.index; evolving = refl; epoch = refl; told = c.take_block.ensures.bytes } in
    input_more bytes fill (record fill { reader = c.take_block.new.self }) (next_of c.args.self.now) c.in-Ok.block same c.in-Ok.ensures.first c.in-Ok.ensures.next c.in-Ok.ensures.other (stays_input bytes old fill c.fill.ensures.input c.fill.ensures.bytes c.requires.scanning.1.input)
