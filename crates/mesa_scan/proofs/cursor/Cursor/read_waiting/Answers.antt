use Rattle.std.proofs.Common.{◌≡◌, ◌≢◌, refl, sym, ap, ◌∙◌, inl, inr, false, arith}
use Rattle.std.proofs.lemmas.Bool.{false≢true}
use Rattle.std.proofs.lemmas.List.{length-drop}
use Rattle.std.specs.Prelude.{None}
use Rattle.mesa_delta.specs.mesa_file.declared.damage.Seen.TheVariants as seen
use Rattle.mesa_delta.specs.mesa_delta_format.Indexed.{Indexed}
use Rattle.mesa_delta.specs.mesa_delta_format.Places.{entry_of}
use Rattle.mesa_scan.specs.Cursors.{IsSameInput, block_of, comes_behind, low_of, next_of}
use Rattle.mesa_scan.proofs.Giving.{given_more, input_failed, input_more, is_fall, told_on}
use Rattle.mesa_scan.proofs.cursor.Cursor.read_waiting.Goals as goal

pub returns-in-Err-clause-damaged : goal.returns-in-Err-clause-damaged
returns-in-Err-clause-damaged g c = λ d e none input. (input.read.0, c.in-Err.ensures.damaged d e input.read.0 input.read.1)

pub returns-in-Err-clause-damaged_from : goal.returns-in-Err-clause-damaged_from
returns-in-Err-clause-damaged_from g c = λ d e low given h. inl (next_of c.args.self.now, h.input.read.0, c.in-Err.ensures.damaged d e h.input.read.0 h.input.read.1)

pub returns-in-Err-clause-input : goal.returns-in-Err-clause-input
returns-in-Err-clause-input g c = λ input.
    input_failed g.R.FileReader.bytes c.args.input.now c.take_block.new.self c.take_block.ensures.index c.take_block.ensures.bytes (ap (λ r. r.run) c.in-Err.ensures.err) input

pub returns-then-not-follows-clause-input : goal.returns-then-not-follows-clause-input
returns-then-not-follows-clause-input g c = λ input.
    let bytes = g.R.FileReader.bytes in
    let old = c.args.input.now in
    let same : IsSameInput bytes old (record old { reader = c.take_block.new.self }) = record { index = c.take_block.ensures.index; evolving = refl; epoch = refl; told = c.take_block.ensures.bytes } in
    input_more bytes old (record old { reader = c.take_block.new.self }) (next_of c.args.self.now) c.in-Ok.block same c.in-Ok.ensures.first c.in-Ok.ensures.next c.in-Ok.ensures.other input

pub returns-in_err-block-clause-input : goal.returns-in_err-block-clause-input
returns-in_err-block-clause-input g c = λ input.
    let bytes = g.R.FileReader.bytes in
    let old = c.args.input.now in
    let same : IsSameInput bytes old (record old { reader = c.take_block.new.self }) = record { index = c.take_block.ensures.index; evolving = refl; epoch = refl; told = c.take_block.ensures.bytes } in
    input_more bytes old (record old { reader = c.take_block.new.self }) (next_of c.args.self.now) c.in-Ok.block same c.in-Ok.ensures.first c.in-Ok.ensures.next c.in-Ok.ensures.other input

pub returns-clause-input : goal.returns-clause-input
returns-clause-input g c = λ input.
    let bytes = g.R.FileReader.bytes in
    let old = c.args.input.now in
    let same : IsSameInput bytes old (record old { reader = c.take_block.new.self }) = record { index = c.take_block.ensures.index; evolving = refl; epoch = refl; told = c.take_block.ensures.bytes } in
    input_more bytes old (record old { reader = c.take_block.new.self }) (next_of c.args.self.now) c.in-Ok.block same c.in-Ok.ensures.first c.in-Ok.ensures.next c.in-Ok.ensures.other input

pub returns-then-not-follows-clause-damaged_from : goal.returns-then-not-follows-clause-damaged_from
returns-then-not-follows-clause-damaged_from g c = λ d e low given h.
    let was = c.args.self.now in
    let off : c.follows.result ≡ false = c.if-not-follows.true in
    let from : low_of was ≢ None = λ none. false≢true (sym off ∙ c.follows.ensures.all none) in
    let inner : c.fall.result ≡ d = cc in
    inr (is_fall c.lifts_to_present.ensures.rise g.R.FileReader.bytes low c.args.input.now was given c.in-Ok.block d h c.in-Ok.ensures.block
    (ap (comes_behind (block_of was)) (sym c.in_ok-block.ensures) ∙ sym (c.follows.ensures.from from) ∙ off)
    (sym inner ∙ c.fall.ensures ∙ ap (λ (x : Indexed). record { file = x.file; place = (entry_of x.entries (next_of was)).offset; want = seen.Fits; found = seen.Misfit 0 }) (c.index-then-not-follows.ensures ∙ c.take_block.ensures.index)))

pub returns-then-not-follows-clause-accepts_from : goal.returns-then-not-follows-clause-accepts_from
returns-then-not-follows-clause-accepts_from g c = λ d e low given h b all told indexed.
    let was = c.args.self.now in
    let off : c.follows.result ≡ false = c.if-not-follows.true in
    let from : low_of was ≢ None = λ none. false≢true (sym off ∙ c.follows.ensures.all none) in
    false≢true (sym off ∙ c.follows.ensures.from from ∙ ap (comes_behind (block_of was)) c.in_ok-block.ensures
    ∙ told_on c.lifts_to_present.ensures.rise g.R.FileReader.bytes low c.args.input.now was given c.in-Ok.block h c.in-Ok.ensures.block b all told indexed c.requires.left (c.in-Ok.ensures.again b all told indexed))

pub returns-clause-given : goal.returns-clause-given
returns-clause-given g c = λ low given h.
    let bytes = g.R.FileReader.bytes in
    let old = c.args.input.now in
    let was = c.args.self.now in
    let same : IsSameInput bytes old (record old { reader = c.take_block.new.self }) = record { index = c.take_block.ensures.index; evolving = refl; epoch = refl; told = c.take_block.ensures.bytes } in
    given_more c.lifts_to_present.ensures.rise bytes low old (record old { reader = c.take_block.new.self }) was _ c.in-Ok.block given
    (record {
      one = c.in-Ok.ensures.block;
      first = c.in-Ok.ensures.first;
      next = c.in-Ok.ensures.next;
      whole = c.in-Ok.ensures.whole;
      again = c.in-Ok.ensures.again;
      input = input_more bytes old (record old { reader = c.take_block.new.self }) (next_of was) c.in-Ok.block same c.in-Ok.ensures.first c.in-Ok.ensures.next c.in-Ok.ensures.other;
      same = same;
    }) h c.requires.none c.requires.left
    (record {
      lift = refl;
      low = refl;
      next = refl;
      lifted = c.in_ok-block.ensures;
      hand = c.first_from-self.ensures.rows;
      few = omega (arith, length-drop c.first_from-self.result c.in_ok-block.block);
      on = λ from. sym (c.follows.ensures.from from) ∙ c.if-not-follows.false;
    })
