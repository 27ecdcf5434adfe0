use Rattle.std.proofs.Common.{◌≡◌, ◌∙◌, ◌++◌, [], ℕ, List, ap, subst, sym, refl, map}
use Rattle.std.specs.Prelude.{Option}
use Rattle.std.proofs.lemmas.List.{append-nil}
use Rattle.std.proofs.lemmas.Result.{err_from_is_err_and}
use Rattle.mesa_open_files.specs.mesa_columns.declared.rows.Row.{Row}
use Rattle.mesa_schema.specs.Changes.{columns_of}
use Rattle.mesa_open_files.specs.mesa_columns.Columns.{Columns}
use Rattle.mesa_open_files.specs.mesa_columns.Rows.{AreRowsOf}
use Rattle.mesa_schema.specs.Views.{view_columns}
use Rattle.mesa_delta.specs.declared.input.Input.{Input}
use Rattle.mesa_scan.specs.Cursors.{IsSameInput, reader_in}
use Rattle.mesa_scan.specs.declared.scanning.Scan.{Scan}
use Rattle.mesa_scan.specs.MatchingRows.{matching_rows}
use Rattle.mesa_scan.specs.Scanning.{HasScanned}
use Rattle.mesa_scan.proofs.Onwards.{damaged_before, same_input}
use Rattle.mesa_answer.specs.Answering.{KeepsSums}
use Rattle.mesa_answer.specs.Gathered.{HasPut, key_at_hand, wanted_of}
use Rattle.mesa_answer.specs.Gathering.{Wanted}
use Rattle.mesa_answer.specs.Regrouping.{PlacesSeen, row_under}
use Rattle.mesa_answer.specs.Sums.{SumLeavesAmong}
use Rattle.mesa_view.specs.Gathering.{gather_error}
use Rattle.mesa_view.proofs.Blocks.{fault_of_file, group_sum, group_undamaged, group_unread, more_form, no_fault}
use Rattle.mesa_view.proofs.Waiting.{own_now, waits_first, waits_more}
use Rattle.mesa_group_blocks.proofs.Blocks.{Regroups, given_bounded, given_told, keeps_more, leaves_block, matching_first, put_more, rows_spell, under_form}
use Rattle.mesa_group_blocks.proofs.regrouped.gather_each_block.Goals as goal

pub each_block-init : goal.each_block-init
each_block-init g c = record {
  regroups = record {
    given = [];
    scanned = c.in_ok-scan.ensures.given;
    filter = c.in_ok-scan.ensures.filter;
    same = record { index = refl; evolving = refl; epoch = refl; told = refl };
    size = refl;
    faults = refl;
    put = λ before h. subst (HasPut c.args.groups.now) (sym (append-nil before)) h;
    wanted = refl;
  };
  waits = waits_first g.R.FileReader.bytes c.args.input.now c.args.place c.args.ahead.now c.requires.ahead;
}

pub next_block-requires-clause-ahead : goal.next_block-requires-clause-ahead
next_block-requires-clause-ahead g c = λ κs below. own_now g.R.FileReader.bytes c.args.input.now c.each_block.input c.args.place c.args.ahead.now c.each_block.ahead c.each_block.invariant.regroups.same c.each_block.invariant.waits

pub returns-in_err-block-clause-damaged : goal.returns-in_err-block-clause-damaged
returns-in_err-block-clause-damaged g c =
    let p = err_from_is_err_and c.from_residual-in_err-block.result c.from_residual-in_err-block.ensures.1 in
    let inv = c.each_block.invariant.regroups in
    rw (p.1, p.2) (λ d e. damaged_before g.R.FileReader.bytes g.R.FileReader.size c.args.input.now c.each_block.input d inv.same inv.size (c.in_err-block.ensures.damaged d (cc e)))

pub returns-in_err-block-clause-never : goal.returns-in_err-block-clause-never
returns-in_err-block-clause-never g c =
    let p = err_from_is_err_and c.from_residual-in_err-block.result c.from_residual-in_err-block.ensures.1 in
    rw (p.1, p.2) (λ e. cc e)

pub returns-in_err-block-clause-sum : goal.returns-in_err-block-clause-sum
returns-in_err-block-clause-sum g c =
    let p = err_from_is_err_and c.from_residual-in_err-block.result c.from_residual-in_err-block.ensures.1 in
    rw (p.1, p.2) (λ e. cc e)

pub returns-in_err-block-clause-cause : goal.returns-in_err-block-clause-cause
returns-in_err-block-clause-cause g c =
    let p = err_from_is_err_and c.from_residual-in_err-block.result c.from_residual-in_err-block.ensures.1 in
    rw (p.1, p.2) (fault_of_file {T = Unit {0}} c.in_err-block.field-0.0 _ _ _ c.each_block.invariant.regroups.faults c.in_err-block.ensures.cause)

pub put_regrouped-requires-clause-gathering : goal.put_regrouped-requires-clause-gathering
put_regrouped-requires-clause-gathering g c =
    let inv = c.each_block.invariant.regroups in
    (c.requires.gathering.0 ++ matching_rows c.args.filter.now (map (row_under c.args.regrouping.now) inv.given), inv.put c.requires.gathering.0 c.requires.gathering.1)

-- a block's rows have the table's form
block_form : {R : Type 0} (bytes : R → Option (List ℕ)) (start now : Input R) (s : Scan) (given block : List Row) → IsSameInput bytes start now → HasScanned bytes now s (given ++ block) → AreRowsOf (columns_of start.evolving.value) block
block_form bytes start now s given block same scanned =
    let columns : columns_of now.evolving.value ≡ columns_of start.evolving.value = λ k. columns_of (same.evolving k).value in
    subst (λ (t : Columns). AreRowsOf t block) columns (more_form bytes now s given block scanned)

pub put_regrouped-requires-clause-spelled : goal.put_regrouped-requires-clause-spelled
put_regrouped-requires-clause-spelled g c =
    let inv = c.each_block.invariant.regroups in
    let now = c.next_block.new.input in
    let start = c.args.input.now in
    let same = same_input g.R.FileReader.bytes start c.each_block.input now inv.same c.next_block.ensures.same in
    let form = block_form g.R.FileReader.bytes start now c.next_block.new.self inv.given c.in_ok-block.block same (c.in_ok-block.ensures.more inv.given inv.scanned) in
    rows_spell (wanted_of c.args.groups.now).schema (columns_of start.evolving.value) c.requires.seen.0 c.args.regrouping.now c.args.filter.now c.in_ok-block.block c.requires.seen.2 c.requires.seen.1 c.requires.filter form

pub put_regrouped-requires-clause-form : goal.put_regrouped-requires-clause-form
put_regrouped-requires-clause-form g c =
    let inv = c.each_block.invariant.regroups in
    let now = c.next_block.new.input in
    let start = c.args.input.now in
    let table = columns_of start.evolving.value in
    let v = c.requires.seen.0 in
    let block : List Row = c.in_ok-block.block in
    let same = same_input g.R.FileReader.bytes start c.each_block.input now inv.same c.next_block.ensures.same in
    let form = block_form g.R.FileReader.bytes start now c.next_block.new.self inv.given block same (c.in_ok-block.ensures.more inv.given inv.scanned) in
    let under = subst (λ (p : PlacesSeen). AreRowsOf (view_columns table v) (map (row_under p) block)) (sym c.requires.seen.1) (under_form table v block form) in
    subst (λ (s : Columns). AreRowsOf s (map (row_under c.args.regrouping.now) block)) (c.requires.seen.2 ∙ ap (λ (w : Wanted). w.schema) (sym inv.wanted)) under

pub returns-in_err-put_regrouped-clause-cause : goal.returns-in_err-put_regrouped-clause-cause
returns-in_err-put_regrouped-clause-cause g c =
    let p = err_from_is_err_and c.from_residual-in_err-put_regrouped.result c.from_residual-in_err-put_regrouped.ensures.1 in
    let faults = g.R.FileReader.faults in
    rw (p.1, p.2) (no_fault {T = Unit {0}} (gather_error c.in_err-put_regrouped.field-0.0) (faults (reader_in c.args.input.now)) (faults (reader_in c.next_block.new.input)) (c.in_ok-block.ensures.cause.quiet ∙ c.each_block.invariant.regroups.faults) (group_unread c.in_err-put_regrouped.field-0.0))

pub returns-in_err-put_regrouped-clause-damaged : goal.returns-in_err-put_regrouped-clause-damaged
returns-in_err-put_regrouped-clause-damaged g c =
    let p = err_from_is_err_and c.from_residual-in_err-put_regrouped.result c.from_residual-in_err-put_regrouped.ensures.1 in
    rw (p.1, p.2) (λ d e. absurd (group_undamaged c.in_err-put_regrouped.field-0.0 d e))

pub returns-in_err-put_regrouped-clause-never : goal.returns-in_err-put_regrouped-clause-never
returns-in_err-put_regrouped-clause-never g c =
    let e = err_from_is_err_and c.from_residual-in_err-put_regrouped.result c.from_residual-in_err-put_regrouped.ensures.1 in
    let bytes = g.R.FileReader.bytes in
    let inv = c.each_block.invariant.regroups in
    let start = c.args.input.now in
    let now = c.next_block.new.input in
    let s = (wanted_of c.args.groups.now).schema in
    let f = c.args.filter.now in
    let p = c.args.regrouping.now in
    let block : List Row = c.in_ok-block.block in
    let same = same_input bytes start c.each_block.input now inv.same c.next_block.ensures.same in
    rw (e.1, e.2) (λ is given h all told keeps.
    let scanned = c.in_ok-block.ensures.more inv.given inv.scanned in
    let bounded = given_bounded bytes start now c.args.every.now f p c.next_block.new.self s given (inv.given ++ block) all scanned (c.in_ok-block.ensures.filter ∙ inv.filter) c.requires.terms same told keeps in
    let here = keeps_more s f p given inv.given block bounded in
    c.in_err-put_regrouped.ensures.never (group_sum c.in_err-put_regrouped.field-0.0 is) (given ++ matching_rows f (map (row_under p) inv.given)) (inv.put given h)
    (subst (λ (w : Wanted). KeepsSums w.schema ((given ++ matching_rows f (map (row_under p) inv.given)) ++ matching_rows f (map (row_under p) block))) (sym inv.wanted) here))

pub each_block-preserved : goal.each_block-preserved
each_block-preserved g c =
    let inv = c.each_block.invariant.regroups in
    let now = c.next_block.new.input in
    let f = c.args.filter.now in
    let p = c.args.regrouping.now in
    let block : List Row = c.in_ok-block.block in
    let regroups : Regroups g.R.FileReader.bytes g.R.FileReader.size g.R.FileReader.faults c.args.input.now now p f c.args.every.now c.next_block.new.self c.args.groups.now c.put_regrouped.new.groups = record {
      given = inv.given ++ block;
      scanned = c.in_ok-block.ensures.more inv.given inv.scanned;
      filter = c.in_ok-block.ensures.filter ∙ inv.filter;
      same = same_input g.R.FileReader.bytes c.args.input.now c.each_block.input now inv.same c.next_block.ensures.same;
      size = c.next_block.ensures.size ∙ inv.size;
      faults = c.in_ok-block.ensures.cause.quiet ∙ inv.faults;
      put = λ before h. put_more c.put_regrouped.new.groups f p before inv.given block (c.in_ok-put_regrouped.ensures.put (before ++ matching_rows f (map (row_under p) inv.given)) (inv.put before h));
      wanted = c.in_ok-put_regrouped.ensures.wanted ∙ inv.wanted;
    } in
    record {
      regroups = regroups;
      waits = waits_more g.R.FileReader.bytes c.args.input.now c.each_block.input c.args.place c.args.ahead.now c.each_block.ahead c.next_block.new.ahead inv.same c.each_block.invariant.waits c.next_block.ensures.own c.next_block.ensures.ahead;
    }

pub returns-clause-put : goal.returns-clause-put
returns-clause-put g c = λ given h.
    let inv = c.each_block.invariant.regroups in
    let f = c.args.filter.now in
    let p = c.args.regrouping.now in (
      matching_rows f (map (row_under p) inv.given),
      inv.put given h,
      λ rows told.
          ap (λ (xs : List Row). matching_rows f (map (row_under p) xs)) (given_told g.R.FileReader.bytes c.args.input.now c.each_block.input c.args.every.now c.each_block.scan inv.given rows inv.scanned inv.filter c.requires.terms inv.same (c.each_block-test.ensures.0 refl) told),
    )

pub returns-in_err-put_regrouped-clause-sum : goal.returns-in_err-put_regrouped-clause-sum
returns-in_err-put_regrouped-clause-sum g c =
    let e = err_from_is_err_and c.from_residual-in_err-put_regrouped.result c.from_residual-in_err-put_regrouped.ensures.1 in
    let bytes = g.R.FileReader.bytes in
    let inv = c.each_block.invariant.regroups in
    let start = c.args.input.now in
    let now = c.next_block.new.input in
    let w = wanted_of c.args.groups.now in
    let f = c.args.filter.now in
    let p = c.args.regrouping.now in
    let block : List Row = c.in_ok-block.block in
    let same = same_input bytes start c.each_block.input now inv.same c.next_block.ensures.same in
    let key = key_at_hand c.put_regrouped.new.groups in
    rw (e.1, e.2) (λ is given h.
    let front : List Row = given ++ matching_rows f (map (row_under p) inv.given) in
    let here = c.in_err-put_regrouped.ensures.sum (group_sum c.in_err-put_regrouped.field-0.0 is) front (inv.put given h) in
    let leaves = subst (λ (v : Wanted). SumLeavesAmong v front (matching_rows f (map (row_under p) block)) key) inv.wanted here in
    let scanned = c.in_ok-block.ensures.more inv.given inv.scanned in (
      matching_rows f (map (row_under p) (inv.given ++ block)),
      leaves_block w f p given inv.given block key leaves,
      λ rows told. matching_first bytes start now c.args.every.now f p c.next_block.new.self (inv.given ++ block) rows scanned (c.in_ok-block.ensures.filter ∙ inv.filter) c.requires.terms same told,
    ))
