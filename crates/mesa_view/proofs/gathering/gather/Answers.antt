use Rattle.std.proofs.Common.{◌≡◌, ◌∙◌, ◌++◌, List, append_assoc, ap, subst, sym, refl}
use Rattle.std.proofs.lemmas.Result.{err_from_is_err_and}
use Rattle.mesa_columns.specs.declared.rows.Row.{Row}
use Rattle.mesa_scan.specs.mesa_schema.Changes.{columns_of}
use Rattle.mesa_columns.specs.Columns.{Columns}
use Rattle.mesa_columns.specs.Rows.{AreRowsOf}
use Rattle.mesa_scan.specs.Cursors.{reader_in}
use Rattle.mesa_scan.proofs.Onwards.{damaged_before, same_input}
use Rattle.mesa_answer.specs.Answering.{KeepsSums}
use Rattle.mesa_answer.specs.Gathered.{HasPut, key_at_hand, wanted_of}
use Rattle.mesa_answer.specs.Gathering.{Wanted}
use Rattle.mesa_answer.specs.Sums.{SumLeavesAmong}
use Rattle.mesa_answer.proofs.Leaving.{leaves_behind}
use Rattle.mesa_view.specs.Gathering.{gather_error}
use Rattle.mesa_view.proofs.Blocks.{Gathers, fault_of_file, given_all, given_bounded, given_first, group_sum, group_undamaged, group_unread, more_form, no_fault}
use Rattle.mesa_view.proofs.Waiting.{own_now, waits_more}
use Rattle.mesa_view.proofs.gathering.gather.Goals as goal

pub returns-in_err-rows-clause-damaged : goal.returns-in_err-rows-clause-damaged
returns-in_err-rows-clause-damaged g c =
    let p = err_from_is_err_and c.from_residual-in_err-rows.result c.from_residual-in_err-rows.ensures.1 in
    let inv = c.each_block.invariant.gathers in
    rw (p.1, p.2) (λ d e. damaged_before g.R.FileReader.bytes g.R.FileReader.size c.args.input.now c.each_block.input d inv.same inv.size (c.in_err-rows.ensures.damaged d (cc e)))

pub returns-in_err-rows-clause-cause : goal.returns-in_err-rows-clause-cause
returns-in_err-rows-clause-cause g c =
    let p = err_from_is_err_and c.from_residual-in_err-rows.result c.from_residual-in_err-rows.ensures.1 in
    let faults = g.R.FileReader.faults in
    rw (p.1, p.2) (fault_of_file {T = Unit {0}} c.in_err-rows.field-0.0 _ _ _ c.each_block.invariant.gathers.faults c.in_err-rows.ensures.cause)

pub returns-in_err-rows-clause-never : goal.returns-in_err-rows-clause-never
returns-in_err-rows-clause-never g c =
    let p = err_from_is_err_and c.from_residual-in_err-rows.result c.from_residual-in_err-rows.ensures.1 in
    rw (p.1, p.2) (λ e. cc e)

pub returns-in_err-rows-clause-sum : goal.returns-in_err-rows-clause-sum
returns-in_err-rows-clause-sum g c =
    let p = err_from_is_err_and c.from_residual-in_err-rows.result c.from_residual-in_err-rows.ensures.1 in
    rw (p.1, p.2) (λ e. cc e)

pub put_rows-requires-clause-gathering : goal.put_rows-requires-clause-gathering
put_rows-requires-clause-gathering g c = (c.requires.gathering.0 ++ c.each_block.invariant.gathers.given, c.each_block.invariant.gathers.put c.requires.gathering.0 c.requires.gathering.1)

pub put_rows-requires-clause-form : goal.put_rows-requires-clause-form
put_rows-requires-clause-form g c =
    let bytes = g.R.FileReader.bytes in
    let inv = c.each_block.invariant.gathers in
    let start = c.args.input.now in
    let now = c.next_block.new.input in
    let rows : List Row = c.in_ok-rows.rows in
    let scanned = c.in_ok-rows.ensures.more inv.given inv.scanned in
    let form : AreRowsOf (columns_of now.evolving.value) rows = more_form bytes now c.next_block.new.self inv.given rows scanned in
    let schema : (wanted_of c.each_block.groups).schema ≡ columns_of start.evolving.value = ap (λ (w : Wanted). w.schema) inv.wanted ∙ c.requires.columns in
    let same = same_input bytes start c.each_block.input now inv.same c.next_block.ensures.same in
    let columns : columns_of now.evolving.value ≡ columns_of start.evolving.value = λ k. columns_of (same.evolving k).value in
    subst (λ (s : Columns). AreRowsOf s rows) (columns ∙ sym schema) form

pub returns-in_err-put_rows-clause-cause : goal.returns-in_err-put_rows-clause-cause
returns-in_err-put_rows-clause-cause g c =
    let p = err_from_is_err_and c.from_residual-in_err-put_rows.result c.from_residual-in_err-put_rows.ensures.1 in
    let faults = g.R.FileReader.faults in
    rw (p.1, p.2) (no_fault {T = Unit {0}} (gather_error c.in_err-put_rows.field-0.0) (faults (reader_in c.args.input.now)) (faults (reader_in c.next_block.new.input)) (c.in_ok-rows.ensures.cause.quiet ∙ c.each_block.invariant.gathers.faults) (group_unread c.in_err-put_rows.field-0.0))

pub returns-in_err-put_rows-clause-damaged : goal.returns-in_err-put_rows-clause-damaged
returns-in_err-put_rows-clause-damaged g c =
    let p = err_from_is_err_and c.from_residual-in_err-put_rows.result c.from_residual-in_err-put_rows.ensures.1 in
    rw (p.1, p.2) (λ d e. absurd (group_undamaged c.in_err-put_rows.field-0.0 d e))

pub returns-in_err-put_rows-clause-never : goal.returns-in_err-put_rows-clause-never
returns-in_err-put_rows-clause-never g c =
    let p = err_from_is_err_and c.from_residual-in_err-put_rows.result c.from_residual-in_err-put_rows.ensures.1 in
    let bytes = g.R.FileReader.bytes in
    let inv = c.each_block.invariant.gathers in
    let start = c.args.input.now in
    let now = c.next_block.new.input in
    let rows : List Row = c.in_ok-rows.rows in
    let scanned = c.in_ok-rows.ensures.more inv.given inv.scanned in
    let schema : (wanted_of c.each_block.groups).schema ≡ columns_of start.evolving.value = ap (λ (w : Wanted). w.schema) inv.wanted ∙ c.requires.columns in
    let same = same_input bytes start c.each_block.input now inv.same c.next_block.ensures.same in
    rw (p.1, p.2) (λ e given h b all told indexed keeps.
    let bounded = given_bounded bytes start now c.args.filter.now c.next_block.new.self given (inv.given ++ rows) scanned (c.in_ok-rows.ensures.filter ∙ inv.filter) same b all told indexed keeps in
    let here : KeepsSums (columns_of start.evolving.value) ((given ++ inv.given) ++ rows) = subst (KeepsSums (columns_of start.evolving.value)) (sym (append_assoc given inv.given rows)) bounded in
    c.in_err-put_rows.ensures.never (group_sum c.in_err-put_rows.field-0.0 e) (given ++ inv.given) (inv.put given h) (subst (λ (s : Columns). KeepsSums s ((given ++ inv.given) ++ rows)) (sym schema) here))

pub returns-in_err-put_rows-clause-sum : goal.returns-in_err-put_rows-clause-sum
returns-in_err-put_rows-clause-sum g c =
    let p = err_from_is_err_and c.from_residual-in_err-put_rows.result c.from_residual-in_err-put_rows.ensures.1 in
    let bytes = g.R.FileReader.bytes in
    let inv = c.each_block.invariant.gathers in
    let start = c.args.input.now in
    let now = c.next_block.new.input in
    let rows : List Row = c.in_ok-rows.rows in
    let scanned = c.in_ok-rows.ensures.more inv.given inv.scanned in
    let same = same_input bytes start c.each_block.input now inv.same c.next_block.ensures.same in
    let key = key_at_hand c.put_rows.new.groups in
    rw (p.1, p.2) (λ e given h.
    let here = c.in_err-put_rows.ensures.sum (group_sum c.in_err-put_rows.field-0.0 e) (given ++ inv.given) (inv.put given h) in
    let leaves = leaves_behind (wanted_of c.args.groups.now) given inv.given rows key (subst (λ (w : Wanted). SumLeavesAmong w (given ++ inv.given) rows key) inv.wanted here) in
    (inv.given ++ rows, leaves, given_first bytes start now c.args.filter.now c.next_block.new.self (inv.given ++ rows) scanned (c.in_ok-rows.ensures.filter ∙ inv.filter) same))

pub each_block-preserved : goal.each_block-preserved
each_block-preserved g c =
    let bytes = g.R.FileReader.bytes in
    let inv = c.each_block.invariant.gathers in
    let now = c.next_block.new.input in
    let rows : List Row = c.in_ok-rows.rows in
    let gathers : Gathers bytes g.R.FileReader.size g.R.FileReader.faults c.args.input.now now c.args.filter.now c.next_block.new.self c.args.groups.now c.put_rows.new.groups = record {
      given = inv.given ++ rows;
      scanned = c.in_ok-rows.ensures.more inv.given inv.scanned;
      filter = c.in_ok-rows.ensures.filter ∙ inv.filter;
      same = same_input bytes c.args.input.now c.each_block.input now inv.same c.next_block.ensures.same;
      size = c.next_block.ensures.size ∙ inv.size;
      faults = c.in_ok-rows.ensures.cause.quiet ∙ inv.faults;
      put = λ before h. subst (HasPut c.put_rows.new.groups) (append_assoc before inv.given rows)
          (c.in_ok-put_rows.ensures.put (before ++ inv.given) (inv.put before h));
      wanted = c.in_ok-put_rows.ensures.wanted ∙ inv.wanted;
    } in
    record {
      gathers = gathers;
      waits = waits_more bytes c.args.input.now c.each_block.input c.args.place c.args.ahead.now c.each_block.ahead c.next_block.new.ahead inv.same c.each_block.invariant.waits c.next_block.ensures.own c.next_block.ensures.ahead;
    }

pub next_block-requires-clause-ahead : goal.next_block-requires-clause-ahead
next_block-requires-clause-ahead g c = λ κs below. own_now g.R.FileReader.bytes c.args.input.now c.each_block.input c.args.place c.args.ahead.now c.each_block.ahead c.each_block.invariant.gathers.same c.each_block.invariant.waits

pub returns-clause-put : goal.returns-clause-put
returns-clause-put g c = λ given h.
    let inv = c.each_block.invariant.gathers in
    (inv.given, inv.put given h, λ b all told indexed. given_all g.R.FileReader.bytes c.args.input.now c.each_block.input c.args.filter.now c.each_block.scan inv.given inv.scanned inv.filter inv.same (c.each_block-test.ensures.0 refl) b all told indexed)
