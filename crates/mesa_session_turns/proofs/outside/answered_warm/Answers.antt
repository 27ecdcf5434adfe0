use Rattle.std.proofs.Common.{◌≡◌, ◌∙◌, sym, ap, subst}
use Rattle.std.specs.Prelude.{Err, IfOk, IsTrue}
use Rattle.std.specs.List.{AllByRecursion}
use Rattle.mesa_key.specs.Spelling.{is_spelling}
use Rattle.mesa_core.specs.mesa_columns.declared.rows.Row.{Row}
use Rattle.mesa_filter.specs.Query.{BuiltQuery, group_kinds}
use Rattle.mesa_script.specs.Rows.{rendered}
use Rattle.mesa_open_files.specs.declared.querying.Pinned.{Pinned}
use Rattle.mesa_core.specs.Pins.{heading_in}
use Rattle.mesa_session_turns.proofs.Pinned.{answer_along, fault_closes, known_along, known_stays, page_closes}
use Rattle.mesa_session_turns.proofs.Spelling.{page_spells}
use Rattle.mesa_session_turns.proofs.outside.answered_warm.Goals as goal

pub printed-text-requires : goal.printed-text-requires
printed-text-requires g c =
    let s = c.requires.0 in
    let was = c.requires.1 in
    let same : c.cool-pinned.result.query ≡ c.args.warm.query = ap (λ (p : Pinned _). p.query) c.cool-pinned.ensures.rest ∙ ap (λ (p : Pinned _). p.query) c.answer.ensures.rest in
    subst (λ (q : BuiltQuery). AllByRecursion (λ (row : Row). IsTrue (is_spelling (group_kinds q) row.key)) c.in-Ok.page.rows) (sym same)
    (page_spells c.reads_back.ensures.passes s c.args.warm.query c.in-Ok.page.rows was.query (c.in-Ok.ensures.form s was))

pub returns-in-Ok-clause-known : goal.returns-in-Ok-clause-known
returns-in-Ok-clause-known g c =
    let bytes = g.R.FileReader.bytes in
    known_along bytes c.answer.new.self c.cool-pinned.result c.cool-pinned.ensures ∙ known_stays bytes c.args.warm c.answer.new.self c.answer.ensures.rest c.answer.ensures.known c.answer.ensures.own

pub returns-in-Ok-clause-answer : goal.returns-in-Ok-clause-answer
returns-in-Ok-clause-answer g c =
    let bytes = g.R.FileReader.bytes in
    let s = c.requires.0 in
    let was = c.requires.1 in
    let same : c.cool-pinned.result.query ≡ c.answer.new.self.query = ap (λ (p : Pinned _). p.query) c.cool-pinned.ensures.rest in
    let text = subst (λ (q : BuiltQuery). IfOk c.printed-text.result (λ text. text ≡ rendered (heading_in q) c.in-Ok.page)) same c.printed-text.ensures.text in
    let closes = page_closes bytes c.args.warm c.answer.new.self c.answer.ensures.rest c.answer.ensures.known c.answer.ensures.own g.R.FileReader.faults s c.in-Ok.page c.printed-text.result (c.in-Ok.ensures.page s was) text c.printed-text.ensures.memory in
    (s, c.cool-pinned.ensures.pinned s (c.answer.ensures.pinned s was), answer_along bytes c.answer.new.self c.cool-pinned.result c.cool-pinned.ensures g.R.FileReader.faults s c.printed-text.result closes)

pub returns-in-Err-clause-known : goal.returns-in-Err-clause-known
returns-in-Err-clause-known g c =
    let bytes = g.R.FileReader.bytes in
    known_along bytes c.answer.new.self c.cool.result c.cool.ensures ∙ known_stays bytes c.args.warm c.answer.new.self c.answer.ensures.rest c.answer.ensures.known c.answer.ensures.own

pub returns-in-Err-clause-answer : goal.returns-in-Err-clause-answer
returns-in-Err-clause-answer g c =
    let bytes = g.R.FileReader.bytes in
    let s = c.requires.0 in
    let was = c.requires.1 in
    let closes = fault_closes bytes c.args.warm c.answer.new.self c.answer.ensures.rest c.answer.ensures.known c.answer.ensures.own g.R.FileReader.faults g.R.FileReader.size s c.in-Err.error c.in-Err.ensures.cause.failed (λ d is. c.in-Err.ensures.damaged d is s was) (λ d is. c.in-Err.ensures.never d is s was) in
    (s, c.cool.ensures.pinned s (c.answer.ensures.pinned s was), answer_along bytes c.answer.new.self c.cool.result c.cool.ensures g.R.FileReader.faults s (Err c.in-Err.error) closes)
