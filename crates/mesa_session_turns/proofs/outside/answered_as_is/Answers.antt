use Rattle.std.proofs.Common.{◌≡◌, sym, ap, subst}
use Rattle.std.specs.Prelude.{IsTrue}
use Rattle.std.specs.List.{AllByRecursion}
use Rattle.mesa_key.specs.Spelling.{is_spelling}
use Rattle.mesa_core.specs.mesa_columns.declared.rows.Row.{Row}
use Rattle.mesa_filter.specs.Query.{BuiltQuery, group_kinds}
use Rattle.mesa_open_files.specs.declared.querying.Pinned.{Pinned}
use Rattle.mesa_session_turns.proofs.Pinned.{fault_closes, known_stays, page_closes}
use Rattle.mesa_session_turns.proofs.Spelling.{page_spells}
use Rattle.mesa_session_turns.proofs.outside.answered_as_is.Goals as goal

pub printed-text-requires : goal.printed-text-requires
printed-text-requires g c =
    let s = c.requires.0 in
    let was = c.requires.1 in
    let same : c.answer.new.pinned.query ≡ c.args.pinned.query = ap (λ (p : Pinned _). p.query) c.answer.ensures.rest in
    subst (λ (q : BuiltQuery). AllByRecursion (λ (row : Row). IsTrue (is_spelling (group_kinds q) row.key)) c.in-Ok.page.rows) (sym same)
    (page_spells c.reads_back.ensures.passes s c.args.pinned.query c.in-Ok.page.rows was.query (c.in-Ok.ensures.form s was))

pub returns-in-Ok-clause-known : goal.returns-in-Ok-clause-known
returns-in-Ok-clause-known g c = known_stays g.R.FileReader.bytes c.args.pinned c.answer.new.pinned c.answer.ensures.rest c.answer.ensures.known c.answer.ensures.own

pub returns-in-Err-clause-known : goal.returns-in-Err-clause-known
returns-in-Err-clause-known g c = known_stays g.R.FileReader.bytes c.args.pinned c.answer.new.pinned c.answer.ensures.rest c.answer.ensures.known c.answer.ensures.own

pub returns-in-Ok-clause-answer : goal.returns-in-Ok-clause-answer
returns-in-Ok-clause-answer g c =
    let s = c.requires.0 in
    let was = c.requires.1 in
    (s, c.answer.ensures.pinned s was, page_closes g.R.FileReader.bytes c.args.pinned c.answer.new.pinned c.answer.ensures.rest c.answer.ensures.known c.answer.ensures.own g.R.FileReader.faults s c.in-Ok.page c.printed-text.result (c.in-Ok.ensures.page s was) c.printed-text.ensures.text c.printed-text.ensures.memory)

pub returns-in-Err-clause-answer : goal.returns-in-Err-clause-answer
returns-in-Err-clause-answer g c =
    let s = c.requires.0 in
    let was = c.requires.1 in
    (s, c.answer.ensures.pinned s was, fault_closes g.R.FileReader.bytes c.args.pinned c.answer.new.pinned c.answer.ensures.rest c.answer.ensures.known c.answer.ensures.own g.R.FileReader.faults g.R.FileReader.size s c.in-Err.error c.in-Err.ensures.cause.failed (λ d is. c.in-Err.ensures.damaged d is s was) (λ d is. c.in-Err.ensures.never d is s was))
