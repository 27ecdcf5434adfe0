use Rattle.std.proofs.Common.{◌≡◌, ◌<◌, [], refl, sym, ap, subst, ◌∙◌}
use Rattle.mesa_compact.specs.mesa_columns.Columns.{Columns}
use Rattle.mesa_delta.specs.Writing.{columns_of}
use Rattle.mesa_open_files.specs.Made.{IsMadeFile}
use Rattle.mesa_split.specs.Lending.{own_in}
use Rattle.mesa_split.proofs.Ranges.{range_failed, range_made, range_none, range_unbegun, range_unended}
use Rattle.mesa_split.proofs.files.range_file.Goals as goal

pub returns-in-Err : goal.returns-in-Err
returns-in-Err g c =
    range_unbegun g.M.Made.id_of g.M.Made.bytes g.R.FileReader.bytes g.R.FileReader.faults g.R.FileReader.size c.args.schema.now c.args.id c.args.newest (own_in c.args.parts.now)
    c.args.parts.now c.args.groups.now.items _ _ c.in-Err.error c.requires.ready c.in-Err.ensures.causes

pub pour_pieces-poured-requires-clause-columns : goal.pour_pieces-poured-requires-clause-columns
pour_pieces-poured-requires-clause-columns g c = λ _ _. c.held_over-writer.ensures.columns ∙ c.in-Ok.ensures.columns

pub pour_pieces-poured-requires-clause-none : goal.pour_pieces-poured-requires-clause-none
pour_pieces-poured-requires-clause-none g c = λ _ _. record { taken = c.held_over-writer.ensures.taken; put = c.requires.none }

pub pour_pieces-poured-requires-clause-sent : goal.pour_pieces-poured-requires-clause-sent
pour_pieces-poured-requires-clause-sent g c = λ _ _. c.held_over-writer.ensures.sent

-- ---- there are rows

pub end_file-requires-clause-taken : goal.end_file-requires-clause-taken
end_file-requires-clause-taken g c = λ _ _.
    let run = rw c.in-Ok-true.field-0-test at c.in-Ok-true.ensures in
    (run.all.rows, run.all.many refl, c.over-writer.ensures.taken run.all.rows run.all.poured.taken (sym run.all.flushed))

pub end_file-requires-clause-own : goal.end_file-requires-clause-own
end_file-requires-clause-own g c = λ _ _.
    let drawn = g.B.Draft.Draft.id_of in
    ap drawn c.over-writer.ensures.draft ∙ c.in-Ok-true.ensures.over.draft ∙ ap drawn c.held_over-writer.ensures.draft ∙ c.in-Ok.ensures.own
    ∙ sym (c.over-writer.ensures.id ∙ c.in-Ok-true.ensures.over.id ∙ c.held_over-writer.ensures.id)

pub end_file-requires-clause-fresh : goal.end_file-requires-clause-fresh
end_file-requires-clause-fresh g c = λ _ _.
    let counted = g.B.Draft.Draft.faults in
    ap counted c.over-writer.ensures.draft ∙ c.in-Ok-true.ensures.drafts.quiet ∙ ap counted c.held_over-writer.ensures.draft ∙ c.in-Ok.ensures.fresh

pub returns-in-Ok-end_file : goal.returns-in-Ok-end_file
returns-in-Ok-end_file g c =
    let told = g.M.Made.bytes in
    let drawn = g.M.Made.id_of in
    let run = rw c.in-Ok-true.field-0-test at c.in-Ok-true.ensures in
    let made = c.in-Ok-end_file.file in
    let columns : columns_of c.over-writer.result.0 ≡ c.args.schema.now = c.over-writer.ensures.columns ∙ run.over.columns ∙ c.held_over-writer.ensures.columns ∙ c.in-Ok.ensures.columns in
    let file = c.in-Ok-end_file.ensures.made run.all.rows (run.all.many refl) (c.over-writer.ensures.taken run.all.rows run.all.poured.taken (sym run.all.flushed)) in
    range_made drawn told g.R.FileReader.bytes g.R.FileReader.faults g.R.FileReader.size c.args.schema.now c.args.id c.args.newest (own_in c.args.parts.now)
    g.B.Draft.Draft.bytes g.B.Draft.Draft.id_of g.B.Draft.Draft.faults c.args.parts.now c.pour_pieces-poured.new.parts c.held_over-writer.result.0 c.pour_pieces-poured.new.writer c.held_over-writer.result.1 c.pour_pieces-poured.new.draft c.args.groups.now.items c.pour_pieces-poured.new.groups.items
    _ _ _ made _ run (c.in-Ok.ensures.causes []).drafts.quiet c.in-Ok-end_file.ensures.causes
    (subst (λ (s : Columns). IsMadeFile told drawn (record { columns = s; rows = run.all.rows }) made) columns file)
    (c.in-Ok-end_file.ensures.id ∙ c.over-writer.ensures.id ∙ run.over.id ∙ c.held_over-writer.ensures.id ∙ c.in-Ok.ensures.id)

pub returns-in-Ok-true : goal.returns-in-Ok-true
returns-in-Ok-true g c =
    range_unended g.M.Made.id_of g.M.Made.bytes g.R.FileReader.bytes g.R.FileReader.faults g.R.FileReader.size c.args.schema.now c.args.id c.args.newest (own_in c.args.parts.now)
    g.B.Draft.Draft.bytes g.B.Draft.Draft.id_of g.B.Draft.Draft.faults c.args.parts.now c.pour_pieces-poured.new.parts c.held_over-writer.result.0 c.pour_pieces-poured.new.writer c.held_over-writer.result.1 c.pour_pieces-poured.new.draft c.args.groups.now.items c.pour_pieces-poured.new.groups.items
    _ _ _ _ c.in-Err-end_file.error c.in-Ok-true.ensures (c.in-Ok.ensures.causes []).drafts.quiet c.in-Err-end_file.ensures.causes

-- ---- there are none

pub returns-in-Ok-false : goal.returns-in-Ok-false
returns-in-Ok-false g c =
    let counted = g.B.Draft.Draft.faults in
    let run = rw c.in-Ok-false.field-0-test at c.in-Ok-false.ensures in
    range_none g.M.Made.id_of g.M.Made.bytes g.R.FileReader.bytes g.R.FileReader.faults g.R.FileReader.size c.args.schema.now c.args.id c.args.newest (own_in c.args.parts.now)
    g.B.Draft.Draft.bytes g.B.Draft.Draft.id_of counted c.args.parts.now c.pour_pieces-poured.new.parts c.held_over-writer.result.0 c.pour_pieces-poured.new.writer c.held_over-writer.result.1 c.pour_pieces-poured.new.draft c.args.groups.now.items c.pour_pieces-poured.new.groups.items
    _ _ _ run (ap counted c.held_over-writer.ensures.draft ∙ c.in-Ok.ensures.fresh) (c.in-Ok.ensures.causes []).drafts.quiet (λ none. c.give_up.ensures.quiet (ap counted c.over-writer.ensures.draft ∙ none))

-- ---- not all rows are written

pub returns : goal.returns
returns g c =
    let counted = g.B.Draft.Draft.faults in
    let over = ap counted c.over-writer.ensures.draft in
    range_failed g.M.Made.id_of g.M.Made.bytes g.R.FileReader.bytes g.R.FileReader.faults g.R.FileReader.size c.args.schema.now c.args.id c.args.newest (own_in c.args.parts.now)
    g.B.Draft.Draft.bytes g.B.Draft.Draft.id_of counted c.args.parts.now c.pour_pieces-poured.new.parts c.held_over-writer.result.0 c.pour_pieces-poured.new.writer c.held_over-writer.result.1 c.pour_pieces-poured.new.draft c.args.groups.now.items c.pour_pieces-poured.new.groups.items
    _ _ _ c.in-Err-poured.error c.in-Err-poured.ensures (ap counted c.held_over-writer.ensures.draft ∙ c.in-Ok.ensures.fresh) (c.in-Ok.ensures.causes []).drafts.quiet
    (λ some. c.give_up-in-Err-poured.ensures.counted (subst (λ n. 0 < n) (sym over) some)) (λ none. c.give_up-in-Err-poured.ensures.quiet (over ∙ none)) c.give_up-in-Err-poured.ensures.later
