use Rattle.std.proofs.Common.{◌≡◌, [], refl, sym, ◌∙◌, subst}
use Rattle.mesa_open_files.specs.mesa_columns.Columns.{Columns}
use Rattle.mesa_open_files.specs.mesa_columns.Rows.{AreRowsOf}
use Rattle.mesa_delta.specs.Writing.{columns_of}
use Rattle.mesa_open_files.specs.Made.{IsMadeFile}
use Rattle.mesa_compact.proofs.Causing.{caused_bench, caused_on, same_end}
use Rattle.mesa_compact.proofs.Whole.{if_ok_map}
use Rattle.mesa_answer.specs.Answering.{KeepsSums}
use Rattle.mesa_compact.proofs.Whole.{if_err_map}
use Rattle.mesa_compact.specs.Damaged.{LeavesAmong, TotalLeaves}
use Rattle.mesa_compact.proofs.grouped.rows_file.Goals as goal

pub write_rows-requires-clause-form : goal.write_rows-requires-clause-form
write_rows-requires-clause-form g c = λ _ _. subst (λ (s : Columns). AreRowsOf s c.args.rows.now) (sym c.in-Ok.ensures.columns) c.requires.form

pub end_file-requires-clause-taken : goal.end_file-requires-clause-taken
end_file-requires-clause-taken g c = λ _ _. (c.args.rows.now, c.requires.some, c.in-Ok-write_rows.ensures.taken)

pub end_file-requires-clause-own : goal.end_file-requires-clause-own
end_file-requires-clause-own g c = λ _ _. c.in-Ok-write_rows.ensures.draft ∙ c.in-Ok.ensures.own ∙ sym c.in-Ok-write_rows.ensures.id

pub end_file-requires-clause-fresh : goal.end_file-requires-clause-fresh
end_file-requires-clause-fresh g c = λ _ _. (c.in-Ok-write_rows.ensures.causes []).drafts.quiet ∙ c.in-Ok.ensures.fresh

pub returns-in-Err-clause-causes : goal.returns-in-Err-clause-causes
returns-in-Err-clause-causes g c = λ reads. caused_on (λ d. ⊥) _ _ _ _ reads reads reads _ _ refl refl (c.in-Err.ensures.causes reads) refl (λ d (h : ⊥). absurd h)

pub returns-in-Ok-write_rows-clause-made : goal.returns-in-Ok-write_rows-clause-made
returns-in-Ok-write_rows-clause-made g c =
    let rows = c.args.rows.now in
    let cols : columns_of c.write_rows.new.writer ≡ c.args.schema.now = c.in-Ok-write_rows.ensures.columns ∙ c.in-Ok.ensures.columns in
    if_ok_map c.end_file.result _ (λ made. IsMadeFile g.M.Made.bytes g.M.Made.id_of (record { columns = c.args.schema.now; rows = rows }) made)
    (λ made file. subst (λ (s : Columns). IsMadeFile g.M.Made.bytes g.M.Made.id_of (record { columns = s; rows = rows }) made) cols (file rows c.requires.some c.in-Ok-write_rows.ensures.taken)) c.end_file.ensures.made

pub returns-in-Ok-write_rows-clause-id : goal.returns-in-Ok-write_rows-clause-id
returns-in-Ok-write_rows-clause-id g c =
    if_ok_map c.end_file.result (λ made. g.M.Made.id_of made.made ≡ _) (λ made. g.M.Made.id_of made.made ≡ c.args.id) (λ made is. is ∙ c.in-Ok-write_rows.ensures.id ∙ c.in-Ok.ensures.id) c.end_file.ensures.id

pub returns-in-Ok-write_rows-clause-causes : goal.returns-in-Ok-write_rows-clause-causes
returns-in-Ok-write_rows-clause-causes g c = λ reads.
    caused_on (λ d. ⊥) _ _ _ _ reads reads reads c.end_file.result c.end_file.result (c.in-Ok.ensures.causes []).drafts.quiet refl (c.end_file.ensures.causes reads) (same_end c.end_file.result) (λ d (h : ⊥). absurd h)

pub returns-in-Err-write_rows-clause-causes : goal.returns-in-Err-write_rows-clause-causes
returns-in-Err-write_rows-clause-causes g c = λ reads.
    caused_bench _ _ _ _ _ _ _ reads reads c.in-Err-write_rows.error (c.in-Ok.ensures.causes []).drafts.quiet c.in-Ok.ensures.fresh (c.in-Err-write_rows.ensures.causes reads) c.give_up.ensures.counted c.give_up.ensures.quiet c.give_up.ensures.later
    (λ d told. (told.0, subst (λ (s : Columns). LeavesAmong (TotalLeaves s) c.args.rows.now) c.in-Ok.ensures.columns told.1))

pub returns-in-Err-clause-accepts : goal.returns-in-Err-clause-accepts
returns-in-Err-clause-accepts g c = λ d e keeps. (c.in-Err.ensures.causes []).damaged d e

pub returns-in-Ok-write_rows-clause-accepts : goal.returns-in-Ok-write_rows-clause-accepts
returns-in-Ok-write_rows-clause-accepts g c = if_err_map c.end_file.result _ _ (λ e none d is keeps. none d is) (c.end_file.ensures.causes []).damaged

pub returns-in-Err-write_rows-clause-accepts : goal.returns-in-Err-write_rows-clause-accepts
returns-in-Err-write_rows-clause-accepts g c = λ d e keeps. c.in-Err-write_rows.ensures.accepts d e (subst (λ (s : Columns). KeepsSums s c.args.rows.now) (sym c.in-Ok.ensures.columns) keeps)
