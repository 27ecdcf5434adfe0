use Rattle.std.proofs.Common.{ap, ◌∙◌, sym, subst, refl}
use Rattle.std.proofs.lemmas.Result.{err_from_is_err_and}
use Rattle.mesa_delta.specs.declared.error.FileError.TheVariants as file_error
use Rattle.mesa_digest.specs.Digests.{digests_of}
use Rattle.mesa_store_digest.proofs.Content.{rows_formed, told_rows}
use Rattle.mesa_store_digest.proofs.looking.digests_of.Goals as goal
use Rattle.mesa_query.proofs.mesa_merge.Causing.{cause_other, cause_quiet}
use Rattle.mesa_query.proofs.Differing.{query_differs}
use Rattle.mesa_query.specs.Whole.{all_wanted}
use Rattle.mesa_validate.specs.Found.{columns_at}
use Rattle.mesa_pick_files.specs.mesa_columns.Columns.{Columns}
use Rattle.mesa_pick_files.specs.mesa_columns.Rows.{AreRowsOf}

pub digests-requires : goal.digests-requires
digests-requires g c =
    let s = columns_at c.args.catalog.now.catalogue c.args.place in
    let p = c.args.pinned.now in
    subst (λ (t : Columns). AreRowsOf t c.in_ok-rows.rows) (sym c.in_ok-schema.ensures) (rows_formed s p.query.asked c.in_ok-rows.rows c.requires.asked (c.in_ok-rows.ensures.form s c.requires.pinned))

pub returns-clause-digests : goal.returns-clause-digests
returns-clause-digests g c =
    let s = columns_at c.args.catalog.now.catalogue c.args.place in
    let p = c.args.pinned.now in
    let rows = c.in_ok-rows.rows in
    record {
      content = rows;
      form = rows_formed s p.query.asked rows c.requires.asked (c.in_ok-rows.ensures.form s c.requires.pinned);
      are = c.in_ok-digests.ensures ∙ ap (λ (t : Columns). digests_of t rows) c.in_ok-schema.ensures;
      told = λ known tells. told_rows g.R.FileReader.bytes s p rows known c.requires.asked (c.in_ok-rows.ensures.rows s c.requires.pinned) tells;
    }

pub returns-clause-cause : goal.returns-clause-cause
returns-clause-cause g c = cause_quiet _ _ _ c.in_ok-rows.ensures.cause.quiet

pub returns-in_err-schema-clause-cause : goal.returns-in_err-schema-clause-cause
returns-in_err-schema-clause-cause g c =
    let p = err_from_is_err_and c.from_residual.result c.from_residual.ensures.1 in
    rw (p.1, p.2) (cause_other _ _ file_error.Memory refl (λ read. cc))

pub returns-in_err-rows-clause-cause : goal.returns-in_err-rows-clause-cause
returns-in_err-rows-clause-cause g c =
    let p = err_from_is_err_and c.from_residual-in_err-rows.result c.from_residual-in_err-rows.ensures.1 in
    let cause = c.in_err-rows.ensures.cause in
    rw (p.1, p.2) (record { later = cause.later; failed = cause.failed; quiet = tt; other = cause.other })

pub returns-in_err-rows-clause-damaged : goal.returns-in_err-rows-clause-damaged
returns-in_err-rows-clause-damaged g c =
    let p = err_from_is_err_and c.from_residual-in_err-rows.result c.from_residual-in_err-rows.ensures.1 in
    let s = columns_at c.args.catalog.now.catalogue c.args.place in
    let before = c.args.pinned.now in
    rw (p.1, p.2) (λ d is. query_differs g.R.FileReader.bytes g.R.FileReader.size (all_wanted s before.query) before.query.asked.terms before.view d before.inputs.items _ (c.in_err-rows.ensures.damaged d is s c.requires.pinned))

pub returns-in_err-rows-clause-never : goal.returns-in_err-rows-clause-never
returns-in_err-rows-clause-never g c =
    let p = err_from_is_err_and c.from_residual-in_err-rows.result c.from_residual-in_err-rows.ensures.1 in
    let s = columns_at c.args.catalog.now.catalogue c.args.place in
    rw (p.1, p.2) (λ d is told tells. c.in_err-rows.ensures.never d is s c.requires.pinned tells.contents tells.told tells.sums)

pub returns-in_err-digests-clause-cause : goal.returns-in_err-digests-clause-cause
returns-in_err-digests-clause-cause g c =
    let p = err_from_is_err_and c.from_residual-in_err-digests.result c.from_residual-in_err-digests.ensures.1 in
    rw (p.1, p.2) (cause_other _ _ file_error.Memory c.in_ok-rows.ensures.cause.quiet (λ read. cc))
