use Rattle.std.proofs.Common.{◌∙◌, ap, subst, sym, refl}
use Rattle.std.proofs.lemmas.Result.{err_from_is_err_and}
use Rattle.mesa_group_blocks.specs.mesa_delta.declared.error.FileError.TheVariants as file_error
use Rattle.mesa_group_blocks.specs.mesa_columns.Columns.{Columns, kinds_of}
use Rattle.mesa_group_blocks.specs.mesa_fold.Folded.{rows_of}
use Rattle.mesa_group_blocks.specs.mesa_columns.Rows.{AreRowsOf}
use Rattle.mesa_filter.specs.Query.{IsQueryOf}
use Rattle.mesa_group_blocks.proofs.mesa_merge.Causing.{cause_other, cause_quiet}
use Rattle.mesa_group_blocks.specs.mesa_answer.Answering.{grouped_columns}
use Rattle.mesa_group_blocks.specs.mesa_answer.Gathered.{wanted_of}
use Rattle.mesa_group_blocks.specs.mesa_answer.Gathering.{Wanted, wanted_by}
use Rattle.mesa_group_blocks.specs.mesa_open_files.Pins.{IsPinnedInput}
use Rattle.std.specs.List.{AllByRecursion}
use Rattle.std.specs.Prelude.{None}
use Rattle.mesa_group_blocks.specs.Ungrouped.{parts_ungrouped}
use Rattle.mesa_query.proofs.Answered.{first_relation, none_first, page_empty, page_made, sum_wanted, sums_matching, wanted_columns}
use Rattle.mesa_query.proofs.answering.answer_from.Goals as goal

pub relation_columns-requires-after_bounds : goal.relation_columns-requires-after_bounds
relation_columns-requires-after_bounds g c = λ κs below. (c.requires.0, first_relation g.R.FileReader.bytes c.requires.0 c.args.view c.args.files.now c.in-Some.first.now c.in-Some.ensures.value c.requires.2)

pub of-requires : goal.of-requires
of-requires g c =
    let same = c.in_ok-schema.ensures c.requires.0 (first_relation g.R.FileReader.bytes c.requires.0 c.args.view c.args.files.now c.in-Some.first.now c.in-Some.ensures.value c.requires.2) in
    record { asked = subst (λ (t : Columns). IsQueryOf t c.args.query.now) (sym same) c.requires.1 }

pub gather_each-requires-clause-files : goal.gather_each-requires-clause-files
gather_each-requires-clause-files g c = λ κs below.
    let bytes = g.R.FileReader.bytes in
    let view = c.args.view in
    let files = c.args.files.now in
    let s = c.requires.0 in
    let same = c.in_ok-schema.ensures s (first_relation bytes s view files c.in-Some.first.now c.in-Some.ensures.value c.requires.2) in
    let here = ap (λ (w : Wanted). w.schema) c.in_ok-groups.ensures.wanted ∙ same in
    subst (λ (t : Columns). AllByRecursion (IsPinnedInput bytes t view) files) (sym here) c.requires.2

pub gather_each-requires-clause-filter : goal.gather_each-requires-clause-filter
gather_each-requires-clause-filter g c = λ κs below.
    let s = c.requires.0 in
    let same = c.in_ok-schema.ensures s (first_relation g.R.FileReader.bytes s c.args.view c.args.files.now c.in-Some.first.now c.in-Some.ensures.value c.requires.2) in
    c.filter.ensures.kinds ∙ c.requires.1.kinds ∙ ap kinds_of (sym (ap (λ (w : Wanted). w.schema) c.in_ok-groups.ensures.wanted ∙ same))

pub returns-in_err-gather_each-clause-pinned : goal.returns-in_err-gather_each-clause-pinned
returns-in_err-gather_each-clause-pinned g c = λ s all.
    let bytes = g.R.FileReader.bytes in
    let files = c.args.files.now in
    let same = c.in_ok-schema.ensures s (first_relation bytes s c.args.view files c.in-Some.first.now c.in-Some.ensures.value all) in
    subst (λ (t : Columns). AllByRecursion (IsPinnedInput bytes t c.args.view) c.gather_each.new.files) (ap (λ (w : Wanted). w.schema) c.in_ok-groups.ensures.wanted ∙ same) c.gather_each.ensures.pinned

pub returns-in_err-gather_each-clause-never : goal.returns-in_err-gather_each-clause-never
returns-in_err-gather_each-clause-never g c =
    let p = err_from_is_err_and c.from_residual-in_err-gather_each.result c.from_residual-in_err-gather_each.ensures.1 in
    let bytes = g.R.FileReader.bytes in
    let view = c.args.view in
    let files = c.args.files.now in
    rw (p.1, p.2) (λ d e s is all contents told keeps.
    let same = c.in_ok-schema.ensures s (first_relation bytes s view files c.in-Some.first.now c.in-Some.ensures.value all) in
    c.in_err-gather_each.ensures.never d e contents told
    (sums_matching s (wanted_of c.in_ok-groups.groups).schema c.args.query.now.asked.terms c.filter.result.now.terms (rows_of (parts_ungrouped view files contents)) (ap (λ (w : Wanted). w.schema) c.in_ok-groups.ensures.wanted ∙ same) c.filter.ensures.terms keeps))

pub into_page-requires : goal.into_page-requires
into_page-requires g c =
    let put = c.in_ok-gather_each.ensures.put in
    let wanted = c.in_ok-gather_each.ensures.wanted ∙ c.in_ok-groups.ensures.wanted in
    record {
      gathering = (put.0, put.1);
      of_query = wanted ∙ ap (λ t. wanted_by t c.args.query.now) (sym (ap (λ (w : Wanted). w.schema) wanted));
    }

pub returns-clause-page : goal.returns-clause-page
returns-clause-page g c = λ s is all contents told.
    let bytes = g.R.FileReader.bytes in
    let view = c.args.view in
    let files = c.args.files.now in
    let same = c.in_ok-schema.ensures s (first_relation bytes s view files c.in-Some.first.now c.in-Some.ensures.value all) in
    let put = c.in_ok-gather_each.ensures.put in
    page_made bytes s c.in_ok-schema.schema c.args.query.now view files contents (wanted_of c.in_ok-groups.groups) (wanted_of c.gather_each.new.groups) c.filter.result.now.terms put.0 c.in_ok-into_page.field-0
    c.answer_over_parts.ensures is all same c.in_ok-groups.ensures.wanted c.in_ok-gather_each.ensures.wanted c.filter.ensures.terms put.1.form (put.2 contents told) (c.in_ok-into_page.ensures.page put.0 put.1)

pub returns-clause-form : goal.returns-clause-form
returns-clause-form g c = λ s is all.
    let same = c.in_ok-schema.ensures s (first_relation g.R.FileReader.bytes s c.args.view c.args.files.now c.in-Some.first.now c.in-Some.ensures.value all) in
    let here = wanted_columns s c.in_ok-schema.schema c.args.query.now (wanted_of c.in_ok-groups.groups) (wanted_of c.gather_each.new.groups) same c.in_ok-groups.ensures.wanted c.in_ok-gather_each.ensures.wanted in
    subst (λ (t : Columns). AreRowsOf (grouped_columns t c.args.query.now.asked.columns c.args.query.now.asked.values) c.in_ok-into_page.field-0.rows) here c.in_ok-into_page.ensures.form

pub returns-clause-pinned : goal.returns-clause-pinned
returns-clause-pinned g c = λ s all.
    let bytes = g.R.FileReader.bytes in
    let files = c.args.files.now in
    let same = c.in_ok-schema.ensures s (first_relation bytes s c.args.view files c.in-Some.first.now c.in-Some.ensures.value all) in
    subst (λ (t : Columns). AllByRecursion (IsPinnedInput bytes t c.args.view) c.gather_each.new.files) (ap (λ (w : Wanted). w.schema) c.in_ok-groups.ensures.wanted ∙ same) c.gather_each.ensures.pinned

pub returns-clause-cause : goal.returns-clause-cause
returns-clause-cause g c = cause_quiet _ _ _ c.in_ok-gather_each.ensures.cause.quiet

pub returns-in_default-clause-page : goal.returns-in_default-clause-page
returns-in_default-clause-page g c = λ s is all contents told.
    page_empty s c.args.query.now c.args.view c.args.files.now contents _ (none_first c.args.files.now c.in_default.ensures.value) (λ k. record { version = c.version.ensures k; rows = c.new.ensures k; resume = None })

pub returns-in_default-clause-cause : goal.returns-in_default-clause-cause
returns-in_default-clause-cause g c = cause_quiet _ _ _ refl

pub returns-in_err-schema-clause-cause : goal.returns-in_err-schema-clause-cause
returns-in_err-schema-clause-cause g c =
    let p = err_from_is_err_and c.from_residual.result c.from_residual.ensures.1 in
    rw (p.1, p.2) (cause_other _ _ file_error.Memory refl (λ read. cc))

pub returns-in_err-groups-clause-cause : goal.returns-in_err-groups-clause-cause
returns-in_err-groups-clause-cause g c =
    let p = err_from_is_err_and c.from_residual-in_err-groups.result c.from_residual-in_err-groups.ensures.1 in
    rw (p.1, p.2) (cause_other _ _ file_error.Memory refl (λ read. cc))

pub returns-in_err-gather_each-clause-cause : goal.returns-in_err-gather_each-clause-cause
returns-in_err-gather_each-clause-cause g c =
    let p = err_from_is_err_and c.from_residual-in_err-gather_each.result c.from_residual-in_err-gather_each.ensures.1 in
    let cause = c.in_err-gather_each.ensures.cause in
    rw (p.1, p.2) (record { later = cause.later; failed = cause.failed; quiet = tt; other = cause.other })

pub returns-in_err-into_page-clause-pinned : goal.returns-in_err-into_page-clause-pinned
returns-in_err-into_page-clause-pinned g c = λ s all.
    let bytes = g.R.FileReader.bytes in
    let files = c.args.files.now in
    let same = c.in_ok-schema.ensures s (first_relation bytes s c.args.view files c.in-Some.first.now c.in-Some.ensures.value all) in
    subst (λ (t : Columns). AllByRecursion (IsPinnedInput bytes t c.args.view) c.gather_each.new.files) (ap (λ (w : Wanted). w.schema) c.in_ok-groups.ensures.wanted ∙ same) c.gather_each.ensures.pinned

pub returns-in_err-into_page-clause-cause : goal.returns-in_err-into_page-clause-cause
returns-in_err-into_page-clause-cause g c =
    let p = err_from_is_err_and c.from_residual-in_err-into_page.result c.from_residual-in_err-into_page.ensures.1 in
    rw (p.1, p.2) (cause_other _ _ file_error.Memory c.in_ok-gather_each.ensures.cause.quiet (λ read. cc))

pub returns-in_err-gather_each-clause-damaged : goal.returns-in_err-gather_each-clause-damaged
returns-in_err-gather_each-clause-damaged g c =
    let p = err_from_is_err_and c.from_residual-in_err-gather_each.result c.from_residual-in_err-gather_each.ensures.1 in
    let bytes = g.R.FileReader.bytes in
    let view = c.args.view in
    let files = c.args.files.now in
    rw (p.1, p.2) (λ d e s is all.
    let same = c.in_ok-schema.ensures s (first_relation bytes s view files c.in-Some.first.now c.in-Some.ensures.value all) in
    sum_wanted bytes g.R.FileReader.size s c.in_ok-schema.schema c.args.query.now view files c.gather_each.new.files (wanted_of c.in_ok-groups.groups) c.filter.result.now.terms d same c.in_ok-groups.ensures.wanted c.filter.ensures.terms (c.in_err-gather_each.ensures.damaged d e))
