use Rattle.std.proofs.Common.{◌≡◌, ◌∙◌, ◌-◌, ◌^◌, ap, subst, sym, refl, false}
use Rattle.std.proofs.lemmas.Result.{err_from_is_err_and}
use Rattle.mesa_group_blocks.specs.mesa_delta.declared.error.FileError.TheVariants as file_error
use Rattle.mesa_group_blocks.specs.mesa_columns.Columns.{Columns, kinds_of}
use Rattle.mesa_group_blocks.specs.mesa_fold.Folded.{rows_of}
use Rattle.mesa_filter.specs.Query.{are_places}
use Rattle.mesa_group_blocks.proofs.mesa_merge.Causing.{cause_other, cause_quiet}
use Rattle.mesa_group_blocks.specs.mesa_answer.Gathered.{wanted_of}
use Rattle.mesa_group_blocks.specs.mesa_answer.Gathering.{Wanted}
use Rattle.mesa_group_blocks.specs.mesa_open_files.Pins.{IsPinnedInput}
use Rattle.std.specs.List.{AllByRecursion}
use Rattle.std.specs.Prelude.{None}
use Rattle.mesa_group_blocks.specs.Ungrouped.{parts_ungrouped}
use Rattle.mesa_query.specs.Whole.{all_wanted}
use Rattle.mesa_query.proofs.Answered.{first_relation, none_first, sums_matching}
use Rattle.mesa_query.proofs.AllGroups.{sum_all_wanted, whole_empty, whole_form, whole_made}
use Rattle.mesa_query.proofs.unpaged.whole_from.Goals as goal

pub relation_columns-requires-after_bounds : goal.relation_columns-requires-after_bounds
relation_columns-requires-after_bounds g c = λ κs below. (c.requires.0, first_relation g.R.FileReader.bytes c.requires.0 c.args.view c.args.files.now c.in-Some.first.now c.in-Some.ensures.value c.requires.2)

pub all-requires-clause-columns_there : goal.all-requires-clause-columns_there
all-requires-clause-columns_there g c =
    let same = c.in_ok-schema.ensures c.requires.0 (first_relation g.R.FileReader.bytes c.requires.0 c.args.view c.args.files.now c.in-Some.first.now c.in-Some.ensures.value c.requires.2) in
    (λ i. are_places (same i).keys (c.columns.ensures i)) ∙ c.requires.1.columns

pub all-requires-clause-values_there : goal.all-requires-clause-values_there
all-requires-clause-values_there g c =
    let same = c.in_ok-schema.ensures c.requires.0 (first_relation g.R.FileReader.bytes c.requires.0 c.args.view c.args.files.now c.in-Some.first.now c.in-Some.ensures.value c.requires.2) in
    (λ i. are_places (same i).values (c.values.ensures i)) ∙ c.requires.1.values

pub gather_all-requires-clause-files : goal.gather_all-requires-clause-files
gather_all-requires-clause-files g c = λ κs below.
    let bytes = g.R.FileReader.bytes in
    let view = c.args.view in
    let files = c.args.files.now in
    let s = c.requires.0 in
    let same = c.in_ok-schema.ensures s (first_relation bytes s view files c.in-Some.first.now c.in-Some.ensures.value c.requires.2) in
    let here = ap (λ (w : Wanted). w.schema) c.in_ok-groups.ensures.wanted ∙ same in
    subst (λ (t : Columns). AllByRecursion (IsPinnedInput bytes t view) files) (sym here) c.requires.2

pub gather_all-requires-clause-filter : goal.gather_all-requires-clause-filter
gather_all-requires-clause-filter g c = λ κs below.
    let s = c.requires.0 in
    let same = c.in_ok-schema.ensures s (first_relation g.R.FileReader.bytes s c.args.view c.args.files.now c.in-Some.first.now c.in-Some.ensures.value c.requires.2) in
    c.filter.ensures.kinds ∙ c.requires.1.kinds ∙ ap kinds_of (sym (ap (λ (w : Wanted). w.schema) c.in_ok-groups.ensures.wanted ∙ same))

pub returns-in_err-gather_all-clause-pinned : goal.returns-in_err-gather_all-clause-pinned
returns-in_err-gather_all-clause-pinned g c = λ s all.
    let bytes = g.R.FileReader.bytes in
    let files = c.args.files.now in
    let same = c.in_ok-schema.ensures s (first_relation bytes s c.args.view files c.in-Some.first.now c.in-Some.ensures.value all) in
    subst (λ (t : Columns). AllByRecursion (IsPinnedInput bytes t c.args.view) c.gather_all.new.files) (ap (λ (w : Wanted). w.schema) c.in_ok-groups.ensures.wanted ∙ same) c.gather_all.ensures.pinned

pub returns-in_err-gather_all-clause-never : goal.returns-in_err-gather_all-clause-never
returns-in_err-gather_all-clause-never g c =
    let p = err_from_is_err_and c.from_residual-in_err-gather_all.result c.from_residual-in_err-gather_all.ensures.1 in
    let bytes = g.R.FileReader.bytes in
    let view = c.args.view in
    let files = c.args.files.now in
    rw (p.1, p.2) (λ d e s is all contents told keeps.
    let same = c.in_ok-schema.ensures s (first_relation bytes s view files c.in-Some.first.now c.in-Some.ensures.value all) in
    c.in_err-gather_all.ensures.never d e contents told
    (sums_matching s (wanted_of c.in_ok-groups.groups).schema c.args.query.now.asked.terms c.filter.result.now.terms (rows_of (parts_ungrouped view files contents)) (ap (λ (w : Wanted). w.schema) c.in_ok-groups.ensures.wanted ∙ same) c.filter.ensures.terms keeps))

pub into_rows-requires : goal.into_rows-requires
into_rows-requires g c = let put = c.in_ok-gather_all.ensures.put in record { gathering = (put.0, put.1) }

pub returns-clause-rows : goal.returns-clause-rows
returns-clause-rows g c = λ s is all contents told.
    let bytes = g.R.FileReader.bytes in
    let view = c.args.view in
    let files = c.args.files.now in
    let same = c.in_ok-schema.ensures s (first_relation bytes s view files c.in-Some.first.now c.in-Some.ensures.value all) in
    let put = c.in_ok-gather_all.ensures.put in
    let made : wanted_of c.in_ok-groups.groups ≡ all_wanted c.in_ok-schema.schema c.args.query.now =
    c.in_ok-groups.ensures.wanted ∙ (λ i. record { schema = c.in_ok-schema.schema; columns = c.columns.ensures i; values = c.values.ensures i; resume = None; inclusive = false; most = 2 ^ 64 - 1 }) in
    whole_made bytes s c.in_ok-schema.schema c.args.query.now view files contents (wanted_of c.in_ok-groups.groups) (wanted_of c.gather_all.new.groups) c.filter.result.now.terms put.0 c.in_ok-into_rows.field-0
    c.answer_over_parts.ensures is all same made c.in_ok-gather_all.ensures.wanted c.filter.ensures.terms put.1.form (put.2 contents told) (c.in_ok-into_rows.ensures.rows put.0 put.1) c.in_ok-into_rows.ensures.few

pub returns-clause-form : goal.returns-clause-form
returns-clause-form g c = λ s is all.
    let same = c.in_ok-schema.ensures s (first_relation g.R.FileReader.bytes s c.args.view c.args.files.now c.in-Some.first.now c.in-Some.ensures.value all) in
    let put = c.in_ok-gather_all.ensures.put in
    let made : wanted_of c.in_ok-groups.groups ≡ all_wanted c.in_ok-schema.schema c.args.query.now =
    c.in_ok-groups.ensures.wanted ∙ (λ i. record { schema = c.in_ok-schema.schema; columns = c.columns.ensures i; values = c.values.ensures i; resume = None; inclusive = false; most = 2 ^ 64 - 1 }) in
    whole_form s c.in_ok-schema.schema c.args.query.now (wanted_of c.in_ok-groups.groups) (wanted_of c.gather_all.new.groups) put.0 c.in_ok-into_rows.field-0
    same made c.in_ok-gather_all.ensures.wanted put.1.form (c.in_ok-into_rows.ensures.rows put.0 put.1) c.in_ok-into_rows.ensures.few

pub returns-clause-pinned : goal.returns-clause-pinned
returns-clause-pinned g c = λ s all.
    let bytes = g.R.FileReader.bytes in
    let files = c.args.files.now in
    let same = c.in_ok-schema.ensures s (first_relation bytes s c.args.view files c.in-Some.first.now c.in-Some.ensures.value all) in
    subst (λ (t : Columns). AllByRecursion (IsPinnedInput bytes t c.args.view) c.gather_all.new.files) (ap (λ (w : Wanted). w.schema) c.in_ok-groups.ensures.wanted ∙ same) c.gather_all.ensures.pinned

pub returns-clause-cause : goal.returns-clause-cause
returns-clause-cause g c = cause_quiet _ _ _ c.in_ok-gather_all.ensures.cause.quiet

pub returns-in_default-clause-rows : goal.returns-in_default-clause-rows
returns-in_default-clause-rows g c = λ s is all contents told.
    whole_empty s c.args.query.now c.args.view c.args.files.now contents _ (none_first c.args.files.now c.in_default.ensures.value) (c.new.ensures)

pub returns-in_default-clause-cause : goal.returns-in_default-clause-cause
returns-in_default-clause-cause g c = cause_quiet _ _ _ refl

pub returns-in_err-schema-clause-cause : goal.returns-in_err-schema-clause-cause
returns-in_err-schema-clause-cause g c =
    let p = err_from_is_err_and c.from_residual.result c.from_residual.ensures.1 in
    rw (p.1, p.2) (cause_other _ _ file_error.Memory refl (λ read. cc))

pub returns-in_err-groups-clause-cause : goal.returns-in_err-groups-clause-cause
returns-in_err-groups-clause-cause g c =
    let p = err_from_is_err_and c.from_residual-in_err-groups.result c.from_residual-in_err-groups.ensures.1 in
    rw (p.1, p.2) (cause_other _ _ file_error.Memory refl (λ read. cc))

pub returns-in_err-gather_all-clause-cause : goal.returns-in_err-gather_all-clause-cause
returns-in_err-gather_all-clause-cause g c =
    let p = err_from_is_err_and c.from_residual-in_err-gather_all.result c.from_residual-in_err-gather_all.ensures.1 in
    let cause = c.in_err-gather_all.ensures.cause in
    rw (p.1, p.2) (record { later = cause.later; failed = cause.failed; quiet = tt; other = cause.other })

pub returns-in_err-into_rows-clause-pinned : goal.returns-in_err-into_rows-clause-pinned
returns-in_err-into_rows-clause-pinned g c = λ s all.
    let bytes = g.R.FileReader.bytes in
    let files = c.args.files.now in
    let same = c.in_ok-schema.ensures s (first_relation bytes s c.args.view files c.in-Some.first.now c.in-Some.ensures.value all) in
    subst (λ (t : Columns). AllByRecursion (IsPinnedInput bytes t c.args.view) c.gather_all.new.files) (ap (λ (w : Wanted). w.schema) c.in_ok-groups.ensures.wanted ∙ same) c.gather_all.ensures.pinned

pub returns-in_err-into_rows-clause-cause : goal.returns-in_err-into_rows-clause-cause
returns-in_err-into_rows-clause-cause g c =
    let p = err_from_is_err_and c.from_residual-in_err-into_rows.result c.from_residual-in_err-into_rows.ensures.1 in
    rw (p.1, p.2) (cause_other _ _ file_error.Memory c.in_ok-gather_all.ensures.cause.quiet (λ read. cc))

pub returns-in_err-gather_all-clause-damaged : goal.returns-in_err-gather_all-clause-damaged
returns-in_err-gather_all-clause-damaged g c =
    let p = err_from_is_err_and c.from_residual-in_err-gather_all.result c.from_residual-in_err-gather_all.ensures.1 in
    let bytes = g.R.FileReader.bytes in
    let view = c.args.view in
    let files = c.args.files.now in
    rw (p.1, p.2) (λ d e s is all.
    let same = c.in_ok-schema.ensures s (first_relation bytes s view files c.in-Some.first.now c.in-Some.ensures.value all) in
    let made : wanted_of c.in_ok-groups.groups ≡ all_wanted c.in_ok-schema.schema c.args.query.now =
    c.in_ok-groups.ensures.wanted ∙ (λ i. record { schema = c.in_ok-schema.schema; columns = c.columns.ensures i; values = c.values.ensures i; resume = None; inclusive = false; most = 2 ^ 64 - 1 }) in
    sum_all_wanted bytes g.R.FileReader.size s c.in_ok-schema.schema c.args.query.now view files c.gather_all.new.files (wanted_of c.in_ok-groups.groups) c.filter.result.now.terms d same made c.filter.ensures.terms (c.in_err-gather_all.ensures.damaged d e))
