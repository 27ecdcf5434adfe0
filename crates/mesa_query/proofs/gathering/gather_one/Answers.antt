use Rattle.std.proofs.Common.{◌∙◌, ◌++◌, List, ap, subst, sym, refl}
use Rattle.mesa_group_blocks.specs.mesa_columns.declared.rows.Row.{Row}
use Rattle.mesa_group_blocks.specs.mesa_columns.Columns.{kinds_of}
use Rattle.mesa_filter.specs.Filter.{filtered}
use Rattle.mesa_group_blocks.specs.mesa_answer.Answering.{KeepsSums}
use Rattle.mesa_group_blocks.specs.mesa_answer.Gathered.{wanted_of}
use Rattle.mesa_group_blocks.proofs.mesa_answer.Results.{if_err, on_ok}
use Rattle.mesa_group_blocks.specs.mesa_open_files.Inputs.{lifted_in, lineage_of}
use Rattle.mesa_group_blocks.specs.mesa_open_files.Pins.{view_at}
use Rattle.mesa_group_blocks.proofs.Owned.{no_view, own_columns, own_keeps, own_rows, pinned_after, table_rows, table_view}
use Rattle.mesa_query.proofs.gathering.gather_one.Goals as goal

pub gather-requires-clause-columns : goal.gather-requires-clause-columns
gather-requires-clause-columns g c = λ κs below.
    let file = c.args.file.now in
    sym (own_columns (wanted_of c.args.groups.now).schema c.args.view (lineage_of file.input) file.own c.if-file.true c.requires.file.relation)

pub gather-requires-clause-filter : goal.gather-requires-clause-filter
gather-requires-clause-filter g c = λ κs below.
    let file = c.args.file.now in
    c.requires.filter ∙ ap kinds_of (sym (own_columns (wanted_of c.args.groups.now).schema c.args.view (lineage_of file.input) file.own c.if-file.true c.requires.file.relation))

pub returns-then-file-clause-put : goal.returns-then-file-clause-put
returns-then-file-clause-put g c =
    let file = c.args.file.now in
    let s = (wanted_of c.args.groups.now).schema in
    on_ok c.gather.result _ _ (λ put given h.
    let r = put given h in
    (r.0, r.1, λ rows told. r.2 told.0 rows told.1 told.2 ∙ own_rows s c.args.filter.now.terms c.args.view (lineage_of file.input) file.own (lifted_in file.input rows) c.if-file.true c.requires.file.relation)) c.gather.ensures.put

pub returns-then-file-clause-pinned : goal.returns-then-file-clause-pinned
returns-then-file-clause-pinned g c = pinned_after g.R.FileReader.bytes (wanted_of c.args.groups.now).schema c.args.view c.args.file.now _ c.gather.ensures.same refl c.gather.ensures.input c.requires.file

pub returns-then-file-clause-never : goal.returns-then-file-clause-never
returns-then-file-clause-never g c =
    let file = c.args.file.now in
    let s = (wanted_of c.args.groups.now).schema in
    if_err c.gather.result _ _ (λ e never is given h rows told keeps.
    never is given h told.0 rows told.1 told.2 (own_keeps s c.args.filter.now.terms c.args.view (lineage_of file.input) file.own given (lifted_in file.input rows) c.if-file.true c.requires.file.relation keeps)) c.gather.ensures.never

pub gather_regrouped-requires-clause-columns : goal.gather_regrouped-requires-clause-columns
gather_regrouped-requires-clause-columns g c = λ κs below.
    let file = c.args.file.now in
    let l = lineage_of file.input in
    let v = table_view (wanted_of c.args.groups.now).schema c.args.view l file.own c.if-file.false c.requires.file.relation in
    (v.view, ap (view_at l) (sym c.in-Some.is) ∙ v.there, v.columns)

pub returns-clause-put : goal.returns-clause-put
returns-clause-put g c =
    let file = c.args.file.now in
    let l = lineage_of file.input in
    let s = (wanted_of c.args.groups.now).schema in
    let terms = c.args.filter.now.terms in
    let v = table_view s c.args.view l file.own c.if-file.false c.requires.file.relation in
    on_ok c.gather_regrouped.result _ _ (λ put given h.
    let r = put given h in
    (r.0, r.1, λ rows told. r.2 v.view (ap (view_at l) (sym c.in-Some.is) ∙ v.there) rows told ∙ ap (filtered s terms) (table_rows c.args.view l file.own (lifted_in file.input rows) v.view c.if-file.false v.there))) c.gather_regrouped.ensures.put

pub returns-clause-pinned : goal.returns-clause-pinned
returns-clause-pinned g c = pinned_after g.R.FileReader.bytes (wanted_of c.args.groups.now).schema c.args.view c.args.file.now _ c.gather_regrouped.ensures.same refl c.gather_regrouped.ensures.input c.requires.file

pub returns-clause-never : goal.returns-clause-never
returns-clause-never g c =
    let file = c.args.file.now in
    let l = lineage_of file.input in
    let s = (wanted_of c.args.groups.now).schema in
    let terms = c.args.filter.now.terms in
    let v = table_view s c.args.view l file.own c.if-file.false c.requires.file.relation in
    if_err c.gather_regrouped.result _ _ (λ e never is given h rows told keeps.
    never is v.view (ap (view_at l) (sym c.in-Some.is) ∙ v.there) given h rows told
    (subst (λ (more : List Row). KeepsSums s (given ++ filtered s terms more)) (sym (table_rows c.args.view l file.own (lifted_in file.input rows) v.view c.if-file.false v.there)) keeps)) c.gather_regrouped.ensures.never

pub unreachable-requires : goal.unreachable-requires
unreachable-requires g c =
    let file = c.args.file.now in
    no_view (wanted_of c.args.groups.now).schema c.args.view (lineage_of file.input) file.own c.if-file.false c.in-None.is c.requires.file.relation

pub returns-then-file-clause-sum : goal.returns-then-file-clause-sum
returns-then-file-clause-sum g c =
    let file = c.args.file.now in
    let s = (wanted_of c.args.groups.now).schema in
    if_err c.gather.result _ _ (λ e sum is given h.
    let r = sum is given h in (
      r.0,
      r.1,
      λ rows told.
          let first = r.2 told.0 rows told.1 told.2 in
          (first.0, sym (own_rows s c.args.filter.now.terms c.args.view (lineage_of file.input) file.own (lifted_in file.input rows) c.if-file.true c.requires.file.relation) ∙ first.1),
    )) c.gather.ensures.sum

pub returns-clause-sum : goal.returns-clause-sum
returns-clause-sum g c =
    let file = c.args.file.now in
    let l = lineage_of file.input in
    let s = (wanted_of c.args.groups.now).schema in
    let terms = c.args.filter.now.terms in
    let v = table_view s c.args.view l file.own c.if-file.false c.requires.file.relation in
    if_err c.gather_regrouped.result _ _ (λ e sum is given h.
    let r = sum is given h in (
      r.0,
      r.1,
      λ rows told.
          let first = r.2 v.view (ap (view_at l) (sym c.in-Some.is) ∙ v.there) rows told in
          (first.0, sym (ap (filtered s terms) (table_rows c.args.view l file.own (lifted_in file.input rows) v.view c.if-file.false v.there)) ∙ first.1),
    )) c.gather_regrouped.ensures.sum
