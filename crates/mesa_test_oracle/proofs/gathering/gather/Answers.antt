use Rattle.std.proofs.Common.{◌≡◌, ◌≢◌, ◌∷◌, ◌∙◌, ◌+◌, ap, arith, drop, subst, sym, Ok, Err, Result}
use Rattle.std.specs.Prelude.{IfErr, OnOk}
use Rattle.mesa_list.specs.Checks.{◌>>◌}
use Rattle.mesa_batch.specs.declared.words.BatchError.{BatchError}
use Rattle.mesa_batch.specs.declared.words.BatchError.TheVariants as error
use Rattle.mesa_batch.specs.Gathered.{Gathered, each_once}
use Rattle.std.proofs.lemmas.List.{drop_all}
use Rattle.mesa_batch.specs.Glance.{tables_of}
use Rattle.mesa_batch.proofs.Fields.{cut}
use Rattle.mesa_batch.proofs.LoadedRows.{some_at}
use Rattle.mesa_test_oracle.proofs.Gathers.{given, is_batch, is_told, row_goes_on, row_stops}
use Rattle.mesa_test_oracle.proofs.gathering.gather.Goals as goal

pub returns-in-Err-clause-refused : goal.returns-in-Err-clause-refused
returns-in-Err-clause-refused c =
    let inv = c.rows.invariant in
    let tables = tables_of c.args.glance.now in
    let words = c.row.result in
    let rest = drop (c.rows.place + 1) c.args.rows.now in
    let at = some_at c.args.rows.now c.rows.place words (sym c.row.ensures) in
    let next : drop c.rows.place c.args.rows.now ≡ words ∷ rest = cut c.args.rows.now c.rows.place words at.0 at.1 in
    let once = subst (λ (g : Gathered). OnOk c.finish.result (each_once g.rows ≡ Ok tt)) c.in-Err.ensures.kept c.finish.ensures.once in
    let twice = subst (λ (g : Gathered). IfErr c.finish.result (λ d. d ≢ error.Memory → each_once g.rows ≡ Err d)) c.in-Err.ensures.kept c.finish.ensures.refused in
    let stops = row_stops tables c.rows.builder.rows words rest c.in-Err.error c.finish.result c.in-Err.ensures.refused once twice in
    is_told c.unwrap_or-first.result _ c.refusal_of.result c.refusal_of.ensures (rw (c.unwrap_or-first.ensures, c.err.ensures.value) (λ other. inv.all ∙ ap (given tables c.rows.builder.rows) next ∙ stops other))

pub rows-preserved : goal.rows-preserved
rows-preserved c =
    let inv = c.rows.invariant in
    let tables = tables_of c.args.glance.now in
    let words = c.row.result in
    let rest = drop (c.rows.place + 1) c.args.rows.now in
    let at = some_at c.args.rows.now c.rows.place words (sym c.row.ensures) in
    let next : drop c.rows.place c.args.rows.now ≡ words ∷ rest = cut c.args.rows.now c.rows.place words at.0 at.1 in
    record {
      all = inv.all ∙ ap (given tables c.rows.builder.rows) next ∙ row_goes_on tables c.rows.builder.rows c.row-in-rows.new.self.rows words rest c.in_default.ensures.ok;
      one_glance = c.in_default.ensures.one_glance;
      columns = λ some. c.in_default.ensures.columns;
    }

pub returns-in-Ok-clause-rows : goal.returns-in-Ok-clause-rows
returns-in-Ok-clause-rows c =
    let tables = tables_of c.args.glance.now in
    let rows = c.rows.builder.rows in
    let all = c.rows.invariant.all ∙ ap (given tables rows) (drop_all c.rows.place c.args.rows.now (omega (arith, c.len-place-end.ensures, c.rows-test.false))) ∙ ap (λ (r : Result (Unit {0}) BatchError). r >> Ok rows) c.in-Ok.ensures.once in
    (rows, (all, record { rows = c.in-Ok.ensures.rows; totals = c.in-Ok.ensures.totals; count = c.in-Ok.ensures.count }))

pub returns-in-Ok-clause-batch : goal.returns-in-Ok-clause-batch
returns-in-Ok-clause-batch c =
    let tables = tables_of c.args.glance.now in
    let rows = c.rows.builder.rows in
    let all = c.rows.invariant.all ∙ ap (given tables rows) (drop_all c.rows.place c.args.rows.now (omega (arith, c.len-place-end.ensures, c.rows-test.false))) ∙ ap (λ (r : Result (Unit {0}) BatchError). r >> Ok rows) c.in-Ok.ensures.once in
    is_batch c.args.glance.now c.args.rows.now rows c.in-Ok.batch all c.in-Ok.ensures.rows c.in-Ok.ensures.fold (λ some. c.in-Ok.ensures.columns ∙ c.rows.invariant.columns some)
