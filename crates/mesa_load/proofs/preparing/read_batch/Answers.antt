use Rattle.std.proofs.Common.{◌≡◌, ◌<◌, ℕ, List, [], Ok, Err, drop, sym, subst, ap, ◌∙◌, arith}
use Rattle.std.specs.Prelude.{◌≢◌, IfErr, OnOk, Result}
use Rattle.std.proofs.Math.ListN.{drop_of_length-le}
use Rattle.std.proofs.lemmas.Result.{err_from_is_err_and}
use Rattle.mesa_batch.specs.mesa_list.Checks.{◌>>◌}
use Rattle.mesa_batch.specs.declared.words.BatchError.{BatchError}
use Rattle.mesa_batch.specs.declared.words.BatchError.TheVariants.{Memory}
use Rattle.mesa_batch.specs.Batch.{Placed, batch_of}
use Rattle.mesa_batch.specs.Gathered.{Gathered, each_once}
use Rattle.mesa_batch.specs.Glance.{tables_of}
use Rattle.mesa_load.specs.Plans.{IsRead}
use Rattle.mesa_load.proofs.Reading.{batched, read_all, read_next, read_refused}
use Rattle.mesa_load.proofs.preparing.read_batch.Goals as goal

pub returns-in-Err-clause-refused : goal.returns-in-Err-clause-refused
returns-in-Err-clause-refused c =
    let tables = tables_of c.args.glance.now in
    let once = subst (λ (g : Gathered). OnOk c.finish.result (each_once g.rows ≡ Ok tt)) c.in-Err.ensures.kept c.finish.ensures.once in
    let twice = subst (λ (g : Gathered). IfErr c.finish.result (λ d. d ≢ Memory → each_once g.rows ≡ Err d)) c.in-Err.ensures.kept c.finish.ensures.refused in
    rw (c.unwrap_or.ensures, c.err.ensures.value)
    (read_refused c.goes_row_by_row.ensures tables c.rows.builder.rows c.in-Err.error c.args.rows.now c.rows.i c.row.result c.finish.result (subst (λ (n : ℕ). c.rows.i < n) c.len-i-end.ensures c.rows-test.true) c.row.ensures c.in-Err.ensures.refused c.rows.invariant.read once twice)

pub rows-preserved : goal.rows-preserved
rows-preserved c =
    record {
      one_glance = c.row-in-rows.ensures.one_glance;
      read = read_next c.goes_row_by_row.ensures (tables_of c.args.glance.now) c.rows.builder.rows c.row-in-rows.new.self.rows c.args.rows.now c.rows.i c.row.result (subst (λ (n : ℕ). c.rows.i < n) c.len-i-end.ensures c.rows-test.true) c.row.ensures c.in-Ok.ensures.ok c.rows.invariant.read;
      columns = λ some. c.in-Ok.ensures.columns;
    }

pub returns-in_err-batch-clause-refused : goal.returns-in_err-batch-clause-refused
returns-in_err-batch-clause-refused c =
    let p = err_from_is_err_and c.from_residual.result c.from_residual.ensures.1 in
    let tables = tables_of c.args.glance.now in
    let batch = c.rows.builder.rows in
    let done : drop c.rows.i c.args.rows.now ≡ [] = drop_of_length-le c.args.rows.now (omega (arith, c.rows-test.false, c.len-i-end.ensures)) in
    rw (p.1, p.2) (λ other. read_all tables batch c.args.rows.now c.rows.i done c.rows.invariant.read ∙ ap (λ (r : Result (Unit {0}) BatchError). r >> Ok batch) (c.in_err-batch.ensures.refused other))

pub returns-clause-read : goal.returns-clause-read
returns-clause-read c =
    let tables = tables_of c.args.glance.now in
    let batch = c.rows.builder.rows in
    let done : drop c.rows.i c.args.rows.now ≡ [] = drop_of_length-le c.args.rows.now (omega (arith, c.rows-test.false, c.len-i-end.ensures)) in
    let read : batch_of tables c.args.rows.now ≡ Ok batch = read_all tables batch c.args.rows.now c.rows.i done c.rows.invariant.read ∙ ap (λ (r : Result (Unit {0}) BatchError). r >> Ok batch) c.in_ok-batch.ensures.once in
    subst (λ (r : Result (List Placed) BatchError). IsRead r c.args.glance.now c.in_ok-batch.batch) (sym read)
    (batched c.keeps_forms.ensures c.args.glance.now c.args.rows.now batch c.in_ok-batch.batch read c.in_ok-batch.ensures.rows c.in_ok-batch.ensures.totals
    (λ some. c.in_ok-batch.ensures.columns ∙ c.rows.invariant.columns some))
