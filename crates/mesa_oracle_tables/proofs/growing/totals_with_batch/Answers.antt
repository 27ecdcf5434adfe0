use Rattle.std.proofs.Common.{◌∙◌, ◌≡◌, ℕ, List, ap, sym, subst, map, length, length-append, get_or, [], ◌∷◌, None, arith}
use Rattle.std.proofs.lemmas.Result.{err_from_is_err_and}
use Rattle.mesa_schema.specs.Changes.{columns_of}
use Rattle.mesa_batch.specs.Gathered.{rows_at}
use Rattle.mesa_batch.specs.Glance.{Known}
use Rattle.mesa_batch.specs.Numbers.{known_of}
use Rattle.mesa_batch.specs.Totals.{abs_totals, over_bound, totals_with}
use Rattle.mesa_oracle_tables.specs.Kept.{totals_in}
use Rattle.mesa_oracle_tables.specs.Sound.{HasTotals}
use Rattle.mesa_oracle_tables.proofs.Items.{map_there, one_more, read_or}
use Rattle.mesa_oracle_tables.proofs.Tables.{due_here, due_next}
use Rattle.mesa_oracle_tables.proofs.growing.totals_with_batch.Goals as goal

pub table_totals-requires-clause-totals : goal.table_totals-requires-clause-totals
table_totals-requires-clause-totals c =
    let number = c.tables.number in
    let table = c.index-tables-number.result in
    let totals = c.args.totals.now in
    let own = c.index-as_slice-number.result in
    let is : own ≡ get_or totals number own = rw c.as_slice.ensures at c.index-as_slice-number.is in
    let read : get_or totals number [] ≡ own = read_or totals number own [] (omega (arith, c.requires.count, c.tables-test.true)) is in
    let there = map_there known_of c.args.tables.now number table c.tables-test.true c.index-tables-number.is in
    subst (HasTotals (columns_of table.evolving.value)) read (c.requires.totals number (known_of table) there)

pub table_totals-requires-clause-columns : goal.table_totals-requires-clause-columns
table_totals-requires-clause-columns c = c.requires.batch.columns c.tables.number (known_of c.index-tables-number.result) (map_there known_of c.args.tables.now c.tables.number c.index-tables-number.result c.tables-test.true c.index-tables-number.is)

pub returns-in_err-table_totals-clause-refused : goal.returns-in_err-table_totals-clause-refused
returns-in_err-table_totals-clause-refused c =
    let p = err_from_is_err_and c.from_residual.result c.from_residual.ensures.1 in
    let number = c.tables.number in
    let table = c.index-tables-number.result in
    let totals = c.args.totals.now in
    let own = c.index-as_slice-number.result in
    let is : own ≡ get_or totals number own = rw c.as_slice.ensures at c.index-as_slice-number.is in
    let read : get_or totals number [] ≡ own = read_or totals number own [] (omega (arith, c.requires.count, c.tables-test.true)) is in
    let there = map_there known_of c.args.tables.now number table c.tables-test.true c.index-tables-number.is in
    rw (p.1, p.2) (due_here (map known_of c.args.tables.now) totals c.args.batch.now number (known_of table) own c.in_err-table_totals.field-0.0 there read c.in_err-table_totals.ensures.refused c.tables.invariant.due)

pub tables-preserved : goal.tables-preserved
tables-preserved c =
    let inv = c.tables.invariant in
    let number = c.tables.number in
    let table = c.index-tables-number.result in
    let totals = c.args.totals.now in
    let batch = c.args.batch.now in
    let tables = map known_of c.args.tables.now in
    let own = c.index-as_slice-number.result in
    let next = c.in_ok-table_totals.field-0 in
    let is : own ≡ get_or totals number own = rw c.as_slice.ensures at c.index-as_slice-number.is in
    let read : get_or totals number [] ≡ own = read_or totals number own [] (omega (arith, c.requires.count, c.tables-test.true)) is in
    let there = map_there known_of c.args.tables.now number table c.tables-test.true c.index-tables-number.is in
    let more : next ≡ totals_with (totals_in number totals) (abs_totals (columns_of table.evolving.value) (rows_at number batch)) = c.in_ok-table_totals.ensures.more ∙ ap (λ ts. totals_with ts (abs_totals (columns_of table.evolving.value) (rows_at number batch))) (sym read) in
    let bound : over_bound (totals_in number totals) (abs_totals (columns_of table.evolving.value) (rows_at number batch)) ≡ None = ap (λ ts. over_bound ts (abs_totals (columns_of table.evolving.value) (rows_at number batch))) read ∙ c.in_ok-table_totals.ensures.bound in
    record {
      count = omega (arith, ap length c.in_ok-push.ensures.ok, length-append c.tables.after (next ∷ []), inv.count);
      more = λ n k lt e. rw c.in_ok-push.ensures.ok (one_more (λ (m : ℕ) (q : Known) (ts : List ℕ). ts ≡ totals_with (totals_in m totals) (abs_totals (columns_of q.lineage) (rows_at m batch))) c.tables.after next [] tables number (known_of table) inv.count there more inv.more n k lt e);
      bound = one_more (λ (m : ℕ) (q : Known) (ts : List ℕ). over_bound (totals_in m totals) (abs_totals (columns_of q.lineage) (rows_at m batch)) ≡ None) c.tables.after next [] tables number (known_of table) inv.count there bound inv.bound;
      due = due_next tables totals batch number (known_of table) there bound inv.due;
    }
