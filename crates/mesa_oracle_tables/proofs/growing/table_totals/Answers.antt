use Rattle.std.proofs.Common.{◌∙◌, ◌≡◌, ap, refl, sym}
use Rattle.mesa_schema.specs.Changes.{columns_of}
use Rattle.mesa_batch.specs.Gathered.{rows_at}
use Rattle.mesa_batch.specs.Numbers.{known_of}
use Rattle.mesa_batch.specs.Totals.{abs_totals, totals_with}
use Rattle.mesa_oracle_tables.specs.Grown.{with_totals}
use Rattle.mesa_batch.proofs.FewTotals.{few_totals, over_within}
use Rattle.mesa_oracle_tables.proofs.Bounds.{same-capped, with_bound}
use Rattle.mesa_oracle_tables.proofs.Tables.{as_many, bound_over, counted_none, counted_some, more_is, no_more, no_more-bound, is_nil, over_is}
use Rattle.mesa_oracle_tables.proofs.growing.table_totals.Goals as goal

pub returns-then-count-eq0-clause-more : goal.returns-then-count-eq0-clause-more
returns-then-count-eq0-clause-more c =
    let rows = rows_at c.args.number c.args.batch.now in
    c.in_ok-copy.ensures ∙ sym (no_more (columns_of c.args.table.now.evolving.value) c.args.totals.now rows c.requires.totals (is_nil rows rows refl (counted_none rows c.count-count.result c.count-count.ensures c.if-count-eq0.true)))

pub returns-then-count-eq0-clause-bound : goal.returns-then-count-eq0-clause-bound
returns-then-count-eq0-clause-bound c =
    let rows = rows_at c.args.number c.args.batch.now in
    no_more-bound (columns_of c.args.table.now.evolving.value) c.args.totals.now rows c.requires.totals (is_nil rows rows refl (counted_none rows c.count-count.result c.count-count.ensures c.if-count-eq0.true))

pub fits-requires-clause-few : goal.fits-requires-clause-few
fits-requires-clause-few c =
    let s = columns_of c.args.table.now.evolving.value in
    let schema : c.present-schema.result.now ≡ s = c.present-schema.ensures.columns ∙ ap columns_of c.deref.ensures in
    few_totals s c.args.totals.now (rw schema at c.values-columns.ensures.sound) c.requires.totals.count

pub sum_column-requires : goal.sum_column-requires
sum_column-requires c =
    let s = columns_of c.args.table.now.evolving.value in
    let schema : c.present-schema.result.now ≡ s = c.present-schema.ensures.columns ∙ ap columns_of c.deref.ensures in
    rw (schema, ← c.requires.totals.count) (over_within c.args.totals.now c.in_ok-more.more c.in-Err.column (sym c.in-Err.ensures))

pub returns-in-Err-clause-refused : goal.returns-in-Err-clause-refused
returns-in-Err-clause-refused c =
    let s = columns_of c.args.table.now.evolving.value in
    let rows = rows_at c.args.number c.args.batch.now in
    let totals = c.args.totals.now in
    let schema : c.present-schema.result.now ≡ s = c.present-schema.ensures.columns ∙ ap columns_of c.deref.ensures in
    let more = more_is s c.args.batch.now c.args.number (rows_at c.args.number c.args.batch.now) c.in_ok-more.more refl (counted_some (rows_at c.args.number c.args.batch.now) c.count-count.result c.count-count.ensures c.if-count-eq0.false) c.requires.columns c.in_ok-more.ensures in
    let over = over_is totals c.in_ok-more.more (abs_totals s rows) _ c.in-Err.ensures more in
    rw (c.in_ok-copy-2.ensures, c.in_ok-copy-3.ensures, c.sum_column.ensures, schema) (bound_over (with_totals (known_of c.args.table.now) totals) rows c.in-Err.column over)

pub sums-requires : goal.sums-requires
sums-requires c = rw (c.as_slice.ensures, c.as_slice-2.ensures) (with_bound c.args.totals.now c.in_ok-more.more (sym c.in_default.ensures))

pub returns-clause-more : goal.returns-clause-more
returns-clause-more c =
    let s = columns_of c.args.table.now.evolving.value in
    let rows = rows_at c.args.number c.args.batch.now in
    let totals = c.args.totals.now in
    let more = more_is s c.args.batch.now c.args.number (rows_at c.args.number c.args.batch.now) c.in_ok-more.more refl (counted_some (rows_at c.args.number c.args.batch.now) c.count-count.result c.count-count.ensures c.if-count-eq0.false) c.requires.columns c.in_ok-more.ensures in
    let over = over_is totals c.in_ok-more.more (abs_totals s rows) _ c.in_default.ensures more in
    let same = more ∙ same-capped totals (abs_totals s rows) (as_many s totals rows c.requires.totals) over in
    c.in_ok-sums.ensures ∙ (λ i. totals_with (c.as_slice.ensures i) (c.as_slice-2.ensures i)) ∙ ap (totals_with totals) same

pub returns-clause-bound : goal.returns-clause-bound
returns-clause-bound c =
    let s = columns_of c.args.table.now.evolving.value in
    let more = more_is s c.args.batch.now c.args.number (rows_at c.args.number c.args.batch.now) c.in_ok-more.more refl (counted_some (rows_at c.args.number c.args.batch.now) c.count-count.result c.count-count.ensures c.if-count-eq0.false) c.requires.columns c.in_ok-more.ensures in
    over_is c.args.totals.now c.in_ok-more.more (abs_totals s (rows_at c.args.number c.args.batch.now)) _ c.in_default.ensures more
