use Rattle.std.proofs.Common.{◌≡◌, ◌∙◌, ap, sym, true, false, length, arith}
use Rattle.std.specs.Prelude.{◌==◌, ◌&&◌, nat_lt, slice_index_or}
use Rattle.std.specs.List.{list_all}
use Rattle.std.proofs.lemmas.Bool.Decides.{nat_tests}
use Rattle.mesa_schema.specs.Changes.{columns_at}
use Rattle.mesa_catalog_table.specs.mesa_columns.Columns.{aggs_of}
use Rattle.mesa_batch.specs.Totals.{sum_bound, sums_in}
use Rattle.mesa_table_records.proofs.Sums.{sums_at, sums_there}
use Rattle.mesa_table_records.proofs.restored_columns.Counted.allows_totals_at.Goals as goal

pub bounds-as_slice-epoch : goal.bounds-as_slice-epoch
bounds-as_slice-epoch c =
    let self = c.args.self.now in
    let there = sums_there self.evolving c.args.epoch c.requires in
    omega (arith, ap length (c.as_slice.ensures ∙ self.sums_counted))

pub returns-then-len-as_slice : goal.returns-then-len-as_slice
returns-then-len-as_slice c =
    let self = c.args.self.now in
    let s = columns_at self.evolving c.args.epoch in
    let totals = c.args.totals.now in
    let read = ap (λ ns. slice_index_or ns c.args.epoch 0) (c.as_slice.ensures ∙ self.sums_counted) ∙ sums_at self.evolving c.args.epoch c.requires in
    let count : length totals ≡ sums_in (aggs_of s) = sym c.len.ensures ∙ c.if-len-as_slice.true ∙ read in
    let same : (length totals == sums_in (aggs_of s)) ≡ true = grind (arith, nat_tests) in
    c.keep_bound.ensures ∙ ap (list_all (λ total. nat_lt total sum_bound)) c.as_slice-then-len-as_slice.ensures ∙ ap (λ b. b && list_all (λ total. nat_lt total sum_bound) totals) (sym same)

pub returns-else-len-as_slice : goal.returns-else-len-as_slice
returns-else-len-as_slice c =
    let self = c.args.self.now in
    let s = columns_at self.evolving c.args.epoch in
    let totals = c.args.totals.now in
    let read = ap (λ ns. slice_index_or ns c.args.epoch 0) (c.as_slice.ensures ∙ self.sums_counted) ∙ sums_at self.evolving c.args.epoch c.requires in
    let test : (c.len.result == slice_index_or c.as_slice.result.now c.args.epoch 0) ≡ false = grind (arith, nat_tests) in
    let same : (length totals == sums_in (aggs_of s)) ≡ false = (λ i. sym c.len.ensures i == sym read i) ∙ test in
    test ∙ ap (λ b. b && list_all (λ total. nat_lt total sum_bound) totals) (sym same)
