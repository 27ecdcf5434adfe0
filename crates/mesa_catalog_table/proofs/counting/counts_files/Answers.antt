use Rattle.std.proofs.Common.{◌≡◌, ◌∙◌, ap, sym, true, false, length, arith}
use Rattle.std.specs.Prelude.{◌==◌, ◌&&◌, slice_index_or}
use Rattle.std.specs.List.{list_all}
use Rattle.std.proofs.lemmas.Bool.Decides.{nat_tests}
use Rattle.mesa_schema.specs.Changes.{columns_at}
use Rattle.mesa_store_spec.specs.Fitting.{is_view_ref}
use Rattle.mesa_catalog_table.proofs.Counts.{width_at, width_there}
use Rattle.mesa_catalog_table.proofs.counting.counts_files.Goals as goal

pub bounds-widths-epoch : goal.bounds-widths-epoch
bounds-widths-epoch c = let there = width_there c.args.evolving.now c.args.epoch c.requires.epoch in omega (arith, ap length c.requires.widths)

pub returns-then-len-widths : goal.returns-then-len-widths
returns-then-len-widths c =
    let l = c.args.evolving.now in
    let width = ap (λ ws. slice_index_or ws c.args.epoch 0) c.requires.widths ∙ width_at l c.args.epoch c.requires.epoch in
    let count : length c.args.files.now.file.aggregates ≡ length (columns_at l c.args.epoch).values = sym c.len.ensures ∙ c.if-len-widths.true ∙ width in
    let same : (length c.args.files.now.file.aggregates == length (columns_at l c.args.epoch).values) ≡ true = grind (arith, nat_tests) in
    c.counts_views.ensures ∙ ap (λ views. list_all (is_view_ref l) views) c.as_slice.ensures ∙ ap (λ b. b && list_all (is_view_ref l) c.args.files.now.views) (sym same)

pub returns-else-len-widths : goal.returns-else-len-widths
returns-else-len-widths c =
    let l = c.args.evolving.now in
    let width = ap (λ ws. slice_index_or ws c.args.epoch 0) c.requires.widths ∙ width_at l c.args.epoch c.requires.epoch in
    let test : (c.len.result == slice_index_or c.args.widths.now c.args.epoch 0) ≡ false = grind (arith, nat_tests) in
    let same : (length c.args.files.now.file.aggregates == length (columns_at l c.args.epoch).values) ≡ false = (λ i. sym c.len.ensures i == sym width i) ∙ test in
    test ∙ ap (λ b. b && list_all (is_view_ref l) c.args.files.now.views) (sym same)
