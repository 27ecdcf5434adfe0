use Rattle.std.proofs.Common.{◌≡◌, ◌∙◌, ap, sym, false, arith}
use Rattle.std.specs.Prelude.{◌==◌, nat_lt}
use Rattle.std.proofs.lemmas.Bool.Decides.{nat_tests}
use Rattle.std.proofs.lemmas.Option.{slice_get_past}
use Rattle.mesa_schema.specs.Changes.{columns_of}
use Rattle.mesa_store_spec.specs.Fitting.{counts_view}
use Rattle.mesa_catalog_table.proofs.Counts.{view_width}
use Rattle.mesa_catalog_table.proofs.counting.is_view_ref.Goals as goal

pub returns-then-seen-views : goal.returns-then-seen-views
returns-then-seen-views c =
    let l = c.args.evolving.now in
    let width = view_width (columns_of l) l.views c.args.seen.now.view c.view.result.now c.requires.views c.view.ensures in
    (λ i. c.len.ensures i == (c.len-then-seen-views.ensures ∙ sym width) i)
    ∙ ap (λ o. counts_view (columns_of l) o c.args.seen.now.file) (sym c.view.ensures)

pub returns-else-seen-views : goal.returns-else-seen-views
returns-else-seen-views c =
    let l = c.args.evolving.now in
    let test : nat_lt c.args.seen.now.view c.views.result ≡ false = grind (arith, nat_tests) in
    test ∙ ap (λ o. counts_view (columns_of l) o c.args.seen.now.file) (sym (slice_get_past l.views c.args.seen.now.view (omega arith)))
