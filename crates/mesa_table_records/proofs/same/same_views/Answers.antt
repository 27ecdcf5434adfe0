use Rattle.std.proofs.Common.{◌≡◌, ◌∙◌, sym, length, false, arith}
use Rattle.std.specs.Prelude.{◌==◌}
use Rattle.std.proofs.lemmas.Bool.Decides.{nat_tests}
use Rattle.mesa_catalog_table.specs.mesa_store_spec.SameFiles.{same_view}
use Rattle.mesa_table_records.proofs.Paired.{pairs_all, pairs_other}
use Rattle.mesa_table_records.proofs.same.same_views.Goals as goal

pub returns-then-a-b : goal.returns-then-a-b
returns-then-a-b c = c.each_same.ensures ∙ pairs_all same_view c.args.a.now c.args.b.now c.if-a-b.true

pub returns-else-a-b : goal.returns-else-a-b
returns-else-a-b c =
    let apart : (length c.args.a.now == length c.args.b.now) ≡ false = grind (arith, nat_tests) in
    apart ∙ sym (pairs_other same_view c.args.a.now c.args.b.now apart)
