use Rattle.std.proofs.Common.{◌≡◌, List, map, sym, subst, ◌∙◌}
use Rattle.std.specs.Prelude.{IfSome, slice_get}
use Rattle.mesa_schema.specs.mesa_columns.declared.rows.Row.{Row}
use Rattle.mesa_schema.specs.Changes.{Lineage, columns_of}
use Rattle.mesa_schema.specs.Views.{view_rows}
use Rattle.mesa_view.specs.mesa_answer.Answering.{KeepsSums}
use Rattle.mesa_examine.specs.mesa_scan.Cursors.{lift_by}
use Rattle.mesa_compare.specs.Difference.{first_difference}
use Rattle.mesa_view.proofs.mesa_answer.Results.{if_ok}
use Rattle.mesa_view.proofs.Blocks.{if_some}
use Rattle.mesa_compare.specs.Compared.{present_rows}
use Rattle.mesa_compare.proofs.Openings.{not_damaged, one_told, rows_same}
use Rattle.mesa_compare.proofs.views.view_difference.Goals as goal

-- ---- both files are opened

pub returns-in-Input-open_one-clause-difference : goal.returns-in-Input-open_one-clause-difference
returns-in-Input-open_one-clause-difference g c = if_ok c.inputs_difference.result _ _ (λ o first i all mine is has own keeps.
    let bytes = g.D.Reader.FileReader.bytes in
    let faults = g.D.Reader.FileReader.faults in
    let told = (g.D.Disk.story c.args.disk.now).told in
    let then = (g.D.Disk.story c.open_one.new.disk).told in
    let input = c.in-Input.input in
    let beside = c.in-Input-open_one.beside in
    let met = c.in-Input.ensures.met in
    let also = c.in-Input-open_one.ensures.met in
    let read = one_told bytes faults told i is c.args.table.now input all met has in
    let there = one_told bytes faults then i (c.in-Input.ensures.unmoved.told ∙ is) c.args.own.now beside mine also own in
    let rows : map (lift_by input) all ≡ present_rows c.args.table.now all = rows_same bytes faults told c.args.table.now input all met in
    let its : map (lift_by beside) mine ≡ present_rows c.args.own.now mine = rows_same bytes faults then c.args.own.now beside mine also in
    let bound : KeepsSums (columns_of input.evolving.value) (map (lift_by input) all) =
    subst (λ (l : Lineage). KeepsSums (columns_of l) (map (lift_by input) all)) (sym met.lineage) (subst (λ (rs : List Row). KeepsSums (columns_of c.args.table.now.evolving.now.value) rs) (sym rows) keeps) in
    let shown = subst (λ (l : Lineage). IfSome (slice_get l.views c.args.view) (λ v. o ≡ first_difference (view_rows (columns_of input.evolving.value) v (map (lift_by input) all)) (map (lift_by beside) mine))) met.lineage
    (first read.0 there.0 all mine read.1 read.2 there.1 there.2 bound) in
    if_some (slice_get c.args.table.now.evolving.now.value.views c.args.view) _ _ (λ v same. same ∙ (λ k. first_difference (view_rows (columns_of (met.lineage k)) v (rows k)) (its k))) shown) c.inputs_difference.ensures.difference

-- ---- one isn't the recorded one

pub returns-in-Damaged-clause-difference : goal.returns-in-Damaged-clause-difference
returns-in-Damaged-clause-difference g c = λ i all mine is has own keeps.
    absurd (not_damaged g.D.Reader.FileReader.bytes g.D.Reader.FileReader.faults (g.D.Disk.story c.args.disk.now).told i is c.args.table.now all c.in-Damaged.field-0 c.in-Damaged.ensures.met has)

pub returns-in-Damaged-open_one-clause-difference : goal.returns-in-Damaged-open_one-clause-difference
returns-in-Damaged-open_one-clause-difference g c = λ i all mine is has own keeps.
    absurd (not_damaged g.D.Reader.FileReader.bytes g.D.Reader.FileReader.faults (g.D.Disk.story c.open_one.new.disk).told i (c.in-Input.ensures.unmoved.told ∙ is) c.args.own.now mine c.in-Damaged-open_one.field-0 c.in-Damaged-open_one.ensures.met own)
