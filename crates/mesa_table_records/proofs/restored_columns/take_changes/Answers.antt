use Rattle.std.proofs.Common.{◌∙◌, ap, length}
use Rattle.mesa_schema.specs.Changes.{Lineage}
use Rattle.mesa_catalog_table.specs.mesa_columns.Columns.{Columns, aggs_of}
use Rattle.mesa_batch.specs.Totals.{sums_in}
use Rattle.mesa_table_records.proofs.Taken.{change_passes, changes_on, counts_on, few_on, lineage_on}
use Rattle.mesa_table_records.proofs.restored_columns.take_changes.Goals as goal

pub changes-preserved : goal.changes-preserved
changes-preserved c =
    let l = c.changes.evolving in
    let m = c.take_change.new.evolving in
    let left = c.changes.left.items in
    let rest = c.pop_front.new.self.items in
    let known = c.changes.invariant in
    let one = c.in_ok-take_change.ensures in
    let first = c.in-Some.ensures.items in
    record {
      lineage = lineage_on c.args.first l m c.in-Some.change known.lineage one.changed;
      changes = changes_on l m c.in-Some.change left rest c.args.changes one.changed first known.changes;
      pass = change_passes l m c.in-Some.change left rest _ (ap (λ (x : Lineage). x.views) (known.lineage) ∙ ap (λ (x : Lineage). x.views) c.requires.first) first one.pass one.changed known.pass;
      few = few_on l m c.in-Some.change left rest one.changed first known.few;
      widths = counts_on (λ (s : Columns). length s.values) l m c.in-Some.change _ _ one.changed known.widths c.in_ok-push_counts.ensures.widths;
      sums = counts_on (λ (s : Columns). sums_in (aggs_of s)) l m c.in-Some.change _ _ one.changed known.sums c.in_ok-push_counts.ensures.sums;
    }
