use Rattle.std.proofs.Common.{ap, ◌∙◌}
use Rattle.mesa_schema.specs.Changes.{epoch_of}
use Rattle.mesa_catalog_table.specs.Meaning.{meta_of}
use Rattle.mesa_open_files.proofs.Counts.{counted_then, unmoved_more}
use Rattle.mesa_pick_files.proofs.Ranging.{all_of_range, first_fresh}
use Rattle.mesa_pick_files.proofs.ranges.gather_recast.Goals as goal

pub returns-in-Ok-gather_more-clause-epoch : goal.returns-in-Ok-gather_more-clause-epoch
returns-in-Ok-gather_more-clause-epoch g c = c.epoch.ensures.count ∙ ap epoch_of c.deref.ensures

pub returns-in-Ok-gather_more-clause-ranges : goal.returns-in-Ok-gather_more-clause-ranges
returns-in-Ok-gather_more-clause-ranges g c = λ next is.
    all_of_range g.D.Reader.FileReader.bytes g.D.Reader.FileReader.faults (g.D.Disk.story c.args.disk.now).told (meta_of next c.args.table.now) c.in-Ok-first_ranges.ranges.items c.gather_more.new.ranges.items (c.in-Ok-first_ranges.ensures next is) (c.gather_more.ensures.more next is)

pub returns-in-Err-clause-unmoved : goal.returns-in-Err-clause-unmoved
returns-in-Err-clause-unmoved g c = unmoved_more _ _ _ c.gather_more.ensures.unmoved c.retire_ranges.ensures.unmoved

pub returns-in-Err-clause-counted : goal.returns-in-Err-clause-counted
returns-in-Err-clause-counted g c =
    let next = c.requires.0 in
    let is = c.requires.1 in
    let fresh = first_fresh g.D.Reader.FileReader.bytes g.D.Reader.FileReader.faults (g.D.Disk.story c.args.disk.now).told (meta_of next c.args.table.now) c.in-Ok-first_ranges.ranges.items c.gather_more.new.ranges.items (c.in-Ok-first_ranges.ensures next is) (c.gather_more.ensures.more next is) in
    counted_then (g.D.Disk.story c.args.disk.now) (g.D.Disk.story c.gather_more.new.disk) (g.D.Disk.story c.retire_ranges.new.disk) _ c.in-Err.ensures.counted c.retire_ranges.ensures.given.calls (c.retire_ranges.ensures.given.quiet fresh)
