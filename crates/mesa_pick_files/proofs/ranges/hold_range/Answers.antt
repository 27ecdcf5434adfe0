use Rattle.std.proofs.lemmas.Bool.{OnTrue_at}
use Rattle.std.proofs.Common.{subst}
use Rattle.mesa_pick_files.specs.Ranges.{HasInput}
use Rattle.mesa_pick_files.specs.Ranging.{of_table}
use Rattle.mesa_pick_files.proofs.Ranging.{holds_if_has, none_as}
use Rattle.mesa_pick_files.proofs.ranges.hold_range.Goals as goal

pub returns-then-is_held-clause-more : goal.returns-then-is_held-clause-more
returns-then-is_held-clause-more g c = none_as g.D.Reader.FileReader.bytes g.D.Reader.FileReader.faults (g.D.Disk.story c.args.disk.now).told c.args.table.now.evolving.value (of_table c.args.range.now) c.args.ranges.now.items

pub returns-then-is_held-clause-holds : goal.returns-then-is_held-clause-holds
returns-then-is_held-clause-holds g c = λ none.
    let r = c.args.range.now in
    holds_if_has c.args.ranges.now.items r.from r.to r.delta.now.files
    (subst (λ xs. HasInput xs r.from r.to) c.deref.ensures.value (OnTrue_at c.if-is_held.true c.is_held.ensures))
