use Rattle.std.proofs.Common.{◌-◌, length}
use Rattle.mesa_delta.specs.Reading.{index_of}
use Rattle.mesa_scan.specs.Scanning.{next_of}
use Rattle.mesa_scan.proofs.Onwards.{AreScanned}
use Rattle.mesa_scan.proofs.whole.scan_onto.Given as goal

abbrev pub invariant-loop-alloc : goal.invariant-loop-alloc
invariant-loop-alloc g l =
    let file = g.R.FileReader in
    AreScanned file.bytes file.size file.faults file.reads l.fn.input l.input l.filter l.scan l.fn.rows.items l.rows.items

abbrev pub decreases-loop-alloc : goal.decreases-loop-alloc
decreases-loop-alloc g l = length (index_of l.input.reader).entries - next_of l.scan
