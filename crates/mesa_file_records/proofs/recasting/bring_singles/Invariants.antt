use Rattle.std.proofs.Common.{drop, take}
use Rattle.mesa_disk.specs.Files.{files_of}
use Rattle.mesa_file_records.proofs.Bringing.{AreBrought, IsAhead}
use Rattle.mesa_file_records.proofs.recasting.bring_singles.Given as goal

-- what was brought of the versions so far, and what is there of the others
abbrev pub invariant-loop-single : goal.invariant-loop-single
invariant-loop-single g l = record {
  brought : AreBrought g.M.Made.bytes l.fn.left.items l.fn.adopting.next l.epoch (files_of g.M.Made.bytes l.fn.adopting.made.items) (take l.single-index l.loaded) l.left.items l.singles.items l.adopting.next (files_of g.M.Made.bytes l.adopting.made.items);
  ahead : IsAhead l.left.items (drop l.single-index l.loaded);
}
