use Rattle.std.proofs.Common.{◌≡◌, ◌+◌, ◌++◌, length}
use Rattle.std.specs.VecDeque.{deque_len}
use Rattle.mesa_disk.specs.Files.{files_of}
use Rattle.mesa_file_records.specs.Adopted.{ArePartsOf, files_of_parts, parts_under, told_under}
use Rattle.mesa_file_records.proofs.adopting.Adopting.parts.Given as goal

abbrev pub decreases-parts : goal.decreases-parts
decreases-parts g l = deque_len l.left

abbrev pub invariant-parts : goal.invariant-parts
invariant-parts g l = record {
  there : ArePartsOf l.catalog.catalogue l.left.items;
  parts : l.all.items ++ parts_under l.catalog.catalogue l.self.next l.left.items ≡ parts_under l.catalog.catalogue l.fn.self.next l.fn.parts.items;
  made : files_of g.M.Made.bytes l.self.made.items ++ told_under g.M.Made.bytes l.self.next (files_of_parts l.left.items) ≡ files_of g.M.Made.bytes l.fn.self.made.items ++ told_under g.M.Made.bytes l.fn.self.next (files_of_parts l.fn.parts.items);
  next : l.self.next + length (files_of_parts l.left.items) ≡ l.fn.self.next + length (files_of_parts l.fn.parts.items);
}
