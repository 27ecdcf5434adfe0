use Rattle.std.proofs.Common.{◌≡◌, ◌+◌, ◌++◌, length, map}
use Rattle.std.specs.VecDeque.{deque_len}
use Rattle.mesa_disk.specs.Files.{files_of}
use Rattle.mesa_file_records.specs.Adopted.{file_in, told_under, views_under}
use Rattle.mesa_file_records.proofs.adopting.Adopting.views.Given as goal

abbrev pub decreases-views : goal.decreases-views
decreases-views g l = deque_len l.left

abbrev pub invariant-views : goal.invariant-views
invariant-views g l = record {
  refs : l.refs.items ++ views_under l.self.next l.left.items ≡ views_under l.fn.self.next l.fn.views.items;
  made : files_of g.M.Made.bytes l.self.made.items ++ told_under g.M.Made.bytes l.self.next (map file_in l.left.items) ≡ files_of g.M.Made.bytes l.fn.self.made.items ++ told_under g.M.Made.bytes l.fn.self.next (map file_in l.fn.views.items);
  next : l.self.next + length l.left.items ≡ l.fn.self.next + length l.fn.views.items;
}
