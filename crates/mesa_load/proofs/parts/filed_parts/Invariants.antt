use Rattle.std.proofs.Common.{◌≡◌, ◌++◌, Bool, List, flat_map}
use Rattle.std.specs.VecDeque.{deque_len}
use Rattle.mesa_open_files.specs.Batches.{Share, batch_ids, made_ids}
use Rattle.mesa_load.specs.Plans.{ArePlanned, HaveFiles, contents_of}
use Rattle.mesa_load.proofs.Filed.{AreFiled}
use Rattle.mesa_load.proofs.parts.filed_parts.Given as goal

abbrev pub decreases-parts : goal.decreases-parts
decreases-parts g l = deque_len l.left

abbrev pub invariant-parts : goal.invariant-parts
invariant-parts g l = record {
  filed : (over : Bool) (shares : List Share) → ArePlanned shares l.fn.planned.items → HaveFiles g.M.Made.bytes g.M.Made.id_of over (flat_map contents_of shares) l.fn.files.items
      → AreFiled g.M.Made.bytes g.M.Made.id_of over shares l.parts.items l.left.items l.files.items;
  ids : batch_ids g.M.Made.id_of l.parts.items ++ made_ids g.M.Made.id_of l.files.items ≡ made_ids g.M.Made.id_of l.fn.files.items;
}
