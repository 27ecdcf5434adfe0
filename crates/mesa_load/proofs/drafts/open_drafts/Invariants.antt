use Rattle.std.proofs.Common.{◌≡◌, vec_len, vec_capacity}
use Rattle.std.specs.List.{AllByRecursion}
use Rattle.mesa_load.specs.Collected.{IsBegun}
use Rattle.mesa_load.specs.FilesToWrite.{HaveIds}
use Rattle.mesa_file.specs.Serials.{after_drafts, next_ids}
use Rattle.mesa_load.proofs.drafts.open_drafts.Given as goal

abbrev pub invariant-drafts : goal.invariant-drafts
invariant-drafts g l = record {
  count : vec_len l.drafts ≡ l.counter;
  room : vec_capacity l.drafts ≡ l.fn.count;
  begun : AllByRecursion (IsBegun g.B.Draft.Draft.bytes g.B.Draft.Draft.id_of g.B.Draft.Draft.faults) l.drafts.items;
  numbered : HaveIds g.M.Made.id_of (next_ids l.counter l.fn.ids) l.drafts.items;
  ids : l.ids ≡ after_drafts l.counter l.fn.ids;
  quiet : g.B.Bench.faults l.bench ≡ g.B.Bench.faults l.fn.bench;
}
