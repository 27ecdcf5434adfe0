use Rattle.std.proofs.Common.{◌≡◌, ◌≤◌, ◌++◌, drop, length}
use Rattle.mesa_schema.specs.mesa_fold.Laws.{AreFull}
use Rattle.mesa_batch.specs.Bound.{KeepsBound}
use Rattle.mesa_schema.specs.mesa_fold.Put.{put_rows}
use Rattle.mesa_batch.specs.Put.{AreRising}
use Rattle.mesa_batch.proofs.contents.merge.Given as goal

-- what is merged so far, and then the rows that are left, put together
abbrev pub invariant-rows : goal.invariant-rows
invariant-rows l = record {
  within : l.used ≤ length l.content;
  done : l.merged ++ put_rows l.aggs (drop l.used l.content) (drop l.row-index l.batch) ≡ put_rows l.aggs l.content l.batch;
  rising : AreRising (drop l.used l.content);
  rows_rising : AreRising (drop l.row-index l.batch);
  full : AreFull l.aggs (drop l.used l.content);
  rows_full : AreFull l.aggs (drop l.row-index l.batch);
  bounded : KeepsBound l.aggs (drop l.used l.content) (drop l.row-index l.batch);
}
