use Rattle.std.proofs.Common.{◌≡◌, ◌∷◌, ◌++◌, map, take}
use Rattle.std.specs.List.{AllByRecursion}
use Rattle.mesa_schema.specs.Changes.{columns_of}
use Rattle.mesa_batch.specs.Gathered.{rows_at}
use Rattle.mesa_open_files.specs.Made.{content_of}
use Rattle.mesa_load.specs.Filing.{AreFileRows}
use Rattle.mesa_load.specs.FilesToWrite.{IsFit, content_in}
use Rattle.mesa_load.proofs.planning.add_jobs.Given as goal

abbrev pub invariant-views : goal.invariant-views
invariant-views l = record {
  contents : map content_in l.jobs.items ≡ map content_in l.fn.jobs.items ++ record { columns = columns_of l.evolving; rows = rows_at l.table l.batch } ∷ map (content_of (columns_of l.evolving) (rows_at l.table l.batch)) (take l.view l.evolving.views);
  fit : AreFileRows (columns_of l.evolving) (rows_at l.table l.batch) → AllByRecursion IsFit l.fn.jobs.items → AllByRecursion IsFit l.jobs.items;
}
