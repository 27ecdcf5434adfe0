use Rattle.std.proofs.Common.{◌≡◌, ◌≢◌, [], drop}
use Rattle.mesa_batch.specs.Batch.{batch_of}
use Rattle.mesa_batch.specs.Gathered.{IsReadBy}
use Rattle.mesa_batch.specs.Glance.{columns_in, tables_of}
use Rattle.mesa_test_oracle.proofs.Gathers.{given}
use Rattle.mesa_test_oracle.proofs.gathering.gather.Given as goal

-- the rows so far and then the others are the load's
abbrev pub invariant-rows : goal.invariant-rows
invariant-rows l = record {
  all : batch_of (tables_of l.glance) l.rows ≡ given (tables_of l.glance) l.builder.rows (drop l.place l.rows);
  one_glance : IsReadBy l.glance l.builder;
  columns : l.builder.rows ≢ [] → l.builder.columns ≡ columns_in l.glance;
}
