use Rattle.std.proofs.Common.{◌≡◌, ◌<◌, drop, length}
use Rattle.mesa_batch.specs.Batch.{batch_of}
use Rattle.mesa_batch.specs.Gathered.{IsReadBy}
use Rattle.mesa_batch.specs.Glance.{columns_in, tables_of}
use Rattle.mesa_load.proofs.Reading.{given}
use Rattle.mesa_load.proofs.preparing.read_batch.Given as goal

abbrev pub invariant-rows : goal.invariant-rows
invariant-rows l = record {
  one_glance : IsReadBy l.glance l.builder;
  read : batch_of (tables_of l.glance) l.rows ≡ given (tables_of l.glance) l.builder.rows (drop l.i l.rows);
  columns : 0 < length l.builder.rows → l.builder.columns ≡ columns_in l.glance;
}
