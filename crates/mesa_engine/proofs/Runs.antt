-- The number of the last run has its place in the ids of files, after each record that fits.
use Rattle.std.proofs.Common.{◌≡◌, ◌+◌, ◌^◌, ◌<◌, true, arith}
use Rattle.std.specs.Prelude.{◌==◌, nat_le}
use Rattle.mesa_record.specs.declared.record.Record.{Record}
use Rattle.mesa_record.specs.declared.record.Record.TheVariants as record_of
use Rattle.mesa_catalog.specs.mesa_store_spec.Catalog.{Catalog, applied}
use Rattle.mesa_catalog.specs.mesa_store_spec.Fitting.{fits, kind_fits, max_runs, brings_new_files}
use Rattle.mesa_catalog.proofs.mesa_store_spec.Lists.{both_true, is_at_most}

kind_of : (c : Catalog) (r : Record) → fits c r ≡ true → kind_fits c r ≡ true
unfolding fits
kind_of c r e = (both_true (kind_fits c r) (brings_new_files c r) e).0

pub run_stays : (c : Catalog) (r : Record) → fits c r ≡ true → c.run < 2 ^ 24 → (applied c r).run < 2 ^ 24
run_stays c (record_of.Run number) e low = let le = is_at_most number max_runs (both_true (number == c.run + 1) (nat_le number max_runs) (kind_of c (record_of.Run number) e)).1 in omega (arith, le)
run_stays c (record_of.Table name keys values) e low = low
run_stays c (record_of.View table name keys values) e low = low
run_stays c (record_of.Alter table change) e low = low
run_stays c (record_of.Publish version parts) e low = low
run_stays c (record_of.Swap table base from to epoch files) e low = low
run_stays c (record_of.Expire version) e low = low
run_stays c (record_of.ExpireTable table version) e low = low
run_stays c (record_of.Recast k) e low = low
run_stays c (record_of.Checkpoint k) e low = low
