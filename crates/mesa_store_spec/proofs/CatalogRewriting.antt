-- What rewritten ranges bring to a table of a catalogue.
use Rattle.std.proofs.Common.{◌≡◌, ℕ, ◌<◌, List, length, true, Some, Ok, arith}
use Rattle.std.proofs.lemmas.Bool.{and_from}
use Rattle.std.proofs.lemmas.Bool.Decides.{nat_tests}
use Rattle.std.specs.List.{AllByRecursion}
use Rattle.mesa_delta_format.specs.mesa_key.Spelling.{AreBytes}
use Rattle.mesa_history_spec.specs.mesa_schema.Changes.{columns_of}
use Rattle.mesa_history_spec.specs.mesa_schema.Recasts.{Recast, recast_checked, recast_columns}
use Rattle.mesa_commit.specs.mesa_disk.declared.area.Area.{Area}
use Rattle.mesa_history_spec.specs.Sources.{Written}
use Rattle.mesa_record.specs.declared.record.Record.TheVariants as record_of
use Rattle.mesa_store_spec.specs.Catalog.{Catalog, meta_at}
use Rattle.mesa_store_spec.specs.Contents.{Rows}
use Rattle.mesa_store_spec.specs.Fitting.{is_there, kind_fits, recast_fits}
use Rattle.mesa_store_spec.specs.Journaled.{catalog}
use Rattle.mesa_store_spec.specs.Shape.{IsCatalog, IsShaped}
use Rattle.mesa_store_spec.specs.Brought.{AreTold, BringsRecast}
use Rattle.mesa_store_spec.specs.Countable.{IsCounted}
use Rattle.mesa_store_spec.specs.Rewritten.{CountsRange, Covers, IsRewritten, Rewritten, recasting_of}
use Rattle.mesa_store_spec.specs.Sourced.{HasSources}
use Rattle.mesa_store_spec.proofs.AllSourced.{own}
use Rattle.mesa_store_spec.proofs.Lists.{meta_found}
use Rattle.mesa_store_spec.proofs.RewrittenRanges.{rewritten_brings, rewritten_fits, rewritten_told}
use Rattle.mesa_store_spec.proofs.Wholes.{catalog_whole}

module _ (rows : Rows) (written : ℕ → List Written) (c : Catalog) (table : ℕ) (r : Recast) (made : List Rewritten) (is : IsCatalog c) (has : HasSources rows written c) (lt : table < length c.tables)
    (all : AllByRecursion (IsRewritten rows (meta_at c table).lineage r (written table)) made) (covers : Covers made (meta_at c table)) where
  shaped : IsShaped c.floor c.next (meta_at c table)
  shaped = meta_found (IsShaped c.floor c.next) c.tables table lt is.tables

  pub catalog_brings : BringsRecast rows c.next (meta_at c table) (recasting_of table (meta_at c table) r made)
  catalog_brings = rewritten_brings rows (written table) c.next table (meta_at c table) r made shaped.singles (own rows written c is has table lt) all covers

  pub catalog_told : AreTold rows c (record_of.Recast (recasting_of table (meta_at c table) r made))
  catalog_told = rewritten_told rows (written table) c.next table (meta_at c table) r made shaped.singles (own rows written c is has table lt) all covers

pub catalog_fits : (area : Area) (bodies : List (List ℕ)) (c : Catalog) (table : ℕ) (r : Recast) (made : List Rewritten) → AllByRecursion AreBytes bodies → catalog area bodies ≡ Some c → table < length c.tables
    → recast_checked (meta_at c table).lineage r ≡ Ok tt → AllByRecursion (CountsRange (recast_columns (columns_of (meta_at c table).lineage) r)) made → Covers made (meta_at c table)
    → kind_fits c (record_of.Recast (recasting_of table (meta_at c table) r made)) ≡ true
catalog_fits area bodies c table r made bytes e lt checked counted covers =
    let all = catalog_whole area bodies c bytes e in
    let shaped = meta_found (IsShaped c.floor c.next) c.tables table lt all.shaped.tables in
    let its = meta_found IsCounted c.tables table lt all.counted.tables in
    let there : is_there c table ≡ true = grind (arith, nat_tests) in
    and_from (is_there c table) (recast_fits (meta_at c table) (recasting_of table (meta_at c table) r made)) there (rewritten_fits c.floor c.next table (meta_at c table) r made shaped its checked counted covers)
