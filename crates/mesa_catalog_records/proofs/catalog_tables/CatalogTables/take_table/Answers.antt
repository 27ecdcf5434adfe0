use Rattle.std.proofs.Common.{◌∙◌, ap, sym, subst, arith, length}
use Rattle.std.specs.List.{AllByRecursion}
use Rattle.std.proofs.lemmas.List.{length_push}
use Rattle.mesa_table_records.specs.mesa_catalog_table.Meaning.{IsTable}
use Rattle.mesa_catalog_records.specs.Meaning.{catalogue_of}
use Rattle.mesa_catalog_records.specs.Readied.{record_in}
use Rattle.mesa_catalog_records.specs.declared.ready.Ready.TheVariants as ready_of
use Rattle.mesa_catalog_records.proofs.Applies.{kind_of_fits, room_left}
use Rattle.mesa_catalog_records.proofs.TableMetas.{all_pushed}
use Rattle.mesa_catalog_records.proofs.catalog_tables.CatalogTables.take_table.Goals as goal

pub returns-clause-live_files : goal.returns-clause-live_files
returns-clause-live_files c =
    let s = c.args.self.now in
    let t = c.args.made in
    let first = t.evolving.value.first in
    let below = room_left s t.name (record { keys = first.keys; values = first.values }) (kind_of_fits (catalogue_of s) (record_in (ready_of.Table t)) c.requires.ready.fits) in
    let more = ap length c.push_reserved.ensures.items ∙ length_push s.tables.items c.args.made in
    record {
      few = omega arith;
      most = c.requires.live_files.most;
      floor = c.requires.live_files.floor;
      tables = subst (AllByRecursion (IsTable s.next)) (sym c.push_reserved.ensures.items) (all_pushed (IsTable s.next) s.tables.items c.args.made c.requires.live_files.tables c.requires.ready.made.1);
    }
