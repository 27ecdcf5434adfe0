use Rattle.std.proofs.Common.{◌≡◌, [], ◌∙◌, ap, sym, subst, arith}
use Rattle.std.specs.List.{AllByRecursion, list_all}
use Rattle.std.proofs.lemmas.Result.{err_from_is_err_and}
use Rattle.std.proofs.lemmas.List.{nil_from_length}
use Rattle.mesa_catalog_records.specs.mesa_store_spec.Checkpoint.{meta_stated}
use Rattle.mesa_catalog_records.specs.mesa_store_spec.CheckpointFits.{table_fits}
use Rattle.mesa_catalog_records.specs.mesa_catalog_table.Meaning.{IsTable, meta_of}
use Rattle.mesa_catalog_records.proofs.mesa_table_records.Taken.{first_fails, first_passes, moved_all, moved_on}
use Rattle.mesa_catalog_records.proofs.TableMetas.{all_pushed}
use Rattle.mesa_catalog.proofs.restoring.restore_tables.Goals as goal

pub tables-preserved : goal.tables-preserved
tables-preserved c =
    let next = c.args.next in
    let left = c.tables.left.items in
    let rest = c.pop_front.new.self.items in
    let x = c.in-Some.table in
    let is = c.in-Some.ensures.items in
    let t = c.in_ok-restore.field-0 in
    let more = c.in_ok-push.ensures.items in
    record {
      metas = moved_on (meta_of next) (meta_stated next) c.tables.tables.items c.push.new.self.items t left rest x _ is more c.in_ok-restore.ensures.meta c.tables.invariant.metas;
      fits = first_passes (table_fits c.args.floor next) x left rest _ is c.in_ok-restore.ensures.fits c.tables.invariant.fits;
      tables = subst (AllByRecursion (IsTable next)) (sym more) (all_pushed (IsTable next) c.tables.tables.items t c.tables.invariant.tables c.in_ok-restore.ensures.table);
    }

pub returns-in_err-restore-clause-refused : goal.returns-in_err-restore-clause-refused
returns-in_err-restore-clause-refused c =
    let p = err_from_is_err_and c.from_residual-in_err-restore.result c.from_residual-in_err-restore.ensures.1 in
    rw (p.1, p.2) (λ ne. first_fails (table_fits c.args.floor c.args.next) c.in-Some.table c.tables.left.items c.pop_front.new.self.items _ c.in-Some.ensures.items (c.in_err-restore.ensures.refused ne) c.tables.invariant.fits)

pub returns-clause-fits : goal.returns-clause-fits
returns-clause-fits c =
    let none : c.tables.left.items ≡ [] = nil_from_length c.tables.left.items (omega (arith, c.tables.left.ok.0, c.in_default.ensures.cases.0)) in
    sym c.tables.invariant.fits ∙ ap (list_all (table_fits c.args.floor c.args.next)) none

pub returns-clause-metas : goal.returns-clause-metas
returns-clause-metas c =
    let none : c.tables.left.items ≡ [] = nil_from_length c.tables.left.items (omega (arith, c.tables.left.ok.0, c.in_default.ensures.cases.0)) in
    moved_all (meta_of c.args.next) (meta_stated c.args.next) c.tables.tables.items c.tables.left.items _ none c.tables.invariant.metas
