use Rattle.std.proofs.Common.{◌++◌, ◌∷◌, [], ◌∙◌, ap, sym, subst, map}
use Rattle.std.specs.Prelude.{◌&&◌}
use Rattle.std.specs.List.{AllByRecursion}
use Rattle.std.proofs.lemmas.List.{map_push, take_all, take_more}
use Rattle.mesa_table_records.specs.mesa_record.declared.record.Part.{Part}
use Rattle.mesa_table_records.specs.mesa_store_spec.Catalog.{meta_at}
use Rattle.mesa_table_records.specs.mesa_store_spec.Fitting.{is_there, part_fits}
use Rattle.mesa_catalog_records.specs.Meaning.{catalogue_of}
use Rattle.mesa_catalog_records.specs.Readied.{IsMadePart}
use Rattle.mesa_table_records.specs.Readied.{part_in}
use Rattle.mesa_catalog_records.proofs.TableMetas.{all_pushed}
use Rattle.mesa_table_records.proofs.mesa_catalog_table.Tests.{passes_at}
use Rattle.mesa_catalog_records.proofs.catalog_tables.CatalogTables.make_parts.Goals as goal

pub make_part-requires-clause-fits : goal.make_part-requires-clause-fits
make_part-requires-clause-fits c =
    let k = catalogue_of c.args.self.now in
    let fits = λ (p : Part). is_there k p.table && part_fits (meta_at k p.table) p in
    ap fits c.part-item.is ∙ passes_at fits c.args.parts.now c.loop-part.part-index c.part-item.result c.requires.fits c.loop-part-test.true

pub loop-part-preserved : goal.loop-part-preserved
loop-part-preserved c =
    let k = catalogue_of c.args.self.now in
    let part = c.in_ok-make_part.ensures.part ∙ c.part-item.is in
    record {
      parts = ap (λ items. map part_in items) c.in_ok-push.ensures.items ∙ map_push part_in c.loop-part.made.items _
          ∙ (λ i. c.loop-part.invariant.parts i ++ part i ∷ []) ∙ sym (take_more c.args.parts.now c.loop-part.part-index c.part-item.result c.loop-part-test.true);
      made = subst (AllByRecursion (IsMadePart k)) (sym c.in_ok-push.ensures.items) (all_pushed (IsMadePart k) c.loop-part.made.items _ c.loop-part.invariant.made c.in_ok-make_part.ensures.made);
    }

pub returns-clause-parts : goal.returns-clause-parts
returns-clause-parts c = c.loop-part.invariant.parts ∙ take_all c.loop-part.part-index c.args.parts.now c.loop-part-test.false

pub returns-clause-made : goal.returns-clause-made
returns-clause-made c = c.loop-part.invariant.made
