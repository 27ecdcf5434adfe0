use Rattle.std.proofs.Common.{◌≢◌, ◌+◌, ◌<◌, ◌++◌, ◌∙◌, ap, sym, subst, arith, length, map, get_or}
use Rattle.std.specs.List.{AllByRecursion}
use Rattle.std.proofs.lemmas.List.{append-nil, drop_all, get_or_default, take_all}
use Rattle.mesa_table_records.specs.mesa_record.declared.record.Part.{Part}
use Rattle.mesa_table_records.specs.mesa_store_spec.Catalog.{meta_loaded, metas_loaded}
use Rattle.mesa_table_records.specs.mesa_catalog_table.Meaning.{IsTable, meta_of}
use Rattle.mesa_table_records.specs.Readied.{part_in}
use Rattle.std.specs.Prelude.{◌==◌, option_map}
use Rattle.mesa_catalog_records.proofs.Loads.{find_mapped, loads_step, part_here}
use Rattle.mesa_catalog_records.proofs.applying.loading.load.Goals as goal

pub load_part-requires-clause-part : goal.load_part-requires-clause-part
load_part-requires-clause-part c =
    let n = c.loop-number.number in
    let within : n < length c.loop-number.tables = omega arith in
    part_here c.args.tables.now c.loop-number.tables c.args.parts.items n _ c.take_part-part.result c.requires.parts (c.take_part-part.ensures.taken ∙ c.loop-number.invariant.left n (omega arith)) within c.loop-number.auto.tables c.loop-number.invariant.loading.rest

pub loop-number-preserved : goal.loop-number-preserved
loop-number-preserved c =
    let n = c.loop-number.number in
    let now = c.loop-number.tables in
    let version = c.args.version in
    let parts = map part_in c.args.parts.items in
    let within : n < length now = omega arith in
    let t = get_or now n c.index-tables-number.result in
    let part = c.take_part-part.ensures.taken ∙ c.loop-number.invariant.left n (omega arith) in
    let is = c.load_part.ensures.loaded ∙ ap (λ o. meta_loaded (meta_of version t) (option_map part_in o)) part ∙ ap (meta_loaded (meta_of version t)) (sym (find_mapped (λ (p : Part). p.table == n) part_in c.args.parts.items)) in
    record {
      loading = loads_step version parts c.args.tables.now now n t c.load_part.new.table within (get_or_default now n t c.index-tables-number.result within) is c.load_part.ensures.table c.loop-number.invariant.loading;
      left = λ m h. let ne : m ≢ n = omega arith in c.take_part-part.ensures.others m ne ∙ c.loop-number.invariant.left m (omega arith);
    }

pub returns-clause-loaded : goal.returns-clause-loaded
returns-clause-loaded c =
    let n = c.loop-number.number in
    let version = c.args.version in
    let parts = map part_in c.args.parts.items in
    let f = meta_of (version + 1) in
    let all = take_all n c.loop-number.tables (omega arith) in
    let none = drop_all n c.args.tables.now c.loop-number-test.false in
    sym (append-nil (map f c.loop-number.tables))
    ∙ (λ i. map f (sym all i) ++ metas_loaded parts n (map (meta_of version) (sym none i)))
    ∙ c.loop-number.invariant.loading.done

pub returns-clause-tables : goal.returns-clause-tables
returns-clause-tables c =
    let all = take_all c.loop-number.number c.loop-number.tables (omega arith) in
    subst (AllByRecursion (IsTable (c.args.version + 1))) all c.loop-number.invariant.loading.are
