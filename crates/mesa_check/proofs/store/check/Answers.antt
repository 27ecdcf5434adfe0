use Rattle.mesa_check.specs.Verdict.{fault_told}
use Rattle.mesa_check.proofs.Founded.{is_first}
use Rattle.mesa_check.proofs.Lists.{if_both}
use Rattle.mesa_check.proofs.store.check.Goals as goal

pub check_tables-requires-after_bounds : goal.check_tables-requires-after_bounds
check_tables-requires-after_bounds g c = λ _ _. c.catalogs_are_shaped.ensures c.args.opened.now.area c.requires.bodies c.args.opened.now.catalog.catalogue c.requires.reads.bytes c.requires.reads.records

pub returns-clause-verdict : goal.returns-clause-verdict
returns-clause-verdict g c =
    let cat = c.args.opened.now.catalog.catalogue in
    let laws = c.sound_where_no_fault.ensures in
    if_both c.check_tables.result _ _ _ (λ v first there.
    is_first laws.sound laws.none laws.found (g.D.Disk.story c.args.opened.now.disk) cat (fault_told v) (c.catalogs_are_shaped.ensures c.args.opened.now.area c.requires.bodies cat c.requires.reads.bytes c.requires.reads.records)
    (c.catalogs_own_ids.ensures.whole c.args.opened.now.area c.requires.bodies cat c.requires.reads.bytes c.requires.reads.records) first there) c.check_tables.ensures.first c.check_tables.ensures.there
