use Rattle.std.proofs.Common.{◌≡◌, subst, None}
use Rattle.std.specs.Prelude.{IfOk, IfSome, Option}
use Rattle.mesa_file.specs.declared.damage.Damage.{Damage}
use Rattle.mesa_validate.proofs.mesa_columns.Lists.{all_append}
use Rattle.mesa_validate.specs.mesa_store_spec.Catalog.{start_in}
use Rattle.mesa_catalog_table.specs.Meaning.{meta_of}
use Rattle.mesa_open_files.proofs.Counts.{counted_more, unmoved_more}
use Rattle.mesa_pick_files.specs.Ranges.{HasMore, HoldsAll, HoldsAt, HoldsEach, IsDamagedRange, Ranged, base_ranged, singles_ranged}
use Rattle.mesa_pick_files.proofs.Ranging.{each_kept, more_then, ok_so}
use Rattle.mesa_pick_files.proofs.ranges.gather_more.Goals as goal

pub returns-in-None-clause-unmoved : goal.returns-in-None-clause-unmoved
returns-in-None-clause-unmoved g c = unmoved_more _ _ _ c.gather_base.ensures.unmoved c.gather_singles.ensures.unmoved

pub returns-in-None-clause-counted : goal.returns-in-None-clause-counted
returns-in-None-clause-counted g c = counted_more _ _ _ _ c.in_ok-damage.ensures.counted c.gather_singles.ensures.counted

pub returns-in-None-clause-more : goal.returns-in-None-clause-more
returns-in-None-clause-more g c = λ next is.
    let bytes = g.D.Reader.FileReader.bytes in
    let faults = g.D.Reader.FileReader.faults in
    let told = (g.D.Disk.story c.args.disk.now).told in
    let u = meta_of next c.args.table.now in
    let old = c.args.ranges.now.items in
    let mid = c.gather_base.new.ranges.items in
    let new = c.gather_singles.new.ranges.items in
    more_then bytes faults told u old mid new (c.gather_base.ensures.more next) (subst (λ i. HasMore bytes faults i u mid new) c.gather_base.ensures.unmoved.told (c.gather_singles.ensures.more next is))

pub returns-in-None-clause-holds : goal.returns-in-None-clause-holds
returns-in-None-clause-holds g c = λ next is.
    let u = meta_of next c.args.table.now in
    let mid = c.gather_base.new.ranges.items in
    let new = c.gather_singles.new.ranges.items in
    let more = c.gather_singles.ensures.more next is in
    let singles = singles_ranged (start_in u) u.singles in
    let base = each_kept mid new more.0 (base_ranged u.base) more.1 (c.in_ok-damage.ensures.holds next c.in-None.is) in
    ok_so c.gather_singles.result (λ d. d ≡ None → HoldsEach new singles) (λ d. d ≡ None → HoldsAll new u)
    (λ d held none. all_append (λ (x : Ranged). HoldsAt new x.from x.to x.delta.files) (base_ranged u.base) singles base (held none)) (c.gather_singles.ensures.holds next is)

pub returns-in-None-clause-damaged : goal.returns-in-None-clause-damaged
returns-in-None-clause-damaged g c = λ next is.
    subst (λ i. IfOk c.gather_singles.result (λ (d : Option Damage). IfSome d (IsDamagedRange i (meta_of next c.args.table.now)))) c.gather_base.ensures.unmoved.told (c.gather_singles.ensures.damaged next is)
