use Rattle.std.proofs.Common.{◌∙◌, ap, sym, subst}
use Rattle.std.specs.Prelude.{IfSome, Option}
use Rattle.mesa_file.specs.declared.damage.Damage.{Damage}
use Rattle.mesa_catalog_table.specs.Meaning.{delta_or_empty, meta_of}
use Rattle.mesa_validate.specs.mesa_store_spec.Catalog.{Delta}
use Rattle.mesa_pick_files.specs.Ranges.{IsDamagedAs, IsDamagedRange, IsOneOf, Ranged, ranged}
use Rattle.mesa_pick_files.proofs.Ranging.{more_none, more_of, ok_so, one_base, some_so}
use Rattle.mesa_pick_files.proofs.ranges.gather_base.Goals as goal

pub returns-in_default-clause-more : goal.returns-in_default-clause-more
returns-in_default-clause-more g c = λ next. more_none g.D.Reader.FileReader.bytes g.D.Reader.FileReader.faults (g.D.Disk.story c.args.disk.now).told (meta_of next c.args.table.now) c.args.ranges.now.items

pub returns-clause-more : goal.returns-clause-more
returns-clause-more g c = λ next.
    let b = c.in-Some.base in
    let u = meta_of next c.args.table.now in
    let r : Ranged = record { from = 0; to = b.to; delta = c.deref.result.now } in
    let delta = ap delta_or_empty c.in-Some-delta.is ∙ sym c.deref.ensures in
    let one = subst (λ (d : Delta). IsOneOf (record { from = 0; to = b.to; delta = d }) (ranged u)) delta (one_base next c.args.table.now b c.in-Some.is) in
    more_of g.D.Reader.FileReader.bytes g.D.Reader.FileReader.faults (g.D.Disk.story c.args.disk.now).told u r c.args.ranges.now.items c.hold_range.new.ranges.items one c.hold_range.ensures.more

pub returns-clause-damaged : goal.returns-clause-damaged
returns-clause-damaged g c = λ next.
    let b = c.in-Some.base in
    let told = (g.D.Disk.story c.args.disk.now).told in
    let u = meta_of next c.args.table.now in
    let r : Ranged = record { from = 0; to = b.to; delta = c.deref.result.now } in
    let delta = ap delta_or_empty c.in-Some-delta.is ∙ sym c.deref.ensures in
    let one = subst (λ (d : Delta). IsOneOf (record { from = 0; to = b.to; delta = d }) (ranged u)) delta (one_base next c.args.table.now b c.in-Some.is) in
    ok_so c.hold_range.result (λ (o : Option Damage). IfSome o (IsDamagedAs told u.lineage r.delta)) (λ (o : Option Damage). IfSome o (IsDamagedRange told u))
    (λ o met. some_so o (IsDamagedAs told u.lineage r.delta) (IsDamagedRange told u) (λ d its. record { range = r; one = one; damaged = its }) met) c.hold_range.ensures.damaged
