use Rattle.std.proofs.Common.{◌++◌, ◌∷◌, [], ◌∙◌, ap, sym, subst, refl, Some}
use Rattle.std.specs.Prelude.{Option}
use Rattle.mesa_schema.specs.Changes.{columns_at}
use Rattle.mesa_record.specs.declared.record.Files.{Files}
use Rattle.mesa_validate.specs.mesa_store_spec.Catalog.{Delta}
use Rattle.mesa_pick_files.specs.Ranges.{HasInput, HoldsAt, range_wanted}
use Rattle.mesa_pick_files.specs.Ranging.{of_table}
use Rattle.mesa_open_files.specs.Opening.{IsDamageOf}
use Rattle.mesa_pick_files.proofs.Joined.{differs}
use Rattle.mesa_pick_files.proofs.Ranging.{has_pushed, holds_if_has, none_as, one_as, opened_as}
use Rattle.mesa_pick_files.proofs.ranges.open_range.Goals as goal

-- a delta without rows has no file
pub returns-in_default-clause-more : goal.returns-in_default-clause-more
returns-in_default-clause-more g c = none_as g.D.Reader.FileReader.bytes g.D.Reader.FileReader.faults (g.D.Disk.story c.args.disk.now).told c.args.table.now.evolving.value (of_table c.args.range.now) c.args.ranges.now.items

pub returns-in_default-clause-holds : goal.returns-in_default-clause-holds
returns-in_default-clause-holds g c = λ none.
    let empty = sym (ap (λ (d : Delta). d.files) c.delta.view_is) ∙ c.in_default.is in
    subst (λ (o : Option Files). HoldsAt c.args.ranges.now.items c.args.range.now.from c.args.range.now.to o) (sym empty) tt

-- its file is open
pub returns-in-Input-clause-more : goal.returns-in-Input-clause-more
returns-in-Input-clause-more g c =
    let bytes = g.D.Reader.FileReader.bytes in
    let faults = g.D.Reader.FileReader.faults in
    let told = (g.D.Disk.story c.args.disk.now).told in
    let l = c.args.table.now.evolving.value in
    let r = of_table c.args.range.now in
    let pushed = c.push_reserved.ensures.items ∙ ap (λ xs. xs ++ record { from = r.from; to = r.to; input = Some c.in-Input.input } ∷ []) c.reserve.ensures.items in
    one_as bytes faults told l r c.args.ranges.now.items c.push_reserved.new.self.items (record { from = r.from; to = r.to; input = Some c.in-Input.input }) pushed
    (opened_as bytes faults told l r c.in-Some.files _ c.in-Input.input c.in-Input.ensures.met (ap (λ (d : Delta). range_wanted l d c.in-Some.files) c.delta.view_is) (sym (ap (λ (d : Delta). d.files) c.delta.view_is) ∙ c.in-Some.is))

pub returns-in-Input-clause-holds : goal.returns-in-Input-clause-holds
returns-in-Input-clause-holds g c = λ none.
    let r = c.args.range.now in
    holds_if_has c.push_reserved.new.self.items r.from r.to r.delta.now.files
    (subst (λ xs. HasInput xs r.from r.to) (sym c.push_reserved.ensures.items) (has_pushed c.reserve.new.self.items (record { from = r.from; to = r.to; input = Some c.in-Input.input }) c.in-Input.input refl))

-- it isn't the recorded one
pub returns-in-Damaged-clause-differs : goal.returns-in-Damaged-clause-differs
returns-in-Damaged-clause-differs g c = differs (g.D.Disk.story c.args.disk.now).told (columns_at c.args.table.now.evolving.value c.delta.inside.epoch) c.in-Some.files.file c.in-Damaged.damage c.in-Damaged.ensures.met

pub returns-in-Damaged-clause-damaged : goal.returns-in-Damaged-clause-damaged
returns-in-Damaged-clause-damaged g c = record {
  files = c.in-Some.files;
  there = sym (ap (λ (d : Delta). d.files) c.delta.view_is) ∙ c.in-Some.is;
  damaged = subst (λ (d : Delta). IsDamageOf (g.D.Disk.story c.args.disk.now).told (columns_at c.args.table.now.evolving.value d.epoch) c.in-Some.files.file c.in-Damaged.damage) c.delta.view_is c.in-Damaged.ensures.met;
}
