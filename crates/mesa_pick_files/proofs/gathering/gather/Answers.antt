use Rattle.std.proofs.Common.{◌∙◌, ◌-◌, ap, sym, subst, map}
use Rattle.std.specs.List.{AllByRecursion}
use Rattle.mesa_schema.specs.Changes.{epoch_of}
use Rattle.mesa_validate.specs.mesa_store_spec.Moves.{is_base, last_of}
use Rattle.mesa_catalog_table.specs.Meaning.{meta_of}
use Rattle.mesa_open_files.specs.Opening.{HasEpoch}
use Rattle.mesa_pick_files.specs.Files.{want_of}
use Rattle.mesa_pick_files.specs.Folding.{folded_deltas}
use Rattle.mesa_pick_files.specs.Lent.{lent_in}
use Rattle.mesa_pick_files.proofs.Joined.{opened_differs, same_wanted, table_inputs}
use Rattle.mesa_pick_files.proofs.Parting.{parts_spare}
use Rattle.mesa_pick_files.proofs.gathering.gather.Goals as goal

pub open_parts-requires-after_bounds : goal.open_parts-requires-after_bounds
open_parts-requires-after_bounds g c κs within =
    let l = c.args.table.now.evolving.value in
    let epochs = c.range_deltas-deltas.ensures.epochs c.requires.0 (epoch_of l) c.requires.2 c.requires.3 in
    subst (AllByRecursion HasEpoch) (sym c.deref.ensures.value) (c.in-Ok.ensures.epochs epochs)

pub returns-in-Ok-open_parts-clause-task : goal.returns-in-Ok-open_parts-clause-task
returns-in-Ok-open_parts-clause-task g c =
    let l = c.args.table.now.evolving.value in
    let bytes = g.D.Reader.FileReader.bytes in
    let told = (g.D.Disk.story c.args.disk.now).told in
    let readers = c.in-Ok-open_parts.field-0.first.readers in
    let wanted = ap (map want_of) c.deref.ensures.value ∙ c.in-Ok.ensures.files in
    let opened = c.in-Ok-open_parts.ensures.opened.first in
    λ number lease. record {
      epoch = c.epoch.ensures.count ∙ ap epoch_of c.deref-in-Ok-open_parts.ensures;
      inputs = table_inputs bytes g.D.Reader.FileReader.faults told l (lent_in c.range_deltas-deltas.result) c.deref.result.now readers.inputs.items c.in-Ok-open_parts.field-0.first.damage wanted opened;
    }

pub returns-in-Ok-open_parts-clause-files : goal.returns-in-Ok-open_parts-clause-files
returns-in-Ok-open_parts-clause-files g c = λ next is number lease.
    let l = c.args.table.now.evolving.value in
    let folds = folded_deltas (meta_of next c.args.table.now) (is_base c.args.work) (last_of c.args.work) in
    record {
      wanted = c.deref.result.now;
      are = ap (map want_of) c.deref.ensures.value ∙ c.in-Ok.ensures.files ∙ same_wanted l (lent_in c.range_deltas-deltas.result) folds (c.range_deltas-deltas.ensures.range next is);
      opened = c.in-Ok-open_parts.ensures.opened.first;
    }

pub returns-in-Ok-open_parts-clause-damage : goal.returns-in-Ok-open_parts-clause-damage
returns-in-Ok-open_parts-clause-damage g c =
    opened_differs g.D.Reader.FileReader.bytes g.D.Reader.FileReader.faults (g.D.Disk.story c.args.disk.now).told c.deref.result.now c.in-Ok-open_parts.field-0.first.readers.inputs.items c.in-Ok-open_parts.field-0.first.damage c.in-Ok-open_parts.ensures.opened.first

pub returns-in-Ok-open_parts-clause-spare : goal.returns-in-Ok-open_parts-clause-spare
returns-in-Ok-open_parts-clause-spare g c =
    let opened = c.in-Ok-open_parts.ensures.opened in
    λ number lease. parts_spare g.D.Reader.FileReader.bytes g.D.Reader.FileReader.faults (g.D.Disk.story c.args.disk.now).told c.deref.result.now (c.args.parts - 1) _ opened.first opened.spare opened.count opened.none
