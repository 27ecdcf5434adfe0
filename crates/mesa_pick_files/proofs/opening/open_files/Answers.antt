use Rattle.std.proofs.Common.{refl, map, ap, ◌∙◌, subst}
use Rattle.mesa_schema.specs.Changes.{epoch_of}
use Rattle.mesa_validate.specs.mesa_store_spec.Planned.{planned}
use Rattle.mesa_pick_files.specs.Lent.{lent_in, with_rows}
use Rattle.mesa_catalog_table.specs.Meaning.{meta_of}
use Rattle.mesa_pick_files.specs.Files.{want_in}
use Rattle.mesa_pick_files.specs.Read.{HaveFiles, SomeUnsound}
use Rattle.mesa_pick_files.proofs.Reading.{same_read}
use Rattle.mesa_pick_files.proofs.opening.open_files.Goals as goal

pub open_relation-requires-clause-epochs : goal.open_relation-requires-clause-epochs
open_relation-requires-clause-epochs g c κs within = c.planned-deltas.ensures.epochs c.requires.table.0 (epoch_of c.args.table.now.evolving.value) c.requires.table.2 c.requires.table.3

pub returns-in-Ok-clause-files : goal.returns-in-Ok-clause-files
returns-in-Ok-clause-files g c = λ next is.
    let l = c.args.table.now.evolving.value in
    let f = c.args.found in
    let plan = c.planned-deltas.ensures.plan next is ∙ ap (λ v. with_rows (planned (meta_of next c.args.table.now) v)) c.version.ensures in
    record {
      query = refl;
      version = c.version-in-Ok.ensures;
      view = refl;
      files = subst (λ seen. HaveFiles g.D.Reader.FileReader.bytes g.D.Reader.FileReader.faults (g.D.Disk.story c.args.disk.now).told seen c.in-Ok.inputs.items) (same_read l f.relation.view (lent_in c.planned-deltas.result) (planned (meta_of next c.args.table.now) f.query.version) plan) c.in-Ok.ensures.files;
    }

pub returns-in-Err-clause-unsound : goal.returns-in-Err-clause-unsound
returns-in-Err-clause-unsound g c = λ next is d same.
    let l = c.args.table.now.evolving.value in
    let f = c.args.found in
    let plan = c.planned-deltas.ensures.plan next is ∙ ap (λ v. with_rows (planned (meta_of next c.args.table.now) v)) c.version.ensures in
    subst (λ seen. SomeUnsound (g.D.Disk.story c.args.disk.now).told (map want_in seen)) (same_read l f.relation.view (lent_in c.planned-deltas.result) (planned (meta_of next c.args.table.now) f.query.version) plan) (c.in-Err.ensures.unsound d same)
