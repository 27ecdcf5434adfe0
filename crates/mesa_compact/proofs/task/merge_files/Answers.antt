use Rattle.std.proofs.Common.{List, inl, length, map, refl, sym, ◌∙◌, ap, subst}
use Rattle.std.specs.List.{AllByRecursion}
use Rattle.mesa_open_files.specs.mesa_columns.Columns.{Columns}
use Rattle.mesa_schema.specs.Changes.{columns_of}
use Rattle.mesa_answer.specs.Gathered.{wanted_of}
use Rattle.mesa_answer.specs.declared.groups.Groups.{Groups}
use Rattle.mesa_merge.specs.Faults.{faults_of}
use Rattle.mesa_merge.specs.Inputs.{knowns_of}
use Rattle.mesa_merge.specs.Inputs.{AreInputs as AreMergeable}
use Rattle.mesa_merge.proofs.Handing.{refill}
use Rattle.mesa_file.specs.Serials.{Drafts, after_drafts, drawn}
use Rattle.mesa_delta.specs.declared.input.Input.{Input}
use Rattle.mesa_answer.specs.Answering.{KeepsSums}
use Rattle.mesa_open_files.specs.Inputs.{IsMergeOf}
use Rattle.mesa_open_files.specs.Made.{IsMadeFile}
use Rattle.mesa_compact.specs.Bounded.{AreBounded}
use Rattle.mesa_compact.specs.Damaged.{IsNewestOf}
use Rattle.mesa_compact.specs.Grouping.{HavePut}
use Rattle.mesa_compact.specs.Sources.{ArePlaces, AreSeen, AreSources}
use Rattle.mesa_compact.proofs.Causing.{caused_memory, caused_ok, caused_on}
use Rattle.mesa_compact.proofs.Tasking.{files_damage}
use Rattle.mesa_compact.proofs.Viewing.{drafts_more, drafts_more_of, mergeable, of_table, sources_kept, table_kept}
use Rattle.mesa_compact.proofs.task.merge_files.Goals as goal

pub gatherers_of-requires : goal.gatherers_of-requires
gatherers_of-requires g c =
    subst (λ (s : Columns). AllByRecursion (ArePlaces s) c.deref.result.now) (sym c.present.ensures.columns) (subst (AllByRecursion (ArePlaces (columns_of c.args.evolving.now))) (sym c.deref.ensures.value) c.in-Ok.ensures.places)

pub merged_file-requires-clause-inputs : goal.merged_file-requires-clause-inputs
merged_file-requires-clause-inputs g c = λ _ _.
    let bytes = g.R.FileReader.bytes in
    let is = c.args.inputs.now.items in
    subst (λ (s : Columns). AreMergeable bytes s is) (sym c.present-2.ensures.columns) (mergeable bytes (columns_of c.args.evolving.now) is (of_table bytes c.args.evolving.now is c.requires.inputs))

pub view_files-requires-clause-sources : goal.view_files-requires-clause-sources
view_files-requires-clause-sources g c = λ _ _.
    let s = columns_of c.args.evolving.now in
    let vs = c.args.evolving.now.views in
    let groups = c.in-Ok-gatherers_of.groups in
    let seen : AreSeen c.present.result.now vs c.deref.result.now = subst (λ (t : Columns). AreSeen t vs c.deref.result.now) (sym c.present.ensures.columns) (subst (AreSeen s vs) (sym c.deref.ensures.value) c.in-Ok.ensures.seen) in
    let first : AreSources s vs groups.items = subst (λ (t : Columns). AreSources t vs groups.items) c.present.ensures.columns (c.in-Ok-gatherers_of.ensures.sources vs seen) in
    let now : AreSources s vs c.merged_file.new.groups = sources_kept s vs groups.items c.merged_file.new.groups first (c.in-Ok-merged_file.ensures.wanted ∙ ap (map wanted_of) c.deref_mut.ensures.value) in
    subst (AreSources s vs) (sym (refill groups.len groups.items c.merged_file.new.groups (sym groups.ok.0) (c.merged_file.auto.groups ∙ ap length c.deref_mut.ensures.value))) now

pub view_files-requires-clause-put : goal.view_files-requires-clause-put
view_files-requires-clause-put g c = λ _ _.
    let groups = c.in-Ok-gatherers_of.groups in
    let merged = c.in-Ok-merged_file.ensures.made in
    (merged.0, merged.2.rows.some, subst (λ (gs : List Groups). HavePut gs merged.0) (sym (refill groups.len groups.items c.merged_file.new.groups (sym groups.ok.0) (c.merged_file.auto.groups ∙ ap length c.deref_mut.ensures.value))) merged.3)

pub returns-in_default-clause-causes : goal.returns-in_default-clause-causes
returns-in_default-clause-causes g c = caused_memory _ _ _ _ _ refl refl

pub returns-in_default-clause-ids : goal.returns-in_default-clause-ids
returns-in_default-clause-ids g c = (0, refl)

pub returns-in_default-gatherers_of-clause-causes : goal.returns-in_default-gatherers_of-clause-causes
returns-in_default-gatherers_of-clause-causes g c = caused_memory _ _ _ _ _ refl refl

pub returns-in_default-gatherers_of-clause-ids : goal.returns-in_default-gatherers_of-clause-ids
returns-in_default-gatherers_of-clause-ids g c = (0, refl)

-- ---- the table's file is not written

pub returns-in-Err-clause-causes : goal.returns-in-Err-clause-causes
returns-in-Err-clause-causes g c = caused_on _ _ _ _ _ _ _ _ _ _ refl refl c.in-Err.ensures.causes refl (λ d told. inl told)

pub returns-in-Err-clause-ids : goal.returns-in-Err-clause-ids
returns-in-Err-clause-ids g c = (1, c.draw-id.ensures.next)

pub returns-in-Err-clause-inputs_kept : goal.returns-in-Err-clause-inputs_kept
returns-in-Err-clause-inputs_kept g c = table_kept g.R.FileReader.bytes c.args.evolving.now c.args.inputs.now.items c.merged_file.new.inputs.items c.in-Err.ensures.kept c.in-Err.ensures.known c.requires.inputs

pub returns-in-Err-clause-accepts : goal.returns-in-Err-clause-accepts
returns-in-Err-clause-accepts g c = λ d e bounded.
    let b : AreBounded c.present-2.result.now (knowns_of g.R.FileReader.bytes c.args.inputs.now.items) = subst (λ (s : Columns). AreBounded s (knowns_of g.R.FileReader.bytes c.args.inputs.now.items)) (sym c.present-2.ensures.columns) bounded in
    c.in-Err.ensures.accepts d e b.contents b.told b.bound

-- ---- all files are written

pub returns-in-Ok-view_files-clause-made : goal.returns-in-Ok-view_files-clause-made
returns-in-Ok-view_files-clause-made g c =
    let groups = c.in-Ok-gatherers_of.groups in
    let merged = c.in-Ok-merged_file.ensures.made in
    let now = c.present-2.ensures.columns in (
      merged.0,
      subst (λ (s : Columns). IsMergeOf g.R.FileReader.bytes s c.args.inputs.now.items merged.0) now merged.1,
      record {
        table = subst (λ (s : Columns). IsMadeFile g.M.Made.bytes g.M.Made.id_of (record { columns = s; rows = merged.0 }) c.in-Ok-merged_file.file) now merged.2;
        grouped = c.in-Ok-view_files.ensures.made merged.0 (subst (λ (gs : List Groups). HavePut gs merged.0) (sym (refill groups.len groups.items c.merged_file.new.groups (sym groups.ok.0) (c.merged_file.auto.groups ∙ ap length c.deref_mut.ensures.value))) merged.3);
      },
    )

pub returns-in-Ok-view_files-clause-numbered : goal.returns-in-Ok-view_files-clause-numbered
returns-in-Ok-view_files-clause-numbered g c = record {
  table = c.in-Ok-merged_file.ensures.id ∙ c.draw-id.ensures.id;
  views = λ i m at. c.in-Ok-view_files.ensures.numbered i m at ∙ ap (λ (d : Drafts). drawn (after_drafts i d)) c.draw-id.ensures.next ∙ ap drawn (drafts_more_of 1 i c.args.ids.now);
}

pub returns-in-Ok-view_files-clause-ids : goal.returns-in-Ok-view_files-clause-ids
returns-in-Ok-view_files-clause-ids g c =
    let more = c.in-Ok-view_files.ensures.ids in
    drafts_more 1 more.0 c.args.ids.now _ _ c.draw-id.ensures.next more.1

pub returns-in-Ok-view_files-clause-inputs_kept : goal.returns-in-Ok-view_files-clause-inputs_kept
returns-in-Ok-view_files-clause-inputs_kept g c = table_kept g.R.FileReader.bytes c.args.evolving.now c.args.inputs.now.items c.merged_file.new.inputs.items c.in-Ok-merged_file.ensures.kept c.in-Ok-merged_file.ensures.known c.requires.inputs

pub returns-in-Ok-view_files-clause-causes : goal.returns-in-Ok-view_files-clause-causes
returns-in-Ok-view_files-clause-causes g c =
    let merged = c.in-Ok-merged_file.ensures.causes in
    let reads = faults_of g.R.FileReader.faults c.merged_file.new.inputs.items in
    caused_ok _ _ _ _ _ _ ((c.in-Ok-view_files.ensures.causes reads).drafts.quiet ∙ merged.drafts.quiet) merged.reads.quiet

-- ---- the table's file is written, and not all of the views'

pub returns-clause-causes : goal.returns-clause-causes
returns-clause-causes g c =
    let merged = c.in-Ok-merged_file.ensures.causes in
    let reads = faults_of g.R.FileReader.faults c.merged_file.new.inputs.items in
    caused_on _ _ _ _ _ _ reads reads _ _ merged.drafts.quiet merged.reads.quiet (c.in-Err-view_files.ensures.causes reads) refl (λ d told.
    let groups = c.in-Ok-gatherers_of.groups in
    let made = c.in-Ok-merged_file.ensures.made in
    let put = subst (λ (gs : List Groups). HavePut gs made.0) (sym (refill groups.len groups.items c.merged_file.new.groups (sym groups.ok.0) (c.merged_file.auto.groups ∙ ap length c.deref_mut.ensures.value))) made.3 in
    let merge = subst (λ (s : Columns). IsMergeOf g.R.FileReader.bytes s c.args.inputs.now.items made.0) c.present-2.ensures.columns made.1 in
    let newest = subst (λ (is : List (Input g.row.R.Denot)). IsNewestOf (knowns_of g.R.FileReader.bytes is) c.newest_of-newest.result) c.deref-2.ensures.value c.newest_of-newest.ensures in
    files_damage g.R.FileReader.bytes g.R.FileReader.size c.args.evolving.now _ _ made.0 c.newest_of-newest.result d c.in-Ok-merged_file.ensures.known newest c.requires.inputs merge told.0 (told.1 made.0 put))

pub returns-clause-ids : goal.returns-clause-ids
returns-clause-ids g c =
    let more = c.in-Err-view_files.ensures.ids in
    drafts_more 1 more.0 c.args.ids.now _ _ c.draw-id.ensures.next more.1

pub returns-clause-inputs_kept : goal.returns-clause-inputs_kept
returns-clause-inputs_kept g c = table_kept g.R.FileReader.bytes c.args.evolving.now c.args.inputs.now.items c.merged_file.new.inputs.items c.in-Ok-merged_file.ensures.kept c.in-Ok-merged_file.ensures.known c.requires.inputs

pub returns-clause-accepts : goal.returns-clause-accepts
returns-clause-accepts g c = λ d e bounded.
    let groups = c.in-Ok-gatherers_of.groups in
    let merged = c.in-Ok-merged_file.ensures.made in
    let now = c.present-2.ensures.columns in
    let known = knowns_of g.R.FileReader.bytes c.args.inputs.now.items in
    c.in-Err-view_files.ensures.accepts d e merged.0 (subst (λ (gs : List Groups). HavePut gs merged.0) (sym (refill groups.len groups.items c.merged_file.new.groups (sym groups.ok.0) (c.merged_file.auto.groups ∙ ap length c.deref_mut.ensures.value))) merged.3)
    (subst (λ (s : Columns). KeepsSums s merged.0) now (merged.4 (subst (λ (s : Columns). AreBounded s known) (sym now) bounded)))
