use Rattle.std.proofs.Common.{◌≤◌, List, length, refl, sym, ap, subst, ◌∙◌}
use Rattle.std.specs.List.{AllByRecursion}
use Rattle.mesa_compact.specs.mesa_columns.Columns.{Columns}
use Rattle.mesa_schema.specs.Changes.{columns_of}
use Rattle.mesa_delta.specs.declared.input.Input.{Input}
use Rattle.mesa_compact.specs.mesa_scan.Cursors.{IsInput}
use Rattle.mesa_merge.specs.Inputs.{knowns_of}
use Rattle.mesa_merge.proofs.Handing.{refill}
use Rattle.mesa_file.specs.Serials.{Drafts, after_drafts, drawn}
use Rattle.mesa_open_files.specs.Spares.{AreSpareInputs}
use Rattle.mesa_open_files.specs.declared.merging.Spare.{Spare}
use Rattle.mesa_compact.specs.Damaged.{IsNewestOf}
use Rattle.mesa_compact.specs.Grouping.{HavePut, TakesRows}
use Rattle.mesa_compact.specs.Sources.{ArePlaces, AreSeen, AreSources}
use Rattle.mesa_compact.specs.Tasks.{known_spares}
use Rattle.mesa_compact.proofs.Viewing.{drafts_more, drafts_more_of, sources_kept}
use Rattle.mesa_split.proofs.Splits.{spares_put, split_made, split_memory, split_none, split_unmade, split_unviewed}
use Rattle.mesa_split.proofs.split.split_files.Goals as goal

pub gatherers_of-requires : goal.gatherers_of-requires
gatherers_of-requires g c =
    subst (λ (s : Columns). AllByRecursion (ArePlaces s) c.deref-2.result.now) (sym c.present.ensures.columns) (subst (AllByRecursion (ArePlaces (columns_of c.args.evolving.now))) (sym c.deref-2.ensures.value) c.in-Ok.ensures.places)

pub returns-in_default : goal.returns-in_default
returns-in_default g c = split_memory g.M.Made.bytes g.M.Made.id_of g.R.FileReader.bytes g.R.FileReader.faults g.R.FileReader.size c.args.task.now _ _ _ 0 refl c.requires.spare

pub returns-in_default-gatherers_of : goal.returns-in_default-gatherers_of
returns-in_default-gatherers_of g c = split_memory g.M.Made.bytes g.M.Made.id_of g.R.FileReader.bytes g.R.FileReader.faults g.R.FileReader.size c.args.task.now _ _ _ 0 refl c.requires.spare

pub table_file-made-requires-clause-few : goal.table_file-made-requires-clause-few
table_file-made-requires-clause-few g c = λ _ _. subst (λ (ss : List (Spare g.row.R.Denot)). c.args.further ≤ length ss) (sym c.deref_mut.ensures.value) c.requires.few

pub table_file-made-requires-clause-spare : goal.table_file-made-requires-clause-spare
table_file-made-requires-clause-spare g c = λ _ _.
    let bytes = g.R.FileReader.bytes in
    let old = c.args.task.now in
    subst (AllByRecursion (λ (s : Spare g.row.R.Denot). AreSpareInputs bytes old.inputs.items s.inputs.items)) (sym c.deref_mut.ensures.value) c.requires.spare

pub table_file-made-requires-clause-takes : goal.table_file-made-requires-clause-takes
table_file-made-requires-clause-takes g c = λ _ _. subst (λ (s : Columns). AllByRecursion (TakesRows s) c.in-Ok-gatherers_of.groups.items) c.present.ensures.columns c.in-Ok-gatherers_of.ensures.takes

-- ---- the table's file is not written

pub returns-in-Err : goal.returns-in-Err
returns-in-Err g c =
    let told = g.M.Made.bytes in
    let id_of = g.M.Made.id_of in
    let bytes = g.R.FileReader.bytes in
    let faults = g.R.FileReader.faults in
    let size = g.R.FileReader.size in
    let old = c.args.task.now in
    let l = c.args.evolving.now in
    let ss = old.spare in
    let i = c.table_file-made.new.inputs in
    let ns : List (Spare g.row.R.Denot) = c.table_file-made.new.spare in
    let back = refill ss.len ss.items ns (sym ss.ok.0) (c.table_file-made.auto.spare ∙ ap length c.deref_mut.ensures.value) in
    let files = ap (known_spares bytes) back ∙ c.in-Err.ensures.spare_known ∙ ap (known_spares bytes) c.deref_mut.ensures.value in
    let each = subst (AllByRecursion (λ (s : Spare g.row.R.Denot). AllByRecursion (IsInput bytes) s.inputs.items)) (sym back) c.in-Err.ensures.spare_kept in
    let last = subst (λ (is : List (Input g.row.R.Denot)). IsNewestOf (knowns_of bytes is) c.newest_of-newest.result) c.deref.ensures.value c.newest_of-newest.ensures in
    let causes = spares_put bytes faults size l old.inputs.items i.items ss.items c.deref_mut.result.now ns _ c.newest_of-newest.result _ _ _ c.deref_mut.ensures.value back c.in-Err.ensures.causes in
    split_unmade told id_of bytes faults size old l i _ c.requires.task c.requires.some c.requires.spare _ _ c.newest_of-newest.result _ _ 1 c.in-Err.error
    (record { known = c.in-Err.ensures.known; kept = c.in-Err.ensures.kept; spare_known = files; spare_kept = each }) c.draw-id.ensures.next last causes c.in-Err.ensures.accepts

-- ---- there are no rows

pub returns-in-Ok-None : goal.returns-in-Ok-None
returns-in-Ok-None g c =
    let told = g.M.Made.bytes in
    let id_of = g.M.Made.id_of in
    let bytes = g.R.FileReader.bytes in
    let faults = g.R.FileReader.faults in
    let size = g.R.FileReader.size in
    let old = c.args.task.now in
    let l = c.args.evolving.now in
    let ss = old.spare in
    let i = c.table_file-made.new.inputs in
    let ns : List (Spare g.row.R.Denot) = c.table_file-made.new.spare in
    let back = refill ss.len ss.items ns (sym ss.ok.0) (c.table_file-made.auto.spare ∙ ap length c.deref_mut.ensures.value) in
    let files = ap (known_spares bytes) back ∙ c.in-Ok-None.ensures.spare_known ∙ ap (known_spares bytes) c.deref_mut.ensures.value in
    let each = subst (AllByRecursion (λ (s : Spare g.row.R.Denot). AllByRecursion (IsInput bytes) s.inputs.items)) (sym back) c.in-Ok-None.ensures.spare_kept in
    let last = subst (λ (is : List (Input g.row.R.Denot)). IsNewestOf (knowns_of bytes is) c.newest_of-newest.result) c.deref.ensures.value c.newest_of-newest.ensures in
    let causes = spares_put bytes faults size l old.inputs.items i.items ss.items c.deref_mut.result.now ns _ c.newest_of-newest.result _ _ _ c.deref_mut.ensures.value back c.in-Ok-None.ensures.causes in
    let file = rw c.in-Ok-None.field-0-is at c.in-Ok-None.ensures.file in
    split_none told id_of bytes faults size old l i _ c.requires.task c.requires.some c.requires.spare _ _ c.newest_of-newest.result _ _ 1 file.0 _
    (record { known = c.in-Ok-None.ensures.known; kept = c.in-Ok-None.ensures.kept; spare_known = files; spare_kept = each }) c.draw-id.ensures.next file.1 file.2 causes

-- ---- the views' files are written

pub view_files-requires-clause-sources : goal.view_files-requires-clause-sources
view_files-requires-clause-sources g c = λ _ _.
    let s = columns_of c.args.evolving.now in
    let vs = c.args.evolving.now.views in
    let groups = c.in-Ok-gatherers_of.groups in
    let seen : AreSeen c.present.result.now vs c.deref-2.result.now = subst (λ (t : Columns). AreSeen t vs c.deref-2.result.now) (sym c.present.ensures.columns) (subst (AreSeen s vs) (sym c.deref-2.ensures.value) c.in-Ok.ensures.seen) in
    let first : AreSources s vs groups.items = subst (λ (t : Columns). AreSources t vs groups.items) c.present.ensures.columns (c.in-Ok-gatherers_of.ensures.sources vs seen) in
    sources_kept s vs groups.items c.table_file-made.new.groups.items first c.in-Ok-Some.ensures.wanted

pub view_files-requires-clause-put : goal.view_files-requires-clause-put
view_files-requires-clause-put g c = λ _ _.
    let file = rw c.in-Ok-Some.field-0-is at c.in-Ok-Some.ensures.file in
    (file.0, file.2.0, file.2.2)

pub returns-in-Ok-view_files : goal.returns-in-Ok-view_files
returns-in-Ok-view_files g c =
    let told = g.M.Made.bytes in
    let id_of = g.M.Made.id_of in
    let bytes = g.R.FileReader.bytes in
    let faults = g.R.FileReader.faults in
    let size = g.R.FileReader.size in
    let old = c.args.task.now in
    let l = c.args.evolving.now in
    let ss = old.spare in
    let i = c.table_file-made.new.inputs in
    let ns : List (Spare g.row.R.Denot) = c.table_file-made.new.spare in
    let back = refill ss.len ss.items ns (sym ss.ok.0) (c.table_file-made.auto.spare ∙ ap length c.deref_mut.ensures.value) in
    let files = ap (known_spares bytes) back ∙ c.in-Ok-Some.ensures.spare_known ∙ ap (known_spares bytes) c.deref_mut.ensures.value in
    let each = subst (AllByRecursion (λ (s : Spare g.row.R.Denot). AllByRecursion (IsInput bytes) s.inputs.items)) (sym back) c.in-Ok-Some.ensures.spare_kept in
    let last = subst (λ (is : List (Input g.row.R.Denot)). IsNewestOf (knowns_of bytes is) c.newest_of-newest.result) c.deref.ensures.value c.newest_of-newest.ensures in
    let causes = spares_put bytes faults size l old.inputs.items i.items ss.items c.deref_mut.result.now ns _ c.newest_of-newest.result _ _ _ c.deref_mut.ensures.value back c.in-Ok-Some.ensures.causes in
    let file = rw c.in-Ok-Some.field-0-is at c.in-Ok-Some.ensures.file in
    let rows = file.0 in
    let put : HavePut c.table_file-made.new.groups.items rows = file.2.2 in
    let ids = drafts_more 1 c.in-Ok-view_files.ensures.ids.0 c.args.ids.now _ _ c.draw-id.ensures.next c.in-Ok-view_files.ensures.ids.1 in
    split_made told id_of bytes faults size old l i _ c.requires.task c.requires.some c.requires.spare _ _ _ c.newest_of-newest.result _ _ ids.0 (HavePut c.table_file-made.new.groups.items) rows (record { file = c.in-Ok-Some.file; views = c.in-Ok-view_files.views }) _
    (record { known = c.in-Ok-Some.ensures.known; kept = c.in-Ok-Some.ensures.kept; spare_known = files; spare_kept = each }) ids.1 last file.1 put causes.drafts.quiet causes.reads.quiet (c.in-Ok-view_files.ensures.causes _)
    (record { table = file.2.1; grouped = c.in-Ok-view_files.ensures.made rows put })
    (record {
      table = file.2.3 ∙ c.draw-id.ensures.id;
      views = λ k m at. c.in-Ok-view_files.ensures.numbered k m at ∙ ap (λ (d : Drafts). drawn (after_drafts k d)) c.draw-id.ensures.next ∙ ap drawn (drafts_more_of 1 k c.args.ids.now);
    })

pub returns : goal.returns
returns g c =
    let told = g.M.Made.bytes in
    let id_of = g.M.Made.id_of in
    let bytes = g.R.FileReader.bytes in
    let faults = g.R.FileReader.faults in
    let size = g.R.FileReader.size in
    let old = c.args.task.now in
    let l = c.args.evolving.now in
    let ss = old.spare in
    let i = c.table_file-made.new.inputs in
    let ns : List (Spare g.row.R.Denot) = c.table_file-made.new.spare in
    let back = refill ss.len ss.items ns (sym ss.ok.0) (c.table_file-made.auto.spare ∙ ap length c.deref_mut.ensures.value) in
    let files = ap (known_spares bytes) back ∙ c.in-Ok-Some.ensures.spare_known ∙ ap (known_spares bytes) c.deref_mut.ensures.value in
    let each = subst (AllByRecursion (λ (s : Spare g.row.R.Denot). AllByRecursion (IsInput bytes) s.inputs.items)) (sym back) c.in-Ok-Some.ensures.spare_kept in
    let last = subst (λ (is : List (Input g.row.R.Denot)). IsNewestOf (knowns_of bytes is) c.newest_of-newest.result) c.deref.ensures.value c.newest_of-newest.ensures in
    let causes = spares_put bytes faults size l old.inputs.items i.items ss.items c.deref_mut.result.now ns _ c.newest_of-newest.result _ _ _ c.deref_mut.ensures.value back c.in-Ok-Some.ensures.causes in
    let file = rw c.in-Ok-Some.field-0-is at c.in-Ok-Some.ensures.file in
    let rows = file.0 in
    let put : HavePut c.table_file-made.new.groups.items rows = file.2.2 in
    let ids = drafts_more 1 c.in-Err-view_files.ensures.ids.0 c.args.ids.now _ _ c.draw-id.ensures.next c.in-Err-view_files.ensures.ids.1 in
    split_unviewed told id_of bytes faults size old l i _ c.requires.task c.requires.some c.requires.spare _ _ _ c.newest_of-newest.result _ _ ids.0 (HavePut c.table_file-made.new.groups.items) rows c.in-Err-view_files.error
    (record { known = c.in-Ok-Some.ensures.known; kept = c.in-Ok-Some.ensures.kept; spare_known = files; spare_kept = each }) ids.1 last file.1 put causes.drafts.quiet causes.reads.quiet (c.in-Err-view_files.ensures.causes _) file.3 (λ d is keeps. c.in-Err-view_files.ensures.accepts d is rows put keeps)
