-- What a task has of its range where the store is sound.
use Rattle.std.proofs.Common.{◌≡◌, ◌∙◌, ℕ, ◌<◌, List, length, map, Bool, true, refl, sym, ap, subst, ◌≤◌, Option, None, Some}
use Rattle.std.specs.List.{AllByRecursion}
use Rattle.mesa_engine.specs.mesa_commit.Images.{Has}
use Rattle.mesa_disk.specs.Image.{Image}
use Rattle.mesa_disk.specs.Story.{Story}
use Rattle.mesa_write_turns.specs.mesa_schema.Changes.{Lineage, columns_of}
use Rattle.mesa_write_turns.specs.mesa_columns.Columns.{aggs_of}
use Rattle.mesa_open_files.specs.mesa_fold.Folded.{rows_of}
use Rattle.mesa_write_turns.specs.mesa_history_spec.Sources.{Source, Written, range_rows}
use Rattle.mesa_engine.specs.mesa_store_spec.Catalog.{Catalog, TableMeta, meta_at}
use Rattle.mesa_engine.specs.mesa_store_spec.Contents.{present}
use Rattle.mesa_engine.specs.mesa_store_spec.Fitting.{may_be_work, live_files}
use Rattle.mesa_engine.specs.mesa_store_spec.Sound.{HasSoundRows, wants}
use Rattle.mesa_engine.proofs.mesa_store_spec.AllSourced.{epochs_written, work_written}
use Rattle.mesa_engine.proofs.mesa_store_spec.Lists.{meta_found}
use Rattle.mesa_engine.specs.mesa_store_spec.Moves.{first_of, is_base, last_of}
use Rattle.mesa_engine.specs.EngineState.{EngineState}
use Rattle.mesa_engine.specs.Vault.{Origin, IsVault, written_by}
use Rattle.mesa_engine.proofs.Standing.{held_there}
use Rattle.mesa_model.specs.declared.entries.Entry.{Entry}
use Rattle.mesa_read_turns.specs.mesa_pick_files.Folding.{folded_deltas}
use Rattle.mesa_read_turns.specs.mesa_pick_files.Gathered.{IsGathered}
use Rattle.mesa_read_turns.proofs.mesa_pick_files.Among.{all_folded}
use Rattle.mesa_read_turns.proofs.mesa_pick_files.Cumulative.{work_folds}
use Rattle.mesa_write_turns.specs.mesa_file_records.Finished.{HasRange, sources_in}
use Rattle.mesa_open_files.specs.Inputs.{present_parts}
use Rattle.mesa_open_files.specs.Tasks.{IsTask}
use Rattle.mesa_open_files.specs.declared.merging.Task.{Task}
use Rattle.mesa_write_turns.specs.mesa_invariant_spec.Invariant.{Outset}
use Rattle.mesa_work_turns.proofs.Sound.{IsSoundDelta, none_met, present_lifted, same_folded, sound_deltas, told_inputs}
use Rattle.mesa_work_turns.proofs.Bounded.{range_told}
use Rattle.mesa_work_turns.proofs.Grants.{shaped_at}

module _ (o : Outset) (g : Origin) (l : EngineState) (story : Story) (held : Option (List ℕ)) (h : List Entry) (running refused : Bool) (v : IsVault o g true l story held h running refused) (opened : l.closed ≡ None)
    {R : Type 0} (bytes : R → Option (List ℕ)) (faults : R → ℕ) (t : Task R) (there : t.table < length l.catalogue.tables) (may : may_be_work l.catalogue (meta_at l.catalogue t.table) (is_base t.work) (first_of t.work) (last_of t.work) ≡ true)
    (task : IsTask bytes (meta_at l.catalogue t.table).lineage t) (gathered : IsGathered bytes faults story.told (meta_at l.catalogue t.table) t.work t) where
  abbrev c : Catalog
  c = l.catalogue

  abbrev u : TableMeta
  u = meta_at l.catalogue t.table

  abbrev lin : Lineage
  lin = u.lineage

  abbrev written : List Written
  written = written_by o g.found h t.table

  abbrev image : Image
  image = (v.read refl).0

  told_is : story.told ≡ Some image
  told_is = (v.read refl).1

  has : Has (wants v.rows (live_files c)) image
  has = held_there story l.area v.bodies l.end c v.rows (v.stands refl opened) image told_is

  sound : AllByRecursion (IsSoundDelta v.rows image lin) (folded_deltas u (is_base t.work) (last_of t.work))
  sound = all_folded (IsSoundDelta v.rows image lin) u (sound_deltas v.rows image c t.table there (v.sound_rows refl).0 has) (is_base t.work) (last_of t.work)

  -- A task whose files are those of its range has none that is damaged.
  pub has_no_damage : t.damage ≡ None
  has_no_damage = none_met bytes faults story.told image told_is v.rows lin (folded_deltas u (is_base t.work) (last_of t.work)) sound gathered.wanted t.inputs.items t.damage gathered.are gathered.opened

  -- It has its range.
  pub has_range : HasRange bytes (meta_at l.catalogue t.table).lineage t (written_by o g.found h t.table)
  has_range = record {
    epochs = subst (λ e. AllByRecursion (λ (s : Source). s.epoch ≤ e) (sources_in t written)) (sym task.epoch) (epochs_written v.rows (written_by o g.found h) c v.shaped (v.sourced refl) t.table there (first_of t.work) (last_of t.work));
    rows = λ its merge.
        let all = range_told o g l story held h running refused v opened bytes faults t there gathered has_no_damage in
        merge all.0 (told_inputs bytes t.inputs.items all.0 all.1)
        ∙ same_folded (aggs_of (columns_of lin)) (present_parts t.inputs.items all.0) (map (present v.rows lin) (folded_deltas u (is_base t.work) (last_of t.work))) (ap rows_of (present_lifted bytes t.inputs.items all.0) ∙ all.2)
        ∙ work_folds v.rows c.floor c.next u (shaped_at c v.shaped t.table there) (meta_found (HasSoundRows v.rows) c.tables t.table there (v.sound_rows refl).0) (is_base t.work) (last_of t.work)
        ∙ work_written v.rows (written_by o g.found h) c v.shaped (v.sourced refl) t.table there (is_base t.work) (first_of t.work) (last_of t.work) may
        ∙ ap (λ e. range_rows lin e (sources_in t written)) (sym task.epoch);
  }
