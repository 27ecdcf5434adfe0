-- The files of a range are told where the store is sound, and no sum over them leaves its type.
use Rattle.std.proofs.Common.{◌≡◌, ◌∙◌, ℕ, ◌<◌, List, [], ◌∷◌, length, map, true, refl, sym, ap, subst, zero-add, Option, None}
use Rattle.std.specs.Prelude.{flat_map}
use Rattle.std.specs.List.{AllByRecursion}
use Rattle.mesa_write_turns.specs.mesa_batch.Totals.{abs_total, sum_bound}
use Rattle.mesa_engine.specs.mesa_commit.Images.{Has}
use Rattle.mesa_copy.specs.mesa_compact.Bounded.{IsBounded}
use Rattle.mesa_disk.specs.Image.{Image}
use Rattle.mesa_disk.specs.Story.{Story}
use Rattle.mesa_write_turns.specs.mesa_schema.Changes.{Lineage, epoch_of, lifted}
use Rattle.mesa_open_files.specs.mesa_fold.Folded.{rows_of}
use Rattle.mesa_write_turns.specs.mesa_columns.declared.rows.Row.{Row}
use Rattle.mesa_delta.specs.declared.input.Input.{Input}
use Rattle.mesa_engine.specs.mesa_store_spec.Catalog.{Catalog, Delta, TableMeta, meta_at}
use Rattle.mesa_engine.specs.mesa_store_spec.Contents.{Rows, present}
use Rattle.mesa_engine.specs.mesa_store_spec.Fitting.{delta_live, deltas_of, live_files}
use Rattle.mesa_engine.specs.mesa_store_spec.Sound.{wants}
use Rattle.mesa_engine.proofs.mesa_store_spec.Lists.{all_unflat, meta_found}
use Rattle.mesa_engine.specs.mesa_store_spec.Sound.{HasSoundRows}
use Rattle.mesa_engine.specs.mesa_store_spec.Moves.{is_base, last_of}
use Rattle.mesa_engine.specs.EngineState.{EngineState}
use Rattle.mesa_engine.specs.Vault.{Origin, IsVault}
use Rattle.mesa_engine.proofs.Standing.{held_there}
use Rattle.mesa_read_turns.specs.mesa_merge.Inputs.{AreTold, knowns_of, lifted_parts}
use Rattle.mesa_model.specs.declared.entries.Entry.{Entry}
use Rattle.mesa_read_turns.specs.mesa_pick_files.Folding.{folded_deltas}
use Rattle.mesa_read_turns.specs.mesa_pick_files.Gathered.{IsGathered}
use Rattle.mesa_read_turns.specs.mesa_pick_files.Read.{own_file}
use Rattle.mesa_read_turns.proofs.mesa_pick_files.Folds.{table_parts}
use Rattle.mesa_read_turns.proofs.mesa_pick_files.Given.{AreGiven, IsGiven, all_given, all_told, part_of, rows_seen}
use Rattle.mesa_read_turns.proofs.mesa_pick_files.Reading.{owned}
use Rattle.mesa_read_turns.proofs.mesa_pick_files.Sums.{folded_sums}
use Rattle.mesa_read_turns.proofs.mesa_pick_files.Telling.{meta_given}
use Rattle.mesa_read_turns.proofs.mesa_pick_files.Among.{all_folded}
use Rattle.mesa_read_turns.specs.mesa_pick_files.Files.{Seen, Want, table_wanted, want_of}
use Rattle.mesa_open_files.specs.Opening.{HaveOpened}
use Rattle.mesa_open_files.specs.declared.merging.Task.{Task}
use Rattle.mesa_open_files.specs.declared.opening.Wanted.{Wanted}
use Rattle.mesa_write_turns.specs.mesa_invariant_spec.Invariant.{Outset}
use Rattle.mesa_work_turns.proofs.Grants.{shaped_at}

-- the rows of a table's files, lifted
lifted_are : {R : Type 0} (bytes : R → Option (List ℕ)) (faults : R → ℕ) (told : Option Image) (rows : Rows) (ws : List Wanted) (is : List (Input R)) (wants : List Want) → map want_of ws ≡ wants → HaveOpened bytes faults told ws is None
    → lifted_parts (knowns_of bytes is) (map (rows_seen rows) (map own_file wants)) ≡ map (part_of rows None) (map own_file wants)
lifted_are bytes faults told rows [] [] [] same have = refl
lifted_are bytes faults told rows [] [] (x ∷ wants) same have = absurd cc
lifted_are bytes faults told rows [] (i ∷ is) wants same have = absurd have
lifted_are bytes faults told rows (w ∷ ws) [] wants same have = absurd have
lifted_are bytes faults told rows (w ∷ ws) (i ∷ is) [] same have = absurd cc
lifted_are bytes faults told rows (w ∷ ws) (i ∷ is) (x ∷ wants) same have =
    let first : want_of w ≡ x = cc in
    let others : map want_of ws ≡ wants = cc in
    let lineage : i.evolving.value ≡ x.lineage = have.0.lineage ∙ ap (λ (y : Want). y.lineage) first in
    let epoch : i.epoch ≡ x.epoch = have.0.epoch ∙ ap (λ (y : Want). y.epoch) first in
    λ j. map (lifted (lineage j) (epoch j) (epoch_of (lineage j))) (rows x.file.id) ∷ lifted_are bytes faults told rows ws is wants others have.1 j

module _ (o : Outset) (g : Origin) (l : EngineState) (story : Story) (held : Option (List ℕ)) (h : List Entry) (running refused : _) (v : IsVault o g true l story held h running refused) (opened : l.closed ≡ None)
    {R : Type 0} (bytes : R → Option (List ℕ)) (faults : R → ℕ) (t : Task R) (there : t.table < length l.catalogue.tables)
    (gathered : IsGathered bytes faults story.told (meta_at l.catalogue t.table) t.work t) (whole : t.damage ≡ None) where
  abbrev c : Catalog
  c = l.catalogue

  abbrev u : TableMeta
  u = meta_at l.catalogue t.table

  abbrev lin : Lineage
  lin = u.lineage

  abbrev image : Image
  image = (v.read refl).0

  abbrev ds : List Delta
  ds = folded_deltas (meta_at l.catalogue t.table) (is_base t.work) (last_of t.work)

  abbrev seen : List Seen
  seen = map own_file (flat_map (table_wanted (meta_at l.catalogue t.table).lineage) (folded_deltas (meta_at l.catalogue t.table) (is_base t.work) (last_of t.work)))

  has : Has (wants v.rows (live_files c)) image
  has = held_there story l.area v.bodies l.end c v.rows (v.stands refl opened) image (v.read refl).1

  given : AllByRecursion (AreGiven v.rows image lin) ds
  given = all_folded (AreGiven v.rows image lin) u (all_unflat (IsGiven v.rows image) (delta_live lin) (deltas_of u) (meta_given v.rows c image t.table (v.sound_rows refl).0 has there)) (is_base t.work) (last_of t.work)

  all_open : HaveOpened bytes faults story.told gathered.wanted t.inputs.items None
  all_open = subst (HaveOpened bytes faults story.told gathered.wanted t.inputs.items) whole gathered.opened

  -- The files of a range are told, and have the present rows of the deltas that are folded.
  pub range_told : (contents : List (List Row)) × AreTold (knowns_of bytes t.inputs.items) contents
      × (rows_of (lifted_parts (knowns_of bytes t.inputs.items) contents) ≡ rows_of (map (present v.rows (meta_at l.catalogue t.table).lineage) (folded_deltas (meta_at l.catalogue t.table) (is_base t.work) (last_of t.work))))
  range_told = (
    map (rows_seen v.rows) seen,
    all_told v.rows image bytes faults story.told (v.read refl).1 gathered.wanted t.inputs.items seen (gathered.are ∙ sym (owned (flat_map (table_wanted lin) ds))) all_open (all_given v.rows image lin None tt ds given),
    ap rows_of (lifted_are bytes faults story.told v.rows gathered.wanted t.inputs.items (flat_map (table_wanted lin) ds) gathered.are all_open) ∙ table_parts v.rows lin ds,
  )

  -- The sums over the files of a range stay in their type.
  pub is_bounded : IsBounded bytes (meta_at l.catalogue t.table).lineage t
  is_bounded = record {
    contents = range_told.0;
    told = range_told.1;
    bound = λ k sum.
        subst (λ n. n < sum_bound) (sym (zero-add _)) (subst (λ (rs : List Row). abs_total k rs < sum_bound) (sym range_told.2)
        (folded_sums v.rows c.floor c.next u (shaped_at c v.shaped t.table there) (meta_found (HasSoundRows v.rows) c.tables t.table there (v.sound_rows refl).0) (is_base t.work) (last_of t.work) k sum));
  }
