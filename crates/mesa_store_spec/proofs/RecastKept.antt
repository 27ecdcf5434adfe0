-- A catalogue behind a recast's record stands for what is kept once the table is recast.
use Rattle.std.proofs.Common.{◌≡◌, ℕ, List, [], map, Option, Some, None, true, refl, sym, ◌∙◌, ap, arith, slice_set}
use Rattle.std.proofs.lemmas.List.{map-set}
use Rattle.std.specs.Prelude.{option_map}
use Rattle.std.specs.List.{AllByRecursion}
use Rattle.mesa_history_spec.specs.mesa_schema.Changes.{columns_of, epoch_of}
use Rattle.mesa_history_spec.specs.mesa_schema.Recasts.{IsRecastOf, keeps_view, recast_lineage}
use Rattle.mesa_history_spec.proofs.mesa_schema.LineageRecasts.{recast_allowed}
use Rattle.mesa_history_spec.proofs.mesa_columns.Lists.{all_map, all_set, map_at}
use Rattle.mesa_commit.specs.mesa_disk.Image.{file_of}
use Rattle.mesa_history_spec.specs.Found.{kept_of as kept_in_state}
use Rattle.mesa_history_spec.specs.Machine.{Claim, without_cumulatives}
use Rattle.mesa_history_spec.specs.Replay.{recasted}
use Rattle.mesa_history_spec.specs.Run.{State}
use Rattle.mesa_history_spec.specs.mesa_model.Tables.{table_recast}
use Rattle.mesa_record.specs.declared.record.Record.TheVariants as record_of
use Rattle.mesa_record.specs.declared.recasting.Recasting.{Recasting}
use Rattle.mesa_store_spec.specs.Catalog.{Catalog, Ending, TableMeta, applied, base_told, end_in, no_meta, ranges_of, recast_in, singles_told, meta_at, meta_recast}
use Rattle.mesa_store_spec.specs.Contents.{Rows, kept_of, table_of}
use Rattle.mesa_store_spec.specs.Fitting.{LiveFile, brought, kind_fits, live_files, meta_live}
use Rattle.mesa_store_spec.specs.Shape.{IsCatalog, IsShaped}
use Rattle.mesa_store_spec.specs.Sound.{HaveSoundRows, HasSoundRows, wanted}
use Rattle.mesa_store_spec.specs.Brought.{AreTold, BringsRecast}
use Rattle.mesa_store_spec.specs.Moves.{Moves, kept_recast}
use Rattle.mesa_store_spec.proofs.Lists.{all_flat, all_unflat, all_unmap, meta_found}
use Rattle.mesa_store_spec.proofs.RecastContents.{recast_step}
use Rattle.mesa_store_spec.proofs.RecastFits.{Fits, IsBasePlaced, Places, places_of}
use Rattle.mesa_store_spec.proofs.RecastSoundRows.{named_recast, recast_sound_rows}
use Rattle.mesa_store_spec.proofs.Recasting.{IsRecastTo, recast_to}
use Rattle.mesa_store_spec.proofs.ShapedRecasts.{recast_its, recast_shape, recast_there}
use Rattle.mesa_store_spec.proofs.Views.{meta_table}

-- the cumulatives go, and the base stays
ranges_recast : (next : ℕ) (t : TableMeta) (k : Recasting) → Places next t k → ranges_of (meta_recast next t k) ≡ without_cumulatives (ranges_of t)
ranges_recast next t k places = ap (λ o. record { base_to = o; cumulatives = [] }) (by t.base (base_told k) places.base)
  where
    by : (old new : Option Ending) → IsBasePlaced (recast_lineage t.lineage (recast_in k)) k.epoch old new → option_map end_in new ≡ option_map end_in old
    by None None is = refl
    by None (Some new) is = absurd is
    by (Some old) None is = absurd is
    by (Some old) (Some new) is = ap Some is.0

module _ (c : Catalog) (k : Recasting) (is : IsCatalog c) (fit : kind_fits c (record_of.Recast k) ≡ true) where
  its : Fits (meta_at c k.table) k
  its = recast_its c k is fit

  shaped : IsShaped c.floor c.next (meta_at c k.table)
  shaped = recast_shape c k is fit

  rules : IsRecastOf (columns_of (meta_at c k.table).lineage) (recast_in k)
  rules = (recast_allowed (meta_at c k.table).lineage (recast_in k) its.checked).rules

  keeps : AllByRecursion (λ v. keeps_view (recast_in k) v ≡ true) (meta_at c k.table).lineage.views
  keeps = (recast_allowed (meta_at c k.table).lineage (recast_in k) its.checked).kept

  places : Places c.next (meta_at c k.table) k
  places = places_of c.next (meta_at c k.table) k shaped.singles its

  now : k.epoch ≡ epoch_of (recast_lineage (meta_at c k.table).lineage (recast_in k))
  now = (let e = its.epoch in omega (arith, e))

  module _ (rows : Rows) (told : AreTold rows c (record_of.Recast k)) (brings : BringsRecast rows c.next (meta_at c k.table) k) where
    -- each of its table's ranges is regrouped
    pub recast_brought : IsRecastTo rows (meta_at c k.table) (recast_in k) (base_told k) (singles_told c.next (meta_at c k.table) k)
    recast_brought = recast_to rows c.next (meta_at c k.table) k now places brings told

    module _ (sound_rows : HaveSoundRows rows c) where
      sound : HasSoundRows rows (meta_at c k.table)
      sound = meta_found (HasSoundRows rows) c.tables k.table (recast_there c k is fit) sound_rows

      kept_moves : kept_of rows (applied c (record_of.Recast k)) ≡ kept_recast (kept_of rows c) k.table (recast_in k)
      unfolding kept_of
      kept_moves =
          let t = meta_at c k.table in
          let u = meta_recast c.next (meta_at c k.table) k in
          let table_is = table_of rows c.next in
          let one = recast_step rows c.floor c.next (meta_at c k.table) (recast_in k) (base_told k) (singles_told c.next (meta_at c k.table) k) shaped sound rules recast_brought in
          let tables = map-set table_is c.tables k.table u ∙ ap (slice_set (map table_is c.tables) k.table) (one ∙ ap (λ x. table_recast x (recast_in k)) (sym (meta_table rows c k.table (recast_there c k is fit)))) in
          let ranges = map-set ranges_of c.tables k.table u ∙ ap (slice_set (map ranges_of c.tables) k.table) (ranges_recast c.next t k places ∙ ap without_cumulatives (sym (map_at ranges_of c.tables k.table no_meta))) in
          λ i. record { store = record { tables = tables i; floor = c.floor }; next = c.next; ranges = ranges i }

      -- The record moves what is kept as its command moves the reference warehouse and the ranges.
      pub recast_moves : Moves rows c (record_of.Recast k) (kept_recast (kept_of rows c) k.table (recast_in k))
      recast_moves =
          let t = meta_at c k.table in
          let u = meta_recast c.next (meta_at c k.table) k in
          record {
            kept = kept_moves;
            sound_rows = all_set (HasSoundRows rows) c.tables k.table u (recast_sound_rows rows c.floor c.next t (recast_in k) (base_told k) (singles_told c.next t k) shaped sound rules keeps recast_brought) sound_rows;
            grows = λ i old new.
                let W = λ (w : ℕ × List ℕ). file_of i w.0 ≡ Some w.1 in
                let P = λ (x : LiveFile). file_of i (wanted rows x).0 ≡ Some (wanted rows x).1 in
                let metas = all_unflat P meta_live c.tables (all_unmap W (wanted rows) (live_files c) old) in
                let mine = meta_found (λ (x : TableMeta). AllByRecursion P (meta_live x)) c.tables k.table (recast_there c k is fit) metas in
                all_map W (wanted rows) (live_files (applied c (record_of.Recast k))) (all_flat P meta_live (slice_set c.tables k.table u)
                (all_set (λ (x : TableMeta). AllByRecursion P (meta_live x)) c.tables k.table u
                (named_recast rows c.floor c.next t (recast_in k) (base_told k) (singles_told c.next t k) shaped sound rules keeps recast_brought P mine (all_unmap W (wanted rows) (brought c (record_of.Recast k)) new)) metas));
          }

      -- So a catalogue that stands for a state stands for the state behind the close.
      pub closes : (s : State) (claim : Claim) → k.table ≡ claim.table → kept_of rows c ≡ kept_in_state s → kept_of rows (applied c (record_of.Recast k)) ≡ kept_in_state (recasted s claim (recast_in k))
      closes s claim same stands = recast_moves.kept ∙ (λ i. kept_recast (stands i) (same i) (recast_in k))
