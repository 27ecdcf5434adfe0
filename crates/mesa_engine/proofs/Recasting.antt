-- What the record of a recast makes of a vault's books is what Replay makes of a recast's claim.
use Rattle.std.proofs.Common.{◌≡◌, ℕ, ◌<◌, List, [], map, Bool, refl, sym, ◌∙◌, ap, Option, Some, None, IsTrue}
use Rattle.std.specs.Prelude.{option_map, slice_set, slice_index_or}
use Rattle.std.proofs.lemmas.List.{map-set}
use Rattle.mesa_lease.specs.Book.{ended}
use Rattle.mesa_binding.proofs.mesa_columns.Lists.{map_at}
use Rattle.mesa_catalog.specs.mesa_schema.Recasts.{Recast}
use Rattle.mesa_commit.specs.declared.trash.Dropped.{Dropped}
use Rattle.mesa_disk.specs.Story.{Story}
use Rattle.mesa_model.specs.declared.entries.Entry.{Entry}
use Rattle.mesa_model.specs.Tables.{table_recast}
use Rattle.mesa_model.specs.Warehouse.{Table, table_at}
use Rattle.mesa_invariant_spec.specs.mesa_history_spec.Found.{Kept}
use Rattle.mesa_invariant_spec.specs.mesa_history_spec.Machine.{Claim, without_cumulatives}
use Rattle.mesa_record.specs.declared.recasting.Recasting.{Recasting}
use Rattle.mesa_record.specs.declared.record.Record.TheVariants as record_of
use Rattle.mesa_catalog.specs.mesa_store_spec.Catalog.{Catalog, Ending, TableMeta, applied, base_recast, end_in, no_meta, ranges_of, meta_at, meta_recast}
use Rattle.mesa_catalog.specs.mesa_store_spec.Contents.{kept_of}
use Rattle.mesa_catalog.specs.mesa_store_spec.Moves.{Moves, kept_recast}
use Rattle.mesa_catalog.specs.mesa_store_spec.Rewritten.{Rewritten, base_rewritten, recasting_of}
use Rattle.mesa_invariant_spec.proofs.mesa_history_spec.BareLists.{set_same}
use Rattle.mesa_invariant_spec.specs.mesa_history_spec.Rows.{Rows}
use Rattle.mesa_invariant_spec.specs.Books.{Books, recast_books}
use Rattle.mesa_invariant_spec.specs.Invariant.{Outset}
use Rattle.mesa_invariant_spec.specs.Works.{Regroups}
use Rattle.mesa_engine.specs.EngineState.{EngineState, books_of, next_id, projection_of, projections}
use Rattle.mesa_engine.specs.Recorded.{recorded_state}
use Rattle.mesa_engine.specs.Vault.{Origin, IsVault}
use Rattle.mesa_engine.proofs.Agreeing.{same_kept, same_pins}

-- a base ends where it did
base_ends : (epoch : ℕ) (made : List Rewritten) (old : Option Ending) → option_map end_in (option_map (base_recast epoch) (base_rewritten made old)) ≡ option_map end_in old
base_ends epoch made None = refl
base_ends epoch made (Some e) = refl

module _ (o : Outset) (g : Origin) (sound : Bool) (l : EngineState) (story : Story) (held : Option (List ℕ)) (h : List Entry) (running refused : Bool) (v : IsVault o g sound l story held h running refused)
    (later : Rows) (agree : (id : ℕ) → id < next_id l → later id ≡ v.rows id) (claim : Claim) (r : Recast) (made : List Rewritten) where
  abbrev c : Catalog
  c = l.catalogue

  abbrev t : TableMeta
  t = meta_at l.catalogue claim.table

  abbrev k : Recasting
  k = recasting_of claim.table t r made

  abbrev x : Catalog
  x = applied l.catalogue (record_of.Recast k)

  abbrev old : Books
  old = books_of v.rows l

  -- The claim's table is recast, and the store then keeps what the catalogue stands for.
  pub recast_is : (IsTrue sound → Moves later c (record_of.Recast k) (kept_recast (kept_of later c) claim.table r)) → Regroups sound old claim r (kept_of later x)
  recast_is moves s had ok = ap (λ (kept : Kept). kept_recast kept claim.table r) (had.rows ok ∙ sym (same_kept o g sound l story held h running refused v later agree)) ∙ sym (moves ok).kept

  tables : map projection_of (slice_set c.tables claim.table (meta_recast c.next t k)) ≡ slice_set (map projection_of c.tables) claim.table (table_recast (table_at (projections c) claim.table) r)
  tables = set_same projection_of c.tables claim.table (meta_recast c.next t k) ∙ ap (λ (u : Table). slice_set (map projection_of c.tables) claim.table (table_recast u r)) (sym (map_at projection_of c.tables claim.table no_meta))

  ranges : map ranges_of (slice_set c.tables claim.table (meta_recast c.next t k)) ≡ slice_set (map ranges_of c.tables) claim.table (without_cumulatives (slice_index_or (map ranges_of c.tables) claim.table (ranges_of no_meta)))
  ranges = map-set ranges_of c.tables claim.table (meta_recast c.next t k)
      ∙ ap (slice_set (map ranges_of c.tables) claim.table) ((λ i. record { base_to = base_ends k.epoch made t.base i; cumulatives = [] }) ∙ ap without_cumulatives (sym (map_at ranges_of c.tables claim.table no_meta)))

  -- and the books are those of the state.
  pub recast_as : (generation : ℕ) (waits : List Dropped) (adopted end : ℕ) → books_of later (recorded_state l x generation waits (ended claim.table claim.lease l.leases) adopted end) ≡ recast_books claim r (kept_of later x) old
  recast_as generation waits adopted end = λ i. record (books_of later (recorded_state l x generation waits (ended claim.table claim.lease l.leases) adopted end)) {
    bare = record old.bare { store = record { tables = tables i; floor = c.floor } };
    machine = record { ranges = ranges i; leases = ended claim.table claim.lease l.leases };
    pins = same_pins o g sound l story held h running refused v later agree i;
  }
