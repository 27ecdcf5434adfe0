-- What the record of a swap makes of a vault's books is what the range machine makes of a claim.
use Rattle.std.proofs.Common.{◌≡◌, ℕ, ◌<◌, List, map, Bool, true, false, refl, sym, ◌∙◌, ap, Option, Some, None, IsTrue}
use Rattle.std.specs.Prelude.{slice_set, slice_index_or, if◌then◌else◌, ◌==◌}
use Rattle.std.proofs.lemmas.List.{map-set}
use Rattle.mesa_lease.specs.Book.{Book, ended, last_of, with_last}
use Rattle.mesa_lease.specs.declared.lease.Lease.{Lease}
use Rattle.mesa_binding.proofs.mesa_columns.Lists.{map_at}
use Rattle.mesa_catalog.specs.mesa_span.declared.works.Work.{Work}
use Rattle.mesa_catalog.specs.mesa_span.declared.works.Work.TheVariants as range
use Rattle.mesa_catalog.specs.mesa_span.Work.{swapped}
use Rattle.mesa_commit.specs.declared.trash.Dropped.{Dropped}
use Rattle.mesa_disk.specs.Story.{Story}
use Rattle.mesa_model.specs.declared.entries.Entry.{Entry}
use Rattle.mesa_invariant_spec.specs.mesa_history_spec.Machine.{Claim, swapped_reply}
use Rattle.mesa_record.specs.declared.record.Files.{Files}
use Rattle.mesa_record.specs.declared.record.Record.TheVariants as record_of
use Rattle.mesa_catalog.specs.mesa_store_spec.Catalog.{Catalog, Delta, TableMeta, applied, merged_delta, no_meta, ranges_of, meta_at, meta_swapped}
use Rattle.mesa_catalog.specs.mesa_store_spec.Contents.{kept_of}
use Rattle.mesa_catalog.proofs.mesa_store_spec.Kept.{IsWithin, ranges_swapped, set_same as set_back, swap_moves}
use Rattle.mesa_catalog.specs.mesa_store_spec.Brought.{Replaces, merged_of}
use Rattle.mesa_catalog.specs.mesa_store_spec.Moves.{kept_swapped, work_of}
use Rattle.mesa_invariant_spec.proofs.mesa_history_spec.BareLists.{set_same}
use Rattle.mesa_invariant_spec.specs.mesa_history_spec.Rows.{Rows}
use Rattle.mesa_invariant_spec.specs.Books.{Books, swapped_books}
use Rattle.mesa_invariant_spec.specs.Invariant.{Outset}
use Rattle.mesa_invariant_spec.specs.Works.{Swaps}
use Rattle.mesa_engine.specs.EngineState.{EngineState, books_of, next_id, projection_of}
use Rattle.mesa_engine.specs.Recorded.{recorded_state}
use Rattle.mesa_engine.specs.Vault.{Origin, IsVault}
use Rattle.mesa_engine.proofs.Agreeing.{same_kept, same_pins}
use Rattle.mesa_engine.proofs.Sources.{LeavesWritten}

-- a swap leaves what stands written
pub swap_leaves : (w : Work) → LeavesWritten (swapped_reply w)
swap_leaves (range.Base to) = λ s c stage. refl
swap_leaves (range.Cumulative from to) = λ s c stage. refl

-- a lease that ends was granted before
pub ended_granted : (table number : ℕ) (book : Book) → (ended table number book).granted ≡ book.granted
ended_granted table number book = by (last_of book table)
  where
    ends : (b : Bool) (lease : Lease) → (if b then with_last table (record lease { ended = true }) book else book).granted ≡ book.granted
    ends true lease = refl
    ends false lease = refl

    by : (q : Option Lease) → (elim q as (λ y. Book) [ None ↦ book | Some lease ↦ if lease.number == number then with_last table (record lease { ended = true }) book else book ]).granted ≡ book.granted
    by None = refl
    by (Some lease) = ends (lease.number == number) lease

-- a table keeps its projection
swap_projection : (t : TableMeta) (base : Bool) (to : ℕ) (d : Delta) → projection_of (meta_swapped t base to d) ≡ projection_of t
swap_projection t true to d = refl
swap_projection t false to d = refl

module _ (o : Outset) (g : Origin) (sound : Bool) (l : EngineState) (story : Story) (held : Option (List ℕ)) (h : List Entry) (running refused : Bool) (v : IsVault o g sound l story held h running refused)
    (later : Rows) (agree : (id : ℕ) → id < next_id l → later id ≡ v.rows id) (claim : Claim) (work : Work) (base : Bool) (from to epoch : ℕ) (files : Option Files) (work_is : work_of base from to ≡ work) where
  abbrev c : Catalog
  c = l.catalogue

  abbrev t : TableMeta
  t = meta_at l.catalogue claim.table

  abbrev x : Catalog
  x = applied l.catalogue (record_of.Swap claim.table base from to epoch files)

  abbrev old : Books
  old = books_of v.rows l

  -- The claim's range is swapped in, and the store then keeps what the catalogue stands for.
  pub swap_is : IsWithin base t to → (IsTrue sound → Replaces later t.lineage (merged_delta epoch files) (merged_of t base to)) → Swaps sound old claim work (kept_of later x)
  swap_is within replaces s had ok =
      ap (λ k. kept_swapped k claim.table work) (had.rows ok ∙ sym (same_kept o g sound l story held h running refused v later agree)) ∙ ap (kept_swapped (kept_of later c) claim.table) (sym work_is)
      ∙ sym (swap_moves later c claim.table base from to epoch files within (replaces ok))

  projections : map projection_of (slice_set c.tables claim.table (meta_swapped t base to (merged_delta epoch files))) ≡ map projection_of c.tables
  projections = set_same projection_of c.tables claim.table (meta_swapped t base to (merged_delta epoch files)) ∙ ap (slice_set (map projection_of c.tables) claim.table) (swap_projection t base to (merged_delta epoch files))
      ∙ sym (set_same projection_of c.tables claim.table t) ∙ ap (map projection_of) (set_back c.tables claim.table no_meta)

  ranges : map ranges_of (slice_set c.tables claim.table (meta_swapped t base to (merged_delta epoch files))) ≡ slice_set (map ranges_of c.tables) claim.table (swapped work (slice_index_or (map ranges_of c.tables) claim.table (ranges_of no_meta)))
  ranges = map-set ranges_of c.tables claim.table (meta_swapped t base to (merged_delta epoch files))
      ∙ ap (slice_set (map ranges_of c.tables) claim.table) (ranges_swapped t base from to (merged_delta epoch files) ∙ (λ i. swapped (work_is i) (sym (map_at ranges_of c.tables claim.table no_meta) i)))

  -- and the books are those of the state.
  pub swapped_as : (generation : ℕ) (waits : List Dropped) (adopted end : ℕ) → books_of later (recorded_state l x generation waits (ended claim.table claim.lease l.leases) adopted end) ≡ swapped_books claim work (kept_of later x) old
  swapped_as generation waits adopted end = λ i. record (books_of later (recorded_state l x generation waits (ended claim.table claim.lease l.leases) adopted end)) {
    bare = record old.bare { store = record { tables = projections i; floor = c.floor } };
    machine = record { ranges = ranges i; leases = ended claim.table claim.lease l.leases };
    pins = same_pins o g sound l story held h running refused v later agree i;
  }
