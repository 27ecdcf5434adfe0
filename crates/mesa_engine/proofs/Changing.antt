-- What a record makes of a vault's books is what its command makes of a warehouse.
use Rattle.std.proofs.Common.{◌≡◌, ℕ, ◌+◌, ◌<◌, List, [], ◌∷◌, ◌++◌, map, length, Bool, true, refl, sym, ◌∙◌, ap, Option, None, Some, Ok}
use Rattle.std.specs.Prelude.{slice_set}
use Rattle.std.proofs.lemmas.List.{map-set}
use Rattle.std.proofs.lemmas.Simd.{map-map}
use Rattle.mesa_batch.specs.Batch.{Named, Placed, batch_of, rows_for}
use Rattle.mesa_batch.specs.declared.words.RowWords.{RowWords}
use Rattle.mesa_catalog.specs.mesa_columns.declared.changes.Change.{Change}
use Rattle.mesa_catalog.specs.mesa_columns.declared.views.View.{View}
use Rattle.mesa_catalog.specs.mesa_columns.Columns.{Columns}
use Rattle.mesa_catalog.specs.mesa_schema.Changes.{Lineage, columns_of, epoch_of}
use Rattle.mesa_catalog.specs.mesa_schema.Views.{with_view}
use Rattle.mesa_commit.specs.declared.trash.Dropped.{Dropped}
use Rattle.mesa_disk.specs.Story.{Story}
use Rattle.mesa_model.specs.declared.commands.AlterWords.{AlterWords}
use Rattle.mesa_model.specs.declared.commands.TableWords.{TableWords}
use Rattle.mesa_model.specs.declared.commands.ViewWords.{ViewWords}
use Rattle.mesa_model.specs.declared.entries.Entry.{Entry}
use Rattle.mesa_model.specs.declared.replies.Reply.{Reply}
use Rattle.mesa_model.specs.declared.replies.Reply.TheVariants as reply
use Rattle.mesa_model.specs.Load.{load_batch, tables_loaded, tables_named, table_loaded, with_batch}
use Rattle.mesa_model.specs.Relations.{table_number}
use Rattle.mesa_model.specs.Tables.{make_table, make_view, alter_table, columns_asked, new_table, change_asked, table_changed}
use Rattle.mesa_model.specs.Versions.{expire_all, expire_table, store_from, table_from}
use Rattle.mesa_model.specs.Warehouse.{Table, Warehouse, table_at, with_table, no_table}
use Rattle.mesa_invariant_spec.specs.mesa_history_spec.Found.{Kept, kept_of as kept_by}
use Rattle.mesa_invariant_spec.specs.mesa_history_spec.Machine.{with_new_table}
use Rattle.mesa_invariant_spec.specs.mesa_history_spec.Replay.{stepped}
use Rattle.mesa_invariant_spec.specs.mesa_history_spec.Run.{State}
use Rattle.mesa_record.specs.declared.record.Part.{Part}
use Rattle.mesa_record.specs.declared.record.Record.TheVariants as record_of
use Rattle.mesa_record.specs.mesa_record_fields.Rules.{IsTypedChange}
use Rattle.mesa_catalog.specs.mesa_span.Ranges.{new_ranges}
use Rattle.mesa_catalog.specs.mesa_store_spec.Catalog.{Catalog, TableMeta, applied, new_meta, no_meta, ranges_of, meta_at, meta_changed, meta_from, meta_viewed, metas_loaded}
use Rattle.mesa_catalog.specs.mesa_store_spec.Contents.{kept_of, table_of}
use Rattle.mesa_catalog.specs.mesa_store_spec.Fitting.{alter_fits}
use Rattle.mesa_catalog.specs.mesa_store_spec.Shape.{IsCatalog}
use Rattle.mesa_catalog.proofs.mesa_store_spec.Agreeing.{agree_sound_rows}
use Rattle.mesa_catalog.proofs.mesa_store_spec.Changes.{alter_moves}
use Rattle.mesa_catalog.proofs.mesa_store_spec.Kept.{expire_moves, publish_moves}
use Rattle.mesa_catalog.proofs.mesa_store_spec.Expiring.{expire_table_moves}
use Rattle.mesa_catalog.proofs.mesa_store_spec.Tables.{table_moves}
use Rattle.mesa_catalog.proofs.mesa_store_spec.Views.{ranges_same, view_moves}
use Rattle.mesa_catalog.specs.mesa_store_spec.Brought.{BringsAll}
use Rattle.mesa_catalog.specs.mesa_store_spec.Moves.{kept_altered, kept_expired, kept_expired_of, kept_loaded, kept_made, kept_viewed}
use Rattle.mesa_catalog.specs.mesa_store_spec.Sourced.{tables_read}
use Rattle.mesa_invariant_spec.proofs.mesa_history_spec.BareLists.{append_same, at_same, set_same}
use Rattle.mesa_invariant_spec.proofs.mesa_history_spec.BareSteps.{alter-bare, expire-bare, load-bare, number_bare, table-bare, view-bare}
use Rattle.mesa_invariant_spec.specs.mesa_history_spec.Bare.{bare, bare_table}
use Rattle.mesa_invariant_spec.specs.mesa_history_spec.Rows.{Rows}
use Rattle.mesa_invariant_spec.specs.Books.{Books, AreBooksOf}
use Rattle.mesa_invariant_spec.specs.Changes.{IsChange}
use Rattle.mesa_invariant_spec.specs.Invariant.{Outset}
use Rattle.mesa_invariant_spec.proofs.Making.{alter_made, expire_made, expire_table_made, load_made, made_change, table_made, view_made}
use Rattle.mesa_invariant_spec.proofs.Projections.{named_is}
use Rattle.mesa_engine.specs.EngineState.{EngineState, books_of, next_id, projection_of, projections}
use Rattle.mesa_engine.specs.Recorded.{recorded_state}
use Rattle.mesa_engine.specs.Vault.{Origin, IsVault}
use Rattle.mesa_engine.proofs.Agreeing.{named_agree, same_kept, same_pins}
use Rattle.mesa_engine.proofs.Pins.{bare_pins, bare_tables}

-- ---- projections of tables

-- a table that is loaded has the projection that its own would have
loaded_bare : (batch : List Placed) (number : ℕ) (ts : List Table) → map bare_table (tables_loaded batch number ts) ≡ map bare_table (tables_loaded batch number (map bare_table ts))
loaded_bare batch number [] = refl
loaded_bare batch number (t ∷ ts) = ap (λ (x : List Table). bare_table (table_loaded t (rows_for number batch)) ∷ x) (loaded_bare batch (number + 1) ts)

bare_kept : (rows : Rows) (next : ℕ) (ts : List TableMeta) → map bare_table (map (table_of rows next) ts) ≡ map projection_of ts
bare_kept rows next [] = refl
bare_kept rows next (t ∷ ts) = ap (λ (x : List Table). projection_of t ∷ x) (bare_kept rows next ts)

-- the table of a number without its contents
at_projection : (c : Catalog) (number : ℕ) → table_at (projections c) number ≡ projection_of (meta_at c number)
at_projection c number = at_same projection_of c.tables number no_meta

set_projection : (c : Catalog) (number : ℕ) (t : Table) (u : TableMeta) → bare_table t ≡ projection_of u → map bare_table (slice_set (map projection_of c.tables) number t) ≡ map projection_of (slice_set c.tables number u)
set_projection c number t u is = set_same bare_table (map projection_of c.tables) number t ∙ (λ i. slice_set (bare_tables c.tables i) number (is i)) ∙ sym (set_same projection_of c.tables number u)

-- ---- ranges

table_ranges : (rows : Rows) (c : Catalog) (name : List ℕ) (s : Columns) → map ranges_of (c.tables ++ new_meta c name s ∷ []) ≡ map ranges_of c.tables ++ new_ranges c.floor ∷ []
unfolding kept_of
table_ranges rows c name s = ap (λ (k : Kept). k.ranges) (table_moves rows c name s.keys s.values)

set_ranges : (c : Catalog) (number : ℕ) (u : TableMeta) → ranges_of u ≡ ranges_of (meta_at c number) → map ranges_of (slice_set c.tables number u) ≡ map ranges_of c.tables
set_ranges c number u same = map-set ranges_of c.tables number u ∙ ap (slice_set (map ranges_of c.tables) number) same ∙ ranges_same c number

loaded_ranges : (rows : Rows) (c : Catalog) (parts : List Part) (batch : List Placed) → IsCatalog c → BringsAll rows parts batch 0 c.tables → map ranges_of (metas_loaded parts 0 c.tables) ≡ map ranges_of c.tables
unfolding kept_of
loaded_ranges rows c parts batch is brings = ap (λ (k : Kept). k.ranges) (publish_moves rows c 0 parts batch is brings)

-- ---- batches

-- the tables of a batch that is loaded, without their contents
loaded_tables : (rows : Rows) (c : Catalog) (parts : List Part) (batch : List Placed) → IsCatalog c → BringsAll rows parts batch 0 c.tables → map bare_table (tables_loaded batch 0 (map projection_of c.tables)) ≡ map projection_of (metas_loaded parts 0 c.tables)
unfolding kept_of
loaded_tables rows c parts batch is brings =
    ap (λ ts. map bare_table (tables_loaded batch 0 ts)) (sym (bare_kept rows c.next c.tables)) ∙ sym (loaded_bare batch 0 (map (table_of rows c.next) c.tables))
    ∙ ap (λ (k : Kept). map bare_table k.store.tables) (sym (publish_moves rows c 0 parts batch is brings)) ∙ bare_kept rows (c.next + 1) (metas_loaded parts 0 c.tables)

-- the tables by which a load's rows are read
pub tables_are : (c : Catalog) → tables_named (projections c) ≡ tables_read c
tables_are c = map-map _ _ c.tables

read_same : (a b : List Placed) (x y : List Named) (words : List RowWords) → x ≡ y → batch_of x words ≡ Ok a → batch_of y words ≡ Ok b → a ≡ b
read_same a b x y words same one two = let both : Ok a ≡ Ok b = sym one ∙ ap (λ n. batch_of n words) same ∙ two in cc

module _ (o : Outset) (g : Origin) (sound : Bool) (l : EngineState) (story : Story) (held : Option (List ℕ)) (h : List Entry) (running refused : Bool) (v : IsVault o g sound l story held h running refused)
    (later : Rows) (agree : (id : ℕ) → id < next_id l → later id ≡ v.rows id) (was_open : l.closed ≡ None) (generation : ℕ) (waits : List Dropped) (adopted end : ℕ) where
  abbrev c : Catalog
  c = l.catalogue

  abbrev old : Books
  old = books_of v.rows l

  abbrev new_of : Catalog → Books
  new_of x = books_of later (recorded_state l x generation waits l.leases adopted end)

  kept_same : kept_of later c ≡ old.kept
  kept_same = same_kept o g sound l story held h running refused v later agree

  pins_same : old.pins ≡ (new_of c).pins
  pins_same = sym (same_pins o g sound l story held h running refused v later agree)

  -- books of a warehouse that has the projections of a catalogue's tables
  projection_is : (made : Warehouse) (tables : List Table) (floor next : ℕ) (x : Catalog) → made ≡ record old.bare { store = record { tables = tables; floor = floor }; next = next } → map bare_table tables ≡ map projection_of x.tables → floor ≡ x.floor → next ≡ x.next → bare made ≡ (new_of x).bare
  projection_is made tables floor next x is same floor_is next_is = ap bare is ∙ (λ i. record (new_of x).bare { store = record { tables = same i; floor = floor_is i }; next = next_is i; pins = bare_pins l.pins i })

  -- ---- an expiry

  pub expire_change : (version : ℕ) → version < c.next → (made : Warehouse) → expire_all old.bare version ≡ Ok (made, reply.Expired None version)
      → IsChange sound old (new_of (applied c (record_of.Expire version))) (λ w. expire_all w version) (reply.Expired None version)
  expire_change version lt made done =
      made_change sound old (new_of (applied c (record_of.Expire version))) (λ w. expire_all w version) (reply.Expired None version) (λ w. expire-bare w None version) made done was_open refl
      (projection_is made _ version c.next (applied c (record_of.Expire version)) (expire_made old.bare version made (reply.Expired None version) done).0 tables refl refl)
      (λ i. record { ranges = sym (map-map ranges_of (meta_from version) c.tables) i; leases = l.leases }) (λ ok. pins_same)
      (λ s after had is ok. (let m = expire_made s.warehouse version after (reply.Expired None version) is in
      (ap (λ (w : Warehouse). kept_by (stepped s w (reply.Expired None version))) m.0 ∙ ap (λ k. kept_expired k version) (had.rows ok ∙ sym kept_same) ∙ sym (expire_moves later c version lt), ap (λ (w : Warehouse). w.pins) m.0)))
    where
      tables : map bare_table (store_from (projections c) version).tables ≡ map projection_of (map (meta_from version) c.tables)
      tables = map-map _ _ (map projection_of c.tables) ∙ map-map _ _ c.tables ∙ sym (map-map projection_of (meta_from version) c.tables)

  -- the number of a table that a state and its books find by a name
  number_same : (s : State) (name : List ℕ) (n number : ℕ) → AreBooksOf sound old s → table_number s.warehouse.store name ≡ Some n → table_number old.bare.store name ≡ Some number → n ≡ number
  number_same s name n number had one two =
      let both : Some n ≡ Some number = sym one ∙ number_bare s.warehouse.store name ∙ ap (λ (w : Warehouse). table_number w.store name) had.projection ∙ two in cc

  -- ---- an expiry of one table

  module _ (name : List ℕ) (number version : ℕ) (found : table_number old.bare.store name ≡ Some number) where
    pub expire_table_change : number < length c.tables → version < c.next → (made : Warehouse) → expire_table old.bare name version ≡ Ok (made, reply.Expired (Some name) version)
        → IsChange sound old (new_of (applied c (record_of.ExpireTable number version))) (λ w. expire_table w name version) (reply.Expired (Some name) version)
    expire_table_change there lt made done =
        made_change sound old (new_of (applied c (record_of.ExpireTable number version))) (λ w. expire_table w name version) (reply.Expired (Some name) version) (λ w. expire-bare w (Some name) version) made done was_open refl
        (projection_is made _ c.floor c.next (applied c (record_of.ExpireTable number version)) made_is
        (set_projection c number (table_from version (table_at old.bare.store number)) (meta_from version (meta_at c number)) (ap (λ (t : Table). bare_table (table_from version t)) (at_projection c number))) refl refl)
        (λ i. record { ranges = sym (set_ranges c number (meta_from version (meta_at c number)) refl) i; leases = l.leases }) (λ ok. pins_same)
        (λ s after had is ok. (let m = expire_table_made s.warehouse name version after (reply.Expired (Some name) version) is in
        let after_is : after ≡ with_table s.warehouse number (table_from version (table_at s.warehouse.store number)) = m.2 ∙ ap (λ n. with_table s.warehouse n (table_from version (table_at s.warehouse.store n))) (number_same s name m.0 number had m.1 found) in
        (ap (λ (w : Warehouse). kept_by (stepped s w (reply.Expired (Some name) version))) after_is ∙ ap (λ k. kept_expired_of k number version) (had.rows ok ∙ sym kept_same) ∙ sym (expire_table_moves later c number version there lt), ap (λ (w : Warehouse). w.pins) after_is)))
      where
        made_is : made ≡ with_table old.bare number (table_from version (table_at old.bare.store number))
        made_is = let m = expire_table_made old.bare name version made (reply.Expired (Some name) version) done in
            let same : m.0 ≡ number = (let both : Some m.0 ≡ Some number = sym m.1 ∙ found in cc) in
            m.2 ∙ ap (λ n. with_table old.bare n (table_from version (table_at old.bare.store n))) same

  -- ---- a table

  pub table_change : (words : TableWords) (made : Warehouse) → make_table old.bare words ≡ Ok (made, reply.Table words.table)
      → IsChange sound old (new_of (applied c (record_of.Table words.table (columns_asked words).keys (columns_asked words).values))) (λ w. make_table w words) (reply.Table words.table)
  table_change words made done =
      made_change sound old (new_of (applied c (record_of.Table words.table (columns_asked words).keys (columns_asked words).values))) (λ w. make_table w words) (reply.Table words.table) (λ w. table-bare w words) made done was_open refl
      (projection_is made _ c.floor c.next (applied c (record_of.Table words.table (columns_asked words).keys (columns_asked words).values)) made_is tables refl refl)
      (ap (λ (w : Warehouse). with_new_table old.machine w.store.floor) made_is ∙ (λ i. record { ranges = sym (table_ranges later c words.table (columns_asked words)) i; leases = l.leases })) (λ ok. pins_same)
      (λ s after had is ok. (let m = table_made s.warehouse words after (reply.Table words.table) is in (
        ap (λ (w : Warehouse). kept_by (stepped s w (reply.Table words.table))) m.0 ∙ ap (λ k. kept_made k words.table (columns_asked words)) (had.rows ok ∙ sym kept_same)
            ∙ sym (table_moves later c words.table (columns_asked words).keys (columns_asked words).values),
        ap (λ (w : Warehouse). w.pins) m.0,
      )))
    where
      made_is : made ≡ record old.bare { store = record { tables = map projection_of c.tables ++ new_table old.bare words.table (columns_asked words) ∷ []; floor = c.floor }; next = c.next }
      made_is = (table_made old.bare words made (reply.Table words.table) done).0

      tables : map bare_table (map projection_of c.tables ++ new_table old.bare words.table (columns_asked words) ∷ []) ≡ map projection_of (c.tables ++ new_meta c words.table (columns_asked words) ∷ [])
      tables = append_same bare_table (map projection_of c.tables) (new_table old.bare words.table (columns_asked words) ∷ []) ∙ (λ i. bare_tables c.tables i ++ projection_of (new_meta c words.table (columns_asked words)) ∷ [])
          ∙ sym (append_same projection_of c.tables (new_meta c words.table (columns_asked words) ∷ []))

  -- ---- a batch

  pub load_change : (words : List RowWords) (batch : List Placed) → batch_of (tables_read c) words ≡ Ok batch → (version : ℕ) (parts : List Part) → BringsAll later parts batch 0 c.tables → (made : Warehouse) → load_batch old.bare words ≡ Ok (made, reply.Loaded c.next (length batch))
      → IsChange sound old (new_of (applied c (record_of.Publish version parts))) (λ w. load_batch w words) (reply.Loaded c.next (length batch))
  load_change words batch read version parts brings made done =
      made_change sound old (new_of (applied c (record_of.Publish version parts))) (λ w. load_batch w words) (reply.Loaded c.next (length batch)) (λ w. load-bare w words) made done was_open refl
      (projection_is made _ c.floor (c.next + 1) (applied c (record_of.Publish version parts)) made_is (loaded_tables later c parts batch v.shaped brings) refl refl)
      (λ i. record { ranges = sym (loaded_ranges later c parts batch v.shaped brings) i; leases = l.leases }) (λ ok. pins_same)
      (λ s after had is ok. (let m = load_made s.warehouse words after (reply.Loaded c.next (length batch)) is in
      let same : m.0 ≡ batch = read_same m.0 batch _ (tables_read c) words (named_is sound old s had ∙ tables_are c) m.1 read in
      let after_is : after ≡ with_batch s.warehouse batch = m.2 ∙ ap (with_batch s.warehouse) same in
      (ap (λ (w : Warehouse). kept_by (stepped s w (reply.Loaded c.next (length batch)))) after_is ∙ ap (λ k. kept_loaded k batch) (had.rows ok ∙ sym kept_same) ∙ sym (publish_moves later c version parts batch v.shaped brings), ap (λ (w : Warehouse). w.pins) after_is)))
    where
      made_is : made ≡ with_batch old.bare batch
      made_is = let m = load_made old.bare words made (reply.Loaded c.next (length batch)) done in m.2 ∙ ap (with_batch old.bare) (read_same m.0 batch _ (tables_read c) words (tables_are c) m.1 read)

  -- ---- a view

  -- its lineage
  lineage_same : (s : State) (number : ℕ) → AreBooksOf sound old s → (table_at s.warehouse.store number).lineage ≡ (meta_at c number).lineage
  lineage_same s number had =
      ap (λ (t : Table). t.lineage) (sym (at_same bare_table s.warehouse.store.tables number no_table)) ∙ ap (λ (w : Warehouse). (table_at w.store number).lineage) had.projection ∙ ap (λ (t : Table). t.lineage) (at_projection c number)

  module _ (words : ViewWords) (number : ℕ) (found : table_number old.bare.store words.table ≡ Some number) where
    abbrev view : View
    view = record { name = words.view; keys = words.keys; values = words.values }

    abbrev viewed : Table → Table
    viewed t = record t { lineage = with_view t.lineage view }

    pub view_change : number < length c.tables → (made : Warehouse) → make_view old.bare words ≡ Ok (made, reply.View words.view)
        → IsChange sound old (new_of (applied c (record_of.View number words.view words.keys words.values))) (λ w. make_view w words) (reply.View words.view)
    view_change there made done =
        made_change sound old (new_of (applied c (record_of.View number words.view words.keys words.values))) (λ w. make_view w words) (reply.View words.view) (λ w. view-bare w words) made done was_open refl
        (projection_is made _ c.floor c.next (applied c (record_of.View number words.view words.keys words.values)) made_is
        (set_projection c number (viewed (table_at old.bare.store number)) (meta_viewed (meta_at c number) words.view words.keys words.values) (ap (λ (t : Table). bare_table (viewed t)) (at_projection c number))) refl refl)
        (λ i. record { ranges = sym (set_ranges c number (meta_viewed (meta_at c number) words.view words.keys words.values) refl) i; leases = l.leases }) (λ ok. pins_same)
        (λ s after had is ok. (let m = view_made s.warehouse words after (reply.View words.view) is in
        let after_is : after ≡ with_table s.warehouse number (viewed (table_at s.warehouse.store number)) = m.2 ∙ ap (λ n. with_table s.warehouse n (viewed (table_at s.warehouse.store n))) (number_same s words.table m.0 number had m.1 found) in
        (ap (λ (w : Warehouse). kept_by (stepped s w (reply.View words.view))) after_is ∙ ap (λ k. kept_viewed k number view) (had.rows ok ∙ sym kept_same) ∙ sym (view_moves later c number words.view words.keys words.values there), ap (λ (w : Warehouse). w.pins) after_is)))
      where
        made_is : made ≡ with_table old.bare number (viewed (table_at old.bare.store number))
        made_is = let m = view_made old.bare words made (reply.View words.view) done in
            let same : m.0 ≡ number = (let both : Some m.0 ≡ Some number = sym m.1 ∙ found in cc) in
            m.2 ∙ ap (λ n. with_table old.bare n (viewed (table_at old.bare.store n))) same

  -- ---- a change of columns

  module _ (words : AlterWords) (number : ℕ) (found : table_number old.bare.store words.table ≡ Some number) (change : Change) (asked : change_asked (columns_of (meta_at c number).lineage) words.change ≡ Ok change) where
    change_same : (lineage : Lineage) (x : Change) → lineage ≡ (meta_at c number).lineage → change_asked (columns_of lineage) words.change ≡ Ok x → x ≡ change
    change_same lineage x same is = let both : Ok x ≡ Ok change = sym is ∙ ap (λ (k : Lineage). change_asked (columns_of k) words.change) same ∙ asked in cc

    abbrev tells : Reply
    tells = reply.Altered words.table (epoch_of (meta_at c number).lineage + 1)

    pub alter_change : alter_fits c number change ≡ true → IsTypedChange change → (made : Warehouse) → alter_table old.bare words ≡ Ok (made, tells)
        → IsChange sound old (new_of (applied c (record_of.Alter number change))) (λ w. alter_table w words) tells
    alter_change fit typed made done =
        made_change sound old (new_of (applied c (record_of.Alter number change))) (λ w. alter_table w words) tells (λ w. alter-bare w words) made done was_open refl
        (projection_is made _ c.floor c.next (applied c (record_of.Alter number change)) made_is
        (set_projection c number (table_changed (table_at old.bare.store number) change) (meta_changed (meta_at c number) change) (ap (λ (t : Table). bare_table (table_changed t change)) (at_projection c number))) refl refl)
        (λ i. record { ranges = sym (set_ranges c number (meta_changed (meta_at c number) change) refl) i; leases = l.leases }) (λ ok. pins_same)
        (λ s after had is ok. (let m = alter_made s.warehouse words after tells is in
        let same : m.0 ≡ number = number_same s words.table m.0 number had m.1 found in
        let which : m.2 ≡ change = change_same (table_at s.warehouse.store m.0).lineage m.2 (ap (λ n. (table_at s.warehouse.store n).lineage) same ∙ lineage_same s number had) m.3 in
        let after_is : after ≡ with_table s.warehouse number (table_changed (table_at s.warehouse.store number) change) = m.4 ∙ (λ i. with_table s.warehouse (same i) (table_changed (table_at s.warehouse.store (same i)) (which i))) in (
          ap (λ (w : Warehouse). kept_by (stepped s w tells)) after_is ∙ ap (λ k. kept_altered k number change) (had.rows ok ∙ sym kept_same)
              ∙ sym (alter_moves c number change v.shaped fit later (agree_sound_rows v.rows later c (named_agree o g sound l story held h running refused v later agree) (v.sound_rows ok).0) typed),
          ap (λ (w : Warehouse). w.pins) after_is,
        )))
      where
        made_is : made ≡ with_table old.bare number (table_changed (table_at old.bare.store number) change)
        made_is = let m = alter_made old.bare words made tells done in
            let same : m.0 ≡ number = (let both : Some m.0 ≡ Some number = sym m.1 ∙ found in cc) in
            let which : m.2 ≡ change = change_same (table_at old.bare.store m.0).lineage m.2 (ap (λ n. (table_at old.bare.store n).lineage) same ∙ ap (λ (t : Table). t.lineage) (at_projection c number)) m.3 in
            m.4 ∙ (λ i. with_table old.bare (same i) (table_changed (table_at old.bare.store (same i)) (which i)))
