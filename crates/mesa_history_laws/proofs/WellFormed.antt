-- A well-formed warehouse stays well-formed.
use Rattle.std.proofs.Common.{◌≡◌, ℕ, ◌+◌, ◌-◌, ◌<◌, ◌≤◌, List, [], ◌∷◌, ◌++◌, map, set, refl, sym, ◌∙◌, ap, subst, arith, ◌&&◌, ◌==◌, slice_get, Some, None, Ok, is_none, is_ok, false, true, nat_le, nat_lt, ◌⊎◌, inl, inr}
use Rattle.std.specs.List.{AllByRecursion}
use Rattle.std.specs.Prelude.{max}
use Rattle.std.proofs.lemmas.Bool.{and_parts, eqb-true, leb-false, lt-ltb, ltb-false, ltb-true, or_cases, or_left}
use Rattle.std.proofs.lemmas.List.{length-append, length-drop, length-map, length-replicate}
use Rattle.std.proofs.lemmas.Option.{slice_get-get_or}
use Rattle.mesa_history_spec.specs.mesa_columns.declared.rows.Row.{Row}
use Rattle.mesa_history_spec.specs.mesa_columns.declared.changes.Change.{Change}
use Rattle.mesa_history_spec.specs.mesa_columns.Columns.{Columns, aggs_of}
use Rattle.mesa_history_spec.specs.mesa_columns.Changes.{changed, lifted_once}
use Rattle.mesa_history_spec.specs.mesa_schema.Changes.{change_checked, columns_of, rule_checked}
use Rattle.mesa_history_spec.specs.mesa_fold.Folded.{folded, rows_of}
use Rattle.mesa_history_spec.specs.mesa_schema.Recasts.{Recast, recast_checked, recast_columns, recast_rows}
use Rattle.mesa_history_spec.specs.mesa_columns.Names.{repeated}
use Rattle.mesa_history_spec.specs.mesa_columns.Schema.{schema_checked}
use Rattle.mesa_history_spec.specs.mesa_schema.Lineages.{HasDefault}
use Rattle.mesa_history_spec.specs.mesa_columns.Rows.{AreRowsOf, IsRowOf}
use Rattle.mesa_history_spec.proofs.mesa_fold.Forms.{folded_form}
use Rattle.mesa_history_spec.proofs.mesa_schema.Passing.{passed_first, passed_if, passed_last}
use Rattle.mesa_history_spec.proofs.mesa_columns.Places.{place_named}
use Rattle.mesa_history_spec.specs.mesa_batch.declared.words.RowWords.{RowWords}
use Rattle.mesa_history_spec.specs.mesa_batch.Batch.{Placed, batch_of, rows_for}
use Rattle.mesa_history_spec.specs.mesa_model.declared.commands.Command.{Command}
use Rattle.mesa_history_spec.specs.mesa_model.declared.commands.Script.{Script}
use Rattle.mesa_history_spec.specs.mesa_model.declared.commands.TableWords.{TableWords}
use Rattle.mesa_history_spec.specs.mesa_model.declared.commands.ViewWords.{ViewWords}
use Rattle.mesa_history_spec.specs.mesa_model.declared.entries.Entry.{Entry}
use Rattle.mesa_history_spec.specs.mesa_model.Warehouse.{Store, Table, Warehouse, empty_warehouse, no_table, table_at}
use Rattle.mesa_history_spec.specs.mesa_model.Load.{newest_content, table_loaded, tables_loaded, tables_named}
use Rattle.mesa_history_spec.specs.mesa_model.Relations.{is_taken, table_number}
use Rattle.mesa_history_spec.specs.mesa_model.Step.{step}
use Rattle.mesa_history_spec.specs.mesa_model.Tables.{columns_asked, new_table, table_changed, table_recast, view_of_table_checked}
use Rattle.mesa_history_spec.specs.mesa_model.Versions.{common_oldest, oldest_among, store_from, table_from, version_checked}
use Rattle.mesa_history_spec.specs.mesa_model.WellFormed.{IsContent, IsTable, IsWellFormed, is_kept, relation_names}
use Rattle.mesa_history_spec.specs.Run.{Run}
use Rattle.mesa_history_spec.specs.Replay.{go, runs}
use Rattle.mesa_history_laws.proofs.Batches.{batch_forms}
use Rattle.mesa_history_laws.proofs.LawLoads.{got_loaded}
use Rattle.mesa_history_spec.proofs.mesa_schema.PresentRows.{columns_more, forms_more}
use Rattle.mesa_history_laws.proofs.Lineages.{change_default, lineage_viewed}
use Rattle.mesa_history_spec.proofs.mesa_schema.LineageChanges.{lineage_changed, lineage_new}
use Rattle.mesa_history_spec.proofs.mesa_schema.LineageRecasts.{lineage_recast}
use Rattle.mesa_history_spec.proofs.mesa_schema.Recasting.{recast_form, recast_rise}
use Rattle.mesa_history_spec.proofs.mesa_columns.Lists.{all_append, all_drop, all_from_got, all_got, all_map, all_replicate, all_set, all_so}
use Rattle.mesa_history_laws.proofs.Moves.{Moves, step_moves, viewed}
use Rattle.mesa_history_spec.proofs.mesa_fold.RisingRows.{folded_rise}
use Rattle.mesa_history_spec.proofs.mesa_schema.RisingRows.{lifted_rise}
use Rattle.mesa_history_laws.proofs.Recasts.{ok_is, recast_there}
use Rattle.mesa_history_laws.proofs.RelationNames.{names_changed, names_loaded, names_mapped, names_pushed, names_set, names_viewed}
use Rattle.mesa_history_laws.proofs.Turns.{go_moves}

-- The warehouse with these tables and this many versions, of which nothing else is said.
abbrev pub bare : Store → ℕ → Warehouse
bare s next = record { store = s; next = next; given = []; pins = []; closed = None }

-- ---- what the rules say of places

-- An oldest version is one that is there, where there is one.
pub kept_there : (next oldest : ℕ) → is_kept next oldest ≡ true → (oldest < next) ⊎ ((oldest ≡ 0) × (next ≡ 0))
kept_there next oldest is = elim (or_cases (nat_lt oldest next) ((oldest == 0) && (next == 0)) is) [
  | inl lt ↦ inl (ltb-true oldest next lt)
  | inr none ↦ (let parts = and_parts (oldest == 0) (next == 0) none in inr (eqb-true oldest 0 parts.0, eqb-true next 0 parts.1))
]

-- One that is there is kept.
pub there_kept : (next oldest : ℕ) → oldest < next → is_kept next oldest ≡ true
there_kept next oldest lt = or_left (nat_lt oldest next) _ (lt-ltb oldest next lt)

-- It is kept with one version more.
pub kept_more : (next oldest : ℕ) → is_kept next oldest ≡ true → is_kept (next + 1) oldest ≡ true
kept_more next oldest is = there_kept (next + 1) oldest (elim (kept_there next oldest is) [ inl lt ↦ omega (arith, lt) | inr empty ↦ omega (arith, empty.0) ])

-- The oldest version of a table is one that is there, where there is one.
pub table_kept : (w : Warehouse) → IsWellFormed w → (number : ℕ) (t : Table) → slice_get w.store.tables number ≡ Some t → (t.oldest < w.next) ⊎ ((t.oldest ≡ 0) × (w.next ≡ 0))
table_kept w is number t at = kept_there w.next t.oldest (all_got (IsTable w) w.store.tables number t at is.tables).oldest

-- So is the first version at which all tables can be queried.
pub common_kept : (w : Warehouse) → IsWellFormed w → (common_oldest w.store < w.next) ⊎ ((common_oldest w.store ≡ 0) × (w.next ≡ 0))
common_kept w is = among w.store.tables is.tables
  where
    among : (ts : List Table) → AllByRecursion (IsTable w) ts → (oldest_among w.store.floor ts < w.next) ⊎ ((oldest_among w.store.floor ts ≡ 0) × (w.next ≡ 0))
    among [] all = kept_there w.next w.store.floor is.floor
    among (t ∷ ts) all = elim (kept_there w.next t.oldest all.0.oldest) as (λ _. (oldest_among w.store.floor (t ∷ ts) < w.next) ⊎ ((oldest_among w.store.floor (t ∷ ts) ≡ 0) × (w.next ≡ 0))) [
      | inl lt ↦ elim (among ts all.1) as (λ _. (oldest_among w.store.floor (t ∷ ts) < w.next) ⊎ ((oldest_among w.store.floor (t ∷ ts) ≡ 0) × (w.next ≡ 0))) [
        | inl rest ↦ inl (omega (arith, lt, rest))
        | inr empty ↦ absurd (omega (arith, lt, empty.1))
      ]
      | inr none ↦ elim (among ts all.1) as (λ _. (oldest_among w.store.floor (t ∷ ts) < w.next) ⊎ ((oldest_among w.store.floor (t ∷ ts) ≡ 0) × (w.next ≡ 0))) [
        | inl rest ↦ absurd (omega (arith, none.1, rest))
        | inr empty ↦ inr (omega (arith, none.0, empty.0), none.1)
      ]
    ]

-- A version that may be asked for is one that is there.
pub version_there : (w : Warehouse) (oldest version : ℕ) → is_ok (version_checked w oldest version) ≡ true → (oldest ≤ version) × (version < w.next)
version_there w oldest version h =
    let first = passed_if (nat_lt version oldest) _ _ h in
    (ltb-false version oldest first.0, leb-false w.next version (passed_last (nat_le w.next version) _ first.1))

-- The table that a name gives is there.
pub table_there : (s : Store) (name : List ℕ) (number : ℕ) → table_number s name ≡ Some number → slice_get s.tables number ≡ Some (table_at s number)
table_there s name number e =
    let within = (place_named name (map (λ (t : Table). t.name) s.tables) number [] e).0 in
    slice_get-get_or s.tables number no_table (omega (arith, within, length-map s.tables (λ (t : Table). t.name)))

-- ---- contents

content_folded : (s : Columns) (parts : List (List Row)) → AreRowsOf s (rows_of parts) → IsContent s (folded (aggs_of s) parts)
content_folded s parts all = record { forms = folded_form s parts all; order = folded_rise (aggs_of s) parts }

content_lifted : (s : Columns) (c : Change) (rows : List Row) → HasDefault c → IsContent s rows → IsContent (changed s c) (map (lifted_once s c) rows)
content_lifted s c rows default is = record { forms = forms_more s c rows default is.forms; order = lifted_rise s c rows is.forms ∙ is.order }

newest_forms : (s : Columns) (contents : List (List Row)) → AllByRecursion (IsContent s) contents → AreRowsOf s (newest_content contents)
newest_forms s [] all = tt
newest_forms s (content ∷ []) all = all.0.forms
newest_forms s (content ∷ next ∷ contents) all = newest_forms s (next ∷ contents) all.1

-- ---- tables

same_table : (w other : Warehouse) (t : Table) → other.store.floor ≡ w.store.floor → other.next ≡ w.next → IsTable w t → IsTable other t
same_table w other t floor next is = record {
  lineage = is.lineage;
  above = (let above = is.above in omega (arith, above, floor));
  oldest = ap (λ n. is_kept n t.oldest) next ∙ is.oldest;
  versions = is.versions ∙ (λ i. sym next i - t.oldest);
  contents = is.contents;
}

loaded_table : (w other : Warehouse) (t : Table) (rows : List Row) → other.store.floor ≡ w.store.floor → other.next ≡ w.next + 1
    → AreRowsOf (columns_of t.lineage) rows → IsTable w t → IsTable other (table_loaded t rows)
loaded_table w other t rows floor next forms is =
    let s : Columns = columns_of t.lineage in
    let parts : List (List Row) = newest_content t.contents ∷ rows ∷ [] in
    let new : List Row = folded (aggs_of s) parts in
    record {
      lineage = is.lineage;
      above = (let above = is.above in omega (arith, above, floor));
      oldest = ap (λ n. is_kept n t.oldest) next ∙ kept_more w.next t.oldest is.oldest;
      versions = length-append t.contents (new ∷ []) ∙ (let count = is.versions in elim (kept_there w.next t.oldest is.oldest) [ inl lt ↦ omega (arith, count, lt, next) | inr empty ↦ omega (arith, count, next, empty.0, empty.1) ]);
      contents = all_append (IsContent s) t.contents (new ∷ []) is.contents
          (content_folded s parts (all_append (IsRowOf s) (newest_content t.contents) (rows ++ []) (newest_forms s t.contents is.contents) (all_append (IsRowOf s) rows [] forms tt)), tt);
    }

changed_table : (w other : Warehouse) (t : Table) (c : Change) → other.store.floor ≡ w.store.floor → other.next ≡ w.next → HasDefault c → is_ok (change_checked t.lineage c) ≡ true → IsTable w t → IsTable other (table_changed t c)
changed_table w other t c floor next default rules is =
    let s : Columns = columns_of t.lineage in
    record {
      lineage = lineage_changed t.lineage c is.lineage default rules;
      above = (let above = is.above in omega (arith, above, floor));
      oldest = ap (λ n. is_kept n t.oldest) next ∙ is.oldest;
      versions = length-map t.contents (map (lifted_once s c)) ∙ is.versions ∙ (λ i. sym next i - t.oldest);
      contents = subst (λ columns. AllByRecursion (IsContent columns) (map (map (lifted_once s c)) t.contents)) (sym (columns_more t.lineage c))
          (all_map (IsContent (changed s c)) (map (lifted_once s c)) t.contents (all_so (IsContent s) (λ rows. IsContent (changed s c) (map (lifted_once s c) rows)) t.contents (λ rows content. content_lifted s c rows default content) is.contents));
    }

-- ---- what a turn makes

module _ (w : Warehouse) (is : IsWellFormed w) where
  same_tables : (other : Warehouse) → other.store.floor ≡ w.store.floor → other.next ≡ w.next → AllByRecursion (IsTable other) w.store.tables
  same_tables other floor next = all_so (IsTable w) (IsTable other) w.store.tables (λ t table. same_table w other t floor next table) is.tables

  -- whatever else is said of it
  well_same : (other : Warehouse) → other.store ≡ w.store → other.next ≡ w.next → IsWellFormed other
  well_same other store next = record {
    tables = subst (λ (s : Store). AllByRecursion (IsTable other) s.tables) (sym store) (same_tables other (ap (λ (s : Store). s.floor) store) next);
    names = subst (λ (s : Store). is_none (repeated (relation_names s)) ≡ true) (sym store) is.names;
    floor = (λ i. is_kept (next i) (store i).floor) ∙ is.floor;
  }

  well_loads : (words : List RowWords) (batch : List Placed) → batch_of (tables_named w.store) words ≡ Ok batch → IsWellFormed (bare (record w.store { tables = tables_loaded batch 0 w.store.tables }) (w.next + 1))
  well_loads words batch read =
      let other : Warehouse = bare (record w.store { tables = tables_loaded batch 0 w.store.tables }) (w.next + 1) in
      record {
        tables = all_from_got (IsTable other) (tables_loaded batch 0 w.store.tables) (λ number t' got.
            let from = got_loaded batch 0 w.store.tables number t' got in
            let at : 0 + number ≡ number = omega arith in
            subst (IsTable other) (ap (λ k. table_loaded from.0 (rows_for k batch)) (sym at) ∙ from.2)
            (loaded_table w other from.0 (rows_for number batch) refl refl (batch_forms w.store words batch number from.0 read from.1) (all_got (IsTable w) w.store.tables number from.0 from.1 is.tables)));
        names = ap (λ names. is_none (repeated names)) (names_loaded batch 0 w.store.tables) ∙ is.names;
        floor = kept_more w.next w.store.floor is.floor;
      }

  well_makes : (words : TableWords) → is_taken w.store words.table ≡ false → is_ok (schema_checked (columns_asked words)) ≡ true
      → IsWellFormed (bare (record w.store { tables = w.store.tables ++ new_table w words.table (columns_asked words) ∷ [] }) w.next)
  well_makes words free schema =
      let t : Table = new_table w words.table (columns_asked words) in
      let other : Warehouse = bare (record w.store { tables = w.store.tables ++ t ∷ [] }) w.next in
      record {
        tables = all_append (IsTable other) w.store.tables (t ∷ []) (same_tables other refl refl) (
          record {
            lineage = lineage_new (columns_asked words) schema;
            above = omega arith;
            oldest = is.floor;
            versions = length-replicate (w.next - w.store.floor) [];
            contents = all_replicate (IsContent (columns_asked words)) [] (w.next - w.store.floor) (record { forms = tt; order = refl });
          },
          tt,
        );
        names = names_pushed w.store t refl free is.names;
        floor = is.floor;
      }

  -- one table in the place of another
  well_set : (number : ℕ) (t' : Table) → IsTable (bare (record w.store { tables = set w.store.tables number t' }) w.next) t' → is_none (repeated (relation_names (record w.store { tables = set w.store.tables number t' }))) ≡ true
      → IsWellFormed (bare (record w.store { tables = set w.store.tables number t' }) w.next)
  well_set number t' table names =
      let other : Warehouse = bare (record w.store { tables = set w.store.tables number t' }) w.next in
      record { tables = all_set (IsTable other) w.store.tables number t' table (same_tables other refl refl); names = names; floor = is.floor }

  well_views : (words : ViewWords) (number : ℕ) (t : Table) → slice_get w.store.tables number ≡ Some t → is_taken w.store words.view ≡ false → is_ok (view_of_table_checked t words) ≡ true
      → IsWellFormed (bare (record w.store { tables = set w.store.tables number (viewed t words) }) w.next)
  well_views words number t at free rules =
      let table = all_got (IsTable w) w.store.tables number t at is.tables in
      well_set number (viewed t words)
      (record { lineage = lineage_viewed t words table.lineage rules; above = table.above; oldest = table.oldest; versions = table.versions; contents = table.contents })
      (names_viewed w.store number t words at free is.names)

  well_alters : (number : ℕ) (t : Table) (c : Change) → slice_get w.store.tables number ≡ Some t → HasDefault c → is_ok (change_checked t.lineage c) ≡ true
      → IsWellFormed (bare (record w.store { tables = set w.store.tables number (table_changed t c) }) w.next)
  well_alters number t c at default rules =
      let table = all_got (IsTable w) w.store.tables number t at is.tables in
      well_set number (table_changed t c)
      (changed_table w (bare (record w.store { tables = set w.store.tables number (table_changed t c) }) w.next) t c refl refl default rules table)
      (ap (λ names. is_none (repeated names)) (names_changed w.store.tables number t c at) ∙ is.names)

  well_recasts : (number : ℕ) (r : Recast) → is_ok (recast_checked (table_at w.store number).lineage r) ≡ true → IsWellFormed (bare (record w.store { tables = set w.store.tables number (table_recast (table_at w.store number) r) }) w.next)
  well_recasts number r rules =
      let t : Table = table_at w.store number in
      let at = recast_there w.store number r rules in
      let table = all_got (IsTable w) w.store.tables number t at is.tables in
      let s : Columns = columns_of t.lineage in
      well_set number (table_recast t r)
      (record {
        lineage = lineage_recast t.lineage r table.lineage (ok_is (recast_checked t.lineage r) rules);
        above = table.above;
        oldest = table.oldest;
        versions = length-map t.contents (recast_rows s r) ∙ table.versions;
        contents = all_map (IsContent (recast_columns s r)) (recast_rows s r) t.contents
            (all_so (IsContent s) (λ rows. IsContent (recast_columns s r) (recast_rows s r rows)) t.contents (λ rows content. record { forms = recast_form s r rows content.forms; order = recast_rise s r rows }) table.contents);
      })
      (ap (λ names. is_none (repeated names)) (names_set w.store.tables number t (table_recast t r) at refl) ∙ is.names)

  -- a table without its contents below a version that is there
  from_table : (other : Warehouse) (t : Table) (version : ℕ) → other.next ≡ w.next → other.store.floor ≤ max t.oldest version → version < w.next → IsTable w t → IsTable other (table_from version t)
  from_table other t version next above lt table = record {
    lineage = table.lineage;
    above = above;
    oldest = ap (λ n. is_kept n (max t.oldest version)) next ∙ there_kept w.next (max t.oldest version) (elim (kept_there w.next t.oldest table.oldest) [ inl old ↦ omega (arith, old, lt) | inr none ↦ omega (arith, none.1, lt) ]);
    versions = (let count = table.versions in omega (arith, count, next, length-drop (version - t.oldest) t.contents));
    contents = all_drop (IsContent (columns_of t.lineage)) (version - t.oldest) t.contents table.contents;
  }

  well_expires : (version : ℕ) → is_ok (version_checked w w.store.floor version) ≡ true → IsWellFormed (bare (store_from w.store version) w.next)
  well_expires version ok =
      let there = version_there w w.store.floor version ok in
      let other : Warehouse = bare (store_from w.store version) w.next in
      record {
        tables = all_map (IsTable other) (table_from version) w.store.tables (all_so (IsTable w) (λ t. IsTable other (table_from version t)) w.store.tables (λ t table. from_table other t version refl (omega arith) there.1 table) is.tables);
        names = ap (λ names. is_none (repeated names)) (names_mapped (table_from version) w.store.tables (λ t. refl)) ∙ is.names;
        floor = there_kept w.next version there.1;
      }

  well_expires_one : (number version : ℕ) (t : Table) → slice_get w.store.tables number ≡ Some t → is_ok (version_checked w t.oldest version) ≡ true → IsWellFormed (bare (record w.store { tables = set w.store.tables number (table_from version t) }) w.next)
  well_expires_one number version t at ok =
      let there = version_there w t.oldest version ok in
      let table = all_got (IsTable w) w.store.tables number t at is.tables in
      let above = table.above in
      well_set number (table_from version t)
      (from_table (bare (record w.store { tables = set w.store.tables number (table_from version t) }) w.next) t version refl (omega (arith, above)) there.1 table)
      (ap (λ names. is_none (repeated names)) (names_set w.store.tables number t (table_from version t) at refl) ∙ is.names)

  -- Every turn keeps a warehouse well formed.
  pub well_moves : Moves w (λ s next x. IsWellFormed (bare s next))
  well_moves = record {
    same = well_same (bare w.store w.next) refl refl;
    loads = well_loads;
    makes = well_makes;
    views = λ words number free at rules. well_views words number (table_at w.store number) (table_there w.store words.table number at) free rules;
    alters = λ words number c at asked rules.
        let t : Table = table_at w.store number in
        well_alters number t c (table_there w.store words.table number at) (change_default t.lineage words.change c asked (passed_first (rule_checked t.lineage c) _ rules).0) rules;
    expires = well_expires;
    expires_one = λ name number version at ok. well_expires_one number version (table_at w.store number) (table_there w.store name number at) ok;
    recasts = well_recasts;
  }

-- what holds of a bare warehouse holds of one of which more is said
clothed : (w : Warehouse) → IsWellFormed (bare w.store w.next) → IsWellFormed w
clothed w is = well_same (bare w.store w.next) is w refl refl

-- A warehouse in which nothing was done yet is well formed.
pub empty_well : IsWellFormed empty_warehouse
empty_well = record { tables = tt; names = refl; floor = refl }

-- A command keeps a warehouse well formed.
pub step_well : (w : Warehouse) (session : ℕ) (c : Command) → IsWellFormed w → IsWellFormed (step w session c).0
step_well w session c is = clothed (step w session c).0 (step_moves w (λ s next x. IsWellFormed (bare s next)) (well_moves w is) session c).1

-- So does an entry of a history.
pub go_well : (script : Script) (r : Run) (e : Entry) → IsWellFormed r.state.warehouse → IsWellFormed (go script r e).state.warehouse
go_well script r e is = clothed (go script r e).state.warehouse (go_moves script r e (λ s next x. IsWellFormed (bare s next)) (well_moves r.state.warehouse is))

-- And a history.
pub runs_well : (script : Script) (r : Run) (h : List Entry) → IsWellFormed r.state.warehouse → IsWellFormed (runs script r h).state.warehouse
unfolding runs
runs_well script r [] is = is
runs_well script r (e ∷ h) is = runs_well script (go script r e) h (go_well script r e is)
