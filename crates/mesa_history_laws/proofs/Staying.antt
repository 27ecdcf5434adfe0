-- A table through a history: while its epoch is the same, so is each content that can still be queried.
use Rattle.std.proofs.Common.{◌≡◌, ℕ, zero, suc, ◌+◌, ◌-◌, ◌≤◌, List, [], ◌∷◌, ◌++◌, length, set, refl, sym, ◌∙◌, ap, subst, arith, append_assoc, slice_get, slice_index_or, Some, ◌⊎◌, inl, inr}
use Rattle.std.specs.Prelude.{max, option_map}
use Rattle.std.proofs.lemmas.List.{append-nil, get_or-drop, get_or_append_left, length-append}
use Rattle.std.proofs.lemmas.Option.{get_or_from_slice_get, slice_get-map}
use Rattle.mesa_history_spec.specs.mesa_columns.declared.changes.Change.{Change}
use Rattle.mesa_history_spec.specs.mesa_columns.declared.rows.Row.{Row}
use Rattle.mesa_history_spec.specs.mesa_columns.declared.views.View.{View}
use Rattle.mesa_history_spec.specs.mesa_columns.Columns.{aggs_of}
use Rattle.mesa_history_spec.specs.mesa_schema.Changes.{columns_of}
use Rattle.mesa_history_spec.specs.mesa_fold.Folded.{folded}
use Rattle.mesa_history_spec.specs.mesa_schema.Recasts.{Recast}
use Rattle.mesa_history_spec.specs.mesa_batch.Batch.{Placed, rows_for}
use Rattle.mesa_history_spec.specs.mesa_model.declared.commands.Script.{Script}
use Rattle.mesa_history_spec.specs.mesa_model.declared.commands.ViewWords.{ViewWords}
use Rattle.mesa_history_spec.specs.mesa_model.declared.entries.Entry.{Entry}
use Rattle.mesa_history_spec.specs.mesa_model.Warehouse.{Store, Table, Warehouse, no_table, table_at}
use Rattle.mesa_history_spec.specs.mesa_model.WellFormed.{IsTable, IsWellFormed}
use Rattle.mesa_history_spec.specs.mesa_model.Load.{newest_content, table_loaded, tables_loaded, with_batch}
use Rattle.mesa_history_spec.specs.mesa_model.Tables.{table_changed, table_recast}
use Rattle.mesa_history_spec.specs.mesa_model.Versions.{store_from, table_from}
use Rattle.mesa_history_spec.specs.Run.{Run}
use Rattle.mesa_history_spec.specs.Replay.{go, runs}
use Rattle.mesa_history_laws.specs.Later.{IsLater}
use Rattle.mesa_history_spec.proofs.mesa_columns.Lists.{all_got}
use Rattle.mesa_history_laws.proofs.Moves.{Moves, viewed}
use Rattle.mesa_history_laws.proofs.Turns.{go_moves}
use Rattle.mesa_history_laws.proofs.WellFormed.{go_well}

-- ---- elements that are there after a list was changed

got_in_front : {A : Type 0} (xs ys : List A) (i : ℕ) (x : A) → slice_get xs i ≡ Some x → slice_get (xs ++ ys) i ≡ Some x
got_in_front [] ys i x at = cc
got_in_front (z ∷ xs) ys zero x at = at
got_in_front (z ∷ xs) ys (suc i) x at = got_in_front xs ys i x at

-- one was set, at its place or elsewhere
set_there : {A : Type 0} (xs : List A) (n : ℕ) (y : A) (i : ℕ) (x : A) → slice_get xs i ≡ Some x → (slice_get (set xs n y) i ≡ Some x) ⊎ ((i ≡ n) × (slice_get (set xs n y) i ≡ Some y))
set_there [] n y i x at = cc
set_there (z ∷ xs) zero y zero x at = inr (refl, refl)
set_there (z ∷ xs) zero y (suc i) x at = inl at
set_there (z ∷ xs) (suc n) y zero x at = inl at
set_there (z ∷ xs) (suc n) y (suc i) x at = elim (set_there xs n y i x at) [ inl same ↦ inl same | inr here ↦ inr (ap suc here.0, here.1) ]

loaded_there : (batch : List Placed) (n : ℕ) (tables : List Table) (i : ℕ) (t : Table) → slice_get tables i ≡ Some t → slice_get (tables_loaded batch n tables) i ≡ Some (table_loaded t (rows_for (n + i) batch))
loaded_there batch n [] i t at = cc
loaded_there batch n (x ∷ tables) zero t at =
    let same : x ≡ t = cc in
    let place : n ≡ n + 0 = omega arith in
    λ i. Some (table_loaded (same i) (rows_for (place i) batch))
loaded_there batch n (x ∷ tables) (suc i) t at =
    let place : n + 1 + i ≡ n + suc i = omega arith in
    loaded_there batch (n + 1) tables i t at ∙ ap (λ k. Some (table_loaded t (rows_for k batch))) place

-- ---- a table later on

-- The table of a number is there later on.
pub record Stays (before : Warehouse) (number : ℕ) (t : Table) (now : Store) (next : ℕ) : Type 0 where
  pub grown : before.next ≤ next
  pub table : Table
  pub there : slice_get now.tables number ≡ Some table
  pub later : IsLater before t table

module _ (before : Warehouse) (number : ℕ) (t : Table) (w : Warehouse) (is : IsWellFormed w) (stays : Stays before number t w.store w.next) where
  abbrev table : Table
  table = stays.table

  -- another table in its place, which has the same contents
  in_its_place : (s : Store) (next : ℕ) (other : Table) → w.next ≤ next → slice_get s.tables number ≡ Some other → IsLater before t other → Stays before number t s next
  in_its_place s next other grown there later =
      let was = stays.grown in
      record { grown = omega (arith, was, grown); table = other; there = there; later = later }

  loads : (batch : List Placed) → Stays before number t (with_batch w batch).store (w.next + 1)
  loads batch =
      let rows : List Row = rows_for (0 + number) batch in
      let later = stays.later in
      in_its_place (with_batch w batch).store (w.next + 1) (table_loaded table rows) (omega arith) (loaded_there batch 0 w.store.tables number table stays.there) (
      record {
        name = later.name;
        more = later.more;
        views = later.views;
        epoch = later.epoch;
        oldest = later.oldest;
        columns = later.columns;
        contents = λ same version le lt.
            let grown = stays.grown in
            let its : IsTable w table = all_got (IsTable w) w.store.tables number table stays.there is.tables in
            let count = its.versions in
            get_or_append_left table.contents (folded (aggs_of (columns_of table.lineage)) (newest_content table.contents ∷ rows ∷ []) ∷ []) [] (version - table.oldest) (omega (arith, count, grown, le, lt))
            ∙ later.contents same version le lt;
      })

  makes : (new : Table) → Stays before number t (record w.store { tables = w.store.tables ++ new ∷ [] }) w.next
  makes new =
      let later = stays.later in
      in_its_place (record w.store { tables = w.store.tables ++ new ∷ [] }) w.next table (omega arith) (got_in_front w.store.tables (new ∷ []) number table stays.there)
      (record { name = later.name; more = later.more; views = later.views; epoch = later.epoch; oldest = later.oldest; columns = later.columns; contents = later.contents })

  -- a table was set, maybe this one
  sets : (n : ℕ) (other : Table) → (number ≡ n → IsLater before t other) → Stays before number t (record w.store { tables = set w.store.tables n other }) w.next
  sets n other here =
      let s : Store = record w.store { tables = set w.store.tables n other } in
      let later = stays.later in
      elim (set_there w.store.tables n other number table stays.there) as (λ _. Stays before number t s w.next) [
        | inl same ↦ in_its_place s w.next table (omega arith) same (record { name = later.name; more = later.more; views = later.views; epoch = later.epoch; oldest = later.oldest; columns = later.columns; contents = later.contents })
        | inr own ↦ in_its_place s w.next other (omega arith) own.1 (here own.0)
      ]

  -- the table that was set from the one of its number
  its_own : (n : ℕ) → number ≡ n → table_at w.store n ≡ table
  its_own n same = ap (table_at w.store) (sym same) ∙ get_or_from_slice_get w.store.tables number table no_table stays.there

  views : (n : ℕ) (words : ViewWords) → Stays before number t (record w.store { tables = set w.store.tables n (viewed (table_at w.store n) words) }) w.next
  views n words = sets n (viewed (table_at w.store n) words) (λ same.
      let later = stays.later in
      let new : List View = record { name = words.view; keys = words.keys; values = words.values } ∷ [] in
      subst (λ (x : Table). IsLater before t (viewed x words)) (sym (its_own n same)) (
      record {
        name = later.name;
        more = later.more ++ new;
        views = ap (λ (vs : List View). vs ++ new) later.views ∙ append_assoc t.lineage.views later.more new;
        epoch = later.epoch;
        oldest = later.oldest;
        columns = later.columns;
        contents = later.contents;
      }))

  alters : (n : ℕ) (c : Change) → Stays before number t (record w.store { tables = set w.store.tables n (table_changed (table_at w.store n) c) }) w.next
  alters n c = sets n (table_changed (table_at w.store n) c) (λ same.
      let later = stays.later in
      let old = later.epoch in
      let more : length (table.lineage.changes ++ c ∷ []) ≡ length table.lineage.changes + 1 = length-append table.lineage.changes (c ∷ []) in
      subst (λ (x : Table). IsLater before t (table_changed x c)) (sym (its_own n same)) (
      record {
        name = later.name;
        more = later.more;
        views = later.views;
        epoch = omega (arith, old, more);
        oldest = later.oldest;
        columns = λ equal. absurd (omega (arith, old, more, equal));
        contents = λ equal version le lt. absurd (omega (arith, old, more, equal));
      }))

  regroups : (n : ℕ) (r : Recast) → Stays before number t (record w.store { tables = set w.store.tables n (table_recast (table_at w.store n) r) }) w.next
  regroups n r = sets n (table_recast (table_at w.store n) r) (λ same.
      let later = stays.later in
      let old = later.epoch in
      subst (λ (x : Table). IsLater before t (table_recast x r)) (sym (its_own n same)) (
      record {
        name = later.name;
        more = later.more;
        views = later.views;
        epoch = omega (arith, old);
        oldest = later.oldest;
        columns = λ equal. absurd (omega (arith, old, equal));
        contents = λ equal version le lt. absurd (omega (arith, old, equal));
      }))

  -- a table without its versions below one
  from_later : (version : ℕ) → IsLater before t (table_from version table)
  from_later version =
      let later = stays.later in
      let old = later.oldest in
      record {
        name = later.name;
        more = later.more;
        views = later.views;
        epoch = later.epoch;
        oldest = omega (arith, old);
        columns = later.columns;
        contents = λ same v le lt.
            let place : version - table.oldest + (v - max table.oldest version) ≡ v - table.oldest = omega (arith, le) in
            get_or-drop (version - table.oldest) table.contents (v - max table.oldest version) [] ∙ ap (λ i. slice_index_or table.contents i []) place ∙ later.contents same v (omega (arith, le)) lt;
      }

  expires : (version : ℕ) → Stays before number t (store_from w.store version) w.next
  expires version = in_its_place (store_from w.store version) w.next (table_from version table) (omega arith) (slice_get-map (table_from version) w.store.tables number ∙ ap (option_map (table_from version)) stays.there) (from_later version)

  expires_one : (n version : ℕ) → Stays before number t (record w.store { tables = set w.store.tables n (table_from version (table_at w.store n)) }) w.next
  expires_one n version = sets n (table_from version (table_at w.store n)) (λ same. subst (λ (x : Table). IsLater before t (table_from version x)) (sym (its_own n same)) (from_later version))

  -- Every turn keeps it.
  stays_moves : Moves w (λ s next x. Stays before number t s next)
  stays_moves = record {
    same = stays;
    loads = λ rows batch read. loads batch;
    makes = λ words free schema. makes _;
    views = λ words n free at rules. views n words;
    alters = λ words n c at asked rules. alters n c;
    expires = λ version ok. expires version;
    expires_one = λ name n version at ok. expires_one n version;
    recasts = λ n r rules. regroups n r;
  }

-- A table stays through a history.
stays_on : (before : Warehouse) (number : ℕ) (t : Table) (script : Script) (r : Run) (h : List Entry) → IsWellFormed r.state.warehouse → Stays before number t r.state.warehouse.store r.state.warehouse.next
    → Stays before number t (runs script r h).state.warehouse.store (runs script r h).state.warehouse.next
unfolding runs
stays_on before number t script r [] is stays = stays
stays_on before number t script r (e ∷ h) is stays =
    stays_on before number t script (go script r e) h (go_well script r e is)
    (go_moves script r e (λ s next x. Stays before number t s next) (stays_moves before number t r.state.warehouse is stays))

pub table_stays : (script : Script) (r : Run) (h : List Entry) (number : ℕ) (t : Table) → IsWellFormed r.state.warehouse → slice_get r.state.warehouse.store.tables number ≡ Some t
    → Stays r.state.warehouse number t (runs script r h).state.warehouse.store (runs script r h).state.warehouse.next
table_stays script r h number t is at = stays_on r.state.warehouse number t script r h is (
    record {
      grown = omega arith;
      table = t;
      there = at;
      later = record {
        name = refl;
        more = [];
        views = sym (append-nil t.lineage.views);
        epoch = omega arith;
        oldest = omega arith;
        columns = λ same. refl;
        contents = λ same version le lt. refl;
      };
    })
