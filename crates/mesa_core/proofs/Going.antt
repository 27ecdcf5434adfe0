-- How a table goes on through a history.
use Rattle.std.proofs.Common.{◌≡◌, ◌⊎◌, inl, inr, ℕ, zero, suc, ◌+◌, ◌<◌, ◌≤◌, List, [], ◌∷◌, ◌++◌, length, map, true, refl, sym, ap, subst, arith, Result, Ok, Err}
use Rattle.std.specs.Prelude.{is_ok, slice_index_or, slice_set}
use Rattle.std.proofs.lemmas.List.{length-append, length-map}
use Rattle.mesa_batch.specs.Batch.{Placed}
use Rattle.mesa_recast_turns.specs.mesa_schema.Changes.{Lineage, rule_checked}
use Rattle.mesa_recast_turns.specs.mesa_schema.Lineages.{IsLineage}
use Rattle.mesa_recast_turns.specs.mesa_schema.Recasts.{recast_checked}
use Rattle.mesa_recast_turns.proofs.mesa_schema.LineageChanges.{lineage_changed}
use Rattle.mesa_recast_turns.proofs.mesa_schema.LineageRecasts.{lineage_recast}
use Rattle.mesa_recast_turns.proofs.mesa_schema.Passing.{passed_first}
use Rattle.mesa_model.specs.declared.commands.Script.{Script}
use Rattle.mesa_model.specs.declared.entries.Entry.{Entry}
use Rattle.mesa_model.specs.Load.{tables_loaded, with_batch}
use Rattle.mesa_model.specs.Tables.{columns_asked, new_table, table_changed, table_recast}
use Rattle.mesa_model.specs.Versions.{store_from, table_from}
use Rattle.mesa_model.specs.Warehouse.{Store, Table, Warehouse, no_table, table_at, with_table, with_tables}
use Rattle.mesa_recast_turns.specs.mesa_history_spec.Replay.{go, runs}
use Rattle.mesa_recast_turns.specs.mesa_history_spec.Run.{Run}
use Rattle.mesa_engine.proofs.mesa_store_spec.ShapedTables.{length_set}
use Rattle.mesa_history_laws.proofs.Lineages.{change_default, lineage_viewed}
use Rattle.mesa_history_laws.proofs.Moves.{Moves, viewed}
use Rattle.mesa_history_laws.proofs.Turns.{go_moves}
use Rattle.mesa_recast_turns.specs.mesa_file_records.Grown.{HasBecome}
use Rattle.mesa_recast_turns.proofs.mesa_file_records.Becoming.{become_changed, become_not, become_recast, become_viewed}
use Rattle.mesa_core.specs.Known.{lineage_in}

-- ---- lists

set_get : {A : Type 0} (xs : List A) (n : ℕ) (y : A) (k : ℕ) (d : A) → (slice_index_or (slice_set xs n y) k d ≡ slice_index_or xs k d) ⊎ ((k ≡ n) × (slice_index_or (slice_set xs n y) k d ≡ y))
set_get [] n y k d = inl refl
set_get (x ∷ xs) zero y zero d = inr (refl, refl)
set_get (x ∷ xs) zero y (suc k) d = inl refl
set_get (x ∷ xs) (suc n) y zero d = inl refl
set_get (x ∷ xs) (suc n) y (suc k) d = elim (set_get xs n y k d) [ inl same ↦ inl same | inr one ↦ inr (ap suc one.0, one.1) ]

front_get : {A : Type 0} (xs ys : List A) (k : ℕ) (d : A) → k < length xs → slice_index_or (xs ++ ys) k d ≡ slice_index_or xs k d
front_get [] ys k d lt = absurd (omega (arith, lt))
front_get (x ∷ xs) ys zero d lt = refl
front_get (x ∷ xs) ys (suc k) d lt = front_get xs ys k d (omega (arith, lt))

kept_get : (f : Table → Table) → ((t : Table) → (f t).lineage ≡ t.lineage) → (ts : List Table) (k : ℕ) → (slice_index_or (map f ts) k no_table).lineage ≡ (slice_index_or ts k no_table).lineage
kept_get f keeps [] k = refl
kept_get f keeps (t ∷ ts) zero = keeps t
kept_get f keeps (t ∷ ts) (suc k) = kept_get f keeps ts k

loaded_get : (batch : List Placed) (from : ℕ) (ts : List Table) (k : ℕ) → (slice_index_or (tables_loaded batch from ts) k no_table).lineage ≡ (slice_index_or ts k no_table).lineage
loaded_get batch from [] k = refl
loaded_get batch from (t ∷ ts) zero = refl
loaded_get batch from (t ∷ ts) (suc k) = loaded_get batch (from + 1) ts k

loaded_count : (batch : List Placed) (from : ℕ) (ts : List Table) → length (tables_loaded batch from ts) ≡ length ts
loaded_count batch from [] = refl
loaded_count batch from (t ∷ ts) = ap suc (loaded_count batch (from + 1) ts)

-- a check that passes
passed : {E : Type 0} (r : Result (Unit {0}) E) → is_ok r ≡ true → r ≡ Ok tt
passed (Ok tt) is = refl
passed (Err e) is = absurd cc

-- ---- one turn

-- A table is there, its columns followed the rules, and have become these.
pub record Goes (was : Lineage) (number : ℕ) (s : Store) : Type 0 where
  pub there : number < length s.tables
  pub lineage : IsLineage (lineage_in s number)
  pub become : HasBecome was (lineage_in s number)

module _ (was : Lineage) (number : ℕ) (w : Warehouse) (is : Goes was number w.store) where
  alike : (s : Store) → length w.store.tables ≤ length s.tables → lineage_in s number ≡ lineage_in w.store number → Goes was number s
  alike s count same = record { there = (let lt = is.there in omega (arith, count, lt)); lineage = subst IsLineage (sym same) is.lineage; become = subst (HasBecome was) (sym same) is.become }

  replaced : (n : ℕ) (t : Table) → (number ≡ n → IsLineage t.lineage × HasBecome was t.lineage) → Goes was number (with_table w n t).store
  replaced n t new = elim (set_get w.store.tables n t number no_table) [
    | inl same ↦ alike (with_table w n t).store (omega (arith, length_set w.store.tables n t)) (ap (λ (x : Table). x.lineage) same)
    | inr one ↦
        let its = new one.0 in
        let now = ap (λ (x : Table). x.lineage) one.1 in
        record { there = (let lt = is.there in omega (arith, lt, length_set w.store.tables n t)); lineage = subst IsLineage (sym now) its.0; become = subst (HasBecome was) (sym now) its.1 }
  ]

  goes_moves : Moves w (λ s next writing. Goes was number s)
  goes_moves = record {
    same = is;
    loads = λ rows batch read. alike (with_batch w batch).store (omega (arith, loaded_count batch 0 w.store.tables)) (loaded_get batch 0 w.store.tables number);
    makes = λ words free good.
        let table = new_table w words.table (columns_asked words) in
        alike (with_tables w (w.store.tables ++ table ∷ [])).store (omega (arith, length-append w.store.tables (table ∷ []))) (ap (λ (x : Table). x.lineage) (front_get w.store.tables (table ∷ []) number no_table is.there));
    views = λ words n free at rules.
        replaced n (viewed (table_at w.store n) words)
        (λ same.
        let lineage = subst (λ k. IsLineage (lineage_in w.store k)) same is.lineage in
        let become = subst (λ k. HasBecome was (lineage_in w.store k)) same is.become in
        (lineage_viewed (table_at w.store n) words lineage rules, become_viewed was (lineage_in w.store n) (record { name = words.view; keys = words.keys; values = words.values }) become));
    alters = λ words n c at asked rules.
        replaced n (table_changed (table_at w.store n) c)
        (λ same.
        let l = lineage_in w.store n in
        let lineage = subst (λ k. IsLineage (lineage_in w.store k)) same is.lineage in
        let become = subst (λ k. HasBecome was (lineage_in w.store k)) same is.become in
        let rule = (passed_first (rule_checked l c) _ rules).0 in
        (lineage_changed l c lineage (change_default l words.change c asked rule) rules, become_changed was l c lineage rule become));
    expires = λ version ok. alike (store_from w.store version) (omega (arith, length-map w.store.tables (table_from version))) (kept_get (table_from version) (λ t. refl) w.store.tables number);
    expires_one = λ name n version at ok.
        replaced n (table_from version (table_at w.store n))
        (λ same. (subst (λ k. IsLineage (lineage_in w.store k)) same is.lineage, subst (λ k. HasBecome was (lineage_in w.store k)) same is.become));
    recasts = λ n r rules.
        replaced n (table_recast (table_at w.store n) r)
        (λ same.
        let l = lineage_in w.store n in
        let lineage = subst (λ k. IsLineage (lineage_in w.store k)) same is.lineage in
        (lineage_recast l r lineage (passed (recast_checked l r) rules), become_recast was l r (subst (λ k. HasBecome was (lineage_in w.store k)) same is.become)));
  }

-- ---- a history

goes_on : (was : Lineage) (number : ℕ) (script : Script) (r : Run) (h : List Entry) → Goes was number r.state.warehouse.store → Goes was number (runs script r h).state.warehouse.store
unfolding runs
goes_on was number script r [] is = is
goes_on was number script r (e ∷ h) is = goes_on was number script (go script r e) h (go_moves script r e (λ s next writing. Goes was number s) (goes_moves was number r.state.warehouse is))

module _ (script : Script) (r : Run) (h : List Entry) (number : ℕ) (there : number < length r.state.warehouse.store.tables) (is : IsLineage (lineage_in r.state.warehouse.store number)) where
  goes : Goes (lineage_in r.state.warehouse.store number) number (runs script r h).state.warehouse.store
  goes = goes_on (lineage_in r.state.warehouse.store number) number script r h (record { there = there; lineage = is; become = become_not (lineage_in r.state.warehouse.store number) })

  -- A table's columns and views become those that it has later,
  pub table_becomes : HasBecome (lineage_in r.state.warehouse.store number) (lineage_in (runs script r h).state.warehouse.store number)
  table_becomes = goes.become

  -- and it is there then.
  pub table_stays : number < length (runs script r h).state.warehouse.store.tables
  table_stays = goes.there
