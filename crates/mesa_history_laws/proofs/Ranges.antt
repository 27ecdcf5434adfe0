-- What is written of a table stays as long as the table isn't recast.
use Rattle.std.proofs.Common.{◌≡◌, ℕ, zero, suc, ◌+◌, ◌<◌, ◌≤◌, ◌==◌, List, [], ◌∷◌, ◌++◌, map, set, get_or, cond, true, false, refl, sym, ◌∙◌, ap, subst, arith, slice_get, Some, nat_le}
use Rattle.std.specs.Prelude.{filter, ◌&&◌}
use Rattle.std.proofs.Math.Bool.{and-false}
use Rattle.std.proofs.lemmas.Bool.{eqb-true, lt-leb}
use Rattle.mesa_history_spec.specs.mesa_schema.Changes.{epoch_of}
use Rattle.mesa_history_spec.specs.mesa_schema.Recasts.{Recast}
use Rattle.mesa_history_spec.specs.mesa_batch.Batch.{Placed}
use Rattle.mesa_history_spec.specs.mesa_model.declared.commands.Script.{Script}
use Rattle.mesa_history_spec.specs.mesa_model.declared.entries.Entry.{Entry}
use Rattle.mesa_history_spec.specs.mesa_model.Load.{tables_loaded}
use Rattle.mesa_history_spec.specs.mesa_model.Tables.{columns_asked, new_table, table_changed, table_recast, with_recast}
use Rattle.mesa_history_spec.specs.mesa_model.Versions.{table_from}
use Rattle.mesa_history_spec.specs.mesa_model.Warehouse.{Store, Table, Warehouse, no_table, table_at}
use Rattle.mesa_history_spec.specs.Law.{Leaves, RangesStay, Regroups, Writing, begun_at, batch_written, writing_by, written_in, written_through}
use Rattle.mesa_history_spec.specs.Replay.{go, runs}
use Rattle.mesa_history_spec.specs.Run.{Run}
use Rattle.mesa_history_spec.specs.Sources.{Written, source_written, sources_from, written_recast}
use Rattle.mesa_history_laws.proofs.Moves.{Moves, viewed}
use Rattle.mesa_history_laws.proofs.Recasts.{recast_there}
use Rattle.mesa_history_laws.proofs.Turns.{go_moves}

-- ---- where a table's columns begin

begun_in : List Table → ℕ → ℕ
begun_in tables number = (get_or tables number no_table).lineage.begins

same_set : (tables : List Table) (n number : ℕ) (t : Table) → t.lineage.begins ≡ begun_in tables n → begun_in (set tables n t) number ≡ begun_in tables number
unfolding begun_in
same_set [] n number t e = refl
same_set (x ∷ tables) zero zero t e = e
same_set (x ∷ tables) zero (suc number) t e = refl
same_set (x ∷ tables) (suc n) zero t e = refl
same_set (x ∷ tables) (suc n) (suc number) t e = same_set tables n number t e

same_more : (tables : List Table) (number : ℕ) (t : Table) → t.lineage.begins ≡ 0 → begun_in (tables ++ t ∷ []) number ≡ begun_in tables number
unfolding begun_in
same_more [] zero t e = e
same_more [] (suc number) t e = refl
same_more (x ∷ tables) zero t e = refl
same_more (x ∷ tables) (suc number) t e = same_more tables number t e

same_from : (version : ℕ) (tables : List Table) (number : ℕ) → begun_in (map (table_from version) tables) number ≡ begun_in tables number
unfolding begun_in
same_from version [] number = refl
same_from version (x ∷ tables) zero = refl
same_from version (x ∷ tables) (suc number) = same_from version tables number

same_loaded : (batch : List Placed) (n : ℕ) (tables : List Table) (number : ℕ) → begun_in (tables_loaded batch n tables) number ≡ begun_in tables number
unfolding begun_in
same_loaded batch n [] number = refl
same_loaded batch n (x ∷ tables) zero = refl
same_loaded batch n (x ∷ tables) (suc number) = same_loaded batch (n + 1) tables number

rises_set : (tables : List Table) (n number : ℕ) (t : Table) → begun_in tables n ≤ t.lineage.begins → begun_in tables number ≤ begun_in (set tables n t) number
unfolding begun_in
rises_set [] n number t le = omega arith
rises_set (x ∷ tables) zero zero t le = le
rises_set (x ∷ tables) zero (suc number) t le = omega arith
rises_set (x ∷ tables) (suc n) zero t le = omega arith
rises_set (x ∷ tables) (suc n) (suc number) t le = rises_set tables n number t le

set_there : (tables : List Table) (n : ℕ) (t x : Table) → slice_get tables n ≡ Some x → begun_in (set tables n t) n ≡ t.lineage.begins
unfolding begun_in
set_there [] n t x there = absurd cc
set_there (y ∷ tables) zero t x there = refl
set_there (y ∷ tables) (suc n) t x there = set_there tables n t x there

-- ---- what is written

-- a later version isn't among those of a range
later_left : (from to : ℕ) (late : Written) (written : List Written) → to < late.version → sources_from from to (written ++ late ∷ []) ≡ sources_from from to written
later_left from to late written lt = ap (map source_written) (kept written)
  where
    kept : (ws : List Written) → filter (λ (w : Written). nat_le from w.version && nat_le w.version to) (ws ++ late ∷ []) ≡ filter (λ (w : Written). nat_le from w.version && nat_le w.version to) ws
    kept [] = ap (λ b. cond (nat_le from late.version && b) (late ∷ []) []) (lt-leb late.version to lt) ∙ ap (λ b. cond b (late ∷ []) []) (and-false (nat_le from late.version))
    kept (w ∷ ws) = ap (λ rest. cond (nat_le from w.version && nat_le w.version to) (w ∷ rest) rest) (kept ws)

-- ---- a turn

-- What a turn makes of a table: its columns begin no sooner than before, and as long as they begin where they did, what is written of it at versions that were there stays.
record Goes (w : Warehouse) (number : ℕ) (s : Store) (next : ℕ) (x : Writing) : Type 0 where
  more : w.next ≤ next
  rises : begun_at w number ≤ (table_at s number).lineage.begins
  stays : (from to : ℕ) (written : List Written) → to < w.next → (table_at s number).lineage.begins ≡ begun_at w number → sources_from from to (written_through w.store x number written) ≡ sources_from from to written

module _ (w : Warehouse) (number : ℕ) where
  -- a turn that writes nothing
  leaves : (s : Store) → (table_at s number).lineage.begins ≡ begun_at w number → Goes w number s w.next Leaves
  leaves s same = record { more = omega arith; rises = omega (arith, same); stays = λ from to written lt e. refl }

  recasts_goes : (n : ℕ) (r : Recast) → slice_get w.store.tables n ≡ Some (table_at w.store n) → Goes w number (with_recast w n r).store w.next (Regroups n r)
  unfolding begun_in
  recasts_goes n r there =
      let t : Table = table_at w.store n in
      let tables = w.store.tables in
      let other : (n == number) ≡ true → begun_in (set tables n (table_recast t r)) number ≡ begun_in tables number → ⊥ = λ e same.
      let at : n ≡ number = eqb-true n number e in
      let after : begun_in (set tables n (table_recast t r)) n ≡ epoch_of t.lineage + 1 = set_there tables n (table_recast t r) t there in
      let before : begun_in (set tables n (table_recast t r)) n ≡ t.lineage.begins = subst (λ i. begun_in (set tables n (table_recast t r)) i ≡ begun_in tables i) (sym at) same in
      omega (arith, after, before) in
      record {
        more = omega arith;
        rises = rises_set tables n number (table_recast t r) (omega arith);
        stays = λ from to written lt same.
            elim (n == number) as (λ b. (n == number) ≡ b → sources_from from to (cond b (map (written_recast (table_at w.store number).lineage r) written) written) ≡ sources_from from to written) [
              | true ↦ λ e. absurd (other e same)
              | false ↦ λ e. refl
            ] refl;
      }

  goes_moves : Moves w (Goes w number)
  unfolding begun_in
  goes_moves = record {
    same = leaves w.store refl;
    loads = λ words batch read.
        let same = same_loaded batch 0 w.store.tables number in
        record { more = omega arith; rises = omega (arith, same); stays = λ from to written lt e. later_left from to (batch_written w.store w.next batch number) written lt };
    makes = λ words free schema. leaves _ (same_more w.store.tables number (new_table w words.table (columns_asked words)) refl);
    views = λ words n free at rules. leaves _ (same_set w.store.tables n number (viewed (table_at w.store n) words) refl);
    alters = λ words n c at asked rules. leaves _ (same_set w.store.tables n number (table_changed (table_at w.store n) c) refl);
    expires = λ version ok. leaves _ (same_from version w.store.tables number);
    expires_one = λ name n version at ok. leaves _ (same_set w.store.tables n number (table_from version (table_at w.store n)) refl);
    recasts = λ n r rules. recasts_goes n r (recast_there w.store n r rules);
  }

-- ---- a history

rises_in : (script : Script) (r : Run) (h : List Entry) (number : ℕ) → begun_at r.state.warehouse number ≤ begun_at (runs script r h).state.warehouse number
unfolding runs
rises_in script r [] number = omega arith
rises_in script r (e ∷ h) number =
    let goes = go_moves script r e (Goes r.state.warehouse number) (goes_moves r.state.warehouse number) in
    let later = rises_in script (go script r e) h number in
    let here = goes.rises in
    omega (arith, here, later)

pub ranges_hold : RangesStay
unfolding runs written_in
ranges_hold script r [] number from to written lt same = refl
ranges_hold script r (e ∷ h) number from to written lt same =
    let w : Warehouse = r.state.warehouse in
    let next : Run = go script r e in
    let goes = go_moves script r e (Goes w number) (goes_moves w number) in
    let rises = goes.rises in
    let more = goes.more in
    let later : begun_at next.state.warehouse number ≤ begun_at (runs script next h).state.warehouse number = rises_in script next h number in
    let end : begun_at (runs script next h).state.warehouse number ≡ begun_at w number = same in
    let here : begun_at next.state.warehouse number ≡ begun_at w number = omega (arith, later, end, rises) in
    ranges_hold script next h number from to (written_through w.store (writing_by script r e) number written) (omega (arith, lt, more)) (end ∙ sym here)
    ∙ goes.stays from to written lt here
