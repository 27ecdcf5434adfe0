-- There are as many versions more as batches were accepted.
use Rattle.std.proofs.Common.{◌≡◌, ℕ, ◌+◌, List, [], ◌∷◌, Bool, true, false, cond, length, map, refl, arith, ◌==◌}
use Rattle.std.proofs.lemmas.List.{length-append, length-map}
use Rattle.mesa_history_spec.specs.mesa_model.declared.commands.Script.{Script}
use Rattle.mesa_history_spec.specs.mesa_model.declared.entries.Entry.{Entry}
use Rattle.mesa_history_spec.specs.mesa_model.Warehouse.{Store, Warehouse, table_at}
use Rattle.mesa_history_spec.specs.Law.{Accepts, Leaves, Regroups, Writing, batch_written, writing_by, written_in, written_through}
use Rattle.mesa_history_spec.specs.Run.{Run}
use Rattle.mesa_history_spec.specs.Replay.{go, runs}
use Rattle.mesa_history_spec.specs.Sources.{Written, written_recast}
use Rattle.mesa_history_laws.proofs.Moves.{Moves}
use Rattle.mesa_history_laws.proofs.Turns.{go_moves}

-- how many versions are more
abbrev more_by : Writing → ℕ
more_by (Accepts version batch) = 1
more_by (Regroups table r) = 0
more_by Leaves = 0

abbrev Counts : ℕ → Store → ℕ → Writing → Type 0
Counts before s next x = next ≡ before + more_by x

counts : (w : Warehouse) → Moves w (Counts w.next)
counts w = record {
  same = omega arith;
  loads = λ rows batch read. refl;
  makes = λ words free schema. omega arith;
  views = λ words number free at rules. omega arith;
  alters = λ words number c at asked rules. omega arith;
  expires = λ version ok. omega arith;
  expires_one = λ name number version at ok. omega arith;
  recasts = λ number r rules. omega arith;
}

-- so many more are written of each table
regrouped_count : (written : List Written) (f : Written → Written) (b : Bool) → length (cond b (map f written) written) ≡ length written
regrouped_count written f true = length-map written f
regrouped_count written f false = refl

through_count : (s : Store) (x : Writing) (number : ℕ) (written : List Written) → length (written_through s x number written) ≡ length written + more_by x
through_count s (Accepts version batch) number written = length-append written (batch_written s version batch number ∷ [])
through_count s (Regroups table r) number written = (let same = regrouped_count written (written_recast (table_at s number).lineage r) (table == number) in omega (arith, same))
through_count s Leaves number written = omega arith

versions_from : (script : Script) (r : Run) (h : List Entry) (number : ℕ) (written : List Written) → (runs script r h).state.warehouse.next + length written ≡ r.state.warehouse.next + length (written_in script r h number written)
unfolding runs written_in
versions_from script r [] number written = refl
versions_from script r (e ∷ h) number written =
    let turn : (go script r e).state.warehouse.next ≡ r.state.warehouse.next + more_by (writing_by script r e) = go_moves script r e (Counts r.state.warehouse.next) (counts r.state.warehouse) in
    let rest = versions_from script (go script r e) h number (written_through r.state.warehouse.store (writing_by script r e) number written) in
    let count = through_count r.state.warehouse.store (writing_by script r e) number written in
    omega (arith, turn, rest, count)

-- Each version was made by one batch that was accepted, which is written of every table.
pub versions_counted : (script : Script) (r : Run) (h : List Entry) (number : ℕ) → (runs script r h).state.warehouse.next ≡ r.state.warehouse.next + length (written_in script r h number [])
versions_counted script r h number = (let all = versions_from script r h number [] in omega (arith, all))
