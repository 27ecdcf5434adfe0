-- The contents of a store after any runs, from an empty one.
use Rattle.std.proofs.Common.{◌≡◌, ℕ, ◌-◌, List, [], ◌∷◌, map, cond, refl, true, ◌∙◌, ap, arith}
use Rattle.std.specs.Prelude.{filter, nat_le}
use Rattle.std.proofs.lemmas.Bool.Decides.{nat_tests}
use Rattle.mesa_session.specs.mesa_schema.Changes.{columns_of, epoch_of, lifted}
use Rattle.mesa_columns.specs.Columns.{aggs_of}
use Rattle.mesa_session.specs.mesa_fold.Folded.{folded}
use Rattle.mesa_columns.proofs.Lists.{all_so}
use Rattle.mesa_model.specs.Warehouse.{empty_warehouse}
use Rattle.mesa_model.specs.WellFormed.{IsTable, IsWellFormed}
use Rattle.mesa_session.specs.mesa_history_spec.Found.{Kept, kept_in}
use Rattle.mesa_session.specs.mesa_history_spec.Law.{carried_in, written_in}
use Rattle.mesa_session.specs.mesa_history_spec.Replay.{runs}
use Rattle.mesa_session.specs.mesa_history_spec.Run.{Run, begins}
use Rattle.mesa_session.specs.mesa_history_spec.Sources.{Source, Written, rows_now, source_written, sources_to}
use Rattle.mesa_session.proofs.mesa_history_laws.FoldLaw.{law_runs, law_starts, start_early}
use Rattle.mesa_session.proofs.mesa_history_laws.Kept.{Law, all_written, first_written, law_late}
use Rattle.mesa_session.proofs.mesa_history_laws.WellFormed.{empty_well, runs_well}
use Rattle.mesa_shell.specs.Life.{LifeLaw, Stretch, kept_after, kept_at_first, kept_next, warehouse_of, written_over}
use Rattle.mesa_shell.specs.StoreStart.{state_of}

-- ---- what a store keeps of a run

-- a warehouse of it is well formed as it was
kept_well : (r : Run) → IsWellFormed r.state.warehouse → IsWellFormed (warehouse_of (kept_in r))
unfolding kept_in
kept_well r is = record {
  tables = all_so (IsTable r.state.warehouse) (IsTable (warehouse_of (kept_in r))) r.state.warehouse.store.tables (λ t its. record { lineage = its.lineage; above = its.above; oldest = its.oldest; versions = its.versions; contents = its.contents }) is.tables;
  names = is.names;
  floor = is.floor;
}

kept_law : (r : Run) (early : ℕ → ℕ → Source) (later : ℕ → List Written) → Law empty_warehouse early later r.state.warehouse.store r.state.warehouse.next → Law empty_warehouse early later (kept_in r).store (kept_in r).next
unfolding kept_in
kept_law r early later law = law

-- ---- a life

early_over : Kept → List Stretch → (ℕ → ℕ → Source) → ℕ → ℕ → Source
early_over kept [] early = early
early_over kept (s ∷ rest) early = early_over (kept_next kept s) rest (λ number version. carried_in s.script (begins (state_of s.script kept)) s.turns number (early number version))

life_holds : (life : List Stretch) (kept : Kept) (early : ℕ → ℕ → Source) (later : ℕ → List Written) → IsWellFormed (warehouse_of kept) → Law empty_warehouse early later kept.store kept.next
    → Law empty_warehouse (early_over kept life early) (λ number. written_over kept life number (later number)) (kept_after kept life).store (kept_after kept life).next
unfolding kept_after early_over written_over
life_holds [] kept early later is law = law
life_holds (s ∷ rest) kept early later is law =
    let r : Run = begins (state_of s.script kept) in
    let behind : Run = runs s.script r s.turns in
    let carried : ℕ → ℕ → Source = (λ number version. carried_in s.script r s.turns number (early number version)) in
    let written : ℕ → List Written = (λ number. written_in s.script r s.turns number (later number)) in
    life_holds rest (kept_next kept s) carried written (kept_well behind (runs_well s.script r s.turns is)) (kept_law behind carried written (law_runs empty_warehouse s.script r s.turns early later is law))

-- what was written up to a version, from the first on
from_first : (version : ℕ) (x : Written) (written : List Written) → nat_le x.version version ≡ true → sources_to version (x ∷ written) ≡ x.source ∷ sources_to version written
from_first version x written below =
    let rest : List Written = filter (λ (w : Written). nat_le w.version version) written in
    ap (λ b. map source_written (cond b (x ∷ rest) rest)) below

-- Each content is the fold of all batches that were accepted through its version.
pub life_law : LifeLaw
life_law life number t version at le lt =
    let first : ℕ → ℕ → Source = start_early empty_warehouse empty_well in
    let early : ℕ → ℕ → Source = early_over kept_at_first life first in
    let later : List Written = written_over kept_at_first life number [] in
    let law : Law empty_warehouse early (λ n. written_over kept_at_first life n []) (kept_after kept_at_first life).store (kept_after kept_at_first life).next = life_holds life kept_at_first first (λ n. []) empty_well (law_starts empty_warehouse empty_well) in
    let start : Source = early number (0 - 1) in
    let below : nat_le 0 version ≡ true = grind (arith, nat_tests) in
    (law.tables number t at).contents version le lt
    ∙ law_late empty_warehouse t (early number) (all_written empty_warehouse (early number) later) version (omega arith)
    ∙ ap (λ sources. folded (aggs_of (columns_of t.lineage)) (map (rows_now t.lineage) sources)) (from_first version (first_written empty_warehouse (early number)) later below)
    ∙ (λ i. folded (aggs_of (columns_of t.lineage)) (map (lifted t.lineage start.epoch (epoch_of t.lineage)) (law.nothing refl number (0 - 1) i) ∷ map (rows_now t.lineage) (sources_to version later)))
