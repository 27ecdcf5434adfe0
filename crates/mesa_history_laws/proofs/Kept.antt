-- What every turn keeps of the fold law: the law itself, and what its next step needs.
use Rattle.std.proofs.Common.{◌≡◌, ℕ, ◌-◌, ◌<◌, ◌≤◌, List, [], ◌∷◌, length, map, slice_get, Some, nat_lt}
use Rattle.std.specs.List.{AllByRecursion}
use Rattle.std.proofs.lemmas.Bool.{cond-false, cond-true, le-ltb, lt-ltb}
use Rattle.mesa_history_spec.specs.mesa_columns.Columns.{aggs_of}
use Rattle.mesa_history_spec.specs.mesa_schema.Changes.{Lineage, columns_of, epoch_of}
use Rattle.mesa_history_spec.specs.mesa_fold.Folded.{folded}
use Rattle.mesa_history_spec.specs.mesa_columns.Rows.{AreRowsOf}
use Rattle.mesa_history_spec.specs.mesa_model.Warehouse.{Store, Table, Warehouse, content_at}
use Rattle.mesa_history_spec.specs.Law.{carried_content}
use Rattle.mesa_history_spec.specs.Sources.{Source, Written, rows_now, sources_to}

-- Rows of a table are of an epoch that it had, and have at present the form of its columns.
pub record IsAt (l : Lineage) (s : Source) : Type 0 where
  pub epoch : s.epoch ≤ epoch_of l
  pub form : AreRowsOf (columns_of l) (rows_now l s)

-- the start's newest content, as it is carried so far, stands before what was written since
abbrev pub first_written : Warehouse → (ℕ → Source) → Written
first_written start early = record { version = start.next - 1; source = early (start.next - 1) }

abbrev pub all_written : Warehouse → (ℕ → Source) → List Written → List Written
all_written start early later = first_written start early ∷ later

-- A table has its contents, what the law folds has the form of its columns, and its contents are what the law says.
pub record LawAt (start : Warehouse) (early : ℕ → Source) (later : List Written) (next : ℕ) (t : Table) : Type 0 where
  pub versions : length t.contents ≡ next - t.oldest
  pub early_at : (version : ℕ) → IsAt t.lineage (early version)
  pub later_at : AllByRecursion (λ (x : Written). IsAt t.lineage x.source) later
  pub contents : (version : ℕ) → t.oldest ≤ version → version < next → content_at t version ≡ carried_content start t early (all_written start early later) version

-- written since the start, before the version that comes next
abbrev pub IsSince : ℕ → ℕ → Written → Type 0
IsSince from next x = (from ≤ x.version) × (x.version < next)

abbrev pub no_source : Source
no_source = record { epoch = 0; rows = [] }

-- The law holds of each table, and nothing is written of those to come.
pub record Law (start : Warehouse) (early : ℕ → ℕ → Source) (later : ℕ → List Written) (s : Store) (next : ℕ) : Type 0 where
  pub tables : (number : ℕ) (t : Table) → slice_get s.tables number ≡ Some t → LawAt start (early number) (later number) next t
  pub more : length start.store.tables ≤ length s.tables
  pub grows : start.next ≤ next
  pub since : (number : ℕ) → AllByRecursion (IsSince start.next next) (later number)
  pub nothing : start.next ≡ 0 → (number version : ℕ) → (early number version).rows ≡ []
  pub others : (number : ℕ) → length s.tables ≤ number → ((version : ℕ) → early number version ≡ no_source) × AllByRecursion (λ (x : Written). x.source ≡ no_source) (later number)

-- ---- the law at a version

-- at a version of the start
pub law_early : (start : Warehouse) (t : Table) (early : ℕ → Source) (written : List Written) (version : ℕ) → version < start.next → carried_content start t early written version ≡ rows_now t.lineage (early version)
law_early start t early written version lt = cond-true (nat_lt version start.next) _ _ (lt-ltb version start.next lt)

-- at a later one
pub law_late : (start : Warehouse) (t : Table) (early : ℕ → Source) (written : List Written) (version : ℕ) → start.next ≤ version
    → carried_content start t early written version ≡ folded (aggs_of (columns_of t.lineage)) (map (rows_now t.lineage) (sources_to version written))
law_late start t early written version le = cond-false (nat_lt version start.next) _ _ (le-ltb version start.next le)
