-- Tables and relations later on.
use Rattle.std.specs.Prelude.{◌≡◌, ℕ, ◌<◌, ◌≤◌, List, ◌++◌, Option, None, IfSome, option_map}
use Rattle.mesa_history_spec.specs.mesa_columns.declared.views.View.{View}
use Rattle.mesa_history_spec.specs.mesa_schema.Changes.{columns_of, epoch_of}
use Rattle.mesa_history_spec.specs.mesa_model.declared.commands.Script.{Script}
use Rattle.mesa_history_spec.specs.mesa_model.declared.entries.Entry.{Entry}
use Rattle.mesa_history_spec.specs.mesa_model.Warehouse.{Store, Table, Warehouse, content_at}
use Rattle.mesa_history_spec.specs.mesa_model.Relations.{relation_of}
use Rattle.mesa_history_spec.specs.Run.{Run}
use Rattle.mesa_history_spec.specs.Replay.{runs}
use Rattle.mesa_history_laws.specs.Pages.{Asking}

-- A table later on: it has its name and its views, its epoch and its oldest version never fall, and while its epoch is the same so are the columns and each content that can still be queried.
pub record IsLater (before : Warehouse) (t : Table) (later : Table) : Type 0 where
  pub name : later.name ≡ t.name
  pub more : List View
  pub views : later.lineage.views ≡ t.lineage.views ++ more
  pub epoch : epoch_of t.lineage ≤ epoch_of later.lineage
  pub oldest : t.oldest ≤ later.oldest
  pub columns : epoch_of later.lineage ≡ epoch_of t.lineage → columns_of later.lineage ≡ columns_of t.lineage
  pub contents : epoch_of later.lineage ≡ epoch_of t.lineage → (version : ℕ) → later.oldest ≤ version → version < before.next → content_at later version ≡ content_at t version

-- the epoch of the table of a relation's name
abbrev pub epoch_named : Store → List ℕ → Option ℕ
epoch_named s name = option_map (λ r. epoch_of r.table.lineage) (relation_of s name)

-- the oldest version of the table of a relation's name
abbrev pub oldest_named : Store → List ℕ → Option ℕ
oldest_named s name = option_map (λ r. r.table.oldest) (relation_of s name)

-- A version of a relation can be asked for as before: the warehouse is open, the version is there of the relation's table, and the table has the epoch that it had.
pub record IsStillThere (before now : Warehouse) (relation : List ℕ) (version : ℕ) : Type 0 where
  pub opens : now.closed ≡ None
  pub there : IfSome (oldest_named now.store relation) (λ oldest. oldest ≤ version)
  pub epoch : epoch_named now.store relation ≡ epoch_named before.store relation

-- A place later in a run where a version of a relation can be asked for as before.
pub record IsLaterPlace (script : Script) (r : Run) (relation : List ℕ) (version : ℕ) (asking : Asking) : Type 0 where
  pub more : List Entry
  pub reached : asking.warehouse ≡ (runs script r more).state.warehouse
  pub still : IsStillThere r.state.warehouse asking.warehouse relation version
