-- The close of a recast.
use Rattle.std.specs.Prelude.{◌≡◌, ℕ, List, ◌⊎◌}
use Rattle.mesa_history_spec.specs.mesa_list.Checks.{refused_as}
use Rattle.mesa_history_spec.specs.mesa_schema.Changes.{Lineage, epoch_of}
use Rattle.mesa_history_spec.specs.mesa_schema.Recasts.{Recast, views_kept}
use Rattle.mesa_history_spec.specs.mesa_model.declared.commands.Script.{Script}
use Rattle.mesa_history_spec.specs.mesa_model.declared.entries.Entry.{Entry}
use Rattle.mesa_history_spec.specs.mesa_model.Refusals.{recast_refusal}
use Rattle.mesa_history_spec.specs.mesa_model.Warehouse.{table_at}
use Rattle.mesa_history_spec.specs.Claims.{HasRanges}
use Rattle.mesa_history_spec.specs.Machine.{Claim, Recasts, still_checked}
use Rattle.mesa_history_spec.specs.Replay.{runs}
use Rattle.mesa_history_spec.specs.Run.{Granted, Renewed, Stage, State, begins, place_of}

-- the lineage of the table of a claim
abbrev pub lineage_now : State → Claim → Lineage
lineage_now s claim = (table_at s.warehouse.store claim.table).lineage

-- a session's command holds this claim
abbrev pub IsHeldAt : Stage → Claim → Type 0
IsHeldAt stage claim = (stage ≡ Granted claim) ⊎ (stage ≡ Renewed claim)

-- What is checked at the close of a claim's recast, where its table has the epoch that it had at the grant, is that no view would lose a column.
abbrev pub ClosesByViews : State → Claim → ℕ → Recast → Type 0
ClosesByViews s claim epoch r = epoch_of (lineage_now s claim) ≡ epoch → still_checked (lineage_now s claim) epoch r ≡ refused_as recast_refusal (views_kept (lineage_now s claim).views r)

-- It is so after every history of every claim for a recast.
abbrev pub RecastsCloseByViews : Type 0
RecastsCloseByViews = (script : Script) (start : State) (h : List Entry) (session : ℕ) (claim : Claim) (epoch : ℕ) (r : Recast)
    → HasRanges start → IsHeldAt (place_of (runs script (begins start) h) session).stage claim → claim.errand ≡ Recasts epoch r → ClosesByViews (runs script (begins start) h).state claim epoch r
