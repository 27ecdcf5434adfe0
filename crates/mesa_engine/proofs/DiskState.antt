-- What a vault's disk reads.
use Rattle.std.proofs.Common.{ℕ, List, Bool, true, inr, refl, sym, ◌∙◌, ap, Option}
use Rattle.mesa_disk.specs.Story.{Story}
use Rattle.mesa_model.specs.declared.entries.Entry.{Entry}
use Rattle.mesa_model.specs.Warehouse.{Warehouse}
use Rattle.mesa_invariant_spec.specs.mesa_history_spec.Rows.{Rows}
use Rattle.mesa_engine.specs.EngineState.{EngineState}
use Rattle.mesa_engine.specs.Vault.{Starts, IsVault, outset_of}
use Rattle.mesa_engine.specs.DiskState.{ReadsState}

-- On a sound store that nothing closed, a read gives what stands behind the history.
pub reads_state : (n : Starts) (w : Rows) (l : EngineState) (story : Story) (held : Option (List ℕ)) (h : List Entry) (running refused : Bool)
    → IsVault (outset_of n w) (n.origin w) true l story held h running refused → ReadsState n.script (n.start w) h story
reads_state n w l story held h running refused v none =
    let read = v.read refl in
    let stays = v.stands refl (sym (ap (λ (x : Warehouse). x.closed) v.invariant.state.projection) ∙ none) in
    let shows = stays.stands.read read.0 read.1 in (
      read.0,
      read.1,
      record {
        bodies = v.bodies;
        catalogue = l.catalogue;
        rows = v.rows;
        is = record { live = l.area; end = l.end; journal = record { whole = inr shows.journal; behind = shows.behind }; records = stays.records; files = shows.has; rows_are = stays.sound_rows };
        same = v.invariant.state.rows refl;
      },
    )
