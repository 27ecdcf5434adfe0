-- What a load sees of an engine.
use Rattle.std.proofs.Common.{◌≡◌, ℕ, List, Bool, sym, ◌∙◌, Option, Ok, Err}
use Rattle.std.specs.Prelude.{IfOk, Result}
use Rattle.std.proofs.lemmas.Simd.{map-map}
use Rattle.mesa_batch.specs.Glance.{tables_of}
use Rattle.mesa_catalog.specs.Lookups.{sight_of}
use Rattle.mesa_disk.specs.Story.{Story}
use Rattle.mesa_model.specs.declared.entries.Entry.{Entry}
use Rattle.mesa_invariant_spec.specs.Sight.{tables_seen}
use Rattle.mesa_invariant_spec.specs.Invariant.{Outset, run_of}
use Rattle.mesa_invariant_spec.proofs.Projections.{named_is}
use Rattle.mesa_engine.specs.EngineState.{EngineState, books_of}
use Rattle.mesa_engine.specs.Vault.{Origin, IsVault}
use Rattle.mesa_engine.proofs.Changing.{tables_are}

-- A glance at its catalogue is at the tables of the state that stands behind its history.
pub tables_are_seen : (o : Outset) (g : Origin) (sound : Bool) (l : EngineState) (story : Story) (held : Option (List ℕ)) (h : List Entry) (running refused : Bool) → IsVault o g sound l story held h running refused → tables_of (sight_of l.catalogue) ≡ tables_seen (run_of o h)
tables_are_seen o g sound l story held h running refused v =
    map-map _ _ l.catalogue.tables ∙ sym (tables_are l.catalogue) ∙ sym (named_is sound (books_of v.rows l) (run_of o h).state v.invariant.state)

-- What holds of a value that came holds of it by another name.
pub ok_also : {A E : Type 0} (r : Result A E) (P Q : A → Type 0) → ((x : A) → P x → Q x) → IfOk r P → IfOk r Q
ok_also (Ok x) P Q also is = also x is
ok_also (Err e) P Q also is = is
