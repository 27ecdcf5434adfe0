-- Pages of a query after any history.
use Rattle.std.proofs.Common.{◌≡◌, ℕ, ◌<◌, List, [], sym, subst, Ok}
use Rattle.mesa_history_spec.specs.mesa_filter.declared.words.QueryWords.{QueryWords}
use Rattle.mesa_history_spec.specs.mesa_filter.declared.words.VersionWord.{VersionWord}
use Rattle.mesa_history_spec.specs.mesa_filter.declared.words.VersionWord.TheVariants as asks
use Rattle.mesa_history_spec.specs.mesa_model.declared.commands.Script.{Script}
use Rattle.mesa_history_spec.specs.mesa_model.declared.entries.Entry.{Entry}
use Rattle.mesa_history_spec.specs.mesa_model.declared.replies.Refusal.TheVariants as no
use Rattle.mesa_history_spec.specs.mesa_model.Warehouse.{Pin, Store, Warehouse}
use Rattle.mesa_history_spec.specs.mesa_model.WellFormed.{IsWellFormed}
use Rattle.mesa_history_spec.specs.mesa_model.Pins.{is_pin, pin_of}
use Rattle.mesa_history_spec.specs.mesa_model.Query.{Answer, store_asked}
use Rattle.mesa_history_spec.specs.Run.{State, begins}
use Rattle.mesa_history_laws.specs.Given.{WasGiven, warehouse_after}
use Rattle.mesa_history_laws.specs.Pages.{ArePagesOf, IsWholeAnswer, from_first, pages_asked}
use Rattle.mesa_history_laws.proofs.Checks.{bound_some}
use Rattle.mesa_history_spec.proofs.mesa_columns.Lists.{all_found}
use Rattle.mesa_history_laws.proofs.Pinning.{pins_given}
use Rattle.mesa_history_laws.proofs.QueryPages.{pages_of_place}
use Rattle.mesa_history_laws.proofs.StoredRows.{IsStored, pin_stored, well_stored}
use Rattle.mesa_history_laws.proofs.WellFormed.{runs_well}

module _ (script : Script) (start : State) (h : List Entry) (session : ℕ) (is : IsWellFormed start.warehouse) (none : start.warehouse.pins ≡ []) where
  abbrev now : Warehouse
  now = warehouse_after script start h

  present : IsStored now.store
  present = well_stored now (runs_well script (begins start) h is)

  -- the tables that a query sees have contents of their columns
  seen_stored : (asked : VersionWord) (s : Store) → store_asked now session asked ≡ Ok s → IsStored s
  seen_stored asks.Latest s e = (let same : now.store ≡ s = cc in subst IsStored same present)
  seen_stored (asks.At version) s e = (let same : now.store ≡ s = cc in subst IsStored same present)
  seen_stored (asks.Pin token) s e =
      let pin = bound_some (pin_of now session token) (no.NoPin token) (λ (pin : Pin). Ok pin.store) s e in
      let of = pin.2 in
      let same : pin.0.store ≡ s = cc in
      let given : WasGiven script start h pin.0 = all_found (WasGiven script start h) (is_pin session token) now.pins pin.0 pin.1 (pins_given script start is none h) in
      let then : Warehouse = warehouse_after script start given.before in
      subst IsStored same (subst IsStored (sym given.store) (pin_stored then.store pin.0.version (well_stored then (runs_well script (begins start) given.before is))))

  -- After any history the pages of a query are those of its whole answer.
  pub pages_reached : (words : QueryWords) (limit : ℕ) (whole : Answer) → 0 < limit → IsWholeAnswer now session words whole → (times : ℕ) → ArePagesOf whole.page.rows times (pages_asked now session (from_first words limit) times)
  pages_reached words limit whole some is times = pages_of_place now session words limit is.limit whole (seen_stored words.version) some is.answers is.last times
