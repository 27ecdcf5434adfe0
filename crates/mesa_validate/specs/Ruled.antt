-- What the rules let a command do, or why they don't.
use Rattle.std.specs.Prelude.{◌≡◌, true, Result, Ok}
use Rattle.mesa_record.specs.Rules.{keeps_rules}
use Rattle.mesa_model.specs.declared.replies.Refusal.{Refusal}
use Rattle.mesa_model.specs.declared.replies.Reply.{Reply}
use Rattle.mesa_model.specs.Warehouse.{Warehouse}
use Rattle.mesa_catalog.specs.mesa_store_spec.Catalog.{Catalog}
use Rattle.mesa_catalog.specs.mesa_store_spec.Fitting.{fits}
use Rattle.mesa_binding.specs.declared.failure.Failure.{Failure}
use Rattle.mesa_binding.specs.Told.{IsDue}
use Rattle.mesa_validate.specs.declared.ruled.Ruled.{Ruled}
use Rattle.mesa_validate.specs.Seen.{HasCatalog}

-- what a command does to a warehouse: the warehouse after it and the reply, or a refusal
abbrev pub Doing : Type 0
Doing = Warehouse → Result (Warehouse × Reply) Refusal

-- The rules let a command do what it asks: its record keeps the rules of records and fits the catalogue, and every warehouse with the catalogue does the command, with this reply.
pub record IsRuled (c : Catalog) (f : Doing) (r : Ruled) : Type 0 where
  pub rules : keeps_rules r.writes ≡ true
  pub fit : fits c r.writes ≡ true
  pub does : (w : Warehouse) → HasCatalog c w → (after : Warehouse) × (f w ≡ Ok (after, r.tells))

-- They don't: every warehouse with the catalogue refuses the command so; or there was no memory.
abbrev pub IsRefused : Catalog → Doing → Failure → Type 0
IsRefused c f failure = (w : Warehouse) → HasCatalog c w → IsDue (f w) failure
