-- Histories in which nothing was damaged.
use Rattle.std.specs.Prelude.{◌≡◌, List, Bool, true, false}
use Rattle.std.specs.List.{AllByRecursion}
use Rattle.mesa_history_spec.specs.mesa_model.declared.entries.Entry.{Entry}
use Rattle.mesa_history_spec.specs.mesa_model.declared.entries.Outcome.{Outcome}
use Rattle.mesa_history_spec.specs.mesa_model.declared.entries.Outcome.TheVariants as outcome

-- whether an entry met damage
abbrev pub is_damaged : Outcome → Bool
is_damaged outcome.Damaged = true
is_damaged o = false

-- no entry met damage
abbrev pub NoneDamaged : List Entry → Type 0
NoneDamaged h = AllByRecursion (λ (e : Entry). is_damaged e.outcome ≡ false) h
