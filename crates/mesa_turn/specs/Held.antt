-- What a contract sees of a value that is out of the lock.
use Rattle.std.specs.Prelude.{◌≡◌, ℕ, List, [], ◌∷◌, ◌++◌, IsTrue}
use Rattle.mesa_turn.specs.History.{name_of, has}
use Rattle.mesa_turn.specs.declared.held.Held.{Held}
use Rattle.mesa_turn.specs.Passes.{Known, known}

module _ {V : Type 0} where
  abbrev pub value_of : Held V → V
  value_of h = h.value

  abbrev pub position_of : Held V → ℕ
  position_of h = h.position

  -- The pass that took the value: it has seen the value's list as it was then.
  abbrev pub pass_of : Held V → Known
  pass_of h = known h.seat.table_id h.seat.me.0

  -- The value's list has one entry more than when it was taken, and the pass holds its name.
  abbrev pub HasOneMore : (V → List ℕ) → Held V → Type 0
  HasOneMore history h = (entry : ℕ) × (history (value_of h) ≡ (pass_of h).seen ++ entry ∷ []) × IsTrue (has (pass_of h).names (name_of entry))

  abbrev pub with_value : Held V → V → Held V
  with_value h w = record h { value = w }
