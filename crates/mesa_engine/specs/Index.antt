-- An index of holds, in which it is found by halving whether one of them is on a file.
use Rattle.std.specs.Prelude.{◌≡◌, List}
use Rattle.std.specs.List.Sorted.{IsNonDecreasingBy}
use Rattle.mesa_commit.specs.declared.trash.Dropped.{Dropped}
use Rattle.mesa_commit.specs.declared.trash.Hold.{Hold}
use Rattle.mesa_commit.specs.Holding.{is_held}

-- Its holds stand in the order in which they were made, and each reaches as far as those before it.
pub record IsIndex (index : List Hold) : Type 0 where
  pub rising : IsNonDecreasingBy (λ (h : Hold). h.at) index
  pub reaching : IsNonDecreasingBy (λ (h : Hold). h.next) index

-- An index is of these holds: it is on the files that they are on.
pub record IsIndexOf (holds index : List Hold) : Type 0 where
  pub ordered : IsIndex index
  pub same : (d : Dropped) → is_held index d ≡ is_held holds d
