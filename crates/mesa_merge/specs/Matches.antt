-- A tree of matches among inputs: the places 1 to n - 1 are matches, each of the winners at the two places below it, and the place n + j is the input j itself.
use Rattle.std.specs.Prelude.{◌≡◌, ◌≢◌, ℕ, zero, suc, ◌+◌, ◌/◌, ◌<◌, ◌≤◌, List, [], length, get_or}
use Rattle.mesa_scan.specs.mesa_columns.declared.rows.Row.{Row}
use Rattle.mesa_merge.specs.Fronts.{AreFronts, HasFront}
use Rattle.mesa_merge.specs.Hands.{IsBefore}
use Rattle.mesa_merge.specs.declared.matches.Tree.{Tree}

-- the place so many steps above another
abbrev pub above : ℕ → ℕ → ℕ
above zero place = place
above (suc steps) place = above steps (place / 2)

-- Each place has an input, which is one of those below it.
pub record AreWinners (n : ℕ) (winners : List ℕ) : Type 0 where
  pub count : length winners ≡ n + n
  pub within : (place : ℕ) → 1 ≤ place → place < n + n → get_or winners place 0 < n
  pub below : (place : ℕ) → 1 ≤ place → place < n + n → (steps : ℕ) × (above steps (n + get_or winners place 0) ≡ place)
  pub leaves : (j : ℕ) → j < n → get_or winners (n + j) 0 ≡ j

-- Each match was won: the winner comes before those it played against.
pub record AreWon (hands : List (List Row)) (winners : List ℕ) : Type 0 where
  pub inputs : AreWinners (length hands) winners
  pub won : (place : ℕ) → 2 ≤ place → place < length hands + length hands → IsBefore hands (get_or winners (place / 2) 0) (get_or winners place 0)

-- All matches of a tree were won, and its fronts are those of the rows at hand.
pub record IsTree (hands : List (List Row)) (t : Tree) : Type 0 where
  pub won : AreWon hands t.winners.items
  pub fronts : AreFronts hands t.fronts.items

-- So it is but for an input whose row at hand has changed: its front is another one, and the matches above it are to be played again.
pub record IsTreeBut (i : ℕ) (hands : List (List Row)) (t : Tree) : Type 0 where
  pub inputs : AreWinners (length hands) t.winners.items
  pub won : (place : ℕ) → 2 ≤ place → place < length hands + length hands → ((steps : ℕ) → above steps ((length hands + i) / 2) ≡ place / 2 → ⊥)
      → IsBefore hands (get_or t.winners.items (place / 2) 0) (get_or t.winners.items place 0)
  pub count : length t.fronts.items ≡ length hands
  pub fronts : (j : ℕ) → j < length hands → j ≢ i → HasFront (get_or t.fronts.items j 0) (get_or hands j [])
