-- The newest input that holds a key.
use Rattle.std.proofs.Common.{◌≡◌, ◌⊎◌, inl, inr, ℕ, ◌+◌, ◌<◌, ◌≤◌, List, [], refl, subst, length, get_or, arith}
use Rattle.mesa_scan.specs.mesa_columns.declared.rows.Row.{Row}
use Rattle.mesa_merge.specs.Sums.{HasHead, IsNewest}
use Rattle.mesa_merge.proofs.Trees.{beyond, past, same_or_not}

-- Of the inputs before a place.
pub record IsNewestTo (key : List ℕ) (from newest end : ℕ) (hands : List (List Row)) : Type 0 where
  pub below : newest < end
  pub within : newest < length hands
  pub behind : from ≤ newest
  pub holds : (newest ≡ from) ⊎ HasHead key (get_or hands newest [])
  pub last : (j : ℕ) → newest < j → j < end → HasHead key (get_or hands j []) → ⊥

pub newest_first : (key : List ℕ) (from : ℕ) (hands : List (List Row)) → from < length hands → IsNewestTo key from from (from + 1) hands
newest_first key from hands lt = record { below = omega arith; within = lt; behind = omega arith; holds = inl refl; last = λ j more less. absurd (omega (arith, more, less)) }

pub newest_here : (key : List ℕ) (from newest j : ℕ) (hands : List (List Row)) → IsNewestTo key from newest j hands → j < length hands → HasHead key (get_or hands j []) → IsNewestTo key from j (j + 1) hands
newest_here key from newest j hands p lt head = record { below = omega arith; within = lt; behind = omega (arith, p.behind, p.below); holds = inr head; last = λ k more less. absurd (omega (arith, more, less)) }

pub newest_there : (key : List ℕ) (from newest j : ℕ) (hands : List (List Row)) → IsNewestTo key from newest j hands → (HasHead key (get_or hands j []) → ⊥) → IsNewestTo key from newest (j + 1) hands
newest_there key from newest j hands p none = record {
  below = omega (arith, p.below);
  within = p.within;
  behind = p.behind;
  holds = p.holds;
  last = λ k more less head. elim (same_or_not k j) [
    | inl same ↦ none (subst (λ n. HasHead key (get_or hands n [])) same head)
    | inr ne ↦ p.last k more (omega (arith, less, ne)) head
  ];
}

pub newest_all : (key : List ℕ) (from newest end : ℕ) (hands : List (List Row)) → IsNewestTo key from newest end hands → length hands ≤ end → IsNewest key from newest hands
newest_all key from newest end hands p all = record {
  behind = p.behind;
  holds = p.holds;
  last = λ j more head. elim (beyond j end) [
    | inl lt ↦ p.last j more lt head
    | inr le ↦ subst (HasHead key) (past hands j (omega (arith, all, le))) head
  ];
}
