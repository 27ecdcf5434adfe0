-- Which damage is told.
use Rattle.std.proofs.Common.{◌≡◌, inl, inr, ℕ, ℤ, ◌+◌, List, [], ◌∷◌, refl, sym, subst, get_or, arith, true}
use Rattle.std.specs.Prelude.{Option, Some, slice_get}
use Rattle.std.specs.Ordering.{is_ge}
use Rattle.std.specs.declared.cmp.Ordering.TheVariants.{Less, Equal, Greater}
use Rattle.mesa_value.specs.declared.Agg.{Agg}
use Rattle.mesa_value.specs.declared.Agg.TheVariants as agg
use Rattle.mesa_scan.specs.mesa_fold.Folded.{AllCombine, row_combined}
use Rattle.mesa_scan.specs.mesa_file.declared.damage.Damage.{Damage}
use Rattle.mesa_key.specs.Order.{byte_cmp}
use Rattle.mesa_scan.specs.mesa_columns.declared.rows.Row.{Row}
use Rattle.mesa_scan.specs.mesa_columns.Columns.{Columns, aggs_of}
use Rattle.mesa_batch.proofs.Place.{flipped}
use Rattle.mesa_delta.specs.declared.input.Input.{Input}
use Rattle.mesa_scan.specs.declared.cursor.Cursor.{Cursor}
use Rattle.mesa_merge.specs.Damaged.{IsSumOf, SumsKeep}
use Rattle.mesa_merge.specs.Hands.{IsAhead, IsFrom, hands_of}
use Rattle.mesa_merge.specs.Inputs.{Known, knowns_of}
use Rattle.mesa_merge.specs.Merging.{IsGathering}
use Rattle.mesa_merge.specs.Sums.{HasHead, HasKey, IsNewest, sum_damage}
use Rattle.mesa_merge.proofs.Lasting.{key_before, key_behind}
use Rattle.mesa_merge.proofs.Orders.{tied}

head_key : (key : List ℕ) (hand : List Row) → HasHead key hand → HasKey key hand
head_key key [] h = absurd h
head_key key (row ∷ rows) h = inl h

-- what is at or above a key, and hasn't it, is above it
ahead_other : (key : List ℕ) (hand : List Row) → IsFrom key hand → (HasHead key hand → ⊥) → IsAhead key hand
ahead_other key [] from other = tt
ahead_other key (row ∷ rows) from other = elim (byte_cmp row.key key) as (λ o. byte_cmp row.key key ≡ o → is_ge o ≡ true → byte_cmp key row.key ≡ Less) [
  | Less ↦ λ e h. cc
  | Equal ↦ λ e h. absurd (other (tied row.key key e))
  | Greater ↦ λ e h. flipped key row.key Greater e
] refl from

-- where all sums of a combined row are within their type, all values combine
combine : (aggs : List Agg) (old new : List ℤ) → SumsKeep aggs (row_combined aggs old new) → AllCombine aggs old new
combine [] old new all = tt
combine (agg ∷ aggs) [] new all = tt
combine (agg ∷ aggs) (a ∷ old) [] all = tt
combine (agg.Sum ∷ aggs) (a ∷ old) (b ∷ new) all = (all.0, combine aggs old new all.1)
combine (agg.Min ∷ aggs) (a ∷ old) (b ∷ new) all = (tt, combine aggs old new all.1)
combine (agg.Max ∷ aggs) (a ∷ old) (b ∷ new) all = (tt, combine aggs old new all.1)
combine (agg.Replace ∷ aggs) (a ∷ old) (b ∷ new) all = (tt, combine aggs old new all.1)

-- a row that doesn't combine with another has a sum in the combined row that isn't within its type
pub leaves_bound : (aggs : List Agg) (old new : List ℤ) → (AllCombine aggs old new → ⊥) → SumsKeep aggs (row_combined aggs old new) → ⊥
leaves_bound aggs old new off all = off (combine aggs old new all)

-- the newest input that holds the key of a row so far is told
pub sum_of : {R : Type 0} (bytes : R → Option (List ℕ)) (low : Option (List ℕ)) (s : Columns) (inputs : List (Input R)) (cursors : List Cursor) (i at : ℕ) (row : Row) (front : List Row) (givens : List (List Row)) (file : Known) (d : Damage)
    → IsGathering bytes low s inputs cursors (i + 1) row front givens → (SumsKeep (aggs_of s) row.values → ⊥) → IsNewest row.key i at (hands_of cursors) → slice_get (knowns_of bytes inputs) at ≡ Some file → d ≡ sum_damage file.file.file → IsSumOf bytes inputs d
sum_of bytes low s inputs cursors i at row front givens file d g off newest one told = record {
  columns = s;
  alike = g.alike;
  givens = givens;
  front = front;
  sum = row;
  fold = g.fold;
  leaves = off;
  file = file;
  newest = record {
    low = low;
    cursors = cursors;
    given = g.given;
    ready = g.ready;
    at = at;
    holds = elim newest.holds [
      | inl same ↦ key_before row.key (get_or givens at []) _ (subst (λ n. HasKey row.key (get_or givens n [])) (sym same) (g.here i refl))
      | inr head ↦ key_behind row.key (get_or givens at []) _ (head_key row.key _ head)
    ];
    newer = λ j more. (g.stage.under j (omega (arith, more, newest.behind)), ahead_other row.key _ (g.stage.each j) (newest.last j more));
    one = one;
  };
  told = told;
}
