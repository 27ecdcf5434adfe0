-- The newest input that has given a row of a key.
use Rattle.std.proofs.Common.{◌≡◌, inl, inr, ℕ, zero, suc, ◌+◌, ◌<◌, List, [], ◌∷◌, ◌++◌, refl, sym, subst, length, get_or, set, arith, true, false}
use Rattle.std.proofs.lemmas.List.{get_or-set_same}
use Rattle.std.specs.Prelude.{Option, Some, slice_get}
use Rattle.std.specs.declared.cmp.Ordering.TheVariants.{Less}
use Rattle.mesa_scan.specs.mesa_columns.declared.rows.Row.{Row}
use Rattle.mesa_scan.specs.mesa_columns.Columns.{Columns}
use Rattle.mesa_delta.specs.declared.input.Input.{Input}
use Rattle.mesa_scan.specs.declared.cursor.Cursor.{Cursor}
use Rattle.mesa_key.specs.Order.{byte_cmp}
use Rattle.mesa_scan.specs.mesa_fold.Laws.{AreUnder}
use Rattle.mesa_merge.specs.Damaged.{IsNewestWith}
use Rattle.mesa_merge.specs.Hands.{IsAhead}
use Rattle.mesa_merge.specs.Inputs.{Known, knowns_of}
use Rattle.mesa_merge.specs.Merged.{HasMergedBetween, inputs_of}
use Rattle.mesa_merge.specs.Merging.{AreAbove, IsGathering, IsMerging}
use Rattle.mesa_merge.specs.Sums.{HasKey, IsLastOf}
use Rattle.mesa_merge.specs.declared.merge.Merge.{Merge}
use Rattle.mesa_merge.proofs.Inputs.{givens_count}

pub key_before : (key : List ℕ) (xs ys : List Row) → HasKey key xs → HasKey key (xs ++ ys)
key_before key [] ys h = absurd h
key_before key (x ∷ xs) ys h = elim h [ inl here ↦ inl here | inr more ↦ inr (key_before key xs ys more) ]

pub key_behind : (key : List ℕ) (xs ys : List Row) → HasKey key ys → HasKey key (xs ++ ys)
key_behind key [] ys h = h
key_behind key (x ∷ xs) ys h = inr (key_behind key xs ys h)

-- an input that gives a row of a key has given one
pub key_given : (key : List ℕ) (i : ℕ) (givens : List (List Row)) (row : Row) → row.key ≡ key → i < length givens → (j : ℕ) → i + 1 ≡ j + 1 → HasKey key (get_or (set givens i (get_or givens i [] ++ row ∷ [])) j [])
key_given key i givens row is lt j same =
    let here : HasKey key (get_or (set givens i (get_or givens i [] ++ row ∷ [])) i []) = subst (HasKey key) (sym (get_or-set_same givens i (get_or givens i [] ++ row ∷ []) [] lt)) (key_behind key (get_or givens i []) (row ∷ []) (inl is)) in
    let place : i ≡ j = omega (arith, same) in
    subst (λ n. HasKey key (get_or (set givens i (get_or givens i [] ++ row ∷ [])) n [])) place here

-- the last input that gave a row of the key that is being combined
pub last_of : {R : Type 0} (bytes : R → Option (List ℕ)) (low : Option (List ℕ)) (s : Columns) (inputs : List (Input R)) (cursors : List Cursor) (i : ℕ) (row : Row) (front : List Row) (givens : List (List Row)) → IsGathering bytes low s inputs cursors (i + 1) row front givens → IsLastOf row.key i givens
last_of bytes low s inputs cursors i row front givens g = record { holds = g.here i refl; newer = λ j more. g.stage.under j (omega (arith, more)) }

last_within : (key : List ℕ) (at : ℕ) (givens : List (List Row)) → HasKey key (get_or givens at []) → at < length givens
last_within key at [] h = absurd h
last_within key zero (g ∷ givens) h = omega arith
last_within key (suc at) (g ∷ givens) h = let rest = last_within key at givens h in omega (arith, rest)

-- it is one of a merge's inputs
pub last_there : {R : Type 0} {low high : Option (List ℕ)} (bytes : R → Option (List ℕ)) (s : Columns) (m : Merge R) (givens : List (List Row)) (key : List ℕ) (at : ℕ) → HasMergedBetween bytes low high s m givens → IsLastOf key at givens → at < length (inputs_of m)
last_there {low = low} bytes s m givens key at h last = subst (λ n. at < n) (givens_count bytes low m.inputs.items m.cursors.items givens h.given) (last_within key at givens last.holds)

-- a merge that has given a row has begun
begun_with : {R : Type 0} (low high : Option (List ℕ)) (bytes : R → Option (List ℕ)) (s : Columns) (m : Merge R) (givens : List (List Row)) (key : List ℕ) (at : ℕ) → HasMergedBetween bytes low high s m givens → HasKey key (get_or givens at []) → IsMerging bytes low s m.inputs.items m.cursors.items givens
begun_with low high bytes s m givens key at h holds = elim (m.begun) as (λ b. m.begun ≡ b → IsMerging bytes low s m.inputs.items m.cursors.items givens) [
  | true ↦ λ e. h.merging e
  | false ↦ λ e. absurd (subst (HasKey key) (h.fresh e at) holds)
] refl

under_key : (key above : List ℕ) (rows : List Row) → AreUnder above rows → HasKey key rows → byte_cmp key above ≡ Less
under_key key above [] under h = absurd h
under_key key above (row ∷ rows) under h = elim h [
  | inl here ↦ subst (λ k. byte_cmp k above ≡ Less) here under.0
  | inr more ↦ under_key key above rows under.1 more
]

-- the rows at hand are above the key of a row that was given
ahead_given : (key : List ℕ) (at j : ℕ) (hands givens : List (List Row)) → AreAbove hands givens → HasKey key (get_or givens at []) → (hand : List Row) → get_or hands j [] ≡ hand → IsAhead key hand
ahead_given key at j hands givens above holds [] e = tt
ahead_given key at j hands givens above holds (row ∷ rows) e = under_key key row.key (get_or givens at []) (above j row rows e at) holds

-- no other input has a newer row of the key
pub newest_given : {R : Type 0} {low high : Option (List ℕ)} (bytes : R → Option (List ℕ)) (s : Columns) (m : Merge R) (givens : List (List Row)) (key : List ℕ) (at : ℕ) (file : Known) → HasMergedBetween bytes low high s m givens → IsLastOf key at givens → slice_get (knowns_of bytes (inputs_of m)) at ≡ Some file → IsNewestWith bytes (inputs_of m) key givens file
newest_given {low = low} {high = high} bytes s m givens key at file h last one =
    let merging = begun_with low high bytes s m givens key at h last.holds in
    record {
      low = low;
      cursors = m.cursors.items;
      given = merging.given;
      ready = merging.ready;
      at = at;
      holds = key_before key (get_or givens at []) _ last.holds;
      newer = λ j more. (last.newer j more, ahead_given key at j _ givens merging.rising last.holds _ refl);
      one = one;
    }
