-- Rows of one key, combined one after the other.
use Rattle.std.proofs.Common.{◌≡◌, ◌≢◌, inl, inr, ℕ, suc, ◌+◌, ◌<◌, ◌≤◌, List, [], ◌∷◌, ◌++◌, refl, sym, ◌∙◌, ap, subst, length, get_or, set}
use Rattle.std.proofs.lemmas.List.{get_or-set_same, get_or-set_other}
use Rattle.std.specs.Prelude.{Option, map}
use Rattle.mesa_scan.specs.mesa_columns.declared.rows.Row.{Row}
use Rattle.mesa_scan.specs.mesa_columns.declared.columns.ValueColumn.{ValueColumn}
use Rattle.mesa_scan.specs.mesa_columns.Columns.{Columns, aggs_of}
use Rattle.mesa_scan.specs.mesa_fold.Folded.{folded, row_combined}
use Rattle.mesa_scan.specs.mesa_fold.Laws.{AreUnder, PutsGiven}
use Rattle.mesa_scan.specs.mesa_columns.Rows.{AreRowsOf, IsRowOf}
use Rattle.mesa_scan.proofs.mesa_fold.Lifts.{row_combined-length}
use Rattle.mesa_scan.proofs.mesa_fold.Ranges.{ranges_combined}
use Rattle.mesa_delta.specs.declared.input.Input.{Input}
use Rattle.mesa_scan.specs.declared.cursor.Cursor.{Cursor}
use Rattle.mesa_merge.specs.Hands.{IsAhead, IsFrom, IsLeastAt, IsLeastOf, hands_of}
use Rattle.mesa_merge.specs.Inputs.{AreAlike, knowns_of}
use Rattle.mesa_merge.specs.Merging.{AreReady, HasGivens, IsGathering, IsMerging, IsStage}
use Rattle.mesa_merge.proofs.Inputs.{givens_count}
use Rattle.mesa_merge.proofs.Stages.{stage_last, stage_later}
use Rattle.mesa_merge.proofs.Lasting.{key_given}
use Rattle.mesa_merge.proofs.Steps.{first_step, heads_same, next_step}
use Rattle.mesa_merge.proofs.Trees.{beyond, same_or_not}

-- as many aggregations as value columns
pub aggs_count : (s : Columns) → length (aggs_of s) ≡ length s.values
aggs_count s = count s.values where
  count : (cs : List ValueColumn) → length (map (λ (c : ValueColumn). c.agg) cs) ≡ length cs
  count [] = refl
  count (c ∷ cs) = ap suc (count cs)

-- a row more of the form
form_more : (s : Columns) (rows : List Row) (row : Row) → AreRowsOf s rows → IsRowOf s row → AreRowsOf s (rows ++ row ∷ [])
form_more s [] row all one = (one, tt)
form_more s (x ∷ xs) row all one = (all.0, form_more s xs row all.1 one)

formed_more : (s : Columns) (gs : List (List Row)) (i : ℕ) (row : Row) → i < length gs → ((j : ℕ) → AreRowsOf s (get_or gs j [])) → IsRowOf s row → (j : ℕ) → AreRowsOf s (get_or (set gs i (get_or gs i [] ++ row ∷ [])) j [])
formed_more s gs i row lt formed one j = elim (same_or_not j i) [
  | inl same ↦ subst (AreRowsOf s) (sym (ap (λ n. get_or (set gs i (get_or gs i [] ++ row ∷ [])) n []) same ∙ get_or-set_same gs i (get_or gs i [] ++ row ∷ []) [] lt)) (form_more s (get_or gs i []) row (formed i) one)
  | inr ne ↦ subst (AreRowsOf s) (sym (get_or-set_other gs i j (get_or gs i [] ++ row ∷ []) [] ne)) (formed j)
]

-- a row that a newer one was combined with has the form still
combined_form : (s : Columns) (row more next : Row) → IsRowOf s row → IsRowOf s more → next ≡ record row { values = row_combined (aggs_of s) row.values more.values } → IsRowOf s next
combined_form s row more next f g made = subst (IsRowOf s) (sym made) (record {
  key = f.key;
  spelled = f.spelled;
  values = row_combined-length (aggs_of s) row.values more.values (f.values ∙ sym (aggs_count s)) (g.values ∙ sym (aggs_count s)) ∙ aggs_count s;
  ranges = ranges_combined (aggs_of s) row.values more.values f.ranges g.ranges;
})

-- What taking a row from an input makes of the inputs: the promises of `advance`.
pub record IsTaken {R : Type 0} (bytes : R → Option (List ℕ)) (low : Option (List ℕ)) (s : Columns) (olds news : List (Input R)) (oldc newc : List Cursor) (i : ℕ) (givens : List (List Row)) (more : Row) : Type 0 where
  pub within : i < length olds
  pub rows : List Row
  pub there : get_or (hands_of oldc) i [] ≡ more ∷ rows
  pub given : HasGivens bytes low news newc (set givens i (get_or givens i [] ++ more ∷ []))
  pub form : IsRowOf s more
  pub ahead : IsAhead more.key (get_or (hands_of newc) i [])
  pub others : (j : ℕ) → j ≢ i → get_or (hands_of newc) j [] ≡ get_or (hands_of oldc) j []
  pub ready : AreReady (length news) news newc
  pub known : knowns_of bytes news ≡ knowns_of bytes olds

-- the first row of a key
pub gather_first : PutsGiven → {R : Type 0} (bytes : R → Option (List ℕ)) (low : Option (List ℕ)) (s : Columns) (olds news : List (Input R)) (oldc newc : List Cursor) (i : ℕ) (givens : List (List Row)) (row : Row)
    → IsMerging bytes low s olds oldc givens → IsLeastAt i (hands_of oldc) → IsTaken bytes low s olds news oldc newc i givens row
    → IsGathering bytes low s news newc (i + 1) row (folded (aggs_of s) givens) (set givens i (get_or givens i [] ++ row ∷ []))
gather_first laws bytes low s olds news oldc newc i givens row m least t =
    let lt : i < length givens = subst (λ n. i < n) (sym (givens_count bytes low olds oldc givens m.given)) t.within in
    let step = first_step laws (aggs_of s) i (hands_of oldc) (hands_of newc) givens row t.rows m.rising least t.there lt t.ahead t.others in
    record {
      alike = subst (AreAlike s) (sym t.known) m.alike;
      given = t.given;
      ready = t.ready;
      stage = step.0;
      formed = formed_more s givens i row lt m.formed t.form;
      fold = step.1;
      below = step.2;
      here = key_given row.key i givens row refl lt;
      form = t.form;
    }

-- the input of a further row of the key is behind those that are done with it
pub gather_later : {R : Type 0} (bytes : R → Option (List ℕ)) (low : Option (List ℕ)) (s : Columns) (inputs : List (Input R)) (cursors : List Cursor) (n i : ℕ) (row : Row) (front : List Row) (givens : List (List Row))
    → IsGathering bytes low s inputs cursors n row front givens → IsLeastOf row.key i (hands_of cursors) → n ≤ i
gather_later bytes low s inputs cursors n i row front givens g least = elim (beyond i n) [
  | inl lt ↦ absurd (stage_later row.key n i (hands_of cursors) givens g.stage least.least least.is lt)
  | inr le ↦ le
]

-- a further row of the key
pub gather_more : PutsGiven → {R : Type 0} (bytes : R → Option (List ℕ)) (low : Option (List ℕ)) (s : Columns) (olds news : List (Input R)) (oldc newc : List Cursor) (n i : ℕ) (row more next : Row) (front : List Row) (givens : List (List Row))
    → IsGathering bytes low s olds oldc n row front givens → IsLeastOf row.key i (hands_of oldc) → IsTaken bytes low s olds news oldc newc i givens more
    → next ≡ record row { values = row_combined (aggs_of s) row.values more.values }
    → IsGathering bytes low s news newc (i + 1) next front (set givens i (get_or givens i [] ++ more ∷ []))
gather_more laws bytes low s olds news oldc newc n i row more next front givens g least t made =
    let lt : i < length givens = subst (λ k. i < k) (sym (givens_count bytes low olds oldc givens g.given)) t.within in
    let step = next_step laws (aggs_of s) row.key i n (hands_of oldc) (hands_of newc) givens front row more next t.rows g.stage least t.there lt t.ahead t.others g.fold g.below refl made in
    let key : row.key ≡ next.key = ap (λ (r : Row). r.key) (sym made) in
    let same : more.key ≡ row.key = ap (λ (r : Row). r.key) (heads_same _ _ _ _ (sym t.there ∙ least.least.there)) ∙ least.is in
    record {
      alike = subst (AreAlike s) (sym t.known) g.alike;
      given = t.given;
      ready = t.ready;
      stage = subst (λ k. IsStage k (i + 1) (hands_of newc) (set givens i (get_or givens i [] ++ more ∷ []))) key step.0;
      formed = formed_more s givens i more lt g.formed t.form;
      fold = step.1;
      below = subst (λ k. AreUnder k front) key g.below;
      here = key_given next.key i givens more (same ∙ key) lt;
      form = combined_form s row more next g.form t.form made;
    }

-- once none has the key any more
pub gather_done : {R : Type 0} (bytes : R → Option (List ℕ)) (low : Option (List ℕ)) (s : Columns) (inputs : List (Input R)) (cursors : List Cursor) (n : ℕ) (row : Row) (front : List Row) (givens : List (List Row))
    → IsGathering bytes low s inputs cursors n row front givens → (((j : ℕ) → IsFrom row.key (get_or (hands_of cursors) j [])) → (j : ℕ) → IsAhead row.key (get_or (hands_of cursors) j []))
    → IsMerging bytes low s inputs cursors givens
gather_done bytes low s inputs cursors n row front givens g none = record {
  alike = g.alike;
  given = g.given;
  ready = g.ready;
  formed = g.formed;
  rising = stage_last row.key n (hands_of cursors) givens g.stage (none g.stage.each);
}
