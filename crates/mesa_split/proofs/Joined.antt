-- Parts that stand one after the other.
use Rattle.std.proofs.Common.{◌≡◌, ℕ, List, [], ◌∷◌, ◌++◌, refl, sym, ◌∙◌, ap, subst, true}
use Rattle.std.proofs.lemmas.List.{append-nil}
use Rattle.std.proofs.lemmas.Bool.{and_from, and_parts}
use Rattle.std.specs.Prelude.{Option, None, Some, IsTrue}
use Rattle.std.specs.List.{AllByRecursion}
use Rattle.std.specs.Ordering.{is_lt}
use Rattle.mesa_key.specs.Order.{byte_cmp}
use Rattle.mesa_compact.specs.mesa_columns.declared.rows.Row.{Row}
use Rattle.mesa_compact.specs.mesa_columns.Columns.{Columns, aggs_of}
use Rattle.mesa_open_files.specs.mesa_fold.Folded.{folded, rows_of}
use Rattle.mesa_compact.specs.mesa_columns.Rows.{AreRowsOf, IsRowOf, keys_rise}
use Rattle.mesa_merge.proofs.mesa_fold.RisingRows.{folded_rise}
use Rattle.mesa_merge.specs.Inputs.{AreTold, Known, lifted_parts}
use Rattle.mesa_compact.specs.mesa_scan.Cut.{CutsRise, IsLow, cuts_from, is_from, is_under, lies_in}
use Rattle.mesa_merge.proofs.mesa_scan.Cutting.{below_at, cut_none, cuts_whole, is_less, from_cut}
use Rattle.mesa_merge.proofs.mesa_scan.Cuts.{all_both}
use Rattle.mesa_split.specs.Parts.{ArePartsOf}

abbrev AllFrom : Option (List ℕ) → List Row → Type 0
AllFrom low rows = AllByRecursion (λ (row : Row). is_from low row.key ≡ true) rows

-- rows below a key and rows from it on
pub join_rise : (key : List ℕ) (xs ys : List Row) → keys_rise xs ≡ true → keys_rise ys ≡ true → AllByRecursion (λ (row : Row). is_lt (byte_cmp row.key key) ≡ true) xs → AllFrom (Some key) ys → keys_rise (xs ++ ys) ≡ true
join_rise key [] ys p q under from = q
join_rise key (x ∷ []) [] p q under from = refl
join_rise key (x ∷ []) (y ∷ ys) p q under from = and_from (is_lt (byte_cmp x.key y.key)) (keys_rise (y ∷ ys)) (ap is_lt (below_at x.key key y.key (is_less x.key key under.0) from.0)) q
join_rise key (x ∷ z ∷ xs) ys p q under from =
    let parts = and_parts (is_lt (byte_cmp x.key z.key)) (keys_rise (z ∷ xs)) p in
    and_from (is_lt (byte_cmp x.key z.key)) (keys_rise (z ∷ (xs ++ ys))) parts.0 (join_rise key (z ∷ xs) ys parts.1 q under.1 from)

pub ends : (low : Option (List ℕ)) (high : Option (List ℕ)) (rows : List Row) → AllByRecursion (λ (row : Row). IsTrue (lies_in low high row.key)) rows → AllFrom low rows × AllByRecursion (λ (row : Row). is_under high row.key ≡ true) rows
ends low high [] all = (tt, tt)
ends low high (x ∷ xs) all =
    let both = and_parts (is_from low x.key) (is_under high x.key) all.0 in
    let more = ends low high xs all.1 in
    ((both.0, more.0), (both.1, more.1))

from_lower : (low : Option (List ℕ)) (key : List ℕ) (rows : List Row) → IsLow low key → AllFrom (Some key) rows → AllFrom low rows
from_lower low key [] is all = tt
from_lower low key (x ∷ xs) is all = (from_cut low key x.key is all.0, from_lower low key xs is all.1)

rise_from : (s : Columns) (low : Option (List ℕ)) (cuts : List (List ℕ)) (knowns : List Known) (parts : List (List Row)) → CutsRise low cuts → ArePartsOf s low cuts knowns parts → AreRowsOf s (rows_of parts) × (keys_rise (rows_of parts) ≡ true) × AllFrom low (rows_of parts)
rise_from s low [] knowns [] rise are = absurd are
rise_from s low [] knowns (rows ∷ []) rise are =
    let same : rows ++ [] ≡ rows = append-nil rows in
    (subst (AreRowsOf s) (sym same) are.form, ap keys_rise same ∙ are.rise, subst (AllFrom low) (sym same) (ends low None rows are.within).0)
rise_from s low [] knowns (rows ∷ next ∷ more) rise are = absurd are
rise_from s low (key ∷ keys) knowns [] rise are = absurd are
rise_from s low (key ∷ keys) knowns (rows ∷ more) rise are =
    let rest = rise_from s (Some key) keys knowns more rise.1 are.1 in
    let own = ends low (Some key) rows are.0.within in (
      all_both (IsRowOf s) rows (rows_of more) are.0.form rest.0,
      join_rise key rows (rows_of more) are.0.rise rest.1 own.1 rest.2,
      all_both (λ (row : Row). is_from low row.key ≡ true) rows (rows_of more) own.0 (from_lower low key (rows_of more) rise.0 rest.2),
    )

pub parts_rise : (s : Columns) (cuts : List (List ℕ)) (knowns : List Known) (parts : List (List Row)) → CutsRise None cuts → ArePartsOf s None cuts knowns parts → AreRowsOf s (rows_of parts) × (keys_rise (rows_of parts) ≡ true)
parts_rise s cuts knowns parts rise are = let all = rise_from s None cuts knowns parts rise are in (all.0, all.1)

are_cuts : (s : Columns) (low : Option (List ℕ)) (cuts : List (List ℕ)) (knowns : List Known) (parts contents : List (List Row)) → ArePartsOf s low cuts knowns parts → AreTold knowns contents → parts ≡ cuts_from low cuts (folded (aggs_of s) (lifted_parts knowns contents))
are_cuts s low [] knowns [] contents are told = absurd are
are_cuts s low [] knowns (rows ∷ []) contents are told = ap (λ a. a ∷ []) (are.told contents told)
are_cuts s low [] knowns (rows ∷ next ∷ more) contents are told = absurd are
are_cuts s low (key ∷ keys) knowns [] contents are told = absurd are
are_cuts s low (key ∷ keys) knowns (rows ∷ more) contents are told = λ i. are.0.told contents told i ∷ are_cuts s (Some key) keys knowns more contents are.1 told i

pub parts_fold : (s : Columns) (cuts : List (List ℕ)) (knowns : List Known) (parts contents : List (List Row)) → CutsRise None cuts → ArePartsOf s None cuts knowns parts → AreTold knowns contents → rows_of parts ≡ folded (aggs_of s) (lifted_parts knowns contents)
parts_fold s cuts knowns parts contents rise are told =
    let whole : List Row = folded (aggs_of s) (lifted_parts knowns contents) in
    ap rows_of (are_cuts s None cuts knowns parts contents are told) ∙ cuts_whole None cuts whole rise (folded_rise (aggs_of s) (lifted_parts knowns contents)) ∙ cut_none whole
