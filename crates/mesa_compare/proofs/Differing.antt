-- Where streams that were the same so far differ.
use Rattle.std.proofs.Common.{◌≡◌, ℕ, List, [], ◌∷◌, ◌++◌, map, refl, sym, ◌∙◌, ap, subst, true, append_assoc}
use Rattle.std.proofs.lemmas.Bool.{and_from, and_parts}
use Rattle.std.specs.Ordering.{is_lt}
use Rattle.mesa_schema.specs.mesa_key.Order.{byte_cmp}
use Rattle.std.specs.Prelude.{Option, Some, None, IsTrue, option_to_list}
use Rattle.mesa_schema.specs.mesa_columns.declared.rows.Row.{Row}
use Rattle.mesa_schema.specs.mesa_columns.Rows.{keys_rise}
use Rattle.mesa_schema.specs.mesa_fold.Folded.{folded}
use Rattle.mesa_schema.specs.mesa_value.declared.Agg.{Agg}
use Rattle.mesa_examine.specs.mesa_delta.Reading.{IsIndexed, index_of}
use Rattle.mesa_examine.specs.mesa_delta.declared.input.Input.{Input}
use Rattle.mesa_examine.specs.mesa_scan.Cursors.{IsAllOf, IsSameInput, lift_by, reader_in}
use Rattle.mesa_merge.specs.Inputs.{AreAll, AreTold, Known, lifted_parts}
use Rattle.mesa_compare.specs.Difference.{first_difference, next_of}
use Rattle.mesa_compare.specs.Compared.{Shows}

-- a row that comes next, and those behind it; behind an end there is none
pub next_is : (row : Option Row) (more : List Row) → (row ≡ None → more ≡ []) → next_of (option_to_list row ++ more) ≡ row
next_is None more end = ap next_of (end refl)
next_is (Some r) more end = refl

pub differs : (front : List Row) (row beside : Option Row) (more others total whole : List Row) (key : List ℕ) → Shows key row beside
    → total ≡ (front ++ option_to_list row) ++ more → (row ≡ None → more ≡ []) → whole ≡ (front ++ option_to_list beside) ++ others → (beside ≡ None → others ≡ [])
    → IsTrue (keys_rise total) → IsTrue (keys_rise whole) → Some key ≡ first_difference total whole
differs front row beside more others total whole key shows is end was stop rises rise =
    let one : total ≡ front ++ (option_to_list row ++ more) = is ∙ append_assoc front (option_to_list row) more in
    let two : whole ≡ front ++ (option_to_list beside ++ others) = was ∙ append_assoc front (option_to_list beside) others in
    sym (shows front (option_to_list row ++ more) (option_to_list beside ++ others) (next_is row more end) (next_is beside others stop) (subst (λ l. IsTrue (keys_rise l)) one rises) (subst (λ l. IsTrue (keys_rise l)) two rise))
    ∙ (λ i. first_difference (sym one i) (sym two i))

-- the first of rising rows rise
pub front_rises : (xs ys : List Row) → keys_rise (xs ++ ys) ≡ true → keys_rise xs ≡ true
front_rises [] ys r = refl
front_rises (x ∷ []) ys r = refl
front_rises (x ∷ y ∷ xs) ys r =
    let parts = and_parts (is_lt (byte_cmp x.key y.key)) _ r in
    and_from (is_lt (byte_cmp x.key y.key)) (keys_rise (y ∷ xs)) parts.0 (front_rises (y ∷ xs) ys parts.1)

-- ---- what streams that are at their ends have given

-- rows are lifted as before
pub lifts_same : {R : Type 0} (bytes : R → Option (List ℕ)) (old new : Input R) (rows : List Row) → IsSameInput bytes old new → map (lift_by new) rows ≡ map (lift_by old) rows
lifts_same bytes old new rows same = λ k. map (lift_by (record new { evolving = same.evolving k; epoch = same.epoch k })) rows

-- all rows of an input whose file is told
pub whole_of : {R : Type 0} (bytes : R → Option (List ℕ)) (old new : Input R) (given all : List Row) (b : List ℕ) → IsSameInput bytes old new → IsAllOf bytes new given → bytes (reader_in old) ≡ Some b → IsIndexed (index_of old.reader) all b
    → map (lift_by old) all ≡ given
whole_of bytes old new given all b same is told indexed =
    let rows : is.rows ≡ all = is.told b all (same.told ∙ told) (subst (λ x. IsIndexed x all b) (sym same.index) indexed) in
    sym (is.lifts ∙ ap (map (lift_by new)) rows ∙ lifts_same bytes old new all same)

-- the fold of inputs whose files are told
pub fold_of : (aggs : List Agg) (old new : List Known) (after contents : List (List Row)) → ((knowns : List Known) (givens contents : List (List Row)) → AreAll knowns givens → AreTold knowns contents → givens ≡ lifted_parts knowns contents)
    → new ≡ old → AreAll new after → AreTold old contents → folded aggs (lifted_parts old contents) ≡ folded aggs after
fold_of aggs old new after contents law same all told = sym (ap (folded aggs) (law old after contents (subst (λ ks. AreAll ks after) same all) told))
