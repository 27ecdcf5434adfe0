-- All rows of inputs, as a file.
use Rattle.std.proofs.Common.{◌≡◌, ℕ, ◌<◌, List, [], ◌∷◌, ◌++◌, refl, sym, ◌∙◌, ap, subst, length, get_or, arith, length-append}
use Rattle.std.proofs.lemmas.List.{length-map}
use Rattle.std.specs.Prelude.{Option, None, map, Result, Ok, Err, IfErr, IfOk}
use Rattle.std.specs.FinMap.Entries.{by_order}
use Rattle.std.specs.declared.cmp.Ordering.{Ordering}
use Rattle.std.specs.declared.cmp.Ordering.TheVariants.{Less, Equal, Greater}
use Rattle.mesa_view.specs.mesa_key.Order.{byte_cmp}
use Rattle.mesa_open_files.specs.mesa_value.declared.Agg.{Agg}
use Rattle.mesa_open_files.specs.mesa_columns.declared.rows.Row.{Row}
use Rattle.mesa_open_files.specs.mesa_columns.Columns.{Columns, aggs_of}
use Rattle.mesa_open_files.specs.mesa_fold.Folded.{folded, folded_at, keys_of, rows_of, with_key}
use Rattle.mesa_delta.specs.declared.input.Input.{Input}
use Rattle.mesa_merge.specs.Inputs.{AreAll, Known, known_of, knowns_of, lifted_in}
use Rattle.mesa_merge.specs.Inputs.{lifted_parts as known_parts}
use Rattle.mesa_merge.proofs.Ending.{AreFronts, all_told, fronts_same}
use Rattle.mesa_batch.specs.Bound.{FoldsTotals}
use Rattle.mesa_answer.specs.Answering.{KeepsSums}
use Rattle.mesa_compact.specs.Bounded.{AreBounded}
use Rattle.mesa_compact.proofs.Following.{folded_bound}
use Rattle.mesa_open_files.specs.mesa_columns.Rows.{AreRowsOf}
use Rattle.mesa_open_files.specs.Inputs.{IsMergeOf, present_parts}
use Rattle.mesa_open_files.specs.Inputs.{AreTold as AreToldInputs}

-- ---- some rows

some_key : (k : List ℕ) (keys : List (List ℕ)) → 0 < length (with_key k keys)
some_key k [] = omega arith
some_key k (x ∷ xs) = elim (byte_cmp k x) as (λ (o : Ordering). 0 < length (by_order o (k ∷ x ∷ xs) (x ∷ xs) (x ∷ with_key k xs))) [
  | Less ↦ omega arith
  | Equal ↦ omega arith
  | Greater ↦ omega arith
]

pub some_folded : (aggs : List Agg) (rows : List Row) → 0 < length rows → 0 < length (map (folded_at aggs rows) (keys_of rows))
some_folded aggs [] some = absurd (omega (arith, some))
some_folded aggs (row ∷ rows) some = subst (λ n. 0 < n) (sym (length-map (keys_of (row ∷ rows)) (folded_at aggs (row ∷ rows)))) (some_key row.key (keys_of rows))

-- all rows of some inputs are some, and so is their fold
pub some_all : (aggs : List Agg) (ks : List Known) (gs : List (List Row)) → AreAll ks gs → 0 < length ks → 0 < length (folded aggs gs)
some_all aggs [] gs all some = absurd (omega (arith, some))
some_all aggs (k ∷ ks) [] all some = absurd all
some_all aggs (k ∷ ks) (g ∷ gs) all some =
    let one : length g ≡ length all.0.rows = ap length all.0.lifts ∙ length-map all.0.rows (lifted_in k) in
    some_folded aggs (g ++ rows_of gs) (omega (arith, one, all.0.whole.file.some, length-append g (rows_of gs)))

-- as many inputs are known as there are
pub known_count : {R : Type 0} (bytes : R → Option (List ℕ)) (is : List (Input R)) → length (knowns_of bytes is) ≡ length is
known_count bytes is = length-map is _

pub some_known : {R : Type 0} (bytes : R → Option (List ℕ)) (before now : List (Input R)) → knowns_of bytes now ≡ knowns_of bytes before → 0 < length before → 0 < length (knowns_of bytes now)
some_known bytes before now same some = subst (λ n. 0 < n) (sym (ap length same ∙ known_count bytes before)) some

-- ---- the merge of inputs

-- where inputs are told, what all have given is the rows of their files at present
told_parts : {R : Type 0} (bytes : R → Option (List ℕ)) (is : List (Input R)) (gs parts : List (List Row)) → AreAll (knowns_of bytes is) gs → AreToldInputs bytes is parts → gs ≡ present_parts is parts
told_parts bytes [] [] [] all told = refl
told_parts bytes [] [] (rows ∷ parts) all told = absurd told
told_parts bytes [] (g ∷ gs) parts all told = absurd all
told_parts bytes (i ∷ is) [] parts all told = absurd all
told_parts bytes (i ∷ is) (g ∷ gs) [] all told = absurd told
told_parts bytes (i ∷ is) (g ∷ gs) (rows ∷ parts) all told =
    let one : g ≡ map (lifted_in (known_of bytes i)) rows = all.0.lifts ∙ ap (map (lifted_in (known_of bytes i))) (all.0.same told.0.0 rows told.0.1 told.0.2) in
    λ k. one k ∷ told_parts bytes is gs parts all.1 told.1 k

-- what all inputs have given folds to their merge
pub merge_of : {R : Type 0} (bytes : R → Option (List ℕ)) (s : Columns) (is : List (Input R)) (gs : List (List Row)) → AreAll (knowns_of bytes is) gs → IsMergeOf bytes s is (folded (aggs_of s) gs)
merge_of bytes s is gs all = λ parts told. ap (folded (aggs_of s)) (told_parts bytes is gs parts all told)

-- ---- sums

-- all rows of inputs whose sums stay in their type fold to rows whose sums do
pub told_sums : FoldsTotals → (s : Columns) (ks : List Known) (gs : List (List Row)) → ((j : ℕ) → AreRowsOf s (get_or gs j [])) → AreAll ks gs → AreBounded s ks → KeepsSums s (folded (aggs_of s) gs)
told_sums law s ks gs formed all b = folded_bound law s None gs (known_parts ks b.contents) formed (subst (AreFronts None gs) (all_told ks gs b.contents all b.told) (fronts_same gs)) b.bound

-- ---- what a result has

pub if_ok_map : {T E : Type 0} (r : Result T E) (P Q : T → Type 0) → ((x : T) → P x → Q x) → IfOk r P → IfOk r Q
if_ok_map (Ok x) P Q f p = f x p
if_ok_map (Err e) P Q f p = tt

pub if_err_map : {T E : Type 0} (r : Result T E) (P Q : E → Type 0) → ((e : E) → P e → Q e) → IfErr r P → IfErr r Q
if_err_map (Ok x) P Q f p = tt
if_err_map (Err e) P Q f p = f e p

-- and from two things that it has
pub both_map : {T E : Type 0} (r : Result T E) (P Q S : T → Type 0) → ((x : T) → P x → Q x → S x) → IfOk r P → IfOk r Q → IfOk r S
both_map (Ok x) P Q S f p q = f x p q
both_map (Err e) P Q S f p q = tt
