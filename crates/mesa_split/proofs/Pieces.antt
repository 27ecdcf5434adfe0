-- Pieces that stand one after the other.
use Rattle.std.proofs.Common.{◌≡◌, ◌⊎◌, inl, inr, ℕ, zero, suc, ◌+◌, ◌<◌, ◌≤◌, List, [], ◌∷◌, ◌++◌, length, take, drop, refl, sym, ap, subst, ◌∙◌, arith, append_assoc, true}
use Rattle.std.proofs.lemmas.List.{append-nil, take-append-drop}
use Rattle.std.specs.Prelude.{Option, None, Some, slice_get, IsTrue}
use Rattle.std.specs.List.{AllByRecursion}
use Rattle.std.specs.Ordering.{is_le, is_lt}
use Rattle.std.specs.declared.cmp.Ordering.TheVariants.{Less}
use Rattle.mesa_key.specs.Order.{byte_cmp}
use Rattle.mesa_compact.specs.mesa_columns.declared.rows.Row.{Row}
use Rattle.mesa_compact.specs.mesa_columns.Columns.{Columns, aggs_of}
use Rattle.mesa_open_files.specs.mesa_fold.Folded.{folded, rows_of}
use Rattle.mesa_compact.specs.mesa_columns.Rows.{AreRowsOf, IsRowOf, keys_rise}
use Rattle.mesa_merge.proofs.mesa_fold.RisingRows.{folded_rise}
use Rattle.mesa_answer.specs.Answering.{KeepsSums}
use Rattle.mesa_merge.specs.Inputs.{AreTold, Known, lifted_parts}
use Rattle.mesa_compact.specs.mesa_scan.Cut.{CutsRise, cut, cuts_from, is_from, is_under, lies_in}
use Rattle.mesa_merge.proofs.mesa_scan.Cutting.{below_at, cut_none, cuts_whole, is_less}
use Rattle.mesa_merge.proofs.mesa_scan.Cuts.{all_both}
use Rattle.mesa_delta.specs.declared.input.Input.{Input}
use Rattle.mesa_merge.specs.Inputs.{knowns_of}
use Rattle.mesa_split.specs.Lending.{AllTell, HavePieces, answers_of}
use Rattle.mesa_split.specs.Parts.{AreFirst, IsPartOf, IsPieceOf, gained, joined, low_at}
use Rattle.mesa_split.specs.Split.{IsGained}
use Rattle.mesa_split.specs.declared.parts.Part.{Part}
use Rattle.mesa_split.proofs.Joined.{ends, join_rise}
use Rattle.mesa_split.proofs.Verdicts.{all_of, piece_told}
use Rattle.mesa_split.proofs.Written.{sums_front}

-- ---- cuts by their places

reach : (n m : ℕ) → (n ≤ m) ⊎ (m < n)
reach zero m = inl (omega arith)
reach (suc n) zero = inr (omega arith)
reach (suc n) (suc m) = elim (reach n m) [ inl le ↦ inl (omega (arith, le)) | inr lt ↦ inr (omega (arith, lt)) ]

low_next : (k : List ℕ) (ks : List (List ℕ)) (i : ℕ) → low_at (Some k) ks i ≡ slice_get (k ∷ ks) i
low_next k ks zero = refl
low_next k ks (suc i) = refl

none_behind : (cuts : List (List ℕ)) (i : ℕ) → length cuts ≤ i → slice_get cuts i ≡ None
none_behind [] i le = refl
none_behind (k ∷ ks) zero le = absurd (omega (arith, le))
none_behind (k ∷ ks) (suc i) le = none_behind ks i (omega (arith, le))

some_there : (cuts : List (List ℕ)) (i : ℕ) → i < length cuts → (key : List ℕ) × (slice_get cuts i ≡ Some key)
some_there [] i lt = absurd (omega (arith, lt))
some_there (k ∷ ks) zero lt = (k, refl)
some_there (k ∷ ks) (suc i) lt = some_there ks i (omega (arith, lt))

-- a cut lies below the next one
rise_there : (low : Option (List ℕ)) (cuts : List (List ℕ)) (i : ℕ) (key next : List ℕ) → CutsRise low cuts → slice_get cuts i ≡ Some key → slice_get cuts (suc i) ≡ Some next → byte_cmp key next ≡ Less
rise_there low [] i key next rise at then = absurd cc
rise_there low (k ∷ []) zero key next rise at then = absurd cc
rise_there low (k ∷ []) (suc i) key next rise at then = absurd cc
rise_there low (k ∷ l ∷ ks) zero key next rise at then =
    let first : k ≡ key = cc in
    let second : l ≡ next = cc in
    subst (λ x. byte_cmp x next ≡ Less) first (subst (λ x. byte_cmp k x ≡ Less) second rise.1.0)
rise_there low (k ∷ l ∷ ks) (suc i) key next rise at then = rise_there (Some k) (l ∷ ks) i key next rise.1 at then

cuts_count : (low : Option (List ℕ)) (cuts : List (List ℕ)) (rows : List Row) → length (cuts_from low cuts rows) ≡ suc (length cuts)
cuts_count low [] rows = refl
cuts_count low (k ∷ ks) rows = ap suc (cuts_count (Some k) ks rows)

-- the first parts and one more
cut_there : (low : Option (List ℕ)) (cuts : List (List ℕ)) (rows : List Row) (at : ℕ) → at ≤ length cuts → take (suc at) (cuts_from low cuts rows) ≡ take at (cuts_from low cuts rows) ++ cut (low_at low cuts at) (slice_get cuts at) rows ∷ []
cut_there low [] rows zero le = refl
cut_there low [] rows (suc at) le = absurd (omega (arith, le))
cut_there low (k ∷ ks) rows zero le = refl
cut_there low (k ∷ ks) rows (suc at) le =
    ap (λ ps. cut low (Some k) rows ∷ ps) (cut_there (Some k) ks rows at (omega (arith, le)) ∙ ap (λ l. take at (cuts_from (Some k) ks rows) ++ cut l (slice_get ks at) rows ∷ []) (low_next k ks at))

rows_append : (xs ys : List (List Row)) → rows_of (xs ++ ys) ≡ rows_of xs ++ rows_of ys
rows_append [] ys = refl
rows_append (x ∷ xs) ys = ap (λ rows. x ++ rows) (rows_append xs ys) ∙ sym (append_assoc x (rows_of xs) (rows_of ys))

-- ---- one piece more

pub first_none : (s : Columns) (cuts : List (List ℕ)) (knowns : List Known) → AreFirst s cuts 0 knowns []
first_none s cuts knowns = record { form = tt; rise = refl; under = tt; none = λ _. refl; told = λ contents told. refl }

abbrev Under : Option (List ℕ) → List Row → Type 0
Under high rows = AllByRecursion (λ (row : Row). IsTrue (is_under high row.key)) rows

under_all : (rows : List Row) → Under None rows
under_all [] = tt
under_all (x ∷ xs) = (refl, under_all xs)

within_all : (rows : List Row) → AllByRecursion (λ (row : Row). IsTrue (lies_in None None row.key)) rows
within_all [] = tt
within_all (x ∷ xs) = (refl, within_all xs)

-- what lies below a key lies below a greater one
under_next : (key next : List ℕ) (rows : List Row) → byte_cmp key next ≡ Less → Under (Some key) rows → Under (Some next) rows
under_next key next [] less all = tt
under_next key next (x ∷ xs) less all = (ap is_lt (below_at x.key key next (is_less x.key key all.0) (ap is_le less)), under_next key next xs less all.1)

under_more : (cuts : List (List ℕ)) (i : ℕ) (key : List ℕ) (rows : List Row) (high : Option (List ℕ)) → CutsRise None cuts → slice_get cuts i ≡ Some key → slice_get cuts (suc i) ≡ high → Under (Some key) rows → Under high rows
under_more cuts i key rows None rise at then all = under_all rows
under_more cuts i key rows (Some next) rise at then all = under_next key next rows (rise_there None cuts i key next rise at then) all

-- the told rows of the first pieces and of one more
told_more : (s : Columns) (cuts : List (List ℕ)) (at : ℕ) (knowns : List Known) (rows more : List Row) → at ≤ length cuts → AreFirst s cuts at knowns rows → IsPartOf s (low_at None cuts at) (slice_get cuts at) knowns more
    → (contents : List (List Row)) → AreTold knowns contents → rows ++ more ≡ rows_of (take (suc at) (cuts_from None cuts (folded (aggs_of s) (lifted_parts knowns contents))))
told_more s cuts at knowns rows more le first piece contents told =
    let whole : List Row = folded (aggs_of s) (lifted_parts knowns contents) in
    let part : List Row = cut (low_at None cuts at) (slice_get cuts at) whole in
    let before : List (List Row) = take at (cuts_from None cuts whole) in
    (λ i. first.told contents told i ++ piece.told contents told i)
    ∙ ap (λ r. rows_of before ++ r) (sym (append-nil part))
    ∙ sym (rows_append before (part ∷ []))
    ∙ ap rows_of (sym (cut_there None cuts whole at le))

first_there : (s : Columns) (cuts : List (List ℕ)) (at : ℕ) (knowns : List Known) (rows more : List Row) → CutsRise None cuts → at ≤ length cuts → AreFirst s cuts at knowns rows → IsPartOf s (low_at None cuts at) (slice_get cuts at) knowns more → AreFirst s cuts (suc at) knowns (rows ++ more)
first_there s cuts zero knowns rows more rise le first piece =
    let none : rows ≡ [] = first.none refl in
    let same : more ≡ rows ++ more = ap (λ rs. rs ++ more) (sym none) in
    record {
      form = subst (AreRowsOf s) same piece.form;
      rise = ap keys_rise (sym same) ∙ piece.rise;
      under = subst (Under (slice_get cuts 0)) same (ends None (slice_get cuts 0) more piece.within).1;
      none = λ no. absurd (omega (arith, no));
      told = told_more s cuts 0 knowns rows more le first piece;
    }
first_there s cuts (suc i) knowns rows more rise le first piece =
    let high : Option (List ℕ) = slice_get cuts (suc i) in
    let here = some_there cuts i (omega (arith, le)) in
    let key : List ℕ = here.0 in
    let at : slice_get cuts i ≡ Some key = here.1 in
    let under : Under (Some key) rows = subst (λ o. Under o rows) at first.under in
    let both = ends (slice_get cuts i) high more piece.within in
    let from = subst (λ o. AllByRecursion (λ (row : Row). is_from o row.key ≡ true) more) at both.0 in
    record {
      form = all_both (IsRowOf s) rows more first.form piece.form;
      rise = join_rise key rows more first.rise piece.rise under from;
      under = all_both (λ (row : Row). IsTrue (is_under high row.key)) rows more (under_more cuts i key rows high rise at refl under) both.1;
      none = λ no. absurd (omega (arith, no));
      told = told_more s cuts (suc i) knowns rows more le first piece;
    }

-- behind the last piece there is none
first_behind : (s : Columns) (cuts : List (List ℕ)) (at : ℕ) (knowns : List Known) (rows : List Row) → length cuts < at → AreFirst s cuts at knowns rows → AreFirst s cuts (suc at) knowns rows
first_behind s cuts at knowns rows lt first = record {
  form = first.form;
  rise = first.rise;
  under = subst (λ o. Under o rows) (sym (none_behind cuts at (omega (arith, lt)))) (under_all rows);
  none = λ no. absurd (omega (arith, no));
  told = λ contents told.
      let all : List (List Row) = cuts_from None cuts (folded (aggs_of s) (lifted_parts knowns contents)) in
      let long : length all ≡ suc (length cuts) = cuts_count None cuts (folded (aggs_of s) (lifted_parts knowns contents)) in
      first.told contents told ∙ ap rows_of (all_of all at (omega (arith, lt, long)) ∙ sym (all_of all (suc at) (omega (arith, lt, long))));
}

pub first_more : (s : Columns) (cuts : List (List ℕ)) (at : ℕ) (knowns : List Known) (rows more : List Row) → CutsRise None cuts → AreFirst s cuts at knowns rows → IsPieceOf s cuts at knowns more → AreFirst s cuts (suc at) knowns (rows ++ more)
first_more s cuts at knowns rows more rise first piece = elim (reach at (length cuts)) [
  | inl le ↦ first_there s cuts at knowns rows more rise le first (piece.0 le)
  | inr lt ↦ (
      let same : rows ≡ rows ++ more = sym (append-nil rows) ∙ ap (λ ms. rows ++ ms) (sym (piece.1 lt)) in
      subst (AreFirst s cuts (suc at) knowns) same (first_behind s cuts at knowns rows lt first)
      )
]

-- ---- all of them

whole_cuts : (s : Columns) (cuts : List (List ℕ)) (knowns : List Known) (contents : List (List Row)) → CutsRise None cuts → rows_of (cuts_from None cuts (folded (aggs_of s) (lifted_parts knowns contents))) ≡ cut None None (folded (aggs_of s) (lifted_parts knowns contents))
whole_cuts s cuts knowns contents rise = cuts_whole None cuts (folded (aggs_of s) (lifted_parts knowns contents)) rise (folded_rise (aggs_of s) (lifted_parts knowns contents))

-- all pieces are the whole
pub first_all : (s : Columns) (cuts : List (List ℕ)) (at : ℕ) (knowns : List Known) (rows : List Row) → CutsRise None cuts → length cuts < at → AreFirst s cuts at knowns rows → IsPartOf s None None knowns rows
first_all s cuts at knowns rows rise lt first = record {
  form = first.form;
  rise = first.rise;
  within = within_all rows;
  told = λ contents told.
      let whole : List Row = folded (aggs_of s) (lifted_parts knowns contents) in
      let all : List (List Row) = cuts_from None cuts whole in
      first.told contents told ∙ ap rows_of (all_of all at (omega (arith, lt, cuts_count None cuts whole))) ∙ whole_cuts s cuts knowns contents rise;
}

-- and the first ones begin it
pub first_begin : (s : Columns) (cuts : List (List ℕ)) (at : ℕ) (knowns : List Known) (rows : List Row) → CutsRise None cuts → AreFirst s cuts at knowns rows → (contents : List (List Row)) → AreTold knowns contents → (rest : List Row) × (folded (aggs_of s) (lifted_parts knowns contents) ≡ rows ++ rest)
first_begin s cuts at knowns rows rise first contents told =
    let whole : List Row = folded (aggs_of s) (lifted_parts knowns contents) in
    let all : List (List Row) = cuts_from None cuts whole in (
      rows_of (drop at all),
      sym (cut_none whole) ∙ sym (whole_cuts s cuts knowns contents rise) ∙ ap rows_of (sym (take-append-drop at all)) ∙ rows_append (take at all) (drop at all) ∙ ap (λ rs. rs ++ rows_of (drop at all)) (sym (first.told contents told)),
    )

pub first_keep : (s : Columns) (cuts : List (List ℕ)) (at : ℕ) (knowns : List Known) (rows : List Row) → CutsRise None cuts → AreFirst s cuts at knowns rows → (contents : List (List Row)) → AreTold knowns contents → KeepsSums s (folded (aggs_of s) (lifted_parts knowns contents)) → KeepsSums s rows
first_keep s cuts at knowns rows rise first contents told keeps = let more = first_begin s cuts at knowns rows rise first contents told in sums_front s rows more.0 (subst (KeepsSums s) more.1 keeps)

-- ---- by several parts

-- the rows of the pieces that parts have merged
pub first_pieces : {R : Type 0} (bytes : R → Option (List ℕ)) (faults size : R → ℕ) (s : Columns) (cuts : List (List ℕ)) (own : List (Input R)) (at : ℕ) (os ns : List (Part R)) (rows : List Row) → CutsRise None cuts → AllTell bytes own os → HavePieces bytes faults size s cuts at os ns → AllByRecursion IsGained (answers_of ns)
    → AreFirst s cuts at (knowns_of bytes own) rows → AreFirst s cuts (at + length ns) (knowns_of bytes own) (rows ++ joined (answers_of ns))
first_pieces bytes faults size s cuts own at [] [] rows rise tells h all first =
    let same : at ≡ at + 0 = omega arith in
    subst (λ n. AreFirst s cuts n (knowns_of bytes own) (rows ++ [])) same (subst (AreFirst s cuts at (knowns_of bytes own)) (sym (append-nil rows)) first)
first_pieces bytes faults size s cuts own at [] (n ∷ ns) rows rise tells h all first = absurd h
first_pieces bytes faults size s cuts own at (o ∷ os) [] rows rise tells h all first = absurd h
first_pieces bytes faults size s cuts own at (o ∷ os) (n ∷ ns) rows rise tells h all first =
    let more : List Row = gained n.rows in
    let piece = piece_told bytes s cuts at own o.inputs.items n.rows tells.0 h.0.rows all.0 in
    let step = first_more s cuts at (knowns_of bytes own) rows more rise first piece in
    let rest = first_pieces bytes faults size s cuts own (suc at) os ns (rows ++ more) rise tells.1 h.1 all.1 step in
    let same : suc at + length ns ≡ at + suc (length ns) = omega arith in
    subst (λ n. AreFirst s cuts n (knowns_of bytes own) (rows ++ (more ++ joined (answers_of ns)))) same
    (subst (AreFirst s cuts (suc at + length ns) (knowns_of bytes own)) (append_assoc rows more (joined (answers_of ns))) rest)
