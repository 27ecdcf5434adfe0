-- The contents after a batch, a merged range and an expiry.
use Rattle.std.proofs.Common.{◌≡◌, ◌⊎◌, ⊎_elim, inl, inr, ℕ, zero, suc, ◌+◌, ◌-◌, ◌<◌, ◌≤◌, List, [], ◌∷◌, ◌++◌, map, length, take, drop, Option, Some, None, true, false, refl, sym, ◌∙◌, ap, arith, append_assoc}
use Rattle.std.proofs.lemmas.List.{append-nil, map-append, take-append-le, take_all, length-append, map-id}
use Rattle.std.proofs.lemmas.List.FromFn.{map-range_with_len_more}
use Rattle.std.specs.List.{range_with_len}
use Rattle.mesa_delta_format.specs.mesa_value.declared.Agg.{Agg}
use Rattle.mesa_history_spec.specs.mesa_columns.declared.rows.Row.{Row}
use Rattle.mesa_history_spec.specs.mesa_columns.Columns.{aggs_of}
use Rattle.mesa_history_spec.specs.mesa_schema.Changes.{Lineage, columns_of, epoch_of, lifted}
use Rattle.mesa_history_spec.specs.mesa_fold.Folded.{folded}
use Rattle.mesa_history_spec.proofs.mesa_fold.Refolds.{refolded}
use Rattle.mesa_history_spec.proofs.mesa_columns.Lists.{map_is}
use Rattle.mesa_history_spec.proofs.mesa_schema.PresentRows.{lifted_now}
use Rattle.mesa_history_spec.specs.mesa_model.Load.{newest_content}
use Rattle.mesa_record.specs.declared.record.Part.{Part}
use Rattle.mesa_store_spec.specs.Catalog.{Delta, Ending, TableMeta, start_in, end_in, meta_loaded, meta_swapped, empty_delta, part_delta}
use Rattle.mesa_store_spec.specs.Fitting.{base_deltas}
use Rattle.mesa_history_spec.specs.mesa_span.Ranges.{start_of}
use Rattle.std.specs.Prelude.{option_map}
use Rattle.mesa_store_spec.specs.Contents.{Rows, present, deltas_to, content}
use Rattle.mesa_store_spec.specs.Shape.{IsShaped}
use Rattle.mesa_store_spec.specs.Brought.{BringsIfAny, Replaces, loaded_delta}

-- ---- a merged range

-- what is folded may be folded first at its front
pub front_folded : (aggs : List Agg) (new : List Row) (olds rest : List (List Row)) → new ≡ folded aggs olds → folded aggs (new ∷ rest) ≡ folded aggs (olds ++ rest)
front_folded aggs new olds rest is = ap (λ x. folded aggs (x ∷ rest)) is ∙ refolded aggs [] olds rest

pub drop_take : {A : Type 0} (n m : ℕ) (xs : List A) → n ≤ m → take n xs ++ take (m - n) (drop n xs) ≡ take m xs
drop_take zero m xs le = let e : m - 0 ≡ m = omega arith in ap (λ k. take k xs) e
drop_take (suc n) zero xs le = absurd (omega (arith, le))
drop_take (suc n) (suc m) [] le = take_all (suc m - suc n) [] (omega arith)
drop_take (suc n) (suc m) (x ∷ xs) le =
    let e : suc m - suc n ≡ m - n = omega arith in
    ap (λ k. x ∷ (take n xs ++ take k (drop n xs))) e ∙ ap (λ l. x ∷ l) (drop_take n m xs (omega (arith, le)))

-- a new base in the place of the old one and the singletons to its end: contents from there on stay
pub content_based : (rows : Rows) (t : TableMeta) (to : ℕ) (d : Delta) (version : ℕ) → start_in t ≤ to → to ≤ version
    → Replaces rows t.lineage d (deltas_to t to) → content rows (meta_swapped t true to d) version ≡ content rows t version
content_based rows t to d version behind within replaces =
    let aggs = aggs_of (columns_of t.lineage) in
    let n = to + 1 - start_in t in
    let m = version + 1 - start_in t in
    let rest = take (version + 1 - (to + 1)) (drop n t.singles) in
    let split : take n t.singles ++ rest ≡ take m t.singles =
    ap (λ k. take n t.singles ++ take k (drop n t.singles)) (omega (arith, behind, within)) ∙ drop_take n m t.singles (omega (arith, within)) in
    let parts : map (present rows t.lineage) (deltas_to t to) ++ map (present rows t.lineage) rest ≡ map (present rows t.lineage) (deltas_to t version) =
    sym (map-append (present rows t.lineage) (deltas_to t to) rest)
    ∙ ap (map (present rows t.lineage)) (append_assoc (base_deltas t.base) (take n t.singles) rest ∙ ap (λ l. base_deltas t.base ++ l) split) in
    front_folded aggs (present rows t.lineage d) (map (present rows t.lineage) (deltas_to t to)) (map (present rows t.lineage) rest) replaces ∙ ap (folded aggs) parts

-- a cumulative more changes no content
pub content_covered : (rows : Rows) (t : TableMeta) (to : ℕ) (d : Delta) (version : ℕ) → content rows (meta_swapped t false to d) version ≡ content rows t version
content_covered rows t to d version = refl

-- ---- a batch

pub present_now : (l : Lineage) (rows : List Row) → map (lifted l (epoch_of l) (epoch_of l)) rows ≡ rows
present_now l rows = map_is (lifted l (epoch_of l) (epoch_of l)) (λ row. row) rows (lifted_now l) ∙ map-id rows

module _ (rows : Rows) (t : TableMeta) where
  abbrev aggs : List Agg
  aggs = aggs_of (columns_of t.lineage)

  abbrev pub at_present : Delta → List Row
  at_present d = present rows t.lineage d

  -- the rows of a part's file are of the present epoch
  pub part_rows : (p : Part) → p.epoch ≡ epoch_of t.lineage → at_present (part_delta p) ≡ rows p.files.file.id
  part_rows p epoch = ap (λ e. map (lifted t.lineage e (epoch_of t.lineage)) (rows p.files.file.id)) epoch ∙ present_now t.lineage (rows p.files.file.id)

  -- the new delta's rows are the load's, by their keys
  pub new_rows : (p : Option Part) (load : List Row) → BringsIfAny rows t p load → at_present (loaded_delta p) ≡ folded aggs (load ∷ [])
  new_rows None load is = ap (λ xs. folded aggs (xs ∷ [])) (sym is)
  new_rows (Some p) load is = part_rows p is.epoch ∙ is.by_key

  -- contents of earlier versions stay
  content_early : (p : Option Part) (version : ℕ) → version + 1 - start_in t ≤ length t.singles → content rows (meta_loaded t p) version ≡ content rows t version
  content_early None version le = ap (λ ds. folded aggs (map at_present (base_deltas t.base ++ ds))) (take-append-le (version + 1 - start_in t) t.singles (loaded_delta None ∷ []) le)
  content_early (Some p) version le = ap (λ ds. folded aggs (map at_present (base_deltas t.base ++ ds))) (take-append-le (version + 1 - start_in t) t.singles (loaded_delta (Some p) ∷ []) le)

  -- the content of the new version
  abbrev pub all_parts : List (List Row)
  all_parts = map at_present (base_deltas t.base ++ t.singles)

  -- what is read for it
  parts_new : (d : Delta) (version : ℕ) → start_in t + length t.singles ≡ version → map at_present (base_deltas t.base ++ take (version + 1 - start_in t) (t.singles ++ d ∷ [])) ≡ all_parts ++ at_present d ∷ []
  parts_new d version at =
      let whole : take (version + 1 - start_in t) (t.singles ++ d ∷ []) ≡ t.singles ++ d ∷ [] = take_all (version + 1 - start_in t) (t.singles ++ d ∷ []) (omega (arith, at, length-append t.singles (d ∷ []))) in
      ap (λ ds. map at_present (base_deltas t.base ++ ds)) whole
      ∙ ap (map at_present) (sym (append_assoc (base_deltas t.base) t.singles (d ∷ [])))
      ∙ map-append at_present (base_deltas t.base ++ t.singles) (d ∷ [])

  -- rows by their keys fold to what the rows fold to
  by_key : (load : List Row) → folded aggs (all_parts ++ folded aggs (load ∷ []) ∷ []) ≡ folded aggs (all_parts ++ load ∷ [])
  by_key load = refolded aggs all_parts (load ∷ []) [] ∙ ap (folded aggs) (append-nil (all_parts ++ load ∷ []))

  content_new : (p : Option Part) (load : List Row) (version : ℕ) → start_in t + length t.singles ≡ version → BringsIfAny rows t p load → content rows (meta_loaded t p) version ≡ folded aggs (all_parts ++ load ∷ [])
  content_new None load version at is = ap (folded aggs) (parts_new empty_delta version at ∙ ap (λ b. all_parts ++ b ∷ []) (new_rows None load is)) ∙ by_key load
  content_new (Some p) load version at is = ap (folded aggs) (parts_new (part_delta p) version at ∙ ap (λ b. all_parts ++ b ∷ []) (new_rows (Some p) load is)) ∙ by_key load

  -- and the fold of the newest content and the batch
  newest_then : (contents : List (List Row)) (batch : List Row) → newest_content contents ≡ folded aggs all_parts → folded aggs (newest_content contents ∷ batch ∷ []) ≡ folded aggs (all_parts ++ batch ∷ [])
  newest_then contents batch is = front_folded aggs (newest_content contents) all_parts (batch ∷ []) is

  module _ (floor next : ℕ) (shaped : IsShaped floor next t) where
    -- the contents of the versions before stay
    earlier : (p : Option Part) (from n : ℕ) → from + n ≤ next → map (content rows (meta_loaded t p)) (range_with_len from n) ≡ map (content rows t) (range_with_len from n)
    earlier p from zero le = refl
    earlier p from (suc n) le = λ i. content_early p from (omega (arith, shaped.singles, le)) i ∷ earlier p (from + 1) n (omega (arith, le)) i

    -- the newest of them, where there is a version
    newest_is : (n : ℕ) → t.oldest + n ≡ next → 0 < n → newest_content (map (content rows t) (range_with_len t.oldest n)) ≡ content rows t (next - 1)
    newest_is n at some = by t.oldest n at some
      where
        by : (from n : ℕ) → from + n ≡ next → 0 < n → newest_content (map (content rows t) (range_with_len from n)) ≡ content rows t (next - 1)
        by from zero at some = absurd (omega (arith, some))
        by from (suc zero) at some = ap (content rows t) (omega (arith, at))
        by from (suc (suc n)) at some = by (from + 1) (suc n) (omega (arith, at)) (omega arith)

    -- the fold of the newest content and the batch is that of all parts and the batch
    newest_folded : (n : ℕ) (batch : List Row) → t.oldest + n ≡ next → ((0 < n) ⊎ (next ≡ 0))
        → folded aggs (newest_content (map (content rows t) (range_with_len t.oldest n)) ∷ batch ∷ []) ≡ folded aggs (all_parts ++ batch ∷ [])
    newest_folded n batch at (inl some) =
        let last : content rows t (next - 1) ≡ folded aggs all_parts =
        ap (λ ds. folded aggs (map at_present (base_deltas t.base ++ ds))) (take_all (next - 1 + 1 - start_in t) t.singles (omega (arith, shaped.singles, at, some))) in
        newest_then (map (content rows t) (range_with_len t.oldest n)) batch (newest_is n at some ∙ last)
    newest_folded n batch at (inr none) = no_versions n t.base t.singles (omega (arith, at, none)) refl refl
      where
        no_versions : (n : ℕ) (base : Option Ending) (singles : List Delta) → n ≡ 0 → t.base ≡ base → t.singles ≡ singles
            → folded aggs (newest_content (map (content rows t) (range_with_len t.oldest n)) ∷ batch ∷ []) ≡ folded aggs (all_parts ++ batch ∷ [])
        no_versions (suc n) base singles e b s = absurd (omega (arith, e))
        no_versions zero (Some end) singles e b s =
            let start : start_in t ≡ end.to + 1 = ap (λ o. start_of (record { base_to = option_map end_in o; cumulatives = map end_in t.cumulatives })) b in
            absurd (omega (arith, shaped.singles, none, start))
        no_versions zero None (d ∷ ds) e b s = absurd (let l : length t.singles ≡ length (d ∷ ds) = ap length s in omega (arith, shaped.singles, none, l))
        no_versions zero None [] e b s = ap (λ ds. folded aggs (map at_present ds ++ batch ∷ [])) (sym (λ i. base_deltas (b i) ++ s i))

    -- a table with a version more stands for the loaded one
    pub contents_loaded : (p : Option Part) (batch : List Row) → BringsIfAny rows t p batch
        → map (content rows (meta_loaded t p)) (range_with_len t.oldest (next + 1 - t.oldest))
        ≡ map (content rows t) (range_with_len t.oldest (next - t.oldest)) ++ folded aggs (newest_content (map (content rows t) (range_with_len t.oldest (next - t.oldest))) ∷ batch ∷ []) ∷ []
    contents_loaded p batch is =
        let there = shaped.oldest in
        let n = next - t.oldest in
        let at : t.oldest + n ≡ next = ⊎_elim (λ lt. (let lt : t.oldest < next = lt in let e : t.oldest + (next - t.oldest) ≡ next = omega (arith, lt) in e)) (λ both. (let z : t.oldest ≡ 0 = both.0 in let e : t.oldest + (next - t.oldest) ≡ next = omega (arith, z) in e)) there in
        let more : next + 1 - t.oldest ≡ n + 1 = omega (arith, at) in
        let new = content_new p batch next shaped.singles is in
        let some : (0 < n) ⊎ (next ≡ 0) = ⊎_elim (λ lt. inl (let lt : t.oldest < next = lt in let e : 0 < next - t.oldest = omega (arith, lt) in e)) (λ both. inr both.1) there in
        ap (λ k. map (content rows (meta_loaded t p)) (range_with_len t.oldest k)) more
        ∙ map-range_with_len_more (content rows (meta_loaded t p)) t.oldest n next at
        ∙ (λ i. earlier p t.oldest n (omega (arith, at)) i ++ (new ∙ sym (newest_folded n batch at some)) i ∷ [])
