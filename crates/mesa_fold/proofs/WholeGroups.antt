-- Where every key column is among the group columns, each group is one key.
use Rattle.std.proofs.Common.{◌≡◌, ℕ, zero, suc, ◌<◌, List, [], ◌∷◌, map, length, get_or, true, false, refl, sym, ◌∙◌, ap, subst, arith, Some}
use Rattle.std.specs.Prelude.{ℤ, slice_get, ◌==◌, ◌||◌, nat_lt}
use Rattle.std.specs.List.{concat, cons_option, list_all, list_any}
use Rattle.std.proofs.lemmas.List.{append-nil, length-map}
use Rattle.std.proofs.lemmas.Bool.{and_parts, eqb-true, ltb-true}
use Rattle.std.proofs.lemmas.Option.{slice_get-get_or}
use Rattle.std.proofs.lemmas.Simd.{map-map}
use Rattle.std.specs.Ordering.{eq_by_cmp}
use Rattle.std.specs.FinMap.{slice_cmp-IsAntisymmetric, nat_cmp-IsAntisymmetric}
use Rattle.mesa_columns.specs.mesa_value.declared.Agg.{Agg}
use Rattle.mesa_columns.specs.mesa_key.declared.KeyType.{KeyType}
use Rattle.mesa_columns.specs.mesa_key.declared.KeyValue.{KeyValue}
use Rattle.mesa_columns.specs.mesa_key.declared.KeyValue.TheVariants as value
use Rattle.mesa_columns.specs.mesa_key.Order.{byte_cmp}
use Rattle.mesa_columns.specs.mesa_key.Spelling.{IsKey, columns_of, key_of, key_spelling, value_spelling}
use Rattle.mesa_columns.proofs.mesa_key.Keys.{spelled_once}
use Rattle.mesa_columns.specs.declared.columns.KeyColumn.{KeyColumn}
use Rattle.mesa_columns.specs.declared.rows.Row.{Row}
use Rattle.mesa_columns.specs.Columns.{Columns, aggs_of, chosen, kinds_of}
use Rattle.mesa_fold.specs.Folded.{folded, grouped, rows_of}
use Rattle.mesa_fold.specs.Laws.{AreAllKeys}
use Rattle.mesa_columns.specs.Rows.{AreRowsOf, IsRowOf}
use Rattle.mesa_fold.proofs.Folds.{is_equal, keys}
use Rattle.mesa_fold.proofs.Forms.{rows-full, rows_of-map}
use Rattle.mesa_fold.proofs.GroupedFolds.{chosen-combined}
use Rattle.mesa_fold.proofs.GroupKeys.{chosen_key, chosen_mapped, columns_spelled, concat_spelled}
use Rattle.mesa_fold.proofs.Keys.{has}
use Rattle.mesa_fold.proofs.KeysApart.{AreApart, rekeyed-apart}
use Rattle.mesa_fold.proofs.Lifts.{row_combined-length, with_values, with_values-folded}

-- ---- the key of a group key

-- the group key of a key
abbrev group_key : Columns → List ℕ → List ℕ → List ℕ
group_key s columns key = concat (chosen columns (columns_of (kinds_of s) key))

-- a group key spells the chosen columns of the key
group_key-spells : (s : Columns) (columns : List ℕ) (row : Row) → IsRowOf s row → group_key s columns row.key ≡ key_spelling (chosen columns (key_of (kinds_of s) row.key))
group_key-spells s columns row h =
    let key : List KeyValue = key_of (kinds_of s) row.key in
    ap (λ bytes. concat (chosen columns (columns_of (kinds_of s) bytes))) (sym h.spelled)
    ∙ ap (λ cs. concat (chosen columns cs)) (columns_spelled (kinds_of s) key h.key)
    ∙ ap concat (chosen_mapped value_spelling columns key)
    ∙ concat_spelled (chosen columns key)

module _ {X : Type 0} where
  heads : (x y : X) (xs ys : List X) → x ∷ xs ≡ y ∷ ys → x ≡ y
  heads x y xs ys e = cc

  tails : (x y : X) (xs ys : List X) → x ∷ xs ≡ y ∷ ys → xs ≡ ys
  tails x y xs ys e = cc

  -- what is chosen alike is alike at each place
  chosen_alike : (columns : List ℕ) (a b : List X) (d : X) → length a ≡ length b → list_all (λ place. nat_lt place (length a)) columns ≡ true → chosen columns a ≡ chosen columns b
      → (p : ℕ) → list_any (λ c. c == p) columns ≡ true → slice_get a p ≡ slice_get b p
  chosen_alike [] a b d same there e p h = cc
  chosen_alike (c ∷ columns) a b d same there e p h =
      let parts = and_parts (nat_lt c (length a)) (list_all (λ place. nat_lt place (length a)) columns) there in
      let l : c < length a = ltb-true c (length a) parts.0 in
      let x : slice_get a c ≡ Some (get_or a c d) = slice_get-get_or a c d l in
      let y : slice_get b c ≡ Some (get_or b c d) = slice_get-get_or b c d (omega (arith, same, l)) in
      let whole : get_or a c d ∷ chosen columns a ≡ get_or b c d ∷ chosen columns b = sym (ap (λ o. cons_option o (chosen columns a)) x) ∙ e ∙ ap (λ o. cons_option o (chosen columns b)) y in
      let here : slice_get a c ≡ slice_get b c = x ∙ ap Some (heads _ _ _ _ whole) ∙ sym y in
      elim (c == p) as (λ t. (c == p) ≡ t → (t || list_any (λ q. q == p) columns) ≡ true → slice_get a p ≡ slice_get b p) [
        | true ↦ λ t k. let is : c ≡ p = eqb-true c p t in subst (λ q. slice_get a q ≡ slice_get b q) is here
        | false ↦ λ t k. chosen_alike columns a b d same parts.1 (tails _ _ _ _ whole) p k
      ] refl h

  alike_everywhere : (a b : List X) → length a ≡ length b → ((p : ℕ) → p < length a → slice_get a p ≡ slice_get b p) → a ≡ b
  alike_everywhere [] [] same e = refl
  alike_everywhere [] (y ∷ b) same e = absurd (omega (arith, same))
  alike_everywhere (x ∷ a) [] same e = absurd (omega (arith, same))
  alike_everywhere (x ∷ a) (y ∷ b) same e =
      let first : Some x ≡ Some y = e zero (omega arith) in
      let rest : a ≡ b = alike_everywhere a b (omega (arith, same)) (λ p lt. e (suc p) (omega (arith, lt))) in
      let head : x ≡ y = cc in
      λ i. head i ∷ rest i

key_length : (kinds : List KeyType) (key : List KeyValue) → IsKey kinds key → length key ≡ length kinds
key_length [] [] h = refl
key_length [] (value ∷ key) h = absurd h
key_length (kind ∷ kinds) [] h = absurd h
key_length (kind ∷ kinds) (value ∷ key) h = ap suc (key_length kinds key h.1)

-- Two rows under one group key have one key.
pub one_key : (s : Columns) (columns : List ℕ) (a b : Row) → AreAllKeys s columns → IsRowOf s a → IsRowOf s b → group_key s columns a.key ≡ group_key s columns b.key → a.key ≡ b.key
one_key s columns a b all fa fb e =
    let kinds = kinds_of s in
    let ka : List KeyValue = key_of kinds a.key in
    let kb : List KeyValue = key_of kinds b.key in
    let spelled : key_spelling (chosen columns ka) ≡ key_spelling (chosen columns kb) = sym (group_key-spells s columns a fa) ∙ e ∙ group_key-spells s columns b fb in
    let alike : chosen columns ka ≡ chosen columns kb =
    (spelled_once (chosen columns kinds) (chosen columns ka) (chosen columns kb) [] [] (chosen_key columns kinds ka fa.key) (chosen_key columns kinds kb fb.key) (append-nil _ ∙ spelled ∙ sym (append-nil _))).0 in
    let la : length ka ≡ length s.keys = key_length kinds ka fa.key ∙ length-map s.keys (λ (c : KeyColumn). c.kind) in
    let lb : length kb ≡ length s.keys = key_length kinds kb fb.key ∙ length-map s.keys (λ (c : KeyColumn). c.kind) in
    let there : list_all (λ place. nat_lt place (length ka)) columns ≡ true = subst (λ n. list_all (λ place. nat_lt place n) columns ≡ true) (sym la) all.places in
    let same : ka ≡ kb = alike_everywhere ka kb (la ∙ sym lb) (λ p lt. chosen_alike columns ka kb (value.Text []) (la ∙ sym lb) there alike p (all.each p (omega (arith, la, lt)))) in
    sym fa.spelled ∙ ap key_spelling same ∙ fb.spelled

-- ---- folds under group keys

-- the row of a key
record Formed (s : Columns) (key : List ℕ) : Type 0 where
  row : Row
  form : IsRowOf s row
  same : row.key ≡ key

formed : (s : Columns) (key : List ℕ) (rows : List Row) → AreRowsOf s rows → has key (keys rows) ≡ true → Formed s key
formed s key [] all h = cc
formed s key (row ∷ rows) all h =
    elim (eq_by_cmp byte_cmp key row.key) as (λ b. eq_by_cmp byte_cmp key row.key ≡ b → (b || has key (keys rows)) ≡ true → Formed s key) [
      | true ↦ λ t f. record { row = row; form = all.0; same = sym (slice_cmp-IsAntisymmetric nat_cmp-IsAntisymmetric key row.key (is_equal _ t)) }
      | false ↦ λ t f. formed s key rows all.1 f
    ] refl h

-- no two keys come to one group key
whole_apart : (s : Columns) (columns : List ℕ) (rows : List Row) → AreAllKeys s columns → AreRowsOf s rows → AreApart (group_key s columns) rows
whole_apart s columns rows whole all = λ p q hp hq e.
    let a = formed s p rows all hp in
    let b = formed s q rows all hq in
    sym a.same ∙ one_key s columns a.row b.row whole a.form b.form (ap (group_key s columns) a.same ∙ e ∙ ap (group_key s columns) (sym b.same)) ∙ b.same

keys_picked : (f : List ℤ → List ℤ) (rows : List Row) → keys (map (with_values f) rows) ≡ keys rows
keys_picked f [] = refl
keys_picked f (row ∷ rows) = ap (λ ks. row.key ∷ ks) (keys_picked f rows)

groups_apart : (s : Columns) (columns values : List ℕ) (parts : List (List Row)) → AreRowsOf s (rows_of parts) → AreApart (group_key s columns) (rows_of parts)
    → grouped s columns values (folded (aggs_of s) parts) ≡ grouped s columns values (rows_of parts)
groups_apart s columns values parts all apart =
    let aggs : List Agg = aggs_of s in
    let fewer : List Agg = chosen values aggs in
    let to : List ℕ → List ℕ = group_key s columns in
    let pick : Row → Row = with_values (chosen values) in
    let under : Row → Row = λ (row : Row). record row { key = to row.key } in
    let picked : rows_of (map (map pick) parts) ≡ map pick (rows_of parts) = rows_of-map pick parts in
    let still : AreApart to (rows_of (map (map pick) parts)) = subst (AreApart to) (sym picked) (subst (λ ks. (p q : List ℕ) → has p ks ≡ true → has q ks ≡ true → to p ≡ to q → p ≡ q) (sym (keys_picked (chosen values) (rows_of parts))) apart) in
    ap (λ (rows : List Row). folded fewer (rows ∷ [])) (sym (map-map under pick (folded aggs parts)))
    ∙ ap (λ (rows : List Row). folded fewer (map under rows ∷ []))
    (with_values-folded (λ vs. length vs ≡ length aggs) (chosen values) aggs fewer (row_combined-length aggs) (λ a b. chosen-combined values aggs a b) parts (rows-full s (rows_of parts) all))
    ∙ rekeyed-apart to fewer (map (map pick) parts) still
    ∙ ap (λ (rows : List Row). folded fewer (map under rows ∷ [])) picked
    ∙ ap (λ (rows : List Row). folded fewer (rows ∷ [])) (map-map under pick (rows_of parts))

-- Where each group is one key, rows may be folded before grouping or after it, replace columns included.
pub groups_whole : (s : Columns) (columns values : List ℕ) (parts : List (List Row)) → AreAllKeys s columns → AreRowsOf s (rows_of parts)
    → grouped s columns values (folded (aggs_of s) parts) ≡ grouped s columns values (rows_of parts)
groups_whole s columns values parts whole all = groups_apart s columns values parts all (whole_apart s columns (rows_of parts) whole all)
