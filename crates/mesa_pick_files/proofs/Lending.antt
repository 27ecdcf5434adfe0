-- The deltas of a plan and of a work are those that are lent.
use Rattle.std.proofs.Common.{◌≡◌, ℕ, zero, suc, ◌+◌, ◌-◌, ◌*◌, ◌≤◌, ◌<◌, List, [], ◌∷◌, ◌++◌, length, map, take, drop, refl, sym, ap, ◌∙◌, arith, true, false, cond}
use Rattle.std.specs.Prelude.{flat_map, is_some, nat_le, nat_lt, Some, slice_get}
use Rattle.std.proofs.lemmas.Bool.Decides.{nat_tests}
use Rattle.std.proofs.lemmas.List.Elements.{filter-append, filter_agree}
use Rattle.mesa_span.specs.Ranges.{end_of, start_behind}
use Rattle.mesa_validate.specs.mesa_store_spec.Catalog.{Delta, start_in}
use Rattle.mesa_validate.specs.mesa_store_spec.Brought.{merged_of}
use Rattle.mesa_validate.specs.mesa_store_spec.Planned.{behind_base, longest_to}
use Rattle.mesa_catalog_table.specs.declared.table.Loaded.{Loaded}
use Rattle.mesa_catalog_table.specs.declared.table.Table.{Table}
use Rattle.mesa_catalog_table.specs.Meaning.{AreLoaded, IsTable, singles_from, start_of_base, meta_of}
use Rattle.mesa_catalog_table.specs.Named.{through}
use Rattle.mesa_catalog_table.proofs.Named.{flat_map-map, singles_through}
use Rattle.mesa_catalog_table.proofs.Singles.{behind, loaded_behind, singles_dropped}
use Rattle.mesa_catalog_table.proofs.Tens.{base_ends}
use Rattle.mesa_pick_files.specs.Lent.{loaded_from, shared_if_any, single_delta, ten_deltas, with_rows}
use Rattle.mesa_pick_files.proofs.Longest.{longest_none, longest_some}
use Rattle.mesa_pick_files.proofs.Parted.{all_from}

-- ---- singletons

-- a delta, if it has rows
abbrev row_of : Delta → List Delta
row_of d = cond (is_some d.files) (d ∷ []) []

rows_as : (ds : List Delta) → flat_map row_of ds ≡ with_rows ds
rows_as [] = refl
rows_as (d ∷ ds) = ap (λ xs. row_of d ++ xs) (rows_as ds) ∙ (elim (is_some d.files) as (λ b. cond b (d ∷ []) [] ++ with_rows ds ≡ cond b (d ∷ with_rows ds) (with_rows ds)) [ true ↦ refl | false ↦ refl ])

-- the singletons up to a version that have rows are of what was loaded
pub singles_taken : (from to next : ℕ) (loaded : List Loaded) → AreLoaded from next loaded
    → with_rows (take (to + 1 - from) (singles_from from next loaded)) ≡ with_rows (map single_delta (through to loaded))
singles_taken from to next loaded are =
    sym (rows_as (take (to + 1 - from) (singles_from from next loaded)))
    ∙ singles_through row_of from to next loaded refl are
    ∙ sym (flat_map-map row_of single_delta (through to loaded))
    ∙ rows_as (map single_delta (through to loaded))

-- so behind a cumulative that ends at a version
pub singles_behind : (from end to next : ℕ) (loaded : List Loaded) → from ≤ end + 1 → end < next → AreLoaded from next loaded
    → with_rows (take (to - end) (drop (end + 1 - from) (singles_from from next loaded))) ≡ with_rows (map single_delta (through to (loaded_from (end + 1) loaded)))
singles_behind from end to next loaded low below are =
    let count : to - end ≡ to + 1 - (end + 1) = omega arith in
    let same : (l : Loaded) → nat_lt end l.version ≡ nat_le (end + 1) l.version = λ l. grind (arith, nat_tests) in
    ap (λ ds. with_rows (take (to - end) ds)) (singles_dropped from end next loaded low below are)
    ∙ ap (λ n. with_rows (take n (singles_from (end + 1) next (behind end loaded)))) count
    ∙ singles_taken (end + 1) to next (behind end loaded) (loaded_behind end from next loaded are)
    ∙ ap (λ ls. with_rows (map single_delta (through to ls))) (filter_agree (λ (l : Loaded). nat_lt end l.version) (λ (l : Loaded). nat_le (end + 1) l.version) same loaded)

-- ---- a table's deltas behind its base

-- where the singletons of a table begin
pub start_held : (next : ℕ) (t : Table) → start_in (meta_of next t) ≡ start_of_base t.base
start_held next t = ap start_behind (base_ends t.base)

get_within : {X : Type 0} (xs : List X) (j : ℕ) → j < length xs → (x : X) × (slice_get xs j ≡ Some x)
get_within [] j h = absurd (omega arith)
get_within (x ∷ xs) zero h = (x, refl)
get_within (x ∷ xs) (suc j) h = get_within xs j (omega arith)

-- the deltas behind the base, where so many cumulatives end at or before the version
pub behind_lent : (next v k : ℕ) (t : Table) → IsTable next t → k ≤ length t.cumulatives.items
    → (0 < k → start_of_base t.base + 10 * k ≤ v + 1) → (k < length t.cumulatives.items → v < end_of (start_of_base t.base) k)
    → with_rows (behind_base (meta_of next t) v (longest_to (meta_of next t) v))
    ≡ with_rows (ten_deltas k t.cumulatives.items ++ map single_delta (through v (loaded_from (start_of_base t.base + 10 * k) t.loaded.items)))
behind_lent next v zero t is few within past =
    let start = start_of_base t.base in
    let u = meta_of next t in
    let none = longest_none start v t.cumulatives.items past in
    let zero_more : start ≡ start + 10 * 0 = omega arith in
    ap (λ o. with_rows (behind_base u v o)) none
    ∙ ap (λ n. with_rows (take (v + 1 - n) u.singles)) (start_held next t)
    ∙ singles_taken start v next t.loaded.items is.loaded
    ∙ ap (λ ls. with_rows (map single_delta (through v ls))) (sym (all_from start start next t.loaded.items (omega arith) is.loaded))
    ∙ ap (λ n. with_rows (map single_delta (through v (loaded_from n t.loaded.items)))) zero_more
behind_lent next v (suc j) t is few within past =
    let start = start_of_base t.base in
    let u = meta_of next t in
    let found = get_within t.cumulatives.items j (omega arith) in
    let d = found.0 in
    let reached = within (omega arith) in
    let tens : start + 10 * length t.cumulatives.items ≤ next = is.tens in
    let end = end_of start j in
    let some = longest_some start v j t.cumulatives.items d found.1 (omega arith) (omega arith) past in
    let after : end + 1 ≡ start + 10 * suc j = omega arith in
    let lent = λ (w : List Delta). cond (is_some d.value.files) (d.value ∷ w) w in
    ap (λ o. with_rows (behind_base u v o)) some
    ∙ ap (λ n. lent (with_rows (take (v - end) (drop (end + 1 - n) u.singles)))) (start_held next t)
    ∙ ap lent (singles_behind start end v next t.loaded.items (omega arith) (omega arith) is.loaded)
    ∙ ap (λ n. lent (with_rows (map single_delta (through v (loaded_from n t.loaded.items))))) after
    ∙ ap (λ o. with_rows (shared_if_any o ++ map single_delta (through v (loaded_from (start + 10 * suc j) t.loaded.items)))) (sym found.1)

-- lists of the same deltas with rows, one behind the other
pub rows_join : (ps bs cs ds : List Delta) → with_rows ps ≡ with_rows bs → with_rows cs ≡ with_rows ds → with_rows (ps ++ cs) ≡ with_rows (bs ++ ds)
rows_join ps bs cs ds first rest =
    filter-append (λ (d : Delta). is_some d.files) ps cs ∙ (λ i. first i ++ rest i) ∙ sym (filter-append (λ (d : Delta). is_some d.files) bs ds)

-- ---- the singletons of a range

-- those that a table stands for up to a version
pub singles_lent : (next to : ℕ) (t : Table) → IsTable next t → with_rows (map single_delta (through to t.loaded.items)) ≡ with_rows (merged_of (meta_of next t) false to)
singles_lent next to t is =
    let u = meta_of next t in
    sym (ap (λ n. with_rows (take (to + 1 - n) u.singles)) (start_held next t) ∙ singles_taken (start_of_base t.base) to next t.loaded.items is.loaded)
