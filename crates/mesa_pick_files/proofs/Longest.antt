-- The longest of the cumulatives of ten, twenty and so on versions.
use Rattle.std.proofs.Common.{◌≡◌, ℕ, zero, suc, ◌+◌, ◌*◌, ◌≤◌, ◌<◌, List, [], ◌∷◌, length, map, refl, ap, ◌∙◌, arith, true, false, cond}
use Rattle.std.specs.Prelude.{◌==◌, nat_le, max, filter, find, fold, Option, Some, None, slice_get}
use Rattle.std.specs.List.{range_with_len, reduce}
use Rattle.std.specs.declared.alloc.Global.{Global}
use Rattle.std.specs.declared.sync.Arc.{Arc}
use Rattle.std.proofs.lemmas.Bool.Decides.{nat_tests}
use Rattle.mesa_span.specs.Plan.{longest}
use Rattle.mesa_span.specs.Ranges.{end_of, ends_of_tens}
use Rattle.mesa_validate.specs.mesa_store_spec.Catalog.{Delta, Ending, end_in}
use Rattle.mesa_validate.specs.mesa_store_spec.Planned.{ending_at}
use Rattle.mesa_catalog_table.specs.Meaning.{tens_from}
use Rattle.mesa_catalog_table.proofs.Tens.{tens_end}

-- ---- the greatest end

none_within : (start tens n v : ℕ) → v < end_of start tens → filter (λ e. nat_le e v) (map (end_of start) (range_with_len tens n)) ≡ []
none_within start tens zero v h = refl
none_within start tens (suc n) v h =
    let late : nat_le (end_of start tens) v ≡ false = grind (arith, nat_tests) in
    let rest = filter (λ e. nat_le e v) (map (end_of start) (range_with_len (tens + 1) n)) in
    ap (λ b. cond b (end_of start tens ∷ rest) rest) late ∙ none_within start (tens + 1) n v (omega arith)

-- of the tens behind one, m more end at or before the version
greatest_within : (start t v n m : ℕ) → m ≤ n → end_of start (t + m) ≤ v → (m < n → v < end_of start (t + m + 1))
    → fold max (end_of start t) (filter (λ e. nat_le e v) (map (end_of start) (range_with_len (t + 1) n))) ≡ end_of start (t + m)
greatest_within start t v zero m few within past = omega arith
greatest_within start t v (suc n) zero few within past =
    let behind : v < end_of start (t + 1) = (let more = past (omega arith) in omega arith) in
    ap (fold max (end_of start t)) (none_within start (t + 1) (suc n) v behind) ∙ ap (end_of start) (omega arith)
greatest_within start t v (suc n) (suc m) few within past =
    let early : nat_le (end_of start (t + 1)) v ≡ true = grind (arith, nat_tests) in
    let rest = filter (λ e. nat_le e v) (map (end_of start) (range_with_len (t + 1 + 1) n)) in
    let greater : max (end_of start t) (end_of start (t + 1)) ≡ end_of start (t + 1) = omega arith in
    let same : t + 1 + m ≡ t + suc m = omega arith in
    ap (λ b. fold max (end_of start t) (cond b (end_of start (t + 1) ∷ rest) rest)) early
    ∙ ap (λ e. fold max e rest) greater
    ∙ greatest_within start (t + 1) v n m (omega arith) (omega arith) (λ less. let more = past (omega arith) in omega arith)
    ∙ ap (end_of start) same

-- where the last of the first so many tens ends
abbrev pub last_end : ℕ → ℕ → Option ℕ
last_end start zero = None
last_end start (suc j) = Some (end_of start j)

longest_end : (start v n k : ℕ) → k ≤ n → (0 < k → start + 10 * k ≤ v + 1) → (k < n → v < end_of start k) → longest v (ends_of_tens start n) ≡ last_end start k
longest_end start v zero zero few within past = refl
longest_end start v (suc n) zero few within past = ap (reduce max) (none_within start 0 (suc n) v (past (omega arith)))
longest_end start v zero (suc j) few within past = absurd (omega arith)
longest_end start v (suc n) (suc j) few within past =
    let reached = within (omega arith) in
    let early : nat_le (end_of start 0) v ≡ true = grind (arith, nat_tests) in
    let rest = filter (λ e. nat_le e v) (map (end_of start) (range_with_len 1 n)) in
    ap (λ b. reduce max (cond b (end_of start 0 ∷ rest) rest)) early
    ∙ ap (λ e. Some e) (greatest_within start 0 v n j (omega arith) (omega arith) (λ less. let more = past (omega arith) in omega arith) ∙ (let same : 0 + j ≡ j = omega arith in ap (end_of start) same))

-- ---- its delta

found_ten : (start end j : ℕ) (ds : List (Arc Delta Global)) (d : Arc Delta Global) → end ≡ end_of start j → slice_get ds j ≡ Some d
    → find (λ (e : Ending). e.to == end) (tens_from start ds) ≡ Some (record { to = end; delta = d.value })
found_ten start end j [] d at is = absurd cc
found_ten start end zero (x ∷ ds) d at is =
    let here : (start + 9 == end) ≡ true = grind (arith, nat_tests) in
    let same : x ≡ d = cc in
    let to : start + 9 ≡ end = omega arith in
    ap (λ b. cond b (Some (record { to = start + 9; delta = x.value })) (find (λ (e : Ending). e.to == end) (tens_from (start + 10) ds))) here
    ∙ (λ i. Some (record { to = to i; delta = (same i).value }))
found_ten start end (suc j) (x ∷ ds) d at is =
    let other : (start + 9 == end) ≡ false = grind (arith, nat_tests) in
    ap (λ b. cond b (Some (record { to = start + 9; delta = x.value })) (find (λ (e : Ending). e.to == end) (tens_from (start + 10) ds))) other
    ∙ found_ten (start + 10) end j ds d (omega arith) is

-- what is found of a table's tens: nothing where none ends at or before the version
pub longest_none : (start v : ℕ) (ds : List (Arc Delta Global)) → (0 < length ds → v < end_of start 0)
    → ending_at (tens_from start ds) (longest v (map end_in (tens_from start ds))) ≡ None
longest_none start v ds past =
    ap (λ ends. ending_at (tens_from start ds) (longest v ends)) (tens_end start ds)
    ∙ ap (ending_at (tens_from start ds)) (longest_end start v (length ds) 0 (omega arith) (λ no. absurd (omega arith)) past)

-- and otherwise the last that does
pub longest_some : (start v j : ℕ) (ds : List (Arc Delta Global)) (d : Arc Delta Global) → slice_get ds j ≡ Some d → j < length ds → end_of start j ≤ v → (suc j < length ds → v < end_of start (suc j))
    → ending_at (tens_from start ds) (longest v (map end_in (tens_from start ds))) ≡ Some (record { to = end_of start j; delta = d.value })
longest_some start v j ds d is within reached past =
    ap (λ ends. ending_at (tens_from start ds) (longest v ends)) (tens_end start ds)
    ∙ ap (ending_at (tens_from start ds)) (longest_end start v (length ds) (suc j) (omega arith) (λ _. omega arith) past)
    ∙ found_ten start (end_of start j) j ds d refl is
