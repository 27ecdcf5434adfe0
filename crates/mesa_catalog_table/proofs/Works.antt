-- The ranges that work may give.
use Rattle.std.proofs.Common.{◌≡◌, ℕ, length, map, refl, ◌∙◌, ap, Bool, true, false, cond}
use Rattle.std.specs.Prelude.{◌==◌, ◌&&◌, nat_lt, nat_le, Some, None}
use Rattle.mesa_span.specs.Ranges.{base_before, end_of, ends_of_tens, start_behind}
use Rattle.mesa_span.specs.Work.{missing_end}
use Rattle.mesa_store_spec.specs.Catalog.{end_in, ranges_of, start_in}
use Rattle.mesa_store_spec.specs.Fitting.{is_number, may_be_base, may_be_cumulative}
use Rattle.mesa_catalog_table.specs.declared.table.Table.{Table}
use Rattle.mesa_catalog_table.specs.Meaning.{start_of_base, meta_of, tens_from}
use Rattle.mesa_catalog_table.proofs.Tens.{base_ends, next_ten, tens_end}

-- where the versions behind a table's base start
pub starts : (next : ℕ) (t : Table) → start_in (meta_of next t) ≡ start_of_base t.base
starts next t = ap start_behind (base_ends t.base)

-- a base that work may give
pub base_work : (next oldest from to : ℕ) (t : Table) → may_be_base (ranges_of (meta_of next t)) oldest from to ≡ ((from == 0) && nat_le 1 to && nat_le (start_of_base t.base) to && nat_le to oldest)
base_work next oldest from to t = ap (λ start. (from == 0) && nat_le 1 to && nat_le start to && nat_le to oldest) (starts next t)

number_if : (b : Bool) (m n : ℕ) → is_number (cond b (Some m) None) n ≡ (b && (m == n))
number_if true m n = refl
number_if false m n = refl

-- a cumulative that work may give: the ten behind those that are there
pub cumulative_work : (next from to : ℕ) (t : Table) → may_be_cumulative (ranges_of (meta_of next t)) next from to
    ≡ ((from == start_of_base t.base) && (nat_lt (end_of (start_of_base t.base) (length t.cumulatives.items)) next && (end_of (start_of_base t.base) (length t.cumulatives.items) == to)))
cumulative_work next from to t =
    let start = start_of_base t.base in
    let k = length t.cumulatives.items in
    let ends : map end_in (tens_from start t.cumulatives.items) ≡ ends_of_tens start k = tens_end start t.cumulatives.items in
    (λ i. (from == starts next t i) && is_number (missing_end (starts next t i) (ends i) (base_before next)) to)
    ∙ ap (λ o. (from == start) && is_number o to) (next_ten start k next)
    ∙ ap (λ b. (from == start) && b) (number_if (nat_lt (end_of start k) next) (end_of start k) to)
