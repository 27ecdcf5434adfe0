use Rattle.std.proofs.Common.{◌≡◌, ◌<◌, true, false, refl, sym, ◌∙◌, ap, subst, inl, inr}
use Rattle.std.specs.Prelude.{nat_le}
use Rattle.std.specs.List.{AllByRecursion, list_any}
use Rattle.mesa_open_files.specs.mesa_columns.Columns.{Columns}
use Rattle.mesa_batch.specs.Totals.{abs_totals, capped, sum_bound}
use Rattle.mesa_merge.specs.Sums.{sum_damage}
use Rattle.mesa_compact.proofs.Causing.{caused_damage, caused_memory, caused_ok, caused_on}
use Rattle.mesa_compact.proofs.Passing.{all_small, capped_whole, keeps_bound, passes_bound}
use Rattle.mesa_compact.proofs.regrouping.groups_file.Goals as goal

pub returns-in_default-clause-causes : goal.returns-in_default-clause-causes
returns-in_default-clause-causes g c = λ reads. caused_memory _ _ _ reads reads refl refl

pub returns-in-Ok-rows_file-clause-causes : goal.returns-in-Ok-rows_file-clause-causes
returns-in-Ok-rows_file-clause-causes g c = λ reads. caused_ok _ _ _ reads reads _ (c.in-Ok-rows_file.ensures.causes reads).drafts.quiet refl

pub returns-in-Err-clause-causes : goal.returns-in-Err-clause-causes
returns-in-Err-clause-causes g c = λ reads. caused_on _ _ _ _ _ reads reads reads _ _ refl refl (c.in-Err.ensures.causes reads) refl (λ d told. (told.0, inl told.1))

-- ---- a total passes the bound

pub returns-then-is_over-clause-causes : goal.returns-then-is_over-clause-causes
returns-then-is_over-clause-causes g c = λ reads.
    let s : Columns = c.args.schema.now in
    let totals : c.as_slice.result.now ≡ capped (abs_totals s c.args.rows.now) = c.as_slice.ensures ∙ c.in-Ok.ensures in
    let passes = ap (list_any (λ total. nat_le sum_bound total)) (sym totals) ∙ sym c.is_over.ensures ∙ c.if-is_over.true in
    caused_damage _ _ _ reads reads _ (sum_damage c.args.newest) refl refl c.sum_fault.ensures (refl, inr (passes_bound s c.args.rows.now passes))

pub returns-then-is_over-clause-accepts : goal.returns-then-is_over-clause-accepts
returns-then-is_over-clause-accepts g c = λ d e keeps.
    let s : Columns = c.args.schema.now in
    let totals : c.as_slice.result.now ≡ capped (abs_totals s c.args.rows.now) = c.as_slice.ensures ∙ c.in-Ok.ensures in
    let passes = ap (list_any (λ total. nat_le sum_bound total)) (sym totals) ∙ sym c.is_over.ensures ∙ c.if-is_over.true in
    keeps_bound s c.args.rows.now keeps (passes_bound s c.args.rows.now passes)

-- ---- none does

pub returns-in-Ok-rows_file-clause-small : goal.returns-in-Ok-rows_file-clause-small
returns-in-Ok-rows_file-clause-small g c =
    let none = ap (list_any (λ total. nat_le sum_bound total)) (sym c.as_slice.ensures) ∙ sym c.is_over.ensures ∙ c.if-is_over.false in
    all_small c.in-Ok.totals none

pub returns-in-Ok-rows_file-clause-totals : goal.returns-in-Ok-rows_file-clause-totals
returns-in-Ok-rows_file-clause-totals g c =
    let small = subst (AllByRecursion (λ n. n < sum_bound)) c.in-Ok.ensures (returns-in-Ok-rows_file-clause-small g c) in
    c.in-Ok.ensures ∙ capped_whole (abs_totals c.args.schema.now c.args.rows.now) small
