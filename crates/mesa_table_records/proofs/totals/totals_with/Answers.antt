use Rattle.std.proofs.Common.{ℕ, ◌+◌, ◌-◌, ◌^◌, ◌∙◌, map}
use Rattle.std.specs.Prelude.{min, zip}
use Rattle.mesa_table_records.proofs.Bounds.{totals_bounded}
use Rattle.mesa_table_records.proofs.totals.totals_with.Goals as goal

pub returns : goal.returns
returns c =
    c.from_vec.ensures ∙ c.in_ok-sums.ensures
    ∙ (λ i. map (λ (p : ℕ × ℕ). min (2 ^ 128 - 1) (p.0 + p.1)) (zip (c.as_slice.ensures i) (c.as_slice-2.ensures i)))
    ∙ totals_bounded c.args.totals.now c.args.more.now c.requires
