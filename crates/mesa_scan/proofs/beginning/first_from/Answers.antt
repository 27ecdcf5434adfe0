use Rattle.std.proofs.Common.{◌≡◌, ◌+◌, ◌∙◌, ℕ, List, ◌∷◌, drop, ap, sym, true, false, ◌&&◌}
use Rattle.std.specs.Prelude.{None, Some}
use Rattle.std.specs.Ordering.{is_le}
use Rattle.mesa_delta.specs.mesa_key.Order.{byte_cmp}
use Rattle.mesa_delta.specs.mesa_columns.declared.rows.Row.{Row}
use Rattle.mesa_delta.specs.mesa_columns.Lent.{lent}
use Rattle.mesa_delta.specs.mesa_columns.Rows.{keys_rise}
use Rattle.mesa_scan.specs.Cut.{cut, lies_in}
use Rattle.mesa_scan.proofs.Cuts.{from_stay, rise_drop}
use Rattle.mesa_scan.proofs.Cutting.{cut_none, no}
use Rattle.mesa_scan.proofs.Handing.{from_place}
use Rattle.mesa_scan.proofs.beginning.first_from.Goals as goal

pub loop-i-preserved : goal.loop-i-preserved
loop-i-preserved c =
    let key : List ℕ = c.in-Some.key in
    let block : List Row = c.args.block.now in
    let row : Row = lent c.row.result in
    let off : is_le (byte_cmp key row.key) ≡ false = ap (λ k. is_le (byte_cmp k row.key)) (sym c.as_slice.ensures) ∙ ap is_le (sym c.cmp.ensures) ∙ sym c.is_le.ensures ∙ c.if-is_le.false in
    c.loop-i.invariant ∙ ap (cut (Some key) None) (from_place block c.loop-i.i row c.row.ensures)
    ∙ no (λ (r : Row). lies_in (Some key) None r.key) row (drop (c.loop-i.i + 1) block) (ap (λ b. b && true) off)

pub returns-in_default-clause-rows : goal.returns-in_default-clause-rows
returns-in_default-clause-rows c = λ up. ap (λ o. cut o None c.args.block.now) c.in_default.is ∙ cut_none c.args.block.now

pub returns-then-is_le-clause-rows : goal.returns-then-is_le-clause-rows
returns-then-is_le-clause-rows c = λ up.
    let key : List ℕ = c.in-Some.key in
    let block : List Row = c.args.block.now in
    let row : Row = lent c.row.result in
    let back : List Row = drop (c.loop-i.i + 1) block in
    let on : is_le (byte_cmp key row.key) ≡ true = ap (λ k. is_le (byte_cmp k row.key)) (sym c.as_slice.ensures) ∙ ap is_le (sym c.cmp.ensures) ∙ sym c.is_le.ensures ∙ c.if-is_le.true in
    let at : drop c.loop-i.i block ≡ row ∷ back = from_place block c.loop-i.i row c.row.ensures in
    ap (λ o. cut o None block) c.in-Some.is ∙ c.loop-i.invariant ∙ ap (cut (Some key) None) at ∙ from_stay key row back on (ap keys_rise (sym at) ∙ rise_drop c.loop-i.i block up) ∙ sym at
