use Rattle.std.proofs.Common.{◌≡◌, ◌<◌, ◌-◌, ◌+◌, ◌∙◌, List, [], ◌∷◌, length, arith, ap, sym, add-one}
use Rattle.std.specs.Prelude.{Some, slice_get}
use Rattle.std.specs.Ordering.{is_lt}
use Rattle.mesa_delta.specs.mesa_key.Order.{byte_cmp}
use Rattle.mesa_delta.specs.mesa_columns.declared.rows.Row.{Row}
use Rattle.mesa_delta.specs.mesa_columns.Lent.{lent}
use Rattle.mesa_delta.specs.mesa_delta_format.Summary.{last_key}
use Rattle.mesa_delta.specs.mesa_delta_format.Tail.{first_key}
use Rattle.mesa_scan.specs.Cursors.{comes_behind}
use Rattle.mesa_scan.proofs.beginning.follows.Goals as goal

-- the key of the last of rows
last_at : (rows : List Row) (row : Row) → 0 < length rows → slice_get rows (length rows - 1) ≡ Some row → last_key rows ≡ row.key
last_at [] row some at = absurd (omega arith)
last_at (a ∷ []) row some at = let same : a ≡ row = cc in ap (λ (r : Row). r.key) same
last_at (a ∷ b ∷ rows) row some at =
    let i : length (a ∷ b ∷ rows) - 1 ≡ length rows + 1 = omega arith in
    let j : length (b ∷ rows) - 1 ≡ length rows = omega arith in
    let next : slice_get (a ∷ b ∷ rows) (length rows + 1) ≡ Some row = ap (slice_get (a ∷ b ∷ rows)) (sym i) ∙ at in
    last_at (b ∷ rows) row (omega arith) (ap (slice_get (b ∷ rows)) j ∙ (rw add-one at next))

first_at : (rows : List Row) (row : Row) → slice_get rows 0 ≡ Some row → first_key rows ≡ row.key
first_at [] row at = absurd cc
first_at (a ∷ rows) row at = let same : a ≡ row = cc in ap (λ (r : Row). r.key) same

by_keys : (before block : List Row) (last first : Row) → 0 < length before → slice_get before (length before - 1) ≡ Some last → slice_get block 0 ≡ Some first → is_lt (byte_cmp last.key first.key) ≡ comes_behind before block
by_keys [] block last first some at to = absurd (omega arith)
by_keys (row ∷ rows) block last first some at to = λ i. is_lt (byte_cmp (sym (last_at (row ∷ rows) last some at) i) (sym (first_at block first to) i))

pub returns-clause-from : goal.returns-clause-from
returns-clause-from c = λ from.
    let at = rw c.len-2.ensures at c.row.ensures in
    let some : 0 < length c.args.before.now = omega (arith, c.len.ensures, c.if-len-eq0.false) in
    c.is_lt.ensures ∙ ap is_lt c.cmp.ensures ∙ by_keys c.args.before.now c.args.block.now (lent c.row.result) (lent c.row-2.result) some at c.row-2.ensures
