use Rattle.std.proofs.Common.{◌≡◌, [], length, take, ◌-◌, ◌∙◌, ap, arith, sym}
use Rattle.std.specs.Prelude.{slice_get}
use Rattle.std.proofs.lemmas.Result.{err_from_is_err_and}
use Rattle.mesa_key.specs.Columns.{ColumnsLeft}
use Rattle.mesa_key.proofs.Keys.{no_column, no_kinds, no_spelling, no_whole, read_key, read_spelling}
use Rattle.mesa_key.proofs.decoding.decode.Goals as goal

pub returns-in_err-value_of-clause-refused : goal.returns-in_err-value_of-clause-refused
returns-in_err-value_of-clause-refused c =
    let p = err_from_is_err_and c.from_residual.result c.from_residual.ensures.1 in
    let took = c.in-Some.ensures in
    rw (p.1, p.2) (λ fault. no_spelling _ _ (c.loop-column.invariant.begins ∙ no_column _ _ _ _ _ took.kind took.column (c.in_err-value_of.ensures.refused fault)))

pub returns-in-Some-first-clause-refused : goal.returns-in-Some-first-clause-refused
returns-in-Some-first-clause-refused c fault =
    let kinds = c.kinds.ensures ∙ ap (λ (left : ColumnsLeft). left.kinds) c.in_default.ensures.none in
    no_spelling _ _
    (c.loop-column.invariant.begins
    ∙ no_whole c.loop-column.columns.kinds c.in-Some-first.kind.now c.loop-column.columns.bytes (sym c.in_default.ensures.whole) (c.in-Some-first.ensures.value ∙ ap (λ types. slice_get types 0) kinds))

pub returns-clause-key : goal.returns-clause-key
returns-clause-key c =
    let kinds = c.kinds.ensures ∙ ap (λ (left : ColumnsLeft). left.kinds) c.in_default.ensures.none in
    let loop = c.loop-column.invariant in
    let ended : c.loop-column.columns.kinds ≡ [] = no_kinds c.loop-column.columns.kinds (c.in_default-first.ensures.value ∙ ap (λ types. slice_get types 0) kinds) in
    (read_key c.args.types.now c.loop-column.columns.kinds c.args.bytes.now c.loop-column.columns.bytes c.loop-column.key ended (λ i. omega (arith, c.type_inv.bytes i)) loop.read loop.begins loop.after).0

pub returns-clause-spelled : goal.returns-clause-spelled
returns-clause-spelled c =
    let kinds = c.kinds.ensures ∙ ap (λ (left : ColumnsLeft). left.kinds) c.in_default.ensures.none in
    let rest = c.rest-2.ensures ∙ ap (λ (left : ColumnsLeft). left.bytes) c.in_default.ensures.none in
    let loop = c.loop-column.invariant in
    let ended : c.loop-column.columns.kinds ≡ [] = no_kinds c.loop-column.columns.kinds (c.in_default-first.ensures.value ∙ ap (λ types. slice_get types 0) kinds) in
    let whole = read_key c.args.types.now c.loop-column.columns.kinds c.args.bytes.now c.loop-column.columns.bytes c.loop-column.key ended (λ i. omega (arith, c.type_inv.bytes i)) loop.read loop.begins loop.after in
    ap (λ bytes. take (length c.args.bytes.now - length bytes) c.args.bytes.now) rest ∙ read_spelling c.args.bytes.now c.loop-column.columns.bytes c.loop-column.key whole.1
