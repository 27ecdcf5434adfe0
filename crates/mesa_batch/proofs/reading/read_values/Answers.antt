use Rattle.std.proofs.Common.{◌+◌, ◌++◌, [], ◌∷◌, ℤ, ap, arith, subst, sym, ◌∙◌, rules}
use mir.Val.{SFits}
use mir.Syntax.{w128}
use Rattle.std.proofs.lemmas.Int.{to_z-of_z}
use Rattle.mesa_batch.proofs.LoadedRows.{none_at, some_at}
use Rattle.mesa_batch.proofs.Fields.{AreRead, value_missing, value_bad, value_next, values_left, values_done}
use Rattle.mesa_batch.proofs.reading.read_values.Goals as goal

pub returns-in_default-clause-refused : goal.returns-in_default-clause-refused
returns-in_default-clause-refused c = value_missing c.args.columns.now c.args.fields.now c.args.first c.columns.place c.columns.values.items c.columns-test.true (none_at c.args.fields.now c.columns.place c.in_default.ensures) c.columns.invariant

pub returns-in_default-amount-clause-refused : goal.returns-in_default-amount-clause-refused
returns-in_default-amount-clause-refused c =
    let found = some_at c.args.fields.now c.columns.place c.in-Some.field.now c.in-Some.ensures in
    value_bad c.args.columns.now c.args.fields.now c.args.first c.columns.place c.index-columns-place.result c.in-Some.field.now c.columns.values.items c.columns-test.true c.index-columns-place.is
    found.0 found.1 (sym c.amount.ensures ∙ c.in_default-amount.is) c.columns.invariant

pub columns-preserved : goal.columns-preserved
columns-preserved c =
    let found = some_at c.args.fields.now c.columns.place c.in-Some.field.now c.in-Some.ensures in
    let wide : SFits w128 c.in-Some-amount.value = search rules in
    let pushed = c.in_ok-push.ensures.items ∙ ap (λ (z : ℤ). c.columns.values.items ++ z ∷ []) (to_z-of_z w128 c.in-Some-amount.value wide) in
    subst (AreRead c.args.columns.now c.args.fields.now c.args.first (c.columns.place + 1)) (sym pushed) (
    value_next c.args.columns.now c.args.fields.now c.args.first c.columns.place c.index-columns-place.result c.in-Some.field.now c.columns.values.items c.in-Some-amount.value c.columns-test.true c.index-columns-place.is
    found.0 found.1 (sym c.amount.ensures ∙ c.in-Some-amount.is) c.columns.invariant)

pub returns-then-len-columns-clause-refused : goal.returns-then-len-columns-clause-refused
returns-then-len-columns-clause-refused c = values_left c.args.columns.now c.args.fields.now c.args.first c.columns.place c.columns.values.items c.columns-test.false (omega (arith, c.len.ensures, c.if-len-columns.true)) c.columns.auto.place-end c.columns.invariant

pub returns-clause-read : goal.returns-clause-read
returns-clause-read c = values_done c.args.columns.now c.args.fields.now c.args.first c.columns.place c.columns.values.items c.columns-test.false c.columns.auto.place-end (omega (arith, c.len.ensures, c.if-len-columns.false)) c.columns.invariant
