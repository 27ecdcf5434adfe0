use Rattle.std.proofs.Common.{◌+◌, arith, subst, sym}
use Rattle.mesa_batch.proofs.LoadedRows.{none_at, some_at}
use Rattle.mesa_batch.proofs.Fields.{IsSpelled, key_missing, key_bad, key_next, tested_none, tested_some}
use Rattle.mesa_batch.proofs.reading.read_key.Goals as goal

pub returns-in_default-clause-refused : goal.returns-in_default-clause-refused
returns-in_default-clause-refused c = key_missing c.args.columns.now c.args.fields.now c.columns.place c.index-columns-place.result c.columns.bytes.items c.columns-test.true c.index-columns-place.is (none_at c.args.fields.now c.columns.place c.in_default.ensures) c.columns.invariant.spelled

pub returns-then-not-branch-clause-refused : goal.returns-then-not-branch-clause-refused
returns-then-not-branch-clause-refused c =
    let found = some_at c.args.fields.now c.columns.place c.in-Some.field.now c.in-Some.ensures in
    key_bad c.args.columns.now c.args.fields.now c.columns.place c.index-columns-place.result c.in-Some.field.now c.columns.bytes.items c.columns-test.true c.index-columns-place.is
    found.0 found.1
    (tested_none _ c.in_ok-push_value.field-0 _ c.in_ok-push_value.ensures c.if-not-branch.true) c.columns.invariant.spelled

pub columns-preserved : goal.columns-preserved
columns-preserved c =
    let found = some_at c.args.fields.now c.columns.place c.in-Some.field.now c.in-Some.ensures in
    let value = tested_some _ c.in_ok-push_value.field-0 _ c.in_ok-push_value.ensures c.if-not-branch.false in
    record {
      enough = omega (arith, found.0);
      spelled = subst (IsSpelled c.args.columns.now c.args.fields.now (c.columns.place + 1)) (sym value.2) (
          key_next c.args.columns.now c.args.fields.now c.columns.place c.index-columns-place.result c.in-Some.field.now c.columns.bytes.items value.0 c.columns-test.true c.index-columns-place.is
          found.0 found.1 value.1 c.columns.invariant.spelled);
    }
