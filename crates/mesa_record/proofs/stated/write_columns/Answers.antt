use Rattle.std.proofs.Common.{subst, Result, Ok, Err}
use Rattle.std.specs.Prelude.{OnOk}
use Rattle.std.specs.List.{AllByRecursion}
use Rattle.mesa_record_fields.specs.mesa_columns.declared.columns.KeyColumn.{KeyColumn}
use Rattle.mesa_record_fields.specs.mesa_columns.declared.columns.ValueColumn.{ValueColumn}
use Rattle.mesa_record_fields.specs.Rules.{IsNamed, IsTotal, IsTypedChange}
use Rattle.mesa_record.specs.Rules.{AreTypedColumns, IsTypedStatedView}
use Rattle.mesa_record.proofs.stated.write_columns.Goals as goal

on_ok : {X E : Type 0} (r : Result X E) (A B : Type 0) → (A → B) → OnOk r A → OnOk r B
on_ok (Ok x) A B f h = f h
on_ok (Err e) A B f h = tt

pub returns-clause-typed : goal.returns-clause-typed
returns-clause-typed c =
    on_ok c.write_counted-3.result (AllByRecursion IsTotal c.as_slice-5.result.now) (AreTypedColumns c.args.table.now) (λ totals. record {
      keys = subst (AllByRecursion (λ (column : KeyColumn). IsNamed column.name)) c.as_slice.ensures c.in_ok-write_counted.ensures.typed;
      values = subst (AllByRecursion (λ (column : ValueColumn). IsNamed column.name)) c.as_slice-2.ensures c.in_ok-write_counted-2.ensures.typed;
      changes = subst (AllByRecursion IsTypedChange) c.as_slice-3.ensures c.in_ok-write_short.ensures.typed;
      views = subst (AllByRecursion IsTypedStatedView) c.as_slice-4.ensures c.in_ok-write_views.ensures.typed;
      totals = subst (AllByRecursion IsTotal) c.as_slice-5.ensures totals;
    }) c.write_counted-3.ensures.typed
