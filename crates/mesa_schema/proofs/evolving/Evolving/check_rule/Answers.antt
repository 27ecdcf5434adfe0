use Rattle.std.proofs.Common.{◌∙◌, ap, sym, map}
use Rattle.mesa_columns.specs.declared.changes.ChangeError.TheVariants.{Memory}
use Rattle.mesa_columns.specs.declared.columns.KeyColumn.{KeyColumn}
use Rattle.mesa_columns.specs.declared.columns.ValueColumn.{ValueColumn}
use Rattle.mesa_schema.specs.Changes.{added_key_checked, added_value_checked, drop_rule, rule_checked}
use Rattle.mesa_schema.proofs.ChangeChecks.{told_err, told_ok, told_same}
use Rattle.mesa_schema.proofs.evolving.Evolving.check_rule.Goals as goal

pub returns-in-AddValue-clause-passes : goal.returns-in-AddValue-clause-passes
returns-in-AddValue-clause-passes c =
    told_ok _ _ (
    c.check_added_value.ensures.check
    ∙ ap (λ columns. added_value_checked (map (λ (v : ValueColumn). v.name) columns) c.in-AddValue.column c.in-AddValue.default) (c.values.ensures.same ∙ ap (λ s. s.values) c.present-present.ensures.columns)
    ∙ ap (rule_checked c.args.self.now) (sym c.in-AddValue.is))

pub returns-in-AddValue-clause-refused : goal.returns-in-AddValue-clause-refused
returns-in-AddValue-clause-refused c =
    told_err _ _ Memory (
    c.check_added_value.ensures.check
    ∙ ap (λ columns. added_value_checked (map (λ (v : ValueColumn). v.name) columns) c.in-AddValue.column c.in-AddValue.default) (c.values.ensures.same ∙ ap (λ s. s.values) c.present-present.ensures.columns)
    ∙ ap (rule_checked c.args.self.now) (sym c.in-AddValue.is))

pub returns-in-DropValue-clause-refused : goal.returns-in-DropValue-clause-refused
returns-in-DropValue-clause-refused c =
    let columns = c.values-in-DropValue.ensures.same ∙ ap (λ s. s.values) c.present-present.ensures.columns in
    let views = c.as_slice.ensures ∙ ap (λ l. l.views) c.self.view_is in
    told_same _ _ _ Memory (
    (λ i. drop_rule (map (λ (v : ValueColumn). v.name) (columns i)) (views i) c.in-DropValue.name)
    ∙ ap (rule_checked c.args.self.now) (sym c.in-DropValue.is)) c.check_drop.ensures.refused

pub returns-in-AddKey-clause-passes : goal.returns-in-AddKey-clause-passes
returns-in-AddKey-clause-passes c =
    told_ok _ _ (
    c.check_added_key.ensures.check
    ∙ ap (λ columns. added_key_checked (map (λ (k : KeyColumn). k.name) columns) c.in-AddKey.column c.in-AddKey.default) (c.keys.ensures.same ∙ ap (λ s. s.keys) c.present-present.ensures.columns)
    ∙ ap (rule_checked c.args.self.now) (sym c.in-AddKey.is))

pub returns-in-AddKey-clause-refused : goal.returns-in-AddKey-clause-refused
returns-in-AddKey-clause-refused c =
    told_err _ _ Memory (
    c.check_added_key.ensures.check
    ∙ ap (λ columns. added_key_checked (map (λ (k : KeyColumn). k.name) columns) c.in-AddKey.column c.in-AddKey.default) (c.keys.ensures.same ∙ ap (λ s. s.keys) c.present-present.ensures.columns)
    ∙ ap (rule_checked c.args.self.now) (sym c.in-AddKey.is))
