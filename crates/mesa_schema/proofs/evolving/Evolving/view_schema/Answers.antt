use Rattle.std.proofs.Common.{◌∙◌, ap}
use Rattle.mesa_columns.specs.Columns.{Columns}
use Rattle.mesa_schema.specs.Changes.{columns_of}
use Rattle.mesa_schema.proofs.LineageRules.{present_schema}
use Rattle.mesa_schema.proofs.ViewSchemas.{chooses, chooses_schema, chosen_view}
use Rattle.mesa_schema.proofs.evolving.Evolving.view_schema.Goals as goal

pub of-requires : goal.of-requires
of-requires c =
    let present = c.present-present.ensures.columns in
    let rules = c.present-present.ensures.rules in
    let s : Columns = columns_of c.args.self.now in
    let those = chooses s c.view-view.result.now _ _ _ _ _ _ (c.keys.ensures.same ∙ ap (λ x. x.keys) present) (c.values.ensures.same ∙ ap (λ x. x.values) present) c.as_slice.ensures c.as_slice-2.ensures c.in_ok-keys.ensures c.in_ok-values.ensures in
    chooses_schema s c.view-view.result.now _ _ c.args.self.now.views c.args.view those (present_schema c.args.self.now rules) rules.views c.view-view.ensures

pub returns : goal.returns
returns c =
    let present = c.present-present.ensures.columns in
    let s : Columns = columns_of c.args.self.now in
    let those = chooses s c.view-view.result.now _ _ _ _ _ _ (c.keys.ensures.same ∙ ap (λ x. x.keys) present) (c.values.ensures.same ∙ ap (λ x. x.values) present) c.as_slice.ensures c.as_slice-2.ensures c.in_ok-keys.ensures c.in_ok-values.ensures in
    rw c.view-view.ensures (c.of.ensures ∙ chosen_view s c.view-view.result.now _ _ those)
