use Rattle.std.proofs.Common.{◌≡◌, ◌∙◌, ◌+◌, [], ap, refl, subst, sym, None}
use Rattle.mesa_columns.specs.declared.views.View.{View}
use Rattle.mesa_columns.specs.Columns.{Columns}
use Rattle.mesa_schema.specs.Changes.{Lineage, columns_of}
use Rattle.mesa_schema.specs.Lineages.{IsKept}
use Rattle.mesa_schema.specs.Recasts.{Recast, recast_lineage}
use Rattle.mesa_columns.specs.Schema.{is_schema}
use Rattle.mesa_schema.proofs.LineageRecasts.{lineage_recast, recast_allowed, recast_schema}
use Rattle.mesa_schema.proofs.LineageRules.{present_schema}
use Rattle.mesa_schema.proofs.ViewSchemas.{chooses, chosen_view}
use Rattle.mesa_schema.proofs.evolving.Evolving.renewed.Goals as goal

pub of-requires : goal.of-requires
of-requires c =
    let present = c.present-present.ensures.columns in
    let rules = c.present-present.ensures.rules in
    let s : Columns = columns_of c.args.self.now in
    let v : View = record { name = []; keys = c.args.keys.items; values = c.args.values.items } in
    let r : Recast = record { keys = c.args.keys.items; values = c.args.values.items } in
    let those = chooses s v _ _ _ _ _ _ (c.keys.ensures.same ∙ ap (λ x. x.keys) present) (c.values.ensures.same ∙ ap (λ x. x.values) present) c.deref.ensures.value c.deref-2.ensures.value c.in_ok-first_keys.ensures c.in_ok-first_values.ensures in
    ap is_schema (chosen_view s v _ _ those) ∙ recast_schema s r (present_schema c.args.self.now rules) (recast_allowed c.args.self.now r c.requires).rules

pub invariant_of-result : goal.invariant_of-result
invariant_of-result c =
    let present = c.present-present.ensures.columns in
    let s : Columns = columns_of c.args.self.now in
    let v : View = record { name = []; keys = c.args.keys.items; values = c.args.values.items } in
    let r : Recast = record { keys = c.args.keys.items; values = c.args.values.items } in
    let those = chooses s v _ _ _ _ _ _ (c.keys.ensures.same ∙ ap (λ x. x.keys) present) (c.values.ensures.same ∙ ap (λ x. x.values) present) c.deref.ensures.value c.deref-2.ensures.value c.in_ok-first_keys.ensures c.in_ok-first_values.ensures in
    let same : record { begins = c.epoch.result + 1; first = c.of.result; changes = c.new.result; views = c.in_ok-views.views } ≡ recast_lineage c.args.self.now r =
    λ i. record { begins = c.epoch.ensures.count i + 1; first = (c.of.ensures ∙ chosen_view s v _ _ those) i; changes = c.new.ensures i; views = (c.in_ok-views.ensures ∙ ap (λ l. l.views) c.self.view_is) i } in
    subst (λ (l : Lineage). IsKept l None) (sym same) (record { lineage = lineage_recast c.args.self.now r c.present-present.ensures.rules c.requires; present = refl })

pub returns : goal.returns
returns c =
    let present = c.present-present.ensures.columns in
    let s : Columns = columns_of c.args.self.now in
    let v : View = record { name = []; keys = c.args.keys.items; values = c.args.values.items } in
    let those = chooses s v _ _ _ _ _ _ (c.keys.ensures.same ∙ ap (λ x. x.keys) present) (c.values.ensures.same ∙ ap (λ x. x.values) present) c.deref.ensures.value c.deref-2.ensures.value c.in_ok-first_keys.ensures c.in_ok-first_values.ensures in
    λ i. record { begins = c.epoch.ensures.count i + 1; first = (c.of.ensures ∙ chosen_view s v _ _ those) i; changes = c.new.ensures i; views = (c.in_ok-views.ensures ∙ ap (λ l. l.views) c.self.view_is) i }
