use Rattle.std.proofs.Common.{◌∙◌, ap, sym, List, ℕ, map, length, Bool}
use Rattle.std.specs.Prelude.{is_ok, is_some, find, not, ◌&&◌, ◌==◌}
use Rattle.mesa_columns.specs.declared.columns.ValueColumn.{ValueColumn}
use Rattle.mesa_columns.specs.declared.views.View.{View}
use Rattle.mesa_columns.specs.Names.{has_name}
use Rattle.mesa_schema.specs.Changes.{rule_checked}
use Rattle.mesa_schema.proofs.LineageRules.{drop_allowed}
use Rattle.mesa_schema.proofs.evolving.Evolving.keeps_rule.Goals as goal

pub returns-then-may_go : goal.returns-then-may_go
returns-then-may_go c =
    let columns = c.values-in-DropValue.ensures.same ∙ ap (λ s. s.values) c.present-present.ensures.columns in
    let views = c.as_slice.ensures ∙ ap (λ l. l.views) c.self.view_is in
    let name : List ℕ = c.in-DropValue.name in
    let user : List View → Bool = λ (vs : List View). is_some (find (λ (v : View). has_name name v.values) vs) in
    let goes : List ValueColumn → Bool = λ (vs : List ValueColumn). has_name name (map (λ (col : ValueColumn). col.name) vs) && not (length vs == 1) in
    ap not (c.is_used.ensures ∙ ap user views) ∙ ap (λ t. t && not (user c.args.self.now.views)) (c.if-may_go.ensures ∙ ap goes columns)
    ∙ sym (drop_allowed c.args.self.now name) ∙ ap (λ change. is_ok (rule_checked c.args.self.now change)) (sym c.in-DropValue.is)
