use Rattle.std.proofs.Common.{◌≡◌, ◌∙◌, ◌∷◌, [], ℕ, List, length, ap, sym, subst, true, false}
use Rattle.std.specs.List.{concat}
use Rattle.mesa_value.specs.declared.Agg.{Agg}
use Rattle.mesa_key.specs.Spelling.{columns_of}
use Rattle.mesa_model.specs.mesa_columns.declared.rows.Row.{Row}
use Rattle.mesa_model.specs.mesa_columns.Columns.{aggs_of, chosen}
use Rattle.mesa_model.specs.mesa_fold.Folded.{regrouped}
use Rattle.mesa_model.specs.mesa_fold.Laws.{AreFull}
use Rattle.mesa_model.specs.mesa_columns.Lent.{lent}
use Rattle.mesa_model.specs.mesa_columns.Rows.{IsRowOf}
use Rattle.mesa_answer.specs.Gathered.{wanted_of}
use Rattle.mesa_answer.specs.Held.{is_behind}
use Rattle.mesa_answer.specs.Sums.{SumLeaves}
use Rattle.mesa_answer.proofs.Bounds.{full_regrouped}
use Rattle.mesa_answer.proofs.Forms.{row_spells}
use Rattle.mesa_answer.proofs.Putting.{IsPutIn, held_with, none_leaves, sum_leaves}
use Rattle.mesa_answer.proofs.Results.{if_err, on_ok}
use Rattle.mesa_answer.proofs.Steps.{all_more, first_full, first_groups-before}
use Rattle.mesa_answer.proofs.groups.Groups.put_taken.Goals as goal

pub take-requires : goal.take-requires
take-requires c =
    rw (c.deref.ensures.value, c.requires.gathering.1.kinds) (row_spells c.args.self.now.schema.now (lent c.args.row) c.requires.form)

pub returns-then-not-is_behind-clause-put : goal.returns-then-not-is_behind-clause-put
returns-then-not-is_behind-clause-put c = λ given put.
    let g = c.args.self.now in
    let row : Row = lent c.args.row in
    let kinds = c.deref.ensures.value ∙ put.kinds in
    let filled : c.take.new.self ≡ regrouped g.schema.now g.columns.now g.values.now row = c.in_ok-take.ensures ∙ (λ i. record { key = concat (chosen g.columns.now (columns_of (kinds i) row.key)); values = chosen g.values.now row.values }) in
    let before : is_behind (wanted_of g).inclusive (wanted_of g).resume (regrouped g.schema.now g.columns.now g.values.now row).key ≡ false =
    ap (λ (r : Row). is_behind (wanted_of g).inclusive (wanted_of g).resume r.key) (sym filled) ∙ ap (is_behind (wanted_of g).inclusive (wanted_of g).resume) (sym c.key.ensures) ∙ sym c.is_behind.ensures ∙ c.if-not-is_behind.true in
    record {
      columns = put.columns;
      values = put.values;
      form = all_more (IsRowOf g.schema.now) given row put.form c.requires.form;
      kinds = put.kinds;
      window = put.window;
      aggs = put.aggs;
      held = put.held ∙ sym (first_groups-before (wanted_of g) given row before);
    }

pub put-requires-clause-full : goal.put-requires-clause-full
put-requires-clause-full c =
    let g = c.args.self.now in
    let given = c.requires.gathering.0 in
    let put = c.requires.gathering.1 in
    let aggs : c.deref-2.result.now ≡ chosen g.values.now (aggs_of g.schema.now) = c.deref-2.ensures.value ∙ put.aggs in
    subst (λ (gs : List Agg). AreFull gs g.held) (sym aggs) (subst (AreFull (chosen g.values.now (aggs_of g.schema.now))) (sym put.held) (first_full (wanted_of g) given put.form))

pub put-requires-clause-row_full : goal.put-requires-clause-row_full
put-requires-clause-row_full c =
    let g = c.args.self.now in
    let row : Row = lent c.args.row in
    let put = c.requires.gathering.1 in
    let aggs : c.deref-2.result.now ≡ chosen g.values.now (aggs_of g.schema.now) = c.deref-2.ensures.value ∙ put.aggs in
    let full = full_regrouped g.schema.now g.columns.now g.values.now (row ∷ []) (c.requires.form, tt) in
    ap length (c.values.ensures ∙ ap (λ (r : Row). r.values) c.in_ok-take.ensures) ∙ full.0 ∙ sym (ap length aggs)

pub returns-clause-put : goal.returns-clause-put
returns-clause-put c =
    let g = c.args.self.now in
    let row : Row = lent c.args.row in
    on_ok c.put.result _ _ (λ held given put.
    let kinds = c.deref.ensures.value ∙ put.kinds in
    let filled : c.take.new.self ≡ regrouped g.schema.now g.columns.now g.values.now row = c.in_ok-take.ensures ∙ (λ i. record { key = concat (chosen g.columns.now (columns_of (kinds i) row.key)); values = chosen g.values.now row.values }) in
    let part : Row = record { key = c.key-2.result.now; values = c.values.result.now } in
    let its : IsPutIn (wanted_of g) given row part c.deref-2.result.now g.held = record { its_part = (λ i. record { key = c.key-2.ensures i; values = c.values.ensures i }) ∙ filled; its_aggs = c.deref-2.ensures.value ∙ put.aggs; firsts = put.held } in
    let behind : is_behind g.inclusive (wanted_of g).resume part.key ≡ true = ap (is_behind g.inclusive (wanted_of g).resume) (c.key-2.ensures ∙ sym c.key.ensures) ∙ sym c.is_behind.ensures ∙ c.if-not-is_behind.false in
    record {
      columns = put.columns;
      values = put.values;
      form = all_more (IsRowOf g.schema.now) given row put.form c.requires.form;
      kinds = put.kinds;
      window = put.window;
      aggs = put.aggs;
      held = held_with (wanted_of g) given row part _ g.held _ its behind held;
    }) c.put.ensures.put

pub returns-clause-cause : goal.returns-clause-cause
returns-clause-cause c =
    let g = c.args.self.now in
    let row : Row = lent c.args.row in
    if_err c.put.result _ _ (λ e why is given put keeps.
    let kinds = c.deref.ensures.value ∙ put.kinds in
    let filled : c.take.new.self ≡ regrouped g.schema.now g.columns.now g.values.now row = c.in_ok-take.ensures ∙ (λ i. record { key = concat (chosen g.columns.now (columns_of (kinds i) row.key)); values = chosen g.values.now row.values }) in
    let part : Row = record { key = c.key-2.result.now; values = c.values.result.now } in
    let its : IsPutIn (wanted_of g) given row part c.deref-2.result.now g.held = record { its_part = (λ i. record { key = c.key-2.ensures i; values = c.values.ensures i }) ∙ filled; its_aggs = c.deref-2.ensures.value ∙ put.aggs; firsts = put.held } in
    none_leaves (wanted_of g) given row part c.deref-2.result.now g.held its (why is) put.values put.form c.requires.form keeps) c.put.ensures.cause

pub returns-clause-sum : goal.returns-clause-sum
returns-clause-sum c =
    let g = c.args.self.now in
    let row : Row = lent c.args.row in
    if_err c.put.result _ _ (λ e why is given put.
    let kinds = c.deref.ensures.value ∙ put.kinds in
    let filled : c.take.new.self ≡ regrouped g.schema.now g.columns.now g.values.now row = c.in_ok-take.ensures ∙ (λ i. record { key = concat (chosen g.columns.now (columns_of (kinds i) row.key)); values = chosen g.values.now row.values }) in
    let part : Row = record { key = c.key-2.result.now; values = c.values.result.now } in
    let its : IsPutIn (wanted_of g) given row part c.deref-2.result.now g.held = record { its_part = (λ i. record { key = c.key-2.ensures i; values = c.values.ensures i }) ∙ filled; its_aggs = c.deref-2.ensures.value ∙ put.aggs; firsts = put.held } in
    subst (λ (key : List ℕ). SumLeaves (wanted_of g) given row key) c.key-2.ensures (sum_leaves (wanted_of g) given row part c.deref-2.result.now g.held its (why is))) c.put.ensures.cause
