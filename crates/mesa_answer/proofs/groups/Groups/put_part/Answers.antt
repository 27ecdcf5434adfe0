use Rattle.std.proofs.Common.{◌≡◌, ◌∙◌, ◌∷◌, [], ℕ, List, length, ap, sym, subst, true, false}
use Rattle.mesa_value.specs.declared.Agg.{Agg}
use Rattle.mesa_model.specs.mesa_columns.declared.rows.Row.{Row}
use Rattle.mesa_model.specs.mesa_columns.Columns.{aggs_of, chosen}
use Rattle.mesa_model.specs.mesa_fold.Folded.{regrouped}
use Rattle.mesa_model.specs.mesa_fold.Laws.{AreFull}
use Rattle.mesa_model.specs.mesa_columns.Lent.{lent}
use Rattle.mesa_model.specs.mesa_columns.Rows.{IsRowOf}
use Rattle.mesa_answer.specs.Gathered.{wanted_of}
use Rattle.mesa_answer.specs.Held.{is_behind}
use Rattle.mesa_answer.specs.Sums.{SumLeaves}
use Rattle.mesa_answer.proofs.Bounds.{full_regrouped}
use Rattle.mesa_answer.proofs.Putting.{IsPutIn, held_with, none_leaves, sum_leaves}
use Rattle.mesa_answer.proofs.Steps.{all_more, first_full, first_groups-before}
use Rattle.mesa_answer.proofs.groups.Groups.put_part.Goals as goal

pub returns-then-not-is_behind-clause-put : goal.returns-then-not-is_behind-clause-put
returns-then-not-is_behind-clause-put c = λ given put.
    let g = c.args.self.now in
    let row : Row = lent c.args.row in
    let before : is_behind (wanted_of g).inclusive (wanted_of g).resume (regrouped g.schema.now g.columns.now g.values.now row).key ≡ false =
    ap (λ (r : Row). is_behind (wanted_of g).inclusive (wanted_of g).resume r.key) (sym c.requires.part) ∙ sym c.is_behind.ensures ∙ c.if-not-is_behind.true in
    record {
      columns = put.columns;
      values = put.values;
      form = all_more (IsRowOf g.schema.now) given row put.form c.requires.form;
      kinds = put.kinds;
      window = put.window;
      aggs = put.aggs;
      held = put.held ∙ sym (first_groups-before (wanted_of g) given row before);
    }

pub put-requires-clause-full : goal.put-requires-clause-full
put-requires-clause-full c =
    let g = c.args.self.now in
    let given = c.requires.gathering.0 in
    let put = c.requires.gathering.1 in
    let aggs : c.deref.result.now ≡ chosen g.values.now (aggs_of g.schema.now) = c.deref.ensures.value ∙ put.aggs in
    subst (λ (gs : List Agg). AreFull gs g.held) (sym aggs) (subst (AreFull (chosen g.values.now (aggs_of g.schema.now))) (sym put.held) (first_full (wanted_of g) given put.form))

pub put-requires-clause-row_full : goal.put-requires-clause-row_full
put-requires-clause-row_full c =
    let g = c.args.self.now in
    let row : Row = lent c.args.row in
    let put = c.requires.gathering.1 in
    let aggs : c.deref.result.now ≡ chosen g.values.now (aggs_of g.schema.now) = c.deref.ensures.value ∙ put.aggs in
    let full = full_regrouped g.schema.now g.columns.now g.values.now (row ∷ []) (c.requires.form, tt) in
    ap (λ (r : Row). length r.values) c.requires.part ∙ full.0 ∙ sym (ap length aggs)

pub returns-clause-put : goal.returns-clause-put
returns-clause-put c = λ given put.
    let g = c.args.self.now in
    let row : Row = lent c.args.row in
    let part : Row = lent c.args.part in
    let its : IsPutIn (wanted_of g) given row part c.deref.result.now g.held = record { its_part = c.requires.part; its_aggs = c.deref.ensures.value ∙ put.aggs; firsts = put.held } in
    let behind : is_behind g.inclusive (wanted_of g).resume part.key ≡ true = sym c.is_behind.ensures ∙ c.if-not-is_behind.false in
    record {
      columns = put.columns;
      values = put.values;
      form = all_more (IsRowOf g.schema.now) given row put.form c.requires.form;
      kinds = put.kinds;
      window = put.window;
      aggs = put.aggs;
      held = held_with (wanted_of g) given row part c.deref.result.now g.held c.put.new.self its behind c.in_default.ensures.put;
    }

pub returns-in-Err-clause-cause : goal.returns-in-Err-clause-cause
returns-in-Err-clause-cause c = λ is given put keeps.
    let g = c.args.self.now in
    let row : Row = lent c.args.row in
    let part : Row = lent c.args.part in
    let its : IsPutIn (wanted_of g) given row part c.deref.result.now g.held = record { its_part = c.requires.part; its_aggs = c.deref.ensures.value ∙ put.aggs; firsts = put.held } in
    none_leaves (wanted_of g) given row part c.deref.result.now g.held its (c.in-Err.ensures.cause is) put.values put.form c.requires.form keeps

pub returns-in-Err-clause-sum : goal.returns-in-Err-clause-sum
returns-in-Err-clause-sum c = λ is given put.
    let g = c.args.self.now in
    let row : Row = lent c.args.row in
    let part : Row = lent c.args.part in
    let its : IsPutIn (wanted_of g) given row part c.deref.result.now g.held = record { its_part = c.requires.part; its_aggs = c.deref.ensures.value ∙ put.aggs; firsts = put.held } in
    subst (λ (key : List ℕ). SumLeaves (wanted_of g) given row key) (sym (ap (λ (r : Row). r.key) c.in_ok-hold.ensures)) (sum_leaves (wanted_of g) given row part c.deref.result.now g.held its (c.in-Err.ensures.cause is))
