use Rattle.std.proofs.Common.{◌≡◌, ◌∙◌, List, ap, subst, sym, take}
use Rattle.mesa_value.specs.declared.Agg.{Agg}
use Rattle.mesa_model.specs.mesa_columns.Columns.{Columns, aggs_of, chosen}
use Rattle.mesa_model.specs.mesa_fold.Laws.{AreFull}
use Rattle.mesa_model.specs.mesa_fold.Put.{put_rows}
use Rattle.mesa_model.specs.mesa_columns.Rows.{AreRowsOf}
use Rattle.mesa_answer.specs.Gathered.{wanted_of}
use Rattle.mesa_answer.specs.Gathering.{Wanted, first_groups}
use Rattle.mesa_answer.proofs.Joined.{forms_append, joins_first}
use Rattle.mesa_answer.proofs.Results.{on_ok}
use Rattle.mesa_answer.proofs.Steps.{first_full}
use Rattle.mesa_answer.proofs.groups.Groups.join.Goals as goal

pub put_all-requires-clause-full : goal.put_all-requires-clause-full
put_all-requires-clause-full c =
    let g = c.args.self.now in
    let given = c.requires.gathering.0 in
    let put = c.requires.gathering.1 in
    let aggs : c.deref.result.now ≡ chosen g.values.now (aggs_of g.schema.now) = c.deref.ensures.value ∙ put.aggs in
    subst (λ (gs : List Agg). AreFull gs g.held) (sym aggs) (subst (AreFull (chosen g.values.now (aggs_of g.schema.now))) (sym put.held) (first_full (wanted_of g) given put.form))

pub put_all-requires-clause-rows_full : goal.put_all-requires-clause-rows_full
put_all-requires-clause-rows_full c =
    let g = c.args.self.now in
    let more = c.requires.newer.0 in
    let put = c.requires.newer.1 in
    let aggs : c.deref.result.now ≡ chosen g.values.now (aggs_of g.schema.now) = c.deref.ensures.value ∙ c.requires.gathering.1.aggs in
    let rows : c.as_slice.result.now ≡ first_groups (wanted_of c.args.newer) more = c.as_slice.ensures ∙ c.in_ok-rows.ensures.rows more put in
    let own : AreFull (chosen (wanted_of c.args.newer).values (aggs_of (wanted_of c.args.newer).schema)) (first_groups (wanted_of c.args.newer) more) = first_full (wanted_of c.args.newer) more put.form in
    let here : AreFull (chosen g.values.now (aggs_of g.schema.now)) (first_groups (wanted_of c.args.newer) more) =
    subst (λ (w : Wanted). AreFull (chosen w.values (aggs_of w.schema)) (first_groups (wanted_of c.args.newer) more)) c.requires.same own in
    subst (λ (gs : List Agg). AreFull gs c.as_slice.result.now) (sym aggs) (subst (AreFull (chosen g.values.now (aggs_of g.schema.now))) (sym rows) here)

pub returns-clause-put : goal.returns-clause-put
returns-clause-put c =
    let g = c.args.self.now in
    on_ok c.put_all.result _ _ (λ held given more put newer.
    let aggs : c.deref.result.now ≡ chosen g.values.now (aggs_of g.schema.now) = c.deref.ensures.value ∙ put.aggs in
    let rows : c.as_slice.result.now ≡ first_groups (wanted_of g) more = c.as_slice.ensures ∙ c.in_ok-rows.ensures.rows more newer ∙ ap (λ (w : Wanted). first_groups w more) c.requires.same in
    let form : AreRowsOf g.schema.now more = subst (λ (s : Columns). AreRowsOf s more) (ap (λ (w : Wanted). w.schema) c.requires.same) newer.form in
    record {
      columns = put.columns;
      values = put.values;
      form = forms_append g.schema.now given more put.form form;
      kinds = put.kinds;
      window = put.window;
      aggs = put.aggs;
      held = held ∙ (λ i. take g.most (put_rows (aggs i) (put.held i) (rows i))) ∙ sym (joins_first (wanted_of g) given more);
    }) c.put_all.ensures.put
