use Rattle.std.proofs.Common.{◌≡◌, ◌<◌, ℕ, List, [], ◌∷◌, ◌++◌, length, refl, sym, ◌∙◌, ap, subst, arith}
use Rattle.std.specs.Prelude.{IsTrue}
use Rattle.std.specs.List.{AllByRecursion}
use Rattle.mesa_compact.specs.mesa_columns.declared.rows.Row.{Row}
use Rattle.mesa_schema.specs.Changes.{columns_of}
use Rattle.mesa_compact.specs.mesa_columns.Columns.{Columns}
use Rattle.mesa_open_files.specs.mesa_fold.Folded.{grouped}
use Rattle.mesa_schema.specs.Recasts.{Recast, recast_columns, recast_rows}
use Rattle.mesa_batch.specs.Totals.{abs_totals}
use Rattle.mesa_filter.specs.Query.{are_places}
use Rattle.mesa_delta.specs.declared.input.Input.{Input}
use Rattle.mesa_compact.specs.mesa_merge.Inputs.{AreInputs, knowns_of}
use Rattle.mesa_open_files.specs.Inputs.{IsMergeOf}
use Rattle.mesa_open_files.specs.Made.{Content, IsMadeFile}
use Rattle.mesa_open_files.specs.Recasts.{recast_content}
use Rattle.mesa_compact.specs.mesa_scan.Cursors.{IsInput}
use Rattle.mesa_compact.specs.Bounded.{AreBounded}
use Rattle.mesa_compact.proofs.Causing.{caused_memory}
use Rattle.mesa_compact.proofs.Viewing.{mergeable}
use Rattle.mesa_compact.proofs.Whole.{if_err_map, if_ok_map}
use Rattle.mesa_copy.specs.Renewals.{IsRenewal, columns_in}
use Rattle.mesa_copy.proofs.Lending.{caused_here, content_is, one_popped, renewed_is}
use Rattle.mesa_copy.proofs.range.rewrite_input.Goals as goal

pub returns-in_default-clause-causes : goal.returns-in_default-clause-causes
returns-in_default-clause-causes g c = caused_memory _ _ _ _ _ refl refl

pub regroup_range-back-requires-clause-some : goal.regroup_range-back-requires-clause-some
regroup_range-back-requires-clause-some g c = λ _ _.
    let items : c.push_reserved.new.self.items ≡ c.args.input ∷ [] = c.push_reserved.ensures.items ∙ ap (λ xs. xs ++ c.args.input ∷ []) c.in-Ok.ensures.items in
    subst (λ xs. 0 < length xs) (sym items) (omega arith)

pub regroup_range-back-requires-clause-inputs : goal.regroup_range-back-requires-clause-inputs
regroup_range-back-requires-clause-inputs g c = λ _ _.
    let read = g.R.FileReader.bytes in
    let s : Columns = columns_in c.args.renewal.now in
    let items : c.push_reserved.new.self.items ≡ c.args.input ∷ [] = c.push_reserved.ensures.items ∙ ap (λ xs. xs ++ c.args.input ∷ []) c.in-Ok.ensures.items in
    let present : c.present.result.now ≡ s = c.present.ensures.columns ∙ ap columns_of c.deref.ensures in
    let one = mergeable read s (c.args.input ∷ []) ((c.requires.input, c.requires.table), tt) in
    subst (λ (t : Columns). AreInputs read t c.push_reserved.new.self.items) (sym present) (subst (λ (is : List (Input g.row.R.Denot)). AreInputs read s is) (sym items) one)

pub regroup_range-back-requires-clause-columns_there : goal.regroup_range-back-requires-clause-columns_there
regroup_range-back-requires-clause-columns_there g c = λ _ _.
    let s : Columns = columns_in c.args.renewal.now in
    let present : c.present.result.now ≡ s = c.present.ensures.columns ∙ ap columns_of c.deref.ensures in
    subst (λ (t : Columns). IsTrue (are_places t.keys c.deref-2.result.now)) (sym present) (subst (λ (ps : List ℕ). IsTrue (are_places s.keys ps)) (sym c.deref-2.ensures.value) c.requires.renewal.1.columns_there)

pub regroup_range-back-requires-clause-values_there : goal.regroup_range-back-requires-clause-values_there
regroup_range-back-requires-clause-values_there g c = λ _ _.
    let s : Columns = columns_in c.args.renewal.now in
    let present : c.present.result.now ≡ s = c.present.ensures.columns ∙ ap columns_of c.deref.ensures in
    subst (λ (t : Columns). IsTrue (are_places t.values c.deref-3.result.now)) (sym present) (subst (λ (ps : List ℕ). IsTrue (are_places s.values ps)) (sym c.deref-3.ensures.value) c.requires.renewal.1.values_there)

pub regroup_range-back-requires-clause-renewed : goal.regroup_range-back-requires-clause-renewed
regroup_range-back-requires-clause-renewed g c = λ _ _.
    let present : c.present.result.now ≡ columns_in c.args.renewal.now = c.present.ensures.columns ∙ ap columns_of c.deref.ensures in
    renewed_is c.requires.renewal.0 c.args.renewal.now c.present.result.now c.present-2.result.now c.deref-2.result.now c.deref-3.result.now c.requires.renewal.1 present c.present-2.ensures.columns c.deref-2.ensures.value c.deref-3.ensures.value

pub returns-clause-known : goal.returns-clause-known
returns-clause-known g c =
    let read = g.R.FileReader.bytes in
    let items : c.push_reserved.new.self.items ≡ c.args.input ∷ [] = c.push_reserved.ensures.items ∙ ap (λ xs. xs ++ c.args.input ∷ []) c.in-Ok.ensures.items in
    (one_popped read c.regroup_range-back.result.0.items c.pop.new.self.items c.in-Some.input c.args.input c.in-Some.ensures.items (c.regroup_range-back.ensures.known ∙ ap (knowns_of read) items)).1

pub destroy_empty-requires : goal.destroy_empty-requires
destroy_empty-requires g c =
    let read = g.R.FileReader.bytes in
    let items : c.push_reserved.new.self.items ≡ c.args.input ∷ [] = c.push_reserved.ensures.items ∙ ap (λ xs. xs ++ c.args.input ∷ []) c.in-Ok.ensures.items in
    let none = (one_popped read c.regroup_range-back.result.0.items c.pop.new.self.items c.in-Some.input c.args.input c.in-Some.ensures.items (c.regroup_range-back.ensures.known ∙ ap (knowns_of read) items)).0 in
    c.pop.new.self.ok.0 ∙ ap length none

pub returns-clause-kept : goal.returns-clause-kept
returns-clause-kept g c =
    let read = g.R.FileReader.bytes in
    let items : c.push_reserved.new.self.items ≡ c.args.input ∷ [] = c.push_reserved.ensures.items ∙ ap (λ xs. xs ++ c.args.input ∷ []) c.in-Ok.ensures.items in
    let none = (one_popped read c.regroup_range-back.result.0.items c.pop.new.self.items c.in-Some.input c.args.input c.in-Some.ensures.items (c.regroup_range-back.ensures.known ∙ ap (knowns_of read) items)).0 in
    let back : c.regroup_range-back.result.0.items ≡ c.in-Some.input ∷ [] = c.in-Some.ensures.items ∙ ap (λ xs. xs ++ c.in-Some.input ∷ []) none in
    (subst (AllByRecursion (IsInput read)) back c.regroup_range-back.ensures.kept).0

pub returns-clause-made : goal.returns-clause-made
returns-clause-made g c =
    let bytes = g.M.Made.bytes in
    let id_of = g.M.Made.id_of in
    let read = g.R.FileReader.bytes in
    let x = c.args.renewal.now in
    let s : Columns = columns_in x in
    let now : Columns = c.present.result.now in
    let later : Columns = c.present-2.result.now in
    let columns = c.deref-2.result.now in
    let values = c.deref-3.result.now in
    let items : c.push_reserved.new.self.items ≡ c.args.input ∷ [] = c.push_reserved.ensures.items ∙ ap (λ xs. xs ++ c.args.input ∷ []) c.in-Ok.ensures.items in
    let present : now ≡ s = c.present.ensures.columns ∙ ap columns_of c.deref.ensures in
    if_ok_map c.regroup_range-back.result.1
    (λ made. (rows : List Row) × IsMergeOf read now c.push_reserved.new.self.items rows × IsMadeFile bytes id_of (record { columns = later; rows = grouped now columns values rows }) made.0 × (made.1 ≡ abs_totals later (grouped now columns values rows)))
    (λ made. (r : Recast) → IsRenewal r x → (rows : List Row) × IsMergeOf read s (c.args.input ∷ []) rows × IsMadeFile bytes id_of (recast_content s r rows) made.0 × (made.1 ≡ abs_totals (recast_columns s r) (recast_rows s r rows)))
    (λ made has r is.
    let same = content_is r x now later columns values has.0 is present c.present-2.ensures.columns c.deref-2.ensures.value c.deref-3.ensures.value in
    let merge = subst (λ (t : Columns). IsMergeOf read t (c.args.input ∷ []) has.0) present (subst (λ (is : List (Input g.row.R.Denot)). IsMergeOf read now is has.0) items has.1) in
    (has.0, merge, subst (λ (k : Content). IsMadeFile bytes id_of k made.0) same has.2, has.3 ∙ ap (λ (k : Content). abs_totals k.columns k.rows) same))
    c.regroup_range-back.ensures.made

pub returns-clause-causes : goal.returns-clause-causes
returns-clause-causes g c =
    let read = g.R.FileReader.bytes in
    let x = c.args.renewal.now in
    let items : c.push_reserved.new.self.items ≡ c.args.input ∷ [] = c.push_reserved.ensures.items ∙ ap (λ xs. xs ++ c.args.input ∷ []) c.in-Ok.ensures.items in
    let none = (one_popped read c.regroup_range-back.result.0.items c.pop.new.self.items c.in-Some.input c.args.input c.in-Some.ensures.items (c.regroup_range-back.ensures.known ∙ ap (knowns_of read) items)).0 in
    let back : c.regroup_range-back.result.0.items ≡ c.in-Some.input ∷ [] = c.in-Some.ensures.items ∙ ap (λ xs. xs ++ c.in-Some.input ∷ []) none in
    let present : c.present.result.now ≡ columns_in x = c.present.ensures.columns ∙ ap columns_of c.deref.ensures in
    caused_here g.R.FileReader.faults read g.R.FileReader.size _ _ c.push_reserved.new.self.items (c.args.input ∷ []) c.regroup_range-back.result.0.items (c.in-Some.input ∷ []) c.present.result.now (columns_in x) c.deref-2.result.now x.columns.items c.deref-3.result.now x.values.items c.regroup_range-back.result.1
    items back present c.deref-2.ensures.value c.deref-3.ensures.value c.regroup_range-back.ensures.causes

pub returns-clause-accepts : goal.returns-clause-accepts
returns-clause-accepts g c =
    let read = g.R.FileReader.bytes in
    let s : Columns = columns_in c.args.renewal.now in
    let items : c.push_reserved.new.self.items ≡ c.args.input ∷ [] = c.push_reserved.ensures.items ∙ ap (λ xs. xs ++ c.args.input ∷ []) c.in-Ok.ensures.items in
    let present : c.present.result.now ≡ s = c.present.ensures.columns ∙ ap columns_of c.deref.ensures in
    if_err_map c.regroup_range-back.result.1 _ _ (λ e no d is b.
    no d is (subst (λ (t : Columns). AreBounded t (knowns_of read c.push_reserved.new.self.items)) (sym present) (subst (λ (is : List (Input g.row.R.Denot)). AreBounded s (knowns_of read is)) (sym items) b))) c.regroup_range-back.ensures.accepts
