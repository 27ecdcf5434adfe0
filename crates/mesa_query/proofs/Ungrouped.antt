-- Rows of a table fold under a view's keys as their groups do.
use Rattle.std.proofs.Common.{◌≡◌, ℕ, List, [], ◌∷◌, ◌++◌, Bool, true, false, refl, sym, ◌∙◌, ap, subst, append_assoc, Option, Some, None}
use Rattle.mesa_model.specs.mesa_value.declared.Agg.{Agg}
use Rattle.mesa_group_blocks.specs.mesa_columns.declared.columns.ValueColumn.{ValueColumn}
use Rattle.mesa_group_blocks.specs.mesa_columns.declared.rows.Row.{Row}
use Rattle.mesa_group_blocks.specs.mesa_columns.declared.views.View.{View}
use Rattle.mesa_group_blocks.specs.mesa_schema.Changes.{Lineage, columns_of}
use Rattle.mesa_group_blocks.specs.mesa_columns.Columns.{Columns, aggs_of, chosen}
use Rattle.mesa_group_blocks.specs.mesa_fold.Folded.{folded}
use Rattle.mesa_group_blocks.specs.mesa_schema.Views.{view_columns, view_rows, view_value_places}
use Rattle.mesa_group_blocks.proofs.mesa_fold.Refolds.{refolded}
use Rattle.mesa_group_blocks.proofs.mesa_answer.Picked.{chosen-map}
use Rattle.std.specs.List.{AllByRecursion}
use Rattle.mesa_group_blocks.specs.mesa_open_files.Inputs.{lifted_in, lineage_of}
use Rattle.mesa_group_blocks.specs.mesa_open_files.Pins.{HasViewOf, IsOfRelation, IsPinnedInput, derived, relation_rows, view_at}
use Rattle.mesa_group_blocks.specs.mesa_open_files.declared.querying.PinnedInput.{PinnedInput}
use Rattle.mesa_query.specs.Laws.{FoldsUngrouped}
use Rattle.mesa_group_blocks.specs.Ungrouped.{parts_ungrouped, rows_ungrouped, rows_under, under_some, under_view}
use Rattle.mesa_query.specs.Relation.{parts_pinned}

-- THE LAW OF DERIVED VIEWS.
pub ungrouped : FoldsUngrouped
ungrouped table v before rows after =
    let aggs : List Agg = aggs_of (view_columns table v) in
    let same : aggs ≡ chosen (view_value_places table v) (aggs_of table) = chosen-map (λ (c : ValueColumn). c.agg) (view_value_places table v) table.values in
    let part : view_rows table v rows ≡ folded aggs (under_view table v rows ∷ []) = ap (λ (gs : List Agg). folded gs (under_view table v rows ∷ [])) (sym same) in
    ap (λ (rs : List Row). folded aggs (before ++ rs ∷ after)) part ∙ refolded aggs before (under_view table v rows ∷ []) after
    ∙ ap (folded aggs) (append_assoc before (under_view table v rows ∷ []) after)

-- one file's rows, wherever they stand
some_ungrouped : (s table : Columns) (o : Option View) (before : List (List Row)) (rows : List Row) (after : List (List Row)) → HasViewOf s table o
    → folded (aggs_of s) (before ++ derived table rows o ∷ after) ≡ folded (aggs_of s) (before ++ under_some table rows o ∷ after)
some_ungrouped s table None before rows after h = absurd h
some_ungrouped s table (Some v) before rows after h =
    subst (λ (t : Columns). folded (aggs_of t) (before ++ view_rows table v rows ∷ after) ≡ folded (aggs_of t) (before ++ under_view table v rows ∷ after)) h (ungrouped table v before rows after)

one_ungrouped : (s : Columns) (view : Option ℕ) (l : Lineage) (own : Bool) (before : List (List Row)) (rows : List Row) (after : List (List Row)) → IsOfRelation s view l own
    → folded (aggs_of s) (before ++ relation_rows view l rows own ∷ after) ≡ folded (aggs_of s) (before ++ rows_under view l rows own ∷ after)
one_ungrouped s view l true before rows after h = refl
one_ungrouped s view l false before rows after h = some_ungrouped s (columns_of l) (view_at l view) before rows after h

all_ungrouped : {R : Type 0} (bytes : R → Option (List ℕ)) (s : Columns) (view : Option ℕ) (inputs : List (PinnedInput R)) (before parts : List (List Row)) → AllByRecursion (IsPinnedInput bytes s view) inputs
    → folded (aggs_of s) (before ++ parts_pinned view inputs parts) ≡ folded (aggs_of s) (before ++ parts_ungrouped view inputs parts)
all_ungrouped bytes s view [] before parts all = refl
all_ungrouped bytes s view (i ∷ inputs) before [] all = refl
all_ungrouped bytes s view (i ∷ inputs) before (rows ∷ parts) all =
    let own : List Row = rows_ungrouped view i rows in
    one_ungrouped s view (lineage_of i.input) i.own before (lifted_in i.input rows) (parts_pinned view inputs parts) all.0.relation
    ∙ ap (folded (aggs_of s)) (sym (append_assoc before (own ∷ []) (parts_pinned view inputs parts)))
    ∙ all_ungrouped bytes s view inputs (before ++ own ∷ []) parts all.1
    ∙ ap (folded (aggs_of s)) (append_assoc before (own ∷ []) (parts_ungrouped view inputs parts))

-- The fold of the relation's rows is that of the rows under its keys.
pub pinned_ungrouped : {R : Type 0} (bytes : R → Option (List ℕ)) (s : Columns) (view : Option ℕ) (inputs : List (PinnedInput R)) (parts : List (List Row)) → AllByRecursion (IsPinnedInput bytes s view) inputs
    → folded (aggs_of s) (parts_pinned view inputs parts) ≡ folded (aggs_of s) (parts_ungrouped view inputs parts)
pinned_ungrouped bytes s view inputs parts all = all_ungrouped bytes s view inputs [] parts all
