use Rattle.std.proofs.Common.{◌≡◌, ◌∙◌, ◌^◌, ◌-◌, ◌<◌, ℕ, List, [], None, false, ap, arith, length, subst, sym}
use Rattle.mesa_open_files.specs.mesa_columns.declared.rows.Row.{Row}
use Rattle.mesa_open_files.specs.mesa_columns.declared.views.View.{View}
use Rattle.mesa_schema.specs.Changes.{columns_of}
use Rattle.mesa_open_files.specs.mesa_columns.Columns.{Columns}
use Rattle.mesa_open_files.specs.mesa_columns.Rows.{AreRowsOf}
use Rattle.mesa_schema.specs.Views.{view_columns, view_key_places, view_rows, view_value_places}
use Rattle.mesa_answer.proofs.mesa_fold.GroupKeys.{groups_form}
use Rattle.mesa_batch.specs.Gathered.{rows_at}
use Rattle.mesa_answer.specs.Answering.{KeepsSums}
use Rattle.mesa_answer.specs.Gathered.{wanted_of}
use Rattle.mesa_answer.specs.Gathering.{Wanted, first_groups}
use Rattle.mesa_answer.specs.Regrouping.{PlacesSeen, places_seen}
use Rattle.mesa_answer.proofs.Bounds.{sums_grouped}
use Rattle.mesa_answer.proofs.Results.{if_both}
use Rattle.mesa_answer.proofs.Steps.{all_groups}
use Rattle.mesa_answer.proofs.ViewColumns.{IsSeen, seen_rows}
use Rattle.mesa_load.proofs.Places.{if_some, index_at, splits_at}
use Rattle.mesa_load.proofs.viewing.viewed.Goals as goal

-- all groups of rows, by a view's places, are its content
shown : (s : Columns) (v : View) (seen : Columns) (columns values : List ℕ) → IsSeen s v seen columns values → (w : Wanted) (rows found : List Row) → w ≡ record { schema = seen; columns = columns; values = values; resume = None; inclusive = false; most = 2 ^ 64 - 1 } → found ≡ first_groups w rows → length found < 2 ^ 63
    → found ≡ view_rows s v rows
shown s v seen columns values is w rows found wanted first few = seen_rows s v seen columns values is rows found (all_groups seen columns values (2 ^ 64 - 1) w rows found wanted first (omega (arith, few)))

pub put_rows-requires-clause-form : goal.put_rows-requires-clause-form
put_rows-requires-clause-form c =
    let rows = rows_at c.args.table c.args.batch.now in
    let form : AreRowsOf c.present.result.now rows = subst (λ (s : Columns). AreRowsOf s rows) (sym c.present.ensures.columns) c.requires.of_table in
    subst (λ (w : Wanted). AreRowsOf w.schema rows) (sym c.in_ok-groups.ensures.wanted) form

pub put_rows-requires-clause-bounded : goal.put_rows-requires-clause-bounded
put_rows-requires-clause-bounded c =
    let rows = rows_at c.args.table c.args.batch.now in
    let keeps : KeepsSums c.present.result.now rows = subst (λ (s : Columns). KeepsSums s rows) (sym c.present.ensures.columns) c.requires.bounded in
    subst (λ (w : Wanted). KeepsSums w.schema rows) (sym c.in_ok-groups.ensures.wanted) keeps

pub returns-clause-content : goal.returns-clause-content
returns-clause-content c =
    let s = splits_at c.args.view c.args.evolving.now.views c.requires.there in
    let l = columns_of c.args.evolving.now in
    let rows = rows_at c.args.table c.args.batch.now in
    let is : c.in_ok-seen.seen ≡ places_seen l s.x = if_some (λ (v : View). c.in_ok-seen.seen ≡ places_seen l v) _ s.x s.at c.in_ok-seen.ensures.seen in
    let seen : IsSeen l s.x c.present.result.now c.columns.result.now c.values.result.now = record { of_schema = c.present.ensures.columns; key_places = c.columns.ensures ∙ ap (λ (p : PlacesSeen). p.columns) is; value_places = c.values.ensures ∙ ap (λ (p : PlacesSeen). p.values) is } in
    let wanted = c.in_ok-put_rows.ensures.wanted ∙ c.in_ok-groups.ensures.wanted in
    let view = sym (index_at c.args.evolving.now.views c.args.view (record { name = []; keys = []; values = [] }) s.x s.at) in
    if_both c.into_rows.result _ _ _ (λ found first few.
    let same : found ≡ view_rows l s.x rows = shown l s.x c.present.result.now c.columns.result.now c.values.result.now seen (wanted_of c.put_rows.new.groups) rows found wanted (first rows c.in_ok-put_rows.ensures.put) few in
    subst (λ (v : View). found ≡ view_rows l v rows) view same) c.into_rows.ensures.rows c.into_rows.ensures.few

pub returns-clause-form : goal.returns-clause-form
returns-clause-form c =
    let s = splits_at c.args.view c.args.evolving.now.views c.requires.there in
    let l = columns_of c.args.evolving.now in
    let rows = rows_at c.args.table c.args.batch.now in
    let is : c.in_ok-seen.seen ≡ places_seen l s.x = if_some (λ (v : View). c.in_ok-seen.seen ≡ places_seen l v) _ s.x s.at c.in_ok-seen.ensures.seen in
    let seen : IsSeen l s.x c.present.result.now c.columns.result.now c.values.result.now = record { of_schema = c.present.ensures.columns; key_places = c.columns.ensures ∙ ap (λ (p : PlacesSeen). p.columns) is; value_places = c.values.ensures ∙ ap (λ (p : PlacesSeen). p.values) is } in
    let wanted = c.in_ok-put_rows.ensures.wanted ∙ c.in_ok-groups.ensures.wanted in
    let view = sym (index_at c.args.evolving.now.views c.args.view (record { name = []; keys = []; values = [] }) s.x s.at) in
    if_both c.into_rows.result _ _ _ (λ found first few.
    let same : found ≡ view_rows l s.x rows = shown l s.x c.present.result.now c.columns.result.now c.values.result.now seen (wanted_of c.put_rows.new.groups) rows found wanted (first rows c.in_ok-put_rows.ensures.put) few in
    subst (λ (v : View). AreRowsOf (view_columns l v) found) view (subst (AreRowsOf (view_columns l s.x)) (sym same) (groups_form l (view_key_places l s.x) (view_value_places l s.x) rows c.requires.of_table))) c.into_rows.ensures.rows c.into_rows.ensures.few

pub returns-clause-bounded : goal.returns-clause-bounded
returns-clause-bounded c =
    let s = splits_at c.args.view c.args.evolving.now.views c.requires.there in
    let l = columns_of c.args.evolving.now in
    let rows = rows_at c.args.table c.args.batch.now in
    let is : c.in_ok-seen.seen ≡ places_seen l s.x = if_some (λ (v : View). c.in_ok-seen.seen ≡ places_seen l v) _ s.x s.at c.in_ok-seen.ensures.seen in
    let seen : IsSeen l s.x c.present.result.now c.columns.result.now c.values.result.now = record { of_schema = c.present.ensures.columns; key_places = c.columns.ensures ∙ ap (λ (p : PlacesSeen). p.columns) is; value_places = c.values.ensures ∙ ap (λ (p : PlacesSeen). p.values) is } in
    let there = rw is at c.in_ok-seen.ensures.values_there in
    let wanted = c.in_ok-put_rows.ensures.wanted ∙ c.in_ok-groups.ensures.wanted in
    let view = sym (index_at c.args.evolving.now.views c.args.view (record { name = []; keys = []; values = [] }) s.x s.at) in
    if_both c.into_rows.result _ _ _ (λ found first few.
    let same : found ≡ view_rows l s.x rows = shown l s.x c.present.result.now c.columns.result.now c.values.result.now seen (wanted_of c.put_rows.new.groups) rows found wanted (first rows c.in_ok-put_rows.ensures.put) few in
    subst (λ (v : View). KeepsSums (view_columns l v) found) view (subst (KeepsSums (view_columns l s.x)) (sym same) (sums_grouped l (view_key_places l s.x) (view_value_places l s.x) rows there c.requires.of_table c.requires.bounded))) c.into_rows.ensures.rows c.into_rows.ensures.few
