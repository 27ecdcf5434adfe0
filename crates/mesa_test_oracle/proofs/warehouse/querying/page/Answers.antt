use Rattle.std.proofs.Common.{◌≡◌, ◌∙◌, ◌<◌, ℕ, List, length, ap, subst, sym, Option, Some, Result, Ok, Err}
use Rattle.std.specs.Prelude.{IfOk, IfSome, option_and_then, slice_get}
use Rattle.mesa_oracle_tables.specs.mesa_columns.declared.rows.Row.{Row}
use Rattle.mesa_schema.specs.Changes.{columns_of}
use Rattle.mesa_oracle_tables.specs.mesa_columns.Rows.{AreRowsOf}
use Rattle.mesa_schema.specs.Views.{view_columns, view_rows}
use Rattle.mesa_answer.specs.Answering.{KeepsSums}
use Rattle.mesa_model.specs.declared.replies.Page.{Page}
use Rattle.mesa_model.specs.Page.{page_of}
use Rattle.mesa_model.specs.Query.{answer_rows}
use Rattle.mesa_model.specs.Relations.{Relation, relation_columns, relation_content}
use Rattle.mesa_model.specs.Warehouse.{Store, content_at, table_at}
use Rattle.mesa_oracle_tables.specs.declared.names.Place.{Place}
use Rattle.mesa_oracle_tables.specs.Found.{relation_seen}
use Rattle.mesa_test_oracle.proofs.Queries.{page_spells}
use Rattle.mesa_test_oracle.proofs.Viewed.{view_seen}
use Rattle.mesa_test_oracle.proofs.warehouse.querying.page.Goals as goal

-- a fact of the view's element, where it is there
at_some : {X : Type 0} (P : X → Type 0) (o : Option X) (x : X) → o ≡ Some x → IfSome o P → P x
at_some P o x is h = subst (λ o. IfSome o P) is h

-- what holds of the relation at a place with a view
at_view : (P : Relation → Type 0) (store : Store) (place : Place) (view : ℕ) → place.view ≡ Some view → P (record { number = place.table; table = table_at store place.table; view = slice_get (table_at store place.table).lineage.views view }) → P (relation_seen store place)
at_view P store place view is h = subst (λ (o : Option ℕ). P (record { number = place.table; table = table_at store place.table; view = option_and_then (slice_get (table_at store place.table).lineage.views) o })) (sym is) h

-- the page over the same rows
page_as : {E : Type 0} (result : Result Page E) (make : List Row → Page) (rows others : List Row) → rows ≡ others → IfOk result (λ page. page ≡ make rows) → IfOk result (λ page. page ≡ make others)
page_as (Ok page) make rows others same h = h ∙ ap make same
page_as (Err e) make rows others same h = tt

pub answer-requires-2-clause-of_schema : goal.answer-requires-2-clause-of_schema
answer-requires-2-clause-of_schema c =
    let store = c.args.store.now.store in
    let place = c.args.place in
    let t = table_at store place.table in
    let rows = c.in_ok-rows.rows in
    let P : Relation → Type 0 = λ r. AreRowsOf (relation_columns r) rows in
    let of = at_view P store place c.in-Some.view c.in-Some.is
    (view_seen P place.table t c.evolving.result.now c.in-Some.view c.evolving.ensures (rw c.evolving.ensures (at_some (λ view. view < length t.lineage.views) place.view c.in-Some.view c.in-Some.is c.requires.there.view))
    (λ v is. at_some (λ v. AreRowsOf (view_columns (columns_of c.evolving.result.now) v) rows) _ v is c.in_ok-rows.ensures.form)) in
    rw (c.requires.columns, c.as_slice.ensures) of

pub answer-requires-2-clause-bounded : goal.answer-requires-2-clause-bounded
answer-requires-2-clause-bounded c =
    let store = c.args.store.now.store in
    let place = c.args.place in
    let t = table_at store place.table in
    let rows = c.in_ok-rows.rows in
    let P : Relation → Type 0 = λ r. KeepsSums (relation_columns r) rows in
    let of = at_view P store place c.in-Some.view c.in-Some.is
    (view_seen P place.table t c.evolving.result.now c.in-Some.view c.evolving.ensures (rw c.evolving.ensures (at_some (λ view. view < length t.lineage.views) place.view c.in-Some.view c.in-Some.is c.requires.there.view))
    (λ v is. at_some (λ v. KeepsSums (view_columns (columns_of c.evolving.result.now) v) rows) _ v is c.in_ok-rows.ensures.bounded)) in
    rw (c.requires.columns, c.as_slice.ensures) of

pub returns-clause-page : goal.returns-clause-page
returns-clause-page c =
    let store = c.args.store.now.store in
    let place = c.args.place in
    let t = table_at store place.table in
    let rows = c.in_ok-rows.rows in
    let q = c.args.query.now in
    let P : Relation → Type 0 = λ r. rows ≡ relation_content r q.version in
    let content : c.content-content.result.now ≡ content_at t q.version = c.content-content.ensures.rows ∙ ap (content_at t) c.version.ensures in
    let of = at_view P store place c.in-Some.view c.in-Some.is
    (view_seen P place.table t c.evolving.result.now c.in-Some.view c.evolving.ensures (rw c.evolving.ensures (at_some (λ view. view < length t.lineage.views) place.view c.in-Some.view c.in-Some.is c.requires.there.view))
    (λ v is. at_some (λ v. rows ≡ view_rows (columns_of c.evolving.result.now) v c.content-content.result.now) _ v is c.in_ok-rows.ensures.content ∙ ap (view_rows (columns_of c.evolving.result.now) v) content)) in
    let whole = c.as_slice.ensures ∙ of in
    page_as c.answer-2.result (λ rows. page_of q.version q.limit q.resume (answer_rows c.args.schema.now q.asked rows)) c.as_slice.result.now _ whole c.answer-2.ensures.page

pub returns-in_default-clause-spelled : goal.returns-in_default-clause-spelled
returns-in_default-clause-spelled c = page_spells c.reads_back.ensures.passes c.args.schema.now c.args.query.now c.answer.result c.requires.asked c.answer.ensures.form

pub returns-clause-spelled : goal.returns-clause-spelled
returns-clause-spelled c = page_spells c.reads_back.ensures.passes c.args.schema.now c.args.query.now c.answer-2.result c.requires.asked c.answer-2.ensures.form
