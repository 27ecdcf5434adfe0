use Rattle.std.proofs.Common.{◌≡◌, ◌<◌, ◌∙◌, List, [], ap, length, sym, subst, true}
use Rattle.mesa_open_files.specs.mesa_columns.declared.rows.Row.{Row}
use Rattle.mesa_open_files.specs.mesa_columns.declared.views.View.{View}
use Rattle.mesa_schema.specs.Changes.{columns_of}
use Rattle.mesa_open_files.specs.mesa_columns.Columns.{Columns}
use Rattle.mesa_open_files.specs.mesa_columns.Rows.{keys_rise}
use Rattle.mesa_schema.specs.Views.{view_columns, view_key_places, view_value_places}
use Rattle.mesa_batch.specs.Gathered.{rows_at}
use Rattle.mesa_load.specs.Filing.{AreFileRows}
use Rattle.mesa_load.specs.FilesToWrite.{view_in}
use Rattle.mesa_load.proofs.Places.{if_some, index_at, splits_at}
use Rattle.mesa_load.proofs.Rows.{rise_of, viewed_some}
use Rattle.mesa_load.proofs.building.view_content.Goals as goal

pub returns-clause-columns : goal.returns-clause-columns
returns-clause-columns c =
    let s = splits_at c.args.view c.args.evolving.now.views c.requires.there in
    let l = columns_of c.args.evolving.now in
    let columns : c.in_ok-schema.schema ≡ view_columns l s.x = if_some (λ (v : View). c.in_ok-schema.schema ≡ view_columns l v) _ s.x s.at c.in_ok-schema.ensures in
    columns ∙ ap (view_columns l) (sym (index_at c.args.evolving.now.views c.args.view (record { name = []; keys = []; values = [] }) s.x s.at))

pub returns-clause-some : goal.returns-clause-some
returns-clause-some c =
    let l = columns_of c.args.evolving.now in
    subst (λ (rows : List Row). 0 < length rows) (sym c.in_ok-found.ensures.content) (viewed_some l (view_in c.args.evolving.now c.args.view) (rows_at c.args.table c.args.batch.now) c.requires.some)

pub returns-clause-rows : goal.returns-clause-rows
returns-clause-rows c =
    let s = splits_at c.args.view c.args.evolving.now.views c.requires.there in
    let l = columns_of c.args.evolving.now in
    let v = view_in c.args.evolving.now c.args.view in
    let found = c.in_ok-found.found in
    let columns : c.in_ok-schema.schema ≡ view_columns l s.x = if_some (λ (v : View). c.in_ok-schema.schema ≡ view_columns l v) _ s.x s.at c.in_ok-schema.ensures in
    let same = columns ∙ ap (view_columns l) (sym (index_at c.args.evolving.now.views c.args.view (record { name = []; keys = []; values = [] }) s.x s.at)) in
    subst (λ (w : Columns). AreFileRows w found) (sym same) (record {
      form = c.in_ok-found.ensures.form;
      rise = rise_of found (subst (λ (rows : List Row). keys_rise rows ≡ true) (sym c.in_ok-found.ensures.content) (c.groups_rise.ensures.rise l (view_key_places l v) (view_value_places l v) (rows_at c.args.table c.args.batch.now)));
      sums = c.in_ok-found.ensures.bounded;
    })
