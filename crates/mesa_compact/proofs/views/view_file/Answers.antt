use Rattle.std.proofs.Common.{◌≡◌, refl, subst, arith}
use Rattle.std.specs.Prelude.{Option, IfSome}
use Rattle.mesa_open_files.specs.mesa_columns.declared.views.View.{View}
use Rattle.mesa_schema.specs.Changes.{columns_of}
use Rattle.mesa_schema.specs.Views.{view_columns}
use Rattle.mesa_compact.proofs.Causing.{caused_memory, caused_ok, caused_on}
use Rattle.mesa_compact.proofs.Viewing.{some_within}
use Rattle.mesa_compact.proofs.views.view_file.Goals as goal

pub view_schema-requires : goal.view_schema-requires
view_schema-requires g c = some_within c.args.evolving.now.views c.args.view c.requires.view.0 c.requires.view.1

pub grouped_file-requires-clause-put : goal.grouped_file-requires-clause-put
grouped_file-requires-clause-put g c = λ _ _.
    let v = c.requires.view in
    let put = c.requires.put in
    let s = columns_of c.args.evolving.now in
    (s, v.0, put.0, put.2, put.1, v.2, subst (λ (o : Option View). IfSome o (λ (w : View). c.in-Ok.schema ≡ view_columns s w)) v.1 c.in-Ok.ensures)

pub returns-in_default-clause-causes : goal.returns-in_default-clause-causes
returns-in_default-clause-causes g c = λ reads. caused_memory _ _ _ reads reads refl refl

pub returns-in_default-clause-ids : goal.returns-in_default-clause-ids
returns-in_default-clause-ids g c = (0, omega arith, refl)

pub returns-in-Ok-grouped_file-clause-made : goal.returns-in-Ok-grouped_file-clause-made
returns-in-Ok-grouped_file-clause-made g c = λ v rows at wanted put.
    let s = columns_of c.args.evolving.now in
    c.in-Ok-grouped_file.ensures.made s v rows put wanted (subst (λ (o : Option View). IfSome o (λ (w : View). c.in-Ok.schema ≡ view_columns s w)) at c.in-Ok.ensures)

pub returns-in-Ok-grouped_file-clause-causes : goal.returns-in-Ok-grouped_file-clause-causes
returns-in-Ok-grouped_file-clause-causes g c = λ reads. caused_ok _ _ _ reads reads _ (c.in-Ok-grouped_file.ensures.causes reads).drafts.quiet refl

pub returns-in-Ok-grouped_file-clause-ids : goal.returns-in-Ok-grouped_file-clause-ids
returns-in-Ok-grouped_file-clause-ids g c = (1, omega arith, c.draw-id.ensures.next)

pub returns-clause-ids : goal.returns-clause-ids
returns-clause-ids g c = (1, omega arith, c.draw-id.ensures.next)

pub returns-clause-causes : goal.returns-clause-causes
returns-clause-causes g c = λ reads.
    let s = columns_of c.args.evolving.now in
    caused_on _ _ _ _ _ reads reads reads _ _ refl refl (c.in-Err.ensures.causes reads) refl
    (λ d told. (told.0, λ v rows at wanted put. told.1 s v rows put wanted (subst (λ (o : Option View). IfSome o (λ (w : View). c.in-Ok.schema ≡ view_columns s w)) at c.in-Ok.ensures)))

pub returns-clause-accepts : goal.returns-clause-accepts
returns-clause-accepts g c = λ d e v rows at wanted put keeps.
    let s = columns_of c.args.evolving.now in
    c.in-Err.ensures.accepts d e s v rows put wanted (subst (λ (o : Option View). IfSome o (λ (w : View). c.in-Ok.schema ≡ view_columns s w)) at c.in-Ok.ensures) keeps
