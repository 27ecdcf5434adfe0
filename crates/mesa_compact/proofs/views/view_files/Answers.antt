use Rattle.std.proofs.Common.{◌≡◌, ◌+◌, [], ◌∷◌, inl, inr, length, drop, refl, sym, ◌∙◌, ap, subst, arith, add-one, length-append}
use Rattle.std.specs.Prelude.{slice_get, Some}
use Rattle.mesa_schema.specs.Changes.{columns_of}
use Rattle.mesa_file.specs.Serials.{after_drafts, drawn, next_serials}
use Rattle.mesa_open_files.specs.Made.{IsMadeFile, content_of}
use Rattle.mesa_open_files.specs.declared.made.MadeView.{MadeView}
use Rattle.mesa_answer.specs.Gathered.{HasPut}
use Rattle.mesa_answer.specs.declared.groups.Groups.{Groups}
use Rattle.mesa_compact.proofs.Causing.{caused_memory, caused_ok, caused_on}
use Rattle.mesa_compact.proofs.Viewing.{all_made, all_some, drafts_more, drop_some, some_at, some_pushed}
use Rattle.mesa_compact.proofs.views.view_files.Goals as goal

pub view_file-requires-clause-view : goal.view_file-requires-clause-view
view_file-requires-clause-view g c = λ _ _.
    let i = c.views.view in
    let there = some_at c.args.evolving.now.views i (omega (arith, c.views-test.true, c.views.auto.view-end, c.views-view-end.ensures)) in
    let first = drop_some c.args.groups.items c.pop_front.new.self.items i c.in-Some.groups (sym c.views.invariant.left ∙ c.in-Some.ensures.items) in
    (there.0, there.1, c.requires.sources.each i there.0 c.in-Some.groups there.1 first.0)

pub view_file-requires-clause-put : goal.view_file-requires-clause-put
view_file-requires-clause-put g c = λ _ _.
    let put = c.requires.put in
    let first = drop_some c.args.groups.items c.pop_front.new.self.items c.views.view c.in-Some.groups (sym c.views.invariant.left ∙ c.in-Some.ensures.items) in
    (put.0, put.1, all_some (λ (x : Groups). HasPut x put.0) c.args.groups.items c.views.view c.in-Some.groups put.2 first.0)

pub views-preserved : goal.views-preserved
views-preserved g c =
    let inv = c.views.invariant in
    let i = c.views.view in
    let s = columns_of c.args.evolving.now in
    let vs = c.args.evolving.now.views in
    let first = drop_some c.args.groups.items c.pop_front.new.self.items i c.in-Some.groups (sym inv.left ∙ c.in-Some.ensures.items) in
    record {
      left = sym first.1 ∙ ap (λ n. drop n c.args.groups.items) (sym (add-one i));
      count = ap length c.push_reserved.ensures.items ∙ length-append c.views.made.items (c.in-Ok-view_file.file ∷ []) ∙ ap (λ n. n + 1) inv.count;
      made = λ rows put j v m at has. elim (some_pushed c.views.made.items c.in-Ok-view_file.file m j (subst (λ ms. slice_get ms j ≡ Some m) c.push_reserved.ensures.items has)) [
        | inl before ↦ inv.made rows put j v m at before
        | inr last ↦
            let here : j ≡ i = last.0 ∙ inv.count in
            let its : slice_get vs i ≡ Some v = subst (λ n. slice_get vs n ≡ Some v) here at in
            subst (λ (x : MadeView g.row.M.Denot). (x.view ≡ j) × IsMadeFile g.M.Made.bytes g.M.Made.id_of (content_of s rows v) x.file) (sym last.1) (
              c.in-Ok-view_file.ensures.number ∙ sym here,
              c.in-Ok-view_file.ensures.made v rows its (c.requires.sources.each i v c.in-Some.groups its first.0) (all_some (λ (x : Groups). HasPut x rows) c.args.groups.items i c.in-Some.groups put first.0),
            )
      ];
      numbered = λ j m has. elim (some_pushed c.views.made.items c.in-Ok-view_file.file m j (subst (λ ms. slice_get ms j ≡ Some m) c.push_reserved.ensures.items has)) [
        | inl before ↦ inv.numbered j m before
        | inr last ↦
            let here : i ≡ j = sym (last.0 ∙ inv.count) in
            subst (λ (x : MadeView g.row.M.Denot). g.M.Made.id_of x.file.made ≡ drawn (after_drafts j c.args.ids.now)) (sym last.1)
            (c.in-Ok-view_file.ensures.numbered.0 ∙ ap drawn inv.ids ∙ ap (λ n. drawn (after_drafts n c.args.ids.now)) here)
      ];
      ids = c.in-Ok-view_file.ensures.numbered.1 ∙ ap next_serials inv.ids ∙ ap (λ n. after_drafts n c.args.ids.now) (sym (add-one i));
      faults = (c.in-Ok-view_file.ensures.causes []).drafts.quiet ∙ inv.faults;
    }

pub returns-clause-causes : goal.returns-clause-causes
returns-clause-causes g c = λ reads. caused_ok _ _ _ reads reads _ c.views.invariant.faults refl

pub returns-clause-made : goal.returns-clause-made
returns-clause-made g c = λ rows put.
    let inv = c.views.invariant in
    all_made g.M.Made.bytes g.M.Made.id_of (columns_of c.args.evolving.now) rows 0 c.args.evolving.now.views c.views.made.items
    (omega (arith, inv.count, c.views-test.false, c.views.auto.view-end, c.views-view-end.ensures)) (λ j v m at has. (let its = inv.made rows put j v m at has in (omega (arith, its.0), its.1)))

pub returns-clause-ids : goal.returns-clause-ids
returns-clause-ids g c = (c.views.view, c.views.invariant.ids)

pub returns-in-Err-clause-ids : goal.returns-in-Err-clause-ids
returns-in-Err-clause-ids g c =
    let more = c.in-Err.ensures.ids in
    drafts_more c.views.view more.0 c.args.ids.now _ _ c.views.invariant.ids more.2

pub returns-in-Err-clause-causes : goal.returns-in-Err-clause-causes
returns-in-Err-clause-causes g c = λ reads.
    let i = c.views.view in
    let there = some_at c.args.evolving.now.views i (omega (arith, c.views-test.true, c.views.auto.view-end, c.views-view-end.ensures)) in
    let first = drop_some c.args.groups.items c.pop_front.new.self.items i c.in-Some.groups (sym c.views.invariant.left ∙ c.in-Some.ensures.items) in
    caused_on _ _ _ _ _ reads reads reads _ _ c.views.invariant.faults refl (c.in-Err.ensures.causes reads) refl (λ d told. (
      told.0,
      λ rows put. record {
        number = i;
        view = there.0;
        one = there.1;
        total = told.1 there.0 rows there.1 (c.requires.sources.each i there.0 c.in-Some.groups there.1 first.0) (all_some (λ (x : Groups). HasPut x rows) c.args.groups.items i c.in-Some.groups put first.0);
      },
    ))

pub returns-in-Err-clause-accepts : goal.returns-in-Err-clause-accepts
returns-in-Err-clause-accepts g c = λ d e rows put keeps.
    let i = c.views.view in
    let there = some_at c.args.evolving.now.views i (omega (arith, c.views-test.true, c.views.auto.view-end, c.views-view-end.ensures)) in
    let first = drop_some c.args.groups.items c.pop_front.new.self.items i c.in-Some.groups (sym c.views.invariant.left ∙ c.in-Some.ensures.items) in
    c.in-Err.ensures.accepts d e there.0 rows there.1 (c.requires.sources.each i there.0 c.in-Some.groups there.1 first.0) (all_some (λ (x : Groups). HasPut x rows) c.args.groups.items i c.in-Some.groups put first.0) keeps

pub returns-in_default-clause-causes : goal.returns-in_default-clause-causes
returns-in_default-clause-causes g c = λ reads. caused_memory _ _ _ reads reads refl refl
