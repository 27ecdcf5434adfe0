use Rattle.std.proofs.Common.{◌≡◌, ap, ◌∙◌, map, subst}
use Rattle.std.specs.Prelude.{IfSome, slice_get}
use Rattle.mesa_schema.specs.Changes.{Lineage}
use Rattle.mesa_pick_files.specs.Files.{own_in, own_lineage, want_in}
use Rattle.mesa_pick_files.specs.Lent.{lent_in}
use Rattle.mesa_pick_files.specs.Read.{SomeUnsound}
use Rattle.mesa_pick_files.proofs.Opened.{if_both, view_as}
use Rattle.mesa_pick_files.proofs.Unsound.{damage_also}
use Rattle.mesa_pick_files.proofs.opening.open_view.Goals as goal

pub returns-in-Ok-view_files-clause-files : goal.returns-in-Ok-view_files-clause-files
returns-in-Ok-view_files-clause-files g c =
    let same = view_as c.args.table.now.evolving.value c.in-Ok.columns.value c.args.view (lent_in c.args.deltas.now) c.requires.view
    (subst (λ (l : Lineage). IfSome (slice_get l.views c.args.view) (λ v. c.in-Ok.columns.value ≡ own_lineage l v)) c.deref.ensures c.in-Ok.ensures) in
    if_both c.open_sources.result _ _ _ c.open_sources.ensures.own c.open_sources.ensures.opened (λ files own opened. record {
      wanted = c.in-Ok-view_files.sources.wanted.items;
      are = c.in-Ok-view_files.ensures.files.wanted ∙ ap (map want_in) same;
      own = own ∙ c.in-Ok-view_files.ensures.files.own ∙ ap (map own_in) same;
      opened = opened;
    })

pub returns-in-Ok-view_files-clause-unsound : goal.returns-in-Ok-view_files-clause-unsound
returns-in-Ok-view_files-clause-unsound g c =
    let same = view_as c.args.table.now.evolving.value c.in-Ok.columns.value c.args.view (lent_in c.args.deltas.now) c.requires.view
    (subst (λ (l : Lineage). IfSome (slice_get l.views c.args.view) (λ v. c.in-Ok.columns.value ≡ own_lineage l v)) c.deref.ensures c.in-Ok.ensures) in
    damage_also c.open_sources.result _ _ (subst (SomeUnsound (g.D.Disk.story c.args.disk.now).told) (c.in-Ok-view_files.ensures.files.wanted ∙ ap (map want_in) same)) c.open_sources.ensures.unsound
