use Rattle.std.proofs.Common.{rules, vec_len, ◌≡◌, sym, ap, ◌∙◌, subst, length, true, replicate}
use Rattle.std.specs.Prelude.{flat_map}
use Rattle.std.proofs.lemmas.List.{length-map}
use Rattle.mesa_pick_files.specs.Files.{table_wanted, want_of}
use Rattle.mesa_pick_files.specs.Lent.{lent_in}
use Rattle.mesa_pick_files.proofs.Opened.{all_owned, if_both}
use Rattle.mesa_pick_files.proofs.Reading.{owned}
use Rattle.mesa_pick_files.proofs.Unsound.{damage_also}
use Rattle.mesa_pick_files.specs.Read.{SomeUnsound}
use Rattle.mesa_pick_files.proofs.opening.open_table.Goals as goal

pub returns-clause-files : goal.returns-clause-files
returns-clause-files g c =
    let wants = flat_map (table_wanted c.args.table.now.evolving.value) (lent_in c.args.deltas.now) in
    let whole : vec_len c.in-Ok.wanted ≡ length c.in-Ok.wanted.items = search rules in
    let many = c.len.ensures ∙ whole ∙ sym (length-map c.in-Ok.wanted.items want_of) ∙ ap length c.in-Ok.ensures.files in
    if_both c.open_sources.result _ _ _ c.open_sources.ensures.own c.open_sources.ensures.opened (λ files own opened. record {
      wanted = c.in-Ok.wanted.items;
      are = c.in-Ok.ensures.files ∙ sym (owned wants);
      own = own ∙ c.in-Ok-vec.ensures.items_if_clones_equal (λ x e. e) ∙ ap (λ n. replicate n true) many ∙ all_owned wants;
      opened = opened;
    })

pub returns-clause-unsound : goal.returns-clause-unsound
returns-clause-unsound g c =
    let wants = flat_map (table_wanted c.args.table.now.evolving.value) (lent_in c.args.deltas.now) in
    damage_also c.open_sources.result _ _ (subst (SomeUnsound (g.D.Disk.story c.args.disk.now).told) (c.in-Ok.ensures.files ∙ sym (owned wants))) c.open_sources.ensures.unsound
