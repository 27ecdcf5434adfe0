use Rattle.std.proofs.Common.{◌++◌, ◌∙◌, ap, subst, sym}
use Rattle.std.specs.Prelude.{flat_map}
use Rattle.std.proofs.lemmas.List.{take_all}
use Rattle.mesa_catalog_table.proofs.Named.{flat_map-map}
use Rattle.mesa_pick_files.specs.Files.{AreSources, view_wanted}
use Rattle.mesa_pick_files.specs.Lent.{single_delta}
use Rattle.mesa_pick_files.proofs.Viewing.{single_seen}
use Rattle.mesa_pick_files.proofs.views.push_singles.Goals as goal

pub returns : goal.returns
returns c = λ seen are.
    let v = c.args.viewed.now in
    let all = take_all c.loop-single.single-index c.args.singles.now c.loop-single-test.false in
    let same = ap (flat_map (single_seen v.table.now.value v.own.now.value v.view)) all ∙ sym (flat_map-map (view_wanted v.table.now.value v.own.now.value v.view) single_delta c.args.singles.now) in
    subst (AreSources c.loop-single.sources) (ap (λ more. seen ++ more) same) (c.loop-single.invariant seen are)
