use Rattle.std.proofs.Common.{[], ap, map, subst}
use Rattle.mesa_pick_files.specs.Files.{AreSources, view_wanted, want_of}
use Rattle.mesa_pick_files.specs.Lent.{lent_if_any, lent_in, single_delta}
use Rattle.mesa_pick_files.proofs.Filing.{epochs_mapped}
use Rattle.mesa_pick_files.proofs.Viewing.{seen_joined, view_epochs}
use Rattle.mesa_pick_files.proofs.views.view_files.Goals as goal

pub returns-clause-files : goal.returns-clause-files
returns-clause-files c =
    let v = c.args.viewed.now in
    let d = c.args.deltas.now in
    let f = view_wanted v.table.now.value v.own.now.value v.view in
    let base = c.in_ok-push_if_any.ensures [] (record { wanted = ap (map want_of) c.new.ensures.items; own = c.new-2.ensures.items }) in
    let ten = c.in_ok-push_if_any-2.ensures _ base in
    let singles = c.in_ok-push_singles.ensures _ ten in
    subst (AreSources c.push_singles.new.sources) (seen_joined f (lent_if_any d.base) (lent_if_any d.cumulative) (map single_delta d.singles.now)) singles

pub returns-clause-epochs : goal.returns-clause-epochs
returns-clause-epochs c = λ are.
    let v = c.args.viewed.now in
    epochs_mapped c.push_singles.new.sources.wanted.items _ (returns-clause-files c).wanted (view_epochs v.table.now.value v.own.now.value v.view (lent_in c.args.deltas.now) are)
