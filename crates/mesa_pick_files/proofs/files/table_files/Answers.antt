use Rattle.std.proofs.Common.{◌++◌, ◌∙◌, ap, map}
use Rattle.std.specs.Prelude.{flat_map}
use Rattle.mesa_pick_files.specs.Files.{table_wanted, want_of}
use Rattle.mesa_pick_files.specs.Lent.{lent_if_any, lent_in, single_delta}
use Rattle.mesa_pick_files.proofs.Filing.{epochs_mapped, table_epochs, wanted_joined}
use Rattle.mesa_pick_files.proofs.files.table_files.Goals as goal

pub returns-clause-epochs : goal.returns-clause-epochs
returns-clause-epochs c = λ are.
    let l = c.args.evolving.now.value in
    let d = c.args.deltas.now in
    let base = c.in_ok-push_if_any.ensures ∙ ap (λ files. map want_of files ++ flat_map (table_wanted l) (lent_if_any d.base)) c.new-files.ensures.items in
    let files = wanted_joined (table_wanted l) _ _ _ (lent_if_any d.base) (lent_if_any d.cumulative) (map single_delta d.singles.now) base c.in_ok-push_if_any-2.ensures c.in_ok-push_singles.ensures in
    epochs_mapped c.push_singles.new.files.items (flat_map (table_wanted l) (lent_in d)) files (table_epochs l (lent_in d) are)
