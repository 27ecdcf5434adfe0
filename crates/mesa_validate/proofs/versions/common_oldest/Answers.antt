use Rattle.std.proofs.Common.{◌∙◌, ◌+◌, ◌<◌, ap, arith, drop, length, sym}
use Rattle.std.specs.Prelude.{max}
use Rattle.std.proofs.lemmas.List.{at_drop_all}
use Rattle.mesa_validate.specs.Seen.{greatest_in}
use Rattle.mesa_validate.proofs.Seen.{greatest_step}
use Rattle.mesa_validate.proofs.versions.common_oldest.Goals as goal

pub loop-table-preserved : goal.loop-table-preserved
loop-table-preserved c =
    let cat = c.args.catalog.now.catalogue in
    let within : c.loop-table.table < length cat.tables = omega arith in
    ap (λ f. greatest_in f (drop (c.loop-table.table + 1) cat.tables)) (c.max-found.ensures ∙ ap (max c.loop-table.found) c.oldest.ensures)
    ∙ greatest_step c.loop-table.found cat.tables c.loop-table.table (greatest_in cat.floor cat.tables) within c.loop-table.invariant

pub returns : goal.returns
returns c =
    let cat = c.args.catalog.now.catalogue in
    sym (at_drop_all (greatest_in c.loop-table.found) cat.tables c.loop-table.table (omega arith)) ∙ c.loop-table.invariant
