use Rattle.std.proofs.Common.{sym, ◌∙◌}
use Rattle.mesa_engine.specs.mesa_history_spec.Rows.{no_rows}
use Rattle.mesa_read_turns.proofs.Pins.{catalog_there, err_so, ok_so, pins_counted}
use Rattle.mesa_read_turns.proofs.pinning.version_for.Goals as goal

pub returns-clause-pinned : goal.returns-clause-pinned
returns-clause-pinned c =
    let l = c.args.metadata.now.state in
    ok_so c.pin.result _ _ c.pin.ensures.pinned
    (λ version does session. does _ session (catalog_there no_rows l c.catalog.result.now.catalogue c.catalog.ensures c.in_ok-check_open.ensures.opened) (pins_counted no_rows l ∙ sym c.pins.ensures))

pub returns-clause-refused : goal.returns-clause-refused
returns-clause-refused c =
    let l = c.args.metadata.now.state in
    err_so c.pin.result _ _ c.pin.ensures.refused
    (λ x refuses session. refuses _ session (catalog_there no_rows l c.catalog.result.now.catalogue c.catalog.ensures c.in_ok-check_open.ensures.opened) (pins_counted no_rows l ∙ sym c.pins.ensures))
