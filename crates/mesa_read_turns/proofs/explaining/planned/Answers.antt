use Rattle.std.proofs.Common.{map, sym, ap}
use Rattle.std.proofs.lemmas.Result.{err_from_is_err_and}
use Rattle.mesa_engine.specs.mesa_store_spec.Catalog.{Catalog, ranges_of}
use Rattle.mesa_engine.specs.EngineState.{books_of}
use Rattle.mesa_engine.specs.mesa_history_spec.Rows.{no_rows}
use Rattle.mesa_read_turns.proofs.Pins.{catalog_there}
use Rattle.mesa_read_turns.proofs.Plans.{no_device, no_plan, plan_told}
use Rattle.mesa_read_turns.proofs.explaining.planned.Goals as goal

pub returns-in_err-reply-clause-refused : goal.returns-in_err-reply-clause-refused
returns-in_err-reply-clause-refused c =
    let p = err_from_is_err_and c.from_residual-in_err-reply.result c.from_residual-in_err-reply.ensures.1 in
    let l = c.args.metadata.now.state in
    let was_open = c.in_ok-check_open.ensures.opened in
    rw (p.1, p.2) (no_plan no_rows l c.args.words.now c.in_err-reply.field-0.0 was_open (c.in_err-reply.ensures.refused (books_of no_rows l).bare (books_of no_rows l).machine (catalog_there no_rows l c.catalog.result.now.catalogue c.catalog.ensures was_open)))

pub returns-in_err-reply-clause-quiet : goal.returns-in_err-reply-clause-quiet
returns-in_err-reply-clause-quiet c =
    let p = err_from_is_err_and c.from_residual-in_err-reply.result c.from_residual-in_err-reply.ensures.1 in
    rw (p.1, p.2) (no_device c.in_err-reply.field-0.0)

pub lines_of-requires : goal.lines_of-requires
lines_of-requires c =
    let l = c.args.metadata.now.state in
    (plan_told (books_of no_rows l).bare (books_of no_rows l).machine c.args.words.now c.in_ok-reply.reply
    (c.in_ok-reply.ensures.explained (books_of no_rows l).bare (books_of no_rows l).machine (catalog_there no_rows l c.catalog.result.now.catalogue c.catalog.ensures c.in_ok-check_open.ensures.opened)
    (ap (λ (x : Catalog). map ranges_of x.tables) (sym c.catalog.ensures)))).plain

pub returns-in-Ok-clause-explained : goal.returns-in-Ok-clause-explained
returns-in-Ok-clause-explained c =
    let l = c.args.metadata.now.state in
    c.in_ok-reply.ensures.explained (books_of no_rows l).bare (books_of no_rows l).machine (catalog_there no_rows l c.catalog.result.now.catalogue c.catalog.ensures c.in_ok-check_open.ensures.opened)
    (ap (λ (x : Catalog). map ranges_of x.tables) (sym c.catalog.ensures))
