use Rattle.std.proofs.Common.{sym, ◌∙◌, ap, subst}
use Rattle.mesa_work_turns.specs.mesa_history_spec.Machine.{still_checked}
use Rattle.mesa_engine.specs.mesa_store_spec.Catalog.{Catalog, meta_at}
use Rattle.mesa_engine.specs.EngineState.{books_of}
use Rattle.mesa_model.specs.Warehouse.{Table}
use Rattle.mesa_model.specs.declared.replies.Refusal.TheVariants as no
use Rattle.mesa_work_turns.specs.mesa_schema.Changes.{Lineage, epoch_of}
use Rattle.mesa_work_turns.specs.mesa_schema.Recasts.{recast_checked}
use Rattle.mesa_work_turns.specs.mesa_history_spec.Rows.{no_rows}
use Rattle.mesa_open_files.specs.Recasts.{claim_of_recast, recast_in}
use Rattle.mesa_recast_turns.specs.Unfit.{HasNotRecast, unfit_of}
use Rattle.mesa_recast_turns.specs.declared.checking.Unfit.TheVariants as why
use Rattle.mesa_recast_turns.proofs.Checks.{still_fits, still_other, unfit_by}
use Rattle.mesa_recast_turns.proofs.Regroups.{table_is}
use Rattle.mesa_recast_turns.proofs.checking.check_recast.Goals as goal

-- the table has another epoch
pub returns-then-epoch-task-clause-refused : goal.returns-then-epoch-task-clause-refused
returns-then-epoch-task-clause-refused g c =
    let l = c.args.metadata.now.state in
    let t = c.args.task.now in
    let now = (meta_at l.catalogue t.table).lineage in
    let lineage = c.deref.ensures ∙ c.evolving-evolving.ensures ∙ ap (λ (k : Catalog). (meta_at k t.table).lineage) c.catalog.ensures in
    let epoch_is = c.epoch-epoch.ensures.count ∙ ap epoch_of lineage in
    let table = ap (λ (u : Table). u.lineage) (table_is l t.table) in
    subst (λ e. HasNotRecast (books_of no_rows l) c.args.position (claim_of_recast t) t.epoch (recast_in t) (why.Changed (no.Changed e))) (sym epoch_is)
    (c.in_default.ensures.held, ap (λ (k : Lineage). still_checked k t.epoch (recast_in t)) table ∙ still_other now t.epoch (recast_in t) (λ same. c.if-epoch-task.true (epoch_is ∙ same)))

-- it may be recast still
pub returns-in-Ok-clause-still : goal.returns-in-Ok-clause-still
returns-in-Ok-clause-still g c =
    let t = c.args.task.now in
    let now = (meta_at c.args.metadata.now.state.catalogue t.table).lineage in
    let catalogue = ap (λ (k : Catalog). (meta_at k t.table).lineage) c.catalog.ensures in
    let lineage = c.deref.ensures ∙ c.evolving-evolving.ensures ∙ catalogue in
    let again = c.deref-2.ensures ∙ c.evolving-evolving.ensures ∙ catalogue in
    let same = sym (c.epoch-epoch.ensures.count ∙ ap epoch_of lineage) ∙ c.if-epoch-task.false in
    let checked = (λ i. recast_checked (sym again i) (record { keys = sym c.as_slice.ensures i; values = sym c.as_slice-2.ensures i })) ∙ c.in-Ok.ensures.passes in
    still_fits now t.epoch (recast_in t) same checked

-- the rules don't allow it any more, or memory was wanting
pub returns-in-Err-check_recast-clause-refused : goal.returns-in-Err-check_recast-clause-refused
returns-in-Err-check_recast-clause-refused g c =
    let l = c.args.metadata.now.state in
    let t = c.args.task.now in
    let e = c.in-Err-check_recast.error in
    let now = (meta_at l.catalogue t.table).lineage in
    let catalogue = ap (λ (k : Catalog). (meta_at k t.table).lineage) c.catalog.ensures in
    let lineage = c.deref.ensures ∙ c.evolving-evolving.ensures ∙ catalogue in
    let again = c.deref-2.ensures ∙ c.evolving-evolving.ensures ∙ catalogue in
    let same = sym (c.epoch-epoch.ensures.count ∙ ap epoch_of lineage) ∙ c.if-epoch-task.false in
    let table = ap (λ (u : Table). u.lineage) (table_is l t.table) in
    subst (λ x. HasNotRecast (books_of no_rows l) c.args.position (claim_of_recast t) t.epoch (recast_in t) x) (sym (c.ruled_out.ensures ∙ ap unfit_of c.recast_failure.ensures))
    (unfit_by now t.epoch (recast_in t) same (books_of no_rows l) c.args.position (claim_of_recast t) table c.in_default.ensures.held e
    (λ other. (λ i. recast_checked (sym again i) (record { keys = sym c.as_slice.ensures i; values = sym c.as_slice-2.ensures i })) ∙ c.in-Err-check_recast.ensures.refused other))
