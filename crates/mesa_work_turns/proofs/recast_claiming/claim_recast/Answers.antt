use Rattle.std.proofs.Common.{◌≡◌, ◌∙◌, ◌+◌, ◌-◌, sym, ap, subst, Ok}
use Rattle.std.proofs.lemmas.Result.{err_from_is_err_and}
use Rattle.mesa_write_turns.specs.mesa_binding.Told.{IsDue}
use Rattle.mesa_write_turns.specs.mesa_binding.declared.recasting.RecastNames.{RecastNames}
use Rattle.mesa_engine.specs.mesa_store_spec.Catalog.{Catalog, start_in, meta_at}
use Rattle.mesa_model.specs.Tables.{recast_asked}
use Rattle.mesa_validate.specs.Recastings.{recast_due}
use Rattle.mesa_validate.specs.Seen.{number_of}
use Rattle.mesa_write_turns.specs.mesa_schema.Changes.{epoch_of}
use Rattle.mesa_write_turns.specs.mesa_schema.Recasts.{Recast, recast_checked}
use Rattle.mesa_read_turns.proofs.Plans.{no_device}
use Rattle.mesa_write_turns.specs.mesa_history_spec.Machine.{Recasts}
use Rattle.mesa_work_turns.proofs.RecastClaims.{busy, claimed, crowded, denied, over, shut, within}
use Rattle.mesa_work_turns.proofs.recast_claiming.claim_recast.Goals as goal

pub returns-in_err-check_open-clause-refused : goal.returns-in_err-check_open-clause-refused
returns-in_err-check_open-clause-refused c =
    let p = err_from_is_err_and c.from_residual.result c.from_residual.ensures.1 in
    let why = c.in_err-check_open.ensures.closed in
    rw (p.1, p.2, why.2) (shut c.args.metadata.now.state c.args.position c.args.words.now why.0 why.1)

pub returns-in_err-asked-clause-refused : goal.returns-in_err-asked-clause-refused
returns-in_err-asked-clause-refused c =
    let p = err_from_is_err_and c.from_residual-in_err-asked.result c.from_residual-in_err-asked.ensures.1 in
    let l = c.args.metadata.now.state in
    let why = c.in_err-asked.field-0.0 in
    let due = subst (λ (k : Catalog). IsDue (recast_due k c.args.words.now) why) c.catalog-catalog.ensures c.in_err-asked.ensures.refused in
    rw (p.1, p.2) (denied l c.args.position c.args.words.now c.in_ok-check_open.ensures.opened why due)

pub returns-in_err-asked-clause-quiet : goal.returns-in_err-asked-clause-quiet
returns-in_err-asked-clause-quiet c =
    let p = err_from_is_err_and c.from_residual-in_err-asked.result c.from_residual-in_err-asked.ensures.1 in
    rw (p.1, p.2) (no_device c.in_err-asked.field-0.0)

pub returns-in-Some-clause-refused : goal.returns-in-Some-clause-refused
returns-in-Some-clause-refused c =
    let same = c.catalog-catalog.ensures in
    let table = c.in_ok-asked.asked.table in
    let there = ap (λ k. number_of k c.args.words.now.table) (sym same) ∙ c.in_ok-asked.ensures.table in
    let rule = subst (λ (k : Catalog). recast_checked (meta_at k table).lineage (recast_asked c.args.words.now) ≡ Ok tt) same c.in_ok-asked.ensures.checked in
    busy c.args.metadata.now.state c.args.position c.args.words.now c.in_ok-check_open.ensures.opened table there rule c.in-Some.lease (sym c.holder.ensures ∙ c.in-Some.is)

-- ---- the rules allow it, and no lease holds

pub returns-clause-checked : goal.returns-clause-checked
returns-clause-checked c =
    let asked = c.in_ok-asked.asked in
    let rule = subst (λ (k : Catalog). recast_checked (meta_at k asked.table).lineage (recast_asked c.args.words.now) ≡ Ok tt) c.catalog-catalog.ensures c.in_ok-asked.ensures.checked in
    let names : recast_asked c.args.words.now ≡ record { keys = asked.names.keys; values = asked.names.values } = ap (λ (n : RecastNames). record { keys = n.keys; values = n.values }) (sym c.in_ok-asked.ensures.names) in
    subst (λ (r : Recast). recast_checked (meta_at c.args.metadata.now.state.catalogue asked.table).lineage r ≡ Ok tt) names rule

pub returns-then-singletons-clause-refused : goal.returns-then-singletons-clause-refused
returns-then-singletons-clause-refused c =
    let l = c.args.metadata.now.state in
    let same = c.catalog-catalog.ensures in
    let table = c.in_ok-asked.asked.table in
    let there = ap (λ k. number_of k c.args.words.now.table) (sym same) ∙ c.in_ok-asked.ensures.table in
    let rule = subst (λ (k : Catalog). recast_checked (meta_at k table).lineage (recast_asked c.args.words.now) ≡ Ok tt) same c.in_ok-asked.ensures.checked in
    let count = c.singletons.ensures ∙ ap (λ (k : Catalog). k.next - start_in (meta_at k table)) same in
    crowded l c.args.position c.args.words.now c.in_ok-check_open.ensures.opened table there rule (sym c.holder.ensures ∙ c.in_default.is) (over c.singletons.result (l.catalogue.next - start_in (meta_at l.catalogue table)) count c.if-singletons.true)

pub returns-clause-claimed : goal.returns-clause-claimed
returns-clause-claimed c =
    let l = c.args.metadata.now.state in
    let same = c.catalog-catalog.ensures in
    let asked = c.in_ok-asked.asked in
    let table = asked.table in
    let there = ap (λ k. number_of k c.args.words.now.table) (sym same) ∙ c.in_ok-asked.ensures.table in
    let rule = subst (λ (k : Catalog). recast_checked (meta_at k table).lineage (recast_asked c.args.words.now) ≡ Ok tt) same c.in_ok-asked.ensures.checked in
    let count = c.singletons.ensures ∙ ap (λ (k : Catalog). k.next - start_in (meta_at k table)) same in
    let names : recast_asked c.args.words.now ≡ record { keys = asked.names.keys; values = asked.names.values } = ap (λ (n : RecastNames). record { keys = n.keys; values = n.values }) (sym c.in_ok-asked.ensures.names) in
    claimed l c.args.position c.args.words.now c.in_ok-check_open.ensures.opened table there rule (sym c.holder.ensures ∙ c.in_default.is) (within c.singletons.result (l.catalogue.next - start_in (meta_at l.catalogue table)) count c.if-singletons.false)
    ∙ ap (λ (r : Recast). Ok (record { table = table; lease = l.leases.granted + 1; errand = Recasts (epoch_of (meta_at l.catalogue table).lineage) r })) names
