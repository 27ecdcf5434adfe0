use Rattle.std.proofs.Common.{◌∙◌, sym, ap}
use Rattle.std.proofs.lemmas.Result.{err_from_is_err_and}
use Rattle.mesa_span.specs.Ranges.{base_before}
use Rattle.mesa_span.specs.Work.{next_work}
use Rattle.mesa_engine.specs.mesa_store_spec.Catalog.{Catalog, ranges_of, meta_at}
use Rattle.mesa_validate.specs.Seen.{number_of}
use Rattle.mesa_work_turns.proofs.Claims.{busy, claimed, idle, missing, shut}
use Rattle.mesa_work_turns.proofs.claiming.claim.Goals as goal

pub returns-in_err-check_open-clause-refused : goal.returns-in_err-check_open-clause-refused
returns-in_err-check_open-clause-refused c =
    let p = err_from_is_err_and c.from_residual.result c.from_residual.ensures.1 in
    let why = c.in_err-check_open.ensures.closed in
    rw (p.1, p.2, why.2) (shut c.args.metadata.now.state c.args.position c.args.name.now why.0 why.1)

pub returns-in_default-clause-refused : goal.returns-in_default-clause-refused
returns-in_default-clause-refused c =
    let none = sym (ap (λ k. number_of k c.args.name.now) c.catalog-catalog.ensures) ∙ sym c.table_number.ensures.found ∙ c.in_default.is in
    missing c.args.metadata.now.state c.args.position c.args.name.now c.in_ok-check_open.ensures.opened none

pub returns-in-Some-holder-clause-refused : goal.returns-in-Some-holder-clause-refused
returns-in-Some-holder-clause-refused c =
    let there = sym (ap (λ k. number_of k c.args.name.now) c.catalog-catalog.ensures) ∙ sym c.table_number.ensures.found ∙ c.in-Some.is in
    busy c.args.metadata.now.state c.args.position c.args.name.now c.in_ok-check_open.ensures.opened c.in-Some.table there c.in-Some-holder.lease (sym c.holder.ensures ∙ c.in-Some-holder.is)

pub returns-in-Some-next_work-clause-claimed : goal.returns-in-Some-next_work-clause-claimed
returns-in-Some-next_work-clause-claimed c =
    let same = c.catalog-catalog.ensures in
    let table = c.in-Some.table in
    let there = sym (ap (λ k. number_of k c.args.name.now) same) ∙ sym c.table_number.ensures.found ∙ c.in-Some.is in
    let ranges = c.in-Ok.ensures.ranges ∙ ap (λ k. ranges_of (meta_at k table)) same in
    let oldest = c.oldest.ensures ∙ ap (λ k. (meta_at k table).oldest) same in
    let newest = c.newest.ensures ∙ ap (λ (k : Catalog). base_before k.next) same in
    let work = sym (c.next_work.ensures ∙ (λ i. next_work (ranges i) (oldest i) (newest i))) ∙ c.in-Some-next_work.is in
    claimed c.args.metadata.now.state c.args.position c.args.name.now c.in_ok-check_open.ensures.opened table there c.in-Some-next_work.work (sym c.holder.ensures ∙ c.in_default-holder.is) work

pub returns-clause-refused : goal.returns-clause-refused
returns-clause-refused c =
    let same = c.catalog-catalog.ensures in
    let table = c.in-Some.table in
    let there = sym (ap (λ k. number_of k c.args.name.now) same) ∙ sym c.table_number.ensures.found ∙ c.in-Some.is in
    let ranges = c.in-Ok.ensures.ranges ∙ ap (λ k. ranges_of (meta_at k table)) same in
    let oldest = c.oldest.ensures ∙ ap (λ k. (meta_at k table).oldest) same in
    let newest = c.newest.ensures ∙ ap (λ (k : Catalog). base_before k.next) same in
    let none = sym (c.next_work.ensures ∙ (λ i. next_work (ranges i) (oldest i) (newest i))) ∙ c.in-None.is in
    idle c.args.metadata.now.state c.args.position c.args.name.now c.in_ok-check_open.ensures.opened table there (sym c.holder.ensures ∙ c.in_default-holder.is) none

pub returns-in-Some-next_work-clause-next : goal.returns-in-Some-next_work-clause-next
returns-in-Some-next_work-clause-next c =
    let same = c.catalog-catalog.ensures in
    let table = c.in-Some.table in
    let ranges = c.in-Ok.ensures.ranges ∙ ap (λ k. ranges_of (meta_at k table)) same in
    let oldest = c.oldest.ensures ∙ ap (λ k. (meta_at k table).oldest) same in
    let newest = c.newest.ensures ∙ ap (λ (k : Catalog). base_before k.next) same in
    sym (c.next_work.ensures ∙ (λ i. next_work (ranges i) (oldest i) (newest i))) ∙ c.in-Some-next_work.is
