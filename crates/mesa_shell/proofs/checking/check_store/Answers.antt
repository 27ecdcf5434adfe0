use Rattle.std.proofs.Common.{◌≡◌, Ok, Err, sym, ◌∙◌, subst}
use Rattle.std.specs.Prelude.{◌≢◌, IfErr, IfOk}
use Rattle.mesa_engine.specs.mesa_store_spec.Catalog.{Catalog}
use Rattle.mesa_recover.specs.Opening.{HasReason, ReadsAs}
use Rattle.mesa_recover.specs.declared.error.OpenError.TheVariants as open_error
use Rattle.mesa_check.specs.Verdict.{IsFirstFault, fault_told}
use Rattle.mesa_shell.specs.Ports.{ports}
use Rattle.mesa_shell.proofs.Verdicts.{check_decided, check_failed}
use Rattle.mesa_shell.proofs.checking.check_store.Goals as goal

pub returns-in-Ok : goal.returns-in-Ok
returns-in-Ok g c =
    let p = ports g.K.Sink.held g.K.Sink.faults g.D.Disk.story g.M.Made.bytes g.B.Bench.faults in
    let old = g.D.Disk.story c.args.given.disk in
    let v = c.verdict-verdict.ensures in
    let e = c.ended_checked.ensures in
    let there = subst (λ r. IfOk r (λ told. (k : Catalog) × ReadsAs old k × IsFirstFault old k (fault_told told))) c.in-Ok.is v.verdict in
    check_decided p c.args.given c.ended_checked.result c.verdict-verdict.result.1 e.disk v.unmoved (v.quiet (λ failed. absurd (let never : Ok c.in-Ok.verdict ≡ Err open_error.Fault = sym c.in-Ok.is ∙ failed in cc))) there.0 (fault_told c.in-Ok.verdict) there.1 there.2 e.ended

pub returns-in-Err : goal.returns-in-Err
returns-in-Err g c =
    let p = ports g.K.Sink.held g.K.Sink.faults g.D.Disk.story g.M.Made.bytes g.B.Bench.faults in
    let disk = c.verdict-verdict.result.1 in
    let v = c.verdict-verdict.ensures in
    let e = c.ended_opening.ensures in
    let reason = subst (λ r. IfErr r (HasReason (g.D.Disk.story c.args.given.disk) (g.D.Disk.story disk))) c.in-Err.is v.reason in
    let other = subst (λ r. IfErr r (λ x. x ≢ open_error.RunsFull)) c.in-Err.is v.other in
    let quiet = λ (fault : c.in-Err.error ≢ open_error.Fault). v.quiet (λ failed. fault (let same : Err c.in-Err.error ≡ Err open_error.Fault = sym c.in-Err.is ∙ failed in cc)) in
    check_failed p c.args.given c.ended_opening.result disk e.disk v.unmoved c.in-Err.error reason other quiet e.ended
