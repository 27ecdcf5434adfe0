use Rattle.std.proofs.Common.{◌≡◌, length, subst, sym, ◌∙◌, ap, arith, Some}
use Rattle.mesa_disk.specs.Image.{Image, AnyChange}
use Rattle.mesa_disk.specs.Story.{Steps}
use Rattle.mesa_disk.proofs.Run.{spans_synced, told_changed, told_twice}
use Rattle.mesa_journal.specs.Settled.{IsWithinAppend}
use Rattle.mesa_journal.proofs.Bytes.{length-record_bytes}
use Rattle.mesa_journal.proofs.Appending.{written, staged, gated, opened}
use Rattle.mesa_journal.proofs.writing.append.Goals as goal

pub returns-clause-end : goal.returns-clause-end
returns-clause-end g c = omega (arith, ap length c.behind_gate-bytes.ensures.bytes, length-record_bytes c.args.framed.now)

pub returns-in_err-journal_write-clause-any_moment : goal.returns-in_err-journal_write-clause-any_moment
returns-in_err-journal_write-clause-any_moment g c bodies settled =
    let story = g.D.Disk.story in
    let start = story c.args.disk.now in
    let area = c.args.area in
    let end = c.args.end in
    let body = c.args.framed.now in
    let small = c.behind_gate-bytes.ensures.fits in
    let P = IsWithinAppend start area bodies end body in
    let one = written start area bodies end body small settled _ (story c.journal_write.new.self) c.journal_write.ensures.crash c.journal_write.ensures.time in
    one.run

pub returns-in_err-journal_write-clause-left : goal.returns-in_err-journal_write-clause-left
returns-in_err-journal_write-clause-left g c bodies settled =
    let story = g.D.Disk.story in
    let start = story c.args.disk.now in
    let area = c.args.area in
    let end = c.args.end in
    let body = c.args.framed.now in
    let small = c.behind_gate-bytes.ensures.fits in
    let P = IsWithinAppend start area bodies end body in
    let one = written start area bodies end body small settled _ (story c.journal_write.new.self) c.journal_write.ensures.crash c.journal_write.ensures.time in
    one.left

pub returns-in_err-journal_sync-clause-any_moment : goal.returns-in_err-journal_sync-clause-any_moment
returns-in_err-journal_sync-clause-any_moment g c bodies settled =
    let story = g.D.Disk.story in
    let start = story c.args.disk.now in
    let area = c.args.area in
    let end = c.args.end in
    let body = c.args.framed.now in
    let small = c.behind_gate-bytes.ensures.fits in
    let P = IsWithinAppend start area bodies end body in
    let one = written start area bodies end body small settled _ (story c.journal_write.new.self) c.journal_write.ensures.crash c.journal_write.ensures.time in
    let two = spans_synced P start (story c.journal_write.new.self) (story c.journal_sync.new.self) one c.journal_sync.ensures.crash c.journal_sync.ensures.time in
    two.run

pub returns-in_err-journal_sync-clause-left : goal.returns-in_err-journal_sync-clause-left
returns-in_err-journal_sync-clause-left g c bodies settled =
    let story = g.D.Disk.story in
    let start = story c.args.disk.now in
    let area = c.args.area in
    let end = c.args.end in
    let body = c.args.framed.now in
    let small = c.behind_gate-bytes.ensures.fits in
    let P = IsWithinAppend start area bodies end body in
    let one = written start area bodies end body small settled _ (story c.journal_write.new.self) c.journal_write.ensures.crash c.journal_write.ensures.time in
    let two = spans_synced P start (story c.journal_write.new.self) (story c.journal_sync.new.self) one c.journal_sync.ensures.crash c.journal_sync.ensures.time in
    two.left

pub returns-in_err-journal_write-2-clause-any_moment : goal.returns-in_err-journal_write-2-clause-any_moment
returns-in_err-journal_write-2-clause-any_moment g c bodies settled =
    let story = g.D.Disk.story in
    let start = story c.args.disk.now in
    let area = c.args.area in
    let end = c.args.end in
    let body = c.args.framed.now in
    let small = c.behind_gate-bytes.ensures.fits in
    let P = IsWithinAppend start area bodies end body in
    let one = written start area bodies end body small settled _ (story c.journal_write.new.self) c.journal_write.ensures.crash c.journal_write.ensures.time in
    let two = spans_synced P start (story c.journal_write.new.self) (story c.journal_sync.new.self) one c.journal_sync.ensures.crash c.journal_sync.ensures.time in
    let is_staged = λ (x : Image) (is : (story c.journal_sync.new.self).told ≡ Some x).
    staged start area bodies end body small settled _ c.behind_gate-bytes.ensures.bytes _ c.in_ok-journal_write.ensures.written x (sym c.journal_sync.ensures.told ∙ is) in
    let three = gated start area bodies end body small settled (story c.journal_sync.new.self) (story c.journal_write-2.new.self) two is_staged c.in_ok-journal_sync.ensures.durable _ c.gate.ensures c.journal_write-2.ensures.crash c.journal_write-2.ensures.time in
    three.run

pub returns-in_err-journal_write-2-clause-left : goal.returns-in_err-journal_write-2-clause-left
returns-in_err-journal_write-2-clause-left g c bodies settled =
    let story = g.D.Disk.story in
    let start = story c.args.disk.now in
    let area = c.args.area in
    let end = c.args.end in
    let body = c.args.framed.now in
    let small = c.behind_gate-bytes.ensures.fits in
    let P = IsWithinAppend start area bodies end body in
    let one = written start area bodies end body small settled _ (story c.journal_write.new.self) c.journal_write.ensures.crash c.journal_write.ensures.time in
    let two = spans_synced P start (story c.journal_write.new.self) (story c.journal_sync.new.self) one c.journal_sync.ensures.crash c.journal_sync.ensures.time in
    let is_staged = λ (x : Image) (is : (story c.journal_sync.new.self).told ≡ Some x).
    staged start area bodies end body small settled _ c.behind_gate-bytes.ensures.bytes _ c.in_ok-journal_write.ensures.written x (sym c.journal_sync.ensures.told ∙ is) in
    let three = gated start area bodies end body small settled (story c.journal_sync.new.self) (story c.journal_write-2.new.self) two is_staged c.in_ok-journal_sync.ensures.durable _ c.gate.ensures c.journal_write-2.ensures.crash c.journal_write-2.ensures.time in
    three.left

pub returns-in_err-journal_sync-2-clause-any_moment : goal.returns-in_err-journal_sync-2-clause-any_moment
returns-in_err-journal_sync-2-clause-any_moment g c bodies settled =
    let story = g.D.Disk.story in
    let start = story c.args.disk.now in
    let area = c.args.area in
    let end = c.args.end in
    let body = c.args.framed.now in
    let small = c.behind_gate-bytes.ensures.fits in
    let P = IsWithinAppend start area bodies end body in
    let one = written start area bodies end body small settled _ (story c.journal_write.new.self) c.journal_write.ensures.crash c.journal_write.ensures.time in
    let two = spans_synced P start (story c.journal_write.new.self) (story c.journal_sync.new.self) one c.journal_sync.ensures.crash c.journal_sync.ensures.time in
    let is_staged = λ (x : Image) (is : (story c.journal_sync.new.self).told ≡ Some x).
    staged start area bodies end body small settled _ c.behind_gate-bytes.ensures.bytes _ c.in_ok-journal_write.ensures.written x (sym c.journal_sync.ensures.told ∙ is) in
    let three = gated start area bodies end body small settled (story c.journal_sync.new.self) (story c.journal_write-2.new.self) two is_staged c.in_ok-journal_sync.ensures.durable _ c.gate.ensures c.journal_write-2.ensures.crash c.journal_write-2.ensures.time in
    let four = spans_synced P start (story c.journal_write-2.new.self) (story c.journal_sync-2.new.self) three c.journal_sync-2.ensures.crash c.journal_sync-2.ensures.time in
    four.run

pub returns-in_err-journal_sync-2-clause-left : goal.returns-in_err-journal_sync-2-clause-left
returns-in_err-journal_sync-2-clause-left g c bodies settled =
    let story = g.D.Disk.story in
    let start = story c.args.disk.now in
    let area = c.args.area in
    let end = c.args.end in
    let body = c.args.framed.now in
    let small = c.behind_gate-bytes.ensures.fits in
    let P = IsWithinAppend start area bodies end body in
    let one = written start area bodies end body small settled _ (story c.journal_write.new.self) c.journal_write.ensures.crash c.journal_write.ensures.time in
    let two = spans_synced P start (story c.journal_write.new.self) (story c.journal_sync.new.self) one c.journal_sync.ensures.crash c.journal_sync.ensures.time in
    let is_staged = λ (x : Image) (is : (story c.journal_sync.new.self).told ≡ Some x).
    staged start area bodies end body small settled _ c.behind_gate-bytes.ensures.bytes _ c.in_ok-journal_write.ensures.written x (sym c.journal_sync.ensures.told ∙ is) in
    let three = gated start area bodies end body small settled (story c.journal_sync.new.self) (story c.journal_write-2.new.self) two is_staged c.in_ok-journal_sync.ensures.durable _ c.gate.ensures c.journal_write-2.ensures.crash c.journal_write-2.ensures.time in
    let four = spans_synced P start (story c.journal_write-2.new.self) (story c.journal_sync-2.new.self) three c.journal_sync-2.ensures.crash c.journal_sync-2.ensures.time in
    four.left

pub returns-clause-any_moment : goal.returns-clause-any_moment
returns-clause-any_moment g c bodies settled =
    let story = g.D.Disk.story in
    let start = story c.args.disk.now in
    let area = c.args.area in
    let end = c.args.end in
    let body = c.args.framed.now in
    let small = c.behind_gate-bytes.ensures.fits in
    let P = IsWithinAppend start area bodies end body in
    let one = written start area bodies end body small settled _ (story c.journal_write.new.self) c.journal_write.ensures.crash c.journal_write.ensures.time in
    let two = spans_synced P start (story c.journal_write.new.self) (story c.journal_sync.new.self) one c.journal_sync.ensures.crash c.journal_sync.ensures.time in
    let is_staged = λ (x : Image) (is : (story c.journal_sync.new.self).told ≡ Some x).
    staged start area bodies end body small settled _ c.behind_gate-bytes.ensures.bytes _ c.in_ok-journal_write.ensures.written x (sym c.journal_sync.ensures.told ∙ is) in
    let three = gated start area bodies end body small settled (story c.journal_sync.new.self) (story c.journal_write-2.new.self) two is_staged c.in_ok-journal_sync.ensures.durable _ c.gate.ensures c.journal_write-2.ensures.crash c.journal_write-2.ensures.time in
    let four = spans_synced P start (story c.journal_write-2.new.self) (story c.journal_sync-2.new.self) three c.journal_sync-2.ensures.crash c.journal_sync-2.ensures.time in
    four.run

pub returns-clause-left : goal.returns-clause-left
returns-clause-left g c bodies settled =
    let story = g.D.Disk.story in
    let start = story c.args.disk.now in
    let area = c.args.area in
    let end = c.args.end in
    let body = c.args.framed.now in
    let small = c.behind_gate-bytes.ensures.fits in
    let P = IsWithinAppend start area bodies end body in
    let one = written start area bodies end body small settled _ (story c.journal_write.new.self) c.journal_write.ensures.crash c.journal_write.ensures.time in
    let two = spans_synced P start (story c.journal_write.new.self) (story c.journal_sync.new.self) one c.journal_sync.ensures.crash c.journal_sync.ensures.time in
    let is_staged = λ (x : Image) (is : (story c.journal_sync.new.self).told ≡ Some x).
    staged start area bodies end body small settled _ c.behind_gate-bytes.ensures.bytes _ c.in_ok-journal_write.ensures.written x (sym c.journal_sync.ensures.told ∙ is) in
    let three = gated start area bodies end body small settled (story c.journal_sync.new.self) (story c.journal_write-2.new.self) two is_staged c.in_ok-journal_sync.ensures.durable _ c.gate.ensures c.journal_write-2.ensures.crash c.journal_write-2.ensures.time in
    let four = spans_synced P start (story c.journal_write-2.new.self) (story c.journal_sync-2.new.self) three c.journal_sync-2.ensures.crash c.journal_sync-2.ensures.time in
    four.left

pub returns-clause-acknowledged : goal.returns-clause-acknowledged
returns-clause-acknowledged g c bodies settled =
    let story = g.D.Disk.story in
    let start = story c.args.disk.now in
    let area = c.args.area in
    let end = c.args.end in
    let body = c.args.framed.now in
    let small = c.behind_gate-bytes.ensures.fits in
    let is_staged = λ (x : Image) (is : (story c.journal_sync.new.self).told ≡ Some x).
    staged start area bodies end body small settled _ c.behind_gate-bytes.ensures.bytes _ c.in_ok-journal_write.ensures.written x (sym c.journal_sync.ensures.told ∙ is) in
    let told = λ (x : Image) (is : (story c.journal_sync-2.new.self).told ≡ Some x).
    opened start area bodies end body small settled _ _ is_staged _ c.gate.ensures c.in_ok-journal_write-2.ensures.written x (sym c.journal_sync-2.ensures.told ∙ is) in
    record { read = told; left = λ x now. told x (c.in_ok-journal_sync-2.ensures.durable x now) }

pub returns-in_err-journal_write-clause-told : goal.returns-in_err-journal_write-clause-told
returns-in_err-journal_write-clause-told g c =
    let story = g.D.Disk.story in
    let area = c.args.area in
    let first = told_changed area _ _ (story c.journal_write.new.self).told c.journal_write.ensures.torn in
    first

pub returns-in_err-journal_sync-clause-told : goal.returns-in_err-journal_sync-clause-told
returns-in_err-journal_sync-clause-told g c =
    let story = g.D.Disk.story in
    let area = c.args.area in
    let first = told_changed area _ _ (story c.journal_write.new.self).told c.journal_write.ensures.torn in
    let synced = subst (λ t. Steps (AnyChange area) (story c.args.disk.now).told t) (sym c.journal_sync.ensures.told) first in
    synced

pub returns-in_err-journal_write-2-clause-told : goal.returns-in_err-journal_write-2-clause-told
returns-in_err-journal_write-2-clause-told g c =
    let story = g.D.Disk.story in
    let area = c.args.area in
    let first = told_changed area _ _ (story c.journal_write.new.self).told c.journal_write.ensures.torn in
    let synced = subst (λ t. Steps (AnyChange area) (story c.args.disk.now).told t) (sym c.journal_sync.ensures.told) first in
    let second = told_twice area _ _ _ synced (told_changed area _ _ (story c.journal_write-2.new.self).told c.journal_write-2.ensures.torn) in
    second

pub returns-in_err-journal_sync-2-clause-told : goal.returns-in_err-journal_sync-2-clause-told
returns-in_err-journal_sync-2-clause-told g c =
    let story = g.D.Disk.story in
    let area = c.args.area in
    let first = told_changed area _ _ (story c.journal_write.new.self).told c.journal_write.ensures.torn in
    let synced = subst (λ t. Steps (AnyChange area) (story c.args.disk.now).told t) (sym c.journal_sync.ensures.told) first in
    let second = told_twice area _ _ _ synced (told_changed area _ _ (story c.journal_write-2.new.self).told c.journal_write-2.ensures.torn) in
    subst (λ t. Steps (AnyChange area) (story c.args.disk.now).told t) (sym c.journal_sync-2.ensures.told) second

pub returns-clause-told : goal.returns-clause-told
returns-clause-told g c =
    let story = g.D.Disk.story in
    let area = c.args.area in
    let first = told_changed area _ _ (story c.journal_write.new.self).told c.journal_write.ensures.torn in
    let synced = subst (λ t. Steps (AnyChange area) (story c.args.disk.now).told t) (sym c.journal_sync.ensures.told) first in
    let second = told_twice area _ _ _ synced (told_changed area _ _ (story c.journal_write-2.new.self).told c.journal_write-2.ensures.torn) in
    subst (λ t. Steps (AnyChange area) (story c.args.disk.now).told t) (sym c.journal_sync-2.ensures.told) second
