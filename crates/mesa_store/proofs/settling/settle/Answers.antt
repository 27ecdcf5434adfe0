use Rattle.std.proofs.Common.{◌≡◌, ◌<◌, ◌≤◌, length, Some, arith}
use Rattle.mesa_disk.specs.Image.{Image, area_of}
use Rattle.mesa_store.proofs.Gates.{synced, held, gated, held_gated, told_synced}
use Rattle.mesa_store.proofs.settling.settle.Goals as goal

pub returns-in_err-journal_sync-clause-told : goal.returns-in_err-journal_sync-clause-told
returns-in_err-journal_sync-clause-told g c = told_synced c.args.live _ _ c.journal_sync.ensures.told

pub returns-then-journal_len-gt1-clause-done : goal.returns-then-journal_len-gt1-clause-done
returns-then-journal_len-gt1-clause-done g c bodies end k rows found =
    let story = g.D.Disk.story in
    let laws = g.met.D.Disk g.world.𝓛 g.world.𝓜 g.world.𝓡 ((λ s x. x), (λ x. x), (λ x. x), λ x. x) in
    let s1 = story c.journal_sync.new.self in
    let long = λ (x : Image) (is : s1.told ≡ Some x). (let n : 1 < length (area_of c.args.live x) = omega (arith, laws.lengths c.journal_sync.new.self x c.args.live is, c.journal_len.ensures, c.if-journal_len-gt1.true) in n) in
    held c.args.live bodies end k rows (story c.args.disk.now) found s1 c.journal_sync.ensures.told c.in_ok-journal_sync.ensures.durable long

pub returns-then-journal_len-gt1-clause-told : goal.returns-then-journal_len-gt1-clause-told
returns-then-journal_len-gt1-clause-told g c = told_synced c.args.live _ _ c.journal_sync.ensures.told

pub returns-in_err-close_gate-clause-images : goal.returns-in_err-close_gate-clause-images
returns-in_err-close_gate-clause-images g c bodies end k rows found =
    let story = g.D.Disk.story in
    let laws = g.met.D.Disk g.world.𝓛 g.world.𝓜 g.world.𝓡 ((λ s x. x), (λ x. x), (λ x. x), λ x. x) in
    let s0 = story c.args.disk.now in
    let s1 = story c.journal_sync.new.self in
    let short = λ (x : Image) (is : s1.told ≡ Some x). (let n : length (area_of c.args.live x) ≤ 1 = omega (arith, laws.lengths c.journal_sync.new.self x c.args.live is, c.journal_len.ensures, c.if-journal_len-gt1.false) in n) in
    gated c.args.live bodies end k rows s0 found s1 c.journal_sync.ensures.told c.in_ok-journal_sync.ensures.durable short (story c.close_gate.new.disk)
    (synced c.args.live bodies end k rows s0 found s1 c.journal_sync.ensures.crash c.journal_sync.ensures.time) (λ all_short. record { run = c.close_gate.ensures.any_moment all_short; left = c.close_gate.ensures.left all_short })

pub returns-clause-images : goal.returns-clause-images
returns-clause-images g c bodies end k rows found =
    let story = g.D.Disk.story in
    let laws = g.met.D.Disk g.world.𝓛 g.world.𝓜 g.world.𝓡 ((λ s x. x), (λ x. x), (λ x. x), λ x. x) in
    let s0 = story c.args.disk.now in
    let s1 = story c.journal_sync.new.self in
    let short = λ (x : Image) (is : s1.told ≡ Some x). (let n : length (area_of c.args.live x) ≤ 1 = omega (arith, laws.lengths c.journal_sync.new.self x c.args.live is, c.journal_len.ensures, c.if-journal_len-gt1.false) in n) in
    gated c.args.live bodies end k rows s0 found s1 c.journal_sync.ensures.told c.in_ok-journal_sync.ensures.durable short (story c.close_gate.new.disk)
    (synced c.args.live bodies end k rows s0 found s1 c.journal_sync.ensures.crash c.journal_sync.ensures.time) (λ all_short. record { run = c.close_gate.ensures.any_moment all_short; left = c.close_gate.ensures.left all_short })

pub returns-clause-done : goal.returns-clause-done
returns-clause-done g c bodies end k rows found =
    let story = g.D.Disk.story in
    let laws = g.met.D.Disk g.world.𝓛 g.world.𝓜 g.world.𝓡 ((λ s x. x), (λ x. x), (λ x. x), λ x. x) in
    let s1 = story c.journal_sync.new.self in
    let short = λ (x : Image) (is : s1.told ≡ Some x). (let n : length (area_of c.args.live x) ≤ 1 = omega (arith, laws.lengths c.journal_sync.new.self x c.args.live is, c.journal_len.ensures, c.if-journal_len-gt1.false) in n) in
    held_gated c.args.live bodies end k rows (story c.args.disk.now) found s1 c.journal_sync.ensures.told c.in_ok-journal_sync.ensures.durable short
    (story c.close_gate.new.disk) c.in_ok-close_gate.ensures.settled c.close_gate.ensures.told c.in_ok-close_gate.ensures.durable
