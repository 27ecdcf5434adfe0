use Rattle.std.proofs.Common.{◌≡◌, ◌∙◌, subst, arith}
use Rattle.std.specs.Prelude.{IfOk}
use Rattle.mesa_disk.specs.declared.area.Area.TheVariants.{Zero, One}
use Rattle.mesa_journal.specs.Journal.{IsJournal}
use Rattle.mesa_journal.specs.Live.{IsScanned}
use Rattle.mesa_journal.specs.Read.{bodies_of}
use Rattle.mesa_journal.proofs.Scanning.{found_live}
use Rattle.mesa_journal.proofs.both.read_live.Goals as goal

pub returns-then-rank-clause-found : goal.returns-then-rank-clause-found
returns-then-rank-clause-found g c i told =
    let zero : c.in_ok-zero.zero.items ≡ i.zero = c.in_ok-zero.ensures.bytes i told in
    let one : c.in_ok-one.one.items ≡ i.one = c.in_ok-one.ensures.bytes i (c.scan_area.ensures.unmoved.told ∙ told) in
    let first : IsScanned i.zero c.in_ok-zero.first = subst (λ b. IsScanned b c.in_ok-zero.first) zero c.in_ok-zero.ensures.scanned in
    let second : IsScanned i.one c.in_ok-one.second = subst (λ b. IsScanned b c.in_ok-one.second) one c.in_ok-one.ensures.scanned in
    let made = c.live_in.ensures in
    found_live i One c.in_ok-one.second c.in_ok-zero.first second first (λ bs os e f. omega (arith, e, f)) c.live_in.result made.live made.number made.holds
    (subst (λ b. IfOk c.live_in.result (λ x. IsJournal b (bodies_of x.read.bodies) x.read.end)) (c.deref.ensures.value ∙ one) made.whole) made.places made.memory

pub returns-clause-found : goal.returns-clause-found
returns-clause-found g c i told =
    let zero : c.in_ok-zero.zero.items ≡ i.zero = c.in_ok-zero.ensures.bytes i told in
    let one : c.in_ok-one.one.items ≡ i.one = c.in_ok-one.ensures.bytes i (c.scan_area.ensures.unmoved.told ∙ told) in
    let first : IsScanned i.zero c.in_ok-zero.first = subst (λ b. IsScanned b c.in_ok-zero.first) zero c.in_ok-zero.ensures.scanned in
    let second : IsScanned i.one c.in_ok-one.second = subst (λ b. IsScanned b c.in_ok-one.second) one c.in_ok-one.ensures.scanned in
    let made = c.live_in-2.ensures in
    found_live i Zero c.in_ok-zero.first c.in_ok-one.second first second (λ bs os e f. omega (arith, e, f)) c.live_in-2.result made.live made.number made.holds
    (subst (λ b. IfOk c.live_in-2.result (λ x. IsJournal b (bodies_of x.read.bodies) x.read.end)) (c.deref-2.ensures.value ∙ zero) made.whole) made.places made.memory
