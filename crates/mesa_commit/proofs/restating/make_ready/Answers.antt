use Rattle.std.proofs.Common.{◌≡◌, inl, ◌<◌, length, Some, sym, ◌∙◌, arith}
use Rattle.mesa_disk.specs.Image.{Image, area_of}
use Rattle.mesa_journal.specs.Areas.{MayClose}
use Rattle.mesa_journal.proofs.Live.{may_close}
use Rattle.mesa_commit.proofs.Anew.{untouched, stays_told, settled_long, may_close_all}
use Rattle.mesa_commit.proofs.restating.make_ready.Goals.{else-not-holds-via-then-not-holds+else-journal_len-gt1, else-not-holds-via-else-not-holds}
use Rattle.mesa_commit.proofs.restating.make_ready.Goals as goal

pub returns-then-journal_len-gt1-clause-settled : goal.returns-then-journal_len-gt1-clause-settled
returns-then-journal_len-gt1-clause-settled g c alone =
    let laws = g.met.D.Disk g.world.𝓛 g.world.𝓜 g.world.𝓡 ((λ s x. x), (λ x. x), (λ x. x), λ x. x) in
    let long = λ (i : Image) (e : (g.D.Disk.story c.args.disk.now).told ≡ Some i). (let n : 1 < length (area_of c.args.area i) = omega (arith, laws.lengths c.args.disk.now i c.args.area e, c.journal_len.ensures, c.if-journal_len-gt1.true) in n) in
    settled_long (g.D.Disk.story c.args.disk.now) c.args.area c.args.holds c.requires alone long c.if-not-holds.true

pub returns-then-journal_len-gt1-clause-images : goal.returns-then-journal_len-gt1-clause-images
returns-then-journal_len-gt1-clause-images g c alone = untouched (g.D.Disk.story c.args.disk.now) c.args.area

pub returns-then-journal_len-gt1-clause-told : goal.returns-then-journal_len-gt1-clause-told
returns-then-journal_len-gt1-clause-told g c = stays_told c.args.area (g.D.Disk.story c.args.disk.now).told

pub returns-in_err-close_gate-clause-images : goal.returns-in_err-close_gate-clause-images
returns-in_err-close_gate-clause-images g c alone =
    let story = g.D.Disk.story in
    let laws = g.met.D.Disk g.world.𝓛 g.world.𝓜 g.world.𝓡 ((λ s x. x), (λ x. x), (λ x. x), λ x. x) in
    let may : (i : Image) → (story c.args.disk.now).told ≡ Some i → MayClose (area_of c.args.area i) = λ i e. elim c.else-not-holds.branch [
      | else-not-holds-via-then-not-holds+else-journal_len-gt1 w ↦ inl (omega (arith, laws.lengths c.args.disk.now i c.args.area e, w.journal_len.ensures, w.if-journal_len-gt1.false))
      | else-not-holds-via-else-not-holds w ↦ may_close (area_of c.args.area i) (sym (c.requires i e) ∙ w.if-not-holds.false)
    ] in
    let all = may_close_all (story c.args.disk.now) c.args.area may alone in
    record { run = c.close_gate.ensures.any_moment all; left = c.close_gate.ensures.left all }

pub returns-clause-images : goal.returns-clause-images
returns-clause-images g c alone =
    let story = g.D.Disk.story in
    let laws = g.met.D.Disk g.world.𝓛 g.world.𝓜 g.world.𝓡 ((λ s x. x), (λ x. x), (λ x. x), λ x. x) in
    let may : (i : Image) → (story c.args.disk.now).told ≡ Some i → MayClose (area_of c.args.area i) = λ i e. elim c.else-not-holds.branch [
      | else-not-holds-via-then-not-holds+else-journal_len-gt1 w ↦ inl (omega (arith, laws.lengths c.args.disk.now i c.args.area e, w.journal_len.ensures, w.if-journal_len-gt1.false))
      | else-not-holds-via-else-not-holds w ↦ may_close (area_of c.args.area i) (sym (c.requires i e) ∙ w.if-not-holds.false)
    ] in
    let all = may_close_all (story c.args.disk.now) c.args.area may alone in
    record { run = c.close_gate.ensures.any_moment all; left = c.close_gate.ensures.left all }
