use Rattle.std.proofs.Common.{◌≡◌, inr, refl, sym, ◌∙◌, ap, subst, Some, None}
use Rattle.mesa_parse.specs.declared.forms.Form.{Form}
use Rattle.mesa_parse.specs.declared.forms.Form.TheVariants as form
use Rattle.mesa_shell.specs.Exit.{EndsCheck, EndsDigest, EndsGenerated, EndsRun}
use Rattle.mesa_shell.specs.Ports.{ports}
use Rattle.mesa_shell.proofs.Forms.{answered, answered_as}
use Rattle.mesa_shell.proofs.shell.mesa.Goals as goal

-- a call over the same devices that leaves the same
through : {A B : Type 0} (P : A → B → Type 0) {a given : A} {b left : B} → a ≡ given → left ≡ b → P a b → P given left
through P {a} {given} {b} {left} same out is = subst (λ v. P v left) same (subst (λ d. P a d) (sym out) is)

pub returns-in-Ok-Some-Run : goal.returns-in-Ok-Some-Run
returns-in-Ok-Some-Run g c =
    let a = answered_as (ports g.K.Sink.held g.K.Sink.faults g.D.Disk.story g.M.Made.bytes g.B.Bench.faults) (record { out = c.args.out; disk = c.args.disk; benches = c.args.benches }) c.without_indexes.result _ _ _ _ (Some form.Run) (ap (λ (f : Form). Some f) (sym c.in-Ok-Some-Run.field-0-0-is) ∙ sym c.in-Ok-Some-Run.field-0-is ∙ c.in-Ok-Some-Run.ensures)
    (through (λ v d. EndsRun (ports g.K.Sink.held g.K.Sink.faults g.D.Disk.story g.M.Made.bytes g.B.Bench.faults) v d (g.S.Source.left c.args.src.now) (g.S.Source.faults c.args.src.now) (g.S.Source.faults c.run_source.new.src)) c.with_indexes-given.ensures c.without_indexes.ensures c.run_source.ensures) in
    record { ends = a.ends; tells = a.tells; untouched = λ other. absurd (other (sym (ap (λ (f : Form). Some f) (sym c.in-Ok-Some-Run.field-0-0-is) ∙ sym c.in-Ok-Some-Run.field-0-is ∙ c.in-Ok-Some-Run.ensures))); completes = a.completes; looks = a.looks; decides = a.decides }

pub returns-in-Ok-Some-Gen : goal.returns-in-Ok-Some-Gen
returns-in-Ok-Some-Gen g c =
    let a = answered_as (ports g.K.Sink.held g.K.Sink.faults g.D.Disk.story g.M.Made.bytes g.B.Bench.faults) (record { out = c.args.out; disk = c.args.disk; benches = c.args.benches }) c.without_indexes-in-Ok-Some-Gen.result _ _ _ _ (Some (form.Gen c.in-Ok-Some-Gen.seed c.in-Ok-Some-Gen.versions)) (ap (λ (f : Form). Some f) (sym c.in-Ok-Some-Gen.field-0-0-is) ∙ sym c.in-Ok-Some-Gen.field-0-is ∙ c.in-Ok-Some-Gen.ensures)
    (refl, through (λ v d. EndsGenerated (ports g.K.Sink.held g.K.Sink.faults g.D.Disk.story g.M.Made.bytes g.B.Bench.faults) v d c.in-Ok-Some-Gen.seed c.in-Ok-Some-Gen.versions) c.with_indexes-given-in-Ok-Some-Gen.ensures c.without_indexes-in-Ok-Some-Gen.ensures c.run_generated.ensures) in
    record { ends = a.ends; tells = a.tells; untouched = λ other. refl; completes = a.completes; looks = a.looks; decides = a.decides }

pub returns-in-Ok-Some-Check : goal.returns-in-Ok-Some-Check
returns-in-Ok-Some-Check g c =
    let a = answered_as (ports g.K.Sink.held g.K.Sink.faults g.D.Disk.story g.M.Made.bytes g.B.Bench.faults) (record { out = c.args.out; disk = c.args.disk; benches = c.args.benches }) c.without_indexes-in-Ok-Some-Check.result _ _ _ _ (Some form.Check) (ap (λ (f : Form). Some f) (sym c.in-Ok-Some-Check.field-0-0-is) ∙ sym c.in-Ok-Some-Check.field-0-is ∙ c.in-Ok-Some-Check.ensures)
    (refl, through (λ v d. EndsCheck (ports g.K.Sink.held g.K.Sink.faults g.D.Disk.story g.M.Made.bytes g.B.Bench.faults) v d) c.with_indexes-given-in-Ok-Some-Check.ensures c.without_indexes-in-Ok-Some-Check.ensures c.check_store.ensures) in
    record { ends = a.ends; tells = a.tells; untouched = λ other. refl; completes = a.completes; looks = a.looks; decides = a.decides }

pub returns-in-Ok-Some-Digest : goal.returns-in-Ok-Some-Digest
returns-in-Ok-Some-Digest g c =
    let p = ports g.K.Sink.held g.K.Sink.faults g.D.Disk.story g.M.Made.bytes g.B.Bench.faults in
    let a = answered_as p (record { out = c.args.out; disk = c.args.disk; benches = c.args.benches }) c.without_indexes-in-Ok-Some-Digest.result _ _ _ _ (Some (form.Digest c.in-Ok-Some-Digest.relation)) (ap (λ (f : Form). Some f) (sym c.in-Ok-Some-Digest.field-0-0-is) ∙ sym c.in-Ok-Some-Digest.field-0-is ∙ c.in-Ok-Some-Digest.ensures)
    (refl, through (λ v d. EndsDigest p v d c.in-Ok-Some-Digest.relation) c.with_indexes-given-in-Ok-Some-Digest.ensures c.without_indexes-in-Ok-Some-Digest.ensures (subst (λ name. EndsDigest p c.with_indexes-given-in-Ok-Some-Digest.result c.digest_relation.result name) c.as_slice.ensures c.digest_relation.ensures)) in
    record { ends = a.ends; tells = a.tells; untouched = λ other. refl; completes = a.completes; looks = a.looks; decides = a.decides }

pub returns-in-Ok-None : goal.returns-in-Ok-None
returns-in-Ok-None g c =
    let a = answered_as (ports g.K.Sink.held g.K.Sink.faults g.D.Disk.story g.M.Made.bytes g.B.Bench.faults) (record { out = c.args.out; disk = c.args.disk; benches = c.args.benches }) c.ended.result _ _ _ _ None (sym c.in-Ok-None.field-0-is ∙ c.in-Ok-None.ensures) (refl, (c.ended.ensures.disk, c.ended.ensures.ended)) in
    record { ends = a.ends; tells = a.tells; untouched = λ other. refl; completes = a.completes; looks = a.looks; decides = a.decides }

pub returns-in-Err : goal.returns-in-Err
returns-in-Err g c =
    let a = answered (ports g.K.Sink.held g.K.Sink.faults g.D.Disk.story g.M.Made.bytes g.B.Bench.faults) (record { out = c.args.out; disk = c.args.disk; benches = c.args.benches }) c.lacks_memory.result _ _ _ _ (inr (refl, (c.lacks_memory.ensures.disk, c.lacks_memory.ensures.ended))) in
    record { ends = a.ends; tells = a.tells; untouched = λ other. refl; completes = a.completes; looks = a.looks; decides = a.decides }
