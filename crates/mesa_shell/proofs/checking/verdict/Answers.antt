use Rattle.std.proofs.Common.{◌≡◌, Err, true, false, refl, ap, subst, sym}
use Rattle.mesa_disk.specs.Story.{Unmoved}
use Rattle.mesa_check.specs.mesa_examine.Examined.{is_read_failure}
use Rattle.mesa_recover.specs.Opening.{HasReason}
use Rattle.mesa_recover.specs.declared.error.OpenError.TheVariants as open_error
use Rattle.mesa_check.specs.Verdict.{fault_told}
use Rattle.mesa_check.specs.declared.verdict.Verdict.{Verdict}
use Rattle.mesa_shell.specs.Unopened.{HasSameCounts}
use Rattle.mesa_shell.proofs.Verdicts.{counts_there, fault_there, nothing_moved, one_rose, verdict_there}
use Rattle.mesa_shell.proofs.checking.verdict.Goals as goal

pub returns-in-Ok-check : goal.returns-in-Ok-check
returns-in-Ok-check g c =
    let old = g.D.Disk.story c.args.disk in
    let mid = g.D.Disk.story c.in-Ok.opened.disk in
    let new = g.D.Disk.story c.check.new.opened.disk in
    let o = c.in-Ok.opened in
    let r = c.in-Ok.ensures in
    let k = c.in-Ok-check.ensures in
    record {
      verdict = verdict_there old mid new r.unmoved k.unmoved o.area r.opened.bodies o.end o.catalog.catalogue (fault_told c.in-Ok-check.verdict) r.opened.reads k.verdict;
      reason = tt;
      other = tt;
      unmoved = subst (λ d. Unmoved old (g.D.Disk.story d)) (sym c.disk_of.ensures) (nothing_moved old mid new r.unmoved k.unmoved);
      quiet = λ other. subst (λ d. HasSameCounts old (g.D.Disk.story d)) (sym c.disk_of.ensures) (counts_there old mid new r.unmoved k.unmoved r.quiet (k.counted.quiet refl));
    }

pub returns-in-Err-Read : goal.returns-in-Err-Read
returns-in-Err-Read g c =
    let old = g.D.Disk.story c.args.disk in
    let mid = g.D.Disk.story c.in-Ok.opened.disk in
    let new = g.D.Disk.story c.check.new.opened.disk in
    let r = c.in-Ok.ensures in
    let k = c.in-Err-Read.ensures in
    let back = sym c.disk_of-in-Err-Read.ensures in
    let is : is_read_failure {T = Verdict} (Err c.in-Err-Read.field-0) ≡ true = ap (λ e. is_read_failure {T = Verdict} (Err e)) c.in-Err-Read.field-0-is in
    let rose = one_rose mid.faults mid.read_faults new.faults new.read_faults k.counted.faults k.counted.read_faults (rw is at k.counted.both) in
    record {
      verdict = tt;
      reason = subst (λ d. HasReason old (g.D.Disk.story d) open_error.Fault) back (fault_there old mid new r.unmoved k.unmoved r.quiet.0 r.quiet.1 rose);
      other = λ no. absurd cc;
      unmoved = subst (λ d. Unmoved old (g.D.Disk.story d)) back (nothing_moved old mid new r.unmoved k.unmoved);
      quiet = λ other. absurd (other refl);
    }

pub returns-in-Err-Memory : goal.returns-in-Err-Memory
returns-in-Err-Memory g c =
    let old = g.D.Disk.story c.args.disk in
    let mid = g.D.Disk.story c.in-Ok.opened.disk in
    let new = g.D.Disk.story c.check.new.opened.disk in
    let r = c.in-Ok.ensures in
    let k = c.in-Err-Memory.ensures in
    let back = sym c.disk_of-in-Err-Memory.ensures in
    let is : is_read_failure {T = Verdict} (Err c.in-Err-Memory.field-0) ≡ false = ap (λ e. is_read_failure {T = Verdict} (Err e)) c.in-Err-Memory.field-0-is in
    record {
      verdict = tt;
      reason = tt;
      other = λ no. absurd cc;
      unmoved = subst (λ d. Unmoved old (g.D.Disk.story d)) back (nothing_moved old mid new r.unmoved k.unmoved);
      quiet = λ other. subst (λ d. HasSameCounts old (g.D.Disk.story d)) back (counts_there old mid new r.unmoved k.unmoved r.quiet (k.counted.quiet is));
    }
