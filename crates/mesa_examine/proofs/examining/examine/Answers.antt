use Rattle.std.proofs.Common.{refl, ap, subst, ◌∙◌}
use Rattle.mesa_schema.specs.Changes.{columns_at, columns_of}
use Rattle.mesa_open_files.specs.mesa_columns.Columns.{Columns}
use Rattle.mesa_open_files.specs.Opening.{IsUnsound}
use Rattle.mesa_examine.proofs.Judged.{examined, not_damaged}
use Rattle.mesa_examine.proofs.examining.examine.Goals as goal

pub returns-in-Damaged-clause-found : goal.returns-in-Damaged-clause-found
returns-in-Damaged-clause-found g c =
    subst (λ (s : Columns). IsUnsound (g.D.Disk.story c.args.disk.now).told s c.args.wanted.now.file.now) (λ k. columns_at (c.in_ok-alone.ensures.columns k) 0) c.in-Damaged.ensures.met.unsound

pub returns-in-Ok-clause-found : goal.returns-in-Ok-clause-found
returns-in-Ok-clause-found g c =
    let judged = c.in-Ok.ensures.judged in
    let told = (g.D.Disk.story c.args.disk.now).told in
    examined g.D.Reader.FileReader.bytes g.D.Reader.FileReader.faults told c.fits_alone.ensures c.args.wanted.now _ c.in-Input.input c.judge-judged.new.input refl c.in_ok-alone.ensures.columns refl c.in-Input.ensures.met c.in-Ok.ensures.same
    c.present-present.result.now c.in_ok-alone.lift judged.0 judged.1 c.in-Ok.sums judged.2 (c.present-present.ensures.columns ∙ ap columns_of c.deref.ensures) c.in_ok-alone.ensures.lift

pub returns-in-Damaged-error-clause-found : goal.returns-in-Damaged-error-clause-found
returns-in-Damaged-error-clause-found g c =
    let told = (g.D.Disk.story c.args.disk.now).told in
    not_damaged g.D.Reader.FileReader.bytes g.D.Reader.FileReader.faults told c.fits_alone.ensures c.args.wanted.now _ c.in-Input.input c.judge-judged.new.input refl c.in_ok-alone.ensures.columns refl c.in-Input.ensures.met c.in-Err.ensures.same
    (c.in-Err.ensures.accepts c.in-Damaged-error.field-0 c.in-Damaged-error.is)
