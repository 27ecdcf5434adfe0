use Rattle.std.proofs.Common.{◌≡◌, ◌∙◌, List, ap, arith, length, refl, subst, sym}
use Rattle.std.proofs.lemmas.Result.{err_from_is_err_and}
use Rattle.std.specs.declared.alloc.Global.{Global}
use Rattle.std.specs.Prelude.{Err, Vec}
use Rattle.mesa_merge.specs.Inputs.{Known}
use Rattle.mesa_merge.proofs.Causing.{cause_on, cause_quiet}
use Rattle.mesa_group_blocks.specs.Jobs.{IsJob}
use Rattle.mesa_group_blocks.specs.declared.pieces.Piece.{Piece}
use Rattle.mesa_group_blocks.proofs.Moved.{moved_further, moved_known, moved_none}
use Rattle.mesa_group_blocks.proofs.ReadBlocks.{goes_further}
use Rattle.mesa_group_blocks.proofs.reading.read_job.Goals as goal

pub each_piece-init : goal.each_piece-init
each_piece-init g c = record {
  job = λ w h. h;
  pieces = refl;
  moved = moved_none g.R.FileReader.bytes g.R.FileReader.size c.args.files.now;
  faults = refl;
}

pub read_next-requires-clause-job : goal.read_next-requires-clause-job
read_next-requires-clause-job g c = λ κs below.
    let known = moved_known g.R.FileReader.bytes g.R.FileReader.size c.args.files.now c.each_piece.files c.each_piece.invariant.moved in
    let w = c.requires.0 in
    (w, subst (λ (ks : List Known). IsJob ks w c.args.filter.now c.each_piece.job) (sym known) (c.each_piece.invariant.job w c.requires.1))

pub each_piece-smaller : goal.each_piece-smaller
each_piece-smaller g c =
    let same : length c.read_next.new.job.pieces.items ≡ length c.each_piece.job.pieces.items = ap (λ (ps : Vec Piece Global). length ps.items) c.read_next.ensures.pieces in
    omega (arith, c.in_ok-read_next.ensures.next c.if-not-branch.false, same)

pub each_piece-preserved : goal.each_piece-preserved
each_piece-preserved g c = record {
  job = goes_further g.R.FileReader.bytes g.R.FileReader.size c.args.filter.now c.args.files.now c.each_piece.files c.args.job.now c.each_piece.job c.read_next.new.job c.each_piece.invariant.moved c.each_piece.invariant.job c.read_next.ensures.job;
  pieces = c.read_next.ensures.pieces ∙ c.each_piece.invariant.pieces;
  moved = moved_further g.R.FileReader.bytes g.R.FileReader.size c.args.files.now c.each_piece.files c.read_next.new.files c.each_piece.invariant.moved c.read_next.ensures.moved;
  faults = c.in_ok-read_next.ensures.cause.quiet ∙ c.each_piece.invariant.faults;
}

pub returns-in_err-read_next-clause-job : goal.returns-in_err-read_next-clause-job
returns-in_err-read_next-clause-job g c = goes_further g.R.FileReader.bytes g.R.FileReader.size c.args.filter.now c.args.files.now c.each_piece.files c.args.job.now c.each_piece.job c.read_next.new.job c.each_piece.invariant.moved c.each_piece.invariant.job c.read_next.ensures.job

pub returns-in_err-read_next-clause-pieces : goal.returns-in_err-read_next-clause-pieces
returns-in_err-read_next-clause-pieces g c = c.read_next.ensures.pieces ∙ c.each_piece.invariant.pieces

pub returns-in_err-read_next-clause-moved : goal.returns-in_err-read_next-clause-moved
returns-in_err-read_next-clause-moved g c = moved_further g.R.FileReader.bytes g.R.FileReader.size c.args.files.now c.each_piece.files c.read_next.new.files c.each_piece.invariant.moved c.read_next.ensures.moved

pub returns-in_err-read_next-clause-cause : goal.returns-in_err-read_next-clause-cause
returns-in_err-read_next-clause-cause g c =
    let p = err_from_is_err_and c.from_residual.result c.from_residual.ensures.1 in
    let e = c.in_err-read_next.field-0.0 in
    rw (p.1, p.2) (cause_on _ _ _ (Err e) (Err e) c.each_piece.invariant.faults c.in_err-read_next.ensures.cause refl)

pub returns-then-not-branch-clause-job : goal.returns-then-not-branch-clause-job
returns-then-not-branch-clause-job g c = goes_further g.R.FileReader.bytes g.R.FileReader.size c.args.filter.now c.args.files.now c.each_piece.files c.args.job.now c.each_piece.job c.read_next.new.job c.each_piece.invariant.moved c.each_piece.invariant.job c.read_next.ensures.job

pub returns-then-not-branch-clause-pieces : goal.returns-then-not-branch-clause-pieces
returns-then-not-branch-clause-pieces g c = c.read_next.ensures.pieces ∙ c.each_piece.invariant.pieces

pub returns-then-not-branch-clause-moved : goal.returns-then-not-branch-clause-moved
returns-then-not-branch-clause-moved g c = moved_further g.R.FileReader.bytes g.R.FileReader.size c.args.files.now c.each_piece.files c.read_next.new.files c.each_piece.invariant.moved c.read_next.ensures.moved

pub returns-then-not-branch-clause-cause : goal.returns-then-not-branch-clause-cause
returns-then-not-branch-clause-cause g c = cause_quiet _ _ _ (c.in_ok-read_next.ensures.cause.quiet ∙ c.each_piece.invariant.faults)

pub returns-clause-cause : goal.returns-clause-cause
returns-clause-cause g c = cause_quiet _ _ _ c.each_piece.invariant.faults
