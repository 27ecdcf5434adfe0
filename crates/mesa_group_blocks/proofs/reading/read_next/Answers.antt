use Rattle.std.proofs.Common.{◌≡◌, ◌+◌, ◌<◌, get_or, length, refl, rules}
use Rattle.std.proofs.lemmas.List.{get_or_default}
use Rattle.std.proofs.lemmas.Result.{err_from_is_err_and}
use Rattle.std.specs.Prelude.{Err}
use Rattle.mesa_merge.specs.Inputs.{knowns_of}
use Rattle.mesa_group_blocks.specs.Moved.{inputs_in}
use Rattle.mesa_merge.proofs.Causing.{cause_quiet}
use Rattle.mesa_group_blocks.proofs.Moved.{file_cause, file_faults, moved_set}
use Rattle.mesa_group_blocks.proofs.ReadBlocks.{block_within, job_read, job_same, piece_next, piece_within}
use Rattle.mesa_group_blocks.proofs.reading.read_next.Goals as goal

pub bounds-files-piece : goal.bounds-files-piece
bounds-files-piece g c =
    let bytes = g.R.FileReader.bytes in
    let files = c.args.files.now in
    let w = c.requires.job.0 in
    piece_within bytes files c.index-piece.result.now (piece_next (knowns_of bytes (inputs_in files)) w c.args.filter.now c.args.job.now c.index-piece.result.now c.requires.job.1 c.requires.more c.index-piece.ensures)

pub offset_bounds-files-piece : goal.offset_bounds-files-piece
offset_bounds-files-piece g c =
    let bytes = g.R.FileReader.bytes in
    let files = c.args.files.now in
    let within : c.index-piece.result.now.file < length files =
    piece_within bytes files c.index-piece.result.now (piece_next (knowns_of bytes (inputs_in files)) c.requires.job.0 c.args.filter.now c.args.job.now c.index-piece.result.now c.requires.job.1 c.requires.more c.index-piece.ensures) in
    search rules

pub read_piece-requires-after_bounds : goal.read_piece-requires-after_bounds
read_piece-requires-after_bounds g c = λ κs below.
    let bytes = g.R.FileReader.bytes in
    let files = c.args.files.now in
    let p = c.index-piece.result.now in
    let one = piece_next (knowns_of bytes (inputs_in files)) c.requires.job.0 c.args.filter.now c.args.job.now p c.requires.job.1 c.requires.more c.index-piece.ensures in
    let within : p.file < length files = piece_within bytes files p one in
    let file = get_or files p.file c.index-files-piece.result in
    block_within bytes files p file one (get_or_default files p.file c.index-files-piece.result file within)

pub returns-clause-job : goal.returns-clause-job
returns-clause-job g c = λ w h.
    let bytes = g.R.FileReader.bytes in
    let files = c.args.files.now in
    let p = c.index-piece.result.now in
    let within : p.file < length files = piece_within bytes files p (piece_next (knowns_of bytes (inputs_in files)) w c.args.filter.now c.args.job.now p h c.requires.more c.index-piece.ensures) in
    let file = get_or files p.file c.index-files-piece.result in
    let more = c.in_ok-read_piece.ensures.more c.if-not-branch.false in
    job_read bytes files w c.args.filter.now c.args.job.now (record c.args.job.now { next = c.args.job.now.next + 1; waiting = c.read_piece.new.waiting }) more.0 p file h c.requires.more c.index-piece.ensures
    (get_or_default files p.file c.index-files-piece.result file within) more.2 more.3 refl refl refl more.1

pub returns-clause-moved : goal.returns-clause-moved
returns-clause-moved g c =
    let bytes = g.R.FileReader.bytes in
    let size = g.R.FileReader.size in
    let files = c.args.files.now in
    let p = c.index-piece.result.now in
    let x = c.read_piece.new.file in
    let within : p.file < length files = piece_within bytes files p (piece_next (knowns_of bytes (inputs_in files)) c.requires.job.0 c.args.filter.now c.args.job.now p c.requires.job.1 c.requires.more c.index-piece.ensures) in
    let file = get_or files p.file c.index-files-piece.result in
    let is : file ≡ get_or files p.file file = get_or_default files p.file c.index-files-piece.result file within in
    moved_set bytes size files p.file x file within is c.read_piece.ensures.moved

pub returns-clause-cause : goal.returns-clause-cause
returns-clause-cause g c =
    let bytes = g.R.FileReader.bytes in
    let faults = g.R.FileReader.faults in
    let files = c.args.files.now in
    let p = c.index-piece.result.now in
    let x = c.read_piece.new.file in
    let within : p.file < length files = piece_within bytes files p (piece_next (knowns_of bytes (inputs_in files)) c.requires.job.0 c.args.filter.now c.args.job.now p c.requires.job.1 c.requires.more c.index-piece.ensures) in
    let file = get_or files p.file c.index-files-piece.result in
    let is : file ≡ get_or files p.file file = get_or_default files p.file c.index-files-piece.result file within in
    cause_quiet _ _ _ (file_faults faults files p.file x file within is c.in_ok-read_piece.ensures.cause.quiet)

pub returns-then-not-branch-clause-job : goal.returns-then-not-branch-clause-job
returns-then-not-branch-clause-job g c = λ w h.
    job_same _ w c.args.filter.now c.args.job.now (record c.args.job.now { waiting = c.read_piece.new.waiting }) refl refl refl (c.in_ok-read_piece.ensures.same c.if-not-branch.true) h

pub returns-then-not-branch-clause-moved : goal.returns-then-not-branch-clause-moved
returns-then-not-branch-clause-moved g c =
    let bytes = g.R.FileReader.bytes in
    let size = g.R.FileReader.size in
    let files = c.args.files.now in
    let p = c.index-piece.result.now in
    let x = c.read_piece.new.file in
    let within : p.file < length files = piece_within bytes files p (piece_next (knowns_of bytes (inputs_in files)) c.requires.job.0 c.args.filter.now c.args.job.now p c.requires.job.1 c.requires.more c.index-piece.ensures) in
    let file = get_or files p.file c.index-files-piece.result in
    let is : file ≡ get_or files p.file file = get_or_default files p.file c.index-files-piece.result file within in
    moved_set bytes size files p.file x file within is c.read_piece.ensures.moved

pub returns-then-not-branch-clause-cause : goal.returns-then-not-branch-clause-cause
returns-then-not-branch-clause-cause g c =
    let bytes = g.R.FileReader.bytes in
    let faults = g.R.FileReader.faults in
    let files = c.args.files.now in
    let p = c.index-piece.result.now in
    let x = c.read_piece.new.file in
    let within : p.file < length files = piece_within bytes files p (piece_next (knowns_of bytes (inputs_in files)) c.requires.job.0 c.args.filter.now c.args.job.now p c.requires.job.1 c.requires.more c.index-piece.ensures) in
    let file = get_or files p.file c.index-files-piece.result in
    let is : file ≡ get_or files p.file file = get_or_default files p.file c.index-files-piece.result file within in
    cause_quiet _ _ _ (file_faults faults files p.file x file within is c.in_ok-read_piece.ensures.cause.quiet)

pub returns-in_err-read_piece-clause-job : goal.returns-in_err-read_piece-clause-job
returns-in_err-read_piece-clause-job g c = λ w h.
    job_same _ w c.args.filter.now c.args.job.now (record c.args.job.now { waiting = c.read_piece.new.waiting }) refl refl refl c.in_err-read_piece.ensures.err h

pub returns-in_err-read_piece-clause-moved : goal.returns-in_err-read_piece-clause-moved
returns-in_err-read_piece-clause-moved g c =
    let bytes = g.R.FileReader.bytes in
    let size = g.R.FileReader.size in
    let files = c.args.files.now in
    let p = c.index-piece.result.now in
    let x = c.read_piece.new.file in
    let within : p.file < length files = piece_within bytes files p (piece_next (knowns_of bytes (inputs_in files)) c.requires.job.0 c.args.filter.now c.args.job.now p c.requires.job.1 c.requires.more c.index-piece.ensures) in
    let file = get_or files p.file c.index-files-piece.result in
    let is : file ≡ get_or files p.file file = get_or_default files p.file c.index-files-piece.result file within in
    moved_set bytes size files p.file x file within is c.read_piece.ensures.moved

pub returns-in_err-read_piece-clause-cause : goal.returns-in_err-read_piece-clause-cause
returns-in_err-read_piece-clause-cause g c =
    let bytes = g.R.FileReader.bytes in
    let faults = g.R.FileReader.faults in
    let files = c.args.files.now in
    let p = c.index-piece.result.now in
    let x = c.read_piece.new.file in
    let within : p.file < length files = piece_within bytes files p (piece_next (knowns_of bytes (inputs_in files)) c.requires.job.0 c.args.filter.now c.args.job.now p c.requires.job.1 c.requires.more c.index-piece.ensures) in
    let file = get_or files p.file c.index-files-piece.result in
    let is : file ≡ get_or files p.file file = get_or_default files p.file c.index-files-piece.result file within in
    let q = err_from_is_err_and c.from_residual.result c.from_residual.ensures.1 in
    let e = c.in_err-read_piece.field-0.0 in
    rw (q.1, q.2) (file_cause faults files files p.file x file (Err e) (Err e) within is refl c.in_err-read_piece.ensures.cause refl)
