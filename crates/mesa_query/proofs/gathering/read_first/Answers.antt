use Rattle.std.proofs.Common.{◌≡◌, ◌∙◌, ◌<◌, length, get_or, set, refl, arith}
use Rattle.std.proofs.lemmas.List.{get_or_default}
use Rattle.std.proofs.lemmas.Result.{err_from_is_err_and}
use Rattle.std.specs.Prelude.{Err}
use Rattle.mesa_group_blocks.specs.mesa_merge.Inputs.{knowns_of, tolds_of}
use Rattle.mesa_group_blocks.proofs.mesa_merge.Causing.{cause_quiet}
use Rattle.mesa_group_blocks.specs.Moved.{inputs_in}
use Rattle.mesa_group_blocks.proofs.Moved.{file_cause, file_faults, moved_further, moved_known, moved_none, moved_set, there_of_file}
use Rattle.mesa_query.proofs.Files.{moved_count}
use Rattle.mesa_query.proofs.gathering.read_first.Goals as goal

pub next_files-init : goal.next_files-init
next_files-init g c = record {
  moved = moved_none g.R.FileReader.bytes g.R.FileReader.size c.args.files.now;
  faults = refl;
  ahead = λ h. h;
}

pub next_files-preserved : goal.next_files-preserved
next_files-preserved g c =
    let bytes = g.R.FileReader.bytes in
    let size = g.R.FileReader.size in
    let inv = c.next_files.invariant in
    let i = c.next_files.i in
    let start = c.args.files.now in
    let files = c.next_files.files in
    let file = get_or files i c.index-files-i.result in
    let x = c.read_of_file.new.file in
    let lt : i < length files = omega (arith, moved_count bytes size start files inv.moved) in
    let is : file ≡ get_or files i file = get_or_default files i c.index-files-i.result file lt in
    record {
      moved = moved_further bytes size start files (set files i x) inv.moved (moved_set bytes size files i x file lt is c.read_of_file.ensures.moved);
      faults = file_faults g.R.FileReader.faults files i x file lt is c.in_ok-read_of_file.ensures.cause.quiet ∙ inv.faults;
      ahead = λ h. c.read_of_file.ensures.ahead (tolds_of (knowns_of bytes (inputs_in start))) (there_of_file bytes start files i file (moved_known bytes size start files inv.moved) lt is) (inv.ahead h);
    }

pub returns-in_err-read_of_file-clause-moved : goal.returns-in_err-read_of_file-clause-moved
returns-in_err-read_of_file-clause-moved g c =
    let bytes = g.R.FileReader.bytes in
    let size = g.R.FileReader.size in
    let inv = c.next_files.invariant in
    let i = c.next_files.i in
    let start = c.args.files.now in
    let files = c.next_files.files in
    let file = get_or files i c.index-files-i.result in
    let x = c.read_of_file.new.file in
    let lt : i < length files = omega (arith, moved_count bytes size start files inv.moved) in
    let is : file ≡ get_or files i file = get_or_default files i c.index-files-i.result file lt in
    moved_further bytes size start files (set files i x) inv.moved (moved_set bytes size files i x file lt is c.read_of_file.ensures.moved)

pub returns-in_err-read_of_file-clause-ahead : goal.returns-in_err-read_of_file-clause-ahead
returns-in_err-read_of_file-clause-ahead g c = λ h.
    let bytes = g.R.FileReader.bytes in
    let size = g.R.FileReader.size in
    let inv = c.next_files.invariant in
    let i = c.next_files.i in
    let start = c.args.files.now in
    let files = c.next_files.files in
    let file = get_or files i c.index-files-i.result in
    let x = c.read_of_file.new.file in
    let lt : i < length files = omega (arith, moved_count bytes size start files inv.moved) in
    let is : file ≡ get_or files i file = get_or_default files i c.index-files-i.result file lt in
    c.read_of_file.ensures.ahead (tolds_of (knowns_of bytes (inputs_in start))) (there_of_file bytes start files i file (moved_known bytes size start files inv.moved) lt is) (inv.ahead h)

pub returns-in_err-read_of_file-clause-cause : goal.returns-in_err-read_of_file-clause-cause
returns-in_err-read_of_file-clause-cause g c =
    let p = err_from_is_err_and c.from_residual.result c.from_residual.ensures.1 in
    let bytes = g.R.FileReader.bytes in
    let size = g.R.FileReader.size in
    let inv = c.next_files.invariant in
    let i = c.next_files.i in
    let start = c.args.files.now in
    let files = c.next_files.files in
    let file = get_or files i c.index-files-i.result in
    let x = c.read_of_file.new.file in
    let lt : i < length files = omega (arith, moved_count bytes size start files inv.moved) in
    let is : file ≡ get_or files i file = get_or_default files i c.index-files-i.result file lt in
    let e = c.in_err-read_of_file.field-0.0 in
    rw (p.1, p.2) (file_cause g.R.FileReader.faults start files i x file (Err e) (Err e) lt is inv.faults c.in_err-read_of_file.ensures.cause refl)

pub returns-then-is_full-clause-cause : goal.returns-then-is_full-clause-cause
returns-then-is_full-clause-cause g c = cause_quiet _ _ _ c.next_files.invariant.faults

pub returns-clause-cause : goal.returns-clause-cause
returns-clause-cause g c = cause_quiet _ _ _ c.next_files.invariant.faults
