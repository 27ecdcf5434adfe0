use Rattle.std.proofs.Common.{◌≡◌, ◌∙◌, ◌<◌, ◌≤◌, ◌+◌, Bool, length, get_or, ap, subst, sym, refl, arith}
use Rattle.std.proofs.lemmas.List.{get_or_default}
use Rattle.std.proofs.lemmas.Result.{err_from_is_err_and}
use Rattle.std.specs.Prelude.{Err}
use Rattle.mesa_file.specs.declared.file_id.FileId.{FileId}
use Rattle.mesa_group_blocks.specs.mesa_delta_format.Indexed.{Indexed}
use Rattle.mesa_group_blocks.specs.mesa_delta.Reading.{index_of}
use Rattle.mesa_group_blocks.specs.mesa_answer.Gathered.{key_at_hand, wanted_of}
use Rattle.mesa_group_blocks.proofs.mesa_merge.Causing.{cause_quiet}
use Rattle.mesa_group_blocks.specs.mesa_open_files.Pins.{IsPinnedInput}
use Rattle.mesa_group_blocks.specs.mesa_open_files.declared.querying.PinnedInput.{PinnedInput}
use Rattle.mesa_group_blocks.proofs.Moved.{all_set, file_cause, moved_none}
use Rattle.mesa_query.proofs.Files.{file_known, looked_more, moved_drop, moved_here, own_ahead, own_set}
use Rattle.mesa_query.proofs.Holding.{IsNewestTo, damage_dropped, file_moved, holds_moved, lacks_moved, newest_all, newest_before, newest_first, newest_here}
use Rattle.mesa_query.proofs.newest.newest_from.Goals as goal
use Rattle.mesa_query.proofs.newest.newest_from.Goals.{then-branch, else-branch}

pub newer-init : goal.newer-init
newer-init g c =
    let bytes = g.R.FileReader.bytes in
    let size = g.R.FileReader.size in
    let start = c.args.files.now in
    let from = c.args.from in
    let w = wanted_of c.args.groups.now in
    let file = get_or start from c.index-files-from.result in
    let here : file ≡ get_or start from file = get_or_default start from c.index-files-from.result file c.requires.within in
    let id = c.file-newest.ensures ∙ ap (λ (x : Indexed). x.file) c.index.ensures in
    record {
      newest = newest_first bytes w c.args.filter.now.terms c.args.view (key_at_hand c.args.groups.now) from start c.file-newest.result file c.requires.within here id;
      looked = record {
        pinned = c.requires.files;
        known = refl;
        own = refl;
        faults = refl;
        count = refl;
        left = moved_drop bytes size (from + 1) start start (moved_none bytes size start);
        ahead = c.requires.ahead;
      };
    }

pub holds_group-requires-clause-ahead : goal.holds_group-requires-clause-ahead
holds_group-requires-clause-ahead g c = λ κs below.
    let bytes = g.R.FileReader.bytes in
    let size = g.R.FileReader.size in
    let i = c.newer.i in
    let start = c.args.files.now in
    let files = c.newer.files in
    let inv = c.newer.invariant in
    let file = get_or files i c.index-files-i-in-newer.result in
    let lt : i < length files = omega (arith, c.newer-test.true, c.newer.auto.files) in
    let is : file ≡ get_or files i file = get_or_default files i c.index-files-i-in-newer.result file lt in
    own_ahead bytes start files i file c.newer.ahead inv.looked.known lt is inv.looked.ahead

pub returns-in_err-holds_group-clause-pinned : goal.returns-in_err-holds_group-clause-pinned
returns-in_err-holds_group-clause-pinned g c =
    all_set (IsPinnedInput g.R.FileReader.bytes (wanted_of c.args.groups.now).schema c.args.view) c.newer.files c.newer.i c.holds_group.new.file c.newer.invariant.looked.pinned c.in_err-holds_group.ensures.pinned

pub returns-in_err-holds_group-clause-known : goal.returns-in_err-holds_group-clause-known
returns-in_err-holds_group-clause-known g c =
    let bytes = g.R.FileReader.bytes in
    let size = g.R.FileReader.size in
    let i = c.newer.i in
    let start = c.args.files.now in
    let files = c.newer.files in
    let inv = c.newer.invariant in
    let file = get_or files i c.index-files-i-in-newer.result in
    let lt : i < length files = omega (arith, c.newer-test.true, c.newer.auto.files) in
    let is : file ≡ get_or files i file = get_or_default files i c.index-files-i-in-newer.result file lt in
    file_known bytes files i c.holds_group.new.file file lt is c.in_err-holds_group.ensures.same ∙ inv.looked.known

pub returns-in_err-holds_group-clause-own : goal.returns-in_err-holds_group-clause-own
returns-in_err-holds_group-clause-own g c =
    let bytes = g.R.FileReader.bytes in
    let size = g.R.FileReader.size in
    let i = c.newer.i in
    let start = c.args.files.now in
    let files = c.newer.files in
    let inv = c.newer.invariant in
    let file = get_or files i c.index-files-i-in-newer.result in
    let lt : i < length files = omega (arith, c.newer-test.true, c.newer.auto.files) in
    let is : file ≡ get_or files i file = get_or_default files i c.index-files-i-in-newer.result file lt in
    own_set files i c.holds_group.new.file file is c.in_err-holds_group.ensures.own ∙ inv.looked.own

pub returns-in_err-holds_group-clause-cause : goal.returns-in_err-holds_group-clause-cause
returns-in_err-holds_group-clause-cause g c =
    let p = err_from_is_err_and c.from_residual.result c.from_residual.ensures.1 in
    let bytes = g.R.FileReader.bytes in
    let size = g.R.FileReader.size in
    let i = c.newer.i in
    let start = c.args.files.now in
    let files = c.newer.files in
    let inv = c.newer.invariant in
    let file = get_or files i c.index-files-i-in-newer.result in
    let lt : i < length files = omega (arith, c.newer-test.true, c.newer.auto.files) in
    let is : file ≡ get_or files i file = get_or_default files i c.index-files-i-in-newer.result file lt in
    let e = c.in_err-holds_group.field-0.0 in
    rw (p.1, p.2) (file_cause {T = Bool} {U = FileId} g.R.FileReader.faults start files i c.holds_group.new.file file (Err e) (Err e) lt is inv.looked.faults c.in_err-holds_group.ensures.cause refl)

pub returns-in_err-holds_group-clause-damaged : goal.returns-in_err-holds_group-clause-damaged
returns-in_err-holds_group-clause-damaged g c =
    let p = err_from_is_err_and c.from_residual.result c.from_residual.ensures.1 in
    let bytes = g.R.FileReader.bytes in
    let size = g.R.FileReader.size in
    let i = c.newer.i in
    let start = c.args.files.now in
    let files = c.newer.files in
    let inv = c.newer.invariant in
    let file = get_or files i c.index-files-i-in-newer.result in
    let lt : i < length files = omega (arith, c.newer-test.true, c.newer.auto.files) in
    let is : file ≡ get_or files i file = get_or_default files i c.index-files-i-in-newer.result file lt in
    let le : c.args.from + 1 ≤ i = c.newer.auto.i in
    rw (p.1, p.2) (λ d e. damage_dropped bytes size d (c.args.from + 1) start files i c.holds_group.new.file file le lt inv.looked.count is inv.looked.left (c.in_err-holds_group.ensures.damaged d e))

pub newer-preserved : goal.newer-preserved
newer-preserved g c =
    let bytes = g.R.FileReader.bytes in
    let size = g.R.FileReader.size in
    let i = c.newer.i in
    let start = c.args.files.now in
    let files = c.newer.files in
    let inv = c.newer.invariant in
    let file = get_or files i c.index-files-i-in-newer.result in
    let lt : i < length files = omega (arith, c.newer-test.true, c.newer.auto.files) in
    let is : file ≡ get_or files i file = get_or_default files i c.index-files-i-in-newer.result file lt in
    let x = c.holds_group.new.file in
    let view = c.args.view in
    let from = c.args.from in
    let w = wanted_of c.args.groups.now in
    let terms = c.args.filter.now.terms in
    let key = key_at_hand c.args.groups.now in
    let held = c.in_ok-holds_group.ensures in
    let within : i < length start = omega (arith, lt, inv.looked.count) in
    let was = get_or start i file in
    let here : was ≡ get_or start i was = get_or_default start i file was within in
    let moved = moved_here bytes size i start files file c.index-files-i-in-newer.result within inv.looked.count inv.looked.left in
    let newest : IsNewestTo bytes w terms view key from (i + 1) start c.if-branch.newest = elim c.if-branch.branch [
      | then-branch b ↦
          let same = b.newest-is ∙ c.file-file.ensures ∙ ap (λ (x : Indexed). x.file) c.index-in-newer.ensures in
          let one = ap (λ (f : PinnedInput _). (index_of f.input.reader).file) (get_or_default files i c.index-files-i.result c.index-files-i-in-newer.result lt) ∙ file_moved bytes size was file moved in
          newest_here bytes w terms view key from i start c.if-branch.newest was (omega (arith, c.newer.auto.i)) within here (same ∙ one)
          (holds_moved bytes size w terms view key was file moved (λ rows told. (held.holds rows told).0 b.if-branch.true))
      | else-branch b ↦
          newest_before bytes w terms view key from i start c.if-branch.newest was here
          (lacks_moved bytes size w terms view key was file moved (λ rows told has. let yes = (held.holds rows told).1 has in let no = b.if-branch.false in let clash : ⊥ = cc in clash))
          (subst (λ n. IsNewestTo bytes w terms view key from i start n) (sym b.newest-is) inv.newest)
    ] in
    record {
      newest = newest;
      looked = looked_more bytes size g.R.FileReader.faults w.schema view start files i x file c.newer.ahead c.holds_group.new.ahead inv.looked lt is held.pinned held.same held.own held.cause.quiet held.ahead;
    }

pub returns-clause-newest : goal.returns-clause-newest
returns-clause-newest g c =
    newest_all g.R.FileReader.bytes (wanted_of c.args.groups.now) c.args.filter.now.terms c.args.view (key_at_hand c.args.groups.now) c.args.from c.newer.i c.args.files.now c.newer.newest c.newer-test.false c.newer.invariant.newest

pub returns-clause-cause : goal.returns-clause-cause
returns-clause-cause g c = cause_quiet _ _ _ c.newer.invariant.looked.faults
