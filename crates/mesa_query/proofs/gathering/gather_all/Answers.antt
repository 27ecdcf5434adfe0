use Rattle.std.proofs.Common.{◌≡◌, ◌∙◌, ◌++◌, ◌<◌, ◌≤◌, [], List, suc, length, get_or, drop, set, inl, inr, ap, subst, sym, refl, arith, add-one}
use Rattle.std.proofs.lemmas.List.{get_or-set_same, get_or_default, length-set}
use Rattle.std.proofs.lemmas.Result.{err_from_is_err_and}
use Rattle.std.specs.Prelude.{Err, IsTrue}
use Rattle.std.specs.List.{AllByRecursion}
use Rattle.mesa_group_blocks.specs.mesa_columns.declared.rows.Row.{Row}
use Rattle.mesa_group_blocks.specs.mesa_columns.Columns.{kinds_of}
use Rattle.mesa_filter.specs.Filter.{filtered}
use Rattle.mesa_filter.specs.Query.{are_places}
use Rattle.mesa_group_blocks.specs.mesa_delta.Ahead.{AreAhead}
use Rattle.mesa_group_blocks.specs.mesa_delta_format.Indexed.{Indexed}
use Rattle.mesa_group_blocks.specs.mesa_merge.Faults.{faults_of}
use Rattle.mesa_group_blocks.specs.mesa_merge.Inputs.{IsTold, Known, known_of, knowns_of, tolds_of}
use Rattle.mesa_group_blocks.proofs.mesa_merge.Causing.{cause_on, cause_quiet}
use Rattle.mesa_group_blocks.specs.mesa_answer.Answering.{KeepsSums}
use Rattle.mesa_group_blocks.specs.mesa_answer.Gathered.{key_at_hand, wanted_of}
use Rattle.mesa_group_blocks.specs.mesa_answer.Gathering.{Wanted}
use Rattle.mesa_group_blocks.specs.mesa_answer.Sums.{SumLeavesAmong}
use Rattle.mesa_group_blocks.specs.mesa_view.declared.error.GatherError.TheVariants as gather
use Rattle.mesa_group_blocks.specs.mesa_open_files.Pins.{IsPinnedInput}
use Rattle.mesa_group_blocks.specs.Moved.{inputs_in}
use Rattle.mesa_query.specs.Files.{IsDamageIn}
use Rattle.mesa_group_blocks.specs.Ungrouped.{rows_ungrouped}
use Rattle.mesa_query.specs.Sums.{IsNewestFrom, rows_matching}
use Rattle.mesa_group_blocks.proofs.Contents.{all_matching, given_bounded, given_more, none_matching, told_count, told_here}
use Rattle.mesa_group_blocks.proofs.Moved.{all_at, all_set, file_cause, file_faults, moved_known, moved_none, moved_same, there_of_file}
use Rattle.mesa_query.proofs.Files.{file_damage, file_fault, file_known, left_more, length_known, looked_more, looked_on, moved_here, moved_owns, moved_pinned, moved_rows, moved_told, own_ahead, own_set, sum_quiet}
use Rattle.mesa_query.proofs.Holding.{damage_behind, damage_moved, damage_unsound, sum_in}
use Rattle.mesa_query.proofs.gathering.gather_all.Goals as goal

pub each_file-init : goal.each_file-init
each_file-init g c = record {
  put = ([], c.requires.gathering, λ contents told. none_matching (wanted_of c.args.groups.now).schema c.args.filter.now.terms c.args.view c.args.files.now contents);
  wanted = refl;
  looked = record {
    pinned = c.requires.files;
    known = refl;
    own = refl;
    faults = refl;
    count = refl;
    left = moved_none g.R.FileReader.bytes g.R.FileReader.size c.args.files.now;
    ahead = rw c.new-ahead.ensures tt;
  };
}

pub returns-in_err-look_ahead-clause-pinned : goal.returns-in_err-look_ahead-clause-pinned
returns-in_err-look_ahead-clause-pinned g c =
    moved_pinned g.R.FileReader.bytes g.R.FileReader.size (wanted_of c.args.groups.now).schema c.args.view c.each_file.files c.look_ahead.new.files c.look_ahead.ensures.moved c.each_file.invariant.looked.pinned

pub returns-in_err-look_ahead-clause-known : goal.returns-in_err-look_ahead-clause-known
returns-in_err-look_ahead-clause-known g c =
    moved_known g.R.FileReader.bytes g.R.FileReader.size c.each_file.files c.look_ahead.new.files c.look_ahead.ensures.moved ∙ c.each_file.invariant.looked.known

pub returns-in_err-look_ahead-clause-own : goal.returns-in_err-look_ahead-clause-own
returns-in_err-look_ahead-clause-own g c =
    moved_owns g.R.FileReader.bytes g.R.FileReader.size c.each_file.files c.look_ahead.new.files c.look_ahead.ensures.moved ∙ c.each_file.invariant.looked.own

pub returns-in_err-look_ahead-clause-cause : goal.returns-in_err-look_ahead-clause-cause
returns-in_err-look_ahead-clause-cause g c =
    let p = err_from_is_err_and c.from_residual.result c.from_residual.ensures.1 in
    let faults = g.R.FileReader.faults in
    let e = c.in_err-look_ahead.field-0.0 in
    rw (p.1, p.2) (cause_on {T = Unit {0}} {U = Unit {0}} (faults_of faults (inputs_in c.args.files.now)) (faults_of faults (inputs_in c.each_file.files)) (faults_of faults (inputs_in c.look_ahead.new.files)) (Err e) (Err e) c.each_file.invariant.looked.faults c.in_err-look_ahead.ensures.cause refl)

pub returns-in_err-look_ahead-clause-damaged : goal.returns-in_err-look_ahead-clause-damaged
returns-in_err-look_ahead-clause-damaged g c =
    let p = err_from_is_err_and c.from_residual.result c.from_residual.ensures.1 in
    let fault = c.in_err-look_ahead.ensures.fault in
    rw (p.1, p.2) (λ d e. absurd (let clash : ⊥ = cc in clash))

pub returns-in_err-look_ahead-clause-never : goal.returns-in_err-look_ahead-clause-never
returns-in_err-look_ahead-clause-never g c =
    let p = err_from_is_err_and c.from_residual.result c.from_residual.ensures.1 in
    let fault = c.in_err-look_ahead.ensures.fault in
    rw (p.1, p.2) (λ d e. absurd (let clash : ⊥ = cc in clash))

pub gather_one-requires-clause-gathering : goal.gather_one-requires-clause-gathering
gather_one-requires-clause-gathering g c = λ κs below.
    (c.each_file.invariant.put.0, c.each_file.invariant.put.1)

pub gather_one-requires-clause-file : goal.gather_one-requires-clause-file
gather_one-requires-clause-file g c = λ κs below.
    let bytes = g.R.FileReader.bytes in
    let size = g.R.FileReader.size in
    let faults = g.R.FileReader.faults in
    let i = c.each_file.i in
    let start = c.args.files.now in
    let files = c.look_ahead.new.files in
    let view = c.args.view in
    let s = (wanted_of c.args.groups.now).schema in
    let inv = c.each_file.invariant in
    let look = looked_on bytes size faults s view start c.each_file.files files i c.each_file.ahead c.look_ahead.new.ahead inv.looked c.look_ahead.ensures.moved c.in_ok-look_ahead.ensures.cause.quiet c.look_ahead.ensures.ahead in
    let file = get_or files i c.index-files-i.result in
    let lt : i < length files = omega (arith, look.count, inv.looked.count) in
    let is : file ≡ get_or files i file = get_or_default files i c.index-files-i.result file lt in
    let own = all_at (IsPinnedInput bytes s view) files i file look.pinned lt is in
    subst (λ (w : Wanted). IsPinnedInput bytes w.schema view file) (sym inv.wanted) own

pub gather_one-requires-clause-filter : goal.gather_one-requires-clause-filter
gather_one-requires-clause-filter g c = λ κs below.
    c.requires.filter ∙ ap (λ (w : Wanted). kinds_of w.schema) (sym c.each_file.invariant.wanted)

pub gather_one-requires-clause-ahead : goal.gather_one-requires-clause-ahead
gather_one-requires-clause-ahead g c = λ κs below.
    let bytes = g.R.FileReader.bytes in
    let size = g.R.FileReader.size in
    let faults = g.R.FileReader.faults in
    let i = c.each_file.i in
    let start = c.args.files.now in
    let files = c.look_ahead.new.files in
    let view = c.args.view in
    let s = (wanted_of c.args.groups.now).schema in
    let inv = c.each_file.invariant in
    let look = looked_on bytes size faults s view start c.each_file.files files i c.each_file.ahead c.look_ahead.new.ahead inv.looked c.look_ahead.ensures.moved c.in_ok-look_ahead.ensures.cause.quiet c.look_ahead.ensures.ahead in
    let file = get_or files i c.index-files-i.result in
    let lt : i < length files = omega (arith, look.count, inv.looked.count) in
    let is : file ≡ get_or files i file = get_or_default files i c.index-files-i.result file lt in
    own_ahead bytes start files i file c.look_ahead.new.ahead look.known lt is look.ahead

pub each_file-preserved : goal.each_file-preserved
each_file-preserved g c =
    let bytes = g.R.FileReader.bytes in
    let size = g.R.FileReader.size in
    let faults = g.R.FileReader.faults in
    let i = c.each_file.i in
    let start = c.args.files.now in
    let files = c.look_ahead.new.files in
    let view = c.args.view in
    let s = (wanted_of c.args.groups.now).schema in
    let inv = c.each_file.invariant in
    let look = looked_on bytes size faults s view start c.each_file.files files i c.each_file.ahead c.look_ahead.new.ahead inv.looked c.look_ahead.ensures.moved c.in_ok-look_ahead.ensures.cause.quiet c.look_ahead.ensures.ahead in
    let file = get_or files i c.index-files-i.result in
    let lt : i < length files = omega (arith, look.count, inv.looked.count) in
    let is : file ≡ get_or files i file = get_or_default files i c.index-files-i.result file lt in
    let terms = c.args.filter.now.terms in
    let within : i < length start = omega (arith, lt, look.count) in
    let was = get_or start i file in
    let here : was ≡ get_or start i was = get_or_default start i file was within in
    let moved = moved_here bytes size i start files file c.index-files-i.result within look.count look.left in
    let x = c.gather_one.new.file in
    let put = c.in-Ok.ensures.put inv.put.0 inv.put.1 in
    record {
      put = (
        inv.put.0 ++ put.0,
        put.1,
        λ contents told.
            let rows = get_or contents i [] in
            given_more s terms view start contents i was inv.put.0 put.0 within (told_count bytes start contents told) here (inv.put.2 contents told)
            (put.2 rows (moved_told bytes size was file rows moved (told_here bytes start contents i was told within here)) ∙ ap (λ (w : Wanted). filtered w.schema terms (rows_ungrouped view file rows)) inv.wanted ∙ ap (filtered s terms) (moved_rows bytes size view was file rows moved)),
      );
      wanted = c.in-Ok.ensures.wanted ∙ inv.wanted;
      looked = looked_more bytes size faults s view start files i x file c.look_ahead.new.ahead c.gather_one.new.ahead look lt is (subst (λ (w : Wanted). IsPinnedInput bytes w.schema view x) inv.wanted c.in-Ok.ensures.pinned) c.in-Ok.ensures.same c.in-Ok.ensures.own c.in-Ok.ensures.cause.quiet c.in-Ok.ensures.ahead;
    }

pub returns-in-Err-File-clause-pinned : goal.returns-in-Err-File-clause-pinned
returns-in-Err-File-clause-pinned g c =
    let bytes = g.R.FileReader.bytes in
    let size = g.R.FileReader.size in
    let faults = g.R.FileReader.faults in
    let i = c.each_file.i in
    let start = c.args.files.now in
    let files = c.look_ahead.new.files in
    let view = c.args.view in
    let s = (wanted_of c.args.groups.now).schema in
    let inv = c.each_file.invariant in
    let look = looked_on bytes size faults s view start c.each_file.files files i c.each_file.ahead c.look_ahead.new.ahead inv.looked c.look_ahead.ensures.moved c.in_ok-look_ahead.ensures.cause.quiet c.look_ahead.ensures.ahead in
    let x = c.gather_one.new.file in
    all_set (IsPinnedInput bytes s view) files i x look.pinned (subst (λ (w : Wanted). IsPinnedInput bytes w.schema view x) inv.wanted c.in-Err-File.ensures.pinned)

pub returns-in-Err-File-clause-known : goal.returns-in-Err-File-clause-known
returns-in-Err-File-clause-known g c =
    let bytes = g.R.FileReader.bytes in
    let size = g.R.FileReader.size in
    let faults = g.R.FileReader.faults in
    let i = c.each_file.i in
    let start = c.args.files.now in
    let files = c.look_ahead.new.files in
    let view = c.args.view in
    let s = (wanted_of c.args.groups.now).schema in
    let inv = c.each_file.invariant in
    let look = looked_on bytes size faults s view start c.each_file.files files i c.each_file.ahead c.look_ahead.new.ahead inv.looked c.look_ahead.ensures.moved c.in_ok-look_ahead.ensures.cause.quiet c.look_ahead.ensures.ahead in
    let file = get_or files i c.index-files-i.result in
    let x = c.gather_one.new.file in
    let lt : i < length files = omega (arith, look.count, inv.looked.count) in
    let is : file ≡ get_or files i file = get_or_default files i c.index-files-i.result file lt in
    file_known bytes files i x file lt is c.in-Err-File.ensures.same ∙ look.known

pub returns-in-Err-File-clause-own : goal.returns-in-Err-File-clause-own
returns-in-Err-File-clause-own g c =
    let bytes = g.R.FileReader.bytes in
    let size = g.R.FileReader.size in
    let faults = g.R.FileReader.faults in
    let i = c.each_file.i in
    let start = c.args.files.now in
    let files = c.look_ahead.new.files in
    let view = c.args.view in
    let s = (wanted_of c.args.groups.now).schema in
    let inv = c.each_file.invariant in
    let look = looked_on bytes size faults s view start c.each_file.files files i c.each_file.ahead c.look_ahead.new.ahead inv.looked c.look_ahead.ensures.moved c.in_ok-look_ahead.ensures.cause.quiet c.look_ahead.ensures.ahead in
    let file = get_or files i c.index-files-i.result in
    let x = c.gather_one.new.file in
    let lt : i < length files = omega (arith, look.count, inv.looked.count) in
    let is : file ≡ get_or files i file = get_or_default files i c.index-files-i.result file lt in
    own_set files i x file is c.in-Err-File.ensures.own ∙ look.own

pub returns-in-Err-File-clause-cause : goal.returns-in-Err-File-clause-cause
returns-in-Err-File-clause-cause g c =
    let bytes = g.R.FileReader.bytes in
    let size = g.R.FileReader.size in
    let faults = g.R.FileReader.faults in
    let i = c.each_file.i in
    let start = c.args.files.now in
    let files = c.look_ahead.new.files in
    let view = c.args.view in
    let s = (wanted_of c.args.groups.now).schema in
    let inv = c.each_file.invariant in
    let look = looked_on bytes size faults s view start c.each_file.files files i c.each_file.ahead c.look_ahead.new.ahead inv.looked c.look_ahead.ensures.moved c.in_ok-look_ahead.ensures.cause.quiet c.look_ahead.ensures.ahead in
    let file = get_or files i c.index-files-i.result in
    let x = c.gather_one.new.file in
    let lt : i < length files = omega (arith, look.count, inv.looked.count) in
    let is : file ≡ get_or files i file = get_or_default files i c.index-files-i.result file lt in
    let e = c.in-Err-File.error in
    let cause = file_fault {T = Unit {0}} c.in-Err-File.field-0 e _ _ c.in-Err-File.field-0-is c.in-Err-File.ensures.cause in
    rw c.in-Err-File.field-0-is (file_cause {T = Unit {0}} {U = Unit {0}} faults start files i x file (Err e) (Err e) lt is look.faults cause refl)

pub returns-in-Err-File-clause-damaged : goal.returns-in-Err-File-clause-damaged
returns-in-Err-File-clause-damaged g c =
    let bytes = g.R.FileReader.bytes in
    let size = g.R.FileReader.size in
    let faults = g.R.FileReader.faults in
    let i = c.each_file.i in
    let start = c.args.files.now in
    let files = c.look_ahead.new.files in
    let view = c.args.view in
    let s = (wanted_of c.args.groups.now).schema in
    let inv = c.each_file.invariant in
    let look = looked_on bytes size faults s view start c.each_file.files files i c.each_file.ahead c.look_ahead.new.ahead inv.looked c.look_ahead.ensures.moved c.in_ok-look_ahead.ensures.cause.quiet c.look_ahead.ensures.ahead in
    let file = get_or files i c.index-files-i.result in
    let x = c.gather_one.new.file in
    let lt : i < length files = omega (arith, look.count, inv.looked.count) in
    let is : file ≡ get_or files i file = get_or_default files i c.index-files-i.result file lt in
    rw c.in-Err-File.field-0-is (λ d e. inl (file_damage bytes size d start files i x file lt look.count is look.left (c.in-Err-File.ensures.damaged d (c.in-Err-File.field-0-is ∙ ap gather.File e))))

pub returns-in-Err-File-clause-never : goal.returns-in-Err-File-clause-never
returns-in-Err-File-clause-never g c =
    let bytes = g.R.FileReader.bytes in
    let size = g.R.FileReader.size in
    let faults = g.R.FileReader.faults in
    let i = c.each_file.i in
    let start = c.args.files.now in
    let files = c.look_ahead.new.files in
    let view = c.args.view in
    let s = (wanted_of c.args.groups.now).schema in
    let inv = c.each_file.invariant in
    let look = looked_on bytes size faults s view start c.each_file.files files i c.each_file.ahead c.look_ahead.new.ahead inv.looked c.look_ahead.ensures.moved c.in_ok-look_ahead.ensures.cause.quiet c.look_ahead.ensures.ahead in
    let file = get_or files i c.index-files-i.result in
    let x = c.gather_one.new.file in
    let lt : i < length files = omega (arith, look.count, inv.looked.count) in
    let is : file ≡ get_or files i file = get_or_default files i c.index-files-i.result file lt in
    rw c.in-Err-File.field-0-is (λ d e contents told keeps. damage_unsound bytes size d start (set files i x) contents (file_damage bytes size d start files i x file lt look.count is look.left (c.in-Err-File.ensures.damaged d (c.in-Err-File.field-0-is ∙ ap gather.File e))) told)

pub sum_fault-requires-clause-within : goal.sum_fault-requires-clause-within
sum_fault-requires-clause-within g c = λ κs below.
    let bytes = g.R.FileReader.bytes in
    let size = g.R.FileReader.size in
    let faults = g.R.FileReader.faults in
    let i = c.each_file.i in
    let start = c.args.files.now in
    let files = c.look_ahead.new.files in
    let view = c.args.view in
    let s = (wanted_of c.args.groups.now).schema in
    let inv = c.each_file.invariant in
    let look = looked_on bytes size faults s view start c.each_file.files files i c.each_file.ahead c.look_ahead.new.ahead inv.looked c.look_ahead.ensures.moved c.in_ok-look_ahead.ensures.cause.quiet c.look_ahead.ensures.ahead in
    let file = get_or files i c.index-files-i.result in
    let x = c.gather_one.new.file in
    let lt : i < length files = omega (arith, look.count, inv.looked.count) in
    let is : file ≡ get_or files i file = get_or_default files i c.index-files-i.result file lt in
    omega (arith, lt, length-set files i x)

pub sum_fault-requires-clause-columns : goal.sum_fault-requires-clause-columns
sum_fault-requires-clause-columns g c = λ κs below. subst (λ (w : Wanted). IsTrue (are_places w.schema.keys w.columns)) (sym (c.in-Err-Sum.ensures.wanted ∙ c.each_file.invariant.wanted)) c.requires.gathering.columns

pub sum_fault-requires-clause-files : goal.sum_fault-requires-clause-files
sum_fault-requires-clause-files g c = λ κs below.
    let bytes = g.R.FileReader.bytes in
    let size = g.R.FileReader.size in
    let faults = g.R.FileReader.faults in
    let i = c.each_file.i in
    let start = c.args.files.now in
    let files = c.look_ahead.new.files in
    let view = c.args.view in
    let s = (wanted_of c.args.groups.now).schema in
    let inv = c.each_file.invariant in
    let look = looked_on bytes size faults s view start c.each_file.files files i c.each_file.ahead c.look_ahead.new.ahead inv.looked c.look_ahead.ensures.moved c.in_ok-look_ahead.ensures.cause.quiet c.look_ahead.ensures.ahead in
    let x = c.gather_one.new.file in
    let own : IsPinnedInput bytes s view x = subst (λ (w : Wanted). IsPinnedInput bytes w.schema view x) inv.wanted c.in-Err-Sum.ensures.pinned in
    subst (λ (w : Wanted). AllByRecursion (IsPinnedInput bytes w.schema view) (set files i x)) (sym (c.in-Err-Sum.ensures.wanted ∙ inv.wanted)) (all_set (IsPinnedInput bytes s view) files i x look.pinned own)

pub sum_fault-requires-clause-filter : goal.sum_fault-requires-clause-filter
sum_fault-requires-clause-filter g c = λ κs below. c.requires.filter ∙ ap (λ (w : Wanted). kinds_of w.schema) (sym (c.in-Err-Sum.ensures.wanted ∙ c.each_file.invariant.wanted))

pub sum_fault-requires-clause-ahead : goal.sum_fault-requires-clause-ahead
sum_fault-requires-clause-ahead g c = λ κs below.
    let bytes = g.R.FileReader.bytes in
    let size = g.R.FileReader.size in
    let faults = g.R.FileReader.faults in
    let i = c.each_file.i in
    let start = c.args.files.now in
    let files = c.look_ahead.new.files in
    let view = c.args.view in
    let s = (wanted_of c.args.groups.now).schema in
    let inv = c.each_file.invariant in
    let look = looked_on bytes size faults s view start c.each_file.files files i c.each_file.ahead c.look_ahead.new.ahead inv.looked c.look_ahead.ensures.moved c.in_ok-look_ahead.ensures.cause.quiet c.look_ahead.ensures.ahead in
    let file = get_or files i c.index-files-i.result in
    let x = c.gather_one.new.file in
    let lt : i < length files = omega (arith, look.count, inv.looked.count) in
    let is : file ≡ get_or files i file = get_or_default files i c.index-files-i.result file lt in
    let known = file_known bytes files i x file lt is c.in-Err-Sum.ensures.same ∙ look.known in
    subst (λ (ks : List Known). AreAhead (tolds_of ks) c.gather_one.new.ahead) (sym known) (c.in-Err-Sum.ensures.ahead (tolds_of (knowns_of bytes (inputs_in start))) (there_of_file bytes start files i file look.known lt is) look.ahead)

pub returns-in-Err-Sum-clause-pinned : goal.returns-in-Err-Sum-clause-pinned
returns-in-Err-Sum-clause-pinned g c = subst (λ (w : Wanted). AllByRecursion (IsPinnedInput g.R.FileReader.bytes w.schema c.args.view) c.sum_fault.new.files) (c.in-Err-Sum.ensures.wanted ∙ c.each_file.invariant.wanted) c.sum_fault.ensures.pinned

pub returns-in-Err-Sum-clause-known : goal.returns-in-Err-Sum-clause-known
returns-in-Err-Sum-clause-known g c =
    let bytes = g.R.FileReader.bytes in
    let size = g.R.FileReader.size in
    let faults = g.R.FileReader.faults in
    let i = c.each_file.i in
    let start = c.args.files.now in
    let files = c.look_ahead.new.files in
    let view = c.args.view in
    let s = (wanted_of c.args.groups.now).schema in
    let inv = c.each_file.invariant in
    let look = looked_on bytes size faults s view start c.each_file.files files i c.each_file.ahead c.look_ahead.new.ahead inv.looked c.look_ahead.ensures.moved c.in_ok-look_ahead.ensures.cause.quiet c.look_ahead.ensures.ahead in
    let file = get_or files i c.index-files-i.result in
    let x = c.gather_one.new.file in
    let lt : i < length files = omega (arith, look.count, inv.looked.count) in
    let is : file ≡ get_or files i file = get_or_default files i c.index-files-i.result file lt in
    c.sum_fault.ensures.known ∙ file_known bytes files i x file lt is c.in-Err-Sum.ensures.same ∙ look.known

pub returns-in-Err-Sum-clause-own : goal.returns-in-Err-Sum-clause-own
returns-in-Err-Sum-clause-own g c =
    let bytes = g.R.FileReader.bytes in
    let size = g.R.FileReader.size in
    let faults = g.R.FileReader.faults in
    let i = c.each_file.i in
    let start = c.args.files.now in
    let files = c.look_ahead.new.files in
    let view = c.args.view in
    let s = (wanted_of c.args.groups.now).schema in
    let inv = c.each_file.invariant in
    let look = looked_on bytes size faults s view start c.each_file.files files i c.each_file.ahead c.look_ahead.new.ahead inv.looked c.look_ahead.ensures.moved c.in_ok-look_ahead.ensures.cause.quiet c.look_ahead.ensures.ahead in
    let file = get_or files i c.index-files-i.result in
    let x = c.gather_one.new.file in
    let lt : i < length files = omega (arith, look.count, inv.looked.count) in
    let is : file ≡ get_or files i file = get_or_default files i c.index-files-i.result file lt in
    c.sum_fault.ensures.own ∙ own_set files i x file is c.in-Err-Sum.ensures.own ∙ look.own

pub returns-in-Err-Sum-clause-cause : goal.returns-in-Err-Sum-clause-cause
returns-in-Err-Sum-clause-cause g c =
    let bytes = g.R.FileReader.bytes in
    let size = g.R.FileReader.size in
    let faults = g.R.FileReader.faults in
    let i = c.each_file.i in
    let start = c.args.files.now in
    let files = c.look_ahead.new.files in
    let view = c.args.view in
    let s = (wanted_of c.args.groups.now).schema in
    let inv = c.each_file.invariant in
    let look = looked_on bytes size faults s view start c.each_file.files files i c.each_file.ahead c.look_ahead.new.ahead inv.looked c.look_ahead.ensures.moved c.in_ok-look_ahead.ensures.cause.quiet c.look_ahead.ensures.ahead in
    let file = get_or files i c.index-files-i.result in
    let x = c.gather_one.new.file in
    let lt : i < length files = omega (arith, look.count, inv.looked.count) in
    let is : file ≡ get_or files i file = get_or_default files i c.index-files-i.result file lt in
    let quiet = sum_quiet c.in-Err-Sum.field-0 _ _ c.in-Err-Sum.field-0-is c.in-Err-Sum.ensures.cause in
    let stays = file_faults faults files i x file lt is quiet ∙ look.faults in
    cause_on {T = Unit {0}} {U = Unit {0}} _ _ _ (Err c.sum_fault.result) (Err c.sum_fault.result) stays c.sum_fault.ensures.cause refl

pub returns-in-Err-Sum-clause-damaged : goal.returns-in-Err-Sum-clause-damaged
returns-in-Err-Sum-clause-damaged g c = λ d e.
    let bytes = g.R.FileReader.bytes in
    let size = g.R.FileReader.size in
    let faults = g.R.FileReader.faults in
    let i = c.each_file.i in
    let start = c.args.files.now in
    let files = c.look_ahead.new.files in
    let view = c.args.view in
    let s = (wanted_of c.args.groups.now).schema in
    let inv = c.each_file.invariant in
    let look = looked_on bytes size faults s view start c.each_file.files files i c.each_file.ahead c.look_ahead.new.ahead inv.looked c.look_ahead.ensures.moved c.in_ok-look_ahead.ensures.cause.quiet c.look_ahead.ensures.ahead in
    let file = get_or files i c.index-files-i.result in
    let x = c.gather_one.new.file in
    let lt : i < length files = omega (arith, look.count, inv.looked.count) in
    let is : file ≡ get_or files i file = get_or_default files i c.index-files-i.result file lt in
    let within : i < length start = omega (arith, lt, look.count) in
    let was = get_or start i file in
    let here : was ≡ get_or start i was = get_or_default start i file was within in
    let moved = moved_here bytes size i start files file c.index-files-i.result within look.count look.left in
    let w = wanted_of c.args.groups.now in
    let terms = c.args.filter.now.terms in
    let key = key_at_hand c.gather_one.new.groups in
    let now = set files i x in
    let left = left_more bytes size i start files x look.count look.left in
    let long : length now ≡ length start = length-set files i x ∙ look.count in
    let wanted = c.in-Err-Sum.ensures.wanted ∙ inv.wanted in
    elim (c.sum_fault.ensures.damaged d e) [
      | inl block ↦
          let met : IsDamageIn bytes size d (drop (suc i) now) (drop (suc i) c.sum_fault.new.files) = subst (λ n. IsDamageIn bytes size d (drop n now) (drop n c.sum_fault.new.files)) (add-one i) block in
          let first = damage_moved bytes size d (drop (suc i) start) (drop (suc i) now) (drop (suc i) c.sum_fault.new.files) left met in
          inl (damage_behind bytes size d (suc i) start c.sum_fault.new.files (length_known bytes c.sum_fault.new.files now c.sum_fault.ensures.known ∙ long) first)
      | inr sum ↦
          let r = c.in-Err-Sum.ensures.sum c.in-Err-Sum.field-0-is inv.put.0 inv.put.1 in
          let leaves = subst (λ (v : Wanted). SumLeavesAmong v inv.put.0 r.0 key) inv.wanted r.1 in
          let newest = subst (λ (v : Wanted). IsNewestFrom bytes v terms view key i now sum.0) wanted sum.1 in
          let index = ap (λ (y : Indexed). y.file) (c.in-Err-Sum.ensures.same.index ∙ (moved_same bytes size was file moved).index) in
          let read = λ (rows : List Row) (told : IsTold (known_of bytes was.input) rows).
          subst (λ (all : List Row). (rest : List Row) × (filtered s terms all ≡ r.0 ++ rest)) (moved_rows bytes size view was file rows moved)
          (subst (λ (v : Wanted). (rest : List Row) × (rows_matching v.schema terms view file rows ≡ r.0 ++ rest)) inv.wanted (r.2 rows (moved_told bytes size was file rows moved told))) in
          inr (sum_in bytes size w terms view key start now i was x inv.put.0 r.0 sum.0 d within long here (sym (get_or-set_same files i x x lt)) index left leaves inv.put.2 read newest sum.2)
    ]

pub returns-in-Err-Sum-clause-never : goal.returns-in-Err-Sum-clause-never
returns-in-Err-Sum-clause-never g c = λ d e contents told keeps.
    let bytes = g.R.FileReader.bytes in
    let size = g.R.FileReader.size in
    let faults = g.R.FileReader.faults in
    let i = c.each_file.i in
    let start = c.args.files.now in
    let files = c.look_ahead.new.files in
    let view = c.args.view in
    let s = (wanted_of c.args.groups.now).schema in
    let inv = c.each_file.invariant in
    let look = looked_on bytes size faults s view start c.each_file.files files i c.each_file.ahead c.look_ahead.new.ahead inv.looked c.look_ahead.ensures.moved c.in_ok-look_ahead.ensures.cause.quiet c.look_ahead.ensures.ahead in
    let file = get_or files i c.index-files-i.result in
    let x = c.gather_one.new.file in
    let lt : i < length files = omega (arith, look.count, inv.looked.count) in
    let is : file ≡ get_or files i file = get_or_default files i c.index-files-i.result file lt in
    let within : i < length start = omega (arith, lt, look.count) in
    let was = get_or start i file in
    let here : was ≡ get_or start i was = get_or_default start i file was within in
    let moved = moved_here bytes size i start files file c.index-files-i.result within look.count look.left in
    let terms = c.args.filter.now.terms in
    let rows = get_or contents i [] in
    let bounded = given_bounded s terms view start contents i was inv.put.0 within (told_count bytes start contents told) here (inv.put.2 contents told) keeps in
    c.in-Err-Sum.ensures.never c.in-Err-Sum.field-0-is inv.put.0 inv.put.1 rows (moved_told bytes size was file rows moved (told_here bytes start contents i was told within here))
    (subst (λ (w : Wanted). KeepsSums w.schema (inv.put.0 ++ filtered w.schema terms (rows_ungrouped view file rows))) (sym inv.wanted)
    (subst (λ (more : List Row). KeepsSums s (inv.put.0 ++ filtered s terms more)) (sym (moved_rows bytes size view was file rows moved)) bounded))

pub returns-clause-put : goal.returns-clause-put
returns-clause-put g c =
    let inv = c.each_file.invariant in
    let start = c.args.files.now in
    let le : length start ≤ c.each_file.i = omega (arith, inv.looked.count, c.each_file-test.false, c.each_file.auto.files) in
    (inv.put.0, inv.put.1, λ contents told. inv.put.2 contents told ∙ all_matching (wanted_of c.args.groups.now).schema c.args.filter.now.terms c.args.view start contents c.each_file.i (told_count g.R.FileReader.bytes start contents told) le)

pub returns-clause-cause : goal.returns-clause-cause
returns-clause-cause g c =
    cause_quiet _ _ _ c.each_file.invariant.looked.faults
