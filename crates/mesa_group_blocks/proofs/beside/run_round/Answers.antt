use Rattle.std.proofs.Common.{◌∙◌, subst, sym, List}
use Rattle.std.proofs.lemmas.Result.{err_from_is_err_and}
use Rattle.mesa_delta.specs.declared.error.FileError.TheVariants as file_error
use Rattle.mesa_merge.specs.Inputs.{Known, knowns_of}
use Rattle.mesa_merge.proofs.Causing.{cause_other, cause_quiet}
use Rattle.mesa_group_blocks.specs.declared.decoding.Decoding.{Decoding}
use Rattle.mesa_group_blocks.specs.Moved.{inputs_in}
use Rattle.mesa_group_blocks.specs.Pieces.{AreDecodingsOf, AreLiftsOf}
use Rattle.mesa_group_blocks.proofs.Moved.{moved_known}
use Rattle.mesa_group_blocks.proofs.JobSteps.{can_group, jobs_grouped, pieces_grouped}
use Rattle.mesa_group_blocks.proofs.beside.run_round.Goals as goal

pub decodings_of-requires-after_bounds : goal.decodings_of-requires-after_bounds
decodings_of-requires-after_bounds g c = λ κs below.
    let known = moved_known g.R.FileReader.bytes g.R.FileReader.size c.args.files.now c.read_jobs.new.files c.read_jobs.ensures.moved in
    subst (λ (ks : List Known). AreLiftsOf ks c.args.lifts.now) (sym known) c.requires.lifts

pub group_all-requires-after_bounds : goal.group_all-requires-after_bounds
group_all-requires-after_bounds g c = λ κs below i d lt.
    let bytes = g.R.FileReader.bytes in
    let start = c.args.files.now in
    let known = moved_known bytes g.R.FileReader.size start c.read_jobs.new.files c.read_jobs.ensures.moved in
    let ks : List Known = knowns_of bytes (inputs_in start) in
    let w = c.requires.jobs.0 in
    let run = c.read_jobs.ensures.jobs w c.requires.jobs.1 in
    let ds : List Decoding = c.deref.result.now in
    let decoded = subst (λ (xs : List Known). AreDecodingsOf xs ds) known (subst (AreDecodingsOf (knowns_of bytes (inputs_in c.read_jobs.new.files))) (sym c.deref.ensures.value) c.in_ok-decodings.ensures) in
    (ks, w, can_group ks w c.args.filter.now ds c.read_jobs.new.jobs run.filter run.alike decoded run.each i d lt)

pub returns-clause-jobs : goal.returns-clause-jobs
returns-clause-jobs g c = λ sound w h.
    let bytes = g.R.FileReader.bytes in
    let start = c.args.files.now in
    let known = moved_known bytes g.R.FileReader.size start c.read_jobs.new.files c.read_jobs.ensures.moved in
    let ks : List Known = knowns_of bytes (inputs_in start) in
    let run = c.read_jobs.ensures.jobs w h in
    let ds : List Decoding = c.deref.result.now in
    let decoded = subst (λ (xs : List Known). AreDecodingsOf xs ds) known (subst (AreDecodingsOf (knowns_of bytes (inputs_in c.read_jobs.new.files))) (sym c.deref.ensures.value) c.in_ok-decodings.ensures) in
    record {
      filter = run.filter;
      alike = run.alike;
      each = jobs_grouped ks w c.args.filter.now ds c.read_jobs.new.jobs c.group_all.new.jobs run.filter run.alike decoded c.group_all.ensures.count c.group_all.ensures.each (c.are_sound.ensures sound) run.each;
    }

pub returns-clause-pieces : goal.returns-clause-pieces
returns-clause-pieces g c =
    pieces_grouped c.args.filter.now c.deref.result.now c.read_jobs.new.jobs c.group_all.new.jobs c.group_all.ensures.count c.group_all.ensures.each ∙ c.read_jobs.ensures.pieces

pub returns-clause-cause : goal.returns-clause-cause
returns-clause-cause g c = cause_quiet _ _ _ c.in_ok-read_jobs.ensures.cause.quiet

pub returns-then-not-branch-clause-cause : goal.returns-then-not-branch-clause-cause
returns-then-not-branch-clause-cause g c = cause_quiet _ _ _ c.in_ok-read_jobs.ensures.cause.quiet

pub returns-in_err-read_jobs-clause-cause : goal.returns-in_err-read_jobs-clause-cause
returns-in_err-read_jobs-clause-cause g c =
    let p = err_from_is_err_and c.from_residual.result c.from_residual.ensures.1 in
    let cause = c.in_err-read_jobs.ensures.cause in
    rw (p.1, p.2) (record { later = cause.later; failed = cause.failed; quiet = tt; other = cause.other })

pub returns-in_err-decodings-clause-cause : goal.returns-in_err-decodings-clause-cause
returns-in_err-decodings-clause-cause g c =
    let p = err_from_is_err_and c.from_residual-in_err-decodings.result c.from_residual-in_err-decodings.ensures.1 in
    rw (p.1, p.2) (cause_other _ _ file_error.Memory c.in_ok-read_jobs.ensures.cause.quiet (λ read. cc))
