use Rattle.std.proofs.Common.{◌≡◌, ◌∙◌, ◌++◌, List, ap, drop, subst, sym}
use Rattle.std.specs.Prelude.{slice_get}
use Rattle.mesa_open_files.specs.mesa_columns.Columns.{kinds_of}
use Rattle.mesa_open_files.specs.mesa_columns.Rows.{AreRowsOf}
use Rattle.mesa_filter.proofs.PlacesAsked.{slot_there}
use Rattle.mesa_delta.specs.Ahead.{AreAhead, Untested}
use Rattle.mesa_answer.specs.Gathered.{wanted_of}
use Rattle.mesa_answer.specs.Gathering.{Wanted}
use Rattle.mesa_merge.specs.Inputs.{tolds_of}
use Rattle.mesa_group_blocks.proofs.JobSteps.{HasPutSome, lifted_good, put_all, put_more, put_none, taken_within}
use Rattle.mesa_group_blocks.proofs.jobs.put_waiting.Goals as goal

pub each_block-init : goal.each_block-init
each_block-init c =
    let s = (wanted_of c.args.groups.now).schema in
    subst (λ (us : List Untested). HasPutSome s c.args.filter.now c.args.decodings.now c.args.waiting.now us c.args.groups.now c.args.groups.now) (sym c.digest.ensures)
    (put_none s c.args.filter.now c.args.decodings.now c.args.waiting.now c.args.groups.now)

pub take-requires : goal.take-requires
take-requires c = λ u rest is.
    let files = c.requires.files in
    let ks = files.0 in
    let first = c.in-Some.ensures.some in
    let same : first.0 ≡ u = let both = sym first.2 ∙ is in cc in
    let at = ap (slice_get c.args.decodings.now) (sym (ap (λ (v : Untested). v.file) same) ∙ first.3) ∙ slot_there c.args.decodings.now _ c.in-Some-get.decoding.now c.in-Some-get.ensures.lookup.0 c.in-Some-get.ensures.lookup.1 in
    taken_within ks c.args.decodings.now u rest c.in-Some-get.decoding.now files.2 (subst (AreAhead (tolds_of ks)) is (c.each_block.invariant.ahead ks files.3)) at

pub put_block-requires-clause-gathering : goal.put_block-requires-clause-gathering
put_block-requires-clause-gathering c =
    let start = c.requires.gathering in
    let more = c.each_block.invariant.put start.0 start.1 in
    (start.0 ++ more.0, more.1)

pub put_block-requires-clause-filter : goal.put_block-requires-clause-filter
put_block-requires-clause-filter c = c.requires.filter ∙ ap (λ (w : Wanted). kinds_of w.schema) (sym c.each_block.invariant.wanted)

pub put_block-requires-clause-form : goal.put_block-requires-clause-form
put_block-requires-clause-form c =
    let files = c.requires.files in
    let first = c.in-Some.ensures.some in
    let d = c.in-Some-get.decoding.now in
    let at = ap (slice_get c.args.decodings.now) first.3 ∙ slot_there c.args.decodings.now _ c.in-Some-get.decoding.now c.in-Some-get.ensures.lookup.0 c.in-Some-get.ensures.lookup.1 in
    subst (λ (w : Wanted). AreRowsOf w.schema c.in_ok-lifted.field-0) (sym c.each_block.invariant.wanted)
    (lifted_good c.lifts_to_present.ensures.form (wanted_of c.args.groups.now).schema files.0 c.args.decodings.now first.0.file first.0.block d c.in-Some-2.block c.in_ok-lifted.field-0 files.1 files.2 at
    ((rw c.in-Some-2.is at c.in_ok-block.ensures.block) first.0 first.1 first.2) c.in_ok-lifted.ensures)

pub each_block-preserved : goal.each_block-preserved
each_block-preserved c =
    let first = c.in-Some.ensures.some in
    let d = c.in-Some-get.decoding.now in
    let s = (wanted_of c.args.groups.now).schema in
    let at = ap (slice_get c.args.decodings.now) first.3 ∙ slot_there c.args.decodings.now _ c.in-Some-get.decoding.now c.in-Some-get.ensures.lookup.0 c.in-Some-get.ensures.lookup.1 in
    let left : c.take.new.self ≡ first.1 = c.take.ensures.step ∙ ap (drop 1) first.2 in
    subst (λ (us : List Untested). HasPutSome s c.args.filter.now c.args.decodings.now c.args.waiting.now us c.args.groups.now c.put_block-in-Some.new.groups) (sym left)
    (put_more s c.args.filter.now c.args.decodings.now c.args.waiting.now c.each_block.waiting c.args.groups.now c.each_block.groups c.put_block-in-Some.new.groups first.0 first.1 d c.in-Some-2.block c.in_ok-lifted.field-0 c.each_block.invariant first.2
    c.requires.filter at ((rw c.in-Some-2.is at c.in_ok-block.ensures.block) first.0 first.1 first.2) ((rw c.in-Some-2.is at c.in_ok-block.ensures.again) first.0 first.1 first.2) c.in_ok-lifted.ensures c.in_ok-put_block.ensures.put c.in_ok-put_block.ensures.wanted)

pub returns-clause-put : goal.returns-clause-put
returns-clause-put c = λ all given h.
    put_all (wanted_of c.args.groups.now).schema c.args.filter.now c.args.decodings.now c.args.waiting.now c.each_block.waiting c.args.groups.now c.each_block.groups c.each_block.invariant c.in_default.ensures.none given h
