use Rattle.std.proofs.Common.{◌≡◌, ◌∙◌, [], List, ap, subst, sym}
use Rattle.std.specs.Prelude.{◌↔◌, IsTrue}
use Rattle.mesa_group_blocks.specs.mesa_columns.declared.rows.Row.{Row}
use Rattle.mesa_group_blocks.specs.mesa_columns.Columns.{kinds_of}
use Rattle.mesa_group_blocks.specs.mesa_answer.Gathered.{key_at_hand, wanted_of}
use Rattle.mesa_group_blocks.specs.mesa_answer.Gathering.{Wanted, group_from}
use Rattle.mesa_group_blocks.specs.mesa_answer.Sums.{HasGroup}
use Rattle.mesa_group_blocks.proofs.mesa_answer.Leaving.{none_leaves}
use Rattle.mesa_group_blocks.specs.mesa_open_files.Pins.{IsPinnedInput}
use Rattle.mesa_query.specs.Sums.{rows_matching}
use Rattle.mesa_query.proofs.Files.{file_fault}
use Rattle.mesa_query.proofs.newest.holds_group.Goals as goal

pub gather_one-requires-clause-gathering : goal.gather_one-requires-clause-gathering
gather_one-requires-clause-gathering g c = λ κs below. ([], c.in_ok-first.ensures.none)

pub gather_one-requires-clause-file : goal.gather_one-requires-clause-file
gather_one-requires-clause-file g c = λ κs below. subst (λ (w : Wanted). IsPinnedInput g.R.FileReader.bytes w.schema c.args.view c.args.file.now) (sym c.in_ok-first.ensures.wanted) c.requires.file

pub gather_one-requires-clause-filter : goal.gather_one-requires-clause-filter
gather_one-requires-clause-filter g c = λ κs below. c.requires.filter ∙ ap (λ (w : Wanted). kinds_of w.schema) (sym c.in_ok-first.ensures.wanted)

pub holds-requires-clause-gathering : goal.holds-requires-clause-gathering
holds-requires-clause-gathering g c =
    let put = c.in-Ok.ensures.put [] c.in_ok-first.ensures.none in
    (put.0, put.1)

pub holds-requires-clause-begins : goal.holds-requires-clause-begins
holds-requires-clause-begins g c =
    let wanted = c.in-Ok.ensures.wanted ∙ c.in_ok-first.ensures.wanted in
    wanted ∙ (λ i. group_from (sym wanted i).schema (sym wanted i).columns (sym c.key_at_hand.ensures i))

pub returns-in-Ok-clause-holds : goal.returns-in-Ok-clause-holds
returns-in-Ok-clause-holds g c = λ rows told.
    let w = wanted_of c.args.groups.now in
    let view = c.args.view in
    let terms = c.args.filter.now.terms in
    let wanted = c.in-Ok.ensures.wanted ∙ c.in_ok-first.ensures.wanted in
    let put = c.in-Ok.ensures.put [] c.in_ok-first.ensures.none in
    let these : put.0 ≡ rows_matching w.schema terms view c.args.file.now rows = put.2 rows told ∙ ap (λ (v : Wanted). rows_matching v.schema terms view c.args.file.now rows) c.in_ok-first.ensures.wanted in
    let held = c.holds.ensures put.0 put.1 in
    subst (λ (all : List Row). IsTrue c.holds.result ↔ HasGroup w.schema w.columns (key_at_hand c.args.groups.now) all) these
    (subst (λ (v : Wanted). IsTrue c.holds.result ↔ HasGroup v.schema v.columns (key_at_hand c.args.groups.now) put.0) wanted (rw c.key_at_hand.ensures at held))

pub returns-in-Err-File-clause-cause : goal.returns-in-Err-File-clause-cause
returns-in-Err-File-clause-cause g c = file_fault c.in-Err-File.field-0 c.in-Err-File.error _ _ c.in-Err-File.field-0-is c.in-Err-File.ensures.cause

pub unreachable-requires : goal.unreachable-requires
unreachable-requires g c =
    let w = wanted_of c.args.groups.now in
    let r = c.in-Err-Sum.ensures.sum c.in-Err-Sum.field-0-is [] c.in_ok-first.ensures.none in
    none_leaves w.schema w.columns (key_at_hand c.args.groups.now) _ _ [] r.0 c.in_ok-first.ensures.wanted r.1
