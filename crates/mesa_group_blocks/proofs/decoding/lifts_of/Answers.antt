use Rattle.std.proofs.Common.{◌+◌, ◌<◌, ◌≤◌, ◌++◌, ◌∷◌, [], List, ap, arith, get_or, length, subst, sym, take}
use Rattle.mesa_schema.specs.Changes.{Lineage, epoch_of}
use Rattle.mesa_schema.specs.Lifting.{Lifts}
use Rattle.mesa_schema.specs.Lineages.{IsLineage}
use Rattle.mesa_scan.specs.Cursors.{IsInput}
use Rattle.mesa_merge.specs.Inputs.{Known, known_of, knowns_of}
use Rattle.mesa_group_blocks.specs.Moved.{inputs_in}
use Rattle.mesa_group_blocks.specs.Pieces.{AreLiftsOf, IsLiftOf}
use Rattle.mesa_group_blocks.proofs.Decoded.{known_next, lifts_more, all_known}
use Rattle.mesa_group_blocks.proofs.Moved.{all_at, input_here, input_within}
use Rattle.mesa_group_blocks.proofs.decoding.lifts_of.Goals as goal

pub lift_from-requires : goal.lift_from-requires
lift_from-requires g c =
    let files = c.args.files.now in
    let i = c.each_file.i in
    let file = get_or files i c.index-files-i.result in
    let is = ap (get_or files i) c.index-files-i.is in
    let lt : i < length files = omega arith in
    let one = all_at (IsInput g.R.FileReader.bytes) (inputs_in files) i file.input c.requires (input_within files i lt) (sym (input_here files i file is)) in
    subst (λ (l : Lineage). file.input.epoch ≤ epoch_of l) (sym c.deref-in-each_file.ensures) one.epoch

pub each_file-preserved : goal.each_file-preserved
each_file-preserved g c =
    let bytes = g.R.FileReader.bytes in
    let files = c.args.files.now in
    let i = c.each_file.i in
    let file = get_or files i c.index-files-i.result in
    let is = ap (get_or files i) c.index-files-i.is in
    let lt : i < length files = omega arith in
    let one = all_at (IsInput bytes) (inputs_in files) i file.input c.requires (input_within files i lt) (sym (input_here files i file is)) in
    let k : Known = known_of bytes file.input in
    let rules : IsLineage file.input.evolving.value = subst IsLineage c.deref.ensures c.present-columns.ensures.rules in
    let lift : IsLiftOf k c.in_ok-lift_from.field-0 = record { rules = rules; lifts = subst (λ (l : Lineage). Lifts c.in_ok-lift_from.field-0 l file.input.epoch) c.deref-in-each_file.ensures c.in_ok-lift_from.ensures; columns = one.columns } in
    subst (AreLiftsOf (take (i + 1) (knowns_of bytes (inputs_in files)))) (sym c.in_ok-push.ensures.items)
    (subst (λ (ks : List Known). AreLiftsOf ks (c.each_file.lifts.items ++ c.in_ok-lift_from.field-0 ∷ [])) (sym (known_next bytes files i file lt is))
    (lifts_more (take i (knowns_of bytes (inputs_in files))) c.each_file.lifts.items k c.in_ok-lift_from.field-0 c.each_file.invariant lift))

pub returns : goal.returns
returns g c =
    let files = c.args.files.now in
    let le : length files ≤ c.each_file.i = omega (arith, c.each_file-test.false) in
    subst (λ (ks : List Known). AreLiftsOf ks c.each_file.lifts.items) (all_known g.R.FileReader.bytes files c.each_file.i le) c.each_file.invariant
