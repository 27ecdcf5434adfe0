use Rattle.std.proofs.Common.{◌<◌, ◌≤◌, List, ap, arith, get_or, length, subst, sym}
use Rattle.mesa_open_files.specs.mesa_columns.declared.lifting.Lift.{Lift}
use Rattle.mesa_merge.specs.Inputs.{Known, known_of, knowns_of}
use Rattle.mesa_group_blocks.specs.Moved.{inputs_in}
use Rattle.mesa_group_blocks.specs.Pieces.{AreDecodingsOf, IsLiftOf}
use Rattle.mesa_group_blocks.proofs.Decoded.{all_known, decodings_next, known_here, known_next, lift_at, lifts_count}
use Rattle.mesa_group_blocks.proofs.Moved.{length_knowns}
use Rattle.mesa_group_blocks.proofs.decoding.decodings_of.Goals as goal

pub bounds-lifts-i : goal.bounds-lifts-i
bounds-lifts-i g c =
    let files = c.args.files.now in
    let count = lifts_count (knowns_of g.R.FileReader.bytes (inputs_in files)) c.args.lifts.now c.requires in
    omega (arith, count, length_knowns g.R.FileReader.bytes files)

pub each_file-preserved : goal.each_file-preserved
each_file-preserved g c =
    let bytes = g.R.FileReader.bytes in
    let files = c.args.files.now in
    let i = c.each_file.i in
    let file = get_or files i c.index-files-i.result in
    let is = ap (get_or files i) c.index-files-i.is in
    let ks = knowns_of bytes (inputs_in files) in
    let lt : i < length files = omega arith in
    let k : Known = known_of bytes file.input in
    let lift : Lift = get_or c.args.lifts.now i c.index-lifts-i.result in
    let within : i < length ks = subst (λ n. i < n) (sym (length_knowns bytes files)) lt in
    let lifts : IsLiftOf k lift = subst (λ (x : Known). IsLiftOf x lift) (known_here bytes files i file lt is) (lift_at ks c.args.lifts.now i k c.index-lifts-i.result c.requires within) in
    decodings_next ks i k lift c.each_file.found.items _ _ (known_next bytes files i file lt is) c.in_ok-push.ensures.items c.index-index.ensures (cc) lifts c.each_file.invariant

pub returns : goal.returns
returns g c =
    let files = c.args.files.now in
    let le : length files ≤ c.each_file.i = omega (arith, c.each_file-test.false) in
    subst (λ (ks : List Known). AreDecodingsOf ks c.each_file.found.items) (all_known g.R.FileReader.bytes files c.each_file.i le) c.each_file.invariant
