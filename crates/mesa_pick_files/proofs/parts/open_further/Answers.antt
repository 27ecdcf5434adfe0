use Rattle.std.proofs.Common.{◌+◌, sym, ap, ◌∙◌, subst, false, None, arith}
use Rattle.std.specs.Prelude.{Option}
use Rattle.std.specs.List.{AllByRecursion}
use Rattle.mesa_disk.specs.Image.{Image}
use Rattle.mesa_open_files.specs.GivingBack.{spare_inputs}
use Rattle.mesa_open_files.proofs.Counts.{counted_more, counted_none, counted_then, unmoved_more, unmoved_none}
use Rattle.mesa_pick_files.specs.Parts.{AreReaders}
use Rattle.mesa_pick_files.proofs.Parting.{both_fresh, counted_back, damaged_not, none_damaged, readers_fresh, readers_more}
use Rattle.mesa_pick_files.proofs.parts.open_further.Goals as goal

pub returns-in_default-clause-counted : goal.returns-in_default-clause-counted
returns-in_default-clause-counted g c =
    counted_back g.D.Reader.FileReader.faults (spare_inputs c.args.first) (g.D.Disk.story c.args.disk.now) (g.D.Disk.story c.retire_spare.new.disk)
    (readers_fresh g.D.Reader.FileReader.bytes g.D.Reader.FileReader.faults (g.D.Disk.story c.args.disk.now).told c.args.wanted.now None c.args.first c.requires.first) c.retire_spare.ensures.given

pub parts-init : goal.parts-init
parts-init g c =
    let told = (g.D.Disk.story c.args.disk.now).told in
    record {
      unmoved = unmoved_none (g.D.Disk.story c.args.disk.now);
      counted = counted_none (g.D.Disk.story c.args.disk.now);
      spare = subst (AllByRecursion (AreReaders g.D.Reader.FileReader.bytes g.D.Reader.FileReader.faults told c.args.wanted.now None)) (sym c.in-Ok.ensures.items) tt;
      len = c.in-Ok.ensures.len;
      room = c.in-Ok.ensures.exact;
    }

-- ---- a later opening finds damage

pub returns-in-Some-clause-unmoved : goal.returns-in-Some-clause-unmoved
returns-in-Some-clause-unmoved g c = unmoved_more _ _ _ (unmoved_more _ _ _ c.parts.invariant.unmoved c.open_part.ensures.unmoved) c.retire_both.ensures.unmoved

pub returns-in-Some-clause-counted : goal.returns-in-Some-clause-counted
returns-in-Some-clause-counted g c =
    let fresh = both_fresh g.D.Reader.FileReader.bytes g.D.Reader.FileReader.faults (g.D.Disk.story c.args.disk.now).told c.args.wanted.now c.args.first c.parts.spare.items c.requires.first c.parts.invariant.spare in
    counted_then (g.D.Disk.story c.args.disk.now) (g.D.Disk.story c.open_part.new.disk) (g.D.Disk.story c.retire_both.new.disk) false
    (counted_more _ _ _ false c.parts.invariant.counted c.in-Ok-open_part.ensures.counted) c.retire_both.ensures.given.calls (c.retire_both.ensures.given.quiet fresh)

pub returns-in-Some-clause-opened : goal.returns-in-Some-clause-opened
returns-in-Some-clause-opened g c =
    let bytes = g.D.Reader.FileReader.bytes in
    let faults = g.D.Reader.FileReader.faults in
    let part = c.in-Ok-open_part.part in
    record {
      first = subst (λ (t : Option Image). AreReaders bytes faults t c.args.wanted.now part.damage part.readers) c.parts.invariant.unmoved.told c.in-Ok-open_part.ensures.opened;
      spare = subst (AllByRecursion (AreReaders bytes faults (g.D.Disk.story c.args.disk.now).told c.args.wanted.now None)) (sym c.new.ensures.items) tt;
      count = λ none. absurd (damaged_not part.damage c.in-Some.field-0 c.in-Some.is none);
      none = λ d is. c.new.ensures.items;
    }

-- ---- a later opening fails

pub returns-in-Err-clause-unmoved : goal.returns-in-Err-clause-unmoved
returns-in-Err-clause-unmoved g c = unmoved_more _ _ _ (unmoved_more _ _ _ c.parts.invariant.unmoved c.open_part.ensures.unmoved) c.retire_both-in-Err.ensures.unmoved

pub returns-in-Err-clause-counted : goal.returns-in-Err-clause-counted
returns-in-Err-clause-counted g c =
    let fresh = both_fresh g.D.Reader.FileReader.bytes g.D.Reader.FileReader.faults (g.D.Disk.story c.args.disk.now).told c.args.wanted.now c.args.first c.parts.spare.items c.requires.first c.parts.invariant.spare in
    counted_then (g.D.Disk.story c.args.disk.now) (g.D.Disk.story c.open_part.new.disk) (g.D.Disk.story c.retire_both-in-Err.new.disk) _
    (counted_more _ _ _ _ c.parts.invariant.counted c.in-Err.ensures.counted) c.retire_both-in-Err.ensures.given.calls (c.retire_both-in-Err.ensures.given.quiet fresh)

-- ---- all files are there once more

pub parts-preserved : goal.parts-preserved
parts-preserved g c =
    let bytes = g.D.Reader.FileReader.bytes in
    let faults = g.D.Reader.FileReader.faults in
    let told = (g.D.Disk.story c.args.disk.now).told in
    let part = c.in-Ok-open_part.part in
    let met = subst (λ (t : Option Image). AreReaders bytes faults t c.args.wanted.now part.damage part.readers) c.parts.invariant.unmoved.told c.in-Ok-open_part.ensures.opened in
    let all = readers_more bytes faults told c.args.wanted.now c.parts.spare.items part.readers c.parts.invariant.spare
    (subst (λ d. AreReaders bytes faults told c.args.wanted.now d part.readers) c.in-None.is met) in
    record {
      unmoved = unmoved_more _ _ _ c.parts.invariant.unmoved c.open_part.ensures.unmoved;
      counted = counted_more _ _ _ false c.parts.invariant.counted c.in-Ok-open_part.ensures.counted;
      spare = subst (AllByRecursion (AreReaders bytes faults told c.args.wanted.now None)) (sym c.push_reserved.ensures.items) all;
      len = c.push_reserved.ensures.len ∙ ap (λ n. n + 1) c.parts.invariant.len;
      room = c.push_reserved.ensures.capacity ∙ c.parts.invariant.room;
    }

pub returns-clause-opened : goal.returns-clause-opened
returns-clause-opened g c = record {
  first = c.requires.first;
  spare = c.parts.invariant.spare;
  count = λ _. sym c.parts.spare.ok.0 ∙ c.parts.invariant.len ∙ omega (arith, c.parts.auto.counter-end, c.parts-test.false);
  none = λ d is. absurd (none_damaged d is);
}
