use Rattle.std.proofs.Common.{◌≤◌, length, Some, refl, sym, ◌∙◌, ap, subst, arith}
use Rattle.mesa_disk.specs.Image.{Image, area_of, overwritten, Overwrites, Tears}
use Rattle.mesa_disk.specs.Story.{Steps}
use Rattle.mesa_disk.specs.Recorded.{AllBefore, MayLeave}
use Rattle.mesa_disk.specs.Memory.{seen_of, Notes, Keeps}
use Rattle.mesa_disk.specs.declared.memory.calls.Done.{Done}
use Rattle.mesa_disk.specs.declared.memory.calls.Call.TheVariants.{Write}
use Rattle.mesa_disk.proofs.Run.{area_of-with_area}
use Rattle.mesa_disk.proofs.Noted.{AllBefore-later, stamped_more, steps_some, torn_none, tears_overwritten, length-overwritten, left_by, same_left, passed, kept}
use Rattle.mesa_disk.proofs.memory.disk.MemDiskDiskMemMade.journal_write.Goals as goal

pub invariant_of-self : goal.invariant_of-self
invariant_of-self c =
    let S = c.args.self.now in
    record { ticking = omega (arith, c.saturating_add-self.ensures); stamped = AllBefore-later S.log.calls.items S.clock _ (omega (arith, c.saturating_add-self.ensures)) S.stamped }

pub invariant_of-self-in_default : goal.invariant_of-self-in_default
invariant_of-self-in_default c =
    let S = c.args.self.now in
    let d : Done = record { before = S.clock; call = Write c.args.area c.args.at c.args.bytes.now } in
    let notes : Notes d S.log c.write.new.self = c.in_default.ensures.ok in
    record {
      ticking = omega (arith, c.saturating_add-self.ensures);
      stamped = stamped_more S.log.calls.items _ d S.clock _ S.stamped (omega (arith, c.saturating_add-self.ensures)) (omega (arith, c.saturating_add-self.ensures)) notes.calls;
    }

pub invariant_of-self-2 : goal.invariant_of-self-2
invariant_of-self-2 c =
    let S = c.args.self.now in
    let keeps : Keeps S.log c.write.new.self = c.in-Err.ensures.err in
    record {
      ticking = omega (arith, c.saturating_add-self.ensures);
      stamped = subst (AllBefore _) (sym keeps.calls) (AllBefore-later S.log.calls.items S.clock _ (omega (arith, c.saturating_add-self.ensures)) S.stamped);
    }

pub returns-in_default-clause-time : goal.returns-in_default-clause-time
returns-in_default-clause-time c =
    let S = c.args.self.now in
    let d : Done = record { before = S.clock; call = Write c.args.area c.args.at c.args.bytes.now } in
    let notes : Notes d S.log c.write.new.self = c.in_default.ensures.ok in
    record {
      later = omega (arith, c.saturating_add-self.ensures);
      nothing_else = λ t x within left. passed S.log _ d notes t x left;
      keeps = λ t x within left. kept S.log _ d notes t x within left;
    }

pub returns-then-is_due-clause-torn : goal.returns-then-is_due-clause-torn
returns-then-is_due-clause-torn c =
    let S = c.args.self.now in
    steps_some (Tears c.args.area c.args.at (length c.args.bytes.now)) _ _ (torn_none c.args.at _ c.args.area (seen_of S.log))

pub returns-then-is_due-clause-crash : goal.returns-then-is_due-clause-crash
returns-then-is_due-clause-crash c x left =
    let S = c.args.self.now in
    (x, left, torn_none c.args.at _ c.args.area x)

pub returns-in_default-clause-written : goal.returns-in_default-clause-written
returns-in_default-clause-written c =
    let S = c.args.self.now in
    let d : Done = record { before = S.clock; call = Write c.args.area c.args.at c.args.bytes.now } in
    let notes : Notes d S.log c.write.new.self = c.in_default.ensures.ok in
    steps_some (Overwrites c.args.area c.args.at c.args.bytes.now) _ _ notes.seen

pub returns-in_default-clause-torn : goal.returns-in_default-clause-torn
returns-in_default-clause-torn c =
    let S = c.args.self.now in
    let d : Done = record { before = S.clock; call = Write c.args.area c.args.at c.args.bytes.now } in
    let notes : Notes d S.log c.write.new.self = c.in_default.ensures.ok in
    steps_some (Tears c.args.area c.args.at (length c.args.bytes.now)) _ _ (tears_overwritten c.args.area c.args.at c.args.bytes.now _ _ c.requires notes.seen)

pub returns-in_default-clause-crash : goal.returns-in_default-clause-crash
returns-in_default-clause-crash c =
    let S = c.args.self.now in
    let d : Done = record { before = S.clock; call = Write c.args.area c.args.at c.args.bytes.now } in
    let notes : Notes d S.log c.write.new.self = c.in_default.ensures.ok in
    let within = subst (λ i. c.args.at ≤ length (area_of c.args.area i)) S.log.tied c.requires in
    left_by S.log _ d notes (Tears c.args.area c.args.at (length c.args.bytes.now)) (tears_overwritten c.args.area c.args.at c.args.bytes.now _ _ within refl) (λ x other. other)

pub returns-in_default-clause-len : goal.returns-in_default-clause-len
returns-in_default-clause-len c =
    let S = c.args.self.now in
    let d : Done = record { before = S.clock; call = Write c.args.area c.args.at c.args.bytes.now } in
    let notes : Notes d S.log c.write.new.self = c.in_default.ensures.ok in
    let old = area_of c.args.area (seen_of S.log) in
    ap (λ (i : Image). length (area_of c.args.area i)) notes.seen
    ∙ ap length (area_of-with_area c.args.area (overwritten c.args.at c.args.bytes.now old) (seen_of S.log))
    ∙ length-overwritten c.args.at c.args.bytes.now old c.requires

pub returns-clause-torn : goal.returns-clause-torn
returns-clause-torn c =
    let S = c.args.self.now in
    let keeps : Keeps S.log c.write.new.self = c.in-Err.ensures.err in
    subst (λ i. Steps (Tears c.args.area c.args.at (length c.args.bytes.now)) (Some (seen_of S.log)) (Some i)) (sym keeps.seen) (steps_some (Tears c.args.area c.args.at (length c.args.bytes.now)) _ _ (torn_none c.args.at _ c.args.area (seen_of S.log)))

pub returns-clause-crash : goal.returns-clause-crash
returns-clause-crash c x left =
    let S = c.args.self.now in
    let keeps : Keeps S.log c.write.new.self = c.in-Err.ensures.err in
    (x, same_left S.log _ keeps (λ s ds. MayLeave s ds x) left, torn_none c.args.at _ c.args.area x)
