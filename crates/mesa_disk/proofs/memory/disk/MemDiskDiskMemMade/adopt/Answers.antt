use Rattle.std.proofs.Common.{inl, inr, ⊎_elim, Some, refl, sym, subst, arith}
use Rattle.std.specs.Arc.{arc_value}
use Rattle.mesa_disk.specs.Image.{Adopts, May}
use Rattle.mesa_disk.specs.Recorded.{AllBefore, MayLeave}
use Rattle.mesa_disk.specs.Memory.{Notes, Keeps}
use Rattle.mesa_disk.specs.declared.memory.calls.Done.{Done}
use Rattle.mesa_disk.specs.declared.memory.calls.Call.TheVariants.{Adopt}
use Rattle.mesa_disk.proofs.Noted.{AllBefore-later, stamped_more, steps_some, adopts_told, left_by, same_left, passed, kept}
use Rattle.mesa_disk.proofs.memory.disk.MemDiskDiskMemMade.adopt.Goals as goal

pub invariant_of-self : goal.invariant_of-self
invariant_of-self c =
    let S = c.args.self.now in
    record { ticking = omega (arith, c.saturating_add-self.ensures); stamped = AllBefore-later S.log.calls.items S.clock _ (omega (arith, c.saturating_add-self.ensures)) S.stamped }

pub invariant_of-self-in_default : goal.invariant_of-self-in_default
invariant_of-self-in_default c =
    let S = c.args.self.now in
    let d : Done = record { before = S.clock; call = Adopt c.args.id c.args.made.bytes } in
    let notes : Notes d S.log c.note.new.self = c.in_default.ensures.ok in
    record {
      ticking = omega (arith, c.saturating_add-self.ensures);
      stamped = stamped_more S.log.calls.items _ d S.clock _ S.stamped (omega (arith, c.saturating_add-self.ensures)) (omega (arith, c.saturating_add-self.ensures)) notes.calls;
    }

pub invariant_of-self-2 : goal.invariant_of-self-2
invariant_of-self-2 c =
    let S = c.args.self.now in
    let keeps : Keeps S.log c.note.new.self = c.in-Err.ensures.err in
    record {
      ticking = omega (arith, c.saturating_add-self.ensures);
      stamped = subst (AllBefore _) (sym keeps.calls) (AllBefore-later S.log.calls.items S.clock _ (omega (arith, c.saturating_add-self.ensures)) S.stamped);
    }

pub returns-in_default-clause-time : goal.returns-in_default-clause-time
returns-in_default-clause-time c =
    let S = c.args.self.now in
    let d : Done = record { before = S.clock; call = Adopt c.args.id c.args.made.bytes } in
    let notes : Notes d S.log c.note.new.self = c.in_default.ensures.ok in
    record {
      later = omega (arith, c.saturating_add-self.ensures);
      nothing_else = λ t x within left. passed S.log _ d notes t x left;
      keeps = λ t x within left. kept S.log _ d notes t x within left;
    }

pub returns-then-is_due-clause-whole : goal.returns-then-is_due-clause-whole
returns-then-is_due-clause-whole c =
    let S = c.args.self.now in
    steps_some (May Adopts (c.args.id, Some (arc_value c.args.made.bytes))) _ _ (inl refl)

pub returns-then-is_due-clause-crash : goal.returns-then-is_due-clause-crash
returns-then-is_due-clause-crash c x left =
    let S = c.args.self.now in
    (x, left, inl refl)

pub returns-in_default-clause-adopted : goal.returns-in_default-clause-adopted
returns-in_default-clause-adopted c =
    let S = c.args.self.now in
    let d : Done = record { before = S.clock; call = Adopt c.args.id c.args.made.bytes } in
    let notes : Notes d S.log c.note.new.self = c.in_default.ensures.ok in
    steps_some (Adopts (c.args.id, Some (arc_value c.args.made.bytes))) _ _ (adopts_told c.args.id (arc_value c.args.made.bytes) _ _ notes.seen)

pub returns-in_default-clause-whole : goal.returns-in_default-clause-whole
returns-in_default-clause-whole c =
    let S = c.args.self.now in
    let d : Done = record { before = S.clock; call = Adopt c.args.id c.args.made.bytes } in
    let notes : Notes d S.log c.note.new.self = c.in_default.ensures.ok in
    steps_some (May Adopts (c.args.id, Some (arc_value c.args.made.bytes))) _ _ (inr (adopts_told c.args.id (arc_value c.args.made.bytes) _ _ notes.seen))

pub returns-in_default-clause-crash : goal.returns-in_default-clause-crash
returns-in_default-clause-crash c =
    let S = c.args.self.now in
    let d : Done = record { before = S.clock; call = Adopt c.args.id c.args.made.bytes } in
    let notes : Notes d S.log c.note.new.self = c.in_default.ensures.ok in
    left_by S.log _ d notes (May Adopts (c.args.id, Some (arc_value c.args.made.bytes))) (inr (adopts_told c.args.id (arc_value c.args.made.bytes) _ _ refl)) (λ x other. (other.0, other.1, ⊎_elim (λ same. inl same) (λ is. inr (adopts_told c.args.id (arc_value c.args.made.bytes) other.0 x is)) other.2))

pub returns-clause-whole : goal.returns-clause-whole
returns-clause-whole c =
    let S = c.args.self.now in
    let keeps : Keeps S.log c.note.new.self = c.in-Err.ensures.err in
    steps_some (May Adopts (c.args.id, Some (arc_value c.args.made.bytes))) _ _ (inl keeps.seen)

pub returns-clause-crash : goal.returns-clause-crash
returns-clause-crash c x left =
    let S = c.args.self.now in
    let keeps : Keeps S.log c.note.new.self = c.in-Err.ensures.err in
    (x, same_left S.log _ keeps (λ s ds. MayLeave s ds x) left, inl refl)
