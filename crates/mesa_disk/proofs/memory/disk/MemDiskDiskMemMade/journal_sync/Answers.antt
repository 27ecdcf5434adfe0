use Rattle.std.proofs.Common.{inl, Some, refl, sym, ◌∙◌, ap, subst, arith}
use Rattle.mesa_disk.specs.Recorded.{AllBefore}
use Rattle.mesa_disk.specs.Memory.{Notes, Keeps}
use Rattle.mesa_disk.specs.declared.memory.calls.Done.{Done}
use Rattle.mesa_disk.specs.declared.memory.calls.Call.TheVariants.{Sync}
use Rattle.mesa_disk.proofs.Noted.{AllBefore-later, stamped_more, sync_left, passed, kept}
use Rattle.mesa_disk.proofs.memory.disk.MemDiskDiskMemMade.journal_sync.Goals as goal

pub invariant_of-self : goal.invariant_of-self
invariant_of-self c =
    let S = c.args.self.now in
    record { ticking = omega (arith, c.saturating_add-self.ensures); stamped = AllBefore-later S.log.calls.items S.clock _ (omega (arith, c.saturating_add-self.ensures)) S.stamped }

pub invariant_of-self-in_default : goal.invariant_of-self-in_default
invariant_of-self-in_default c =
    let S = c.args.self.now in
    let d : Done = record { before = S.clock; call = Sync } in
    let notes : Notes d S.log c.note.new.self = c.in_default.ensures.ok in
    record {
      ticking = omega (arith, c.saturating_add-self.ensures);
      stamped = stamped_more S.log.calls.items _ d S.clock _ S.stamped (omega (arith, c.saturating_add-self.ensures)) (omega (arith, c.saturating_add-self.ensures)) notes.calls;
    }

pub invariant_of-self-2 : goal.invariant_of-self-2
invariant_of-self-2 c =
    let S = c.args.self.now in
    let keeps : Keeps S.log c.note.new.self = c.in-Err.ensures.err in
    record {
      ticking = omega (arith, c.saturating_add-self.ensures);
      stamped = subst (AllBefore _) (sym keeps.calls) (AllBefore-later S.log.calls.items S.clock _ (omega (arith, c.saturating_add-self.ensures)) S.stamped);
    }

pub returns-in_default-clause-time : goal.returns-in_default-clause-time
returns-in_default-clause-time c =
    let S = c.args.self.now in
    let d : Done = record { before = S.clock; call = Sync } in
    let notes : Notes d S.log c.note.new.self = c.in_default.ensures.ok in
    record {
      later = omega (arith, c.saturating_add-self.ensures);
      nothing_else = λ t x within left. passed S.log _ d notes t x left;
      keeps = λ t x within left. kept S.log _ d notes t x within left;
    }

pub returns-in_default-clause-durable : goal.returns-in_default-clause-durable
returns-in_default-clause-durable c x left =
    let S = c.args.self.now in
    let d : Done = record { before = S.clock; call = Sync } in
    let notes : Notes d S.log c.note.new.self = c.in_default.ensures.ok in
    ap Some (notes.seen ∙ sync_left S.log _ d notes refl x left)

pub returns-in_default-clause-crash : goal.returns-in_default-clause-crash
returns-in_default-clause-crash c x left =
    let S = c.args.self.now in
    let d : Done = record { before = S.clock; call = Sync } in
    let notes : Notes d S.log c.note.new.self = c.in_default.ensures.ok in
    inl (sym S.log.tied ∙ sync_left S.log _ d notes refl x left)
