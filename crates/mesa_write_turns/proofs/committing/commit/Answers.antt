use Rattle.std.proofs.Common.{◌≡◌, inl, ◌<◌, ℕ, List, length, None, sym, ◌∙◌, ap, subst, arith}
use Rattle.mesa_disk.specs.Files.{files_of}
use Rattle.mesa_engine.specs.mesa_catalog.Lookups.{generation_of}
use Rattle.mesa_engine.specs.mesa_store_spec.Catalog.{applied}
use Rattle.mesa_engine.specs.Recorded.{left_by, recorded_state}
use Rattle.mesa_engine.specs.Memory.{HasRoomFor, Memory}
use Rattle.mesa_write_turns.specs.Committing.{IsWhole, IsWorked, committed_state, gone_in, removed_in}
use Rattle.mesa_write_turns.proofs.Committed.{whole_at, worked_at}
use Rattle.mesa_write_turns.proofs.committing.commit.Goals as goal

pub write_record-requires-clause-room : goal.write_record-requires-clause-room
write_record-requires-clause-room g c κs within =
    let story = g.D.Disk.story c.args.disk.now in
    let l = c.args.metadata.now.state in
    subst (λ a. c.end-end.result < story.len a) (sym c.area-area.ensures) (subst (λ e. e < story.len l.area) (sym c.end-end.ensures) c.requires.room)

pub apply_swap-requires-clause-room : goal.apply_swap-requires-clause-room
apply_swap-requires-clause-room g c =
    subst (λ (k : List ℕ). HasRoomFor c.args.staged.entry (length k) c.args.metadata.now.reserved) (ap gone_in c.in-Some.is ∙ sym c.deref.ensures.value) c.requires.reserved

pub apply-requires-clause-room : goal.apply-requires-clause-room
apply-requires-clause-room g c = subst (λ (k : List ℕ). HasRoomFor c.args.staged.entry (length k) c.args.metadata.now.reserved) (ap gone_in c.in-None.is) c.requires.reserved

-- ---- it is written

pub returns-in-Some : goal.returns-in-Some
returns-in-Some g c =
    let story = g.D.Disk.story c.args.disk.now in
    let new = g.D.Disk.story c.write_record.new.disk in
    let m = c.args.metadata.now in
    let s = c.args.staged in
    let made = files_of g.M.Made.bytes s.made.items in
    let does = c.write_record.ensures in
    let calls = does.read_cause in
    let laws = g.met.D.Disk g.world.𝓛 g.world.𝓜 g.world.𝓡 ((λ s x. x), (λ x. x), (λ x. x), λ x. x) in
    let worked : IsWorked story new c.area-area.result c.end-end.result s.framed made c.removed.result.now =
    record {
      images = does.images;
      only = does.only;
      passes = record {
        rose = does.risen;
        later = does.clock;
        laws = record {
          only_old = λ x low had. laws.only_now c.args.disk.now x low had;
          only_new = λ x low had. laws.only_now c.write_record.new.disk x low had;
          earlier = λ a t x le had. laws.earlier c.write_record.new.disk a t x le had;
        };
      };
    } in
    let done = c.in-Ok.ensures in
    let whole : IsWhole story new c.area-area.result c.end-end.result s.framed made c.removed.result.now c.in-Ok.end = record { holds = done.done; gone = done.gone; ends = done.end; long = done.longer } in
    let after = c.apply_swap.new.self in
    let end_is : after.state.end ≡ c.in-Ok.end = ap (λ (k : Memory). k.state.end) c.apply_swap.ensures.applied in
    record {
      worked = worked_at story new c.area-area.result m.state.area c.area-area.ensures c.end-end.result m.state.end c.end-end.ensures s.framed made c.removed.result.now (removed_in c.args.drops) c.removed.ensures worked;
      counted = tt;
      quiet = record { faults = does.cause.later; reads = omega (arith, calls); rose = λ low is. absurd cc };
      whole = whole_at story new c.area-area.result m.state.area c.area-area.ensures c.end-end.result m.state.end c.end-end.ensures s.framed made c.removed.result.now (removed_in c.args.drops) c.removed.ensures c.in-Ok.end after.state.end (sym end_is) whole;
      applied = c.apply_swap.ensures.applied
          ∙ (λ j. record m { state = recorded_state m.state (applied m.state.catalogue s.entry) (generation_of (applied m.state.catalogue s.entry)) (left_by m.state c.args.at (c.deref.ensures.value j)) m.state.leases s.adopted c.in-Ok.end; reserved = None })
          ∙ (λ j. record m { state = committed_state m.state c.args.at s.entry (sym c.in-Some.is j) s.adopted (sym end_is j); reserved = None });
      generation = c.apply_swap.ensures.generation;
      closed = tt;
    }

pub returns-in-Ok : goal.returns-in-Ok
returns-in-Ok g c =
    let story = g.D.Disk.story c.args.disk.now in
    let new = g.D.Disk.story c.write_record.new.disk in
    let m = c.args.metadata.now in
    let s = c.args.staged in
    let made = files_of g.M.Made.bytes s.made.items in
    let does = c.write_record.ensures in
    let calls = does.read_cause in
    let laws = g.met.D.Disk g.world.𝓛 g.world.𝓜 g.world.𝓡 ((λ s x. x), (λ x. x), (λ x. x), λ x. x) in
    let worked : IsWorked story new c.area-area.result c.end-end.result s.framed made c.removed.result.now =
    record {
      images = does.images;
      only = does.only;
      passes = record {
        rose = does.risen;
        later = does.clock;
        laws = record {
          only_old = λ x low had. laws.only_now c.args.disk.now x low had;
          only_new = λ x low had. laws.only_now c.write_record.new.disk x low had;
          earlier = λ a t x le had. laws.earlier c.write_record.new.disk a t x le had;
        };
      };
    } in
    let done = c.in-Ok.ensures in
    let whole : IsWhole story new c.area-area.result c.end-end.result s.framed made c.removed.result.now c.in-Ok.end = record { holds = done.done; gone = done.gone; ends = done.end; long = done.longer } in
    let after = c.apply.new.self in
    let end_is : after.state.end ≡ c.in-Ok.end = ap (λ (k : Memory). k.state.end) c.apply.ensures.applied in
    record {
      worked = worked_at story new c.area-area.result m.state.area c.area-area.ensures c.end-end.result m.state.end c.end-end.ensures s.framed made c.removed.result.now (removed_in c.args.drops) c.removed.ensures worked;
      counted = tt;
      quiet = record { faults = does.cause.later; reads = omega (arith, calls); rose = λ low is. absurd cc };
      whole = whole_at story new c.area-area.result m.state.area c.area-area.ensures c.end-end.result m.state.end c.end-end.ensures s.framed made c.removed.result.now (removed_in c.args.drops) c.removed.ensures c.in-Ok.end after.state.end (sym end_is) whole;
      applied = c.apply.ensures.applied ∙ (λ j. record m { state = committed_state m.state c.args.at s.entry (sym c.in-None.is j) s.adopted (sym end_is j); reserved = None });
      generation = c.apply.ensures.generation;
      closed = tt;
    }

-- ---- the device has failed

pub returns : goal.returns
returns g c =
    let story = g.D.Disk.story c.args.disk.now in
    let new = g.D.Disk.story c.write_record.new.disk in
    let m = c.args.metadata.now in
    let s = c.args.staged in
    let made = files_of g.M.Made.bytes s.made.items in
    let does = c.write_record.ensures in
    let calls = does.read_cause in
    let laws = g.met.D.Disk g.world.𝓛 g.world.𝓜 g.world.𝓡 ((λ s x. x), (λ x. x), (λ x. x), λ x. x) in
    let worked : IsWorked story new c.area-area.result c.end-end.result s.framed made c.removed.result.now =
    record {
      images = does.images;
      only = does.only;
      passes = record {
        rose = does.risen;
        later = does.clock;
        laws = record {
          only_old = λ x low had. laws.only_now c.args.disk.now x low had;
          only_new = λ x low had. laws.only_now c.write_record.new.disk x low had;
          earlier = λ a t x le had. laws.earlier c.write_record.new.disk a t x le had;
        };
      };
    } in
    record {
      worked = worked_at story new c.area-area.result m.state.area c.area-area.ensures c.end-end.result m.state.end c.end-end.ensures s.framed made c.removed.result.now (removed_in c.args.drops) c.removed.ensures worked;
      counted = record { faults = does.cause.later; reads = omega (arith, calls); rose = λ low is. inl c.in-Err.ensures.cause.failed };
      quiet = tt;
      whole = tt;
      applied = tt;
      generation = tt;
      closed = c.fail.ensures;
    }
