use Rattle.std.proofs.Common.{◌≡◌, ◌++◌, [], ◌∷◌, refl, sym, ◌∙◌, ap, subst}
use Rattle.mesa_disk.specs.Recorded.{start_image, now_image, IsPlaced}
use Rattle.mesa_disk.specs.declared.memory.calls.Done.{Done}
use Rattle.mesa_disk.proofs.Noted.{tied_more, placed_more}
use Rattle.mesa_disk.proofs.memory.calls.CallLog.note.Goals as goal

pub invariant_of-self-2 : goal.invariant_of-self-2
invariant_of-self-2 c =
    let log = c.part.new.self in
    let d : Done = record { before = c.args.before; call = c.args.call } in
    let start = start_image log.start in
    let held = now_image log.start log.held in
    let calls : c.push_reserved.new.self.items ≡ log.calls.items ++ d ∷ [] = c.push_reserved.ensures.items ∙ ap (λ l. l ++ d ∷ []) c.in_ok-reserve.ensures.items in
    record {
      tied = tied_more start start held _ log.calls.items _ d refl calls log.tied (c.in_ok-change.ensures.ok log.start);
      placed = placed_more start start held log.calls.items _ d refl calls log.tied log.placed (subst (IsPlaced d.call) (sym c.part.ensures.same.seen) c.requires);
    }
