use Rattle.std.proofs.Common.{ℕ, suc, List, ap, sym, subst, ◌∙◌, add-one, arith}
use Rattle.std.specs.List.{AllByRecursion}
use Rattle.mesa_batch.proofs.mesa_list.Whole.{each_push}
use Rattle.mesa_file.specs.Serials.{after_drafts, drawn, next_ids, next_serials}
use Rattle.mesa_load.specs.Collected.{IsBegun}
use Rattle.mesa_load.specs.FilesToWrite.{HaveIds, ProgressOf}
use Rattle.mesa_load.proofs.Written.{ids_more}
use Rattle.mesa_load.proofs.drafts.open_drafts.Goals as goal

pub returns-in-Err-Failed-clause-ids : goal.returns-in-Err-Failed-clause-ids
returns-in-Err-Failed-clause-ids g c = (suc c.drafts.counter, c.draw-id.ensures.next ∙ ap next_serials c.drafts.invariant.ids)

pub returns-in-Err-Memory-clause-ids : goal.returns-in-Err-Memory-clause-ids
returns-in-Err-Memory-clause-ids g c = (suc c.drafts.counter, c.draw-id.ensures.next ∙ ap next_serials c.drafts.invariant.ids)

pub drafts-preserved : goal.drafts-preserved
drafts-preserved g c =
    let inv = c.drafts.invariant in
    let id_of = g.M.Made.id_of in
    let first = c.args.ids.now in
    let n = c.drafts.counter in
    let push = c.push_reserved.ensures in
    let ok = c.in-Ok-draft.ensures in
    record {
      count = omega (arith, push.len, inv.count);
      room = omega (arith, push.capacity, inv.room);
      begun = subst (AllByRecursion (IsBegun g.B.Draft.Draft.bytes g.B.Draft.Draft.id_of g.B.Draft.Draft.faults)) (sym push.items)
          (each_push (IsBegun g.B.Draft.Draft.bytes g.B.Draft.Draft.id_of g.B.Draft.Draft.faults) c.drafts.drafts.items _ inv.begun (ok.empty, ok.id, ok.fresh));
      numbered = subst (λ (m : ℕ). HaveIds id_of (next_ids m first) c.push_reserved.new.self.items) (sym (add-one n))
          (subst (λ (ps : List (ProgressOf g.row.M.Denot g.row.B-Draft.Denot)). HaveIds id_of (next_ids (suc n) first) ps) (sym push.items)
          (ids_more id_of (next_ids n first) c.drafts.drafts.items (drawn (after_drafts n first)) _ inv.numbered (c.draw-id.ensures.id ∙ ap drawn inv.ids)));
      ids = c.draw-id.ensures.next ∙ ap next_serials inv.ids ∙ ap (λ (m : ℕ). after_drafts m first) (sym (add-one n));
      quiet = ok.cause.quiet ∙ inv.quiet;
    }
