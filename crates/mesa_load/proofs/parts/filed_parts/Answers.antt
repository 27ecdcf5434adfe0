use Rattle.std.proofs.Common.{◌≡◌, ◌++◌, ◌∙◌, List, ap, append-nil, refl, subst, sym, arith}
use Rattle.std.proofs.lemmas.List.{nil_from_length}
use Rattle.mesa_open_files.specs.Batches.{batch_ids, made_ids}
use Rattle.mesa_open_files.specs.declared.made.MadeFile.{MadeFile}
use Rattle.mesa_open_files.specs.declared.prepared.PreparedPart.{PreparedPart}
use Rattle.mesa_load.proofs.Filed.{AreFiled, filed_all, filed_next, ids_next, none_left}
use Rattle.mesa_load.specs.declared.planning.Planned.{Planned}
use Rattle.mesa_load.proofs.parts.filed_parts.Goals as goal

pub parts-preserved : goal.parts-preserved
parts-preserved g c =
    let bytes = g.M.Made.bytes in
    let id_of = g.M.Made.id_of in
    let part : PreparedPart _ = record { table = c.in-Some.part.table; files = c.in_ok-take_files.field-0; totals = c.in-Some.part.totals } in
    record {
      filed = λ over shares planned there.
          let so_far = subst (λ (left : List Planned). AreFiled bytes id_of over shares c.parts.parts.items left c.parts.files.items) c.in-Some.ensures.items (c.parts.invariant.filed over shares planned there) in
          subst (λ (ps : List (PreparedPart _)). AreFiled bytes id_of over shares ps c.pop_front.new.self.items c.take_files.new.files.items) (sym c.in_ok-push.ensures.items)
          (filed_next bytes id_of over shares c.parts.parts.items c.in-Some.part c.pop_front.new.self.items c.parts.files.items c.take_files.new.files.items part so_far refl refl (c.in_ok-take_files.ensures.files over));
      ids = subst (λ (ps : List (PreparedPart _)). batch_ids id_of ps ++ made_ids id_of c.take_files.new.files.items ≡ made_ids id_of c.args.files.items) (sym c.in_ok-push.ensures.items)
          (ids_next bytes id_of (made_ids id_of c.args.files.items) c.parts.parts.items part c.parts.files.items c.take_files.new.files.items c.parts.invariant.ids c.in_ok-take_files.ensures.ids);
    }

pub returns : goal.returns
returns g c =
    λ over shares planned there.
    let bytes = g.M.Made.bytes in
    let id_of = g.M.Made.id_of in
    let none = nil_from_length c.parts.left.items (omega (arith, c.parts.left.ok.0, c.in_default.ensures.cases.0)) in
    let all = c.parts.invariant.filed over shares planned there in
    let empty = none_left bytes id_of over shares c.parts.parts.items c.parts.left.items c.parts.files.items none all in (
      filed_all bytes id_of over shares c.parts.parts.items c.parts.left.items c.parts.files.items none all,
      sym (append-nil (batch_ids id_of c.parts.parts.items)) ∙ ap (λ (fs : List (MadeFile _)). batch_ids id_of c.parts.parts.items ++ made_ids id_of fs) (sym empty) ∙ c.parts.invariant.ids,
    )
