use Rattle.std.proofs.Common.{◌≡◌, ◌∙◌, ◌∷◌, [], ap, sym, None}
use Rattle.std.proofs.lemmas.List.{append-nil}
use Rattle.mesa_file_records.specs.Adopted.{listed}
use Rattle.mesa_file_records.proofs.Steps.{count_next, made_next, parts_next, there_next}
use Rattle.mesa_file_records.proofs.adopting.Adopting.parts.Goals as goal

pub parts-preserved-in-Continue-branch-4 : goal.parts-preserved-in-Continue-branch-4
parts-preserved-in-Continue-branch-4 g c =
    let bytes = g.M.Made.bytes in
    let k = c.args.catalog.now.catalogue in
    let id = c.parts.self.next in
    let next = c.part.new.self.next in
    let p = c.in-Some.part in
    let rest = c.pop_front.new.self.items in
    let left = c.parts.left.items in
    let first = c.in-Some.ensures.items in
    let next_is = c.in_ok-part.ensures.next in
    record {
      there = there_next bytes k id next p rest left first next_is c.parts.invariant.there;
      parts = parts_next bytes k id next p rest left first next_is c.parts.all.items c.push.new.self.items (c.in-Some-2.part ∷ []) _ (ap listed (sym c.in-Some-2.is) ∙ c.in_ok-part.ensures.part) c.in_ok-push.ensures.items c.parts.invariant.parts;
      made = made_next bytes k id next p rest left first next_is _ _ _ c.in_ok-part.ensures.made c.parts.invariant.made;
      next = count_next bytes k id next p rest left first next_is _ c.parts.invariant.next;
    }

pub parts-preserved : goal.parts-preserved
parts-preserved g c =
    let bytes = g.M.Made.bytes in
    let k = c.args.catalog.now.catalogue in
    let id = c.parts.self.next in
    let next = c.part.new.self.next in
    let p = c.in-Some.part in
    let rest = c.pop_front.new.self.items in
    let left = c.parts.left.items in
    let first = c.in-Some.ensures.items in
    let next_is = c.in_ok-part.ensures.next in
    let none : c.in_ok-part.field-0 ≡ None = cc in
    record {
      there = there_next bytes k id next p rest left first next_is c.parts.invariant.there;
      parts = parts_next bytes k id next p rest left first next_is c.parts.all.items c.parts.all.items [] _ (ap listed (sym none) ∙ c.in_ok-part.ensures.part) (sym (append-nil c.parts.all.items)) c.parts.invariant.parts;
      made = made_next bytes k id next p rest left first next_is _ _ _ c.in_ok-part.ensures.made c.parts.invariant.made;
      next = count_next bytes k id next p rest left first next_is _ c.parts.invariant.next;
    }
