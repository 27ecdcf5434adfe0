use Rattle.std.proofs.Common.{◌≡◌, [], ℕ, List, get_or, take, suc, sym, subst, add-one}
use Rattle.std.proofs.lemmas.List.{take_all}
use Rattle.mesa_scan.specs.declared.cursor.Cursor.{Cursor}
use Rattle.mesa_scan.specs.Cursors.{HasGivenFrom, IsInput}
use Rattle.mesa_merge.specs.Hands.{hands_of}
use Rattle.mesa_merge.specs.Merged.{nothing_given}
use Rattle.mesa_merge.specs.Merging.{HasGivens}
use Rattle.mesa_merge.proofs.Inputs.{inputs_at}
use Rattle.mesa_merge.proofs.Parts.{givens_push, none_push}
use Rattle.mesa_merge.proofs.making.cursors_of.Goals as goal

pub from_key-requires : goal.from_key-requires
from_key-requires g c = (c.type_bounds.send-R, subst (IsInput g.R.FileReader.bytes) (sym c.index-inputs-i.is) (inputs_at g.R.FileReader.bytes c.args.inputs.now c.inputs.i c.index-inputs-i.result c.requires c.inputs-test.true))

pub inputs-preserved : goal.inputs-preserved
inputs-preserved g c =
    let bytes = g.R.FileReader.bytes in
    let low = c.args.low.now in
    let is = c.args.inputs.now in
    let n = c.inputs.i in
    let one : HasGivenFrom bytes low (get_or is n c.index-inputs-i.result) c.in_ok-from_key.field-0 [] = subst (λ i. HasGivenFrom bytes low i c.in_ok-from_key.field-0 []) c.index-inputs-i.is c.in_ok-from_key.ensures.given in
    record {
      given = subst (λ k. HasGivens bytes low (take k is) c.push.new.self.items (nothing_given (take k is))) (sym (add-one n))
          (subst (λ cs. HasGivens bytes low (take (suc n) is) cs (nothing_given (take (suc n) is))) (sym c.in_ok-push.ensures.items)
          (givens_push bytes low is c.inputs.cursors.items n c.in_ok-from_key.field-0 c.index-inputs-i.result c.inputs.invariant.given c.inputs-test.true one));
      none = subst (λ (cs : List Cursor). (j : ℕ) → get_or (hands_of cs) j [] ≡ []) (sym c.in_ok-push.ensures.items) (none_push c.inputs.cursors.items c.in_ok-from_key.field-0 c.inputs.invariant.none c.in_ok-from_key.ensures.none);
    }

pub returns-clause-given : goal.returns-clause-given
returns-clause-given g c =
    subst (λ is. HasGivens g.R.FileReader.bytes c.args.low.now is c.inputs.cursors.items (nothing_given is)) (take_all c.inputs.i c.args.inputs.now c.inputs-test.false) c.inputs.invariant.given
