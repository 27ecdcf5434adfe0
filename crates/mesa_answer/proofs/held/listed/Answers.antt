use Rattle.std.proofs.Common.{◌≡◌, ◌∙◌, List, [], ◌∷◌, ◌++◌, append_assoc, ap, subst, sym}
use Rattle.std.specs.List.Sorted.{IsStrictlySortedBy}
use Rattle.std.specs.Map.{keys_of}
use Rattle.std.proofs.lemmas.Map.Keys.{sorted_head, sorted_tail}
use Rattle.mesa_model.specs.mesa_columns.declared.rows.Row.{Row}
use Rattle.mesa_answer.specs.Held.{Entry, key_cmp, row_in, rows_in}
use Rattle.mesa_answer.proofs.Entries.{Stand, apart, rows_beside, stand_with}
use Rattle.mesa_answer.proofs.held.listed.Goals as goal

pub loop-key-preserved : goal.loop-key-preserved
loop-key-preserved c =
    let groups = c.loop-key.groups.items in
    let so_far = c.loop-key.rows.items in
    let place = c.in-Some.place in
    let e : Entry = (c.in-Some.key, place) in
    let es = c.next.new.self in
    let steps : c.loop-key.key-iterator ≡ e ∷ es = c.in-Some.ensures.steps in
    let rise = subst (λ (xs : List Entry). IsStrictlySortedBy key_cmp (keys_of xs)) steps c.loop-key.invariant.rise in
    let stand = subst (Stand groups) steps c.loop-key.invariant.stand in
    let away = apart groups e.0 place es stand.0.1 (sorted_head key_cmp e.0 (keys_of es) rise) stand.1 in
    let left = c.take_values-values.ensures.left in
    let row : record { key = c.from_vec-key.result; values = c.take_values-values.result } ≡ row_in groups e = λ i. record { key = c.from_vec-key.ensures i; values = c.take_values-values.ensures.taken i } in
    record {
      next = tt;
      ends = tt;
      rise = sorted_tail key_cmp e.0 (keys_of es) rise;
      stand = subst (λ (gs : List Row). Stand gs es) (sym left) (stand_with groups place [] es stand.0.0 stand.1);
      done = (λ i. c.in_ok-push.ensures.items i ++ rows_in (left i) es)
          ∙ (λ i. (so_far ++ row i ∷ []) ++ rows_beside groups place [] es away i)
          ∙ append_assoc so_far (row_in groups e ∷ []) (rows_in groups es)
          ∙ ap (λ (xs : List Entry). so_far ++ rows_in groups xs) (sym steps)
          ∙ c.loop-key.invariant.done;
    }
