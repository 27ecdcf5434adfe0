use Rattle.std.proofs.Common.{◌≡◌, ◌∷◌, [], ◌++◌, ℕ, List, length, map, sym, ap, subst, ◌∙◌, arith}
use Rattle.std.proofs.lemmas.List.{take_at}
use Rattle.mesa_open_files.specs.mesa_columns.Lifting.{lifted_with}
use Rattle.mesa_open_files.specs.mesa_columns.declared.rows.Row.{Row}
use Rattle.mesa_examine.specs.Sums.{AreTotals}
use Rattle.mesa_examine.proofs.Tallying.{kept_totals, lifted_more}
use Rattle.mesa_examine.proofs.tally.Tally.add.Goals as goal

pub returns : goal.returns
returns c =
    let row : Row = c.args.row.now in
    let lifted : Row = lifted_with c.args.lift.now row in
    let own = c.args.self.now.own in
    let present = c.args.self.now.present in
    let own_is : c.deref_mut.result.now ≡ own.items = c.deref_mut.ensures.value in
    let present_is : c.deref_mut-2.result.now ≡ present.items = c.deref_mut-2.ensures.value in
    let own_len : length c.add_absolutes.new.totals ≡ own.len = omega (arith, c.add_absolutes.ensures.len, ap length own_is, own.ok) in
    let present_len : length c.add_absolutes-2.new.totals ≡ present.len = omega (arith, c.add_absolutes-2.ensures.len, ap length present_is, present.ok) in
    let put : c.put.new.lifted ≡ lifted = c.in_ok-put.ensures ∙ ap (lifted_with c.args.lift.now) c.lend.ensures in
    let lifted_is : c.as_slice-2.result.now ≡ lifted.values = c.as_slice-2.ensures ∙ ap (λ (r : Row). r.values) put in
    λ width rows h. record {
      ends = c.in_ok-add.ensures rows h.ends;
      own = subst (λ (l : List ℕ). AreTotals (length c.args.schema.now.values) l (rows ++ row ∷ [])) (sym (take_at c.add_absolutes.new.totals _ own.len own_len))
          (kept_totals (length c.args.schema.now.values) own.items c.deref_mut.result.now c.add_absolutes.new.totals c.as_slice.result.now rows row own_is c.as_slice.ensures c.add_absolutes.ensures.len c.add_absolutes.ensures.each h.own);
      present = subst (λ (l : List ℕ). AreTotals width l (map (lifted_with c.args.lift.now) (rows ++ row ∷ []))) (sym (take_at c.add_absolutes-2.new.totals _ present.len present_len))
          (lifted_more c.args.lift.now width _ rows row
          (kept_totals width present.items c.deref_mut-2.result.now c.add_absolutes-2.new.totals c.as_slice-2.result.now (map (lifted_with c.args.lift.now) rows) lifted present_is lifted_is c.add_absolutes-2.ensures.len c.add_absolutes-2.ensures.each h.present));
    }
