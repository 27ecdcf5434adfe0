use Rattle.std.proofs.Common.{◌≡◌, ◌<◌, length, refl, sym, subst, true, false}
use Rattle.mesa_merge.specs.Inputs.{AreAlike, knowns_of}
use Rattle.mesa_merge.specs.Merged.{AreBelow, nothing_given}
use Rattle.mesa_merge.specs.Merging.{HasGivens}
use Rattle.mesa_merge.proofs.Between.{none_below}
use Rattle.mesa_merge.proofs.Parts.{nothing_at, nothing_folds}
use Rattle.mesa_merge.proofs.merge.Merge.between.Goals as goal

pub returns-in_default-clause-nothing : goal.returns-in_default-clause-nothing
returns-in_default-clause-nothing g c = λ aggs. nothing_folds aggs c.args.inputs.items

pub returns-clause-nothing : goal.returns-clause-nothing
returns-clause-nothing g c = λ aggs. nothing_folds aggs c.args.inputs.items

pub returns-clause-merged : goal.returns-clause-merged
returns-clause-merged g c = λ s all.
    let bytes = g.R.FileReader.bytes in
    let is = c.deref.ensures.value in
    record {
      going = refl;
      columns = λ some. c.in-Ok.ensures.columns s (subst (λ xs. AreAlike s (knowns_of bytes xs)) (sym is) all.alike) (subst (λ xs. 0 < length xs) (sym is) some);
      tree = c.in-Ok.ensures.tree;
      alike = all.alike;
      given = subst (λ xs. HasGivens bytes c.args.low xs c.in-Ok.parts.cursors.items (nothing_given xs)) is c.in-Ok.ensures.given;
      end = refl;
      below = λ j. subst (AreBelow c.args.high) (sym (nothing_at c.args.inputs.items j)) (none_below c.args.high);
      none = λ _. c.in-Ok.ensures.none;
      fresh = λ _ j. nothing_at c.args.inputs.items j;
      merging = λ (e : false ≡ true). cc;
    }
