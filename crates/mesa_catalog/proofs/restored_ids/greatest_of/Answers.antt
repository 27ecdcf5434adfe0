use Rattle.std.proofs.Common.{◌≤◌, ◌++◌, ◌∷◌, [], ◌∙◌, ap, sym, subst, arith, take}
use Rattle.std.specs.List.{AllByRecursion}
use Rattle.std.proofs.lemmas.List.{take_more}
use Rattle.mesa_catalog_records.proofs.Ids.{all_below}
use Rattle.mesa_catalog_records.proofs.TableMetas.{all_pushed}
use Rattle.mesa_catalog.proofs.restored_ids.greatest_of.Goals as goal

pub loop-id-preserved : goal.loop-id-preserved
loop-id-preserved c =
    let ids = c.args.ids.now in
    let i = c.loop-id.id-index in
    let id = c.id-item.result in
    let old = c.loop-id.greatest in
    let new = c.max-greatest.result in
    let more : old ≤ new = omega (arith, c.max-greatest.ensures) in
    let here : id ≤ new = omega (arith, c.max-greatest.ensures, c.number.ensures) in
    subst (AllByRecursion (λ n. n ≤ new)) (sym (take_more ids i id c.loop-id-test.true ∙ ap (λ y. take i ids ++ y ∷ []) (sym c.id-item.is)))
    (all_pushed (λ n. n ≤ new) (take i ids) id (all_below old new (take i ids) more c.loop-id.invariant) here)
