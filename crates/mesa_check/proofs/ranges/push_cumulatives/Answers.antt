use Rattle.std.proofs.Common.{◌≡◌, ◌+◌, ◌++◌, ◌∷◌, [], ◌∙◌, sym, ap, map, drop, arith, append_assoc, add-one, drop-cons, suc, List}
use Rattle.std.proofs.lemmas.List.{append-nil, drop_all, map_push}
use Rattle.std.specs.declared.alloc.Global.{Global}
use Rattle.std.specs.declared.sync.Arc.{Arc}
use Rattle.mesa_store_spec.specs.Catalog.{Delta}
use Rattle.mesa_catalog_table.specs.Meaning.{tens_from}
use Rattle.mesa_check.specs.Ranges.{Cumulative, cumulative_range}
use Rattle.mesa_check.specs.Held.{range_in}
use Rattle.mesa_check.proofs.ranges.push_cumulatives.Goals as goal

pub loop-delta-preserved : goal.loop-delta-preserved
loop-delta-preserved c =
    let i = c.loop-delta.delta-index in
    let xs = c.args.cumulatives.now in
    let x = c.delta-item.result in
    let s = c.args.start in
    let b = c.loop-delta.behind in
    let so_far = map range_in c.loop-delta.ranges.items in
    let inv = c.loop-delta.invariant in
    let cut : drop i xs ≡ x ∷ drop (i + 1) xs = rw add-one (drop-cons xs i x c.loop-delta-test.true ∙ ap (λ (y : Arc Delta Global). y ∷ drop (suc i) xs) (sym c.delta-item.is)) in
    let rest = map (cumulative_range s) (tens_from (b + 10) (drop (i + 1) xs)) in
    let new = ap (map range_in) c.in_ok-push.ensures.items ∙ map_push range_in c.loop-delta.ranges.items _ ∙ ap (λ (d : Delta). so_far ++ record { kind = Cumulative; from = s; to = b + 9; delta = d } ∷ []) c.deref.ensures in
    record {
      behind = (let was = inv.behind in omega (arith, was));
      ranges = ap (λ rs. rs ++ rest) new ∙ append_assoc so_far (record { kind = Cumulative; from = s; to = b + 9; delta = x.value } ∷ []) rest
          ∙ ap (λ (ds : List (Arc Delta Global)). so_far ++ map (cumulative_range s) (tens_from b ds)) (sym cut) ∙ inv.ranges;
    }

pub returns : goal.returns
returns c =
    let inv = c.loop-delta.invariant in
    let so_far = map range_in c.loop-delta.ranges.items in
    sym (append-nil so_far) ∙ ap (λ (ds : List (Arc Delta Global)). so_far ++ map (cumulative_range c.args.start) (tens_from c.loop-delta.behind ds)) (sym (drop_all c.loop-delta.delta-index c.args.cumulatives.now c.loop-delta-test.false)) ∙ inv.ranges
