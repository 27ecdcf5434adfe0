use Rattle.std.proofs.Common.{length, ap, sym, subst, rules, arith}
use Rattle.std.specs.List.Sorted.{IsNonDecreasingBy}
use Rattle.std.proofs.lemmas.List.Sorted.{IsNonDecreasingBy-from_sort_by_key}
use Rattle.mesa_commit.specs.declared.trash.Hold.{Hold}
use Rattle.mesa_engine.specs.Index.{IsIndexOf}
use Rattle.mesa_engine.proofs.Indexed.{index_permuted, written_over}
use Rattle.mesa_engine.proofs.index.make_index.Goals as goal

pub reach-requires : goal.reach-requires
reach-requires c =
    let sorted = c.sort_unstable_by_key.new.self.items in
    subst (IsNonDecreasingBy (λ (h : Hold). h.at)) (sym c.deref_mut.ensures.value) (IsNonDecreasingBy-from_sort_by_key (λ (h : Hold). h.at) sorted c.sort_unstable_by_key.ensures.sorted (λ a r q k. search rules))

pub returns-clause-index : goal.returns-clause-index
returns-clause-index c =
    let sorted = c.sort_unstable_by_key.new.self in
    let made = c.reach.new.holds in
    let long = sorted.ok.0 in
    let same = ap length c.deref_mut.ensures.value in
    let back = written_over sorted.len made sorted.items (omega (arith, long, same, c.reach.auto.holds)) (omega (arith, long)) in
    subst (IsIndexOf c.args.holds.now.items) (sym back) (index_permuted c.args.holds.now.items sorted.items made c.sort_unstable_by_key.ensures.permutation (subst (λ hs. IsIndexOf hs made) c.deref_mut.ensures.value c.reach.ensures))
