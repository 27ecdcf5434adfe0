use Rattle.std.proofs.Common.{◌≡◌, ◌++◌, List, ℕ, Bor, map, length, arith, sym, ap, subst}
use Rattle.std.specs.Prelude.{IsTrue}
use Rattle.std.specs.List.{AllByRecursion}
use Rattle.mesa_columns.specs.mesa_key.declared.KeyType.{KeyType}
use Rattle.mesa_columns.specs.mesa_key.Spelling.{is_spelling}
use Rattle.mesa_block.specs.Spelling.{columns}
use Rattle.mesa_block.proofs.Putting.{column_more, columns_end, others_good}
use Rattle.mesa_block.proofs.writing.put_keys.Goals as goal

pub put_column-requires : goal.put_column-requires
put_column-requires c = record {
  some = omega (arith, ap length c.in-Some.ensures.cases.0);
  spelled = rw c.deref.ensures.value c.loop-others.invariant.good;
}

pub loop-others-preserved : goal.loop-others-preserved
loop-others-preserved c =
    let l = c.loop-others in
    let kind = c.in-Some.field-0-0.now in
    let others = c.in-Some.others.now in
    let keys = map (λ (k : Bor (List ℕ)). k.now) l.keys.items in
    let is = c.in-Some.ensures.cases.0 in
    let put = subst (λ (ks : List KeyType). l.out.items ++ columns ks keys ≡ c.args.out.now.items ++ columns c.args.kinds.now c.args.keys.now) is l.invariant.put in
    let good = subst (λ (ks : List KeyType). AllByRecursion (λ key. IsTrue (is_spelling ks key)) keys) is l.invariant.good in
    let left = rw c.deref.ensures.value at (c.in_ok-put_column.ensures.left kind others is) in
    rw c.swap.ensures.x_after record {
      put = column_more kind others keys _ l.out.items c.put_column.new.out.items _ put (rw c.deref.ensures.value at (c.in_ok-put_column.ensures.put kind others is)) left;
      good = subst (AllByRecursion (λ key. IsTrue (is_spelling others key))) (sym left) (others_good kind others keys good);
    }

pub returns : goal.returns
returns c = columns_end c.loop-others.left.now _ c.loop-others.out.items _ c.in_default.ensures.cases c.loop-others.invariant.put
