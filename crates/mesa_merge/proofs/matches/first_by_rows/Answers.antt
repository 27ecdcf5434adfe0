use Rattle.std.proofs.Common.{◌≡◌, [], ◌∷◌, get_or, ◌∙◌, arith}
use Rattle.std.specs.declared.cmp.Ordering.TheVariants.{Equal, Greater}
use Rattle.std.proofs.lemmas.Grind.{common_steps}
use Rattle.mesa_key.specs.Order.{byte_cmp}
use Rattle.mesa_scan.specs.mesa_columns.declared.rows.Row.{Row}
use Rattle.mesa_scan.specs.mesa_columns.Lent.{lent}
use Rattle.mesa_merge.specs.Hands.{hands_of}
use Rattle.mesa_merge.proofs.Hands.{hand_at}
use Rattle.mesa_merge.proofs.Orders.{before_by, greater_before, same_before}
use Rattle.mesa_merge.proofs.matches.first_by_rows.Goals as goal

pub returns-in-Greater-clause-before_a : goal.returns-in-Greater-clause-before_a
returns-in-Greater-clause-before_a c =
    let first : Row = lent c.in-Some-head.first in
    let second : Row = lent c.in-Some.second in
    let a : get_or (hands_of c.args.cursors.now) c.args.a [] ≡ first ∷ c.in-Some-head.ensures.some.0 = hand_at c.args.cursors.now c.args.a c.index-cursors-a.result c.requires.a_within c.index-cursors-a.is ∙ c.in-Some-head.ensures.some.1 in
    let b : get_or (hands_of c.args.cursors.now) c.args.b [] ≡ second ∷ c.in-Some.ensures.some.0 = hand_at c.args.cursors.now c.args.b c.index-cursors-b.result c.requires.b_within c.index-cursors-b.is ∙ c.in-Some.ensures.some.1 in
    let is : byte_cmp first.key second.key ≡ Greater = grind (arith, common_steps) in
    before_by c.args.b c.args.a _ _ second first _ _ b a (greater_before c.args.a c.args.b first second is)

pub returns-in-Equal-clause-before_a : goal.returns-in-Equal-clause-before_a
returns-in-Equal-clause-before_a c =
    let first : Row = lent c.in-Some-head.first in
    let second : Row = lent c.in-Some.second in
    let a : get_or (hands_of c.args.cursors.now) c.args.a [] ≡ first ∷ c.in-Some-head.ensures.some.0 = hand_at c.args.cursors.now c.args.a c.index-cursors-a.result c.requires.a_within c.index-cursors-a.is ∙ c.in-Some-head.ensures.some.1 in
    let b : get_or (hands_of c.args.cursors.now) c.args.b [] ≡ second ∷ c.in-Some.ensures.some.0 = hand_at c.args.cursors.now c.args.b c.index-cursors-b.result c.requires.b_within c.index-cursors-b.is ∙ c.in-Some.ensures.some.1 in
    let is : byte_cmp first.key second.key ≡ Equal = grind (arith, common_steps) in
    (same_before c.args.a c.args.b c.min.result (hands_of c.args.cursors.now) first second _ _ a b is c.min.ensures).0

pub returns-in-Equal-clause-before_b : goal.returns-in-Equal-clause-before_b
returns-in-Equal-clause-before_b c =
    let first : Row = lent c.in-Some-head.first in
    let second : Row = lent c.in-Some.second in
    let a : get_or (hands_of c.args.cursors.now) c.args.a [] ≡ first ∷ c.in-Some-head.ensures.some.0 = hand_at c.args.cursors.now c.args.a c.index-cursors-a.result c.requires.a_within c.index-cursors-a.is ∙ c.in-Some-head.ensures.some.1 in
    let b : get_or (hands_of c.args.cursors.now) c.args.b [] ≡ second ∷ c.in-Some.ensures.some.0 = hand_at c.args.cursors.now c.args.b c.index-cursors-b.result c.requires.b_within c.index-cursors-b.is ∙ c.in-Some.ensures.some.1 in
    let is : byte_cmp first.key second.key ≡ Equal = grind (arith, common_steps) in
    (same_before c.args.a c.args.b c.min.result (hands_of c.args.cursors.now) first second _ _ a b is c.min.ensures).1
