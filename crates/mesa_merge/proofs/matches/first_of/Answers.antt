use Rattle.std.proofs.Common.{◌<◌, get_or, length, sym, subst, arith}
use Rattle.mesa_merge.specs.Hands.{hands_of}
use Rattle.mesa_merge.proofs.Fronts.{front_before}
use Rattle.mesa_merge.proofs.Hands.{hands_length}
use Rattle.mesa_merge.proofs.matches.first_of.Goals as goal

pub returns-then-fronts-a-clause-before_b : goal.returns-then-fronts-a-clause-before_b
returns-then-fronts-a-clause-before_b c =
    let cs = c.args.cursors.now in
    let a : c.args.a < length (hands_of cs) = subst (λ n. c.args.a < n) (sym (hands_length cs)) c.requires.a_within in
    let b : c.args.b < length (hands_of cs) = subst (λ n. c.args.b < n) (sym (hands_length cs)) c.requires.b_within in
    front_before (get_or c.args.fronts.now c.args.a 0) (get_or c.args.fronts.now c.args.b 0) c.args.a c.args.b _ _ (c.requires.fronts.each c.args.a a) (c.requires.fronts.each c.args.b b) (omega (arith, c.type_inv.fronts c.args.b)) c.if-fronts-a.true

pub returns-then-fronts-b-clause-before_a : goal.returns-then-fronts-b-clause-before_a
returns-then-fronts-b-clause-before_a c =
    let cs = c.args.cursors.now in
    let a : c.args.a < length (hands_of cs) = subst (λ n. c.args.a < n) (sym (hands_length cs)) c.requires.a_within in
    let b : c.args.b < length (hands_of cs) = subst (λ n. c.args.b < n) (sym (hands_length cs)) c.requires.b_within in
    front_before (get_or c.args.fronts.now c.args.b 0) (get_or c.args.fronts.now c.args.a 0) c.args.b c.args.a _ _ (c.requires.fronts.each c.args.b b) (c.requires.fronts.each c.args.a a) (omega (arith, c.type_inv.fronts c.args.a)) c.if-fronts-b.true
