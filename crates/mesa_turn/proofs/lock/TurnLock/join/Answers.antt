use Rattle.std.proofs.Common.{rules, ◌≡◌, ◌++◌, true}
use mathlib.Core.List.{IsPrefix}
use Rattle.mesa_turn.specs.History.{longer_of, shorter_of, once}
use Rattle.mesa_turn.specs.Passes.{joined, IsExact, Known, known, view_of}
use Rattle.mesa_turn.proofs.Parted.{joined_so}
use Rattle.mesa_turn.proofs.lock.TurnLock.join.Goals as goal

pub returns-clause-joins : goal.returns-clause-joins
returns-clause-joins g c =
    let single : once (c.args.a.names ++ c.args.b.names) ≡ true = search rules in
    let ea : IsExact c.args.a = search rules in let eb : IsExact c.args.b = search rules in
    let p : Known = known c.into_badge.result.table_id (view_of c.into_badge.result.views) in
    let ep : IsExact p = search rules in
    let is : p ≡ joined c.args.a c.args.b = search rules in
    let begins : IsPrefix (shorter_of c.args.a.seen c.args.b.seen) (longer_of c.args.a.seen c.args.b.seen) = search rules in
    joined_so c.args.a c.args.b p is begins ea eb ep single
