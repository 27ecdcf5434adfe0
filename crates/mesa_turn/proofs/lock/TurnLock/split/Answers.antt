use Rattle.std.proofs.Common.{rules}
use Rattle.mesa_turn.specs.declared.view.View.{View}
use Rattle.mesa_turn.specs.Passes.{IsExact, left_of, part_of}
use Rattle.mesa_turn.specs.Steps.{kept_of}
use Rattle.mesa_turn.proofs.Ends.{is_ready}
use Rattle.mesa_turn.proofs.Names.{left_named}
use Rattle.mesa_turn.proofs.Parted.{left_exact, part_exact}
use Rattle.mesa_turn.proofs.lock.TurnLock.split.Goals as goal

pub invariant_of-kept : goal.invariant_of-kept
invariant_of-kept g c =
    let v : View = kept_of c.args.name c.args.room c.into_seat-seat.result.me.0 in
    let exact : IsExact c.args.pass = search rules in
    let kept : IsExact (left_of c.args.name c.args.room c.args.pass) = left_exact c.args.name c.args.room c.args.pass exact c.requires.name c.requires.none in
    is_ready c.into_badge.result.views v (search rules) (search rules) (left_named c.args.name c.requires.another.0 c.into_seat-seat.result.me.0.names (search rules) c.requires.another.2) (search rules)

pub returns-clause-exact : goal.returns-clause-exact
returns-clause-exact g c =
    let exact : IsExact c.args.pass = search rules in
    let kept : IsExact (left_of c.args.name c.args.room c.args.pass) = left_exact c.args.name c.args.room c.args.pass exact c.requires.name c.requires.none in
    let given : IsExact (part_of c.args.name c.args.room c.args.pass) = part_exact c.args.name c.args.room c.args.pass exact c.requires.name c.requires.none in
    search rules
