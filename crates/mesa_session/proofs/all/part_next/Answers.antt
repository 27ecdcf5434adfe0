use Rattle.mesa_session_turns.specs.mesa_history_spec.Rows.{no_rows}
use Rattle.std.proofs.Common.{◌<◌, ◌+◌, ◌∙◌, subst, sym, ap, arith}
use Rattle.mesa_turn.specs.Passes.{Known, IsExact, left_of, part_of}
use Rattle.mesa_session_turns.specs.mesa_core.Answers.{answered}
use Rattle.mesa_session_turns.specs.mesa_core.Passes.{Mine, Waits, at_stage}
use Rattle.mesa_session_turns.specs.mesa_history_spec.Run.{First}
use Rattle.mesa_session_turns.proofs.mesa_core.Counting.{answered_fresh}
use Rattle.mesa_session_turns.proofs.mesa_core.Dividing.{none_own, mine_part, waits_left, turns_next}
use Rattle.mesa_session.proofs.all.part_next.Goals as goal

small : (g : _) (c : goal.After-split g) → c.args.next < 8
small g c = let lt = c.requires.next.1 in let few = c.requires.next.2 in omega (arith, lt, few)

pub split-requires-clause-none : goal.split-requires-clause-none
split-requires-clause-none g c κs within = let lt = c.requires.next.1 in let few = c.requires.next.2 in none_own g.N.Naming.script (g.N.Naming.start no_rows) c.args.pass c.args.next 0 c.requires.waits (omega (arith, lt, few)) c.requires.next.0

pub split-requires-clause-room : goal.split-requires-clause-room
split-requires-clause-room g c κs within =
    let both = turns_next g.N.Naming.script.sessions c.args.next c.requires.next.1 in
    omega (arith, both, c.requires.room, c.requires.enough)

pub returns-clause-rooms : goal.returns-clause-rooms
returns-clause-rooms g c =
    let both = turns_next g.N.Naming.script.sessions c.args.next c.requires.next.1 in
    let first = ap (λ (z : Known). z.room) c.split.ensures.kept in
    let second = ap (λ (z : Known). z.room) c.split.ensures.given in
    (omega (arith, both, first, c.requires.room, c.requires.enough), omega (arith, second, c.requires.room))

pub returns-clause-rest : goal.returns-clause-rest
returns-clause-rest g c =
    let exact : IsExact (left_of c.args.next c.args.room c.args.pass) = subst IsExact c.split.ensures.kept c.split.ensures.exact.0 in
    subst (λ (z : Known). Waits g.N.Naming.script (g.N.Naming.start no_rows) z (c.args.next + 1)) (sym c.split.ensures.kept) (waits_left g.N.Naming.script (g.N.Naming.start no_rows) c.args.pass c.args.next c.args.room c.requires.waits (small g c) c.requires.next.0 exact)

pub returns-clause-fresh : goal.returns-clause-fresh
returns-clause-fresh g c = ap (answered g.N.Naming.script (g.N.Naming.start no_rows) c.args.next) c.split.ensures.given
    ∙ answered_fresh g.N.Naming.script (g.N.Naming.start no_rows) c.args.next c.args.pass.seen (c.requires.waits.none c.args.next (omega arith) (small g c))

pub returns-clause-seen : goal.returns-clause-seen
returns-clause-seen g c = ap (λ (z : Known). z.seen) c.split.ensures.kept

pub returns-clause-mine : goal.returns-clause-mine
returns-clause-mine g c =
    let exact : IsExact (part_of c.args.next c.args.room c.args.pass) = subst IsExact c.split.ensures.given c.split.ensures.exact.1 in
    subst (λ (z : Known). Mine g.N.Naming.script (g.N.Naming.start no_rows) z c.args.next (at_stage 1 First)) (sym c.split.ensures.given) (mine_part g.N.Naming.script (g.N.Naming.start no_rows) c.args.pass c.args.next c.args.room c.requires.waits (small g c) c.requires.next.0 exact)
