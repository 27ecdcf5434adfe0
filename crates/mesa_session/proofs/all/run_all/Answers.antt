use Rattle.std.proofs.Common.{[], ◌∷◌, ap, refl}
use Rattle.mesa_model.specs.Entry.{history_of}
use Rattle.mesa_session_turns.specs.mesa_history_spec.Rows.{no_rows}
use Rattle.mesa_turn.specs.History.{entries_of}
use Rattle.mesa_session_turns.proofs.mesa_core.Counting.{answered_fresh, counted_all, counted_whole}
use Rattle.mesa_session_turns.proofs.mesa_core.Dividing.{mine_whole, all_own}
use Rattle.mesa_session.proofs.Counts.{benches_counted}
use Rattle.mesa_session.proofs.all.run_all.Goals as goal

pub run_session-pass-requires-clause-mine : goal.run_session-pass-requires-clause-mine
run_session-pass-requires-clause-mine g c κs within = mine_whole g.N.Naming.script (g.N.Naming.start no_rows) c.args.pass c.requires.none c.requires.exact c.requires.names

pub returns-clause-own : goal.returns-clause-own
returns-clause-own g c = all_own g.N.Naming.script (g.N.Naming.start no_rows) c.run_rest.result c.requires.few.1 c.run_rest.ensures.ended

-- the prologue's bench, and then those of the others
pub returns-clause-counted : goal.returns-clause-counted
returns-clause-counted g c =
    let none = answered_fresh g.N.Naming.script (g.N.Naming.start no_rows) 0 c.args.pass.seen (ap (entries_of (0 ∷ [])) c.requires.none) in
    let first = counted_whole g.N.Naming.script (g.N.Naming.start no_rows) 0 c.args.pass c.run_session-pass.result _ _ none c.run_session-pass.ensures.answers in
    benches_counted g.B.Bench.faults g.N.Naming.script (g.N.Naming.start no_rows) (history_of c.run_rest.result.seen) 0 _ _ _ c.index-head-0.result c.run_session-pass.new.bench _ _ c.split_at_mut-head.ensures.value c.split_at_mut-head.ensures.front_len refl
    (counted_all g.N.Naming.script (g.N.Naming.start no_rows) g.B.Bench.faults (history_of c.run_rest.result.seen) 0 _ _ _ _ (c.run_rest.ensures.kept _ _ first) c.run_rest.ensures.counted)
