use Rattle.std.proofs.Common.{rules, ◌≡◌, ℕ, ◌+◌, ◌≤◌, List, [], ◌∷◌, length, get_or, sym, subst}
use Rattle.mesa_model.specs.Entry.{history_of}
use Rattle.mesa_session_turns.specs.mesa_history_spec.Rows.{no_rows}
use Rattle.mesa_session_turns.specs.mesa_core.Answers.{HasCounted, HaveCounted}
use Rattle.mesa_session_turns.specs.mesa_core.Passes.{HaveEnded}
use Rattle.mesa_session_turns.proofs.mesa_core.Counting.{counted_none}
use Rattle.mesa_session.proofs.Counts.{benches_counted, joined_counted, prologue_kept}
use Rattle.mesa_session.proofs.all.+fn-run_rest-join_mut+arg3+run_rest.Goals as goal

-- no session is left
pub returns-then-next-len-clause-counted : goal.returns-then-next-len-clause-counted
returns-then-next-len-clause-counted g t c =
    let all : length g.N.Naming.script.sessions ≤ c.args.next = search rules in
    counted_none g.N.Naming.script (g.N.Naming.start no_rows) g.B.Bench.faults (history_of c.args.pass.seen) c.args.next c.args.benches.now c.requires.waits.prologue.fits all

pub returns-clause-counted : goal.returns-clause-counted
returns-clause-counted g t c =
    let name : c.unwrap-2.result.names ≡ c.args.next ∷ [] = search rules in
    let ended : HaveEnded g.N.Naming.script (g.N.Naming.start no_rows) c.unwrap.result (c.args.next + 1) = c.join_next.ensures.rest in
    let one : HasCounted g.N.Naming.script (g.N.Naming.start no_rows) (history_of c.unwrap-2.result.seen) c.args.next (g.B.Bench.faults (get_or c.split_at_mut-head.result.0.now 0 c.index-head-0.result)) (g.B.Bench.faults c.join_mut-mine.new.f.3.now) = search rules in
    let more : HaveCounted g.B.Bench.faults g.N.Naming.script (g.N.Naming.start no_rows) (history_of c.unwrap.result.seen) (c.args.next + 1) c.split_at_mut-head.result.1.now c.join_mut-mine.new.g.3.now = search rules in
    let same : c.tail-1.given.0 ≡ c.join_mut-mine.new.g.3.now = search rules in
    benches_counted g.B.Bench.faults g.N.Naming.script (g.N.Naming.start no_rows) (history_of c.join_next.result.seen) c.args.next _ _ _ c.index-head-0.result c.join_mut-mine.new.f.3.now c.tail-1.given.0 _ c.split_at_mut-head.ensures.value c.split_at_mut-head.ensures.front_len same
    (joined_counted g.N.Naming.script (g.N.Naming.start no_rows) c.unwrap.result c.unwrap-2.result c.join_next.result c.join_next.ensures.joins g.B.Bench.faults c.args.next _ _ _ _ name c.requires.few ended c.join_next.ensures.ended one more)

pub returns-clause-kept : goal.returns-clause-kept
returns-clause-kept g t c before now was =
    let ended : HaveEnded g.N.Naming.script (g.N.Naming.start no_rows) c.unwrap.result (c.args.next + 1) = c.join_next.ensures.rest in
    let rest : (b n : ℕ) → HasCounted g.N.Naming.script (g.N.Naming.start no_rows) (history_of c.part_next-rest.result.0.seen) 0 b n → HasCounted g.N.Naming.script (g.N.Naming.start no_rows) (history_of c.unwrap.result.seen) 0 b n = search rules in
    prologue_kept g.N.Naming.script (g.N.Naming.start no_rows) c.unwrap.result c.unwrap-2.result c.join_next.result c.join_next.ensures.joins ended.first before now
    (rest before now (subst (λ (l : List ℕ). HasCounted g.N.Naming.script (g.N.Naming.start no_rows) (history_of l) 0 before now) (sym c.part_next-rest.ensures.seen) was))
