use Rattle.std.proofs.Common.{ℕ, zero, suc, ◌<◌, List, refl, subst, sym, arith}
use Rattle.std.specs.Prelude.{IsTrue}
use Rattle.mesa_session_turns.specs.mesa_history_spec.Rows.{no_rows}
use Rattle.mesa_model.specs.declared.entries.Entry.{Entry}
use Rattle.mesa_session_turns.specs.mesa_core.Answers.{HaveCounted}
use Rattle.mesa_turn.specs.History.{has}
use Rattle.mesa_turn.specs.Passes.{Known}
use Rattle.mesa_turn.specs.Rule.{all_names}
use Rattle.mesa_session.proofs.Whole.{seen_whole, whole_legal}
use Rattle.mesa_session.proofs.serving.serve.Goals as goal

-- a whole pass holds each name that a session may have
all_named : (n : ℕ) → n < 8 → IsTrue (has all_names n)
all_named zero lt = refl
all_named (suc zero) lt = refl
all_named (suc (suc zero)) lt = refl
all_named (suc (suc (suc zero))) lt = refl
all_named (suc (suc (suc (suc zero)))) lt = refl
all_named (suc (suc (suc (suc (suc zero))))) lt = refl
all_named (suc (suc (suc (suc (suc (suc zero)))))) lt = refl
all_named (suc (suc (suc (suc (suc (suc (suc zero))))))) lt = refl
all_named (suc (suc (suc (suc (suc (suc (suc (suc n)))))))) lt = absurd (omega (arith, lt))

pub run_all-pass-requires-clause-names : goal.run_all-pass-requires-clause-names
run_all-pass-requires-clause-names g c κs within n lt = subst (λ (p : Known). IsTrue (has p.names n)) (sym c.in-Ok.ensures.whole) (all_named n lt)

pub run_all-pass-requires-clause-run : goal.run_all-pass-requires-clause-run
run_all-pass-requires-clause-run g c κs within = (c.run-run.ensures.origin no_rows, c.run-run.ensures.few)

pub returns-clause-counted : goal.returns-clause-counted
returns-clause-counted g c =
    subst (λ (h : List Entry). HaveCounted g.B.Bench.faults g.N.Naming.script (g.N.Naming.start no_rows) h 0 c.args.benches.now c.run_all-pass.new.benches)
    (seen_whole g.N.Naming.script (g.N.Naming.start no_rows) c.close-vault.result.shown c.run_all-pass.result c.running-seen.ensures.seen (sym c.close-vault.ensures.history)) c.run_all-pass.ensures.counted

pub returns-clause-legal : goal.returns-clause-legal
returns-clause-legal g c =
    whole_legal g.N.Naming.script (g.N.Naming.start no_rows) c.close-vault.result.shown c.run_all-pass.result c.running-seen.ensures.seen (sym c.close-vault.ensures.history) c.run_all-pass.ensures.ended
