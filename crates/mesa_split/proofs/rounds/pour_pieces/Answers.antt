use Rattle.std.proofs.Common.{◌≡◌, ◌<◌, List, length, sym, ap, subst, ◌∙◌, arith}
use Rattle.std.specs.Prelude.{None}
use Rattle.mesa_compact.specs.mesa_columns.declared.rows.Row.{Row}
use Rattle.mesa_compact.specs.mesa_scan.Cut.{CutsRise}
use Rattle.mesa_split.specs.Parts.{joined}
use Rattle.mesa_split.proofs.Running.{more_some, none_more, run_form, run_given, run_last, run_made, run_memory, run_round, run_takes, runs_first, runs_lent, runs_next}
use Rattle.mesa_split.proofs.Staying.{ready_on}
use Rattle.mesa_split.proofs.rounds.pour_pieces.Goals as goal

pub rounds-init : goal.rounds-init
rounds-init g c = runs_first c.new-held.ensures.items c.requires.ready c.requires.none c.requires.sent

pub rounds-smaller : goal.rounds-smaller
rounds-smaller g c = omega (arith, c.in-Some.ensures)

pub returns-in_default : goal.returns-in_default
returns-in_default g c = run_memory (subst (CutsRise None) (sym c.as_slice-keys.ensures) c.requires.cuts) c.requires.columns c.rounds.invariant

pub next_round-requires-clause-ready : goal.next_round-requires-clause-ready
next_round-requires-clause-ready g c = λ _ _. ready_on g.R.FileReader.bytes c.args.schema.now c.args.parts.now c.rounds.parts c.requires.ready c.rounds.invariant.inputs

pub next_round-requires-clause-poured : goal.next_round-requires-clause-poured
next_round-requires-clause-poured g c = λ _ _. run_given (subst (CutsRise None) (sym c.as_slice-keys.ensures) c.requires.cuts) c.requires.columns (runs_lent c.deref.ensures.value c.rounds.invariant)

pub next_round-requires-clause-form : goal.next_round-requires-clause-form
next_round-requires-clause-form g c = λ _ _. run_form (subst (CutsRise None) (sym c.as_slice-keys.ensures) c.requires.cuts) c.requires.columns (runs_lent c.deref.ensures.value c.rounds.invariant)

pub next_round-requires-clause-takes : goal.next_round-requires-clause-takes
next_round-requires-clause-takes g c = λ _ _. run_takes (subst (CutsRise None) (sym c.as_slice-keys.ensures) c.requires.cuts) c.requires.columns (runs_lent c.deref.ensures.value c.rounds.invariant) c.requires.takes

pub next_round-requires-clause-sent : goal.next_round-requires-clause-sent
next_round-requires-clause-sent g c = λ _ _. c.rounds.invariant.sent

pub returns-in-Err : goal.returns-in-Err
returns-in-Err g c = run_round (subst (CutsRise None) (sym c.as_slice-keys.ensures) c.requires.cuts) c.requires.columns (runs_lent c.deref.ensures.value c.rounds.invariant) c.requires.tells c.in-Err.ensures

pub rounds-preserved : goal.rounds-preserved
rounds-preserved g c =
    let shown : joined c.deref-in-rounds.result.now ≡ joined c.in-Ok.merged.items = ap joined c.deref-in-rounds.ensures.value in
    let many = more_some c.rounds.some c.are_empty.result (joined c.in-Ok.merged.items) (λ no. subst (λ (rows : List Row). 0 < length rows) shown (c.are_empty.ensures.some no)) in
    let none = none_more c.rounds.some c.are_empty.result (joined c.in-Ok.merged.items) (λ yes. sym shown ∙ c.are_empty.ensures.empty yes) in
    runs_next (subst (CutsRise None) (sym c.as_slice-keys.ensures) c.requires.cuts) c.requires.columns (runs_lent c.deref.ensures.value c.rounds.invariant) c.requires.tells (omega (arith, c.in-Some.ensures)) many none c.in-Ok.ensures

pub last_round-requires-clause-poured : goal.last_round-requires-clause-poured
last_round-requires-clause-poured g c = λ _ _. run_given (subst (CutsRise None) (sym c.as_slice-keys.ensures) c.requires.cuts) c.requires.columns (runs_lent c.deref-2.ensures.value c.rounds.invariant)

pub last_round-requires-clause-form : goal.last_round-requires-clause-form
last_round-requires-clause-form g c = λ _ _. run_form (subst (CutsRise None) (sym c.as_slice-keys.ensures) c.requires.cuts) c.requires.columns (runs_lent c.deref-2.ensures.value c.rounds.invariant)

pub last_round-requires-clause-takes : goal.last_round-requires-clause-takes
last_round-requires-clause-takes g c = λ _ _. run_takes (subst (CutsRise None) (sym c.as_slice-keys.ensures) c.requires.cuts) c.requires.columns (runs_lent c.deref-2.ensures.value c.rounds.invariant) c.requires.takes

pub last_round-requires-clause-sent : goal.last_round-requires-clause-sent
last_round-requires-clause-sent g c = λ _ _. c.rounds.invariant.sent

pub returns-in-Ok-last_round : goal.returns-in-Ok-last_round
returns-in-Ok-last_round g c = run_made (subst (CutsRise None) (sym c.as_slice-keys.ensures) c.requires.cuts) c.requires.columns (runs_lent c.deref-2.ensures.value c.rounds.invariant) (omega arith) c.in-Ok-last_round.ensures

pub returns : goal.returns
returns g c = run_last (subst (CutsRise None) (sym c.as_slice-keys.ensures) c.requires.cuts) c.requires.columns (runs_lent c.deref-2.ensures.value c.rounds.invariant) c.in-Err-last_round.ensures
