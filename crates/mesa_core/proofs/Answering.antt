-- Faults of benches, across the turns of others, and over one turn of a session.
use Rattle.std.proofs.Common.{◌≡◌, ℕ, ◌+◌, ◌<◌, ◌≤◌, ◌==◌, eq-eqb, ne_eqb, ◌&&◌, ◌||◌, not, true, false, Bool, List, [], ◌∷◌, ◌++◌, refl, sym, ap, ◌∙◌, subst, arith, true≢false, Option, Some, None}
use Rattle.std.specs.List.{AllByRecursion}
use Rattle.std.proofs.lemmas.Bool.{and_left, and_parts, and_right, not-true, or_from, or_parts}
use Rattle.std.proofs.lemmas.List.{map-append}
use mathlib.Core.List.{IsPrefix}
use Rattle.mesa_io.specs.Causes.{last}
use Rattle.mesa_turn.specs.History.{has}
use Rattle.mesa_turn.specs.Passes.{Known, Finds, IsExact, Joins}
use Rattle.mesa_turn.proofs.Laws.{others_first, others_second}
use Rattle.mesa_model.specs.declared.commands.Command.{Command}
use Rattle.mesa_model.specs.declared.commands.Command.TheVariants as command
use Rattle.mesa_model.specs.declared.commands.Script.{Script}
use Rattle.mesa_model.specs.declared.entries.Entry.{Entry}
use Rattle.mesa_model.specs.declared.entries.Kind.{Kind}
use Rattle.mesa_model.specs.declared.entries.Kind.TheVariants as kind
use Rattle.mesa_model.specs.declared.entries.Outcome.{Outcome}
use Rattle.mesa_model.specs.declared.entries.Outcome.TheVariants as outcome
use Rattle.mesa_model.specs.Entry.{entry_of, history_of, numbers_of}
use Rattle.mesa_model.proofs.Numbers.{history_told}
use Rattle.mesa_model.specs.Warehouse.{Store}
use Rattle.mesa_recast_turns.specs.mesa_history_spec.Counting.{answers_bench, count_in, is_bench_fault, one_if}
use Rattle.mesa_recast_turns.specs.mesa_history_spec.Legal.{AllFit, Fits, builds_files_in, is_query, is_same_moment, is_unwritten, is_work, outcome_fits, outcome_fits_in, same_kind, would_write}
use Rattle.mesa_recast_turns.specs.mesa_history_spec.Replay.{closes, go, runs}
use Rattle.mesa_recast_turns.specs.mesa_history_spec.Run.{Run, State, begins, command_at, command_of}
use Rattle.mesa_engine.proofs.mesa_history_spec.Counting.{count_more}
use Rattle.mesa_recast_turns.specs.mesa_invariant_spec.Turns.{AnswersDraft, Shown, entry, is_load, is_simple}
use Rattle.mesa_recast_turns.specs.mesa_invariant_spec.Invariant.{run_at}
use Rattle.mesa_core.specs.Answers.{Answers, AreTimely, Owes, answered, answered_in}
use Rattle.mesa_core.proofs.Behind.{Others, all_behind, found_behind, none_others, within_one}
use Rattle.mesa_core.proofs.Turning.{Step, step_seen}

-- ---- counts over two parts of a history

count_append : (test : Run → Entry → Bool) (script : Script) (r : Run) (h more : List Entry) → count_in test script r (h ++ more) ≡ count_in test script r h + count_in test script (runs script r h) more
unfolding runs count_in
count_append test script r [] more = omega arith
count_append test script r (e ∷ h) more = let rest = count_append test script (go script r e) h more in omega (arith, rest)

same_eqb : (a b : ℕ) → (a == b) ≡ false → (b == a) ≡ false
same_eqb a b is = ne_eqb b a (λ same. true≢false (sym (eq-eqb a b (sym same)) ∙ is))

-- entries of others answer no fault of a session's bench
pub none_answered : (session : ℕ) (script : Script) (r : Run) (rest : List Entry) → AllByRecursion (λ (e : Entry). (session == e.session) ≡ false) rest → count_in (is_bench_fault session) script r rest ≡ 0
unfolding count_in
none_answered session script r [] others = refl
none_answered session script r (e ∷ rest) others =
    let more = none_answered session script (go script r e) rest others.1 in
    let none : one_if (is_bench_fault session r e) ≡ 0 = ap (λ b. one_if (b && answers_bench (closes r.moment e) e.outcome)) (same_eqb session e.session others.0) in
    omega (arith, more, none)

-- what others' entries add to a history
pub answered_behind : (script : Script) (start : State) (session : ℕ) (seen rest : List ℕ) → Others session rest → answered_in script start session (history_of (seen ++ rest)) ≡ answered_in script start session (history_of seen)
answered_behind script start session seen rest others =
    ap (answered_in script start session) (map-append entry_of seen rest)
    ∙ (count_append (is_bench_fault session) script (begins start) (history_of seen) (history_of rest)
    ∙ (let none = none_answered session script (runs script (begins start) (history_of seen)) (history_of rest) others in omega (arith, none)))

-- so is it of what a turn finds
pub answered_found : (script : Script) (start : State) (p : Known) (ticket session : ℕ) (list : List ℕ) → Finds p ticket list → IsExact p → has p.names session ≡ true → answered_in script start session (history_of list) ≡ answered script start session p
answered_found script start p ticket session list finds exact held =
    ap (λ l. answered_in script start session (history_of l)) (sym finds.seen.1) ∙ answered_behind script start session p.seen finds.seen.0 (found_behind p ticket session list finds exact held)

-- and of passes that are joined
pub answered_first : (script : Script) (start : State) (a b p : Known) (session : ℕ) → Joins a b p → has a.names session ≡ true → answered script start session p ≡ answered script start session a
answered_first script start a b p session joins held = ap (λ l. answered_in script start session (history_of l)) (sym joins.first_seen.1)
    ∙ answered_behind script start session a.seen joins.first_seen.0 (none_others session joins.first_seen.0 (others_first a b p joins.first_seen.0 (session ∷ []) joins (within_one session a.names held) joins.first_seen.1))

pub answered_second : (script : Script) (start : State) (a b p : Known) (session : ℕ) → Joins a b p → has b.names session ≡ true → answered script start session p ≡ answered script start session b
answered_second script start a b p session joins held = ap (λ l. answered_in script start session (history_of l)) (sym joins.second_seen.1)
    ∙ answered_behind script start session b.seen joins.second_seen.0 (none_others session joins.second_seen.0 (others_second a b p joins.second_seen.0 (session ∷ []) joins (within_one session b.names held) joins.second_seen.1))

-- ---- which turns answer a fault of a bench

-- the last entry fits
fit_last : (script : Script) (r : Run) (h : List Entry) (e : Entry) → AllFit script r (h ++ e ∷ []) → Fits script (runs script r h) e
unfolding runs AllFit
fit_last script r [] e all = all.0
fit_last script r (x ∷ h) e all = fit_last script (go script r x) h e all.1

-- a turn whose entry may answer a fault of a bench: a work closes, or a load is decided
abbrev pub may_answer : Option Command → Kind → Bool
may_answer None k = false
may_answer (Some c) k = (is_work c && same_kind kind.Close k) || (is_load c && same_kind kind.Decide k)

-- an outcome that answers a fault of a bench
bench_outcome : (closing : Bool) (o : Outcome) → answers_bench closing o ≡ true → (o ≡ outcome.WriteFault) × (closing ≡ false)
bench_outcome false outcome.WriteFault is = (refl, refl)
bench_outcome true outcome.WriteFault is = absurd cc
bench_outcome closing outcome.Stands is = absurd cc
bench_outcome closing outcome.Memory is = absurd cc
bench_outcome closing outcome.ReadFault is = absurd cc
bench_outcome closing outcome.Damaged is = absurd cc
bench_outcome closing outcome.Skipped is = absurd cc

-- a write fault that doesn't close stands only where files are built
builds_then : (o : Outcome) (closing would same builds : Bool) → o ≡ outcome.WriteFault → closing ≡ false → (not (is_unwritten o) || closing && would || same && builds) ≡ true → builds ≡ true
builds_then o closing would same true fault stays fits = refl
builds_then outcome.WriteFault false would true false fault stays fits = absurd cc
builds_then outcome.WriteFault false would false false fault stays fits = absurd cc
builds_then outcome.WriteFault true would same false fault stays fits = absurd cc
builds_then outcome.Stands closing would same false fault stays fits = absurd cc
builds_then outcome.Memory closing would same false fault stays fits = absurd cc
builds_then outcome.ReadFault closing would same false fault stays fits = absurd cc
builds_then outcome.Damaged closing would same false fault stays fits = absurd cc
builds_then outcome.Skipped closing would same false fault stays fits = absurd cc

-- and so only where a work closes, or a load is decided
may_then : (store : Store) (c : Option Command) (e : Entry) → builds_files_in store c ≡ true → e.outcome ≡ outcome.WriteFault → outcome_fits_in c e ≡ true → may_answer c e.kind ≡ true
may_then store None e builds fault fits = absurd cc
may_then store (Some (command.Load rows)) e builds fault fits = sym (ap (outcome_fits (command.Load rows) e.kind) fault) ∙ fits
may_then store (Some (command.Work words)) e builds fault fits = sym (ap (outcome_fits (command.Work words) e.kind) fault) ∙ fits
may_then store (Some (command.Recast words)) e builds fault fits = sym (ap (outcome_fits (command.Recast words) e.kind) fault) ∙ fits
may_then store (Some (command.Table words)) e builds fault fits = absurd cc
may_then store (Some (command.View words)) e builds fault fits = absurd cc
may_then store (Some (command.Alter words)) e builds fault fits = absurd cc
may_then store (Some (command.Query words)) e builds fault fits = absurd cc
may_then store (Some (command.Explain words)) e builds fault fits = absurd cc
may_then store (Some (command.Pin asked)) e builds fault fits = absurd cc
may_then store (Some (command.Release token)) e builds fault fits = absurd cc
may_then store (Some (command.Expire table version)) e builds fault fits = absurd cc

pub may_fault : (script : Script) (r : Run) (e : Entry) (session : ℕ) → Fits script r e → is_bench_fault session r e ≡ true → may_answer (command_of script e) e.kind ≡ true
may_fault script r e session fits is =
    let bench = bench_outcome (closes r.moment e) e.outcome (and_parts (e.session == session) (answers_bench (closes r.moment e) e.outcome) is).1 in
    may_then r.state.warehouse.store (command_of script e) e
    (builds_then e.outcome (closes r.moment e) (would_write script r e) (is_same_moment r.moment e.moment) (builds_files_in r.state.warehouse.store (command_of script e)) bench.0 bench.1 fits.writing)
    bench.0 fits.outcome

-- a look, a grant and a renewal answer none
none_of_kind : (c : Command) (k : Kind) → same_kind kind.Close k ≡ false → same_kind kind.Decide k ≡ false → may_answer (Some c) k ≡ false
none_of_kind c k close decide = or_from (is_work c && same_kind kind.Close k) (is_load c && same_kind kind.Decide k) (and_right (is_work c) (same_kind kind.Close k) close) (and_right (is_load c) (same_kind kind.Decide k) decide)

pub none_looking : (c : Command) → may_answer (Some c) kind.Look ≡ false
none_looking c = none_of_kind c kind.Look refl refl

pub none_granting : (c : Command) → may_answer (Some c) kind.Grant ≡ false
none_granting c = none_of_kind c kind.Grant refl refl

pub none_renewing : (c : Command) → may_answer (Some c) kind.Renew ≡ false
none_renewing c = none_of_kind c kind.Renew refl refl

-- nor does a turn of a command for which no files are built
pub none_asking : (c : Command) (k : Kind) → is_query c ≡ true → may_answer (Some c) k ≡ false
none_asking (command.Query words) k is = refl
none_asking (command.Load rows) k is = absurd cc
none_asking (command.Work words) k is = absurd cc
none_asking (command.Recast words) k is = absurd cc
none_asking (command.Table words) k is = refl
none_asking (command.View words) k is = refl
none_asking (command.Alter words) k is = refl
none_asking (command.Explain words) k is = refl
none_asking (command.Pin asked) k is = refl
none_asking (command.Release token) k is = refl
none_asking (command.Expire table version) k is = refl

pub none_simple : (c : Command) (k : Kind) → is_simple c ≡ true → may_answer (Some c) k ≡ false
none_simple c k is =
    let others = or_parts (is_load c) (is_query c || is_work c) (not-true (is_load c || (is_query c || is_work c)) is) in
    or_from (is_work c && same_kind kind.Close k) (is_load c && same_kind kind.Decide k) (and_left (is_work c) (same_kind kind.Close k) (or_parts (is_query c) (is_work c) others.1).1) (and_left (is_load c) (same_kind kind.Decide k) others.0)

-- ---- a turn

module _ {script : Script} {start : State} {p q : Known} {old new : Shown} {session number : ℕ} {k : Kind} (s : Step script start p q old new session number k) where
  abbrev e : Entry
  e = entry session number k s.turn.outcome new.clock

  abbrev bench : Bool
  bench = is_bench_fault session (run_at script start old.history) e

  one_more : answered script start session q ≡ answered script start session p + one_if bench
  one_more = ap (answered_in script start session) (step_seen s ∙ s.turn.grew)
      ∙ (count_more (is_bench_fault session) script (begins start) old.history e
      ∙ (let before : answered_in script start session old.history ≡ answered script start session p =
      ap (answered_in script start session) (sym (history_told old.history s.seen.short)) ∙ answered_found script start p s.ticket session (numbers_of old.history) s.finds s.exact s.holds.held in omega (arith, before)))

  answers_if : (b : Bool) (owed : ℕ) → bench ≡ b → (b ≡ true → 0 < owed) → answered script start session q + 0 ≤ answered script start session p + 0 + owed
  answers_if true owed is some = let more = some refl in let one = one_more ∙ ap (λ x. answered script start session p + one_if x) is in omega (arith, more, one)
  answers_if false owed is some = let one = one_more ∙ ap (λ x. answered script start session p + one_if x) is in omega (arith, one)

  -- its entry answers a fault only where one is owed
  pub step_answers : (owed : ℕ) → (AreTimely new.history → bench ≡ true → 0 < owed) → Answers script start session p q 0 0 owed
  step_answers owed some = record {
    later = λ low. omega arith;
    counted = λ low timely. answers_if bench owed refl (some (subst AreTimely (step_seen s) timely));
  }

  -- the same by what a call says of its entry
  pub step_drafts : (Failed : Type 0) (owed : ℕ) → AnswersDraft script start old new session Failed → (Failed → 0 < owed) → Answers script start session p q 0 0 owed
  step_drafts Failed owed draft some = step_answers owed (λ timely is.
      let low = (all_behind (λ (x : Entry). x.moment < last) old.history (e ∷ []) (subst AreTimely s.turn.grew timely)).0 in
      some (draft low e s.turn.grew is))

  -- a turn for which no files are built answers none
  pub step_none : (asked : Command) → command_at script session number ≡ Some asked → may_answer (Some asked) k ≡ false → Answers script start session p q 0 0 0
  step_none asked known none = step_answers 0 (λ timely is.
      let fits = fit_last script (begins start) old.history e (subst (AllFit script (begins start)) s.turn.grew s.stands.fits) in
      absurd (true≢false (sym (may_fault script (run_at script start old.history) e session fits is) ∙ (ap (λ c. may_answer c k) known ∙ none))))

-- ---- several turns

timely_first : (h more : List Entry) → AreTimely (h ++ more) → AreTimely h
timely_first [] more timely = tt
timely_first (e ∷ h) more timely = (timely.0, timely_first h more timely.1)

pub timely_before : (seen later : List ℕ) → IsPrefix seen later → AreTimely (history_of later) → AreTimely (history_of seen)
timely_before seen later more timely = timely_first (history_of seen) (history_of more.0) (subst AreTimely (ap history_of (sym more.1) ∙ map-append entry_of seen more.0) timely)

module _ (script : Script) (start : State) (session : ℕ) where
  -- whatever the count, where it stays
  pub answers_at : (p q : Known) (at owed : ℕ) → Answers script start session p q 0 0 owed → Answers script start session p q at at owed
  answers_at p q at owed one = record {
    later = λ low. omega arith;
    counted = λ low timely. let few = one.counted (omega arith) timely in omega (arith, few);
  }

  -- a bench counted in a turn what is answered in it, but for what was owed before
  pub answers_within : (p q : Known) (before now owed due : ℕ) → (now < last → before ≤ now) → (now < last → before + due ≤ now + owed) → Answers script start session p q 0 0 due → Answers script start session p q before now owed
  answers_within p q before now owed due later counted one = record {
    later = later;
    counted = λ low timely. let few = one.counted (omega arith) timely in let rise = counted low in omega (arith, few, rise);
  }

  pub answers_both : (p q r : Known) (before mid now : ℕ) → IsPrefix q.seen r.seen → Answers script start session p q before mid 0 → Answers script start session q r mid now 0 → Answers script start session p r before now 0
  answers_both p q r before mid now more first second = record {
    later = λ low. let b = second.later low in let a = first.later (omega (arith, b, low)) in omega (arith, a, b);
    counted = λ low timely.
        let rise = second.later low in
        let b = second.counted low timely in
        let a = first.counted (omega (arith, rise, low)) (timely_before q.seen r.seen more timely) in
        omega (arith, a, b);
  }

  -- what was owed was counted between two turns
  pub answers_owed : (p q r : Known) (before mid now owed : ℕ) → IsPrefix q.seen r.seen → Answers script start session p q 0 0 0 → Owes before mid owed → Answers script start session q r mid now owed → Answers script start session p r before now 0
  answers_owed p q r before mid now owed more first between second = record {
    later = λ low. let b = second.later low in let a = between (omega (arith, b, low)) in omega (arith, a, b);
    counted = λ low timely.
        let rise = second.later low in
        let b = second.counted low timely in
        let c = between (omega (arith, rise, low)) in
        let a = first.counted (omega arith) (timely_before q.seen r.seen more timely) in
        omega (arith, a, b, c);
  }
