-- Turns that are skipped, since the sink has failed.
use Rattle.std.proofs.Common.{◌≡◌, ℕ, List, Bool, false, IsTrue, refl, sym, subst, Option, None, Some, Ok, Err}
use Rattle.std.specs.Prelude.{IfErr, OnSome, Result}
use Rattle.mesa_engine.specs.Failing.{Comes}
use Rattle.mesa_model.specs.declared.commands.Command.{Command}
use Rattle.mesa_model.specs.declared.commands.Command.TheVariants as command
use Rattle.mesa_model.specs.declared.commands.Script.{Script}
use Rattle.mesa_model.specs.declared.entries.Entry.{Entry}
use Rattle.mesa_model.specs.declared.entries.Kind.{Kind}
use Rattle.mesa_model.specs.declared.entries.Kind.TheVariants as kind
use Rattle.mesa_recast_turns.specs.mesa_history_spec.Bare.{bare_state}
use Rattle.mesa_recast_turns.specs.mesa_history_spec.Legal.{is_answered, is_due_at, is_query}
use Rattle.mesa_recast_turns.specs.mesa_history_spec.Run.{State, Stage, First}
use Rattle.mesa_recast_turns.specs.mesa_invariant_spec.Turns.{AnswersDisk, AnswersDraft, Asks, Shown, Takes, is_load, is_merge, is_recast, is_simple}
use Rattle.mesa_recast_turns.specs.mesa_invariant_spec.Invariant.{run_at}
use Rattle.mesa_recast_turns.proofs.mesa_invariant_spec.Alike.{due_alike}

-- ---- the first turn of a command, by its sort

pub load_looks : (c : Command) → IsTrue (is_load c) → IsTrue (is_due_at c First kind.Look)
load_looks (command.Load rows) is = refl
load_looks (command.Table words) is = absurd cc
load_looks (command.View words) is = absurd cc
load_looks (command.Alter words) is = absurd cc
load_looks (command.Query words) is = absurd cc
load_looks (command.Explain words) is = absurd cc
load_looks (command.Pin asked) is = absurd cc
load_looks (command.Release token) is = absurd cc
load_looks (command.Expire table version) is = absurd cc
load_looks (command.Work words) is = absurd cc
load_looks (command.Recast words) is = absurd cc

pub query_decides : (c : Command) → IsTrue (is_query c) → IsTrue (is_due_at c First kind.Decide)
query_decides (command.Load rows) is = absurd cc
query_decides (command.Table words) is = absurd cc
query_decides (command.View words) is = absurd cc
query_decides (command.Alter words) is = absurd cc
query_decides (command.Query words) is = refl
query_decides (command.Explain words) is = absurd cc
query_decides (command.Pin asked) is = absurd cc
query_decides (command.Release token) is = absurd cc
query_decides (command.Expire table version) is = absurd cc
query_decides (command.Work words) is = absurd cc
query_decides (command.Recast words) is = absurd cc

pub simple_decides : (c : Command) → IsTrue (is_simple c) → IsTrue (is_due_at c First kind.Decide)
simple_decides (command.Load rows) is = absurd cc
simple_decides (command.Table words) is = refl
simple_decides (command.View words) is = refl
simple_decides (command.Alter words) is = refl
simple_decides (command.Query words) is = absurd cc
simple_decides (command.Explain words) is = refl
simple_decides (command.Pin asked) is = refl
simple_decides (command.Release token) is = refl
simple_decides (command.Expire table version) is = refl
simple_decides (command.Work words) is = absurd cc
simple_decides (command.Recast words) is = absurd cc

pub merge_grants : (c : Command) → IsTrue (is_merge c) → IsTrue (is_due_at c First kind.Grant)
merge_grants (command.Load rows) is = absurd cc
merge_grants (command.Table words) is = absurd cc
merge_grants (command.View words) is = absurd cc
merge_grants (command.Alter words) is = absurd cc
merge_grants (command.Query words) is = absurd cc
merge_grants (command.Explain words) is = absurd cc
merge_grants (command.Pin asked) is = absurd cc
merge_grants (command.Release token) is = absurd cc
merge_grants (command.Expire table version) is = absurd cc
merge_grants (command.Work words) is = refl
merge_grants (command.Recast words) is = absurd cc

pub recast_grants : (c : Command) → IsTrue (is_recast c) → IsTrue (is_due_at c First kind.Grant)
recast_grants (command.Load rows) is = absurd cc
recast_grants (command.Table words) is = absurd cc
recast_grants (command.View words) is = absurd cc
recast_grants (command.Alter words) is = absurd cc
recast_grants (command.Query words) is = absurd cc
recast_grants (command.Explain words) is = absurd cc
recast_grants (command.Pin asked) is = absurd cc
recast_grants (command.Release token) is = absurd cc
recast_grants (command.Expire table version) is = absurd cc
recast_grants (command.Work words) is = absurd cc
recast_grants (command.Recast words) is = refl

-- ---- a turn that is skipped

-- The turn that a call asks for by one start comes by each with its projection.
pub comes : (script : Script) (a b : State) (h : List Entry) (s n : ℕ) (stage : Stage) (sort : Command → Bool) (k : Kind) → bare_state a ≡ bare_state b → is_answered stage ≡ false → ((c : Command) → IsTrue (sort c) → IsTrue (is_due_at c stage k))
    → Asks script (run_at script a h) s n stage sort → Comes script (run_at script b h) s n k
comes script a b h s n stage sort k same unanswered due asks = record {
  asked = asks.asked;
  stage = stage;
  due = due_alike script a b h s n asks.asked stage same unanswered asks.due;
  comes = due asks.asked asks.is;
}

-- It is its session's last one, and answers no fault.
pub record IsSkipped (script : Script) (start : State) (old new : Shown) (s n : ℕ) (k : Kind) : Type 0 where
  pub failed : old.running ≡ false
  pub turn : (stage : Stage) → Takes script start old new s n k stage
  pub draft : AnswersDraft script start old new s ⊥
  pub disk : AnswersDisk script start old new ⊥

-- So it is of the vault, also where readers were given back behind it.
pub skipped : (script : Script) (start : State) (engine old after new : Shown) (s n : ℕ) (k : Kind) → engine ≡ old → new ≡ after → engine.running ≡ false
    → ((stage : Stage) → Takes script start engine after s n k stage) → AnswersDraft script start engine after s ⊥ → AnswersDisk script start engine after ⊥ → IsSkipped script start old new s n k
skipped script start engine old after new s n k was is failed turn draft disk =
    subst (λ (x : Shown). IsSkipped script start x new s n k) was
    (subst (λ (x : Shown). IsSkipped script start engine x s n k) (sym is) (record { failed = failed; turn = turn; draft = draft; disk = disk }))

-- ---- what hangs on what a call answers

-- what is so whatever failed
pub err_each : {T E : Type 0} (r : Result T E) (P : E → Type 0) → ((e : E) → P e) → IfErr r P
err_each (Ok x) P each = tt
err_each (Err e) P each = each e

-- what is so, and so where it is asked for
pub err_also : {T E : Type 0} (A : Type 0) (r : Result T E) (P : E → Type 0) → IfErr r P → IfErr r (λ e. A → P e)
err_also A (Ok x) P is = tt
err_also A (Err e) P is = λ asked. is

pub on_some : {T X : Type 0} (r : Option T) → X → OnSome r X
on_some (Some t) has = has
on_some None has = tt
