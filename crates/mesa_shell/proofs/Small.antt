-- Every script that bytes spell is small.
use Rattle.std.proofs.Common.{◌≡◌, ⊎_elim, ◌+◌, ◌≤◌, ◌<◌, ℕ, zero, suc, List, [], ◌∷◌, ◌++◌, length, true, false, refl, subst, arith, length-append}
use Rattle.std.specs.Prelude.{Result, Ok, Err, IfOk, nat_le, ◌==◌, if◌then◌else◌}
use Rattle.std.proofs.lemmas.Bool.Decides.{leb_tells}
use Rattle.mesa_store_digest.specs.mesa_list.Checks.{◌>>◌, refuse_if, refused_as}
use Rattle.mesa_model.specs.declared.commands.Command.{Command}
use Rattle.mesa_model.specs.declared.commands.Command.TheVariants as command
use Rattle.mesa_model.specs.declared.commands.Script.{Script}
use Rattle.mesa_script.specs.declared.script.Reason.TheVariants as reason
use Rattle.mesa_script.specs.declared.script.ScriptError.{ScriptError}
use Rattle.mesa_script.specs.declared.script.ScriptError.TheVariants as bad
use Rattle.mesa_script.specs.Items.{Item, LeaseOf, NextSession, RowOf, EndOfLoad, Single}
use Rattle.mesa_script.specs.Script.{Read, nothing_read, item_at, with_item, with_record, read_from, script_from, script_of, records_of, max_commands, max_sessions}
use Rattle.mesa_session.specs.mesa_history_spec.Run.{commands_of}
use Rattle.mesa_session.proofs.mesa_history_spec.Checks.{ok_on}
use Rattle.mesa_shell.specs.Scripts.{IsSmall, commands_in}

commands_more : (xs ys : List (List Command)) → commands_in (xs ++ ys) ≡ commands_in xs + commands_in ys
commands_more [] ys = omega arith
commands_more (x ∷ xs) ys = let rest = commands_more xs ys in omega (arith, rest)

-- what was read is counted, and there is room for the session at hand
record IsCounted (r : Read) : Type 0 where
  sessions : length r.finished < max_sessions
  count : commands_in r.finished + length r.current ≡ r.count
  few : r.count ≤ max_commands

at_most : (n : ℕ) (m : ℕ) (e : ScriptError) (next : Result Read ScriptError) (P : Read → Type 0) → (n < m → IfOk next P) → IfOk (refuse_if (nat_le m n) e >> next) P
at_most n m e next P all = ⊎_elim
    (λ (yes : (nat_le m n ≡ true) × (m ≤ n)). rw yes.0 tt)
    (λ (no : (nat_le m n ≡ false) × (n < m)). rw no.0 (all no.1))
    (leb_tells m n)

command_more : (place : ℕ) (c : Command) (r : Read) → IsCounted r
    → IfOk (refuse_if (nat_le max_commands r.count) (bad.TooManyCommands place) >> Ok (record r { current = r.current ++ c ∷ []; rows = []; count = r.count + 1 })) IsCounted
command_more place c r was = at_most r.count max_commands (bad.TooManyCommands place) (Ok (record r { current = r.current ++ c ∷ []; rows = []; count = r.count + 1 })) IsCounted (λ lt. record {
  sessions = was.sessions;
  count = omega (arith, was.count, length-append r.current (c ∷ []));
  few = omega (arith, lt);
})

session_more : (place : ℕ) (r : Read) → IsCounted r
    → IfOk (refuse_if (nat_le max_sessions (length r.finished + 1)) (bad.TooManySessions place) >> Ok (record r { finished = r.finished ++ r.current ∷ []; current = [] })) IsCounted
session_more place r was = at_most (length r.finished + 1) max_sessions (bad.TooManySessions place) (Ok (record r { finished = r.finished ++ r.current ∷ []; current = [] })) IsCounted (λ lt. record {
  sessions = omega (arith, lt, length-append r.finished (r.current ∷ []));
  count = omega (arith, was.count, commands_more r.finished (r.current ∷ []));
  few = was.few;
})

item_more : (place : ℕ) (item : Item) (r : Read) → IsCounted r → IfOk (with_item place item r) IsCounted
item_more place (LeaseOf n) r was = record { sessions = was.sessions; count = was.count; few = was.few }
item_more place NextSession r was = session_more place r was
item_more place (RowOf row) r was = record { sessions = was.sessions; count = was.count; few = was.few }
item_more place EndOfLoad r was = command_more place (command.Load r.rows) r was
item_more place (Single c) r was = command_more place c r was

any_item : (x : Result Item ScriptError) → IfOk x (λ item. Unit {0})
any_item (Ok item) = tt
any_item (Err e) = tt

record_more : (place : ℕ) (fields : List (List ℕ)) (r : Read) → IsCounted r → IfOk (with_record place fields r) IsCounted
record_more place fields r was =
    ok_on IsCounted (λ (item : Item). Unit {0}) (refused_as (bad.BadRecord place) (item_at place fields r.rows)) _
    (any_item (refused_as (bad.BadRecord place) (item_at place fields r.rows)))
    (λ item is. item_more place item r was)

end_small : (place : ℕ) (r : Read) → IsCounted r → IfOk (read_from place [] r) IsCounted
end_small place r was = elim (length r.rows == 0) as (λ b. IfOk (if b then Ok r else Err (bad.BadRecord place reason.Order)) IsCounted) [ true ↦ was | false ↦ tt ]

read_small : (place : ℕ) (all : List (List (List ℕ))) (r : Read) → IsCounted r → IfOk (read_from place all r) IsCounted
read_small place [] r was = end_small place r was
read_small place (fields ∷ rest) r was = ok_on IsCounted IsCounted (with_record place fields r) _ (record_more place fields r was) (λ next is. read_small (place + 1) rest next is)

script_small : (r : Read) → IsCounted r → IsSmall (script_from r)
script_small r was = record {
  some = omega (arith, length-append r.finished (r.current ∷ []));
  few = omega (arith, was.sessions, length-append r.finished (r.current ∷ []));
  commands = omega (arith, was.count, was.few, commands_more r.finished (r.current ∷ []));
}

ok_is : {A E : Type 0} (P : A → Type 0) (x : Result A E) (a : A) → x ≡ Ok a → IfOk x P → P a
ok_is P x a is all = subst (λ r. IfOk r P) is all

pub scripts_small : (bytes : List ℕ) (script : Script) → script_of bytes ≡ Ok script → IsSmall script
scripts_small bytes script is =
    ok_is IsSmall (script_of bytes) script is
    (ok_on IsSmall IsCounted (read_from 1 (records_of bytes) nothing_read) _
    (read_small 1 (records_of bytes) nothing_read (record { sessions = omega arith; count = refl; few = omega arith }))
    (λ r was. script_small r was))

-- ---- of a session

in_all : (sessions : List (List Command)) (n : ℕ) → length (commands_of (record { lease = 0; sessions = sessions }) n) ≤ commands_in sessions
in_all [] n = omega arith
in_all (x ∷ xs) zero = omega arith
in_all (x ∷ xs) (suc n) = let rest = in_all xs n in omega (arith, rest)

-- a session has at most all commands
pub session_small : (script : Script) (n : ℕ) → length (commands_of script n) ≤ commands_in script.sessions
session_small script n = in_all script.sessions n
