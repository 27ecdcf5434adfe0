-- Histories that a run may have, and ones that break a single rule.
use Rattle.std.proofs.Common.{◌≡◌, ℕ, List, [], ◌∷◌, true, false, Some, None, refl}
use Rattle.std.specs.Prelude.{codes}
use Rattle.mesa_history_spec.specs.mesa_model.declared.entries.Kind.TheVariants.{Look, Decide, Close, Grant, Renew}
use Rattle.mesa_history_spec.specs.mesa_model.declared.entries.Outcome.TheVariants as outcome
use Rattle.mesa_examples.specs.Rows.{broken_rule, Prologue, Due, Renewal, Sink, Moment, ByOutcome, Closed, End, stands, ends}
use Rattle.mesa_examples.proofs.OnLiterals.{on_literals}

abbrev small-script : List (List ℕ)
small-script =
    codes "table,t,k int,v sum"
    ∷ codes "row,t,1,5"
    ∷ codes "commit"
    ∷ codes "expire,0"
    ∷ codes "session"
    ∷ codes "query,t"
    ∷ codes "work,t"
    ∷ []

-- A history that keeps all rules.
legal : broken_rule small-script (
    stands 0 1 Decide 1
    ∷ stands 0 2 Look 1
    ∷ stands 0 2 Decide 2
    ∷ stands 0 3 Decide 3
    ∷ stands 1 1 Decide 3
    ∷ stands 1 1 Close 3
    ∷ stands 1 2 Grant 3
    ∷ []) false ≡ None
unfolding on_literals
legal = refl

-- A session begins before the prologue has ended.
prologue_last : broken_rule small-script (
    stands 0 1 Decide 1
    ∷ stands 0 2 Look 1
    ∷ stands 0 2 Decide 2
    ∷ stands 1 1 Decide 2
    ∷ stands 1 1 Close 2
    ∷ stands 1 2 Grant 2
    ∷ stands 0 3 Decide 3
    ∷ []) false ≡ Some Prologue
unfolding on_literals
prologue_last = refl

-- A load is decided without a look.
no_look : broken_rule small-script (
    stands 0 1 Decide 1
    ∷ stands 0 2 Decide 2
    ∷ stands 0 3 Decide 3
    ∷ stands 1 1 Decide 3
    ∷ stands 1 1 Close 3
    ∷ stands 1 2 Grant 3
    ∷ []) false ≡ Some Due
unfolding on_literals
no_look = refl

-- A command comes before the one before it.
out_of_order : broken_rule small-script (
    stands 0 1 Decide 1
    ∷ stands 0 3 Decide 1
    ∷ stands 0 2 Look 1
    ∷ stands 0 2 Decide 2
    ∷ stands 1 1 Decide 2
    ∷ stands 1 1 Close 2
    ∷ stands 1 2 Grant 2
    ∷ []) false ≡ Some Due
unfolding on_literals
out_of_order = refl

-- A query closes twice.
closed_twice : broken_rule small-script (
    stands 0 1 Decide 1
    ∷ stands 0 2 Look 1
    ∷ stands 0 2 Decide 2
    ∷ stands 0 3 Decide 3
    ∷ stands 1 1 Decide 3
    ∷ stands 1 1 Close 3
    ∷ stands 1 1 Close 3
    ∷ stands 1 2 Grant 3
    ∷ []) false ≡ Some Due
unfolding on_literals
closed_twice = refl

-- A query doesn't close.
not_closed : broken_rule small-script (
    stands 0 1 Decide 1
    ∷ stands 0 2 Look 1
    ∷ stands 0 2 Decide 2
    ∷ stands 0 3 Decide 3
    ∷ stands 1 1 Decide 3
    ∷ stands 1 2 Grant 3
    ∷ []) false ≡ Some Due
unfolding on_literals
not_closed = refl

-- A session ends before its last command, though the sink didn't fail.
cut_short : broken_rule small-script (
    stands 0 1 Decide 1
    ∷ stands 0 2 Look 1
    ∷ stands 0 2 Decide 2
    ∷ stands 0 3 Decide 3
    ∷ stands 1 1 Decide 3
    ∷ stands 1 1 Close 3
    ∷ []) false ≡ Some End
unfolding on_literals
cut_short = refl

-- An entry of a session that the script doesn't have.
no_such_session : broken_rule small-script (
    stands 0 1 Decide 1
    ∷ stands 0 2 Look 1
    ∷ stands 0 2 Decide 2
    ∷ stands 0 3 Decide 3
    ∷ stands 1 1 Decide 3
    ∷ stands 1 1 Close 3
    ∷ stands 1 2 Grant 3
    ∷ stands 2 1 Decide 3
    ∷ []) false ≡ Some Due
unfolding on_literals
no_such_session = refl

-- A turn is skipped, though the sink didn't fail.
skipped_without_fault : broken_rule small-script (
    stands 0 1 Decide 1
    ∷ ends 0 2 Look outcome.Skipped 1
    ∷ ends 1 1 Decide outcome.Skipped 1
    ∷ []) false ≡ Some End
unfolding on_literals
skipped_without_fault = refl

-- The same where it did.
skipped_after_fault : broken_rule small-script (
    stands 0 1 Decide 1
    ∷ ends 0 2 Look outcome.Skipped 1
    ∷ ends 1 1 Decide outcome.Skipped 1
    ∷ []) true ≡ None
unfolding on_literals
skipped_after_fault = refl

-- A turn is skipped behind one that printed nothing.
skipped_after_silence : broken_rule small-script (
    stands 0 1 Decide 1
    ∷ stands 0 2 Look 1
    ∷ ends 0 2 Decide outcome.Skipped 1
    ∷ ends 1 1 Decide outcome.Skipped 1
    ∷ []) true ≡ Some Sink
unfolding on_literals
skipped_after_silence = refl

-- A turn is done behind one that was skipped.
goes_on_after_skip : broken_rule small-script (
    stands 0 1 Decide 1
    ∷ ends 0 2 Look outcome.Skipped 1
    ∷ stands 1 1 Decide 1
    ∷ stands 1 1 Close 1
    ∷ stands 1 2 Grant 1
    ∷ []) true ≡ Some Sink
unfolding on_literals
goes_on_after_skip = refl

-- A load is written at the moment of the turn before it.
written_at_once : broken_rule small-script (
    stands 0 1 Decide 1
    ∷ stands 0 2 Look 1
    ∷ stands 0 2 Decide 1
    ∷ stands 0 3 Decide 2
    ∷ stands 1 1 Decide 2
    ∷ stands 1 1 Close 2
    ∷ stands 1 2 Grant 2
    ∷ []) false ≡ Some Moment
unfolding on_literals
written_at_once = refl

-- A query moves the disk's clock.
query_moves : broken_rule small-script (
    stands 0 1 Decide 1
    ∷ stands 0 2 Look 1
    ∷ stands 0 2 Decide 2
    ∷ stands 0 3 Decide 3
    ∷ stands 1 1 Decide 4
    ∷ stands 1 1 Close 4
    ∷ stands 1 2 Grant 4
    ∷ []) false ≡ Some Moment
unfolding on_literals
query_moves = refl

-- A query fails to write.
query_writes : broken_rule small-script (
    stands 0 1 Decide 1
    ∷ stands 0 2 Look 1
    ∷ stands 0 2 Decide 2
    ∷ stands 0 3 Decide 3
    ∷ ends 1 1 Decide outcome.WriteFault 3
    ∷ stands 1 2 Grant 3
    ∷ []) false ≡ Some ByOutcome
unfolding on_literals
query_writes = refl

-- A load fails to read.
load_reads : broken_rule small-script (
    stands 0 1 Decide 1
    ∷ stands 0 2 Look 1
    ∷ ends 0 2 Decide outcome.ReadFault 1
    ∷ stands 0 3 Decide 1
    ∷ stands 1 1 Decide 1
    ∷ stands 1 2 Grant 1
    ∷ []) false ≡ Some ByOutcome
unfolding on_literals
load_reads = refl

-- A command finds no memory in a closed store.
memory_once_closed : broken_rule small-script (
    stands 0 1 Decide 1
    ∷ stands 0 2 Look 1
    ∷ ends 0 2 Decide outcome.WriteFault 2
    ∷ ends 0 3 Decide outcome.Memory 2
    ∷ stands 1 1 Decide 2
    ∷ stands 1 2 Grant 2
    ∷ []) false ≡ Some Closed
unfolding on_literals
memory_once_closed = refl

-- The same where it is told that the store is closed.
closed : broken_rule small-script (
    stands 0 1 Decide 1
    ∷ stands 0 2 Look 1
    ∷ ends 0 2 Decide outcome.WriteFault 2
    ∷ stands 0 3 Decide 2
    ∷ stands 1 1 Decide 2
    ∷ stands 1 2 Grant 2
    ∷ []) false ≡ None
unfolding on_literals
closed = refl

abbrev work-script : List (List ℕ)
work-script =
    codes "table,t,k int,v sum"
    ∷ codes "row,t,1,5"
    ∷ codes "commit"
    ∷ codes "row,t,1,6"
    ∷ codes "commit"
    ∷ codes "expire,1"
    ∷ codes "work,t"
    ∷ []

-- A work is granted, renewed and closed.
work_done : broken_rule work-script (
    stands 0 1 Decide 1
    ∷ stands 0 2 Look 1
    ∷ stands 0 2 Decide 2
    ∷ stands 0 3 Look 2
    ∷ stands 0 3 Decide 3
    ∷ stands 0 4 Decide 4
    ∷ stands 0 5 Grant 4
    ∷ stands 0 5 Renew 4
    ∷ stands 0 5 Close 5
    ∷ []) false ≡ None
unfolding on_literals
work_done = refl

-- A work is swapped in without a renewal of its lease.
work_without_renewal : broken_rule work-script (
    stands 0 1 Decide 1
    ∷ stands 0 2 Look 1
    ∷ stands 0 2 Decide 2
    ∷ stands 0 3 Look 2
    ∷ stands 0 3 Decide 3
    ∷ stands 0 4 Decide 4
    ∷ stands 0 5 Grant 4
    ∷ stands 0 5 Close 5
    ∷ []) false ≡ Some Renewal
unfolding on_literals
work_without_renewal = refl

-- A work whose merge failed closes without one.
work_gives_up : broken_rule work-script (
    stands 0 1 Decide 1
    ∷ stands 0 2 Look 1
    ∷ stands 0 2 Decide 2
    ∷ stands 0 3 Look 2
    ∷ stands 0 3 Decide 3
    ∷ stands 0 4 Decide 4
    ∷ stands 0 5 Grant 4
    ∷ ends 0 5 Close outcome.ReadFault 4
    ∷ []) false ≡ None
unfolding on_literals
work_gives_up = refl
