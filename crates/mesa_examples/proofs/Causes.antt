-- Which faults a turn may meet: histories that keep the rules on faults, and ones that break a single rule.
use Rattle.std.proofs.Common.{◌≡◌, ℕ, ◌^◌, List, [], ◌∷◌, ◌++◌, false, Some, None, arith, refl}
use Rattle.std.specs.Prelude.{codes}
use Rattle.mesa_history_spec.specs.mesa_model.declared.entries.Entry.{Entry}
use Rattle.mesa_history_spec.specs.mesa_model.declared.entries.Kind.TheVariants.{Look, Decide, Close, Grant, Renew}
use Rattle.mesa_history_spec.specs.mesa_model.declared.entries.Outcome.TheVariants as outcome
use Rattle.mesa_history_spec.specs.mesa_file.declared.damage.Seen.TheVariants as seen
use Rattle.mesa_history_spec.specs.Output.{IsDamage}
use Rattle.mesa_examples.specs.Rows.{broken_rule, ByOutcome, Reading, Writing, Closed, stands, ends}
use Rattle.mesa_examples.proofs.OnLiterals.{on_literals}

-- ---- reading

abbrev query-script : List (List ℕ)
query-script =
    codes "table,t,k int,v sum"
    ∷ codes "commit"
    ∷ codes "query,t"
    ∷ codes "query,t,,z=1"
    ∷ codes "work,t"
    ∷ []

-- A query that would have been answered can't read a file.
unread_query : broken_rule query-script (
    stands 0 1 Decide 1
    ∷ stands 0 2 Look 1
    ∷ stands 0 2 Decide 2
    ∷ ends 0 3 Decide outcome.ReadFault 2
    ∷ stands 0 4 Decide 2
    ∷ stands 0 5 Grant 2
    ∷ []) false ≡ None
unfolding on_literals
unread_query = refl

-- One that was decided finds a file damaged.
damaged_close : broken_rule query-script (
    stands 0 1 Decide 1
    ∷ stands 0 2 Look 1
    ∷ stands 0 2 Decide 2
    ∷ stands 0 3 Decide 2
    ∷ ends 0 3 Close outcome.Damaged 2
    ∷ stands 0 4 Decide 2
    ∷ stands 0 5 Grant 2
    ∷ []) false ≡ None
unfolding on_literals
damaged_close = refl

-- A query of a column that isn't there is told that a file can't be read.
unread_though_refused : broken_rule query-script (
    stands 0 1 Decide 1
    ∷ stands 0 2 Look 1
    ∷ stands 0 2 Decide 2
    ∷ stands 0 3 Decide 2
    ∷ stands 0 3 Close 2
    ∷ ends 0 4 Decide outcome.ReadFault 2
    ∷ stands 0 5 Grant 2
    ∷ []) false ≡ Some Reading
unfolding on_literals
unread_though_refused = refl

-- It is told that a file is damaged.
damaged_though_refused : broken_rule query-script (
    stands 0 1 Decide 1
    ∷ stands 0 2 Look 1
    ∷ stands 0 2 Decide 2
    ∷ stands 0 3 Decide 2
    ∷ stands 0 3 Close 2
    ∷ ends 0 4 Decide outcome.Damaged 2
    ∷ stands 0 5 Grant 2
    ∷ []) false ≡ Some Reading
unfolding on_literals
damaged_though_refused = refl

-- A work for which there is nothing to do is told that a file can't be read.
unread_though_idle : broken_rule query-script (
    stands 0 1 Decide 1
    ∷ stands 0 2 Look 1
    ∷ stands 0 2 Decide 2
    ∷ stands 0 3 Decide 2
    ∷ stands 0 3 Close 2
    ∷ stands 0 4 Decide 2
    ∷ ends 0 5 Grant outcome.ReadFault 2
    ∷ []) false ≡ Some Reading
unfolding on_literals
unread_though_idle = refl

-- ---- writing

abbrev load-script : List (List ℕ)
load-script =
    codes "table,t,k int,v sum"
    ∷ codes "row,u,1,5"
    ∷ codes "commit"
    ∷ codes "table,t,k int,v sum"
    ∷ []

-- The device fails under a load of a table that isn't there.
unwritten_though_refused : broken_rule load-script (
    stands 0 1 Decide 1
    ∷ stands 0 2 Look 1
    ∷ ends 0 2 Decide outcome.WriteFault 2
    ∷ stands 0 3 Decide 2
    ∷ []) false ≡ Some Writing
unfolding on_literals
unwritten_though_refused = refl

-- A file of such a load can't be built.
unbuilt_though_refused : broken_rule load-script (
    stands 0 1 Decide 1
    ∷ stands 0 2 Look 1
    ∷ ends 0 2 Decide outcome.WriteFault 1
    ∷ stands 0 3 Decide 1
    ∷ []) false ≡ Some Writing
unfolding on_literals
unbuilt_though_refused = refl

-- The device fails under a table whose name is taken.
unwritten_table : broken_rule load-script (
    stands 0 1 Decide 1
    ∷ stands 0 2 Look 1
    ∷ stands 0 2 Decide 1
    ∷ ends 0 3 Decide outcome.WriteFault 2
    ∷ []) false ≡ Some Writing
unfolding on_literals
unwritten_table = refl

abbrev expiry-script : List (List ℕ)
expiry-script =
    codes "table,t,k int,v sum"
    ∷ codes "commit"
    ∷ codes "expire,0"
    ∷ []

-- A file can't be built for an expiry, for which none is.
unbuilt_expiry : broken_rule expiry-script (
    stands 0 1 Decide 1
    ∷ stands 0 2 Look 1
    ∷ stands 0 2 Decide 2
    ∷ ends 0 3 Decide outcome.WriteFault 2
    ∷ []) false ≡ Some Writing
unfolding on_literals
unbuilt_expiry = refl

-- The device fails under it.
unwritten_expiry : broken_rule expiry-script (
    stands 0 1 Decide 1
    ∷ stands 0 2 Look 1
    ∷ stands 0 2 Decide 2
    ∷ ends 0 3 Decide outcome.WriteFault 3
    ∷ []) false ≡ None
unfolding on_literals
unwritten_expiry = refl

-- ---- works

abbrev work-script : List (List ℕ)
work-script =
    codes "table,t,k int,v sum"
    ∷ codes "commit"
    ∷ codes "commit"
    ∷ codes "expire,1"
    ∷ codes "work,t"
    ∷ []

-- what comes before the work
abbrev before_work : List Entry
before_work =
    stands 0 1 Decide 1
    ∷ stands 0 2 Look 1
    ∷ stands 0 2 Decide 2
    ∷ stands 0 3 Look 2
    ∷ stands 0 3 Decide 3
    ∷ stands 0 4 Decide 4
    ∷ []

-- A file can't be read at the grant.
unread_grant : broken_rule work-script (before_work ++ ends 0 5 Grant outcome.ReadFault 4 ∷ []) false ≡ None
unfolding on_literals
unread_grant = refl

-- The merged file can't be built.
unbuilt_merge : broken_rule work-script (before_work ++ (stands 0 5 Grant 4 ∷ ends 0 5 Close outcome.WriteFault 4 ∷ [])) false ≡ None
unfolding on_literals
unbuilt_merge = refl

-- The device fails under the swap.
unwritten_swap : broken_rule work-script (before_work ++ (stands 0 5 Grant 4 ∷ stands 0 5 Renew 4 ∷ ends 0 5 Close outcome.WriteFault 5 ∷ [])) false ≡ None
unfolding on_literals
unwritten_swap = refl

-- It fails under the swap of a work whose lease wasn't renewed.
unwritten_without_renewal : broken_rule work-script (before_work ++ (stands 0 5 Grant 4 ∷ ends 0 5 Close outcome.WriteFault 5 ∷ [])) false ≡ Some Writing
unfolding on_literals
unwritten_without_renewal = refl

-- ---- memory

-- The renewal of a lease finds no memory.
renewal_without_memory : broken_rule work-script (before_work ++ (stands 0 5 Grant 4 ∷ ends 0 5 Renew outcome.Memory 4 ∷ [])) false ≡ Some ByOutcome
unfolding on_literals
renewal_without_memory = refl

abbrev pin-script : List (List ℕ)
pin-script =
    codes "commit"
    ∷ codes "pin"
    ∷ codes "release,1"
    ∷ []

-- The release of a pin finds no memory.
release_without_memory : broken_rule pin-script (
    stands 0 1 Look 0
    ∷ stands 0 1 Decide 1
    ∷ stands 0 2 Decide 1
    ∷ ends 0 3 Decide outcome.Memory 1
    ∷ []) false ≡ Some ByOutcome
unfolding on_literals
release_without_memory = refl

-- The pin itself may find none.
pin_without_memory : broken_rule pin-script (
    stands 0 1 Look 0
    ∷ stands 0 1 Decide 1
    ∷ ends 0 2 Decide outcome.Memory 1
    ∷ stands 0 3 Decide 1
    ∷ []) false ≡ None
unfolding on_literals
pin_without_memory = refl

abbrev closed-script : List (List ℕ)
closed-script =
    codes "table,t,k int,v sum"
    ∷ codes "commit"
    ∷ codes "session"
    ∷ codes "query,t"
    ∷ codes "session"
    ∷ codes "expire,0"
    ∷ codes "commit"
    ∷ []

-- what comes before the store is closed, and what closes it
abbrev until_closed : List Entry
until_closed =
    stands 0 1 Decide 1
    ∷ stands 0 2 Look 1
    ∷ stands 0 2 Decide 2
    ∷ stands 1 1 Decide 2
    ∷ ends 2 1 Decide outcome.WriteFault 3
    ∷ []

-- Once the store is closed, the close of a query that was decided before may find no memory, and a look may.
memory_behind_closing : broken_rule closed-script (until_closed ++ (ends 1 1 Close outcome.Memory 3 ∷ ends 2 2 Look outcome.Memory 3 ∷ stands 2 2 Decide 3 ∷ [])) false ≡ None
unfolding on_literals
memory_behind_closing = refl

-- The decision of a load may not.
load_behind_closing : broken_rule closed-script (until_closed ++ (stands 1 1 Close 3 ∷ stands 2 2 Look 3 ∷ ends 2 2 Decide outcome.Memory 3 ∷ [])) false ≡ Some Closed
unfolding on_literals
load_behind_closing = refl

-- ---- damage

-- A file's id of more than 64 bits can't be told.
long_id : IsDamage (record { file = 2 ^ 64; place = 0; want = seen.Fits; found = seen.Absent }) → ⊥
long_id told = omega (arith, told.file)

-- Nor can a digest that isn't of 32 bytes.
short_digest : IsDamage (record { file = 0; place = 0; want = seen.Digest (1 ∷ 2 ∷ []); found = seen.Absent }) → ⊥
short_digest told = omega (arith, told.want.0)

-- Nor that what was wanted was found.
nothing_damaged : IsDamage (record { file = 0; place = 0; want = seen.Fits; found = seen.Fits }) → ⊥
nothing_damaged told = told.differ refl
