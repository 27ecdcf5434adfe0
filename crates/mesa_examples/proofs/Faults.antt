-- Faults of the store and of the sink, over histories that are written out.
use Rattle.std.proofs.Common.{◌≡◌, ℕ, List, [], ◌∷◌, true, false, refl}
use Rattle.std.specs.Prelude.{codes}
use Rattle.mesa_history_spec.specs.mesa_model.declared.entries.Entry.{Entry}
use Rattle.mesa_history_spec.specs.mesa_model.declared.entries.Kind.TheVariants.{Look, Decide, Close}
use Rattle.mesa_history_spec.specs.mesa_model.declared.entries.Outcome.TheVariants as outcome
use Rattle.mesa_examples.specs.Rows.{PrintsIn, is_legal_run, stands, ends}
use Rattle.mesa_examples.proofs.OnLiterals.{on_literals}

-- A write that fails in a turn closes the store.
abbrev closing-script : List (List ℕ)
closing-script =
    codes "table,t,k int,v sum"
    ∷ codes "row,t,1,5"
    ∷ codes "commit"
    ∷ codes "row,t,1,6"
    ∷ codes "commit"
    ∷ codes "query,t"
    ∷ []

abbrev closing-history : List Entry
closing-history =
    stands 0 1 Decide 4
    ∷ stands 0 2 Look 4
    ∷ stands 0 2 Decide 9
    ∷ stands 0 3 Look 9
    ∷ ends 0 3 Decide outcome.WriteFault 12
    ∷ stands 0 4 Decide 12
    ∷ []

closing : PrintsIn closing-script closing-history (
    codes "0.1@0 table t"
    ∷ codes "0.2@2 loaded version=0 rows=1"
    ∷ codes "0.3@4 refused write_fault"
    ∷ codes "0.4@5 refused closed position=4"
    ∷ [])
unfolding on_literals
closing = refl

closing-legal : is_legal_run closing-script closing-history false ≡ true
unfolding on_literals
closing-legal = refl

-- A draft that fails refuses one command.
abbrev draft_fails-script : List (List ℕ)
draft_fails-script =
    codes "table,t,k int,v sum"
    ∷ codes "row,t,1,5"
    ∷ codes "commit"
    ∷ codes "row,t,1,6"
    ∷ codes "commit"
    ∷ codes "query,t"
    ∷ codes "query,t"
    ∷ []

abbrev draft_fails-history : List Entry
draft_fails-history =
    stands 0 1 Decide 4
    ∷ stands 0 2 Look 4
    ∷ stands 0 2 Decide 9
    ∷ stands 0 3 Look 9
    ∷ ends 0 3 Decide outcome.WriteFault 9
    ∷ stands 0 4 Decide 9
    ∷ stands 0 4 Close 9
    ∷ stands 0 5 Decide 9
    ∷ stands 0 5 Close 9
    ∷ []

draft_fails : PrintsIn draft_fails-script draft_fails-history (
    codes "0.1@0 table t"
    ∷ codes "0.2@2 loaded version=0 rows=1"
    ∷ codes "0.3@4 refused write_fault"
    ∷ codes "0.4@5 rows 1 version=0"
    ∷ codes "1,5"
    ∷ codes "0.5@7 rows 1 version=0"
    ∷ codes "1,5"
    ∷ [])
unfolding on_literals
draft_fails = refl

draft_fails-legal : is_legal_run draft_fails-script draft_fails-history false ≡ true
unfolding on_literals
draft_fails-legal = refl

-- So does a file that can't be read.
abbrev read_fails-script : List (List ℕ)
read_fails-script =
    codes "table,t,k int,v sum"
    ∷ codes "row,t,1,5"
    ∷ codes "commit"
    ∷ codes "row,t,1,6"
    ∷ codes "commit"
    ∷ codes "query,t"
    ∷ codes "query,t"
    ∷ []

abbrev read_fails-history : List Entry
read_fails-history =
    stands 0 1 Decide 4
    ∷ stands 0 2 Look 4
    ∷ stands 0 2 Decide 9
    ∷ stands 0 3 Look 9
    ∷ stands 0 3 Decide 14
    ∷ stands 0 4 Decide 14
    ∷ ends 0 4 Close outcome.ReadFault 14
    ∷ stands 0 5 Decide 14
    ∷ stands 0 5 Close 14
    ∷ []

read_fails : PrintsIn read_fails-script read_fails-history (
    codes "0.1@0 table t"
    ∷ codes "0.2@2 loaded version=0 rows=1"
    ∷ codes "0.3@4 loaded version=1 rows=1"
    ∷ codes "0.4@5 refused read_fault"
    ∷ codes "0.5@7 rows 1 version=1"
    ∷ codes "1,11"
    ∷ [])
unfolding on_literals
read_fails = refl

read_fails-legal : is_legal_run read_fails-script read_fails-history false ≡ true
unfolding on_literals
read_fails-legal = refl

-- Once the sink has failed, each session's next turn is skipped and is its last.
abbrev sink_fails-script : List (List ℕ)
sink_fails-script =
    codes "table,t,k int,v sum"
    ∷ codes "row,t,1,5"
    ∷ codes "commit"
    ∷ codes "row,t,1,6"
    ∷ codes "commit"
    ∷ codes "query,t"
    ∷ []

abbrev sink_fails-history : List Entry
sink_fails-history =
    stands 0 1 Decide 4
    ∷ ends 0 2 Look outcome.Skipped 4
    ∷ []

sink_fails : PrintsIn sink_fails-script sink_fails-history (
    codes "0.1@0 table t"
    ∷ [])
unfolding on_literals
sink_fails = refl

sink_fails-legal : is_legal_run sink_fails-script sink_fails-history true ≡ true
unfolding on_literals
sink_fails-legal = refl
