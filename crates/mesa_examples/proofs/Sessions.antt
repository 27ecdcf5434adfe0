-- Sessions that run at once, over histories that are written out.
use Rattle.std.proofs.Common.{◌≡◌, ℕ, List, [], ◌∷◌, true, false, refl}
use Rattle.std.specs.Prelude.{codes}
use Rattle.mesa_history_spec.specs.mesa_model.declared.entries.Entry.{Entry}
use Rattle.mesa_history_spec.specs.mesa_model.declared.entries.Kind.TheVariants.{Look, Decide, Close, Grant, Renew}
use Rattle.mesa_examples.specs.Rows.{PrintsIn, is_legal_run, stands}
use Rattle.mesa_examples.proofs.OnLiterals.{on_literals}

-- A lease that another session takes over is lost, and its work isn't swapped in.
abbrev lost_lease-script : List (List ℕ)
lost_lease-script =
    codes "lease,3"
    ∷ codes "table,t,k int,v sum"
    ∷ codes "row,t,1,5"
    ∷ codes "commit"
    ∷ codes "row,t,1,6"
    ∷ codes "commit"
    ∷ codes "expire,1"
    ∷ codes "session"
    ∷ codes "work,t"
    ∷ codes "session"
    ∷ codes "query,t,1"
    ∷ codes "work,t"
    ∷ []

abbrev lost_lease-history : List Entry
lost_lease-history =
    stands 0 1 Decide 1
    ∷ stands 0 2 Look 1
    ∷ stands 0 2 Decide 2
    ∷ stands 0 3 Look 2
    ∷ stands 0 3 Decide 3
    ∷ stands 0 4 Decide 4
    ∷ stands 1 1 Grant 4
    ∷ stands 2 1 Decide 4
    ∷ stands 2 1 Close 4
    ∷ stands 2 2 Grant 4
    ∷ stands 1 1 Renew 4
    ∷ stands 2 2 Renew 4
    ∷ stands 2 2 Close 5
    ∷ []

lost_lease : PrintsIn lost_lease-script lost_lease-history (
    codes "0.1@0 table t"
    ∷ codes "0.2@2 loaded version=0 rows=1"
    ∷ codes "0.3@4 loaded version=1 rows=1"
    ∷ codes "0.4@5 expired oldest=1"
    ∷ codes "2.1@7 rows 1 version=1"
    ∷ codes "1,11"
    ∷ codes "1.1@10 refused lost lease=1 holder=2"
    ∷ codes "2.2@12 swapped 0 1"
    ∷ [])
unfolding on_literals
lost_lease = refl

lost_lease-legal : is_legal_run lost_lease-script lost_lease-history false ≡ true
unfolding on_literals
lost_lease-legal = refl

-- A query is answered while another session's work goes on.
abbrev side_by_side-script : List (List ℕ)
side_by_side-script =
    codes "table,t,k int,v sum"
    ∷ codes "row,t,1,5"
    ∷ codes "commit"
    ∷ codes "row,t,1,6"
    ∷ codes "commit"
    ∷ codes "expire,1"
    ∷ codes "session"
    ∷ codes "work,t"
    ∷ codes "session"
    ∷ codes "query,t,1"
    ∷ []

abbrev side_by_side-history : List Entry
side_by_side-history =
    stands 0 1 Decide 1
    ∷ stands 0 2 Look 1
    ∷ stands 0 2 Decide 2
    ∷ stands 0 3 Look 2
    ∷ stands 0 3 Decide 3
    ∷ stands 0 4 Decide 4
    ∷ stands 1 1 Grant 4
    ∷ stands 2 1 Decide 4
    ∷ stands 2 1 Close 4
    ∷ stands 1 1 Renew 4
    ∷ stands 1 1 Close 5
    ∷ []

side_by_side : PrintsIn side_by_side-script side_by_side-history (
    codes "0.1@0 table t"
    ∷ codes "0.2@2 loaded version=0 rows=1"
    ∷ codes "0.3@4 loaded version=1 rows=1"
    ∷ codes "0.4@5 expired oldest=1"
    ∷ codes "2.1@7 rows 1 version=1"
    ∷ codes "1,11"
    ∷ codes "1.1@10 swapped 0 1"
    ∷ [])
unfolding on_literals
side_by_side = refl

side_by_side-legal : is_legal_run side_by_side-script side_by_side-history false ≡ true
unfolding on_literals
side_by_side-legal = refl

-- A query is answered while another session's load is prepared.
abbrev load_beside_query-script : List (List ℕ)
load_beside_query-script =
    codes "table,t,k int,v sum"
    ∷ codes "row,t,1,5"
    ∷ codes "commit"
    ∷ codes "row,t,1,6"
    ∷ codes "commit"
    ∷ codes "expire,1"
    ∷ codes "session"
    ∷ codes "row,t,1,1"
    ∷ codes "commit"
    ∷ codes "session"
    ∷ codes "query,t,1"
    ∷ []

abbrev load_beside_query-history : List Entry
load_beside_query-history =
    stands 0 1 Decide 1
    ∷ stands 0 2 Look 1
    ∷ stands 0 2 Decide 2
    ∷ stands 0 3 Look 2
    ∷ stands 0 3 Decide 3
    ∷ stands 0 4 Decide 4
    ∷ stands 1 1 Look 4
    ∷ stands 2 1 Decide 4
    ∷ stands 2 1 Close 4
    ∷ stands 1 1 Decide 5
    ∷ []

load_beside_query : PrintsIn load_beside_query-script load_beside_query-history (
    codes "0.1@0 table t"
    ∷ codes "0.2@2 loaded version=0 rows=1"
    ∷ codes "0.3@4 loaded version=1 rows=1"
    ∷ codes "0.4@5 expired oldest=1"
    ∷ codes "2.1@7 rows 1 version=1"
    ∷ codes "1,11"
    ∷ codes "1.1@9 loaded version=2 rows=1"
    ∷ [])
unfolding on_literals
load_beside_query = refl

load_beside_query-legal : is_legal_run load_beside_query-script load_beside_query-history false ≡ true
unfolding on_literals
load_beside_query-legal = refl
