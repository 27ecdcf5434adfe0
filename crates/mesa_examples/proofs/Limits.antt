-- Limits, and the refusals at them.
use Rattle.std.proofs.Common.{ℕ, ◌+◌, List, [], ◌∷◌, ◌++◌, refl}
use Rattle.std.specs.Prelude.{codes, decimal}
use Rattle.mesa_examples.specs.Rows.{Prints, many}
use Rattle.mesa_examples.proofs.OnLiterals.{on_literals}

-- a record that makes the table of a number
abbrev table_record : ℕ → List ℕ
table_record k = codes "table,t" ++ decimal k ++ codes ",k int,v sum"

-- the reply to the k-th command where it makes that table
abbrev table_made : ℕ → List ℕ
table_made k = codes "0." ++ decimal (k + 1) ++ codes "@" ++ decimal k ++ codes " table t" ++ decimal k

-- A 33rd table.
tables_full : Prints (many 33 0 table_record) (many 32 0 table_made ++ (
    codes "0.33@32 refused tables_full limit=32"
    ∷ []))
unfolding on_literals
tables_full = record { prints = refl; legal = refl }

-- A ninth view of a table.
views_full : Prints (codes "table,t,k int,v sum" ∷ many 9 1 (λ k. codes "view,w" ++ decimal k ++ codes ",t,k,v"))
    (codes "0.1@0 table t" ∷ many 8 1 (λ k. codes "0." ++ decimal (k + 1) ++ codes "@" ++ decimal k ++ codes " view w" ++ decimal k) ++ (
    codes "0.10@9 refused tables_full limit=8"
    ∷ []))
unfolding on_literals
views_full = record { prints = refl; legal = refl }

-- A 65th pin.
pins_full : Prints (codes "commit" ∷ many 65 1 (λ k. codes "pin"))
    (codes "0.1@1 loaded version=0 rows=0" ∷ many 64 1 (λ k. codes "0." ++ decimal (k + 1) ++ codes "@" ++ decimal (k + 1) ++ codes " pinned token=" ++ decimal k ++ codes " version=0") ++ (
    codes "0.66@66 refused pins_full limit=64"
    ∷ []))
unfolding on_literals
pins_full = record { prints = refl; legal = refl }

-- Seventeen key columns.
seventeen_key_columns : Prints (
    codes "table,x,k0 int;k1 int;k2 int;k3 int;k4 int;k5 int;k6 int;k7 int;k8 int;k9 int;k10 int;k11 int;k12 int;k13 int;k14 int;k15 int;k16 int,v sum"
    ∷ []) (
    codes "0.1@0 refused bad_schema reason=too_many_columns"
    ∷ [])
unfolding on_literals
seventeen_key_columns = record { prints = refl; legal = refl }
