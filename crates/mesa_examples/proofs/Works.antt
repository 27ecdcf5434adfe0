-- Work on the deltas of a table, and what a query of it reads.
use Rattle.std.proofs.Common.{ℕ, ◌+◌, ◌*◌, List, [], ◌∷◌, ◌++◌, refl}
use Rattle.std.specs.Prelude.{codes, decimal}
use Rattle.mesa_examples.specs.Rows.{Prints, many}
use Rattle.mesa_examples.proofs.OnLiterals.{on_literals}

-- The newest value stays the newest when older versions are merged.
replace_across_base : Prints (
    codes "table,t,k int,v replace"
    ∷ codes "row,t,1,5"
    ∷ codes "commit"
    ∷ codes "row,t,1,6"
    ∷ codes "commit"
    ∷ codes "row,t,1,4"
    ∷ codes "commit"
    ∷ codes "expire,1"
    ∷ codes "work,t"
    ∷ codes "query,t,1"
    ∷ codes "query,t"
    ∷ []) (
    codes "0.1@0 table t"
    ∷ codes "0.2@2 loaded version=0 rows=1"
    ∷ codes "0.3@4 loaded version=1 rows=1"
    ∷ codes "0.4@6 loaded version=2 rows=1"
    ∷ codes "0.5@7 expired oldest=1"
    ∷ codes "0.6@10 swapped 0 1"
    ∷ codes "0.7@11 rows 1 version=1"
    ∷ codes "1,6"
    ∷ codes "0.8@13 rows 1 version=2"
    ∷ codes "1,4"
    ∷ [])
unfolding on_literals
replace_across_base = record { prints = refl; legal = refl }

-- A lease of one turn is lost before it can be renewed.
short_lease : Prints (
    codes "lease,1"
    ∷ codes "table,t,k int,v sum"
    ∷ codes "row,t,1,5"
    ∷ codes "commit"
    ∷ codes "row,t,1,6"
    ∷ codes "commit"
    ∷ codes "expire,1"
    ∷ codes "work,t"
    ∷ []) (
    codes "0.1@0 table t"
    ∷ codes "0.2@2 loaded version=0 rows=1"
    ∷ codes "0.3@4 loaded version=1 rows=1"
    ∷ codes "0.4@5 expired oldest=1"
    ∷ codes "0.5@7 refused lost lease=1 holder=none"
    ∷ [])
unfolding on_literals
short_lease = record { prints = refl; legal = refl }

-- One of two turns is not.
lease_of_two : Prints (
    codes "lease,2"
    ∷ codes "table,t,k int,v sum"
    ∷ codes "row,t,1,5"
    ∷ codes "commit"
    ∷ codes "row,t,1,6"
    ∷ codes "commit"
    ∷ codes "expire,1"
    ∷ codes "work,t"
    ∷ []) (
    codes "0.1@0 table t"
    ∷ codes "0.2@2 loaded version=0 rows=1"
    ∷ codes "0.3@4 loaded version=1 rows=1"
    ∷ codes "0.4@5 expired oldest=1"
    ∷ codes "0.5@8 swapped 0 1"
    ∷ [])
unfolding on_literals
lease_of_two = record { prints = refl; legal = refl }

-- ninety-three batches of a table
abbrev ninety_three : List (List ℕ)
ninety_three = codes "table,t,k int,v sum" ∷ many 93 0 (λ k. codes "commit")

-- the replies to them: the batch of version k is command k + 2, and is decided at position 2 k + 2
abbrev loaded : List (List ℕ)
loaded = codes "0.1@0 table t" ∷ many 93 0 (λ k. codes "0." ++ decimal (k + 2) ++ codes "@" ++ decimal (2 * k + 2) ++ codes " loaded version=" ++ decimal k ++ codes " rows=0")

-- Cumulatives of ten, twenty and thirty versions behind a base, and the plans at two versions.
ten_version_cumulatives : Prints (ninety_three ++ (
    codes "expire,60"
    ∷ codes "work,t"
    ∷ codes "work,t"
    ∷ codes "work,t"
    ∷ codes "work,t"
    ∷ codes "work,t"
    ∷ codes "explain,t,91"
    ∷ codes "explain,t,75"
    ∷ [])) (loaded ++ (
    codes "0.95@187 expired oldest=60"
    ∷ codes "0.96@190 swapped 0 60"
    ∷ codes "0.97@193 swapped 61 70"
    ∷ codes "0.98@196 swapped 61 80"
    ∷ codes "0.99@199 swapped 61 90"
    ∷ codes "0.100@200 idle"
    ∷ codes "0.101@201 spans 3"
    ∷ codes "[0,60]"
    ∷ codes "[61,90]"
    ∷ codes "[91,91]"
    ∷ codes "0.102@202 spans 7"
    ∷ codes "[0,60]"
    ∷ codes "[61,70]"
    ∷ codes "[71,71]"
    ∷ codes "[72,72]"
    ∷ codes "[73,73]"
    ∷ codes "[74,74]"
    ∷ codes "[75,75]"
    ∷ []))
unfolding on_literals
ten_version_cumulatives = record { prints = refl; legal = refl }

-- A later base drops the cumulatives that start at or before its end.
base_drops_straddlers : Prints (ninety_three ++ (
    codes "expire,60"
    ∷ codes "work,t"
    ∷ codes "work,t"
    ∷ codes "work,t"
    ∷ codes "work,t"
    ∷ codes "work,t"
    ∷ codes "explain,t,91"
    ∷ codes "explain,t,75"
    ∷ codes "expire,75"
    ∷ codes "work,t"
    ∷ codes "explain,t,90"
    ∷ [])) (loaded ++ (
    codes "0.95@187 expired oldest=60"
    ∷ codes "0.96@190 swapped 0 60"
    ∷ codes "0.97@193 swapped 61 70"
    ∷ codes "0.98@196 swapped 61 80"
    ∷ codes "0.99@199 swapped 61 90"
    ∷ codes "0.100@200 idle"
    ∷ codes "0.101@201 spans 3"
    ∷ codes "[0,60]"
    ∷ codes "[61,90]"
    ∷ codes "[91,91]"
    ∷ codes "0.102@202 spans 7"
    ∷ codes "[0,60]"
    ∷ codes "[61,70]"
    ∷ codes "[71,71]"
    ∷ codes "[72,72]"
    ∷ codes "[73,73]"
    ∷ codes "[74,74]"
    ∷ codes "[75,75]"
    ∷ codes "0.103@203 expired oldest=75"
    ∷ codes "0.104@206 swapped 0 75"
    ∷ codes "0.105@207 spans 16"
    ∷ codes "[0,75]"
    ∷ codes "[76,76]"
    ∷ codes "[77,77]"
    ∷ codes "[78,78]"
    ∷ codes "[79,79]"
    ∷ codes "[80,80]"
    ∷ codes "[81,81]"
    ∷ codes "[82,82]"
    ∷ codes "[83,83]"
    ∷ codes "[84,84]"
    ∷ codes "[85,85]"
    ∷ codes "[86,86]"
    ∷ codes "[87,87]"
    ∷ codes "[88,88]"
    ∷ codes "[89,89]"
    ∷ codes "[90,90]"
    ∷ []))
unfolding on_literals
base_drops_straddlers = record { prints = refl; legal = refl }
