-- Loads: their batches, and why they are refused.
use Rattle.std.proofs.Common.{[], ◌∷◌, refl}
use Rattle.std.specs.Prelude.{codes}
use Rattle.mesa_examples.specs.Rows.{Prints}
use Rattle.mesa_examples.proofs.OnLiterals.{on_literals}

-- An empty script prints nothing.
empty_script : Prints [] []
unfolding on_literals
empty_script = record { prints = refl; legal = refl }

-- A batch, an empty batch, and a query.
one_row : Prints (
    codes "table,t,k int,v sum"
    ∷ codes "row,t,1,5"
    ∷ codes "commit"
    ∷ codes "commit"
    ∷ codes "query,t"
    ∷ []) (
    codes "0.1@0 table t"
    ∷ codes "0.2@2 loaded version=0 rows=1"
    ∷ codes "0.3@4 loaded version=1 rows=0"
    ∷ codes "0.4@5 rows 1 version=1"
    ∷ codes "1,5"
    ∷ [])
unfolding on_literals
one_row = record { prints = refl; legal = refl }

-- A key whose sum is 0 stays.
zero_sum_stays : Prints (
    codes "table,t,k int,v sum"
    ∷ codes "row,t,7,10"
    ∷ codes "commit"
    ∷ codes "row,t,7,-10"
    ∷ codes "commit"
    ∷ codes "query,t"
    ∷ []) (
    codes "0.1@0 table t"
    ∷ codes "0.2@2 loaded version=0 rows=1"
    ∷ codes "0.3@4 loaded version=1 rows=1"
    ∷ codes "0.4@5 rows 1 version=1"
    ∷ codes "7,0"
    ∷ [])
unfolding on_literals
zero_sum_stays = record { prints = refl; legal = refl }

-- A batch that has a key twice is refused, and takes no version.
duplicate_key : Prints (
    codes "table,t,k int,v sum"
    ∷ codes "row,t,1,5"
    ∷ codes "row,t,2,6"
    ∷ codes "row,t,1,7"
    ∷ codes "commit"
    ∷ codes "row,t,1,7"
    ∷ codes "commit"
    ∷ []) (
    codes "0.1@0 table t"
    ∷ codes "0.2@2 refused duplicate_key first=1 second=3"
    ∷ codes "0.3@4 loaded version=0 rows=1"
    ∷ [])
unfolding on_literals
duplicate_key = record { prints = refl; legal = refl }

-- Absolute values that add up to more than 64 bits hold are loaded.
sum_bound : Prints (
    codes "table,t,k int,v sum"
    ∷ codes "row,t,1,9223372036854775807"
    ∷ codes "commit"
    ∷ codes "row,t,1,-1"
    ∷ codes "commit"
    ∷ codes "query,t"
    ∷ []) (
    codes "0.1@0 table t"
    ∷ codes "0.2@2 loaded version=0 rows=1"
    ∷ codes "0.3@4 loaded version=1 rows=1"
    ∷ codes "0.4@5 rows 1 version=1"
    ∷ codes "1,9223372036854775806"
    ∷ [])
unfolding on_literals
sum_bound = record { prints = refl; legal = refl }

-- So is the least number of 64 bits.
least_of_64_bits : Prints (
    codes "table,t,k int,v sum"
    ∷ codes "row,t,1,-9223372036854775808"
    ∷ codes "commit"
    ∷ []) (
    codes "0.1@0 table t"
    ∷ codes "0.2@2 loaded version=0 rows=1"
    ∷ [])
unfolding on_literals
least_of_64_bits = record { prints = refl; legal = refl }

-- A sum may pass 64 bits. A batch is refused where the absolute values of a column would add up to more than its bound.
wide_sums : Prints (
    codes "table,t,k int,v sum"
    ∷ codes "row,t,1,9223372036854775807"
    ∷ codes "commit"
    ∷ codes "row,t,1,1"
    ∷ codes "commit"
    ∷ codes "query,t"
    ∷ codes "row,t,1,170141183460469231722463931679029329919"
    ∷ codes "commit"
    ∷ codes "row,t,1,1"
    ∷ codes "commit"
    ∷ codes "query,t"
    ∷ []) (
    codes "0.1@0 table t"
    ∷ codes "0.2@2 loaded version=0 rows=1"
    ∷ codes "0.3@4 loaded version=1 rows=1"
    ∷ codes "0.4@5 rows 1 version=1"
    ∷ codes "1,9223372036854775808"
    ∷ codes "0.5@8 loaded version=2 rows=1"
    ∷ codes "0.6@10 refused sum_bound table=t column=v"
    ∷ codes "0.7@11 rows 1 version=2"
    ∷ codes "1,170141183460469231731687303715884105727"
    ∷ [])
unfolding on_literals
wide_sums = record { prints = refl; legal = refl }

-- The least number of 128 bits alone is past the bound.
sum_bound_alone : Prints (
    codes "table,t,k int,v sum"
    ∷ codes "row,t,1,-170141183460469231731687303715884105728"
    ∷ codes "commit"
    ∷ []) (
    codes "0.1@0 table t"
    ∷ codes "0.2@2 refused sum_bound table=t column=v"
    ∷ [])
unfolding on_literals
sum_bound_alone = record { prints = refl; legal = refl }

-- A number past 128 bits is no value.
past_128_bits : Prints (
    codes "table,t,k int,v sum"
    ∷ codes "row,t,1,170141183460469231731687303715884105728"
    ∷ codes "commit"
    ∷ []) (
    codes "0.1@0 table t"
    ∷ codes "0.2@2 refused bad_row row=1 column=2"
    ∷ [])
unfolding on_literals
past_128_bits = record { prints = refl; legal = refl }

-- Rows and schemas that are refused by name.
refusals_by_name : Prints (
    codes "table,t,k int;name text,v sum"
    ∷ codes "row,t,1,x,5"
    ∷ codes "row,u,1,x,5"
    ∷ codes "commit"
    ∷ codes "row,t,1,x"
    ∷ codes "commit"
    ∷ codes "row,t,1,x,9223372036854775808"
    ∷ codes "commit"
    ∷ codes "table,t,k int,v sum"
    ∷ codes "table,s,k int;k int,v sum"
    ∷ codes "query,t,,kk=1"
    ∷ codes "query,t,,k=x"
    ∷ []) (
    codes "0.1@0 table t"
    ∷ codes "0.2@2 refused no_table row=2"
    ∷ codes "0.3@4 refused bad_row row=1 column=3"
    ∷ codes "0.4@6 loaded version=0 rows=1"
    ∷ codes "0.5@7 refused table_exists"
    ∷ codes "0.6@8 refused bad_schema reason=name_twice"
    ∷ codes "0.7@9 refused no_column"
    ∷ codes "0.8@10 refused bad_filter term=1"
    ∷ [])
unfolding on_literals
refusals_by_name = record { prints = refl; legal = refl }
