-- Changes of schemas, views and pins.
use Rattle.std.proofs.Common.{[], ◌∷◌, refl}
use Rattle.std.specs.Prelude.{codes}
use Rattle.mesa_examples.specs.Rows.{Prints}
use Rattle.mesa_examples.proofs.OnLiterals.{on_literals}

-- A pin keeps what an expiry, a base and a dropped column take from the present.
pin_outlives_change : Prints (
    codes "table,t,k int,v sum;w max"
    ∷ codes "row,t,1,5,8"
    ∷ codes "commit"
    ∷ codes "row,t,1,6,3"
    ∷ codes "commit"
    ∷ codes "pin,0"
    ∷ codes "row,t,2,1,1"
    ∷ codes "commit"
    ∷ codes "expire,2"
    ∷ codes "work,t"
    ∷ codes "alter,t,drop_value,w"
    ∷ codes "query,t,pin:1"
    ∷ codes "query,t"
    ∷ codes "release,1"
    ∷ codes "query,t,pin:1"
    ∷ []) (
    codes "0.1@0 table t"
    ∷ codes "0.2@2 loaded version=0 rows=1"
    ∷ codes "0.3@4 loaded version=1 rows=1"
    ∷ codes "0.4@5 pinned token=1 version=0"
    ∷ codes "0.5@7 loaded version=2 rows=1"
    ∷ codes "0.6@8 expired oldest=2"
    ∷ codes "0.7@11 swapped 0 2"
    ∷ codes "0.8@12 altered t epoch=1"
    ∷ codes "0.9@13 rows 1 version=0"
    ∷ codes "1,5,8"
    ∷ codes "0.10@15 rows 2 version=2"
    ∷ codes "1,11"
    ∷ codes "2,1"
    ∷ codes "0.11@17 released token=1"
    ∷ codes "0.12@18 refused no_pin token=1"
    ∷ [])
unfolding on_literals
pin_outlives_change = record { prints = refl; legal = refl }

-- Value columns that are added, and a default that a sum may not have.
added_values : Prints (
    codes "table,t,k int,v sum"
    ∷ codes "row,t,1,5"
    ∷ codes "commit"
    ∷ codes "row,t,1,6"
    ∷ codes "commit"
    ∷ codes "row,t,1,-4"
    ∷ codes "commit"
    ∷ codes "alter,t,add_value,m min,7"
    ∷ codes "alter,t,add_value,s sum,7"
    ∷ codes "alter,t,add_value,s sum,0"
    ∷ codes "query,t"
    ∷ codes "row,t,1,0,9,2"
    ∷ codes "commit"
    ∷ codes "query,t"
    ∷ codes "row,t,1,0,3,0"
    ∷ codes "commit"
    ∷ codes "query,t"
    ∷ []) (
    codes "0.1@0 table t"
    ∷ codes "0.2@2 loaded version=0 rows=1"
    ∷ codes "0.3@4 loaded version=1 rows=1"
    ∷ codes "0.4@6 loaded version=2 rows=1"
    ∷ codes "0.5@7 altered t epoch=1"
    ∷ codes "0.6@8 refused bad_default column=s"
    ∷ codes "0.7@9 altered t epoch=2"
    ∷ codes "0.8@10 rows 1 version=2"
    ∷ codes "1,7,7,0"
    ∷ codes "0.9@13 loaded version=3 rows=1"
    ∷ codes "0.10@14 rows 1 version=3"
    ∷ codes "1,7,7,2"
    ∷ codes "0.11@17 loaded version=4 rows=1"
    ∷ codes "0.12@18 rows 1 version=4"
    ∷ codes "1,7,3,2"
    ∷ [])
unfolding on_literals
added_values = record { prints = refl; legal = refl }

-- A key column that is added, a view by it, and a filter on it.
added_key : Prints (
    codes "table,t,k int,v sum"
    ∷ codes "row,t,1,5"
    ∷ codes "commit"
    ∷ codes "alter,t,add_key,c text,US"
    ∷ codes "row,t,1,UK,3"
    ∷ codes "commit"
    ∷ codes "query,t"
    ∷ codes "view,w,t,c,v"
    ∷ codes "query,w"
    ∷ codes "query,t,,c=US"
    ∷ []) (
    codes "0.1@0 table t"
    ∷ codes "0.2@2 loaded version=0 rows=1"
    ∷ codes "0.3@3 altered t epoch=1"
    ∷ codes "0.4@5 loaded version=1 rows=1"
    ∷ codes "0.5@6 rows 2 version=1"
    ∷ codes "1,UK,3"
    ∷ codes "1,US,5"
    ∷ codes "0.6@8 view w"
    ∷ codes "0.7@9 rows 2 version=1"
    ∷ codes "UK,3"
    ∷ codes "US,5"
    ∷ codes "0.8@11 rows 1 version=1"
    ∷ codes "1,US,5"
    ∷ [])
unfolding on_literals
added_key = record { prints = refl; legal = refl }

-- Views, and the columns that they guard.
views_guard_columns : Prints (
    codes "table,t,k int;c text,v sum;r replace"
    ∷ codes "view,w,t,c,v"
    ∷ codes "view,x,t,c,r"
    ∷ codes "view,t,t,c,v"
    ∷ codes "alter,t,drop_value,v"
    ∷ codes "alter,t,drop_value,z"
    ∷ codes "query,t,,,c"
    ∷ []) (
    codes "0.1@0 table t"
    ∷ codes "0.2@1 view w"
    ∷ codes "0.3@2 refused replace_group column=r"
    ∷ codes "0.4@3 refused table_exists"
    ∷ codes "0.5@4 refused in_view view=w"
    ∷ codes "0.6@5 refused no_column"
    ∷ codes "0.7@6 refused replace_group column=r"
    ∷ [])
unfolding on_literals
views_guard_columns = record { prints = refl; legal = refl }
