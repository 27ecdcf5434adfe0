-- Queries: versions, views, filters, groups and pages.
use Rattle.std.proofs.Common.{[], ◌∷◌, refl}
use Rattle.std.specs.Prelude.{codes}
use Rattle.mesa_examples.specs.Rows.{Prints}
use Rattle.mesa_examples.proofs.OnLiterals.{on_literals}

-- Two tables, a view, two batches, and four queries.
sales_and_view : Prints (
    codes "table,a,day int;pub int;country text,clicks sum;cost sum"
    ∷ codes "table,b,day int;adv int;country text,clicks sum;cost sum"
    ∷ codes "view,c,b,adv;country,clicks;cost"
    ∷ codes "row,a,20131231,100,US,10,32"
    ∷ codes "row,a,20140101,100,US,40,20"
    ∷ codes "row,b,20131231,1,US,10,32"
    ∷ codes "row,b,20140101,2,US,40,20"
    ∷ codes "commit"
    ∷ codes "row,a,20140101,100,US,150,80"
    ∷ codes "row,a,20140101,200,UK,40,20"
    ∷ codes "row,b,20140101,2,US,150,80"
    ∷ codes "row,b,20140101,2,UK,40,20"
    ∷ codes "commit"
    ∷ codes "query,a,0"
    ∷ codes "query,a"
    ∷ codes "query,c,latest"
    ∷ codes "query,a,1,pub=100&day>=20140101,country,clicks"
    ∷ []) (
    codes "0.1@0 table a"
    ∷ codes "0.2@1 table b"
    ∷ codes "0.3@2 view c"
    ∷ codes "0.4@4 loaded version=0 rows=4"
    ∷ codes "0.5@6 loaded version=1 rows=4"
    ∷ codes "0.6@7 rows 2 version=0"
    ∷ codes "20131231,100,US,10,32"
    ∷ codes "20140101,100,US,40,20"
    ∷ codes "0.7@9 rows 3 version=1"
    ∷ codes "20131231,100,US,10,32"
    ∷ codes "20140101,100,US,190,100"
    ∷ codes "20140101,200,UK,40,20"
    ∷ codes "0.8@11 rows 3 version=1"
    ∷ codes "1,US,10,32"
    ∷ codes "2,UK,40,20"
    ∷ codes "2,US,190,100"
    ∷ codes "0.9@13 rows 1 version=1"
    ∷ codes "US,190"
    ∷ [])
unfolding on_literals
sales_and_view = record { prints = refl; legal = refl }

-- A view that is made when rows are there.
derived_view : Prints (
    codes "table,t,a int;b int,v sum"
    ∷ codes "row,t,1,1,5"
    ∷ codes "row,t,1,2,7"
    ∷ codes "commit"
    ∷ codes "view,w,t,a,v"
    ∷ codes "row,t,1,3,1"
    ∷ codes "commit"
    ∷ codes "query,w,0"
    ∷ codes "query,w"
    ∷ []) (
    codes "0.1@0 table t"
    ∷ codes "0.2@2 loaded version=0 rows=2"
    ∷ codes "0.3@3 view w"
    ∷ codes "0.4@5 loaded version=1 rows=1"
    ∷ codes "0.5@6 rows 1 version=0"
    ∷ codes "1,12"
    ∷ codes "0.6@8 rows 1 version=1"
    ∷ codes "1,13"
    ∷ [])
unfolding on_literals
derived_view = record { prints = refl; legal = refl }

-- A filter whose literals have escapes, and a row that csv quotes.
escaped_filter : Prints (
    codes "table,t,name text,v sum"
    ∷ codes "row,t,\"x,y\",5"
    ∷ codes "row,t,a&b,6"
    ∷ codes "commit"
    ∷ codes "query,t,,name=a%26b|x%2cy"
    ∷ []) (
    codes "0.1@0 table t"
    ∷ codes "0.2@2 loaded version=0 rows=2"
    ∷ codes "0.3@3 rows 2 version=0"
    ∷ codes "a&b,6"
    ∷ codes "\"x,y\",5"
    ∷ [])
unfolding on_literals
escaped_filter = record { prints = refl; legal = refl }

-- Versions below the oldest and above the newest.
stale_and_future : Prints (
    codes "table,t,k int,v sum"
    ∷ codes "query,t"
    ∷ codes "commit"
    ∷ codes "commit"
    ∷ codes "commit"
    ∷ codes "expire,1"
    ∷ codes "query,t,0"
    ∷ codes "query,t,3"
    ∷ codes "expire,0"
    ∷ []) (
    codes "0.1@0 table t"
    ∷ codes "0.2@1 refused future asked=latest newest=none"
    ∷ codes "0.3@3 loaded version=0 rows=0"
    ∷ codes "0.4@5 loaded version=1 rows=0"
    ∷ codes "0.5@7 loaded version=2 rows=0"
    ∷ codes "0.6@8 expired oldest=1"
    ∷ codes "0.7@9 refused stale asked=0 oldest=1"
    ∷ codes "0.8@10 refused future asked=3 newest=2"
    ∷ codes "0.9@11 refused stale asked=0 oldest=1"
    ∷ [])
unfolding on_literals
stale_and_future = record { prints = refl; legal = refl }

-- One table lets versions go, and another keeps its own; a pin asks for a version that all have.
expiry_per_table : Prints (
    codes "table,t,k int,v sum"
    ∷ codes "table,u,k int,v sum"
    ∷ codes "row,t,1,10"
    ∷ codes "row,u,1,100"
    ∷ codes "commit"
    ∷ codes "row,t,1,20"
    ∷ codes "commit"
    ∷ codes "expire,t,1"
    ∷ codes "query,t,0"
    ∷ codes "pin,0"
    ∷ codes "expire,t,0"
    ∷ codes "expire,w,1"
    ∷ codes "query,u,0"
    ∷ codes "query,t"
    ∷ codes "expire,0"
    ∷ codes "query,u,0"
    ∷ codes "expire,1"
    ∷ codes "query,u,0"
    ∷ []) (
    codes "0.1@0 table t"
    ∷ codes "0.2@1 table u"
    ∷ codes "0.3@3 loaded version=0 rows=2"
    ∷ codes "0.4@5 loaded version=1 rows=1"
    ∷ codes "0.5@6 expired t oldest=1"
    ∷ codes "0.6@7 refused stale asked=0 oldest=1"
    ∷ codes "0.7@8 refused stale asked=0 oldest=1"
    ∷ codes "0.8@9 refused stale asked=0 oldest=1"
    ∷ codes "0.9@10 refused no_table"
    ∷ codes "0.10@11 rows 1 version=0"
    ∷ codes "1,100"
    ∷ codes "0.11@13 rows 1 version=1"
    ∷ codes "1,30"
    ∷ codes "0.12@15 expired oldest=0"
    ∷ codes "0.13@16 rows 1 version=0"
    ∷ codes "1,100"
    ∷ codes "0.14@18 expired oldest=1"
    ∷ codes "0.15@19 refused stale asked=0 oldest=1"
    ∷ [])
unfolding on_literals
expiry_per_table = record { prints = refl; legal = refl }

-- Pages of an answer, and a page at a pin.
pages_and_pin : Prints (
    codes "table,t,k int,v sum"
    ∷ codes "row,t,1,10"
    ∷ codes "row,t,2,20"
    ∷ codes "row,t,3,30"
    ∷ codes "commit"
    ∷ codes "query,t,0,,,,2"
    ∷ codes "query,t,0,,,,2,t/0/0/k/8000000000000002"
    ∷ codes "pin,0"
    ∷ codes "commit"
    ∷ codes "query,t,pin:1,,,,1"
    ∷ []) (
    codes "0.1@0 table t"
    ∷ codes "0.2@2 loaded version=0 rows=3"
    ∷ codes "0.3@3 rows 2 version=0 more"
    ∷ codes "1,10"
    ∷ codes "2,20"
    ∷ codes "resume t/0/0/k/8000000000000002"
    ∷ codes "0.4@5 rows 1 version=0"
    ∷ codes "3,30"
    ∷ codes "0.5@7 pinned token=1 version=0"
    ∷ codes "0.6@9 loaded version=1 rows=0"
    ∷ codes "0.7@10 rows 1 version=0 more"
    ∷ codes "1,10"
    ∷ codes "resume t/0/0/k/8000000000000001"
    ∷ [])
unfolding on_literals
pages_and_pin = record { prints = refl; legal = refl }

-- Pages that another session asks for, after a compaction.
pages_across_compaction : Prints (
    codes "table,t,k int,v sum"
    ∷ codes "row,t,1,10"
    ∷ codes "row,t,2,20"
    ∷ codes "row,t,3,30"
    ∷ codes "row,t,4,40"
    ∷ codes "row,t,5,50"
    ∷ codes "commit"
    ∷ codes "commit"
    ∷ codes "query,t,1,,,,2"
    ∷ codes "expire,1"
    ∷ codes "work,t"
    ∷ codes "session"
    ∷ codes "query,t,1,,,,2,t/1/0/k/8000000000000002"
    ∷ codes "query,t,1,,,,2,t/1/0/k/8000000000000004"
    ∷ codes "query,t,1,,-,,2,t/1/0/k/8000000000000004"
    ∷ []) (
    codes "0.1@0 table t"
    ∷ codes "0.2@2 loaded version=0 rows=5"
    ∷ codes "0.3@4 loaded version=1 rows=0"
    ∷ codes "0.4@5 rows 2 version=1 more"
    ∷ codes "1,10"
    ∷ codes "2,20"
    ∷ codes "resume t/1/0/k/8000000000000002"
    ∷ codes "0.5@7 expired oldest=1"
    ∷ codes "0.6@10 swapped 0 1"
    ∷ codes "1.1@11 rows 2 version=1 more"
    ∷ codes "3,30"
    ∷ codes "4,40"
    ∷ codes "resume t/1/0/k/8000000000000004"
    ∷ codes "1.2@13 rows 1 version=1"
    ∷ codes "5,50"
    ∷ codes "1.3@15 refused bad_resume"
    ∷ [])
unfolding on_literals
pages_across_compaction = record { prints = refl; legal = refl }
