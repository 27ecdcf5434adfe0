-- Tables that take other columns, and further orders of tables.
use Rattle.std.proofs.Common.{ℕ, ◌≡◌, List, [], ◌∷◌, true, false, refl}
use Rattle.std.specs.Prelude.{codes}
use Rattle.mesa_history_spec.specs.mesa_model.declared.entries.Entry.{Entry}
use Rattle.mesa_history_spec.specs.mesa_model.declared.entries.Kind.TheVariants.{Look, Decide, Close, Grant, Renew}
use Rattle.mesa_examples.specs.Rows.{Prints, PrintsIn, is_legal_run, stands}
use Rattle.mesa_examples.proofs.OnLiterals.{on_literals}

-- Rows are grouped by the key column that is kept, and later batches are told by it.
recast_regroups : Prints (
    codes "table,t,a int;b int,v sum"
    ∷ codes "row,t,1,2,5"
    ∷ codes "row,t,2,1,7"
    ∷ codes "row,t,3,1,1"
    ∷ codes "commit"
    ∷ codes "recast,t,b,v"
    ∷ codes "query,t"
    ∷ codes "row,t,1,4"
    ∷ codes "commit"
    ∷ codes "query,t"
    ∷ []) (
    codes "0.1@0 table t"
    ∷ codes "0.2@2 loaded version=0 rows=3"
    ∷ codes "0.3@5 recast t epoch=1"
    ∷ codes "0.4@6 rows 2 version=0"
    ∷ codes "1,8"
    ∷ codes "2,5"
    ∷ codes "0.5@9 loaded version=1 rows=1"
    ∷ codes "0.6@10 rows 2 version=1"
    ∷ codes "1,12"
    ∷ codes "2,5"
    ∷ [])
unfolding on_literals
recast_regroups = record { prints = refl; legal = refl }

-- A change before a recast and one behind it, and a pin from before both.
recast_between_changes : Prints (
    codes "table,t,a int;b int,v sum"
    ∷ codes "row,t,1,2,5"
    ∷ codes "row,t,2,1,7"
    ∷ codes "row,t,3,1,1"
    ∷ codes "commit"
    ∷ codes "pin"
    ∷ codes "alter,t,add_value,m max,3"
    ∷ codes "recast,t,b,m;v"
    ∷ codes "alter,t,add_key,c text,US"
    ∷ codes "query,t"
    ∷ codes "query,t,pin:1"
    ∷ []) (
    codes "0.1@0 table t"
    ∷ codes "0.2@2 loaded version=0 rows=3"
    ∷ codes "0.3@3 pinned token=1 version=0"
    ∷ codes "0.4@4 altered t epoch=1"
    ∷ codes "0.5@7 recast t epoch=2"
    ∷ codes "0.6@8 altered t epoch=3"
    ∷ codes "0.7@9 rows 2 version=0"
    ∷ codes "1,US,3,8"
    ∷ codes "2,US,3,5"
    ∷ codes "0.8@11 rows 3 version=0"
    ∷ codes "1,2,5"
    ∷ codes "2,1,7"
    ∷ codes "3,1,1"
    ∷ [])
unfolding on_literals
recast_between_changes = record { prints = refl; legal = refl }

-- Every refusal of a recast's words, in the order in which they are looked at.
recast_refused : Prints (
    codes "table,t,a int;b int,v sum;r replace"
    ∷ codes "view,w,t,a,v"
    ∷ codes "recast,x,a,v"
    ∷ codes "recast,w,a,v"
    ∷ codes "recast,t,c,u"
    ∷ codes "recast,t,,u"
    ∷ codes "recast,t,a;a,u"
    ∷ codes "recast,t,a,u"
    ∷ codes "recast,t,a,"
    ∷ codes "recast,t,a,v;v"
    ∷ codes "recast,t,b,r"
    ∷ codes "recast,t,b,v"
    ∷ codes "recast,t,b;a,r"
    ∷ codes "recast,t,b;a,r;v"
    ∷ []) (
    codes "0.1@0 table t"
    ∷ codes "0.2@1 view w"
    ∷ codes "0.3@2 refused no_table"
    ∷ codes "0.4@3 refused no_table"
    ∷ codes "0.5@4 refused no_column"
    ∷ codes "0.6@5 refused bad_schema reason=no_key"
    ∷ codes "0.7@6 refused bad_schema reason=name_twice"
    ∷ codes "0.8@7 refused no_column"
    ∷ codes "0.9@8 refused bad_schema reason=no_value"
    ∷ codes "0.10@9 refused bad_schema reason=name_twice"
    ∷ codes "0.11@10 refused replace_group column=r"
    ∷ codes "0.12@11 refused in_view view=w"
    ∷ codes "0.13@12 refused in_view view=w"
    ∷ codes "0.14@15 recast t epoch=1"
    ∷ [])
unfolding on_literals
recast_refused = record { prints = refl; legal = refl }

-- ---- under loads

-- A batch that comes while the files are rewritten is grouped by the turn that swaps them in.
abbrev under_load-script : List (List ℕ)
under_load-script =
    codes "table,t,a int;b int,v sum"
    ∷ codes "row,t,1,2,5"
    ∷ codes "row,t,2,1,7"
    ∷ codes "row,t,3,1,1"
    ∷ codes "commit"
    ∷ codes "session"
    ∷ codes "recast,t,b,v"
    ∷ codes "session"
    ∷ codes "row,t,4,2,10"
    ∷ codes "commit"
    ∷ codes "query,t"
    ∷ []

abbrev under_load-history : List Entry
under_load-history =
    stands 0 1 Decide 1
    ∷ stands 0 2 Look 1
    ∷ stands 0 2 Decide 2
    ∷ stands 1 1 Grant 2
    ∷ stands 2 1 Look 2
    ∷ stands 2 1 Decide 3
    ∷ stands 1 1 Renew 3
    ∷ stands 1 1 Close 4
    ∷ stands 2 2 Decide 4
    ∷ stands 2 2 Close 4
    ∷ []

recast_under_load : PrintsIn under_load-script under_load-history (
    codes "0.1@0 table t"
    ∷ codes "0.2@2 loaded version=0 rows=3"
    ∷ codes "2.1@5 loaded version=1 rows=1"
    ∷ codes "1.1@7 recast t epoch=1"
    ∷ codes "2.2@8 rows 2 version=1"
    ∷ codes "1,8"
    ∷ codes "2,15"
    ∷ [])
unfolding on_literals
recast_under_load = refl

recast_under_load-legal : is_legal_run under_load-script under_load-history false ≡ true
unfolding on_literals
recast_under_load-legal = refl

-- A table whose schema changes meanwhile isn't recast, nor is one of which a view came that would lose a column; and a work finds it busy.
abbrev overtaken-script : List (List ℕ)
overtaken-script =
    codes "lease,4"
    ∷ codes "table,t,a int;b int,v sum"
    ∷ codes "session"
    ∷ codes "recast,t,b,v"
    ∷ codes "recast,t,b,v"
    ∷ codes "recast,t,b,v"
    ∷ codes "session"
    ∷ codes "work,t"
    ∷ codes "alter,t,add_value,m max,3"
    ∷ codes "view,w,t,a,v"
    ∷ codes "recast,t,a,v"
    ∷ []

abbrev overtaken-history : List Entry
overtaken-history =
    stands 0 1 Decide 1
    ∷ stands 1 1 Grant 1
    ∷ stands 2 1 Grant 1
    ∷ stands 2 2 Decide 2
    ∷ stands 1 1 Renew 2
    ∷ stands 1 1 Close 2
    ∷ stands 1 2 Grant 2
    ∷ stands 2 3 Decide 3
    ∷ stands 1 2 Renew 3
    ∷ stands 1 2 Close 3
    ∷ stands 2 4 Grant 3
    ∷ stands 1 3 Grant 3
    ∷ stands 2 4 Renew 3
    ∷ stands 2 4 Close 4
    ∷ []

overtaken : PrintsIn overtaken-script overtaken-history (
    codes "0.1@0 table t"
    ∷ codes "2.1@2 busy lease=1"
    ∷ codes "2.2@3 altered t epoch=1"
    ∷ codes "1.1@5 refused changed epoch=1"
    ∷ codes "2.3@7 view w"
    ∷ codes "1.2@9 refused in_view view=w"
    ∷ codes "1.3@11 refused in_view view=w"
    ∷ codes "2.4@13 recast t epoch=2"
    ∷ [])
unfolding on_literals
overtaken = refl

overtaken-legal : is_legal_run overtaken-script overtaken-history false ≡ true
unfolding on_literals
overtaken-legal = refl

-- ---- further orders

-- A view with all key columns answers where the filter fixes more of its leading columns.
order_chosen : Prints (
    codes "table,t,a int;b int,v sum"
    ∷ codes "view,w,t,b;a,v"
    ∷ codes "row,t,1,1,5"
    ∷ codes "row,t,1,2,6"
    ∷ codes "commit"
    ∷ codes "explain,t,,b=2"
    ∷ codes "explain,t,,a=1"
    ∷ codes "query,t,,b=2"
    ∷ []) (
    codes "0.1@0 table t"
    ∷ codes "0.2@1 view w"
    ∷ codes "0.3@3 loaded version=0 rows=2"
    ∷ codes "0.4@4 spans 1"
    ∷ codes "[0,0]"
    ∷ codes "by w"
    ∷ codes "0.5@5 spans 1"
    ∷ codes "[0,0]"
    ∷ codes "by t"
    ∷ codes "0.6@6 rows 1 version=0"
    ∷ codes "1,2,6"
    ∷ [])
unfolding on_literals
order_chosen = record { prints = refl; legal = refl }

-- A filter of a column that isn't there, and one that isn't a filter.
order_bad_filter : Prints (
    codes "table,t,a int;b int,v sum"
    ∷ codes "view,w,t,b;a,v"
    ∷ codes "row,t,1,1,5"
    ∷ codes "row,t,1,2,6"
    ∷ codes "commit"
    ∷ codes "explain,t,,c=1"
    ∷ codes "explain,t,9,a"
    ∷ []) (
    codes "0.1@0 table t"
    ∷ codes "0.2@1 view w"
    ∷ codes "0.3@3 loaded version=0 rows=2"
    ∷ codes "0.4@4 refused no_column"
    ∷ codes "0.5@5 refused bad_filter term=1"
    ∷ [])
unfolding on_literals
order_bad_filter = record { prints = refl; legal = refl }
