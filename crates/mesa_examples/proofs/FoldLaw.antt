-- The fold law at a script whose batches lie in three epochs, with three kinds of change, an expiry and a later table; and at one whose table is recast between two changes.
use Rattle.std.proofs.Common.{◌≡◌, ℕ, List, [], ◌∷◌, refl}
use Rattle.std.specs.Prelude.{codes, map, length, Result, Ok, Err, Option, Some, None, slice_get}
use Rattle.mesa_history_spec.specs.mesa_columns.declared.rows.Row.{Row}
use Rattle.mesa_history_spec.specs.mesa_model.declared.commands.Script.{Script}
use Rattle.mesa_history_spec.specs.mesa_model.declared.entries.Entry.{Entry}
use Rattle.mesa_history_spec.specs.mesa_model.Warehouse.{Table, Warehouse, content_at}
use Rattle.mesa_history_spec.specs.Run.{begins, nothing_there}
use Rattle.mesa_history_spec.specs.Replay.{runs}
use Rattle.mesa_history_spec.specs.Alone.{history_alone}
use Rattle.mesa_history_spec.specs.Law.{law_content}
use Rattle.mesa_history_spec.specs.mesa_script.declared.script.ScriptError.{ScriptError}
use Rattle.mesa_history_spec.specs.mesa_script.Script.{script_of}
use Rattle.mesa_examples.specs.Rows.{lines}
use Rattle.mesa_examples.proofs.OnLiterals.{on_literals}

abbrev contents_of : List ℕ → Option Table → List (List Row)
contents_of versions None = []
contents_of versions (Some t) = map (content_at t) versions

abbrev law_of : List ℕ → ℕ → Script → List Entry → Option Table → List (List Row)
law_of versions number script h None = []
law_of versions number script h (Some t) = map (law_content script (nothing_there script) h number t) versions

-- what stands after a script that runs alone
abbrev after_alone : Script → List Entry → Warehouse
after_alone script h = (runs script (begins (nothing_there script)) h).state.warehouse

abbrev contents_after : List ℕ → ℕ → Result Script ScriptError → List (List Row)
contents_after versions number (Err e) = []
contents_after versions number (Ok script) =
    let w = after_alone script (history_alone (nothing_there script) script) in contents_of versions (slice_get w.store.tables number)

abbrev law_after : List ℕ → ℕ → Result Script ScriptError → List (List Row)
law_after versions number (Err e) = []
law_after versions number (Ok script) =
    let h = history_alone (nothing_there script) script in
    law_of versions number script h (slice_get (after_alone script h).store.tables number)

abbrev later : List ℕ
later = 2 ∷ 3 ∷ 4 ∷ []

abbrev script : List ℕ
script = lines (
    codes "table,t,k int,v sum"
    ∷ codes "row,t,1,5"
    ∷ codes "commit"
    ∷ codes "row,t,1,6"
    ∷ codes "row,t,2,9"
    ∷ codes "commit"
    ∷ codes "alter,t,add_key,c text,US"
    ∷ codes "row,t,1,UK,-4"
    ∷ codes "commit"
    ∷ codes "table,u,k int,v max"
    ∷ codes "alter,t,add_value,m min,7"
    ∷ codes "alter,t,add_value,s sum,0"
    ∷ codes "row,t,1,US,0,9,2"
    ∷ codes "row,u,3,4"
    ∷ codes "commit"
    ∷ codes "row,t,1,US,0,3,0"
    ∷ codes "commit"
    ∷ codes "alter,t,drop_value,v"
    ∷ codes "expire,2"
    ∷ [])

holds : contents_after later 0 (script_of script) ≡ law_after later 0 (script_of script)
unfolding on_literals
holds = refl

holds_of_later_table : contents_after later 1 (script_of script) ≡ law_after later 1 (script_of script)
unfolding on_literals
holds_of_later_table = refl

-- the contents are there: a row count for each version
there : map (λ (rows : List Row). length rows) (contents_after later 0 (script_of script)) ≡ 3 ∷ 3 ∷ 3 ∷ []
unfolding on_literals
there = refl

abbrev recast_script : List ℕ
recast_script = lines (
    codes "table,t,a int;b int,v sum;w max"
    ∷ codes "row,t,1,2,5,1"
    ∷ codes "row,t,2,1,7,2"
    ∷ codes "row,t,3,1,1,3"
    ∷ codes "commit"
    ∷ codes "alter,t,add_value,m min,9"
    ∷ codes "row,t,1,2,4,8,3"
    ∷ codes "commit"
    ∷ codes "recast,t,b,m;v"
    ∷ codes "row,t,1,2,6"
    ∷ codes "commit"
    ∷ codes "alter,t,add_key,c text,US"
    ∷ codes "row,t,1,UK,0,8"
    ∷ codes "commit"
    ∷ [])

abbrev each_version : List ℕ
each_version = 0 ∷ 1 ∷ 2 ∷ 3 ∷ []

holds_of_recast_table : contents_after each_version 0 (script_of recast_script) ≡ law_after each_version 0 (script_of recast_script)
unfolding on_literals
holds_of_recast_table = refl

-- its rows are grouped at each version
recast_there : map (λ (rows : List Row). length rows) (contents_after each_version 0 (script_of recast_script)) ≡ 2 ∷ 2 ∷ 2 ∷ 3 ∷ []
unfolding on_literals
recast_there = refl
