-- Whatever rows a store's files have, a run starts from one projection; and the record of a run changes nothing of its start.
use Rattle.std.proofs.Common.{◌≡◌, ℕ, List, [], ◌∷◌, map, refl}
use Rattle.mesa_model.specs.declared.commands.Script.{Script}
use Rattle.mesa_session.specs.mesa_history_spec.Bare.{bare, bare_table, bare_state}
use Rattle.mesa_session.specs.mesa_history_spec.Rows.{Rows}
use Rattle.mesa_engine.specs.mesa_store_spec.Catalog.{TableMeta, Catalog, applied}
use Rattle.mesa_engine.specs.mesa_store_spec.Contents.{kept_of, table_of}
use Rattle.mesa_recover.specs.Opening.{run_record}
use Rattle.mesa_shell.specs.StoreStart.{start_of}

tables_alike : (rows others : Rows) (next : ℕ) (ts : List TableMeta) → map bare_table (map (table_of rows next) ts) ≡ map bare_table (map (table_of others next) ts)
tables_alike rows others next [] = refl
tables_alike rows others next (t ∷ ts) = λ i. bare_table (table_of rows next t) ∷ tables_alike rows others next ts i

pub start_alike : (script : Script) (c : Catalog) (rows others : Rows) → bare_state (start_of script c rows) ≡ bare_state (start_of script c others)
unfolding kept_of
start_alike script c rows others = λ i. record (bare_state (start_of script c rows)) { warehouse = record (bare (start_of script c rows).warehouse) { store = record { tables = tables_alike rows others c.next c.tables i; floor = c.floor } } }

-- the record of a run moves no start
pub start_begun : (script : Script) (c : Catalog) (number : ℕ) (rows : Rows) → start_of script (applied c (run_record number)) rows ≡ start_of script c rows
unfolding kept_of
start_begun script c number rows = refl

-- nor what the store keeps
pub kept_begun : (rows : Rows) (c : Catalog) (number : ℕ) → kept_of rows (applied c (run_record number)) ≡ kept_of rows c
unfolding kept_of
kept_begun rows c number = refl
