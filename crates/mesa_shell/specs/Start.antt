-- What a run over a store finds when it begins.
use Rattle.mesa_session.specs.mesa_history_spec.Rows.{Rows}
use Rattle.mesa_engine.specs.mesa_store_spec.Catalog.{Catalog, meta_at}
use Rattle.mesa_engine.specs.mesa_store_spec.Sourced.{found_written}
use Rattle.mesa_engine.specs.mesa_catalog.Lookups.{generation_of}
use Rattle.mesa_engine.specs.Vault.{Origin}

-- the number of a run by its catalogue, what it finds written of each table, and how often tables, views and columns had changed
abbrev pub origin_of : Catalog → Rows → Origin
origin_of c rows = record { run = c.run; found = λ number. found_written rows (meta_at c number); generation = generation_of c }
