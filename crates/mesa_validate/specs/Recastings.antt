-- Which recasts the rules allow.
use Rattle.std.specs.Prelude.{Result}
use Rattle.std.specs.Option.{ok_or}
use Rattle.mesa_list.specs.Checks.{◌>>=◌, refused_as}
use Rattle.mesa_schema.specs.Recasts.{recast_checked}
use Rattle.mesa_model.specs.declared.commands.RecastWords.{RecastWords}
use Rattle.mesa_model.specs.declared.replies.Refusal.{Refusal}
use Rattle.mesa_model.specs.Refusals.{no_such_table, recast_refusal}
use Rattle.mesa_model.specs.Tables.{recast_asked}
use Rattle.mesa_catalog.specs.mesa_store_spec.Catalog.{Catalog, meta_at}
use Rattle.mesa_validate.specs.Seen.{number_of}

-- what the rules say of a recast, by its table's name and columns alone
abbrev pub recast_due : Catalog → RecastWords → Result (Unit {0}) Refusal
recast_due c words = do
  table ← ok_or (number_of c words.table) no_such_table
  refused_as recast_refusal (recast_checked (meta_at c table).lineage (recast_asked words))
