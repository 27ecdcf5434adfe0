-- Versions that outlive an expiry.
use Rattle.std.specs.Prelude.{ℕ, List, Bool, true, ◌==◌, not, nat_le, Option, Some, None}
use Rattle.mesa_history_spec.specs.mesa_filter.declared.words.VersionWord.{VersionWord}
use Rattle.mesa_history_spec.specs.mesa_filter.declared.words.VersionWord.TheVariants as asks
use Rattle.mesa_history_spec.specs.mesa_model.Warehouse.{Store}
use Rattle.mesa_history_spec.specs.mesa_model.Relations.{Relation, relation_of, table_number}

-- whether a version is still one to ask for once those below the oldest are let go: the newest and a pin's always are
abbrev pub outlives : ℕ → VersionWord → Bool
outlives oldest asks.Latest = true
outlives oldest (asks.At version) = nat_le oldest version
outlives oldest (asks.Pin token) = true

-- whether two numbers of tables differ, where both are there
abbrev pub differ : Option ℕ → Option Relation → Bool
differ None o = true
differ (Some number) None = true
differ (Some number) (Some relation) = not (relation.number == number)

-- whether a relation is of another table than the one of this name
abbrev pub is_of_another : Store → List ℕ → List ℕ → Bool
is_of_another s table relation = differ (table_number s table) (relation_of s relation)
