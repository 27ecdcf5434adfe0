-- Columns shared with a catalogue, table by table.
use Rattle.std.proofs.Common.{◌≡◌, ℕ, ◌+◌, ◌<◌, ◌≤◌, List, [], ◌∷◌, ◌++◌, length, map, take, get_or, refl, sym, ◌∙◌, ap, subst}
use Rattle.std.specs.declared.alloc.Global.{Global}
use Rattle.std.specs.declared.sync.Arc.{Arc}
use Rattle.std.proofs.lemmas.List.{length-map, map-append, take_all}
use Rattle.mesa_schema.specs.mesa_columns.Columns.{Columns}
use Rattle.mesa_schema.specs.Changes.{Lineage, columns_of}
use Rattle.mesa_batch.specs.declared.glance.Glanced.{Glanced}
use Rattle.mesa_batch.specs.Glance.{Known}
use Rattle.mesa_batch.specs.Numbers.{known_of}
use Rattle.mesa_batch.specs.Shared.{shared_columns}
use Rattle.mesa_batch.proofs.NameNumbers.{take_next}

abbrev columns_by : Glanced → Columns
columns_by t = columns_of t.evolving.value

-- the columns of one table more
pub shared-more : (tables : List Glanced) (columns more : List (Arc Lineage Global)) (i : ℕ) (table : Glanced) (shared : Arc Lineage Global) → i < length tables → table ≡ get_or tables i table → shared.value ≡ table.evolving.value
    → more ≡ columns ++ shared ∷ [] → shared_columns columns ≡ take i (map columns_by tables) → shared_columns more ≡ take (i + 1) (map columns_by tables)
shared-more tables columns more i table shared h e same grown before =
    ap shared_columns grown
    ∙ map-append (λ (t : Arc Lineage Global). columns_of t.value) columns (shared ∷ [])
    ∙ (λ j. before j ++ columns_of (same j) ∷ [])
    ∙ sym (take_next columns_by tables i table h e)

known_columns : (tables : List Glanced) → map columns_by tables ≡ map (λ (t : Known). columns_of t.lineage) (map known_of tables)
known_columns [] = refl
known_columns (t ∷ tables) = ap (λ l. columns_by t ∷ l) (known_columns tables)

-- the columns of all
pub shared_all : (tables : List Glanced) (columns : List (Arc Lineage Global)) (i : ℕ) → length tables ≤ i → shared_columns columns ≡ take i (map columns_by tables) → shared_columns columns ≡ map (λ (t : Known). columns_of t.lineage) (map known_of tables)
shared_all tables columns i h e = e ∙ take_all i (map columns_by tables) (subst (λ n. n ≤ i) (sym (length-map tables columns_by)) h) ∙ known_columns tables

-- no columns, no tables
pub none_shared : (columns : List (Arc Lineage Global)) → shared_columns columns ≡ [] → columns ≡ []
none_shared [] e = refl
none_shared (t ∷ columns) e = absurd (cc)
