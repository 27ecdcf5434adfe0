-- The bound of the sums.
use Rattle.std.specs.Prelude.{◌≡◌, ℕ, List, [], ◌∷◌, Option, Some, None, Result, Ok, Err, ⊤}
use Rattle.mesa_list.specs.Checks.{◌>>◌}
use Rattle.mesa_pick_files.specs.mesa_schema.Changes.{columns_of}
use Rattle.mesa_batch.specs.Totals.{over_bound, sum_name}
use Rattle.mesa_model.specs.declared.replies.Refusal.{Refusal}
use Rattle.mesa_model.specs.declared.replies.Refusal.TheVariants as no
use Rattle.mesa_engine.specs.mesa_store_spec.Catalog.{Catalog, TableMeta, meta_at}
use Rattle.mesa_open_files.specs.declared.prepared.PreparedPart.{PreparedPart}
use Rattle.mesa_file_records.specs.declared.failure.Unpublished.{Unpublished}
use Rattle.mesa_file_records.specs.declared.failure.Unpublished.TheVariants as un

-- refused for the sum column at this place among the table's, if there is one
abbrev pub refused_at : TableMeta → Option ℕ → Result (Unit {0}) Refusal
refused_at t None = Ok tt
refused_at t (Some place) = Err (no.SumBound t.name (sum_name (columns_of t.lineage) place))

-- refused where a sum column of the table would pass the bound with these totals
abbrev pub totals_checked : TableMeta → List ℕ → Result (Unit {0}) Refusal
totals_checked t totals = refused_at t (over_bound t.totals totals)

-- the same of each part's table with the part's totals
abbrev pub parts_checked : {M : Type 0} → Catalog → List (PreparedPart M) → Result (Unit {0}) Refusal
parts_checked c [] = Ok tt
parts_checked c (p ∷ parts) = totals_checked (meta_at c p.table) p.totals >> parts_checked c parts

-- A check's own refusal, or want of memory.
abbrev pub IsDue : {A : Type 0} → Result A Refusal → Unpublished → Type 0
IsDue checked (un.Refused x) = checked ≡ Err x
IsDue checked un.Memory = ⊤
