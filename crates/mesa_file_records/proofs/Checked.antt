-- The checks of a batch by its parts are those of its rows by the tables.
use Rattle.std.proofs.Common.{◌≡◌, ℕ, suc, ◌+◌, ◌*◌, ◌<◌, ◌≤◌, List, [], ◌∷◌, ◌++◌, length, map, refl, sym, ◌∙◌, ap, subst, arith, Option, Some, None, Ok, Err, Result}
use Rattle.std.specs.Prelude.{Bool, true, false, ◌||◌}
use Rattle.std.specs.List.{AllByRecursion, list_any}
use Rattle.std.proofs.lemmas.List.{length-append, length-map}
use Rattle.mesa_list.specs.Checks.{◌>>◌}
use Rattle.mesa_columns.specs.declared.rows.Row.{Row}
use Rattle.mesa_columns.specs.Columns.{aggs_of}
use Rattle.mesa_pick_files.specs.mesa_schema.Changes.{columns_of}
use Rattle.mesa_open_files.specs.mesa_fold.Folded.{folded}
use Rattle.mesa_pick_files.specs.mesa_schema.Views.{max_views, view_rows}
use Rattle.mesa_batch.specs.Batch.{Placed, rows_for}
use Rattle.mesa_batch.specs.Totals.{abs_totals, over_bound, sum_bound, sum_name, sum_places, sums_in}
use Rattle.mesa_model.specs.Load.{bound_checked, bounds_checked}
use Rattle.mesa_model.specs.declared.replies.Refusal.{Refusal}
use Rattle.mesa_model.specs.declared.replies.Refusal.TheVariants.{SumBound}
use Rattle.mesa_engine.specs.mesa_store_spec.Catalog.{Catalog, TableMeta, meta_at}
use Rattle.mesa_engine.specs.mesa_store_spec.Shape.{IsShaped}
use Rattle.mesa_catalog.specs.Lookups.{known_as}
use Rattle.mesa_engine.specs.EngineState.{projection_of}
use Rattle.mesa_open_files.specs.Batches.{AreParts, HasFiles, Share, is_over, share_of, shares_from}
use Rattle.mesa_open_files.specs.declared.made.MadeFiles.{MadeFiles}
use Rattle.mesa_open_files.specs.declared.prepared.PreparedPart.{PreparedPart}
use Rattle.mesa_file_records.specs.Adopted.{ArePartsOf, files_if_any, files_of_part, files_of_parts}
use Rattle.mesa_file_records.specs.Bounds.{parts_checked, refused_at, totals_checked}
use Rattle.mesa_file_records.proofs.Totals.{both_ok, none_alone, nothing_over, over_cut}
use Rattle.mesa_file_records.proofs.Loads.{AreTables, checked_none, share_many}

-- a table's check by its rows is the one by their totals
bound_same : (t : TableMeta) (load : List Row) → bound_checked (projection_of t) load ≡ totals_checked t (abs_totals (columns_of t.lineage) load)
bound_same t load = by (over_bound t.totals (abs_totals (columns_of t.lineage) load))
  where
    by : (o : Option ℕ) → elim o as (λ x. Result (Unit {0}) Refusal) [ None ↦ Ok tt | Some place ↦ Err (SumBound t.name (sum_name (columns_of t.lineage) place)) ] ≡ refused_at t o
    by None = refl
    by (Some place) = refl

-- no rows are never refused
none_refused : (t : TableMeta) → AllByRecursion (λ total. total < sum_bound) t.totals → bound_checked (projection_of t) [] ≡ Ok tt
none_refused t all = bound_same t [] ∙ ap (refused_at t) (nothing_over t.totals (sum_places 0 (aggs_of (columns_of t.lineage))) all)

module _ {M : Type 0} (bytes : M → Option (List ℕ)) (id_of : M → ℕ) (over : Bool) (c : Catalog) (batch : List Placed) where
  -- what a step of the tables' checks needs
  step_same : (n : ℕ) (t : TableMeta) (ts : List TableMeta) (load : List Row) → rows_for n batch ≡ load → (shares : List Share) (parts : List (PreparedPart M)) → meta_at c n ≡ t → AllByRecursion (λ total. total < sum_bound) t.totals
      → AreParts bytes id_of over (share_of n t.lineage load ++ shares) parts
      → ((more : List (PreparedPart M)) → AreParts bytes id_of over shares more → bounds_checked batch (n + 1) (map projection_of ts) ≡ parts_checked c more)
      → (bound_checked (projection_of t) load >> bounds_checked batch (n + 1) (map projection_of ts)) ≡ parts_checked c parts
  step_same n t ts [] is shares parts at small are rest = ap (λ (r : Result (Unit {0}) Refusal). r >> bounds_checked batch (n + 1) (map projection_of ts)) (none_refused t small) ∙ rest parts are
  step_same n t ts (row ∷ load) is shares [] at small are rest = absurd are
  step_same n t ts (row ∷ load) is shares (part ∷ parts) at small are rest =
      let own : bound_checked (projection_of t) (row ∷ load) ≡ totals_checked (meta_at c part.table) part.totals =
      bound_same t (row ∷ load) ∙ ap (refused_at t) (sym (over_cut t.totals (abs_totals (columns_of t.lineage) (row ∷ load)))) ∙ ap (totals_checked t) (sym are.0.totals) ∙ ap (λ (u : TableMeta). totals_checked u part.totals) (sym (ap (meta_at c) are.0.table ∙ at)) in
      λ i. own i >> rest parts are.1 i

  -- the batch is refused by its rows as by its parts
  pub checked_same : (floor next n : ℕ) (ts : List TableMeta) (parts : List (PreparedPart M)) → AllByRecursion (IsShaped floor next) ts → AreTables c n ts → AreParts bytes id_of over (shares_from batch n (map known_as ts)) parts
      → bounds_checked batch n (map projection_of ts) ≡ parts_checked c parts
  checked_same floor next n [] [] shaped tables are = refl
  checked_same floor next n [] (part ∷ parts) shaped tables are = absurd are
  checked_same floor next n (t ∷ ts) parts shaped tables are =
      step_same n t ts (rows_for n batch) refl (shares_from batch (n + 1) (map known_as ts)) parts tables.0 shaped.0.bounded are (λ more are. checked_same floor next (n + 1) ts more shaped.1 tables.2 are)

  -- ---- what holds of the parts alone

  -- a batch whose parts keep the bound has no total that passes it by itself
  part_alone : (n : ℕ) (t : TableMeta) (load : List Row) (shares : List Share) (parts : List (PreparedPart M)) → meta_at c n ≡ t → length t.totals ≡ sums_in (aggs_of (columns_of t.lineage))
      → AreParts bytes id_of over (share_of n t.lineage load ++ shares) parts → parts_checked c parts ≡ Ok tt
      → ((more : List (PreparedPart M)) → AreParts bytes id_of over shares more → parts_checked c more ≡ Ok tt → list_any is_over shares ≡ false)
      → list_any is_over (share_of n t.lineage load ++ shares) ≡ false
  part_alone n t [] shares parts at count are checked rest = rest parts are checked
  part_alone n t (row ∷ load) shares [] at count are checked rest = absurd are
  part_alone n t (row ∷ load) shares (part ∷ parts) at count are checked rest =
      let both = both_ok (totals_checked (meta_at c part.table) part.totals) (parts_checked c parts) checked in
      let none : over_bound t.totals part.totals ≡ None = subst (λ (u : TableMeta). over_bound u.totals part.totals ≡ None) (ap (meta_at c) are.0.table ∙ at) (checked_none (meta_at c part.table) part.totals both.0) in
      let many : length t.totals ≡ length (abs_totals (columns_of t.lineage) (row ∷ load)) = count ∙ sym (length-map (sum_places 0 (aggs_of (columns_of t.lineage))) _) in
      ap (λ b. b || list_any is_over shares) (none_alone t.totals (abs_totals (columns_of t.lineage) (row ∷ load)) many (ap (over_bound t.totals) (sym are.0.totals) ∙ none)) ∙ rest parts are.1 both.1

  pub none_over : (floor next n : ℕ) (ts : List TableMeta) (parts : List (PreparedPart M)) → AllByRecursion (IsShaped floor next) ts → AreTables c n ts → AreParts bytes id_of over (shares_from batch n (map known_as ts)) parts
      → parts_checked c parts ≡ Ok tt → list_any is_over (shares_from batch n (map known_as ts)) ≡ false
  none_over floor next n [] parts shaped tables are checked = refl
  none_over floor next n (t ∷ ts) parts shaped tables are checked =
      part_alone n t (rows_for n batch) (shares_from batch (n + 1) (map known_as ts)) parts tables.0 shaped.0.totals are checked (λ more are checked. none_over floor next (n + 1) ts more shaped.1 tables.2 are checked)

  -- each part is of a table that is there, with a total for each of its sum columns
  part_there : (n : ℕ) (t : TableMeta) (load : List Row) (shares : List Share) (parts : List (PreparedPart M)) → meta_at c n ≡ t → n < length c.tables → AreParts bytes id_of over (share_of n t.lineage load ++ shares) parts
      → ((more : List (PreparedPart M)) → AreParts bytes id_of over shares more → ArePartsOf c more) → ArePartsOf c parts
  part_there n t [] shares parts at there are rest = rest parts are
  part_there n t (row ∷ load) shares [] at there are rest = absurd are
  part_there n t (row ∷ load) shares (part ∷ parts) at there are rest = (
    record {
      there = subst (λ m. m < length c.tables) (sym are.0.table) there;
      count = ap length are.0.totals ∙ length-map (abs_totals (columns_of t.lineage) (row ∷ load)) _ ∙ length-map (sum_places 0 (aggs_of (columns_of t.lineage))) _
          ∙ ap (λ (u : TableMeta). sums_in (aggs_of (columns_of u.lineage))) (sym (ap (meta_at c) are.0.table ∙ at));
    },
    rest parts are.1,
  )

  pub parts_there : (n : ℕ) (ts : List TableMeta) (parts : List (PreparedPart M)) → AreTables c n ts → AreParts bytes id_of over (shares_from batch n (map known_as ts)) parts → ArePartsOf c parts
  parts_there n [] [] tables are = tt
  parts_there n [] (part ∷ parts) tables are = absurd are
  parts_there n (t ∷ ts) parts tables are = part_there n t (rows_for n batch) (shares_from batch (n + 1) (map known_as ts)) parts tables.0 tables.1 are (λ more are. parts_there (n + 1) ts more tables.2 are)

  -- ---- how many files

  few_files : (b : Bool) (share : Share) (files : Option (MadeFiles M)) → length share.lineage.views ≤ max_views → HasFiles bytes id_of b share files → length (files_if_any files) ≤ 1 + max_views
  few_files true share None few has = omega arith
  few_files true share (Some made) few has = absurd has
  few_files false share None few has = absurd has
  few_files false share (Some made) few has =
      let many = share_many bytes id_of share made has in
      let views = length-map share.lineage.views (λ v. view_rows (columns_of share.lineage) v share.rows) in
      omega (arith, many, views, few)

  part_few : (n k : ℕ) (t : TableMeta) (load : List Row) (shares : List Share) (parts : List (PreparedPart M)) → length t.lineage.views ≤ max_views → AreParts bytes id_of over (share_of n t.lineage load ++ shares) parts
      → ((more : List (PreparedPart M)) → AreParts bytes id_of over shares more → length (files_of_parts more) ≤ k * (1 + max_views)) → length (files_of_parts parts) ≤ (k + 1) * (1 + max_views)
  part_few n k t [] shares parts few are rest = let le = rest parts are in omega (arith, le)
  part_few n k t (row ∷ load) shares [] few are rest = absurd are
  part_few n k t (row ∷ load) shares (part ∷ parts) few are rest =
      let le = rest parts are.1 in
      let own = few_files over (record { table = n; lineage = t.lineage; rows = folded (aggs_of (columns_of t.lineage)) ((row ∷ load) ∷ []); totals = abs_totals (columns_of t.lineage) (row ∷ load) }) part.files few are.0.files in
      let sum = length-append (files_of_part part) (files_of_parts parts) in
      omega (arith, le, own, sum)

  pub files_few : (floor next n : ℕ) (ts : List TableMeta) (parts : List (PreparedPart M)) → AllByRecursion (IsShaped floor next) ts → AreParts bytes id_of over (shares_from batch n (map known_as ts)) parts → length (files_of_parts parts) ≤ length ts * (1 + max_views)
  files_few floor next n [] [] shaped are = omega arith
  files_few floor next n [] (part ∷ parts) shaped are = absurd are
  files_few floor next n (t ∷ ts) parts shaped are =
      subst (λ k. length (files_of_parts parts) ≤ k * (1 + max_views)) (one_more (length ts)) (part_few n (length ts) t (rows_for n batch) (shares_from batch (n + 1) (map known_as ts)) parts shaped.0.lineage.few_views are (λ more are. files_few floor next (n + 1) ts more shaped.1 are))
    where
      one_more : (k : ℕ) → k + 1 ≡ suc k
      one_more k = omega arith
