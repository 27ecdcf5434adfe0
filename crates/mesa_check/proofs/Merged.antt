-- The key at which a cumulative differs.
use Rattle.std.proofs.Common.{◌≡◌, ℕ, List, [], map, sym, ◌∙◌, subst, true, false}
use Rattle.std.specs.Prelude.{flat_map, Option, None}
use Rattle.std.specs.List.{AllByRecursion}
use Rattle.mesa_disk.specs.Image.{Image}
use Rattle.mesa_batch.specs.Bound.{KeepsBound}
use Rattle.mesa_schema.specs.Changes.{Lineage, columns_of}
use Rattle.mesa_pick_files.specs.mesa_columns.Columns.{aggs_of}
use Rattle.mesa_schema.specs.mesa_fold.Folded.{folded, rows_of}
use Rattle.mesa_pick_files.specs.mesa_columns.declared.rows.Row.{Row}
use Rattle.mesa_store_spec.specs.Catalog.{Delta, TableMeta}
use Rattle.mesa_store_spec.specs.Contents.{present}
use Rattle.mesa_compare.specs.mesa_open_files.declared.opening.Wanted.{Wanted}
use Rattle.mesa_pick_files.specs.Files.{table_wanted, want_of}
use Rattle.mesa_pick_files.specs.Lent.{with_rows}
use Rattle.mesa_compare.specs.Difference.{first_difference}
use Rattle.mesa_compare.specs.Compared.{HaveFiles, IsLiftedTo, present_parts}
use Rattle.mesa_check.specs.Found.{Found, rows_found}
use Rattle.mesa_check.specs.Faults.{is_asked, merged_key, merged_singles}
use Rattle.mesa_check.specs.Shown.{key_list}
use Rattle.mesa_check.proofs.Rows.{all_lifted, key_shown, no_key, same_fold, same_wanted, singles_rows, singles_there}
use Rattle.mesa_check.proofs.Standing.{MayReplace}

pub not_asked : (found : Found) (u : TableMeta) (to : ℕ) (d : Delta) → false ≡ is_asked found u to → key_list None ≡ merged_key found u to d
not_asked found u to d out = no_key (is_asked found u to) (first_difference (folded (aggs_of (columns_of u.lineage)) (map (present (rows_found found) u.lineage) (merged_singles u to))) (present (rows_found found) u.lineage d)) (sym out)

module _ (i : Image) (found : Found) (u : TableMeta) (to : ℕ) (d : Delta) (asked : true ≡ is_asked found u to) (ps : List Delta) (may : MayReplace i found u to ps)
    (ws : List Wanted) (ds : List Delta) (are : map want_of ws ≡ flat_map (table_wanted u.lineage) ds) (same : with_rows ds ≡ with_rows ps) where
  abbrev l : Lineage
  l = u.lineage

  wanted : map want_of ws ≡ flat_map (table_wanted u.lineage) ps
  wanted = are ∙ same_wanted l ds ps same

  abbrev contents : List (List Row)
  contents = map (λ (w : Wanted). rows_found found w.file.now.id) ws

  rows : rows_of (present_parts ws (map (λ (w : Wanted). rows_found found w.file.now.id) ws)) ≡ rows_of (map (present (rows_found found) u.lineage) ps)
  rows = singles_rows ws l ps wanted i found

  pub asked_key : (o : Option (List ℕ)) (now : List Row) → now ≡ present (rows_found found) u.lineage d
      → ((cs : List (List Row)) → AllByRecursion (IsLiftedTo (columns_of u.lineage)) ws → HaveFiles i ws cs → KeepsBound (aggs_of (columns_of u.lineage)) [] (rows_of (present_parts ws cs)) → o ≡ first_difference (folded (aggs_of (columns_of u.lineage)) (present_parts ws cs)) now)
      → key_list o ≡ merged_key found u to d
  asked_key o now is difference =
      let s = columns_of l in
      let bound : KeepsBound (aggs_of s) [] (rows_of (present_parts ws contents)) = subst (KeepsBound (aggs_of s) []) (sym rows) may.bound in
      let differs = difference contents (all_lifted ws l ps wanted) (singles_there ws l ps wanted i found may.there) bound in
      let fold = same_fold (aggs_of s) (present_parts ws contents) (map (present (rows_found found) l) ps) rows ∙ may.fold in
      key_shown (is_asked found u to) o (first_difference (folded (aggs_of s) (map (present (rows_found found) l) (merged_singles u to))) (present (rows_found found) l d)) (sym asked)
      (differs ∙ (λ k. first_difference (fold k) (is k)))
