-- A change of a schema and a recast keep the fold law: each content is lifted or grouped, and so is all that the law folds.
use Rattle.std.proofs.Common.{◌≡◌, ℕ, ◌-◌, List, [], ◌∷◌, map, filter, cond, true, false, Bool, refl, sym, ◌∙◌, ap, subst, arith, inl, inr, nat_le}
use Rattle.std.specs.List.{AllByRecursion}
use Rattle.std.proofs.lemmas.Bool.{cases_lt}
use Rattle.std.proofs.lemmas.List.{length-map}
use Rattle.std.proofs.lemmas.Simd.{map-map}
use Rattle.mesa_history_spec.specs.mesa_columns.declared.rows.Row.{Row}
use Rattle.mesa_history_spec.specs.mesa_columns.declared.changes.Change.{Change}
use Rattle.mesa_history_spec.specs.mesa_columns.Columns.{Columns, aggs_of}
use Rattle.mesa_history_spec.specs.mesa_columns.Changes.{changed, lifted_once}
use Rattle.mesa_history_spec.specs.mesa_schema.Changes.{Lineage, columns_of, with_change}
use Rattle.mesa_history_spec.specs.mesa_fold.Folded.{folded, rows_of}
use Rattle.mesa_history_spec.specs.mesa_schema.Lineages.{HasDefault}
use Rattle.mesa_history_spec.specs.mesa_schema.Recasts.{IsRecastOf, Recast, recast_columns, recast_lineage, recast_rows}
use Rattle.mesa_history_spec.specs.mesa_columns.Rows.{AreRowsOf, IsRowOf}
use Rattle.mesa_history_spec.proofs.mesa_schema.Forms.{lifts_folded}
use Rattle.mesa_history_spec.proofs.mesa_columns.Lists.{all_append, all_filter, all_map, all_so, map_at, same_maps}
use Rattle.mesa_history_spec.proofs.mesa_schema.PresentRows.{columns_more, epoch_more, forms_more}
use Rattle.mesa_history_spec.proofs.mesa_schema.Recasting.{recast_folds, recast_form}
use Rattle.mesa_history_spec.specs.mesa_model.Warehouse.{Table, Warehouse}
use Rattle.mesa_history_spec.specs.mesa_model.Tables.{table_changed, table_recast}
use Rattle.mesa_history_spec.specs.Law.{carried_content}
use Rattle.mesa_history_spec.specs.Sources.{Source, Written, rows_now, source_recast, source_written, sources_to, written_recast}
use Rattle.mesa_history_laws.proofs.Kept.{IsAt, LawAt, all_written, law_early, law_late}
use Rattle.mesa_history_laws.proofs.Lifting.{present_more, present_now}

-- rows of parts that each have a form
parts_form : (s : Columns) (parts : List (List Row)) → AllByRecursion (AreRowsOf s) parts → AreRowsOf s (rows_of parts)
parts_form s [] all = tt
parts_form s (part ∷ parts) all = all_append (IsRowOf s) part (rows_of parts) all.0 (parts_form s parts all.1)

-- what the law folds has the present form
folds_form : (l : Lineage) (version : ℕ) (written : List Written) → AllByRecursion (λ (x : Written). IsAt l x.source) written → AreRowsOf (columns_of l) (rows_of (map (rows_now l) (sources_to version written)))
folds_form l version written all =
    let some = all_filter (λ (x : Written). IsAt l x.source) (λ (x : Written). nat_le x.version version) written all in
    parts_form (columns_of l) (map (rows_now l) (sources_to version written))
    (all_map (AreRowsOf (columns_of l)) (rows_now l) (sources_to version written)
    (all_map (λ (s : Source). AreRowsOf (columns_of l) (rows_now l s)) source_written (filter (λ (x : Written). nat_le x.version version) written)
    (all_so (λ (x : Written). IsAt l x.source) (λ (x : Written). AreRowsOf (columns_of l) (rows_now l x.source)) (filter (λ (x : Written). nat_le x.version version) written) (λ x is. is.form) some)))

-- ---- a change

at_more : (l : Lineage) (c : Change) (s : Source) → HasDefault c → IsAt l s → IsAt (with_change l c) s
at_more l c s default is = record {
  epoch = (let le = is.epoch in omega (arith, le, epoch_more l c));
  form = subst (AreRowsOf (columns_of (with_change l c))) (sym (present_more l c s is.epoch)) (subst (λ columns. AreRowsOf columns (map (lifted_once (columns_of l) c) (rows_now l s))) (sym (columns_more l c)) (forms_more (columns_of l) c (rows_now l s) default is.form));
}

parts_more : (l : Lineage) (c : Change) (version : ℕ) (written : List Written) → AllByRecursion (λ (x : Written). IsAt l x.source) written
    → map (rows_now (with_change l c)) (sources_to version written) ≡ map (map (lifted_once (columns_of l) c)) (map (rows_now l) (sources_to version written))
parts_more l c version written all =
    let some = all_filter (λ (x : Written). IsAt l x.source) (λ (x : Written). nat_le x.version version) written all in
    same_maps (IsAt l) (rows_now (with_change l c)) (λ s. map (lifted_once (columns_of l) c) (rows_now l s)) (sources_to version written) (λ s is. present_more l c s is.epoch)
    (all_map (IsAt l) source_written (filter (λ (x : Written). nat_le x.version version) written) some)
    ∙ sym (map-map (map (lifted_once (columns_of l) c)) (rows_now l) (sources_to version written))

module _ (start : Warehouse) (t : Table) (c : Change) (default : HasDefault c) (early : ℕ → Source) (later : List Written) (next : ℕ) (its : LawAt start early later next t) where
  law_more : (version : ℕ) → carried_content start (table_changed t c) early (all_written start early later) version ≡ map (lifted_once (columns_of t.lineage) c) (carried_content start t early (all_written start early later) version)
  law_more version = elim (cases_lt version start.next) [
    | inl soon ↦ law_early start (table_changed t c) early (all_written start early later) version soon ∙ present_more t.lineage c (early version) (its.early_at version).epoch
        ∙ ap (map (lifted_once (columns_of t.lineage) c)) (sym (law_early start t early (all_written start early later) version soon))
    | inr late ↦
        let all : AllByRecursion (λ (x : Written). IsAt t.lineage x.source) (all_written start early later) = (its.early_at (start.next - 1), its.later_at) in
        law_late start (table_changed t c) early (all_written start early later) version late
        ∙ ap (λ (s : Columns). folded (aggs_of s) (map (rows_now (with_change t.lineage c)) (sources_to version (all_written start early later)))) (columns_more t.lineage c)
        ∙ ap (folded (aggs_of (changed (columns_of t.lineage) c))) (parts_more t.lineage c version (all_written start early later) all)
        ∙ sym (lifts_folded (columns_of t.lineage) (c ∷ []) (map (rows_now t.lineage) (sources_to version (all_written start early later))) (default, tt) (folds_form t.lineage version (all_written start early later) all))
        ∙ ap (map (lifted_once (columns_of t.lineage) c)) (sym (law_late start t early (all_written start early later) version late))
  ]

  -- A change keeps the law of its table.
  pub changed_law : LawAt start early later next (table_changed t c)
  changed_law = record {
    versions = length-map t.contents (map (lifted_once (columns_of t.lineage) c)) ∙ its.versions;
    early_at = λ version. at_more t.lineage c (early version) default (its.early_at version);
    later_at = all_so (λ (x : Written). IsAt t.lineage x.source) (λ (x : Written). IsAt (with_change t.lineage c) x.source) later (λ x is. at_more t.lineage c x.source default is) its.later_at;
    contents = λ version le lt. map_at (map (lifted_once (columns_of t.lineage) c)) t.contents (version - t.oldest) [] ∙ ap (map (lifted_once (columns_of t.lineage) c)) (its.contents version le lt) ∙ sym (law_more version);
  }

-- ---- a recast

at_recast : (l : Lineage) (r : Recast) (s : Source) → IsAt l s → IsAt (recast_lineage l r) (source_recast l r s)
at_recast l r s is = record {
  epoch = omega arith;
  form = subst (AreRowsOf (recast_columns (columns_of l) r)) (sym (present_now (recast_lineage l r) (recast_rows (columns_of l) r (rows_now l s)))) (recast_form (columns_of l) r (rows_now l s) is.form);
}

-- what was written up to a version is carried
recast_chosen : (l : Lineage) (r : Recast) (version : ℕ) (x : Written) (written : List Written) (b : Bool) → sources_to version (map (written_recast l r) written) ≡ map (source_recast l r) (sources_to version written)
    → map source_written (cond b (written_recast l r x ∷ filter (λ (w : Written). nat_le w.version version) (map (written_recast l r) written)) (filter (λ (w : Written). nat_le w.version version) (map (written_recast l r) written)))
    ≡ map (source_recast l r) (map source_written (cond b (x ∷ filter (λ (w : Written). nat_le w.version version) written) (filter (λ (w : Written). nat_le w.version version) written)))
recast_chosen l r version x written true rest = ap (λ ss. source_recast l r x.source ∷ ss) rest
recast_chosen l r version x written false rest = rest

to_recast : (l : Lineage) (r : Recast) (version : ℕ) (written : List Written) → sources_to version (map (written_recast l r) written) ≡ map (source_recast l r) (sources_to version written)
to_recast l r version [] = refl
to_recast l r version (x ∷ written) = recast_chosen l r version x written (nat_le x.version version) (to_recast l r version written)

now_recast : (l : Lineage) (r : Recast) (sources : List Source) → map (rows_now (recast_lineage l r)) (map (source_recast l r) sources) ≡ map (recast_rows (columns_of l) r) (map (rows_now l) sources)
now_recast l r [] = refl
now_recast l r (s ∷ sources) = λ i. present_now (recast_lineage l r) (recast_rows (columns_of l) r (rows_now l s)) i ∷ now_recast l r sources i

module _ (start : Warehouse) (t : Table) (r : Recast) (is : IsRecastOf (columns_of t.lineage) r) (early : ℕ → Source) (later : List Written) (next : ℕ) (its : LawAt start early later next t) where
  abbrev early' : ℕ → Source
  early' version = source_recast t.lineage r (early version)

  abbrev later' : List Written
  later' = map (written_recast t.lineage r) later

  law_grouped : (version : ℕ) → carried_content start (table_recast t r) early' (all_written start early' later') version ≡ recast_rows (columns_of t.lineage) r (carried_content start t early (all_written start early later) version)
  law_grouped version = elim (cases_lt version start.next) [
    | inl soon ↦ law_early start (table_recast t r) early' (all_written start early' later') version soon ∙ present_now (recast_lineage t.lineage r) (recast_rows (columns_of t.lineage) r (rows_now t.lineage (early version)))
        ∙ ap (recast_rows (columns_of t.lineage) r) (sym (law_early start t early (all_written start early later) version soon))
    | inr late ↦
        let all : AllByRecursion (λ (x : Written). IsAt t.lineage x.source) (all_written start early later) = (its.early_at (start.next - 1), its.later_at) in
        law_late start (table_recast t r) early' (all_written start early' later') version late
        ∙ ap (λ ss. folded (aggs_of (recast_columns (columns_of t.lineage) r)) (map (rows_now (recast_lineage t.lineage r)) ss)) (to_recast t.lineage r version (all_written start early later))
        ∙ ap (folded (aggs_of (recast_columns (columns_of t.lineage) r))) (now_recast t.lineage r (sources_to version (all_written start early later)))
        ∙ sym (recast_folds (columns_of t.lineage) r (map (rows_now t.lineage) (sources_to version (all_written start early later))) is (folds_form t.lineage version (all_written start early later) all))
        ∙ ap (recast_rows (columns_of t.lineage) r) (sym (law_late start t early (all_written start early later) version late))
  ]

  -- A recast keeps the law of its table: at each version the content is the grouped content, and so is what the law says of what is carried.
  pub recast_law : LawAt start early' later' next (table_recast t r)
  recast_law = record {
    versions = length-map t.contents (recast_rows (columns_of t.lineage) r) ∙ its.versions;
    early_at = λ version. at_recast t.lineage r (early version) (its.early_at version);
    later_at = all_map (λ (x : Written). IsAt (recast_lineage t.lineage r) x.source) (written_recast t.lineage r) later (all_so (λ (x : Written). IsAt t.lineage x.source) (λ x. IsAt (recast_lineage t.lineage r) (written_recast t.lineage r x).source) later (λ x at. at_recast t.lineage r x.source at) its.later_at);
    contents = λ version le lt. map_at (recast_rows (columns_of t.lineage) r) t.contents (version - t.oldest) [] ∙ ap (recast_rows (columns_of t.lineage) r) (its.contents version le lt) ∙ sym (law_grouped version);
  }
