-- Rows matter only for the files that are named.
use Rattle.std.proofs.Common.{◌≡◌, ℕ, zero, suc, ◌+◌, ◌-◌, List, ◌∷◌, ◌++◌, map, take, Option, Some, None, refl, sym, ◌∙◌, ap, subst, slice_get}
use Rattle.std.specs.Prelude.{IfSome}
use Rattle.std.specs.List.{AllByRecursion, range_with_len}
use Rattle.mesa_history_spec.specs.mesa_columns.declared.rows.Row.{Row}
use Rattle.mesa_history_spec.specs.mesa_columns.declared.views.View.{View}
use Rattle.mesa_history_spec.specs.mesa_columns.Columns.{aggs_of}
use Rattle.mesa_history_spec.specs.mesa_schema.Changes.{Lineage, columns_at, columns_of, epoch_of, lifted}
use Rattle.mesa_history_spec.specs.mesa_schema.Views.{view_rows}
use Rattle.mesa_history_spec.specs.mesa_fold.Folded.{folded, rows_of}
use Rattle.mesa_history_spec.specs.mesa_batch.Totals.{AreAtMost, abs_totals}
use Rattle.mesa_record.specs.declared.record.Files.{Files}
use Rattle.mesa_record.specs.declared.record.ViewRef.{ViewRef}
use Rattle.mesa_delta_format.specs.File.{IsFile, file_bytes}
use Rattle.mesa_delta_format.specs.Summary.{IsReferenceOf}
use Rattle.mesa_store_spec.specs.Catalog.{Delta, Ending, TableMeta, Catalog, ranges_of, start_in}
use Rattle.mesa_store_spec.specs.Fitting.{LiveFile, base_deltas, delta_in, deltas_of, delta_live, meta_live, live_files, view_live}
use Rattle.mesa_store_spec.specs.Contents.{Rows, rows_in, present, deltas_to, content, table_of, kept_of}
use Rattle.mesa_store_spec.specs.Sound.{IsTold, IsMerged, IsGrouped, IsGroupedAs, AreGrouped, IsTotalled, HasSoundRows, HaveSoundRows, layout_of, wanted, wants}
use Rattle.mesa_history_spec.proofs.mesa_columns.Lists.{all_append, all_both, same_maps}
use Rattle.mesa_store_spec.proofs.Lists.{all_front, all_back, all_take, all_unflat, all_unmap}

module _ (old new : Rows) where
  -- the rows of a file are the same
  abbrev pub Agrees : LiveFile → Type 0
  Agrees x = new x.file.id ≡ old x.file.id

  abbrev pub Same : Lineage → Delta → Type 0
  Same l d = AllByRecursion Agrees (delta_live l d)

  same_rows : (l : Lineage) (d : Delta) → Same l d → rows_in new d ≡ rows_in old d
  same_rows l d all = by d.files d.epoch d.totals all
    where
      by : (files : Option Files) (epoch : ℕ) (totals : Option (List ℕ)) → Same l (record { epoch = epoch; files = files; totals = totals })
          → rows_in new (record { epoch = epoch; files = files; totals = totals }) ≡ rows_in old (record { epoch = epoch; files = files; totals = totals })
      by None epoch totals all = refl
      by (Some f) epoch totals all = all.0

  pub same_present : (l : Lineage) (d : Delta) → Same l d → present new l d ≡ present old l d
  same_present l d all = ap (map (lifted l d.epoch (epoch_of l))) (same_rows l d all)

  same_parts : (l : Lineage) (ds : List Delta) → AllByRecursion (Same l) ds → map (present new l) ds ≡ map (present old l) ds
  same_parts l ds all = same_maps (Same l) (present new l) (present old l) ds (same_present l) all

  abbrev pub SameMeta : TableMeta → Type 0
  SameMeta t = AllByRecursion Agrees (meta_live t)

  module _ (t : TableMeta) (all : SameMeta t) where
    deltas : AllByRecursion (Same t.lineage) (deltas_of t)
    deltas = all_unflat Agrees (delta_live t.lineage) (deltas_of t) all

    pub bases : AllByRecursion (Same t.lineage) (base_deltas t.base)
    bases = all_front (Same t.lineage) (base_deltas t.base) (map delta_in t.cumulatives ++ t.singles) deltas

    pub merged_deltas : AllByRecursion (Same t.lineage) (map delta_in t.cumulatives)
    merged_deltas = all_front (Same t.lineage) (map delta_in t.cumulatives) t.singles (all_back (Same t.lineage) (base_deltas t.base) (map delta_in t.cumulatives ++ t.singles) deltas)

    pub singles : AllByRecursion (Same t.lineage) t.singles
    singles = all_back (Same t.lineage) (map delta_in t.cumulatives) t.singles (all_back (Same t.lineage) (base_deltas t.base) (map delta_in t.cumulatives ++ t.singles) deltas)

    same_content : (version : ℕ) → content new t version ≡ content old t version
    same_content version = ap (folded (aggs_of (columns_of t.lineage))) (same_parts t.lineage (deltas_to t version) (all_append (Same t.lineage) (base_deltas t.base) _ bases (all_take (Same t.lineage) (version + 1 - start_in t) t.singles singles)))

    same_contents : (from n : ℕ) → map (content new t) (range_with_len from n) ≡ map (content old t) (range_with_len from n)
    same_contents from zero = refl
    same_contents from (suc n) = λ i. same_content from i ∷ same_contents (from + 1) n i

    same_table : (next : ℕ) → table_of new next t ≡ table_of old next t
    same_table next = λ i. record { name = t.name; lineage = t.lineage; totals = t.totals; oldest = t.oldest; contents = same_contents t.oldest (next - t.oldest) i }

    told : (x : LiveFile) → Agrees x → IsTold old x → IsTold new x
    told x same is = record {
      file = subst (λ r. IsFile (layout_of x) r (file_bytes (layout_of x) r)) (sym same) is.file;
      true = subst (λ r. IsReferenceOf (layout_of x) x.file.id r x.file) (sym same) is.true;
    }

    merged : (e : Ending) → Same t.lineage e.delta → IsMerged old t e → IsMerged new t e
    merged e same is = same_present t.lineage e.delta same ∙ is ∙ ap (folded (aggs_of (columns_of t.lineage))) (sym (same_parts t.lineage (take (e.to + 1 - start_in t) t.singles) (all_take (Same t.lineage) (e.to + 1 - start_in t) t.singles singles)))

    grouped_as : (d : Delta) (v : ViewRef) (view : Option View) → present new t.lineage d ≡ present old t.lineage d → new v.file.id ≡ old v.file.id → IsGroupedAs old t.lineage d view v → IsGroupedAs new t.lineage d view v
    grouped_as d v None same own is = is
    grouped_as d v (Some view) same own is = own ∙ is ∙ ap (view_rows (columns_of t.lineage) view) (sym same)

    grouped : (d : Delta) → Same t.lineage d → AreGrouped old t.lineage d → AreGrouped new t.lineage d
    grouped d same is = by d.files d.epoch d.totals same is
      where
        by : (files : Option Files) (epoch : ℕ) (totals : Option (List ℕ)) → Same t.lineage (record { epoch = epoch; files = files; totals = totals })
            → AreGrouped old t.lineage (record { epoch = epoch; files = files; totals = totals }) → AreGrouped new t.lineage (record { epoch = epoch; files = files; totals = totals })
        by None epoch totals same is = tt
        by (Some f) epoch totals same is =
            let d : Delta = record { epoch = epoch; files = Some f; totals = totals } in
            all_both (λ (v : ViewRef). Agrees (view_live t.lineage v)) (IsGrouped old t.lineage d) (IsGrouped new t.lineage d) f.views
            (λ v own old_is. grouped_as d v (slice_get t.lineage.views v.view) (same_present t.lineage d same) own old_is) (all_unmap Agrees (view_live t.lineage) f.views same.1) is

    totalled : (d : Delta) → Same t.lineage d → IsTotalled old t.lineage d → IsTotalled new t.lineage d
    totalled d same is = by d.totals (rows_in new d) (rows_in old d) (same_rows t.lineage d same) is
      where
        by : (totals : Option (List ℕ)) (r q : List Row) → r ≡ q → IfSome totals (λ ts. ts ≡ abs_totals (columns_at t.lineage d.epoch) q) → IfSome totals (λ ts. ts ≡ abs_totals (columns_at t.lineage d.epoch) r)
        by None r q same is = tt
        by (Some ts) r q same is = is ∙ ap (abs_totals (columns_at t.lineage d.epoch)) (sym same)

    pub same_sound_rows : HasSoundRows old t → HasSoundRows new t
    same_sound_rows is = record {
      files = all_both Agrees (IsTold old) (IsTold new) (meta_live t) told all is.files;
      merged = all_both (λ (e : Ending). Same t.lineage e.delta) (IsMerged old t) (IsMerged new t) t.cumulatives merged (all_unmap (Same t.lineage) delta_in t.cumulatives merged_deltas) is.merged;
      grouped = all_both (Same t.lineage) (AreGrouped old t.lineage) (AreGrouped new t.lineage) (deltas_of t) grouped deltas is.grouped;
      totals = all_both (Same t.lineage) (IsTotalled old t.lineage) (IsTotalled new t.lineage) t.singles totalled singles is.totals;
      bound = subst (λ parts. AreAtMost (abs_totals (columns_of t.lineage) (rows_of parts)) t.totals) (sym (same_parts t.lineage (base_deltas t.base ++ t.singles) (all_append (Same t.lineage) (base_deltas t.base) t.singles bases singles))) is.bound;
    }

  pub agree_kept : (c : Catalog) → AllByRecursion Agrees (live_files c) → kept_of new c ≡ kept_of old c
  unfolding kept_of
  agree_kept c all =
      let tables = same_maps SameMeta (table_of new c.next) (table_of old c.next) c.tables (λ t same. same_table t same c.next) (all_unflat Agrees meta_live c.tables all) in
      λ i. record { store = record { tables = tables i; floor = c.floor }; next = c.next; ranges = map ranges_of c.tables }

  pub agree_sound_rows : (c : Catalog) → AllByRecursion Agrees (live_files c) → HaveSoundRows old c → HaveSoundRows new c
  agree_sound_rows c all is = all_both SameMeta (HasSoundRows old) (HasSoundRows new) c.tables same_sound_rows (all_unflat Agrees meta_live c.tables all) is

  pub agree_wants : (xs : List LiveFile) → AllByRecursion Agrees xs → wants new xs ≡ wants old xs
  agree_wants xs all = same_maps Agrees (wanted new) (wanted old) xs (λ x same i. (x.file.id, file_bytes (layout_of x) (same i))) all
