-- A table that a run finds sound was made of what it finds written; one that is made later, of nothing.
use Rattle.std.proofs.Common.{◌≡◌, inl, inr, ℕ, zero, suc, ◌+◌, ◌-◌, ◌<◌, ◌≤◌, List, [], ◌∷◌, ◌++◌, map, length, Option, Some, None, true, refl, sym, ◌∙◌, ap, subst, arith, append_assoc, replicate}
use Rattle.std.proofs.lemmas.List.{length-replicate}
use Rattle.std.specs.Prelude.{IfSome, option_map}
use Rattle.std.specs.List.{AllByRecursion, range_with_len}
use Rattle.mesa_history_spec.specs.mesa_columns.declared.rows.Row.{Row}
use Rattle.mesa_history_spec.specs.mesa_columns.Columns.{Columns, aggs_of}
use Rattle.mesa_history_spec.specs.mesa_schema.Changes.{Lineage, columns_at, columns_of, epoch_of, lifted}
use Rattle.mesa_history_spec.specs.mesa_fold.Folded.{rows_of}
use Rattle.mesa_history_spec.specs.mesa_schema.Lineages.{IsLineage}
use Rattle.mesa_history_spec.specs.mesa_columns.Rows.{AreRowsOf, IsRowOf, keys_rise}
use Rattle.mesa_history_spec.proofs.mesa_columns.Lists.{all_append, all_both, all_filter, all_map, all_so}
use Rattle.mesa_history_spec.proofs.mesa_schema.PresentRows.{present_rise}
use Rattle.mesa_delta_format.specs.mesa_block.Layout.{Layout}
use Rattle.mesa_delta_format.specs.mesa_block.Rows.{IsRow}
use Rattle.mesa_delta_format.specs.Summary.{file_layout}
use Rattle.mesa_history_spec.specs.mesa_span.Ranges.{Rise, base_before, end_of}
use Rattle.mesa_history_spec.specs.Sources.{Source, Written, range_rows, source_written, sources_from, version_written}
use Rattle.mesa_record.specs.declared.record.Files.{Files}
use Rattle.mesa_store_spec.specs.Catalog.{Catalog, Delta, Ending, TableMeta, empty_base, empty_delta, end_in, new_meta, start_in}
use Rattle.mesa_store_spec.specs.Fitting.{base_deltas, delta_in, delta_live, deltas_of}
use Rattle.mesa_store_spec.specs.Contents.{Rows, present, rows_in}
use Rattle.mesa_store_spec.specs.Sound.{IsMerged, HasSoundRows, IsTold}
use Rattle.mesa_store_spec.specs.Shape.{IsCatalog, IsShaped}
use Rattle.mesa_store_spec.specs.Sourced.{AreMadeOf, AreToCome, HasForm, IsMadeOf, IsSourced, IsUnwritten, base_written, found_written, singles_written, source_of}
use Rattle.mesa_store_spec.proofs.Lists.{all_back, all_front, all_unflat, all_unmap}
use Rattle.mesa_store_spec.proofs.Rising.{folds_itself, rising}
use Rattle.mesa_store_spec.proofs.ShapedTables.{start_new}
use Rattle.mesa_store_spec.proofs.Lifted.{folded_now, now, range_now}
use Rattle.mesa_store_spec.proofs.Sourcing.{fold_singles, now_made}
use Rattle.mesa_store_spec.proofs.Tables.{folds_nothing}
use Rattle.mesa_store_spec.proofs.Written.{From, is_within, sources_first, sources_one}

-- ---- a delta that is told is made of itself

abbrev IsFound : Rows → Lineage → Delta → Type 0
IsFound rows l d = (d.epoch ≤ epoch_of l) × AllByRecursion (IsTold rows) (delta_live l d)

good_forms : (s : Layout) (rows : List Row) → AllByRecursion (IsRow s) rows → AreRowsOf s.columns rows
good_forms s rows all = all_so (IsRow s) (IsRowOf s.columns) rows (λ row good. good.form) all

form_found : (rows : Rows) (l : Lineage) (d : Delta) → IsFound rows l d → HasForm l (source_of rows d)
form_found rows l d is = record { epoch = is.0; form = by d.files d.epoch d.totals is.1 }
  where
    by : (files : Option Files) (epoch : ℕ) (totals : Option (List ℕ)) → AllByRecursion (IsTold rows) (delta_live l (record { epoch = epoch; files = files; totals = totals }))
        → AreRowsOf (columns_at l epoch) (rows_in rows (record { epoch = epoch; files = files; totals = totals }))
    by None epoch totals told = tt
    by (Some f) epoch totals told = good_forms (file_layout (columns_at l epoch) f.file) (rows f.file.id) told.0.file.good

rises_found : (rows : Rows) (l : Lineage) (d : Delta) → IsLineage l → IsFound rows l d → keys_rise (present rows l d) ≡ true
rises_found rows l d lineage is = by d.files d.epoch d.totals is.1
  where
    by : (files : Option Files) (epoch : ℕ) (totals : Option (List ℕ)) → AllByRecursion (IsTold rows) (delta_live l (record { epoch = epoch; files = files; totals = totals }))
        → keys_rise (present rows l (record { epoch = epoch; files = files; totals = totals })) ≡ true
    by None epoch totals told = refl
    by (Some f) epoch totals told = present_rise l epoch (rows f.file.id) lineage (good_forms (file_layout (columns_at l epoch) f.file) (rows f.file.id) told.0.file.good) ∙ rising (rows f.file.id) told.0.file.rise

self_made : (rows : Rows) (l : Lineage) (d : Delta) → IsLineage l → IsFound rows l d → present rows l d ≡ folded_now l (source_of rows d ∷ [])
self_made rows l d lineage is = sym (folds_itself (aggs_of (columns_of l)) (present rows l d) (rises_found rows l d lineage is))

-- ---- a table

rise_singles : (rows : Rows) (version : ℕ) (ds : List Delta) → Rise version (map version_written (singles_written rows version ds))
rise_singles rows version [] = tt
rise_singles rows version (d ∷ ds) = (omega arith, rise_singles rows (version + 1) ds)

rise_found : (rows : Rows) (o : Option Ending) (version : ℕ) (ds : List Delta) → IfSome o (λ (e : Ending). e.to + 1 ≡ version) → Rise 0 (map version_written (base_written rows o ++ singles_written rows version ds))
rise_found rows None version ds is = from_less 0 version (map version_written (singles_written rows version ds)) (omega arith) (rise_singles rows version ds)
  where
    from_less : (a b : ℕ) (ns : List ℕ) → a ≤ b → Rise b ns → Rise a ns
    from_less a b [] le rise = tt
    from_less a b (n ∷ ns) le rise = (let here = rise.0 in omega (arith, le, here), rise.1)
rise_found rows (Some e) version ds is = (omega arith, subst (λ v. Rise v (map version_written (singles_written rows version ds))) (sym is) (rise_singles rows version ds))

there_singles : (rows : Rows) (version : ℕ) (ds : List Delta) → AllByRecursion (λ (w : Written). w.version < version + length ds) (singles_written rows version ds)
there_singles rows version [] = tt
there_singles rows version (d ∷ ds) =
    (omega arith, all_so (λ (w : Written). w.version < version + 1 + length ds) (λ (w : Written). w.version < version + length (d ∷ ds)) (singles_written rows (version + 1) ds) (λ w lt. (let e : w.version < version + length (d ∷ ds) = omega (arith, lt) in e)) (there_singles rows (version + 1) ds))

forms_singles : (rows : Rows) (l : Lineage) (version : ℕ) (ds : List Delta) → AllByRecursion (IsFound rows l) ds → AllByRecursion (λ (w : Written). HasForm l w.source) (singles_written rows version ds)
forms_singles rows l version [] all = tt
forms_singles rows l version (d ∷ ds) all = (form_found rows l d all.0, forms_singles rows l (version + 1) ds all.1)

singles_made : (rows : Rows) (l : Lineage) (before : List Written) (version : ℕ) (ds : List Delta) → IsLineage l → AllByRecursion (IsFound rows l) ds → AllByRecursion (λ (w : Written). w.version < version) before
    → AreMadeOf rows l (before ++ singles_written rows version ds) version ds
singles_made rows l before version [] lineage all below = tt
singles_made rows l before version (d ∷ ds) lineage all below =
    let w : Written = record { version = version; source = source_of rows d } in
    let one = sources_one before (singles_written rows (version + 1) ds) w below (rise_singles rows (version + 1) ds) in
    let made = self_made rows l d lineage all.0 ∙ sym (ap (range_rows l (epoch_of l)) one ∙ range_now l (w.source ∷ [])) in
    let below_more = all_append (λ (x : Written). x.version < version + 1) before (w ∷ []) (all_so (λ (x : Written). x.version < version) (λ (x : Written). x.version < version + 1) before (λ x lt. (let e : x.version < version + 1 = omega (arith, lt) in e)) below) (omega arith, tt) in
    (made, subst (λ ws. AreMadeOf rows l ws (version + 1) ds) (append_assoc before (w ∷ []) (singles_written rows (version + 1) ds)) (singles_made rows l (before ++ w ∷ []) (version + 1) ds lineage all.1 below_more))

tens_behind : (start k n : ℕ) → AllByRecursion (λ e. start ≤ e) (map (end_of start) (range_with_len k n))
tens_behind start k zero = tt
tens_behind start k (suc n) = (omega arith, tens_behind start (k + 1) n)

-- A table that is found sound was made of what is found written of it.
module _ (rows : Rows) (floor next : ℕ) (t : TableMeta) (shaped : IsShaped floor next t) (sound_rows : HasSoundRows rows t) where
  found : AllByRecursion (IsFound rows t.lineage) (deltas_of t)
  found = all_both (λ (d : Delta). d.epoch ≤ epoch_of t.lineage) (λ (d : Delta). AllByRecursion (IsTold rows) (delta_live t.lineage d)) (IsFound rows t.lineage) (deltas_of t) (λ d le told. (le, told)) shaped.epochs
      (all_unflat (IsTold rows) (delta_live t.lineage) (deltas_of t) sound_rows.files)

  found_base : AllByRecursion (IsFound rows t.lineage) (base_deltas t.base)
  found_base = all_front (IsFound rows t.lineage) (base_deltas t.base) (map delta_in t.cumulatives ++ t.singles) found

  found_singles : AllByRecursion (IsFound rows t.lineage) t.singles
  found_singles = all_back (IsFound rows t.lineage) (map delta_in t.cumulatives) t.singles (all_back (IsFound rows t.lineage) (base_deltas t.base) (map delta_in t.cumulatives ++ t.singles) found)

  ends : IfSome t.base (λ (e : Ending). e.to + 1 ≡ start_in t)
  ends = by t.base refl
    where
      by : (o : Option Ending) → t.base ≡ o → IfSome o (λ (e : Ending). e.to + 1 ≡ start_in t)
      by None is = tt
      by (Some e) is = sym (ap (λ b. start_in (record t { base = b })) is)

  rises : Rise 0 (map version_written (found_written rows t))
  rises = rise_found rows t.base (start_in t) t.singles ends

  below_base : AllByRecursion (λ (w : Written). w.version < start_in t) (base_written rows t.base)
  below_base = by t.base ends
    where
      by : (o : Option Ending) → IfSome o (λ (e : Ending). e.to + 1 ≡ start_in t) → AllByRecursion (λ (w : Written). w.version < start_in t) (base_written rows o)
      by None is = tt
      by (Some e) is = (omega (arith, is), tt)

  singles_are : AreMadeOf rows t.lineage (found_written rows t) (start_in t) t.singles
  singles_are = singles_made rows t.lineage (base_written rows t.base) (start_in t) t.singles shaped.lineage found_singles below_base

  base_is : IfSome t.base (λ (e : Ending). IsMadeOf rows t.lineage (found_written rows t) 0 e.to e.delta)
  base_is = by t.base found_base ends
    where
      by : (o : Option Ending) → AllByRecursion (IsFound rows t.lineage) (base_deltas o) → IfSome o (λ (e : Ending). e.to + 1 ≡ start_in t)
          → IfSome o (λ (e : Ending). IsMadeOf rows t.lineage (base_written rows o ++ singles_written rows (start_in t) t.singles) 0 e.to e.delta)
      by None all is = tt
      by (Some e) all is =
          let w : Written = record { version = e.to; source = source_of rows e.delta } in
          let one = sources_first (singles_written rows (start_in t) t.singles) w (subst (λ v. Rise v (map version_written (singles_written rows (start_in t) t.singles))) (sym is) (rise_singles rows (start_in t) t.singles)) in
          self_made rows t.lineage e.delta shaped.lineage all.0 ∙ sym (ap (range_rows t.lineage (epoch_of t.lineage)) one ∙ range_now t.lineage (w.source ∷ []))

  behind : AllByRecursion (λ (e : Ending). start_in t ≤ e.to) t.cumulatives
  behind = all_unmap (λ end. start_in t ≤ end) end_in t.cumulatives (subst (AllByRecursion (λ end. start_in t ≤ end)) (sym shaped.reachable) (tens_behind (start_in t) 0 (length (map end_in t.cumulatives))))

  cumulative_is : (e : Ending) → start_in t ≤ e.to → e.to < next → IsMerged rows t e → IsMadeOf rows t.lineage (found_written rows t) (start_in t) e.to e.delta
  cumulative_is e from lt merged =
      let whole = shaped.singles in
      now_made rows t.lineage (found_written rows t) rises (start_in t) e.to e.delta
      (merged ∙ fold_singles rows t.lineage (found_written rows t) rises [] (start_in t) (e.to + 1 - start_in t) e.to t.singles singles_are (omega (arith, from)) (omega (arith, from, lt, whole)))

  pub found_sourced : IsSourced rows (found_written rows t) t
  found_sourced = record {
    are = record {
      rise = rises;
      forms = all_append (λ (w : Written). HasForm t.lineage w.source) (base_written rows t.base) (singles_written rows (start_in t) t.singles) (base_forms t.base found_base) (forms_singles rows t.lineage (start_in t) t.singles found_singles);
    };
    there = all_append (λ (w : Written). w.version < start_in t + length t.singles) (base_written rows t.base) (singles_written rows (start_in t) t.singles)
        (all_so (λ (w : Written). w.version < start_in t) (λ (w : Written). w.version < start_in t + length t.singles) (base_written rows t.base) (λ w lt. (let e : w.version < start_in t + length t.singles = omega (arith, lt) in e)) below_base) (there_singles rows (start_in t) t.singles);
    base = base_is;
    cumulatives = all_both (λ (e : Ending). (start_in t ≤ e.to) × (e.to < next)) (IsMerged rows t) (λ (e : Ending). IsMadeOf rows t.lineage (found_written rows t) (start_in t) e.to e.delta) t.cumulatives (λ e both merged. cumulative_is e both.0 both.1 merged)
        (all_both (λ (e : Ending). start_in t ≤ e.to) (λ (e : Ending). e.to < next) (λ (e : Ending). (start_in t ≤ e.to) × (e.to < next)) t.cumulatives (λ e a b. (a, b)) behind shaped.ends) sound_rows.merged;
    singles = singles_are;
  }
    where
      base_forms : (o : Option Ending) → AllByRecursion (IsFound rows t.lineage) (base_deltas o) → AllByRecursion (λ (w : Written). HasForm t.lineage w.source) (base_written rows o)
      base_forms None all = tt
      base_forms (Some e) all = (form_found rows t.lineage e.delta all.0, tt)

-- ---- a table that is made

nothing_now : (l : Lineage) (sources : List Source) → AllByRecursion (λ (s : Source). s.rows ≡ []) sources → rows_of (map (now l) sources) ≡ []
nothing_now l [] all = refl
nothing_now l (s ∷ sources) all = ap (λ (rows : List Row). map (lifted l s.epoch (epoch_of l)) rows ++ rows_of (map (now l) sources)) all.0 ∙ nothing_now l sources all.1

nothing_made : (rows : Rows) (l : Lineage) (written : List Written) (from to : ℕ) → AllByRecursion IsUnwritten written → IsMadeOf rows l written from to empty_delta
nothing_made rows l written from to none =
    let empty = all_map (λ (s : Source). s.rows ≡ []) source_written (From from to written) (all_filter (λ (w : Written). w.source.rows ≡ []) (is_within from to) written (all_so IsUnwritten (λ (w : Written). w.source.rows ≡ []) written (λ w is. is.1) none)) in
    sym (range_now l (sources_from from to written) ∙ folds_nothing (aggs_of (columns_of l)) (map (now l) (sources_from from to written)) (nothing_now l (sources_from from to written) empty))

nothing_singles : (rows : Rows) (l : Lineage) (written : List Written) (version n : ℕ) → AllByRecursion IsUnwritten written → AreMadeOf rows l written version (replicate n empty_delta)
nothing_singles rows l written version zero none = tt
nothing_singles rows l written version (suc n) none = (nothing_made rows l written version version none, nothing_singles rows l written (version + 1) n none)

pub new_sourced : (rows : Rows) (c : Catalog) (name : List ℕ) (s : Columns) (written : List Written) → IsCatalog c → AreToCome c.next written → IsSourced rows written (new_meta c name s)
new_sourced rows c name s written is come =
    let none = come.nothing in
    let t = new_meta c name s in
    let start = start_new c name s in
    let count = length-replicate (c.next - c.floor) empty_delta in
    let whole : start_in t + length t.singles ≡ c.next = elim is.floor [ inl lt ↦ omega (arith, start, count, lt) | inr none ↦ omega (arith, start, count, none.0, none.1) ] in
    record {
      are = record { rise = come.rise; forms = all_so IsUnwritten (λ (w : Written). HasForm t.lineage w.source) written (λ w its. record { epoch = (let first = its.0 in omega (arith, first)); form = subst (AreRowsOf (columns_at t.lineage w.source.epoch)) (sym its.1) tt }) none };
      there = subst (λ n. AllByRecursion (λ (w : Written). w.version < n) written) (sym whole) come.there;
      base = by (base_before c.floor);
      cumulatives = tt;
      singles = nothing_singles rows t.lineage written (start_in t) (c.next - c.floor) none;
    }
  where
    by : (o : Option ℕ) → IfSome (option_map empty_base o) (λ (e : Ending). IsMadeOf rows (new_meta c name s).lineage written 0 e.to e.delta)
    by None = tt
    by (Some to) = nothing_made rows (new_meta c name s).lineage written 0 to come.nothing
