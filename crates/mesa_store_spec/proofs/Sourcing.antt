-- What a table's deltas were made of, when a run finds them and after each record.
use Rattle.std.proofs.Common.{◌≡◌, ℕ, zero, suc, ◌+◌, ◌-◌, ◌<◌, ◌≤◌, List, [], ◌∷◌, ◌++◌, map, length, take, drop, Option, Some, None, Bool, true, false, refl, sym, ◌∙◌, ap, subst, arith, append_assoc, length-append, length-drop}
use Rattle.std.specs.Prelude.{IfSome}
use Rattle.std.proofs.lemmas.List.{map-append}
use Rattle.std.specs.List.{AllByRecursion}
use Rattle.mesa_history_spec.specs.mesa_columns.declared.rows.Row.{Row}
use Rattle.mesa_history_spec.specs.mesa_columns.declared.changes.Change.{Change}
use Rattle.mesa_history_spec.specs.mesa_columns.Columns.{aggs_of}
use Rattle.mesa_history_spec.specs.mesa_schema.Changes.{Lineage, columns_of, epoch_of, lifted, with_change}
use Rattle.mesa_history_spec.specs.mesa_fold.Folded.{folded}
use Rattle.mesa_history_spec.specs.mesa_schema.Lineages.{HasDefault, IsLineage}
use Rattle.mesa_history_spec.proofs.mesa_columns.Lists.{all_append, all_both, all_filter, all_map, all_so}
use Rattle.mesa_history_spec.proofs.mesa_fold.Refolds.{refolded}
use Rattle.mesa_history_spec.specs.mesa_span.Ranges.{Rise}
use Rattle.mesa_history_spec.specs.Sources.{Written, range_rows, source_written, sources_from, version_written}
use Rattle.mesa_record.specs.declared.record.Part.{Part}
use Rattle.mesa_store_spec.specs.Catalog.{Delta, Ending, TableMeta, empty_delta, part_delta, start_in, meta_changed, meta_loaded, meta_swapped, meta_viewed}
use Rattle.mesa_store_spec.specs.Fitting.{base_deltas, delta_in}
use Rattle.mesa_store_spec.specs.Contents.{Rows, content, deltas_to, present}
use Rattle.mesa_store_spec.specs.Shape.{IsShaped}
use Rattle.mesa_store_spec.specs.Brought.{BringsIfAny, Replaces, loaded_delta, merged_of}
use Rattle.mesa_store_spec.specs.Sourced.{AreMadeOf, AreWritten, HasForm, IsMadeOf, IsMergedOf, IsSourced}
use Rattle.mesa_store_spec.proofs.Lists.{all_back, all_front}
use Rattle.mesa_store_spec.proofs.Contents.{new_rows, present_now}
use Rattle.mesa_store_spec.proofs.Lifted.{changes_sources, folded_now, form_more, lifts_sources, now, range_now}
use Rattle.mesa_store_spec.proofs.Written.{From, is_within, none_between, rise_push, sources_one, sources_push, sources_split}

-- what was written in a range has its forms
pub forms_from : (l : Lineage) (from to : ℕ) (written : List Written) → AllByRecursion (λ (w : Written). HasForm l w.source) written → AllByRecursion (HasForm l) (sources_from from to written)
forms_from l from to written all = all_map (HasForm l) source_written (From from to written) (all_filter (λ (w : Written). HasForm l w.source) (is_within from to) written all)

-- ---- deltas that follow one another

module _ (rows : Rows) (l : Lineage) (written : List Written) (rise : Rise 0 (map version_written written)) where
  -- made of what is folded at present
  pub made_now : (from to : ℕ) (d : Delta) → IsMadeOf rows l written from to d → present rows l d ≡ folded_now l (sources_from from to written)
  made_now from to d is = is ∙ range_now l (sources_from from to written)

  pub now_made : (from to : ℕ) (d : Delta) → present rows l d ≡ folded_now l (sources_from from to written) → IsMadeOf rows l written from to d
  now_made from to d is = is ∙ sym (range_now l (sources_from from to written))

  -- singletons fold to what was written in their versions
  pub fold_singles : (before : List (List Row)) (version n to : ℕ) (ds : List Delta) → AreMadeOf rows l written version ds → version + n ≡ to + 1 → n ≤ length ds
      → folded (aggs_of (columns_of l)) (before ++ map (present rows l) (take n ds)) ≡ folded (aggs_of (columns_of l)) (before ++ map (now l) (sources_from version to written))
  fold_singles before version zero to ds all ends le =
      ap (λ ss. folded (aggs_of (columns_of l)) (before ++ map (now l) (map source_written ss))) (sym (none_between version to written (omega (arith, ends))))
  fold_singles before version (suc n) to [] all ends le = absurd (omega (arith, le))
  fold_singles before version (suc n) to (d ∷ ds) all ends le =
      let aggs = aggs_of (columns_of l) in
      let here = map (now l) (sources_from version version written) in
      let rest = map (present rows l) (take n ds) in
      let split : map (now l) (sources_from version to written) ≡ here ++ map (now l) (sources_from (version + 1) to written) =
      ap (map (now l)) (sources_split version version to written rise (omega arith) (omega (arith, ends))) ∙ map-append (now l) (sources_from version version written) (sources_from (version + 1) to written) in
      ap (λ x. folded aggs (before ++ x ∷ rest)) (made_now version version d all.0)
      ∙ refolded aggs before here rest
      ∙ fold_singles (before ++ here) (version + 1) n to ds all.1 (omega (arith, ends)) (omega (arith, le))
      ∙ ap (folded aggs) (append_assoc before here (map (now l) (sources_from (version + 1) to written)) ∙ ap (λ xs. before ++ xs) (sym split))

  -- a base and singletons behind it
  fold_behind : (e : Ending) (n to : ℕ) (ds : List Delta) → IsMadeOf rows l written 0 e.to e.delta → AreMadeOf rows l written (e.to + 1) ds → e.to + 1 + n ≡ to + 1 → n ≤ length ds
      → folded (aggs_of (columns_of l)) (present rows l e.delta ∷ map (present rows l) (take n ds)) ≡ folded_now l (sources_from 0 to written)
  fold_behind e n to ds base all ends le =
      let aggs = aggs_of (columns_of l) in
      let front = map (now l) (sources_from 0 e.to written) in
      let rest = map (present rows l) (take n ds) in
      let split : map (now l) (sources_from 0 to written) ≡ front ++ map (now l) (sources_from (e.to + 1) to written) =
      ap (map (now l)) (sources_split 0 e.to to written rise (omega arith) (omega (arith, ends))) ∙ map-append (now l) (sources_from 0 e.to written) (sources_from (e.to + 1) to written) in
      ap (λ x. folded aggs (x ∷ rest)) (made_now 0 e.to e.delta base)
      ∙ refolded aggs [] front rest
      ∙ fold_singles front (e.to + 1) n to ds all ends le
      ∙ ap (folded aggs) (sym split)

-- ---- what a sourced table tells

module _ (rows : Rows) (written : List Written) (t : TableMeta) (sourced : IsSourced rows written t) where
  start_at : (o : Option Ending) → t.base ≡ o → start_in t ≡ start_in (record t { base = o })
  start_at o is = ap (λ b. start_in (record t { base = b })) is

  -- the base and the singletons to a version fold to what was written to it
  parts_to : (to : ℕ) → start_in t ≤ to + 1 → to + 1 ≤ start_in t + length t.singles → folded (aggs_of (columns_of t.lineage)) (map (present rows t.lineage) (deltas_to t to)) ≡ folded_now t.lineage (sources_from 0 to written)
  parts_to to le within = by t.base refl sourced.base
    where
      n : ℕ
      n = to + 1 - start_in t

      by : (o : Option Ending) → t.base ≡ o → IfSome o (λ (e : Ending). IsMadeOf rows t.lineage written 0 e.to e.delta)
          → folded (aggs_of (columns_of t.lineage)) (map (present rows t.lineage) (base_deltas t.base ++ take (to + 1 - start_in t) t.singles)) ≡ folded_now t.lineage (sources_from 0 to written)
      by None is base =
          let start : start_in t ≡ 0 = start_at None is in
          let all = subst (λ v. AreMadeOf rows t.lineage written v t.singles) start sourced.singles in
          ap (λ o. folded (aggs_of (columns_of t.lineage)) (map (present rows t.lineage) (base_deltas o ++ take (to + 1 - start_in t) t.singles))) is
          ∙ fold_singles rows t.lineage written sourced.are.rise [] 0 (to + 1 - start_in t) to t.singles all (omega (arith, start)) (omega (arith, le, within))
      by (Some e) is base =
          let start : start_in t ≡ e.to + 1 = start_at (Some e) is in
          let all = subst (λ v. AreMadeOf rows t.lineage written v t.singles) start sourced.singles in
          ap (λ o. folded (aggs_of (columns_of t.lineage)) (map (present rows t.lineage) (base_deltas o ++ take (to + 1 - start_in t) t.singles))) is
          ∙ fold_behind rows t.lineage written sourced.are.rise e (to + 1 - start_in t) to t.singles base all (omega (arith, start, le)) (omega (arith, le, within))

  -- A content is what was written to its version.
  pub content_made : (version : ℕ) → start_in t ≤ version + 1 → version + 1 ≤ start_in t + length t.singles → content rows t version ≡ range_rows t.lineage (epoch_of t.lineage) (sources_from 0 version written)
  content_made version le within = parts_to version le within ∙ sym (range_now t.lineage (sources_from 0 version written))

  -- the first version of a work's range
  abbrev pub first : Bool → ℕ
  first true = 0
  first false = start_in t

  -- What a merged range takes the place of folds to what was written in it.
  pub merged_made : (base : Bool) (to : ℕ) → start_in t ≤ to + 1 → to + 1 ≤ start_in t + length t.singles
      → folded (aggs_of (columns_of t.lineage)) (map (present rows t.lineage) (merged_of t base to)) ≡ range_rows t.lineage (epoch_of t.lineage) (sources_from (first base) to written)
  merged_made true to le within = content_made to le within
  merged_made false to le within =
      fold_singles rows t.lineage written sourced.are.rise [] (start_in t) (to + 1 - start_in t) to t.singles sourced.singles (omega (arith, le)) (omega (arith, le, within))
      ∙ sym (range_now t.lineage (sources_from (start_in t) to written))

  -- So a delta that is made of a work's range may take the place of what the table has of it.
  pub made_replaces : (base : Bool) (to : ℕ) (d : Delta) → start_in t ≤ to + 1 → to + 1 ≤ start_in t + length t.singles → IsMadeOf rows t.lineage written (first base) to d → Replaces rows t.lineage d (merged_of t base to)
  made_replaces base to d le within is = is ∙ sym (merged_made base to le within)

  -- A delta that was merged in its own epoch is made of its range at present, whatever changes came since.
  pub merge_made : (from to : ℕ) (d : Delta) → IsLineage t.lineage → IsMergedOf rows t.lineage written from to d → IsMadeOf rows t.lineage written from to d
  merge_made from to d is m =
      now_made rows t.lineage written sourced.are.rise from to d (lifts_sources rows t.lineage d (sources_from from to written) is m.epochs (forms_from t.lineage from to written sourced.are.forms) m.rows_are)

-- ---- each record

-- a batch: what it brings is written, and is the new singleton's
module _ (rows : Rows) (written : List Written) (t : TableMeta) (p : Option Part) (w : Written) (sourced : IsSourced rows written t) (brings : BringsIfAny rows t p w.source.rows)
    (form : HasForm t.lineage w.source) (present_epoch : w.source.epoch ≡ epoch_of t.lineage) (next : w.version ≡ start_in t + length t.singles) where
  all_below : AllByRecursion (λ (x : Written). x.version < w.version) written
  all_below = subst (λ n. AllByRecursion (λ (x : Written). x.version < n) written) (sym next) sourced.there

  still : (from to : ℕ) (d : Delta) → to < w.version → IsMadeOf rows t.lineage written from to d → IsMadeOf rows t.lineage (written ++ w ∷ []) from to d
  still from to d lt is = is ∙ ap (range_rows t.lineage (epoch_of t.lineage)) (sym (sources_push from to written w lt))

  still_singles : (version : ℕ) (ds : List Delta) → version + length ds ≤ w.version → AreMadeOf rows t.lineage written version ds → AreMadeOf rows t.lineage (written ++ w ∷ []) version ds
  still_singles version [] le all = tt
  still_singles version (d ∷ ds) le all = (still version version d (omega (arith, le)) all.0, still_singles (version + 1) ds (omega (arith, le)) all.1)

  made_push : (version : ℕ) (ds : List Delta) (d : Delta) → AreMadeOf rows t.lineage (written ++ w ∷ []) version ds → IsMadeOf rows t.lineage (written ++ w ∷ []) (version + length ds) (version + length ds) d
      → AreMadeOf rows t.lineage (written ++ w ∷ []) version (ds ++ d ∷ [])
  made_push version [] d all last = ((let e : version + 0 ≡ version = omega arith in subst (λ v. IsMadeOf rows t.lineage (written ++ w ∷ []) v v d) e last), tt)
  made_push version (x ∷ ds) d all last =
      (all.0, made_push (version + 1) ds d all.1 (let e : version + suc (length ds) ≡ version + 1 + length ds = omega arith in subst (λ v. IsMadeOf rows t.lineage (written ++ w ∷ []) v v d) e last))

  last_made : IsMadeOf rows t.lineage (written ++ w ∷ []) (start_in t + length t.singles) (start_in t + length t.singles) (loaded_delta p)
  last_made =
      let one : sources_from w.version w.version (written ++ w ∷ []) ≡ w.source ∷ [] = sources_one written [] w all_below tt in
      let its : now t.lineage w.source ≡ w.source.rows = own_rows in
      let made : IsMadeOf rows t.lineage (written ++ w ∷ []) w.version w.version (loaded_delta p) =
      new_rows rows t p w.source.rows brings ∙ ap (λ part. folded (aggs_of (columns_of t.lineage)) (part ∷ [])) (sym its) ∙ sym (ap (range_rows t.lineage (epoch_of t.lineage)) one ∙ range_now t.lineage (w.source ∷ [])) in
      subst (λ v. IsMadeOf rows t.lineage (written ++ w ∷ []) v v (loaded_delta p)) next made
    where
      own_rows : now t.lineage w.source ≡ w.source.rows
      own_rows = ap (λ e. map (lifted t.lineage e (epoch_of t.lineage)) w.source.rows) present_epoch ∙ present_now t.lineage w.source.rows

  last_of_base : (e : Ending) → t.base ≡ Some e → e.to < w.version
  last_of_base e is = (let start : start_in t ≡ e.to + 1 = ap (λ b. start_in (record t { base = b })) is in omega (arith, start, next))

  still_base : (o : Option Ending) → t.base ≡ o → IfSome o (λ (e : Ending). IsMadeOf rows t.lineage written 0 e.to e.delta) → IfSome o (λ (e : Ending). IsMadeOf rows t.lineage (written ++ w ∷ []) 0 e.to e.delta)
  still_base None is made = made
  still_base (Some e) is made = still 0 e.to e.delta (last_of_base e is) made

  are_more : AreWritten t.lineage (written ++ w ∷ [])
  are_more = record { rise = rise_push 0 written w sourced.are.rise all_below (omega arith); forms = all_append (λ (x : Written). HasForm t.lineage x.source) written (w ∷ []) sourced.are.forms (form, tt) }

  there_more : (n : ℕ) → n ≡ length t.singles + 1 → AllByRecursion (λ (x : Written). x.version < start_in t + n) (written ++ w ∷ [])
  there_more n is =
      all_append (λ (x : Written). x.version < start_in t + n) written (w ∷ [])
      (all_so (λ (x : Written). x.version < start_in t + length t.singles) (λ (x : Written). x.version < start_in t + n) written (λ x lt. (let e : x.version < start_in t + n = omega (arith, lt, is) in e)) sourced.there)
      ((let e : w.version < start_in t + n = omega (arith, next, is) in e), tt)

  pub loaded_sourced : AllByRecursion (λ (e : Ending). e.to < start_in t + length t.singles) t.cumulatives → IsSourced rows (written ++ w ∷ []) (meta_loaded t p)
  loaded_sourced ends = by p refl
    where
      cumulatives : AllByRecursion (λ (e : Ending). IsMadeOf rows t.lineage (written ++ w ∷ []) (start_in t) e.to e.delta) t.cumulatives
      cumulatives = all_both (λ (e : Ending). e.to < start_in t + length t.singles) (λ (e : Ending). IsMadeOf rows t.lineage written (start_in t) e.to e.delta) (λ (e : Ending). IsMadeOf rows t.lineage (written ++ w ∷ []) (start_in t) e.to e.delta) t.cumulatives
          (λ e lt made. still (start_in t) e.to e.delta (omega (arith, lt, next)) made) ends sourced.cumulatives

      singles : AreMadeOf rows t.lineage (written ++ w ∷ []) (start_in t) (t.singles ++ loaded_delta p ∷ [])
      singles = made_push (start_in t) t.singles (loaded_delta p) (still_singles (start_in t) t.singles (omega (arith, next)) sourced.singles) last_made

      by : (q : Option Part) → p ≡ q → IsSourced rows (written ++ w ∷ []) (meta_loaded t q)
      by None is = record {
        are = are_more;
        there = there_more (length (t.singles ++ empty_delta ∷ [])) (length-append t.singles (empty_delta ∷ []));
        base = still_base t.base refl sourced.base;
        cumulatives = cumulatives;
        singles = subst (λ q. AreMadeOf rows t.lineage (written ++ w ∷ []) (start_in t) (t.singles ++ loaded_delta q ∷ [])) is singles;
      }
      by (Some q) is = record {
        are = are_more;
        there = there_more (length (t.singles ++ part_delta q ∷ [])) (length-append t.singles (part_delta q ∷ []));
        base = still_base t.base refl sourced.base;
        cumulatives = cumulatives;
        singles = subst (λ q. AreMadeOf rows t.lineage (written ++ w ∷ []) (start_in t) (t.singles ++ loaded_delta q ∷ [])) is singles;
      }

-- a view
pub viewed_sourced : (rows : Rows) (written : List Written) (t : TableMeta) (name : List ℕ) (keys values : List (List ℕ)) → IsSourced rows written t → IsSourced rows written (meta_viewed t name keys values)
viewed_sourced rows written t name keys values is = record {
  are = record {
    rise = is.are.rise;
    forms = all_so (λ (w : Written). HasForm t.lineage w.source) (λ (w : Written). HasForm (meta_viewed t name keys values).lineage w.source) written (λ w has. record { epoch = has.epoch; form = has.form }) is.are.forms;
  };
  there = is.there;
  base = is.base;
  cumulatives = is.cumulatives;
  singles = same (start_in t) t.singles is.singles;
}
  where
    same : (version : ℕ) (ds : List Delta) → AreMadeOf rows t.lineage written version ds → AreMadeOf rows (meta_viewed t name keys values).lineage written version ds
    same version [] all = tt
    same version (d ∷ ds) all = (all.0, same (version + 1) ds all.1)

-- a change
module _ (rows : Rows) (floor next : ℕ) (written : List Written) (t : TableMeta) (c : Change) (shaped : IsShaped floor next t) (default : HasDefault c) (sourced : IsSourced rows written t) where
  made_more : (from to : ℕ) (d : Delta) → d.epoch ≤ epoch_of t.lineage → IsMadeOf rows t.lineage written from to d → IsMadeOf rows (with_change t.lineage c) written from to d
  made_more from to d le is =
      now_made rows (with_change t.lineage c) written sourced.are.rise from to d
      (changes_sources rows t.lineage c d (sources_from from to written) shaped.lineage default le (forms_from t.lineage from to written sourced.are.forms) (made_now rows t.lineage written sourced.are.rise from to d is))

  abbrev E : Delta → Type 0
  E d = d.epoch ≤ epoch_of t.lineage

  base_more : (o : Option Ending) → AllByRecursion E (base_deltas o) → IfSome o (λ (e : Ending). IsMadeOf rows t.lineage written 0 e.to e.delta) → IfSome o (λ (e : Ending). IsMadeOf rows (with_change t.lineage c) written 0 e.to e.delta)
  base_more None les made = made
  base_more (Some e) les made = made_more 0 e.to e.delta les.0 made

  endings_more : (es : List Ending) → AllByRecursion E (map delta_in es) → AllByRecursion (λ (e : Ending). IsMadeOf rows t.lineage written (start_in t) e.to e.delta) es → AllByRecursion (λ (e : Ending). IsMadeOf rows (with_change t.lineage c) written (start_in t) e.to e.delta) es
  endings_more [] les all = tt
  endings_more (e ∷ es) les all = (made_more (start_in t) e.to e.delta les.0 all.0, endings_more es les.1 all.1)

  singles_more : (version : ℕ) (ds : List Delta) → AllByRecursion E ds → AreMadeOf rows t.lineage written version ds → AreMadeOf rows (with_change t.lineage c) written version ds
  singles_more version [] les all = tt
  singles_more version (d ∷ ds) les all = (made_more version version d les.0 all.0, singles_more (version + 1) ds les.1 all.1)

  pub altered_sourced : IsSourced rows written (meta_changed t c)
  altered_sourced =
      let rest = all_back E (base_deltas t.base) (map delta_in t.cumulatives ++ t.singles) shaped.epochs in
      record {
        are = record { rise = sourced.are.rise; forms = all_so (λ (w : Written). HasForm t.lineage w.source) (λ (w : Written). HasForm (with_change t.lineage c) w.source) written (λ w has. form_more t.lineage c w.source has) sourced.are.forms };
        there = sourced.there;
        base = base_more t.base (all_front E (base_deltas t.base) (map delta_in t.cumulatives ++ t.singles) shaped.epochs) sourced.base;
        cumulatives = endings_more t.cumulatives (all_front E (map delta_in t.cumulatives) t.singles rest) sourced.cumulatives;
        singles = singles_more (start_in t) t.singles (all_back E (map delta_in t.cumulatives) t.singles rest) sourced.singles;
      }

-- a merged range
made_drop : (rows : Rows) (l : Lineage) (written : List Written) (version n : ℕ) (ds : List Delta) → AreMadeOf rows l written version ds → AreMadeOf rows l written (version + n) (drop n ds)
made_drop rows l written version zero ds all = (let e : version + 0 ≡ version = omega arith in subst (λ v. AreMadeOf rows l written v ds) (sym e) all)
made_drop rows l written version (suc n) [] all = tt
made_drop rows l written version (suc n) (d ∷ ds) all = (let e : version + 1 + n ≡ version + suc n = omega arith in subst (λ v. AreMadeOf rows l written v (drop n ds)) e (made_drop rows l written (version + 1) n ds all.1))

pub swapped_sourced : (rows : Rows) (written : List Written) (t : TableMeta) (base : Bool) (to : ℕ) (d : Delta) (sourced : IsSourced rows written t) → start_in t ≤ to + 1 → to + 1 ≤ start_in t + length t.singles
    → IsMadeOf rows t.lineage written (first rows written t sourced base) to d → IsSourced rows written (meta_swapped t base to d)
swapped_sourced rows written t true to d sourced le within made =
    let n = to + 1 - start_in t in
    let cut = length-drop n t.singles in
    let from : start_in t + n ≡ to + 1 = omega (arith, le) in
    let same : to + 1 + length (drop n t.singles) ≡ start_in t + length t.singles = omega (arith, cut, le, within) in
    record {
      are = sourced.are;
      there = subst (λ k. AllByRecursion (λ (w : Written). w.version < k) written) (sym same) sourced.there;
      base = made;
      cumulatives = tt;
      singles = subst (λ v. AreMadeOf rows t.lineage written v (drop n t.singles)) from (made_drop rows t.lineage written (start_in t) n t.singles sourced.singles);
    }
swapped_sourced rows written t false to d sourced le within made = record {
  are = sourced.are;
  there = sourced.there;
  base = sourced.base;
  cumulatives = all_append (λ (e : Ending). IsMadeOf rows t.lineage written (start_in t) e.to e.delta) t.cumulatives (record { to = to; delta = d } ∷ []) sourced.cumulatives (made, tt);
  singles = sourced.singles;
}
