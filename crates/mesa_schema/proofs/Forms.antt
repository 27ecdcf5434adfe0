-- Rows keep their form through changes, and folding goes along with changes.
use Rattle.std.proofs.Common.{◌≡◌, ℕ, ◌+◌, List, [], ◌∷◌, ◌++◌, refl, sym, ◌∙◌, ap, subst, length, map, arith}
use Rattle.std.proofs.lemmas.List.{append-nil, length-append, map-append, map-id}
use Rattle.std.proofs.lemmas.Simd.{map-map}
use Rattle.std.proofs.lemmas.Grind.{flat_map-append}
use Rattle.std.proofs.lemmas.Int.{ints}
use Rattle.std.specs.Prelude.{ℤ, unwrap_or}
use Rattle.std.specs.List.{AllByRecursion}
use Rattle.mesa_fold.specs.mesa_value.declared.Agg.{Agg}
use Rattle.mesa_fold.specs.mesa_value.declared.Agg.TheVariants.{Sum, Min, Max, Replace}
use Rattle.mesa_fold.specs.mesa_value.Agg.{IsDefault, combined}
use Rattle.mesa_fold.specs.mesa_key.declared.KeyType.{KeyType}
use Rattle.mesa_fold.specs.mesa_key.declared.KeyValue.{KeyValue}
use Rattle.mesa_fold.specs.mesa_key.Spelling.{IsKey, IsValue, key_of, key_spelling, value_spelling}
use Rattle.mesa_columns.specs.declared.columns.KeyColumn.{KeyColumn}
use Rattle.mesa_columns.specs.declared.columns.ValueColumn.{ValueColumn}
use Rattle.mesa_columns.specs.declared.rows.Row.{Row}
use Rattle.mesa_columns.specs.declared.changes.Change.{Change}
use Rattle.mesa_columns.specs.declared.changes.Change.TheVariants.{AddKey, AddValue, DropValue}
use Rattle.mesa_columns.specs.Columns.{Columns, aggs_of, kinds_of, place_of, value_names}
use Rattle.mesa_columns.specs.Changes.{changed, columns_after, lifted_by, lifted_once, without}
use Rattle.mesa_schema.specs.Lineages.{HasDefault}
use Rattle.mesa_columns.specs.Rows.{AreOf, AreRowsOf, IsRowOf}
use Rattle.mesa_fold.specs.Folded.{folded, rows_of}
use Rattle.mesa_columns.proofs.Drops.{without-length, without-map}
use Rattle.mesa_fold.proofs.Drops.{dropped-folded}
use Rattle.mesa_fold.proofs.KeyLifts.{longer-folded}
use Rattle.mesa_fold.proofs.Lifts.{appended-folded}
use Rattle.mesa_fold.proofs.Ranges.{of_default, ranges_more, ranges_without}
use Rattle.mesa_fold.proofs.Forms.{spells_key, row-full, rows-full, rows-spell, rows_of-map}

-- ---- the form of rows

key-more : (types : List KeyType) (key : List KeyValue) (kind : KeyType) (value : KeyValue) → IsKey types key → IsValue kind value → IsKey (types ++ kind ∷ []) (key ++ value ∷ [])
key-more [] [] kind value h v = (v, tt)
key-more [] (x ∷ key) kind value h v = absurd h
key-more (t ∷ types) [] kind value h v = absurd h
key-more (t ∷ types) (x ∷ key) kind value h v = (h.0, key-more types key kind value h.1 v)

one_form : (s : Columns) (change : Change) (row : Row) → HasDefault change → IsRowOf s row → IsRowOf (changed s change) (lifted_once s change row)
one_form s (AddValue column d) row f h = record {
  key = h.key;
  spelled = h.spelled;
  values = length-append row.values (d ∷ []) ∙ ap (λ n. n + 1) h.values ∙ sym (length-append s.values (column ∷ []));
  ranges =
      subst (λ (gs : List Agg). AreOf gs (row.values ++ d ∷ [])) (sym (map-append (λ (c : ValueColumn). c.agg) s.values (column ∷ [])))
      (ranges_more (aggs_of s) row.values column.agg d (row-full s row h) h.ranges (of_default column.agg d f));
}
one_form s (DropValue name) row f h = record {
  key = h.key;
  spelled = h.spelled;
  values = without-length (unwrap_or (place_of name (value_names s)) (length s.values)) row.values s.values h.values;
  ranges =
      let i : ℕ = unwrap_or (place_of name (value_names s)) (length s.values) in
      subst (λ (gs : List Agg). AreOf gs (without i row.values)) (sym (without-map (λ (c : ValueColumn). c.agg) i s.values)) (ranges_without i (aggs_of s) row.values (row-full s row h) h.ranges);
}
one_form s (AddKey column d) row f h =
    let key : List KeyValue = key_of (kinds_of s) row.key in
    let types : kinds_of s ++ column.kind ∷ [] ≡ kinds_of (changed s (AddKey column d)) = sym (map-append (λ (c : KeyColumn). c.kind) s.keys (column ∷ [])) in
    let bytes : row.key ++ value_spelling d ≡ key_spelling (key ++ d ∷ []) =
    ap (λ xs. xs ++ value_spelling d) (sym h.spelled) ∙ ap (λ xs. key_spelling key ++ xs) (sym (append-nil (value_spelling d))) ∙ sym (flat_map-append value_spelling key (d ∷ [])) in
    let spells = spells_key (kinds_of (changed s (AddKey column d))) (key ++ d ∷ []) (row.key ++ value_spelling d) (subst (λ ts. IsKey ts (key ++ d ∷ [])) types (key-more (kinds_of s) key column.kind d h.key f)) bytes in
    record { key = spells.key; spelled = spells.spelled; values = h.values; ranges = h.ranges }

-- A lifted row has the form of the later columns.
pub lifted_form : (s : Columns) (changes : List Change) (row : Row) → AllByRecursion HasDefault changes → IsRowOf s row → IsRowOf (columns_after s changes) (lifted_by s changes row)
lifted_form s [] row f h = h
lifted_form s (change ∷ changes) row f h = lifted_form (changed s change) changes (lifted_once s change row) f.1 (one_form s change row f.0 h)

-- ---- folding and lifting

keeps : (agg : Agg) (d : ℤ) → IsDefault agg d → combined agg d d ≡ d
keeps Sum d h = omega (arith, ints, h)
keeps Min d h = grind (arith, ints)
keeps Max d h = grind (arith, ints)
keeps Replace d h = refl

lifts_once : (s : Columns) (change : Change) (parts : List (List Row)) → HasDefault change → AreRowsOf s (rows_of parts)
    → map (lifted_once s change) (folded (aggs_of s) parts) ≡ folded (aggs_of (changed s change)) (map (map (lifted_once s change)) parts)
lifts_once s (AddValue column d) parts f all =
    appended-folded (aggs_of s) column.agg d (keeps column.agg d f) parts (rows-full s (rows_of parts) all)
    ∙ ap (λ aggs. folded aggs (map (map (lifted_once s (AddValue column d))) parts)) (sym (map-append (λ (c : ValueColumn). c.agg) s.values (column ∷ [])))
lifts_once s (DropValue name) parts f all =
    let i : ℕ = unwrap_or (place_of name (value_names s)) (length s.values) in
    dropped-folded (aggs_of s) i parts (rows-full s (rows_of parts) all)
    ∙ ap (λ aggs. folded aggs (map (map (lifted_once s (DropValue name))) parts)) (sym (without-map (λ (c : ValueColumn). c.agg) i s.values))
lifts_once s (AddKey column d) parts f all = longer-folded (kinds_of s) (value_spelling d) (aggs_of s) parts (rows-spell s (rows_of parts) all)

one_forms : (s : Columns) (change : Change) (rows : List Row) → HasDefault change → AreRowsOf s rows → AreRowsOf (changed s change) (map (lifted_once s change) rows)
one_forms s change [] f h = tt
one_forms s change (row ∷ rows) f h = (one_form s change row f h.0, one_forms s change rows f h.1)

same-parts : (parts : List (List Row)) → map (map (λ row. row)) parts ≡ parts
same-parts [] = refl
same-parts (part ∷ parts) = λ i. map-id part i ∷ same-parts parts i

pub after-parts : (f g : Row → Row) (parts : List (List Row)) → map (map g) (map (map f) parts) ≡ map (map (λ row. g (f row))) parts
after-parts f g [] = refl
after-parts f g (part ∷ parts) = λ i. map-map g f part i ∷ after-parts f g parts i

-- Rows may be lifted before folding or after it.
pub lifts_folded : (s : Columns) (changes : List Change) (parts : List (List Row)) → AllByRecursion HasDefault changes → AreRowsOf s (rows_of parts)
    → map (lifted_by s changes) (folded (aggs_of s) parts) ≡ folded (aggs_of (columns_after s changes)) (map (map (lifted_by s changes)) parts)
lifts_folded s [] parts f all = map-id (folded (aggs_of s) parts) ∙ ap (folded (aggs_of s)) (sym (same-parts parts))
lifts_folded s (change ∷ changes) parts f all =
    let once : Row → Row = lifted_once s change in
    let rest : Row → Row = lifted_by (changed s change) changes in
    sym (map-map rest once (folded (aggs_of s) parts))
    ∙ ap (map rest) (lifts_once s change parts f.0 all)
    ∙ lifts_folded (changed s change) changes (map (map once) parts) f.1 (subst (AreRowsOf (changed s change)) (sym (rows_of-map once parts)) (one_forms s change (rows_of parts) f.0 all))
    ∙ ap (folded (aggs_of (columns_after (changed s change) changes))) (after-parts once rest parts)
