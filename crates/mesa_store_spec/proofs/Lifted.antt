-- Rows as they were written, lifted and folded.
use Rattle.std.proofs.Common.{◌≡◌, ℕ, ◌-◌, ◌≤◌, List, [], ◌∷◌, map, take, drop, refl, sym, ◌∙◌, ap, subst, arith}
use Rattle.std.proofs.lemmas.List.{take-append-le, take_all}
use Rattle.std.proofs.lemmas.Simd.{map-map}
use Rattle.std.specs.List.{AllByRecursion}
use Rattle.mesa_history_spec.specs.mesa_columns.declared.rows.Row.{Row}
use Rattle.mesa_history_spec.specs.mesa_columns.declared.changes.Change.{Change}
use Rattle.mesa_history_spec.specs.mesa_columns.Columns.{aggs_of}
use Rattle.mesa_history_spec.specs.mesa_columns.Changes.{columns_after, lifted_once}
use Rattle.mesa_history_spec.specs.mesa_schema.Changes.{Lineage, columns_at, columns_of, epoch_of, lifted, with_change}
use Rattle.mesa_history_spec.specs.mesa_fold.Folded.{folded, rows_of}
use Rattle.mesa_history_spec.specs.mesa_schema.Lineages.{HasDefault, IsLineage}
use Rattle.mesa_history_spec.specs.mesa_columns.Rows.{AreRowsOf, IsRowOf}
use Rattle.mesa_history_spec.proofs.mesa_schema.Forms.{lifted_form, lifts_folded}
use Rattle.mesa_history_spec.proofs.mesa_columns.Lists.{all_append, all_drop, all_map, all_so, map_is}
use Rattle.mesa_history_spec.proofs.mesa_schema.PresentRows.{columns_more, epoch_more, lifted_more, present_folds, present_form}
use Rattle.mesa_history_spec.specs.Sources.{Source, range_rows, source_at}
use Rattle.mesa_store_spec.specs.Catalog.{Delta}
use Rattle.mesa_store_spec.specs.Contents.{Rows, present, rows_in}
use Rattle.mesa_store_spec.specs.Sourced.{HasForm}
use Rattle.mesa_store_spec.proofs.Lists.{all_take}
use Rattle.mesa_store_spec.proofs.Altered.{columns_on, lifted_twice, present_more}

-- ---- at present

pub columns_now : (l : Lineage) → columns_at l (epoch_of l) ≡ columns_of l
columns_now l = ap (columns_after l.first) (take_all (epoch_of l - l.begins) l.changes (omega arith))

-- rows at present
abbrev pub now : Lineage → Source → List Row
now l s = source_at l (epoch_of l) s

-- the fold at present
abbrev pub folded_now : Lineage → List Source → List Row
folded_now l sources = folded (aggs_of (columns_of l)) (map (now l) sources)

pub range_now : (l : Lineage) (sources : List Source) → range_rows l (epoch_of l) sources ≡ folded_now l sources
range_now l sources = ap (λ s. folded (aggs_of s) (map (now l) sources)) (columns_now l)

pub form_now : (l : Lineage) (s : Source) → IsLineage l → HasForm l s → AreRowsOf (columns_of l) (now l s)
form_now l s is has =
    all_map (IsRowOf (columns_of l)) (lifted l s.epoch (epoch_of l)) s.rows
    (all_so (IsRowOf (columns_at l s.epoch)) (λ row. IsRowOf (columns_of l) (lifted l s.epoch (epoch_of l) row)) s.rows (λ row form. present_form l s.epoch row is form) has.form)

pub forms_now : (l : Lineage) (sources : List Source) → IsLineage l → AllByRecursion (HasForm l) sources → AreRowsOf (columns_of l) (rows_of (map (now l) sources))
forms_now l [] is all = tt
forms_now l (s ∷ sources) is all = all_append (IsRowOf (columns_of l)) (now l s) (rows_of (map (now l) sources)) (form_now l s is all.0) (forms_now l sources is all.1)

-- ---- at an earlier epoch

form_at : (l : Lineage) (epoch : ℕ) (s : Source) → IsLineage l → s.epoch ≤ epoch → HasForm l s → AreRowsOf (columns_at l epoch) (source_at l epoch s)
form_at l epoch s is le has =
    let from = s.epoch - l.begins in
    let count = epoch - l.begins - from in
    let some : List Change = take count (drop from l.changes) in
    let defaults = all_take HasDefault count (drop from l.changes) (all_drop HasDefault from l.changes is.defaults) in
    all_map (IsRowOf (columns_at l epoch)) (lifted l s.epoch epoch) s.rows
    (all_so (IsRowOf (columns_at l s.epoch)) (λ row. IsRowOf (columns_at l epoch) (lifted l s.epoch epoch row)) s.rows
    (λ row form. subst (λ c. IsRowOf c (lifted l s.epoch epoch row)) (columns_on l s.epoch epoch le) (lifted_form (columns_at l s.epoch) some row defaults form)) has.form)

forms_at : (l : Lineage) (epoch : ℕ) (sources : List Source) → IsLineage l → AllByRecursion (λ (s : Source). s.epoch ≤ epoch) sources → AllByRecursion (HasForm l) sources → AreRowsOf (columns_at l epoch) (rows_of (map (source_at l epoch) sources))
forms_at l epoch [] is les all = tt
forms_at l epoch (s ∷ sources) is les all =
    all_append (IsRowOf (columns_at l epoch)) (source_at l epoch s) (rows_of (map (source_at l epoch) sources)) (form_at l epoch s is les.0 all.0) (forms_at l epoch sources is les.1 all.1)

lifted_on : (l : Lineage) (epoch : ℕ) (sources : List Source) → AllByRecursion (λ (s : Source). s.epoch ≤ epoch) sources → map (map (lifted l epoch (epoch_of l))) (map (source_at l epoch) sources) ≡ map (now l) sources
lifted_on l epoch [] les = refl
lifted_on l epoch (s ∷ sources) les =
    λ i. (map-map (lifted l epoch (epoch_of l)) (lifted l s.epoch epoch) s.rows ∙ sym (map_is (lifted l s.epoch (epoch_of l)) (λ row. lifted l epoch (epoch_of l) (lifted l s.epoch epoch row)) s.rows (λ row. lifted_twice l s.epoch epoch row les.0))) i
    ∷ lifted_on l epoch sources les.1 i

-- What was folded in an earlier epoch is so at present.
pub lifts_sources : (rows : Rows) (l : Lineage) (d : Delta) (sources : List Source) → IsLineage l → AllByRecursion (λ (s : Source). s.epoch ≤ d.epoch) sources → AllByRecursion (HasForm l) sources
    → rows_in rows d ≡ range_rows l d.epoch sources → present rows l d ≡ folded_now l sources
lifts_sources rows l d sources is les forms same =
    ap (map (lifted l d.epoch (epoch_of l))) same
    ∙ present_folds l d.epoch (map (source_at l d.epoch) sources) is (forms_at l d.epoch sources is les forms)
    ∙ ap (folded (aggs_of (columns_of l))) (lifted_on l d.epoch sources les)

-- ---- after a change

pub form_more : (l : Lineage) (c : Change) (s : Source) → HasForm l s → HasForm (with_change l c) s
form_more l c s has =
    let le = has.epoch in
    record {
      epoch = omega (arith, le, epoch_more l c);
      form = subst (λ changes. AreRowsOf (columns_after l.first changes) s.rows) (sym (take-append-le (s.epoch - l.begins) l.changes (c ∷ []) (omega (arith, le)))) has.form;
    }

now_more : (l : Lineage) (c : Change) (sources : List Source) → AllByRecursion (HasForm l) sources → map (now (with_change l c)) sources ≡ map (map (lifted_once (columns_of l) c)) (map (now l) sources)
now_more l c [] all = refl
now_more l c (s ∷ sources) all =
    λ i. (map_is (lifted (with_change l c) s.epoch (epoch_of (with_change l c))) (λ row. lifted_once (columns_of l) c (lifted l s.epoch (epoch_of l) row)) s.rows (λ row. lifted_more l c s.epoch row all.0.epoch)
    ∙ sym (map-map (lifted_once (columns_of l) c) (lifted l s.epoch (epoch_of l)) s.rows)) i
    ∷ now_more l c sources all.1 i

-- What a delta was made of it is made of after a change.
pub changes_sources : (rows : Rows) (l : Lineage) (c : Change) (d : Delta) (sources : List Source) → IsLineage l → HasDefault c → d.epoch ≤ epoch_of l → AllByRecursion (HasForm l) sources
    → present rows l d ≡ folded_now l sources → present rows (with_change l c) d ≡ folded_now (with_change l c) sources
changes_sources rows l c d sources is default le forms same =
    present_more rows l c d le ∙ ap (map (lifted_once (columns_of l) c)) same
    ∙ lifts_folded (columns_of l) (c ∷ []) (map (now l) sources) (default, tt) (forms_now l sources is forms)
    ∙ (λ i. folded (aggs_of (sym (columns_more l c) i)) (sym (now_more l c sources forms) i))
