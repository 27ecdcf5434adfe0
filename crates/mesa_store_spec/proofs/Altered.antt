-- Rows and contents after a change of a table's columns, and what a plan with a cumulative folds to.
use Rattle.std.proofs.Common.{◌≡◌, ℕ, ◌+◌, ◌-◌, ◌≤◌, List, [], ◌∷◌, ◌++◌, map, take, drop, refl, sym, ◌∙◌, ap, arith, append_assoc}
use Rattle.std.proofs.lemmas.List.{map-append, take-append-drop, drop-drop}
use Rattle.std.proofs.lemmas.Simd.{map-map}
use Rattle.mesa_history_spec.specs.mesa_columns.declared.rows.Row.{Row}
use Rattle.mesa_history_spec.specs.mesa_columns.declared.changes.Change.{Change}
use Rattle.mesa_history_spec.specs.mesa_columns.Columns.{aggs_of}
use Rattle.mesa_history_spec.specs.mesa_columns.Changes.{columns_after, lifted_by, lifted_once}
use Rattle.mesa_history_spec.specs.mesa_schema.Changes.{Lineage, columns_at, columns_of, epoch_of, lifted, with_change}
use Rattle.mesa_history_spec.specs.mesa_schema.Lineages.{HasDefault}
use Rattle.mesa_history_spec.specs.mesa_fold.Folded.{folded}
use Rattle.mesa_history_spec.proofs.mesa_schema.Forms.{lifts_folded}
use Rattle.mesa_history_spec.proofs.mesa_columns.Lists.{map_is}
use Rattle.mesa_history_spec.proofs.mesa_schema.PresentRows.{columns_after-append, columns_more, lifted_all, lifted_by-append, lifted_more}
use Rattle.mesa_history_spec.proofs.mesa_fold.Refolds.{refolded}
use Rattle.mesa_store_spec.specs.Catalog.{Delta, Ending, TableMeta, start_in, meta_changed}
use Rattle.mesa_store_spec.specs.Fitting.{base_deltas}
use Rattle.mesa_store_spec.specs.Contents.{Rows, rows_in, present, deltas_to, content}
use Rattle.mesa_store_spec.specs.Sound.{IsMerged}
use Rattle.mesa_store_spec.specs.Brought.{Replaces}
use Rattle.mesa_store_spec.proofs.Contents.{drop_take}
use Rattle.mesa_store_spec.proofs.Formed.{AreFormed, AreOfEpochs, rows_formed}

pub columns_on : (l : Lineage) (a b : ℕ) → a ≤ b → columns_after (columns_at l a) (take (b - l.begins - (a - l.begins)) (drop (a - l.begins) l.changes)) ≡ columns_at l b
columns_on l a b le =
    let i = a - l.begins in
    let j = b - l.begins in
    sym (columns_after-append l.first (take i l.changes) (take (j - i) (drop i l.changes))) ∙ ap (columns_after l.first) (drop_take i j l.changes (omega (arith, le)))

-- A row lifted to an epoch and then to the present one.
pub lifted_twice : (l : Lineage) (a b : ℕ) (row : Row) → a ≤ b → lifted l a (epoch_of l) row ≡ lifted l b (epoch_of l) (lifted l a b row)
lifted_twice l a b row le =
    let i = a - l.begins in
    let j = b - l.begins in
    let front = take (j - i) (drop i l.changes) in
    let at : i + (j - i) ≡ j = omega (arith, le) in
    let split : front ++ drop j l.changes ≡ drop i l.changes = ap (λ ds. front ++ ds) (sym (drop-drop (j - i) i l.changes ∙ ap (λ n. drop n l.changes) at)) ∙ take-append-drop (j - i) (drop i l.changes) in
    lifted_all l a row
    ∙ ap (λ changes. lifted_by (columns_at l a) changes row) (sym split)
    ∙ lifted_by-append (columns_at l a) front (drop j l.changes) row
    ∙ ap (λ s. lifted_by s (drop j l.changes) (lifted_by (columns_at l a) front row)) (columns_on l a b le)
    ∙ sym (lifted_all l b (lifted_by (columns_at l a) front row))

pub present_more : (rows : Rows) (l : Lineage) (c : Change) (d : Delta) → d.epoch ≤ epoch_of l → present rows (with_change l c) d ≡ map (lifted_once (columns_of l) c) (present rows l d)
present_more rows l c d le =
    map_is (lifted (with_change l c) d.epoch (epoch_of (with_change l c))) (λ row. lifted_once (columns_of l) c (lifted l d.epoch (epoch_of l) row)) (rows_in rows d) (λ row. lifted_more l c d.epoch row le)
    ∙ sym (map-map (lifted_once (columns_of l) c) (lifted l d.epoch (epoch_of l)) (rows_in rows d))

parts_more : (rows : Rows) (l : Lineage) (c : Change) (ds : List Delta) → AreOfEpochs (epoch_of l) ds → map (present rows (with_change l c)) ds ≡ map (map (lifted_once (columns_of l) c)) (map (present rows l) ds)
parts_more rows l c [] all = refl
parts_more rows l c (d ∷ ds) all = λ i. present_more rows l c d all.0 i ∷ parts_more rows l c ds all.1 i

-- The fold of deltas after a change is the changed fold.
pub fold_altered : (rows : Rows) (l : Lineage) (c : Change) (ds : List Delta) → HasDefault c → AreOfEpochs (epoch_of l) ds → AreFormed rows l ds
    → folded (aggs_of (columns_of (with_change l c))) (map (present rows (with_change l c)) ds) ≡ map (lifted_once (columns_of l) c) (folded (aggs_of (columns_of l)) (map (present rows l) ds))
fold_altered rows l c ds default epochs formed =
    (λ i. folded (aggs_of (columns_more l c i)) (parts_more rows l c ds epochs i))
    ∙ sym (lifts_folded (columns_of l) (c ∷ []) (map (present rows l) ds) (default, tt) (rows_formed rows l ds formed))

-- A content after a change is the lifted one.
pub content_altered : (rows : Rows) (t : TableMeta) (c : Change) (version : ℕ) → HasDefault c → AreOfEpochs (epoch_of t.lineage) (deltas_to t version) → AreFormed rows t.lineage (deltas_to t version)
    → content rows (meta_changed t c) version ≡ map (lifted_once (columns_of t.lineage) c) (content rows t version)
content_altered rows t c version default epochs formed = fold_altered rows t.lineage c (deltas_to t version) default epochs formed

-- What replaces deltas still does after a change; so a merged range stays so, and a cumulative too.
pub replaces_altered : (rows : Rows) (l : Lineage) (c : Change) (d : Delta) (olds : List Delta) → HasDefault c → d.epoch ≤ epoch_of l → AreOfEpochs (epoch_of l) olds → AreFormed rows l olds
    → Replaces rows l d olds → Replaces rows (with_change l c) d olds
replaces_altered rows l c d olds default le epochs formed is =
    present_more rows l c d le ∙ ap (map (lifted_once (columns_of l) c)) is ∙ sym (fold_altered rows l c olds default epochs formed)

-- A plan that reads a cumulative in the place of its singletons folds to the same.
pub plan_folds : (rows : Rows) (t : TableMeta) (e : Ending) (version : ℕ) → start_in t ≤ e.to → e.to ≤ version → IsMerged rows t e
    → folded (aggs_of (columns_of t.lineage)) (map (present rows t.lineage) (base_deltas t.base) ++ present rows t.lineage e.delta ∷ map (present rows t.lineage) (take (version - e.to) (drop (e.to + 1 - start_in t) t.singles)))
    ≡ content rows t version
plan_folds rows t e version behind within merged =
    let l = t.lineage in
    let aggs = aggs_of (columns_of l) in
    let n = e.to + 1 - start_in t in
    let m = version + 1 - start_in t in
    let bases = map (present rows l) (base_deltas t.base) in
    let front = map (present rows l) (take n t.singles) in
    let rest = map (present rows l) (take (version - e.to) (drop n t.singles)) in
    let k : version - e.to ≡ m - n = omega (arith, behind, within) in
    let split : take n t.singles ++ take (version - e.to) (drop n t.singles) ≡ take m t.singles = ap (λ j. take n t.singles ++ take j (drop n t.singles)) k ∙ drop_take n m t.singles (omega (arith, within)) in
    ap (λ x. folded aggs (bases ++ x ∷ rest)) merged
    ∙ refolded aggs bases front rest
    ∙ ap (folded aggs) (append_assoc bases front rest)
    ∙ ap (λ x. folded aggs (bases ++ x)) (sym (map-append (present rows l) (take n t.singles) (take (version - e.to) (drop n t.singles))) ∙ ap (map (present rows l)) split)
    ∙ ap (folded aggs) (sym (map-append (present rows l) (base_deltas t.base) (take m t.singles)))
