-- A load keeps the fold law: one version more is the fold of the newest content and of the batch's rows.
use Rattle.std.proofs.Common.{◌≡◌, ℕ, zero, suc, ◌+◌, ◌-◌, ◌<◌, ◌≤◌, List, [], ◌∷◌, ◌++◌, map, length, filter, get_or, refl, sym, ◌∙◌, ap, subst, arith, slice_get, Some, Ok, nat_lt, nat_le, cond, true, ◌⊎◌, inl, inr}
use Rattle.std.specs.List.{AllByRecursion}
use Rattle.std.proofs.lemmas.Bool.{cases_lt, le-leb, lt-leb}
use Rattle.std.proofs.lemmas.List.{append-nil, get_or_append_left, get_or_past, get_or_push, length-append, map-append, nil_from_length}
use Rattle.std.proofs.lemmas.List.Elements.{filter-append}
use Rattle.std.proofs.lemmas.Option.{get_or_from_slice_get}
use Rattle.mesa_history_spec.specs.mesa_value.declared.Agg.{Agg}
use Rattle.mesa_history_spec.specs.mesa_columns.declared.rows.Row.{Row}
use Rattle.mesa_history_spec.specs.mesa_columns.Columns.{aggs_of}
use Rattle.mesa_history_spec.specs.mesa_schema.Changes.{columns_of, epoch_of, lifted}
use Rattle.mesa_history_spec.specs.mesa_fold.Folded.{folded}
use Rattle.mesa_history_spec.specs.mesa_columns.Rows.{AreRowsOf}
use Rattle.mesa_history_spec.proofs.mesa_fold.Refolds.{refolded}
use Rattle.mesa_history_spec.specs.mesa_batch.declared.words.RowWords.{RowWords}
use Rattle.mesa_history_spec.specs.mesa_batch.Batch.{Placed, batch_of, rows_for}
use Rattle.mesa_history_spec.specs.mesa_model.Warehouse.{Store, Table, Warehouse, content_at, no_table, table_at}
use Rattle.mesa_history_spec.specs.mesa_model.Load.{newest_content, table_loaded, tables_loaded, tables_named, with_batch}
use Rattle.mesa_history_spec.specs.Law.{batch_written, carried_content}
use Rattle.mesa_history_spec.specs.Sources.{Source, Written, rows_now, source_written, sources_to}
use Rattle.mesa_history_laws.proofs.Batches.{batch_forms, no_rows_for}
use Rattle.mesa_history_laws.proofs.Kept.{IsAt, IsSince, Law, LawAt, all_written, first_written, law_early, law_late, no_source}
use Rattle.mesa_history_laws.proofs.Lifting.{present_now}
use Rattle.mesa_history_spec.proofs.mesa_columns.Lists.{all_append, all_pass, all_so}

-- ---- loaded tables

-- a table of a number after a load is the one before it, loaded
pub got_loaded : (batch : List Placed) (n : ℕ) (tables : List Table) (i : ℕ) (t' : Table) → slice_get (tables_loaded batch n tables) i ≡ Some t'
    → (t : Table) × (slice_get tables i ≡ Some t) × (table_loaded t (rows_for (n + i) batch) ≡ t')
got_loaded batch n [] i t' e = cc
got_loaded batch n (t ∷ tables) zero t' e =
    let same : table_loaded t (rows_for n batch) ≡ t' = cc in
    let at : n + 0 ≡ n = omega arith in
    (t, refl, ap (λ k. table_loaded t (rows_for k batch)) at ∙ same)
got_loaded batch n (t ∷ tables) (suc i) t' e =
    let at = got_loaded batch (n + 1) tables i t' e in
    let place : n + suc i ≡ n + 1 + i = omega arith in
    (at.0, at.1, ap (λ k. table_loaded at.0 (rows_for k batch)) place ∙ at.2)

pub length_loaded : (batch : List Placed) (n : ℕ) (tables : List Table) → length (tables_loaded batch n tables) ≡ length tables
length_loaded batch n [] = refl
length_loaded batch n (t ∷ tables) = ap suc (length_loaded batch (n + 1) tables)

-- the newest content is the last one
pub newest_last : (contents : List (List Row)) → newest_content contents ≡ get_or contents (length contents - 1) []
newest_last [] = refl
newest_last (content ∷ []) = refl
newest_last (content ∷ next ∷ contents) =
    let rest = newest_last (next ∷ contents) in
    let place : length (content ∷ next ∷ contents) - 1 ≡ suc (length (next ∷ contents) - 1) = omega arith in
    rest ∙ ap (λ i. get_or (content ∷ next ∷ contents) i []) (sym place)

-- what was written since, up to the version before the next one, is all of it
all_until : (from next version : ℕ) (later : List Written) → next ≤ version + 1 → AllByRecursion (IsSince from next) later → filter (λ (x : Written). nat_le x.version version) later ≡ later
all_until from next version later le all = all_pass (IsSince from next) (λ (x : Written). nat_le x.version version) later (λ x is. le-leb x.version version (omega (arith, is.1, le))) all

none_since : (from next : ℕ) (later : List Written) → next ≤ from → AllByRecursion (IsSince from next) later → later ≡ []
none_since from next [] le all = refl
none_since from next (x ∷ later) le all = absurd (omega (arith, all.0.0, all.0.1, le))

-- ---- one table

module _ (start : Warehouse) (t : Table) (early : ℕ → Source) (later : List Written) (next : ℕ) (its : LawAt start early later next t)
    (grows : start.next ≤ next) (there : (t.oldest < next) ⊎ ((t.oldest ≡ 0) × (next ≡ 0))) (since : AllByRecursion (IsSince start.next next) later) (nothing : start.next ≡ 0 → (version : ℕ) → (early version).rows ≡ [])
    (rows : List Row) (form : AreRowsOf (columns_of t.lineage) rows) where
  abbrev aggs : List Agg
  aggs = aggs_of (columns_of t.lineage)

  abbrev new : Written
  new = record { version = next; source = record { epoch = epoch_of t.lineage; rows = rows } }

  abbrev first : List Row
  first = rows_now t.lineage (early (start.next - 1))

  -- all that was written stands up to the version before
  all_there : (version : ℕ) → next ≤ version + 1 → start.next ≤ version + 1 → sources_to version (all_written start early later) ≡ map source_written (all_written start early later)
  all_there version le least =
      let one : nat_le (start.next - 1) version ≡ true = le-leb (start.next - 1) version (omega (arith, least)) in
      ap (map source_written) (
      ap (λ b. cond b (first_written start early ∷ filter (λ (x : Written). nat_le x.version version) later) (filter (λ (x : Written). nat_le x.version version) later)) one
      ∙ ap (λ xs. first_written start early ∷ xs) (all_until start.next next version later le since))

  -- folding the newest content with more rows is folding all that the law folds with them
  newest_folds : folded aggs (newest_content t.contents ∷ rows ∷ []) ≡ folded aggs (map (rows_now t.lineage) (map source_written (all_written start early later)) ++ rows ∷ [])
  newest_folds = elim there [
    | inl lt ↦
        let place : length t.contents - 1 ≡ next - 1 - t.oldest = (let count = its.versions in omega (arith, count, lt)) in
        let newest : newest_content t.contents ≡ carried_content start t early (all_written start early later) (next - 1) =
        newest_last t.contents ∙ ap (λ i. get_or t.contents i []) place ∙ its.contents (next - 1) (omega (arith, lt)) (omega (arith, lt)) in
        elim (cases_lt (next - 1) start.next) [
          | inl soon ↦
              let same : next ≡ start.next = omega (arith, soon, grows, lt) in
              let none : later ≡ [] = none_since start.next next later (omega (arith, same)) since in
              ap (λ content. folded aggs (content ∷ rows ∷ [])) (newest ∙ law_early start t early (all_written start early later) (next - 1) soon ∙ ap (λ n. rows_now t.lineage (early (n - 1))) same)
              ∙ ap (λ xs. folded aggs (first ∷ map (rows_now t.lineage) (map source_written xs) ++ rows ∷ [])) (sym none)
          | inr late ↦
              ap (λ content. folded aggs (content ∷ rows ∷ [])) (newest ∙ law_late start t early (all_written start early later) (next - 1) late
              ∙ ap (λ ss. folded aggs (map (rows_now t.lineage) ss)) (all_there (next - 1) (omega (arith, lt)) (omega (arith, grows, lt))))
              ∙ refolded aggs [] (map (rows_now t.lineage) (map source_written (all_written start early later))) (rows ∷ [])
        ]
    | inr empty ↦
        let none : t.contents ≡ [] = nil_from_length t.contents (let count = its.versions in omega (arith, count, empty.1)) in
        let before : start.next ≡ 0 = omega (arith, grows, empty.1) in
        let past : later ≡ [] = none_since start.next next later (omega (arith, empty.1)) since in
        ap (λ contents. folded aggs (newest_content contents ∷ rows ∷ [])) none
        ∙ ap (λ none_there. folded aggs (map (lifted t.lineage (early (start.next - 1)).epoch (epoch_of t.lineage)) none_there ∷ rows ∷ [])) (sym (nothing before (start.next - 1)))
        ∙ ap (λ xs. folded aggs (first ∷ map (rows_now t.lineage) (map source_written xs) ++ rows ∷ [])) (sym past)
  ]

  -- at a version that was there the law says what it said
  law_before : (version : ℕ) → version < next → carried_content start t early (all_written start early (later ++ new ∷ [])) version ≡ carried_content start t early (all_written start early later) version
  law_before version lt =
      let same : filter (λ (x : Written). nat_le x.version version) (all_written start early later ++ new ∷ []) ≡ filter (λ (x : Written). nat_le x.version version) (all_written start early later) =
      filter-append (λ (x : Written). nat_le x.version version) (all_written start early later) (new ∷ [])
      ∙ ap (λ b. filter (λ (x : Written). nat_le x.version version) (all_written start early later) ++ cond b (new ∷ []) []) (lt-leb next version lt)
      ∙ append-nil (filter (λ (x : Written). nat_le x.version version) (all_written start early later)) in
      ap (λ xs. cond (nat_lt version start.next) (rows_now t.lineage (early version)) (folded aggs (map (rows_now t.lineage) (map source_written xs)))) same

  -- at the new one it says the fold of the newest content and the rows
  law_new : carried_content start t early (all_written start early (later ++ new ∷ [])) next ≡ folded aggs (newest_content t.contents ∷ rows ∷ [])
  law_new =
      let same : sources_to next (all_written start early later ++ new ∷ []) ≡ map source_written (all_written start early later) ++ new.source ∷ [] =
      ap (map source_written) (filter-append (λ (x : Written). nat_le x.version next) (all_written start early later) (new ∷ []))
      ∙ map-append source_written (filter (λ (x : Written). nat_le x.version next) (all_written start early later)) (filter (λ (x : Written). nat_le x.version next) (new ∷ []))
      ∙ (λ i. all_there next (omega arith) (omega (arith, grows)) i ++ map source_written (cond (le-leb next next (omega arith) i) (new ∷ []) [])) in
      law_late start t early (all_written start early (later ++ new ∷ [])) next grows
      ∙ ap (λ ss. folded aggs (map (rows_now t.lineage) ss)) same
      ∙ ap (folded aggs) (map-append (rows_now t.lineage) (map source_written (all_written start early later)) (new.source ∷ []) ∙ ap (λ part. map (rows_now t.lineage) (map source_written (all_written start early later)) ++ part ∷ []) (present_now t.lineage rows))
      ∙ sym newest_folds

  -- the contents of a loaded table
  loaded_contents : (version : ℕ) → t.oldest ≤ version → version < next + 1 → content_at (table_loaded t rows) version ≡ carried_content start t early (all_written start early (later ++ new ∷ [])) version
  loaded_contents version le lt =
      let fresh : List Row = folded aggs (newest_content t.contents ∷ rows ∷ []) in
      elim (cases_lt version next) [
        | inl before ↦ get_or_append_left t.contents (fresh ∷ []) [] (version - t.oldest) (let count = its.versions in omega (arith, count, before, le)) ∙ its.contents version le before ∙ sym (law_before version before)
        | inr after ↦
            let same : version ≡ next = omega (arith, after, lt) in
            get_or_push t.contents fresh [] (version - t.oldest) (let count = its.versions in omega (arith, count, same)) ∙ sym law_new ∙ ap (carried_content start t early (all_written start early (later ++ new ∷ []))) (sym same)
      ]

  loaded_law : LawAt start early (later ++ new ∷ []) (next + 1) (table_loaded t rows)
  loaded_law =
      let fresh : List Row = folded aggs (newest_content t.contents ∷ rows ∷ []) in
      record {
        versions = length-append t.contents (fresh ∷ []) ∙ (let count = its.versions in elim there [ inl lt ↦ omega (arith, count, lt) | inr empty ↦ omega (arith, count, empty.0, empty.1) ]);
        early_at = its.early_at;
        later_at = all_append (λ (x : Written). IsAt t.lineage x.source) later (new ∷ []) its.later_at (record { epoch = omega arith; form = subst (AreRowsOf (columns_of t.lineage)) (sym (present_now t.lineage rows)) form }, tt);
        contents = loaded_contents;
      }

-- ---- all tables

table_is : (s : Store) (number : ℕ) (t : Table) → slice_get s.tables number ≡ Some t → table_at s number ≡ t
table_is s number t at = get_or_from_slice_get s.tables number t no_table at

module _ (start : Warehouse) (early : ℕ → ℕ → Source) (later : ℕ → List Written) (w : Warehouse) (law : Law start early later w.store w.next)
    (there : (number : ℕ) (t : Table) → slice_get w.store.tables number ≡ Some t → (t.oldest < w.next) ⊎ ((t.oldest ≡ 0) × (w.next ≡ 0)))
    (words : List RowWords) (batch : List Placed) (is : batch_of (tables_named w.store) words ≡ Ok batch) where
  abbrev more : ℕ → Written
  more number = batch_written w.store w.next batch number

  abbrev later_more : ℕ → List Written
  later_more number = later number ++ batch_written w.store w.next batch number ∷ []

  -- the batch has the table's epoch
  loaded_at : (number : ℕ) (t : Table) → slice_get w.store.tables number ≡ Some t → LawAt start (early number) (later_more number) (w.next + 1) (table_loaded t (rows_for number batch))
  loaded_at number t at =
      let epoch : epoch_of t.lineage ≡ epoch_of (table_at w.store number).lineage = ap (λ (x : Table). epoch_of x.lineage) (sym (table_is w.store number t at)) in
      subst (λ e. LawAt start (early number) (later number ++ record { version = w.next; source = record { epoch = e; rows = rows_for number batch } } ∷ []) (w.next + 1) (table_loaded t (rows_for number batch))) epoch
      (loaded_law start t (early number) (later number) w.next (law.tables number t at) law.grows (there number t at) (law.since number) (λ none version. law.nothing none number version) (rows_for number batch) (batch_forms w.store words batch number t is at))

  -- A load keeps the law.
  pub law_loads : Law start early later_more (with_batch w batch).store (w.next + 1)
  law_loads =
      let count : length (tables_loaded batch 0 w.store.tables) ≡ length w.store.tables = length_loaded batch 0 w.store.tables in
      record {
        tables = λ number t' got.
            let from = got_loaded batch 0 w.store.tables number t' got in
            let at : 0 + number ≡ number = omega arith in
            subst (LawAt start (early number) (later_more number) (w.next + 1)) (ap (λ k. table_loaded from.0 (rows_for k batch)) (sym at) ∙ from.2) (loaded_at number from.0 from.1);
        more = (let before = law.more in omega (arith, before, count));
        grows = (let before = law.grows in omega (arith, before));
        since = λ number. all_append (IsSince start.next (w.next + 1)) (later number) (more number ∷ [])
            (all_so (IsSince start.next w.next) (IsSince start.next (w.next + 1)) (later number) (λ x old. (old.0, omega (arith, old.1))) (law.since number)) ((law.grows, omega arith), tt);
        nothing = law.nothing;
        others = λ number le.
            let before : length w.store.tables ≤ number = omega (arith, le, count) in
            let was = law.others number before in
            let none : table_at w.store number ≡ no_table = get_or_past w.store.tables number no_table before in
            (was.0, all_append (λ (x : Written). x.source ≡ no_source) (later number) (more number ∷ []) was.1 ((λ i. record { epoch = epoch_of (none i).lineage; rows = no_rows_for w.store words batch number is before i }), tt));
      }
