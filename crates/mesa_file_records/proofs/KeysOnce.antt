-- The rows of a batch have each key once in a table, so they fold to themselves, and their totals stay.
use Rattle.std.proofs.Common.{◌≡◌, ℕ, ◌+◌, List, [], ◌∷◌, ◌++◌, length, map, refl, sym, ◌∙◌, ap, subst, arith, Option, Some, None, Result, Ok, Err}
use Rattle.std.proofs.lemmas.List.{append-nil}
use Rattle.std.proofs.lemmas.Bool.Decides.{nat_tests}
use Rattle.std.specs.Prelude.{Bool, true, false, ◌||◌, ◌&&◌, ◌==◌, cond, filter, is_some, nat_abs, pos, position, slice_index_or, sum_by, ⊤}
use Rattle.std.specs.List.{list_any}
use Rattle.std.proofs.lemmas.List.Sums.{sum_by-cons}
use Rattle.std.specs.declared.cmp.Ordering.{Ordering}
use Rattle.std.specs.declared.cmp.Ordering.TheVariants.{Less, Equal, Greater}
use Rattle.std.specs.Option.{ok_or}
use Rattle.std.specs.Ordering.{eq_by_cmp, is_eq}
use Rattle.std.specs.Cmp.{eq_by_cmp_equiv}
use Rattle.std.specs.Cmp.Lexicographic.{nat_list_cmp_total, texts_ties}
use Rattle.std.specs.FinMap.Entries.{by_order}
use Rattle.mesa_list.specs.Bytes.{same_bytes}
use Rattle.mesa_list.specs.Checks.{◌>>=◌, ◌>>◌, refused_as}
use Rattle.mesa_pick_files.specs.mesa_value.declared.Agg.{Agg}
use Rattle.mesa_pick_files.specs.mesa_key.Order.{byte_cmp}
use Rattle.mesa_columns.specs.declared.rows.Row.{Row}
use Rattle.mesa_columns.specs.Columns.{aggs_of, place_of}
use Rattle.mesa_open_files.specs.mesa_fold.Folded.{all_combined, folded, folded_at, keys_of, values_at, with_key}
use Rattle.mesa_pick_files.proofs.mesa_fold.Keys.{Keys, has}
use Rattle.mesa_columns.proofs.Maps.{is_some_position}
use Rattle.mesa_pick_files.proofs.mesa_fold.Folds.{has-keys_of, keys, values_at_none}
use Rattle.mesa_batch.specs.declared.words.RowWords.{RowWords}
use Rattle.mesa_batch.specs.declared.words.BatchError.{BatchError}
use Rattle.mesa_batch.specs.declared.words.BatchError.TheVariants.{NoTable, BadRow}
use Rattle.mesa_batch.specs.Batch.{Named, Placed, batch_from, columns_at, is_at, placed_of, refuse_twice, row_of, rows_for}
use Rattle.mesa_batch.specs.Totals.{abs_total, sum_places}
use Rattle.mesa_file_records.specs.Batches.{KeepsTotals}

-- ---- keys

-- each row's key is no later row's
abbrev pub AreOnce : List Row → Type 0
AreOnce [] = ⊤
AreOnce (r ∷ rows) = (has r.key (keys rows) ≡ false) × AreOnce rows

tied : (a b : List ℕ) → eq_by_cmp byte_cmp a b ≡ eq_by_cmp byte_cmp b a
tied a b = (eq_by_cmp_equiv nat_list_cmp_total).symm a b

neither : (a b : Bool) → (a || b) ≡ false → (a ≡ false) × (b ≡ false)
neither true b e = absurd (cc)
neither false b e = (refl, e)

none_of : (a b : Bool) → a ≡ false → b ≡ false → (a || b) ≡ false
none_of a b e f = ap (λ x. x || b) e ∙ f

has_more : (q k : List ℕ) (ks : Keys) → has q (ks ++ k ∷ []) ≡ (has q ks || eq_by_cmp byte_cmp q k)
has_more q k [] = by (eq_by_cmp byte_cmp q k)
  where
    by : (b : Bool) → (b || false) ≡ b
    by true = refl
    by false = refl
has_more q k (x ∷ ks) = ap (λ b. eq_by_cmp byte_cmp q x || b) (has_more q k ks) ∙ by (eq_by_cmp byte_cmp q x) (has q ks) (eq_by_cmp byte_cmp q k)
  where
    by : (a b c : Bool) → (a || (b || c)) ≡ ((a || b) || c)
    by true b c = refl
    by false b c = refl

keys_more : (rows : List Row) (r : Row) → keys (rows ++ r ∷ []) ≡ keys rows ++ r.key ∷ []
keys_more [] r = refl
keys_more (x ∷ rows) r = ap (λ ks. x.key ∷ ks) (keys_more rows r)

once_more : (rows : List Row) (r : Row) → AreOnce rows → has r.key (keys rows) ≡ false → AreOnce (rows ++ r ∷ [])
once_more [] r all new = (refl, tt)
once_more (x ∷ rows) r all new =
    let both = neither (eq_by_cmp byte_cmp r.key x.key) (has r.key (keys rows)) new in
    (ap (has x.key) (keys_more rows r) ∙ has_more x.key r.key (keys rows) ∙ none_of (has x.key (keys rows)) (eq_by_cmp byte_cmp x.key r.key) all.0 (tied x.key r.key ∙ both.0), once_more rows r all.1 both.1)

-- ---- the rows of a batch

-- each table's rows
abbrev HaveOnce : List Placed → Type 0
HaveOnce batch = (table : ℕ) → AreOnce (rows_for table batch)

same_number : (m n : ℕ) → (m == n) ≡ true → m ≡ n
same_number m n e = grind (arith, nat_tests)

equal_self : (n : ℕ) → (n == n) ≡ true
equal_self n = grind (arith, nat_tests)

-- no row of a table has the key of one that was found new
key_new : (table : ℕ) (key : List ℕ) (before : List Placed) → list_any (is_at table key) before ≡ false → has key (keys (rows_for table before)) ≡ false
key_new table key [] e = refl
key_new table key (x ∷ before) e =
    let both = neither (is_at table key x) (list_any (is_at table key) before) e in
    elim (x.table == table) as (λ b. (b && same_bytes key x.row.key) ≡ false → has key (keys (map (λ (p : Placed). p.row) (cond b (x ∷ filter (λ (p : Placed). p.table == table) before) (filter (λ (p : Placed). p.table == table) before)))) ≡ false) [
      | true ↦ λ other. none_of (eq_by_cmp byte_cmp key x.row.key) (has key (keys (rows_for table before))) (sym (texts_ties key x.row.key) ∙ other) (key_new table key before both.1)
      | false ↦ λ other. key_new table key before both.1
    ] both.0

rows_more : (table : ℕ) (before : List Placed) (p : Placed) → rows_for table (before ++ p ∷ []) ≡ rows_for table before ++ cond (p.table == table) (p.row ∷ []) []
rows_more table [] p = by (p.table == table)
  where
    by : (b : Bool) → map (λ (p : Placed). p.row) (cond b (p ∷ []) []) ≡ cond b (p.row ∷ []) []
    by true = refl
    by false = refl
rows_more table (x ∷ before) p = by (rows_more table before p) (x.table == table)
  where
    by : rows_for table (before ++ p ∷ []) ≡ rows_for table before ++ cond (p.table == table) (p.row ∷ []) [] → (b : Bool) → map (λ (p : Placed). p.row) (cond b (x ∷ filter (λ (p : Placed). p.table == table) (before ++ p ∷ [])) (filter (λ (p : Placed). p.table == table) (before ++ p ∷ [])))
        ≡ map (λ (p : Placed). p.row) (cond b (x ∷ filter (λ (p : Placed). p.table == table) before) (filter (λ (p : Placed). p.table == table) before)) ++ cond (p.table == table) (p.row ∷ []) []
    by rest true = ap (λ rows. x.row ∷ rows) rest
    by rest false = rest

have_more : (before : List Placed) (p : Placed) → HaveOnce before → list_any (is_at p.table p.row.key) before ≡ false → HaveOnce (before ++ p ∷ [])
have_more before p all new table =
    subst AreOnce (sym (rows_more table before p))
    (elim (p.table == table) as (λ b. (p.table == table) ≡ b → AreOnce (rows_for table before ++ cond b (p.row ∷ []) [])) [
      | true ↦ λ e. once_more (rows_for table before) p.row (all table) (subst (λ t. has p.row.key (keys (rows_for t before)) ≡ false) (same_number p.table table e) (key_new p.table p.row.key before new))
      | false ↦ λ e. subst AreOnce (sym (append-nil (rows_for table before))) (all table)
    ] refl)

-- ---- reading

bound : {A B E : Type 0} (m : Result A E) (f : A → Result B E) (b : B) → (m >>= f) ≡ Ok b → (a : A) × (m ≡ Ok a) × (f a ≡ Ok b)
bound (Ok a) f b e = (a, refl, e)
bound (Err x) f b e = absurd (cc)

not_twice : (o : Option ℕ) (number : ℕ) (r : Result Placed BatchError) (p : Placed) → (refuse_twice o number >> r) ≡ Ok p → (o ≡ None) × (r ≡ Ok p)
not_twice None number r p e = (refl, e)
not_twice (Some place) number r p e = absurd (cc)

same_placed : (a b : Placed) → let r : Result Placed BatchError = Ok a in r ≡ Ok b → a ≡ b
same_placed a b e = cc

same_batch : (a b : List Placed) → let r : Result (List Placed) BatchError = Ok a in r ≡ Ok b → a ≡ b
same_batch a b e = cc

found_new : (tables : List Named) (before : List Placed) (words : RowWords) (p : Placed) → placed_of tables before words ≡ Ok p → list_any (is_at p.table p.row.key) before ≡ false
found_new tables before words p e =
    let number : ℕ = length before + 1 in
    let table = bound (ok_or (place_of words.table (map (λ (n : Named). n.name) tables)) (NoTable number))
    (λ (t : ℕ). refused_as (BadRow number) (row_of (columns_at t tables) words.fields) >>= (λ (r : Row). refuse_twice (position (is_at t r.key) before) number >> Ok (record { table = t; row = r }))) p e in
    let row = bound (refused_as (BadRow number) (row_of (columns_at table.0 tables) words.fields)) (λ (r : Row). refuse_twice (position (is_at table.0 r.key) before) number >> Ok (record { table = table.0; row = r })) p table.2 in
    let new = not_twice (position (is_at table.0 row.0.key) before) number (Ok (record { table = table.0; row = row.0 })) p row.2 in
    subst (λ (x : Placed). list_any (is_at x.table x.row.key) before ≡ false) (same_placed (record { table = table.0; row = row.0 }) p new.1) (sym (is_some_position (is_at table.0 row.0.key) before) ∙ ap is_some new.0)

read_once : (tables : List Named) (before : List Placed) (words : List RowWords) (batch : List Placed) → HaveOnce before → batch_from tables before words ≡ Ok batch → HaveOnce batch
read_once tables before [] batch all e = subst HaveOnce (same_batch before batch e) all
read_once tables before (row ∷ words) batch all e =
    let placed = bound (placed_of tables before row) (λ (p : Placed). batch_from tables (before ++ p ∷ []) words) batch e in
    read_once tables (before ++ placed.0 ∷ []) words batch (have_more before placed.0 all (found_new tables before row placed.0 placed.1)) placed.2

-- ---- totals

weight : ℕ → Row → ℕ
weight column row = nat_abs (slice_index_or row.values column (pos 0))

-- a key more among keys that haven't it
added : (w : List ℕ → ℕ) (k : List ℕ) (ks : Keys) → has k ks ≡ false → sum_by w (with_key k ks) ≡ w k + sum_by w ks
added w k [] e = omega arith
added w k (x ∷ ks) e =
    elim (byte_cmp k x) as (λ (o : Ordering). (is_eq o || has k ks) ≡ false → sum_by w (by_order o (k ∷ x ∷ ks) (x ∷ ks) (x ∷ with_key k ks)) ≡ w k + sum_by w (x ∷ ks)) [
      | Less ↦ λ f. sum_by-cons w k (x ∷ ks)
      | Equal ↦ λ f. absurd (cc)
      | Greater ↦ λ f. (let rest = added w k ks f in let one = sum_by-cons w x (with_key k ks) in let two = sum_by-cons w x ks in omega (arith, rest, one, two))
    ] e

-- another row's key takes nothing of these
values_left : (r : Row) (rows : List Row) (k : List ℕ) → eq_by_cmp byte_cmp r.key k ≡ false → values_at k (r ∷ rows) ≡ values_at k rows
values_left r rows k other =
    ap (λ b. map (λ (x : Row). x.values) (cond b (r ∷ filter (λ (x : Row). same_bytes k x.key) rows) (filter (λ (x : Row). same_bytes k x.key) rows))) (texts_ties k r.key ∙ tied k r.key ∙ other)

sums_left : (column : ℕ) (aggs : List Agg) (r : Row) (rows : List Row) (ks : Keys) → has r.key ks ≡ false → sum_by (λ k. weight column (folded_at aggs (r ∷ rows) k)) ks ≡ sum_by (λ k. weight column (folded_at aggs rows k)) ks
sums_left column aggs r rows [] e = refl
sums_left column aggs r rows (k ∷ ks) e =
    let both = neither (eq_by_cmp byte_cmp r.key k) (has r.key ks) e in
    sum_by-cons (λ q. weight column (folded_at aggs (r ∷ rows) q)) k ks
    ∙ (λ i. weight column (record { key = k; values = all_combined aggs (values_left r rows k both.0 i) }) + sums_left column aggs r rows ks both.1 i)
    ∙ sym (sum_by-cons (λ q. weight column (folded_at aggs rows q)) k ks)

own_values : (r : Row) (rows : List Row) → has r.key (keys rows) ≡ false → values_at r.key (r ∷ rows) ≡ r.values ∷ []
own_values r rows new =
    ap (λ b. map (λ (x : Row). x.values) (cond b (r ∷ filter (λ (x : Row). same_bytes r.key x.key) rows) (filter (λ (x : Row). same_bytes r.key x.key) rows))) (texts_ties r.key r.key ∙ (eq_by_cmp_equiv nat_list_cmp_total).refl r.key)
    ∙ ap (λ vs. r.values ∷ vs) (values_at_none r.key rows new)

sums_folded : (column : ℕ) (aggs : List Agg) (rows : List Row) → AreOnce rows → sum_by (λ k. weight column (folded_at aggs rows k)) (keys_of rows) ≡ sum_by (weight column) rows
sums_folded column aggs [] once = refl
sums_folded column aggs (r ∷ rows) once =
    let new : has r.key (keys_of rows) ≡ false = has-keys_of r.key rows ∙ once.0 in
    added (λ k. weight column (folded_at aggs (r ∷ rows) k)) r.key (keys_of rows) new
    ∙ (λ i. weight column (record { key = r.key; values = all_combined aggs (own_values r rows once.0 i) }) + sums_left column aggs r rows (keys_of rows) new i)
    ∙ ap (λ n. weight column r + n) (sums_folded column aggs rows once.1)
    ∙ sym (sum_by-cons (weight column) r rows)

sum_mapped : (w : Row → ℕ) (f : List ℕ → Row) (ks : Keys) → sum_by w (map f ks) ≡ sum_by (λ k. w (f k)) ks
sum_mapped w f [] = refl
sum_mapped w f (k ∷ ks) = sum_by-cons w (f k) (map f ks) ∙ ap (λ n. w (f k) + n) (sum_mapped w f ks) ∙ sym (sum_by-cons (λ q. w (f q)) k ks)

total_folded : (column : ℕ) (aggs : List Agg) (rows : List Row) → AreOnce rows → abs_total column (folded aggs (rows ∷ [])) ≡ abs_total column rows
unfolding weight
total_folded column aggs rows once =
    ap (λ all. abs_total column (map (folded_at aggs all) (keys_of all))) (append-nil rows) ∙ sum_mapped (weight column) (folded_at aggs rows) (keys_of rows) ∙ sums_folded column aggs rows once

pub totals_by_key : KeepsTotals
totals_by_key tables words batch table s read =
    let once = read_once tables [] words batch (λ t. tt) read in
    λ i. map (λ column. total_folded column (aggs_of s) (rows_for table batch) (once table) i) (sum_places 0 (aggs_of s))
