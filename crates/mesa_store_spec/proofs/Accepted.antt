-- A batch that is read by a catalogue's tables may be accepted.
use Rattle.std.proofs.Common.{◌≡◌, ℕ, suc, ◌+◌, ◌<◌, ◌≤◌, List, [], ◌∷◌, ◌++◌, map, filter, length, Option, Some, None, Result, Ok, Err, true, false, cond, ◌==◌, refl, sym, ◌∙◌, ap, subst, arith, slice_index_or}
use Rattle.std.specs.Prelude.{position}
use Rattle.std.specs.Option.{ok_or}
use Rattle.std.proofs.lemmas.Bool.{eqb-true}
use Rattle.std.proofs.lemmas.List.{length-map}
use Rattle.std.specs.List.{AllByRecursion}
use Rattle.mesa_history_spec.specs.mesa_list.Checks.{◌>>=◌, ◌>>◌, refused_as}
use Rattle.mesa_history_spec.specs.mesa_columns.Columns.{place_of}
use Rattle.mesa_history_spec.specs.mesa_schema.Changes.{columns_of}
use Rattle.mesa_history_spec.specs.mesa_columns.Rows.{AreRowsOf}
use Rattle.mesa_history_spec.proofs.mesa_columns.Lists.{all_append}
use Rattle.mesa_history_spec.proofs.mesa_columns.Places.{place_named}
use Rattle.mesa_history_spec.specs.mesa_batch.declared.words.BatchError.TheVariants.{BadRow, NoTable}
use Rattle.mesa_history_spec.specs.mesa_batch.declared.words.RowWords.{RowWords}
use Rattle.mesa_history_spec.specs.mesa_batch.Batch.{Named, Placed, batch_from, batch_of, columns_at, is_at, placed_of, refuse_twice, row_of, rows_for}
use Rattle.mesa_history_spec.proofs.mesa_batch.RowForms.{batch_forms}
use Rattle.mesa_store_spec.specs.Catalog.{Catalog, TableMeta, no_meta}
use Rattle.mesa_store_spec.specs.Sourced.{AreFormed, IsAccepted, tables_read}
use Rattle.mesa_store_spec.proofs.Views.{map_within}

bound : {A B E : Type 0} (r : Result A E) (f : A → Result B E) (y : B) → (r >>= f) ≡ Ok y → (x : A) × (r ≡ Ok x) × (f x ≡ Ok y)
bound (Ok x) f y h = (x, refl, h)
bound (Err e) f y h = cc

passed : {A B E : Type 0} (r : Result A E) (rest : Result B E) (y : B) → (r >> rest) ≡ Ok y → rest ≡ Ok y
passed (Ok x) rest y h = h
passed (Err e) rest y h = cc

is_some_of : {A E : Type 0} (o : Option A) (e : E) (x : A) → ok_or o e ≡ Ok x → o ≡ Some x
is_some_of None e x h = cc
is_some_of (Some y) e x h = let same : y ≡ x = cc in ap Some same

-- a row's table is there
placed_there : (tables : List Named) (before : List Placed) (words : RowWords) (p : Placed) → placed_of tables before words ≡ Ok p → p.table < length tables
placed_there tables before words p h =
    let number : ℕ = length before + 1 in
    let names = map (λ (n : Named). n.name) tables in
    let at = bound (ok_or (place_of words.table names) (NoTable number))
    (λ table. refused_as (BadRow number) (row_of (columns_at table tables) words.fields) >>= (λ row. refuse_twice (position (is_at table row.key) before) number >> Ok (record { table = table; row = row }))) p h in
    let row = bound (refused_as (BadRow number) (row_of (columns_at at.0 tables) words.fields)) (λ row. refuse_twice (position (is_at at.0 row.key) before) number >> Ok (record { table = at.0; row = row })) p at.2 in
    let made : Placed = record { table = at.0; row = row.0 } in
    let last = passed (refuse_twice (position (is_at at.0 row.0.key) before) number) (Ok made) p row.2 in
    let same : made ≡ p = cc last in
    let within = (place_named words.table names at.0 [] (is_some_of (place_of words.table names) (NoTable number) at.0 at.1)).0 in
    subst (λ (q : Placed). q.table < length tables) same (omega (arith, within, length-map tables (λ (n : Named). n.name)))

all_there : (tables : List Named) (before : List Placed) (words : List RowWords) (batch : List Placed) → AllByRecursion (λ (p : Placed). p.table < length tables) before → batch_from tables before words ≡ Ok batch → AllByRecursion (λ (p : Placed). p.table < length tables) batch
all_there tables before [] batch all h = let same : before ≡ batch = cc in subst (AllByRecursion (λ (p : Placed). p.table < length tables)) same all
all_there tables before (row ∷ words) batch all h =
    let first = bound (placed_of tables before row) (λ p. batch_from tables (before ++ p ∷ []) words) batch h in
    all_there tables (before ++ first.0 ∷ []) words batch (all_append (λ (p : Placed). p.table < length tables) before (first.0 ∷ []) all (placed_there tables before row first.0 first.1, tt)) first.2

none_for : (count number : ℕ) (batch : List Placed) → count ≤ number → AllByRecursion (λ (p : Placed). p.table < count) batch → rows_for number batch ≡ []
none_for count number [] le all = refl
none_for count number (p ∷ batch) le all =
    elim (p.table == number) as (λ b. (p.table == number) ≡ b → map (λ (q : Placed). q.row) (cond b (p ∷ filter (λ (q : Placed). q.table == number) batch) (filter (λ (q : Placed). q.table == number) batch)) ≡ []) [
      | true ↦ λ e. absurd (let lt = all.0 in omega (arith, le, lt, eqb-true p.table number e))
      | false ↦ λ e. none_for count number batch le all.1
    ] refl

-- the columns by which a table's rows are read
columns_read : (c : Catalog) (number : ℕ) → number < length c.tables → columns_at number (tables_read c) ≡ columns_of (slice_index_or c.tables number no_meta).lineage
columns_read c number lt =
    map_within (λ (n : Named). n.columns) (tables_read c) number (record { keys = []; values = [] }) (record { name = []; columns = record { keys = []; values = [] } }) (let same = length-map c.tables read in omega (arith, lt, same))
    ∙ ap (λ (n : Named). n.columns) (map_within read c.tables number (record { name = []; columns = record { keys = []; values = [] } }) no_meta lt)
  where
    read : TableMeta → Named
    read t = record { name = t.name; columns = columns_of t.lineage }

all_formed : (c : Catalog) (words : List RowWords) (batch : List Placed) → batch_of (tables_read c) words ≡ Ok batch → (number : ℕ) (tables : List TableMeta)
    → ((i : ℕ) → i < length tables → (number + i < length c.tables) × (slice_index_or c.tables (number + i) no_meta ≡ slice_index_or tables i no_meta)) → AreFormed batch number tables
all_formed c words batch h number [] at = tt
all_formed c words batch h number (t ∷ tables) at =
    let here = at 0 (omega arith) in
    let e : number + 0 ≡ number = omega arith in
    let lt : number < length c.tables = (let first = here.0 in omega (arith, first)) in
    let its : slice_index_or c.tables number no_meta ≡ t = ap (λ n. slice_index_or c.tables n no_meta) (sym e) ∙ here.1 in
    let columns : columns_at number (tables_read c) ≡ columns_of t.lineage = columns_read c number lt ∙ ap (λ (s : TableMeta). columns_of s.lineage) its in (
      subst (λ s. AreRowsOf s (rows_for number batch)) columns (batch_forms (tables_read c) words batch number h).0,
      all_formed c words batch h (number + 1) tables (λ i lt. (let f : number + suc i ≡ number + 1 + i = omega arith in let there = at (suc i) (omega (arith, lt)) in
          (subst (λ n. n < length c.tables) f there.0, ap (λ n. slice_index_or c.tables n no_meta) (sym f) ∙ there.1))),
    )

-- A batch that was read by a catalogue's tables may be accepted.
pub read_accepted : (c : Catalog) (words : List RowWords) (batch : List Placed) → batch_of (tables_read c) words ≡ Ok batch → IsAccepted c batch
read_accepted c words batch h = record {
  formed = all_formed c words batch h 0 c.tables (λ i lt. (let e : i ≡ 0 + i = omega arith in (subst (λ n. n < length c.tables) e lt, ap (λ n. slice_index_or c.tables n no_meta) (sym e))));
  within = λ number le. none_for (length (tables_read c)) number batch (let same = length-map c.tables (λ (t : TableMeta). let n : Named = record { name = t.name; columns = columns_of t.lineage } in n) in omega (arith, le, same)) (all_there (tables_read c) [] words batch tt h);
}
