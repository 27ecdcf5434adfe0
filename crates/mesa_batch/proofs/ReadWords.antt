-- A row's words, read by the tables of a glance.
use Rattle.std.proofs.Common.{◌≡◌, ℕ, ◌+◌, ◌<◌, List, [], ◌∷◌, ◌++◌, length, map, refl, sym, ◌∙◌, ap, subst, arith, inl, inr, Some, None, Result, Ok, Err}
use Rattle.std.specs.Prelude.{slice_get, slice_index_or, position}
use Rattle.std.specs.Option.{IfSome, ok_or}
use Rattle.std.proofs.lemmas.List.{get_or-map}
use Rattle.std.proofs.lemmas.Option.{slice_get_cases}
use Rattle.mesa_list.specs.Checks.{◌>>=◌, ◌>>◌, refused_as}
use Rattle.mesa_schema.specs.mesa_columns.declared.rows.Row.{Row}
use Rattle.mesa_schema.specs.mesa_columns.Columns.{Columns, place_of}
use Rattle.mesa_schema.specs.Changes.{Lineage, columns_of}
use Rattle.mesa_batch.specs.declared.words.RowWords.{RowWords}
use Rattle.mesa_batch.specs.declared.words.BatchError.{BatchError}
use Rattle.mesa_batch.specs.declared.words.BatchError.TheVariants.{NoTable, BadRow}
use Rattle.mesa_batch.specs.Batch.{Named, Placed, columns_at, is_at, placed_of, refuse_twice, row_of}
use Rattle.mesa_batch.specs.Gathered.{read_of, with_row}
use Rattle.mesa_batch.specs.Glance.{Known, Sight, names_in, tables_of}

names_of : (tables : List Known) → map (λ (n : Named). n.name) (map (λ (t : Known). record { name = t.name; columns = columns_of t.lineage }) tables) ≡ map (λ (t : Known). t.name) tables
names_of [] = refl
names_of (t ∷ tables) = ap (λ l. t.name ∷ l) (names_of tables)

columns_for : (tables : List Known) → map (λ (n : Named). n.columns) (map (λ (t : Known). record { name = t.name; columns = columns_of t.lineage }) tables) ≡ map (λ (t : Known). columns_of t.lineage) tables
columns_for [] = refl
columns_for (t ∷ tables) = ap (λ l. columns_of t.lineage ∷ l) (columns_for tables)

-- the columns of a table of a glance
pub columns_found : (sight : Sight) (table : ℕ) (lineage : Lineage) → table < length sight.tables → IfSome (slice_get sight.tables table) (λ (t : Known). lineage ≡ t.lineage) → columns_at table (tables_of sight) ≡ columns_of lineage
columns_found sight table lineage h found =
    let none : Columns = record { keys = []; values = [] } in
    elim (slice_get_cases sight.tables table).1 [
      | inl p ↦
          let same : lineage ≡ p.0.lineage = subst (λ o. IfSome o (λ (t : Known). lineage ≡ t.lineage)) p.2 found in
          ap (λ cs. slice_index_or cs table none) (columns_for sight.tables)
          ∙ get_or-map (λ (t : Known). columns_of t.lineage) sight.tables table p.0 none h
          ∙ ap (λ (t : Known). columns_of t.lineage) p.3
          ∙ ap columns_of (sym same)
      | inr q ↦ absurd (omega (arith, q.0))
    ]

-- no table, no row
pub read_no_table : (sight : Sight) (number : ℕ) (words : RowWords) → place_of words.table (names_in sight) ≡ None → read_of (tables_of sight) number words ≡ Err (NoTable number)
read_no_table sight number words e = rw (names_of, e) refl

-- a bad row of a table
pub read_bad_row : (sight : Sight) (number : ℕ) (words : RowWords) (table column : ℕ) (columns : Columns) → place_of words.table (names_in sight) ≡ Some table → columns_at table (tables_of sight) ≡ columns → row_of columns words.fields ≡ Err column
    → read_of (tables_of sight) number words ≡ Err (BadRow number column)
read_bad_row sight number words table column columns e f g = rw (names_of, e, f, g) refl

-- and a good one
pub read_row_of : (sight : Sight) (number : ℕ) (words : RowWords) (table : ℕ) (row : Row) (columns : Columns) → place_of words.table (names_in sight) ≡ Some table → columns_at table (tables_of sight) ≡ columns → row_of columns words.fields ≡ Ok row
    → read_of (tables_of sight) number words ≡ Ok (record { table = table; row = row })
read_row_of sight number words table row columns e f g = rw (names_of, e, f, g) refl

-- ---- a row among others

then-then : {A B C E : Type 0} (m : Result A E) (f : A → Result B E) (g : B → Result C E) → ((m >>= f) >>= g) ≡ (m >>= (λ x. f x >>= g))
then-then (Ok x) f g = refl
then-then (Err e) f g = refl

-- what is read, and then its key
abbrev pub key_checked : List Placed → Placed → Result Placed BatchError
key_checked before placed = refuse_twice (position (is_at placed.table placed.row.key) before) (length before + 1) >> Ok placed

pub placed_read : (tables : List Named) (before : List Placed) (words : RowWords) → placed_of tables before words ≡ (read_of tables (length before + 1) words >>= key_checked before)
placed_read tables before words =
    let number : ℕ = length before + 1 in
    let table : Result ℕ BatchError = ok_or (place_of words.table (map (λ (n : Named). n.name) tables)) (NoTable number) in
    let row : ℕ → Result Row BatchError = λ t. refused_as (BadRow number) (row_of (columns_at t tables) words.fields) in
    let put : ℕ → Row → Result Placed BatchError = λ t r. Ok (record { table = t; row = r }) in
    sym (then-then table (λ t. row t >>= put t) (key_checked before) ∙ λ i. table >>= (λ t. then-then (row t) (put t) (key_checked before) i))

-- a row that can't be read is refused
pub row_unread : (tables : List Named) (before : List Placed) (words : RowWords) (e : BatchError) → read_of tables (length before + 1) words ≡ Err e → with_row tables before words ≡ Err e
row_unread tables before words e h = rw h refl

-- and another one stands at the end
pub row_kept : (tables : List Named) (before : List Placed) (words : RowWords) (placed : Placed) → read_of tables (length before + 1) words ≡ Ok placed → with_row tables before words ≡ Ok (before ++ placed ∷ [])
row_kept tables before words placed h = rw h refl
