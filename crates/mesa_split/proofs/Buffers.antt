-- Rows that are held flat, and one more.
use Rattle.std.proofs.Common.{◌≡◌, ℕ, ◌<◌, ℤ, List, [], ◌∷◌, ◌++◌, length, refl, sym, ap, subst, ◌∙◌, arith}
use Rattle.std.proofs.lemmas.List.{length-take-le}
use Rattle.std.specs.List.{AllByRecursion}
use Rattle.mesa_compact.specs.mesa_columns.declared.rows.Row.{Row}
use Rattle.mesa_compact.specs.mesa_columns.Columns.{Columns}
use Rattle.mesa_compact.specs.mesa_columns.Rows.{AreRowsOf, IsRowOf}
use Rattle.mesa_compact.specs.mesa_block.Fill.{AreOver, rows_over}
use Rattle.mesa_delta.proofs.mesa_block.Held.{over_more, rows_of_row}

-- each row has as many values as this one
abbrev pub AreAsLong : Row → List Row → Type 0
AreAsLong row rows = AllByRecursion (λ (other : Row). length other.values ≡ length row.values) rows

pub as_long : (s : Columns) (rows : List Row) (row : Row) → AreRowsOf s rows → IsRowOf s row → AreAsLong row rows
as_long s [] row all one = tt
as_long s (x ∷ xs) row all one = (all.0.values ∙ sym one.values, as_long s xs row all.1 one)

-- With n values to a row a row fits behind those that are there, and they stay what they are.
pub record Goes (n count : ℕ) (keys : List (List ℕ)) (values : List ℤ) (row : Row) : Type 0 where
  pub size : length row.values ≡ n
  pub over : AreOver n keys values
  pub same : rows_over n keys values ≡ rows_over count keys values

pub goes : (n count : ℕ) (keys : List (List ℕ)) (values : List ℤ) (row : Row) → AreOver count keys values → AreAsLong row (rows_over count keys values)
    → (length keys ≡ 0 → n ≡ length row.values) → (0 < length keys → n ≡ count) → Goes n count keys values row
goes n count [] values row over all first later = record { size = sym (first refl); over = over; same = refl }
goes n count (key ∷ keys) values row over all first later =
    let is : n ≡ count = later (omega arith) in
    let size : count ≡ length row.values = sym (length-take-le count values over.0) ∙ all.0 in
    record {
      size = sym size ∙ sym is;
      over = subst (λ k. AreOver k (key ∷ keys) values) (sym is) over;
      same = ap (λ k. rows_over k (key ∷ keys) values) is;
    }

pub goes_over : (n count : ℕ) (keys others : List (List ℕ)) (values more : List ℤ) (row : Row) → Goes n count keys values row → others ≡ keys ++ row.key ∷ [] → more ≡ values ++ row.values → AreOver n others more
goes_over n count keys others values more row h put add =
    subst (λ ks. AreOver n ks more) (sym put) (subst (AreOver n (keys ++ row.key ∷ [])) (sym add) (over_more n keys row.key values row.values h.over h.size))

pub goes_on : (n count : ℕ) (keys others : List (List ℕ)) (values more : List ℤ) (row : Row) (rows : List Row) → Goes n count keys values row → others ≡ keys ++ row.key ∷ [] → more ≡ values ++ row.values → rows_over count keys values ≡ rows
    → rows_over n others more ≡ rows ++ row ∷ []
goes_on n count keys others values more row rows h put add is =
    rows_of_row n keys others values more row h.over h.size put add ∙ ap (λ rs. rs ++ row ∷ []) (h.same ∙ is)
