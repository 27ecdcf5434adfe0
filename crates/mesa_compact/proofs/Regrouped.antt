-- Rows of groups, as a file.
use Rattle.std.proofs.Common.{◌≡◌, ℕ, zero, suc, ◌+◌, ◌-◌, ◌^◌, ◌<◌, List, [], ◌∷◌, ◌++◌, length, take, get_or, arith, length-append, subst}
use Rattle.std.proofs.lemmas.List.{length-map}
use Rattle.std.specs.Prelude.{IsTrue, map}
use Rattle.mesa_open_files.specs.mesa_columns.declared.rows.Row.{Row}
use Rattle.mesa_open_files.specs.mesa_columns.declared.views.View.{View}
use Rattle.mesa_open_files.specs.mesa_columns.Columns.{Columns, aggs_of, chosen}
use Rattle.mesa_open_files.specs.mesa_fold.Folded.{regrouped}
use Rattle.mesa_schema.specs.Views.{view_columns, view_key_places, view_rows, view_value_places}
use Rattle.mesa_open_files.specs.mesa_columns.Rows.{AreRowsOf}
use Rattle.mesa_open_files.specs.mesa_filter.Query.{are_places}
use Rattle.mesa_answer.specs.Answering.{KeepsSums}
use Rattle.mesa_answer.proofs.Bounds.{sums_grouped}
use Rattle.mesa_open_files.specs.mesa_block.Rows.{Rise}
use Rattle.mesa_open_files.specs.mesa_block.Spelling.{key_of}
use Rattle.mesa_answer.specs.Gathering.{Wanted, first_groups}
use Rattle.mesa_answer.proofs.Steps.{all_groups}
use Rattle.mesa_view.specs.SumDamage.{view_groups}
use Rattle.mesa_compact.proofs.Whole.{some_folded}

-- some rows are grouped to some
pub viewed_some : (s : Columns) (v : View) (rows : List Row) → 0 < length rows → 0 < length (view_rows s v rows)
viewed_some s v rows some =
    let f = λ (row : Row). regrouped s (view_key_places s v) (view_value_places s v) row in
    let count : length (map f rows ++ []) ≡ length (map f rows) + 0 = length-append (map f rows) [] in
    some_folded (chosen (view_value_places s v) (aggs_of s)) (map f rows ++ []) (omega (arith, some, count, length-map rows f))

-- a gatherer of a view's groups holds the view's rows
pub groups_are : (s : Columns) (v : View) (w : Wanted) (rows found : List Row) → w ≡ view_groups s v → found ≡ first_groups w rows → length found < 2 ^ 63 → found ≡ view_rows s v rows
groups_are s v w rows found wanted first few = all_groups s (view_key_places s v) (view_value_places s v) (2 ^ 64 - 1) w rows found wanted first (omega (arith, few))

-- the sums of a view's rows stay in their type where the table's do
pub view_sums : (s : Columns) (v : View) (w : Wanted) (rows : List Row) → w ≡ view_groups s v → IsTrue (are_places w.schema.values w.values) → AreRowsOf w.schema rows → KeepsSums s rows → KeepsSums (view_columns s v) (view_rows s v rows)
view_sums s v w rows wanted there form keeps =
    sums_grouped s (view_key_places s v) (view_value_places s v) rows (subst (λ (x : Wanted). IsTrue (are_places x.schema.values x.values)) wanted there) (subst (λ (x : Wanted). AreRowsOf x.schema rows) wanted form) keeps

-- a row that follows those before it
pub rise_at : (rows : List Row) (i : ℕ) (d : Row) → i < length rows → Rise (map key_of rows) → Rise (map key_of (take i rows ++ get_or rows i d ∷ []))
rise_at [] i d lt h = absurd (omega (arith, lt))
rise_at (a ∷ rows) zero d lt h = tt
rise_at (a ∷ []) (suc i) d lt h = absurd (omega (arith, lt))
rise_at (a ∷ b ∷ rows) (suc zero) d lt h = (h.0, tt)
rise_at (a ∷ b ∷ rows) (suc (suc i)) d lt h = (h.0, rise_at (b ∷ rows) (suc i) d (omega (arith, lt)) h.1)
