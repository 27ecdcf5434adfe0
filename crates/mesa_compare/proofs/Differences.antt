-- Where two rising lists of rows first differ.
use Rattle.std.proofs.Common.{◌≡◌, inl, inr, ℕ, List, [], ◌∷◌, ◌++◌, Bool, true, false, Some, None, refl, sym, ◌∙◌, ap, subst}
use Rattle.std.proofs.lemmas.List.{append-nil}
use Rattle.std.specs.Prelude.{not, cond, ◌||◌, slice_get}
use Rattle.std.specs.declared.cmp.Ordering.{Ordering}
use Rattle.std.specs.declared.cmp.Ordering.TheVariants.{Less, Equal, Greater}
use Rattle.std.specs.FinMap.{slice_cmp-IsAntisymmetric, nat_cmp-IsAntisymmetric}
use Rattle.mesa_schema.specs.mesa_key.Order.{byte_cmp}
use Rattle.mesa_schema.specs.mesa_columns.declared.rows.Row.{Row}
use Rattle.mesa_schema.specs.mesa_fold.Folded.{keys_of}
use Rattle.mesa_schema.specs.mesa_columns.Rows.{keys_rise}
use Rattle.mesa_schema.proofs.mesa_columns.Lists.{all_append, all_so}
use Rattle.mesa_compare.specs.Difference.{first_difference, has_row, next_of, rows_beside, same_row}
use Rattle.mesa_compare.proofs.Same.{AreAbove, above_more, flipped_back, not_among, rest_above, rest_rises, same_is}
use Rattle.mesa_compare.proofs.Least.{AreFrom, IsFrom, least}
use Rattle.mesa_compare.proofs.Beside.{common_front, kept, none_beside}

-- ---- the first key

first_is : (rows : List Row) (key : List ℕ) → (more : List (List ℕ)) × (keys_of rows ≡ key ∷ more) → slice_get (keys_of rows) 0 ≡ Some key
first_is rows key (more, is) = ap (λ keys. slice_get keys 0) is

above_from : (key : List ℕ) (rows : List Row) → AreAbove key rows → AreFrom key rows
above_from key rows above = all_so (λ (row : Row). byte_cmp key row.key ≡ Less) (λ (row : Row). IsFrom key row.key) rows (λ row less. inr less) above

beside_from : (key : List ℕ) (rows others : List Row) → AreFrom key rows → AreFrom key (rows_beside rows others)
beside_from key rows others all = kept (λ (row : Row). IsFrom key row.key) (λ row. not (has_row row others)) rows all

taken : (row : Row) (rows others : List Row) → has_row row others ≡ false → rows_beside (row ∷ rows) others ≡ row ∷ rows_beside rows others
taken row rows others e = ap (λ b. cond (not b) (row ∷ rows_beside rows others) (rows_beside rows others)) e

-- a row that the other list hasn't, at the least of the keys
first_here : (row : Row) (rows others : List Row) → has_row row others ≡ false → AreAbove row.key rows → AreFrom row.key others → first_difference (row ∷ rows) others ≡ Some row.key
first_here row rows others none above from =
    ap (λ xs. slice_get (keys_of (xs ++ rows_beside others (row ∷ rows))) 0) (taken row rows others none)
    ∙ first_is (row ∷ (rows_beside rows others ++ rows_beside others (row ∷ rows))) row.key
    (least row.key [] row (rows_beside rows others ++ rows_beside others (row ∷ rows)) refl tt
    (all_append (λ (x : Row). IsFrom row.key x.key) (rows_beside rows others) (rows_beside others (row ∷ rows)) (beside_from row.key rows others (above_from row.key rows above)) (beside_from row.key others (row ∷ rows) from)))

-- and one that the first list hasn't
first_there : (row : Row) (rows others : List Row) → has_row row rows ≡ false → AreAbove row.key others → AreFrom row.key rows → first_difference rows (row ∷ others) ≡ Some row.key
first_there row rows others none above from =
    ap (λ xs. slice_get (keys_of (rows_beside rows (row ∷ others) ++ xs)) 0) (taken row others rows none)
    ∙ first_is (rows_beside rows (row ∷ others) ++ row ∷ rows_beside others rows) row.key
    (least row.key (rows_beside rows (row ∷ others)) row (rows_beside others rows) refl (beside_from row.key rows (row ∷ others) from) (beside_from row.key others rows (above_from row.key others above)))

-- ---- two rows

pub lesser_here : (a b : Row) (rows others : List Row) → byte_cmp a.key b.key ≡ Less → keys_rise (a ∷ rows) ≡ true → keys_rise (b ∷ others) ≡ true → first_difference (a ∷ rows) (b ∷ others) ≡ Some a.key
lesser_here a b rows others less rises rise =
    let above : AreAbove a.key (b ∷ others) = (less, above_more a.key b.key others less (rest_above b others rise)) in
    first_here a rows (b ∷ others) (not_among a (b ∷ others) above) (rest_above a rows rises) (above_from a.key (b ∷ others) above)

pub lesser_there : (a b : Row) (rows others : List Row) → byte_cmp b.key a.key ≡ Less → keys_rise (a ∷ rows) ≡ true → keys_rise (b ∷ others) ≡ true → first_difference (a ∷ rows) (b ∷ others) ≡ Some b.key
lesser_there a b rows others less rises rise =
    let above : AreAbove b.key (a ∷ rows) = (less, above_more b.key a.key rows less (rest_above a rows rises)) in
    first_there b (a ∷ rows) others (not_among b (a ∷ rows) above) (rest_above b others rise) (above_from b.key (a ∷ rows) above)

pub other_values : (a b : Row) (rows others : List Row) → a.key ≡ b.key → same_row a b ≡ false → keys_rise (a ∷ rows) ≡ true → keys_rise (b ∷ others) ≡ true → first_difference (a ∷ rows) (b ∷ others) ≡ Some a.key
other_values a b rows others key apart rises rise =
    let above : AreAbove a.key others = subst (λ k. AreAbove k others) (sym key) (rest_above b others rise) in
    first_here a rows (b ∷ others) (ap (λ t. t || has_row a others) apart ∙ not_among a others above) (rest_above a rows rises) (inl (sym key), above_from a.key others above)

-- ---- lists that begin alike

behind : (front rows : List Row) → keys_rise (front ++ rows) ≡ true → keys_rise rows ≡ true
behind [] rows rises = rises
behind (x ∷ front) rows rises = behind front rows (rest_rises x (front ++ rows) rises)

pub alike : (front rows others : List Row) → keys_rise (front ++ rows) ≡ true → keys_rise (front ++ others) ≡ true → first_difference (front ++ rows) (front ++ others) ≡ first_difference rows others
alike front rows others rises rise = λ i. slice_get (keys_of (common_front front rows others rises i ++ common_front front others rows rise i)) 0

-- the first key shows behind what both have in common
pub shows_behind : (front rows others : List Row) (key : List ℕ) → keys_rise (front ++ rows) ≡ true → keys_rise (front ++ others) ≡ true
    → (keys_rise rows ≡ true → keys_rise others ≡ true → first_difference rows others ≡ Some key) → first_difference (front ++ rows) (front ++ others) ≡ Some key
shows_behind front rows others key rises rise shows = alike front rows others rises rise ∙ shows (behind front rows rises) (behind front others rise)

-- one list ends where the other goes on
pub ends_there : (a : Row) (rows : List Row) → keys_rise (a ∷ rows) ≡ true → first_difference (a ∷ rows) [] ≡ Some a.key
ends_there a rows rises = first_here a rows [] refl (rest_above a rows rises) tt

pub ends_here : (b : Row) (others : List Row) → keys_rise (b ∷ others) ≡ true → first_difference [] (b ∷ others) ≡ Some b.key
ends_here b others rise = first_there b [] others refl (rest_above b others rise) tt

-- ---- no difference

-- lists that are the same differ nowhere
pub nowhere : (rows : List Row) → first_difference rows rows ≡ None
nowhere rows =
    let none : rows_beside rows rows ≡ [] = subst (λ xs. rows_beside rows xs ≡ []) (append-nil rows) (none_beside [] rows []) in
    ap (λ xs. slice_get (keys_of (xs ++ xs)) 0) none

equal_keys : (a b : List ℕ) → byte_cmp a b ≡ Equal → a ≡ b
equal_keys a b e = slice_cmp-IsAntisymmetric nat_cmp-IsAntisymmetric a b e

-- rows whose keys rise and that differ nowhere are the same
pub same_where_none : (rows others : List Row) → keys_rise rows ≡ true → keys_rise others ≡ true → first_difference rows others ≡ None → rows ≡ others
same_where_none [] [] rises rise none = refl
same_where_none (a ∷ rows) [] rises rise none = (let bad : Some a.key ≡ None = sym (ends_there a rows rises) ∙ none in cc)
same_where_none [] (b ∷ others) rises rise none = (let bad : Some b.key ≡ None = sym (ends_here b others rise) ∙ none in cc)
same_where_none (a ∷ rows) (b ∷ others) rises rise none = by (byte_cmp a.key b.key) refl (same_row a b) refl (λ left right. same_where_none rows others left right)
  where
    by : (o : Ordering) → byte_cmp a.key b.key ≡ o → (t : Bool) → same_row a b ≡ t → (keys_rise rows ≡ true → keys_rise others ≡ true → first_difference rows others ≡ None → rows ≡ others) → a ∷ rows ≡ b ∷ others
    by Less is t same rest = (let bad : Some a.key ≡ None = sym (lesser_here a b rows others is rises rise) ∙ none in cc)
    by Greater is t same rest = (let less : byte_cmp b.key a.key ≡ Less = flipped_back b.key a.key is in let bad : Some b.key ≡ None = sym (lesser_there a b rows others less rises rise) ∙ none in cc)
    by Equal is false same rest = (let bad : Some a.key ≡ None = sym (other_values a b rows others (equal_keys a.key b.key is) same rises rise) ∙ none in cc)
    by Equal is true same rest =
        let one : a ≡ b = same_is a b same in
        let rise_a : keys_rise (a ∷ others) ≡ true = subst (λ x. keys_rise (x ∷ others) ≡ true) (sym one) rise in
        let none_a : first_difference (a ∷ rows) (a ∷ others) ≡ None = subst (λ x. first_difference (a ∷ rows) (x ∷ others) ≡ None) (sym one) none in
        let tail : rows ≡ others = rest (rest_rises a rows rises) (rest_rises b others rise) (sym (alike (a ∷ []) rows others rises rise_a) ∙ none_a) in
        λ i. one i ∷ tail i

-- ---- the next rows of two lists

pub next_is : (rows : List Row) (row : Row) → next_of rows ≡ Some row → (more : List Row) × (rows ≡ row ∷ more)
next_is [] row e = absurd cc
next_is (x ∷ rows) row e = (let same : x ≡ row = cc in (rows, ap (λ y. y ∷ rows) same))

pub next_none : (rows : List Row) → next_of rows ≡ None → rows ≡ []
next_none [] e = refl
next_none (x ∷ rows) e = absurd cc

abbrev Rises : List Row → Type 0
Rises rows = keys_rise rows ≡ true

-- both go on, and the first key shows in how they do
pub both_go_on : (front rows others : List Row) (a b : Row) (key : List ℕ) → next_of rows ≡ Some a → next_of others ≡ Some b → Rises (front ++ rows) → Rises (front ++ others)
    → ((more behind : List Row) → Rises (a ∷ more) → Rises (b ∷ behind) → first_difference (a ∷ more) (b ∷ behind) ≡ Some key) → first_difference (front ++ rows) (front ++ others) ≡ Some key
both_go_on front rows others a b key here there rises rise shows =
    let one = next_is rows a here in
    let other = next_is others b there in
    shows_behind front rows others key rises rise (λ left right.
    (λ i. first_difference (one.1 i) (other.1 i)) ∙ shows one.0 other.0 (subst Rises one.1 left) (subst Rises other.1 right))

pub other_ends : (front rows others : List Row) (a : Row) → next_of rows ≡ Some a → next_of others ≡ None → Rises (front ++ rows) → Rises (front ++ others) → first_difference (front ++ rows) (front ++ others) ≡ Some a.key
other_ends front rows others a here there rises rise =
    let one = next_is rows a here in
    shows_behind front rows others a.key rises rise (λ left right. (λ i. first_difference (one.1 i) (next_none others there i)) ∙ ends_there a one.0 (subst Rises one.1 left))

pub one_ends : (front rows others : List Row) (b : Row) → next_of rows ≡ None → next_of others ≡ Some b → Rises (front ++ rows) → Rises (front ++ others) → first_difference (front ++ rows) (front ++ others) ≡ Some b.key
one_ends front rows others b here there rises rise =
    let other = next_is others b there in
    shows_behind front rows others b.key rises rise (λ left right. (λ i. first_difference (next_none rows here i) (other.1 i)) ∙ ends_here b other.0 (subst Rises other.1 right))
