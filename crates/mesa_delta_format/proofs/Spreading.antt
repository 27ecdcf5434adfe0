-- Rows spread over blocks, one row more.
use Rattle.std.proofs.Common.{◌≡◌, ℕ, ◌<◌, List, [], ◌∷◌, ◌++◌, length, map, refl, sym, ap, subst, ◌∙◌, arith, append_assoc, Bool, true, false}
use Rattle.std.specs.List.{AllByRecursion}
use Rattle.std.specs.Prelude.{flat_map}
use Rattle.std.proofs.lemmas.List.{append-nil, length-append, map-append}
use Rattle.std.proofs.lemmas.Grind.{flat_map-append}
use Rattle.std.specs.declared.cmp.Ordering.TheVariants.{Less}
use Rattle.mesa_block.specs.mesa_key.Order.{byte_cmp}
use Rattle.mesa_columns.specs.declared.rows.Row.{Row}
use Rattle.mesa_block.specs.Layout.{Layout}
use Rattle.mesa_block.specs.Fill.{fit}
use Rattle.mesa_block.specs.Rows.{Rise}
use Rattle.mesa_block.specs.Spelling.{key_of}
use Rattle.mesa_delta_format.specs.Spread.{Filling, filled, with_more, placed, spread, nothing_filled}
use Rattle.mesa_delta_format.specs.Summary.{last_key}

pub filled_more : (s : Layout) (b : Filling) (rows : List Row) (row : Row) → filled s b (rows ++ row ∷ []) ≡ with_more s (filled s b rows) row
filled_more s b [] row = refl
filled_more s b (r ∷ rows) row = filled_more s (with_more s b r) rows row

abbrev pub all_of : List (List Row) → List Row
all_of parts = flat_map (λ (part : List Row). part) parts

-- the rows of all blocks, in order
abbrev pub rows_in : Filling → List Row
rows_in b = all_of b.done ++ b.last

placed_rows : (t : Bool) (b : Filling) (row : Row) → rows_in (placed t b row) ≡ rows_in b ++ row ∷ []
placed_rows true b row = sym (append_assoc (all_of b.done) b.last (row ∷ []))
placed_rows false b row = ap (λ (l : List Row). l ++ row ∷ []) (flat_map-append (λ (part : List Row). part) b.done (b.last ∷ []) ∙ ap (λ (l : List Row). all_of b.done ++ l) (append-nil b.last))

pub filled_rows : (s : Layout) (b : Filling) (rows : List Row) → rows_in (filled s b rows) ≡ rows_in b ++ rows
filled_rows s b [] = sym (append-nil (rows_in b))
filled_rows s b (row ∷ rows) =
    filled_rows s (with_more s b row) rows
    ∙ ap (λ (l : List Row). l ++ rows) (placed_rows (fit s (b.last ++ row ∷ [])) b row)
    ∙ append_assoc (rows_in b) (row ∷ []) rows

pub spread_rows : (s : Layout) (rows : List Row) → rows_in (spread s rows) ≡ rows
spread_rows s rows = filled_rows s nothing_filled rows

placed_some : (t : Bool) (b : Filling) (row : Row) → 0 < length (placed t b row).last
placed_some true b row = omega (arith, length-append b.last (row ∷ []))
placed_some false b row = omega arith

filled_some : (s : Layout) (b : Filling) (rows : List Row) → 0 < length b.last → 0 < length (filled s b rows).last
filled_some s b [] h = h
filled_some s b (row ∷ rows) h = filled_some s (with_more s b row) rows (placed_some (fit s (b.last ++ row ∷ [])) b row)

-- the open block of some rows has rows
pub spread_some : (s : Layout) (rows : List Row) → 0 < length rows → 0 < length (spread s rows).last
spread_some s [] h = absurd (omega arith)
spread_some s (row ∷ rows) h = filled_some s (with_more s nothing_filled row) rows (placed_some (fit s (row ∷ [])) nothing_filled row)

pub rise_tail : (a : List ℕ) (keys : List (List ℕ)) → Rise (a ∷ keys) → Rise keys
rise_tail a [] h = tt
rise_tail a (b ∷ keys) h = h.1

pub rise_behind : (front bs : List (List ℕ)) → Rise (front ++ bs) → Rise bs
rise_behind [] bs h = h
rise_behind (a ∷ front) bs h = rise_behind front bs (rise_tail a (front ++ bs) h)

-- the keys of the open block rise
pub open_rise : (s : Layout) (rows : List Row) (row : Row) → Rise (map key_of (rows ++ row ∷ [])) → Rise (map key_of ((spread s rows).last ++ row ∷ []))
open_rise s rows row h =
    let done = all_of (spread s rows).done in
    let last = (spread s rows).last in
    let parts : rows ++ row ∷ [] ≡ done ++ (last ++ row ∷ []) = ap (λ (l : List Row). l ++ row ∷ []) (sym (spread_rows s rows)) ∙ append_assoc done last (row ∷ []) in
    rise_behind (map key_of done) (map key_of (last ++ row ∷ [])) (subst Rise (ap (map key_of) parts ∙ map-append key_of done (last ++ row ∷ [])) h)

-- rows whose last key is the same take the same next row
rise_last : (a : Row) (rows : List Row) (row : Row) → Rise (map key_of ((a ∷ rows) ++ row ∷ [])) → byte_cmp (last_key (a ∷ rows)) row.key ≡ Less
rise_last a [] row h = h.0
rise_last a (b ∷ rows) row h = rise_last b rows row h.1

rise_more : (a : Row) (rows : List Row) (row : Row) → Rise (map key_of (a ∷ rows)) → byte_cmp (last_key (a ∷ rows)) row.key ≡ Less → Rise (map key_of ((a ∷ rows) ++ row ∷ []))
rise_more a [] row h less = (less, tt)
rise_more a (b ∷ rows) row h less = (h.0, rise_more b rows row h.1 less)

-- a row whose key is greater than the last one
pub rise_on : (rows : List Row) (row : Row) → 0 < length rows → Rise (map key_of rows) → byte_cmp (last_key rows) row.key ≡ Less → Rise (map key_of (rows ++ row ∷ []))
rise_on [] row some h less = absurd (omega arith)
rise_on (a ∷ rows) row some h less = rise_more a rows row h less

pub rise_alike : (rows others : List Row) (row : Row) → length rows ≡ length others → last_key rows ≡ last_key others → Rise (map key_of others) → Rise (map key_of (rows ++ row ∷ [])) → Rise (map key_of (others ++ row ∷ []))
rise_alike [] [] row len last rise h = tt
rise_alike [] (x ∷ others) row len last rise h = absurd (omega arith)
rise_alike (x ∷ rows) [] row len last rise h = absurd (omega arith)
rise_alike (x ∷ rows) (y ∷ others) row len last rise h = rise_more y others row rise (ap (λ (k : List ℕ). byte_cmp k row.key) (sym last) ∙ rise_last x rows row h)

pub each_more : {X : Type 0} (P : X → Type 0) (xs : List X) (x : X) → AllByRecursion P xs → P x → AllByRecursion P (xs ++ x ∷ [])
each_more P [] x all h = (h, tt)
each_more P (y ∷ xs) x all h = (all.0, each_more P xs x all.1 h)
