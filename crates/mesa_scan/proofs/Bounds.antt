-- The short keys between which blocks lie.
use Rattle.std.proofs.Common.{◌≡◌, ℕ, zero, suc, ◌+◌, ◌<◌, ◌≤◌, List, [], ◌∷◌, ◌++◌, length, get_or, refl, ◌∙◌, ap, arith, Bool, true, false, add-one}
use Rattle.std.specs.Prelude.{map, if◌then◌else◌}
use Rattle.mesa_delta.specs.mesa_columns.declared.rows.Row.{Row}
use Rattle.mesa_block.specs.Layout.{Layout}
use Rattle.mesa_block.specs.Spelling.{block}
use Rattle.mesa_delta.specs.mesa_delta_format.declared.place.Entry.{Entry}
use Rattle.mesa_delta.specs.mesa_delta_format.Beginning.{bounds_of, first_short}
use Rattle.mesa_delta.specs.mesa_delta_format.Indexed.{Indexed, IsIndex}
use Rattle.mesa_delta.specs.mesa_delta_format.Places.{entry_of, places, short_of}
use Rattle.mesa_delta.specs.Reading.{IsIndexed}
use Rattle.mesa_delta.specs.mesa_delta_format.Spread.{blocks_of}
use Rattle.mesa_delta.proofs.Indexing.{is_same}
use Rattle.mesa_delta.proofs.mesa_delta_format.Packing.{FitsAlone}
use Rattle.mesa_filter.specs.Filter.{KeyFilter}
use Rattle.mesa_scan.specs.Allowing.{allowed_among, allows_block, bounds_in}

-- a block begins at its entry's short key
pub front : (es : List Entry) (last : List ℕ) (n : ℕ) → n < length es → (entry_of es n).short ≡ get_or (map short_of es ++ last ∷ []) n []
front [] last n lt = absurd (omega arith)
front (e ∷ es) last zero lt = refl
front (e ∷ es) last (suc n) lt = front es last n (omega arith)

-- and the last one ends at the last key's
pub behind_last : (es : List Entry) (last : List ℕ) (n : ℕ) → length es ≡ n → last ≡ get_or (map short_of es ++ last ∷ []) n []
behind_last [] last zero e = refl
behind_last [] last (suc n) e = absurd (omega (arith, e))
behind_last (e ∷ es) last zero eq = absurd (omega (arith, eq))
behind_last (e ∷ es) last (suc n) eq = behind_last es last n (omega (arith, eq))

shorts_are : (s : Layout) (at : ℕ) (parts : List (List Row)) → map short_of (places s at parts) ≡ map first_short parts
shorts_are s at [] = refl
shorts_are s at (p ∷ parts) = ap (λ (l : List (List ℕ)). first_short p ∷ l) (shorts_are s (at + length (block s p)) parts)

-- where an index is true of a file, these are the file's
pub bounds_told : FitsAlone → (x : Indexed) (all : List Row) (b : List ℕ) → IsIndex x → IsIndexed x all b → bounds_in x ≡ bounds_of x.layout all
bounds_told law x all b index h =
    let shorts : map short_of x.entries ≡ map first_short (blocks_of x.layout all) = ap (map short_of) (is_same law x all b index h).entries ∙ shorts_are x.layout 0 (blocks_of x.layout all) in
    λ i. shorts i ++ h.last i ∷ []

one_or_none : (b : Bool) → (if b then 1 else 0) ≤ 1
one_or_none true = omega arith
one_or_none false = omega arith

-- no more blocks may have a matching row than there are
pub allowed_few : (f : KeyFilter) (columns : ℕ) (x : Indexed) (n : ℕ) → allowed_among f columns x n ≤ n
allowed_few f columns x zero = omega arith
allowed_few f columns x (suc n) = omega (arith, allowed_few f columns x n, one_or_none (allows_block f columns x n))

-- one block more
pub allowed_more : (f : KeyFilter) (columns : ℕ) (x : Indexed) (n : ℕ) (b : Bool) → allows_block f columns x n ≡ b → allowed_among f columns x (n + 1) ≡ allowed_among f columns x n + (if b then 1 else 0)
allowed_more f columns x n b e = ap (allowed_among f columns x) (add-one n) ∙ ap (λ (t : Bool). allowed_among f columns x n + (if t then 1 else 0)) e
