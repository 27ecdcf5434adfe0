-- The rows of a block lie between the short keys of its first key and of the next block's.
use Rattle.std.proofs.Common.{◌≡◌, ℕ, zero, suc, List, [], ◌∷◌, ◌++◌, map, get_or, refl, sym, ap, subst, arith, add-one, true}
use Rattle.std.specs.List.{AllByRecursion}
use Rattle.std.specs.Ordering.{is_le, ordering_reverse}
use Rattle.std.specs.declared.cmp.Ordering.{Ordering}
use Rattle.std.specs.declared.cmp.Ordering.TheVariants.{Less, Equal, Greater}
use Rattle.std.proofs.lemmas.Cmp.{nat_list_cmp_total}
use Rattle.std.proofs.lemmas.List.{map-append}
use Rattle.mesa_block.specs.mesa_key.Order.{byte_cmp, short_key}
use Rattle.mesa_columns.specs.declared.rows.Row.{Row}
use Rattle.mesa_block.specs.Layout.{Layout}
use Rattle.mesa_fold.specs.Folded.{rows_of}
use Rattle.mesa_block.specs.Rows.{AreRows, Rise}
use Rattle.mesa_block.specs.Spelling.{key_of}
use Rattle.mesa_delta_format.specs.Beginning.{IsSome, KeysBetween, LiesBetween, first_short}
use Rattle.mesa_delta_format.specs.Spread.{blocks_of}
use Rattle.mesa_delta_format.specs.Summary.{last_key}
use Rattle.mesa_delta_format.specs.Tail.{first_key}
use Rattle.mesa_delta_format.proofs.Packing.{FitsAlone, all_split, blocks_good, blocks_rows, rise_front}
use Rattle.mesa_delta_format.proofs.Shorts.{short_le}
use Rattle.mesa_delta_format.proofs.Spreading.{rise_behind, rise_tail}

itself : (o : Ordering) → o ≡ ordering_reverse o → is_le o ≡ true
itself Less e = absurd cc
itself Equal e = refl
itself Greater e = absurd cc

same_le : (key : List ℕ) → is_le (byte_cmp key key) ≡ true
same_le key = itself (byte_cmp key key) (nat_list_cmp_total.antisymm key key)

rise_skip : (a b : List ℕ) (keys : List (List ℕ)) → Rise (a ∷ b ∷ keys) → Rise (a ∷ keys)
rise_skip a b [] h = tt
rise_skip a b (c ∷ keys) h = (nat_list_cmp_total.trans a b c h.0 h.1.0, h.1.1)

-- keys behind a key are greater
above : (a : List ℕ) (rows : List Row) → Rise (a ∷ map key_of rows) → AllByRecursion (λ (row : Row). is_le (byte_cmp a row.key) ≡ true) rows
above a [] h = tt
above a (row ∷ rows) h = (ap is_le h.0, above a rows (rise_skip a row.key (map key_of rows) h))

-- none is less than the first
from_first : (rows : List Row) → Rise (map key_of rows) → AllByRecursion (λ (row : Row). is_le (byte_cmp (first_key rows) row.key) ≡ true) rows
from_first [] h = tt
from_first (row ∷ rows) h = (same_le row.key, above row.key rows h)

reaches : (a : List ℕ) (between : List (List ℕ)) (b : List ℕ) (more : List (List ℕ)) → Rise (a ∷ (between ++ b ∷ more)) → byte_cmp a b ≡ Less
reaches a [] b more h = h.0
reaches a (c ∷ between) b more h = nat_list_cmp_total.trans a c b h.0 (reaches c between b more h.1)

-- and each is less than what comes behind
below : (rows : List Row) (b : List ℕ) (more : List (List ℕ)) → Rise (map key_of rows ++ b ∷ more) → AllByRecursion (λ (row : Row). is_le (byte_cmp row.key b) ≡ true) rows
below [] b more h = tt
below (row ∷ rows) b more h = (ap is_le (reaches row.key (map key_of rows) b more h), below rows b more (rise_tail row.key (map key_of rows ++ b ∷ more) h))

to_last : (a : List ℕ) (b : Row) (rows : List Row) → Rise (a ∷ b.key ∷ map key_of rows) → byte_cmp a (last_key (b ∷ rows)) ≡ Less
to_last a b [] h = h.0
to_last a b (c ∷ rows) h = to_last a c rows (rise_skip a b.key (c.key ∷ map key_of rows) h)

-- none is greater than the last
up_to_last : (rows : List Row) → Rise (map key_of rows) → AllByRecursion (λ (row : Row). is_le (byte_cmp row.key (last_key rows)) ≡ true) rows
up_to_last [] h = tt
up_to_last (row ∷ []) h = (same_le row.key, tt)
up_to_last (a ∷ b ∷ rows) h = (ap is_le (to_last a.key b rows h), up_to_last (b ∷ rows) h.1)

-- so their short keys lie between
lie : (rows : List Row) (low high : List ℕ) → AllByRecursion (λ (row : Row). is_le (byte_cmp low row.key) ≡ true) rows → AllByRecursion (λ (row : Row). is_le (byte_cmp row.key high) ≡ true) rows → AllByRecursion (LiesBetween (short_key low) (short_key high)) rows
lie [] low high ge le = tt
lie (row ∷ rows) low high ge le = ((short_le low row.key ge.0, short_le row.key high le.0), lie rows low high ge.1 le.1)

abbrev bounds : List (List Row) → List ℕ → List (List ℕ)
bounds parts last = map first_short parts ++ short_key last ∷ []

parts_between : (parts : List (List Row)) (last : List ℕ) (i : ℕ) → AllByRecursion IsSome parts → Rise (map key_of (rows_of parts)) → AllByRecursion (λ (row : Row). is_le (byte_cmp row.key last) ≡ true) (rows_of parts)
    → AllByRecursion (LiesBetween (get_or (bounds parts last) i []) (get_or (bounds parts last) (suc i) [])) (get_or parts i [])
parts_between [] last i some rise le = tt
parts_between (part ∷ []) last zero some rise le =
    let split = all_split (λ (row : Row). is_le (byte_cmp row.key last) ≡ true) part [] le in
    lie part (first_key part) last (from_first part (rise_front (map key_of part) [] (subst Rise (map-append key_of part []) rise))) split.0
parts_between (part ∷ [] ∷ parts) last zero some rise le = absurd (omega (arith, some.1.0))
parts_between (part ∷ (next ∷ more) ∷ parts) last zero some rise le =
    let apart = subst Rise (map-append key_of part (next ∷ (more ++ rows_of parts))) rise in
    lie part (first_key part) next.key (from_first part (rise_front (map key_of part) (map key_of (next ∷ (more ++ rows_of parts))) apart)) (below part next.key (map key_of (more ++ rows_of parts)) apart)
parts_between (part ∷ parts) last (suc i) some rise le =
    let apart = subst Rise (map-append key_of part (rows_of parts)) rise in
    let split = all_split (λ (row : Row). is_le (byte_cmp row.key last) ≡ true) part (rows_of parts) le in
    parts_between parts last i some.1 (rise_behind (map key_of part) (map key_of (rows_of parts)) apart) split.1

each_some : (s : Layout) (parts : List (List Row)) → AllByRecursion (AreRows s) parts → AllByRecursion IsSome parts
each_some s [] all = tt
each_some s (part ∷ parts) all = (all.0.some, each_some s parts all.1)

pub between : FitsAlone → KeysBetween
between law s rows i schema some good rise =
    let parts = blocks_of s rows in
    let same = blocks_rows s rows in
    let each = each_some s parts (blocks_good law s rows schema some good rise) in
    let le = subst (AllByRecursion (λ (row : Row). is_le (byte_cmp row.key (last_key rows)) ≡ true)) (sym same) (up_to_last rows rise) in
    subst (λ (n : ℕ). AllByRecursion (LiesBetween (get_or (bounds parts (last_key rows)) i []) (get_or (bounds parts (last_key rows)) n [])) (get_or parts i [])) (sym (add-one i))
    (parts_between parts (last_key rows) i each (subst (λ (l : List Row). Rise (map key_of l)) (sym same) rise) le)
