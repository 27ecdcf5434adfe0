-- The entries of a file's blocks are a tail's.
use Rattle.std.proofs.Common.{◌≡◌, ℕ, ◌+◌, ◌*◌, ◌^◌, ◌<◌, ◌≤◌, List, [], ◌∷◌, ◌++◌, length, map, take, drop, replicate, refl, sym, ap, subst, ◌∙◌, arith}
use Rattle.std.specs.List.{AllByRecursion}
use Rattle.std.specs.Prelude.{flat_map, IsTrue}
use Rattle.std.specs.Ordering.{is_le}
use Rattle.std.specs.declared.cmp.Ordering.TheVariants.{Less}
use Rattle.std.proofs.lemmas.List.{length-append, length-take-le, take_at, drop_at, map-append}
use Rattle.std.proofs.lemmas.Cmp.{nat_list_cmp_total}
use Rattle.sha2.proofs.Facts256.{length-sha256}
use Rattle.mesa_block.specs.mesa_key.Order.{byte_cmp, short_key}
use Rattle.mesa_columns.specs.declared.rows.Row.{Row}
use Rattle.mesa_block.specs.Layout.{Layout}
use Rattle.mesa_columns.specs.Schema.{is_schema}
use Rattle.mesa_fold.specs.Folded.{rows_of}
use Rattle.mesa_block.specs.Rows.{AreRows, Rise, most_rows}
use Rattle.mesa_block.specs.Spelling.{block, key_of}
use Rattle.mesa_delta_format.specs.File.{IsFile}
use Rattle.mesa_delta_format.specs.Indexed.{tail_length}
use Rattle.mesa_delta_format.specs.Places.{spelled, place_of, places, Follow, HasWidths, IsTail, shorts_of, tail_spelled}
use Rattle.mesa_delta_format.specs.Seeking.{NeverFall}
use Rattle.mesa_delta_format.specs.Spread.{blocks_of, spread}
use Rattle.mesa_delta_format.specs.Tail.{entries, first_key, foot, tail_of}
use Rattle.mesa_delta_format.proofs.Packing.{FitsAlone, blocks_good, blocks_rows}
use Rattle.mesa_delta_format.proofs.Shorts.{short_le}
use Rattle.mesa_delta_format.proofs.Spreading.{rise_behind}
use Rattle.mesa_delta_format.proofs.Tailing.{tail_long}

pub places_long : (s : Layout) (at : ℕ) (parts : List (List Row)) → length (places s at parts) ≡ length parts
places_long s at [] = refl
places_long s at (part ∷ parts) = omega (arith, places_long s (at + length (block s part)) parts)

entries_spelled : (s : Layout) (at : ℕ) (parts : List (List Row)) → entries s at parts ≡ flat_map spelled (places s at parts)
entries_spelled s at [] = refl
entries_spelled s at (part ∷ parts) = ap (λ (l : List ℕ). spelled (place_of s at part) ++ l) (entries_spelled s (at + length (block s part)) parts)

-- a tail by blocks and one by their entries are spelled alike
pub tail_is : (s : Layout) (rows : ℕ) (parts : List (List Row)) → tail_of s rows parts ≡ tail_spelled s rows (places s 0 parts)
tail_is s rows parts =
    ap (λ (l : List ℕ). l ++ foot s rows (length parts)) (entries_spelled s 0 parts) ∙ ap (λ (n : ℕ). flat_map spelled (places s 0 parts) ++ foot s rows n) (sym (places_long s 0 parts))

pub block_some : (s : Layout) (rows : List Row) → 0 < length (block s rows)
unfolding block
block_some s rows = omega arith

abbrev pub laid : Layout → List (List Row) → List ℕ
laid s parts = flat_map (block s) parts

pub laid_long : (s : Layout) (part : List Row) (parts : List (List Row)) → length (laid s (part ∷ parts)) ≡ length (block s part) + length (laid s parts)
laid_long s part parts = length-append (block s part) (laid s parts)

places_follow : (s : Layout) (at end : ℕ) (parts : List (List Row)) → AllByRecursion (AreRows s) parts → at + length (laid s parts) ≡ end → Follow at (places s at parts) end
places_follow s at end [] all sum = omega (arith, sum)
places_follow s at end (part ∷ parts) all sum =
    (refl, block_some s part, all.0.short, places_follow s (at + length (block s part)) end parts all.1 (omega (arith, sum, laid_long s part parts)))

short_long : (key : List ℕ) → length (short_key key) ≡ 16
short_long key = length-take-le 16 (key ++ replicate 16 0) (omega (arith, length-append key (replicate 16 0)))

places_widths : (s : Layout) (at : ℕ) (parts : List (List Row)) → AllByRecursion (AreRows s) parts → at + length (laid s parts) < 2 ^ 64 → AllByRecursion HasWidths (places s at parts)
places_widths s at [] all fits = tt
places_widths s at (part ∷ parts) all fits = (
  (short_long (first_key part), length-sha256 (block s part), omega (arith, fits), omega (arith, all.0.short)),
  places_widths s (at + length (block s part)) parts all.1 (omega (arith, fits, laid_long s part parts)),
)

less_all : (a : Row) (rows : List Row) (next : Row) (more : List Row) → Rise (map key_of ((a ∷ rows) ++ next ∷ more)) → byte_cmp a.key next.key ≡ Less
less_all a [] next more h = h.0
less_all a (b ∷ rows) next more h = nat_list_cmp_total.trans a.key b.key next.key h.0 (less_all b rows next more h.1)

first_less : (rows : List Row) (next : Row) (more : List Row) → 0 < length rows → Rise (map key_of (rows ++ next ∷ more)) → byte_cmp (first_key rows) next.key ≡ Less
first_less [] next more some h = absurd (omega arith)
first_less (a ∷ rows) next more some h = less_all a rows next more h

places_fall : (s : Layout) (at : ℕ) (parts : List (List Row)) → AllByRecursion (AreRows s) parts → Rise (map key_of (rows_of parts)) → NeverFall (shorts_of (places s at parts))
places_fall s at [] all rise = tt
places_fall s at (part ∷ []) all rise = tt
places_fall s at (part ∷ [] ∷ parts) all rise = absurd (omega (arith, all.1.0.some))
places_fall s at (part ∷ (next ∷ more) ∷ parts) all rise =
    let less = first_less part next (more ++ rows_of parts) all.0.some rise in (
      short_le (first_key part) next.key (ap is_le less),
      places_fall s (at + length (block s part)) ((next ∷ more) ∷ parts) all.1 (rise_behind (map key_of part) (map key_of ((next ∷ more) ++ rows_of parts)) (subst Rise (map-append key_of part ((next ∷ more) ++ rows_of parts)) rise)),
    )

few_rows : (s : Layout) (parts : List (List Row)) → AllByRecursion (AreRows s) parts → length (rows_of parts) ≤ most_rows * length parts
few_rows s [] all = omega arith
few_rows s (part ∷ parts) all = omega (arith, all.0.few, few_rows s parts all.1, length-append part (rows_of parts))

-- What the bytes of a file are, by its entries.
pub record IsTailOf (s : Layout) (rows : List Row) (bytes : List ℕ) : Type 0 where
  pub each : AllByRecursion (AreRows s) (blocks_of s rows)
  pub place : length (laid s (blocks_of s rows)) + tail_length s.columns (length (blocks_of s rows)) ≡ length bytes
  pub whole : bytes ≡ laid s (blocks_of s rows) ++ tail_spelled s (length rows) (places s 0 (blocks_of s rows))
  pub blocks : take (length (laid s (blocks_of s rows))) bytes ≡ laid s (blocks_of s rows)
  pub behind : drop (length (laid s (blocks_of s rows))) bytes ≡ tail_spelled s (length rows) (places s 0 (blocks_of s rows))
  pub tail : IsTail s (length (laid s (blocks_of s rows))) (length rows) (places s 0 (blocks_of s rows))
  pub few : length rows ≤ most_rows * length (blocks_of s rows)

blocks_some : (s : Layout) (rows : List Row) → 0 < length (blocks_of s rows)
blocks_some s rows = omega (arith, length-append (spread s rows).done ((spread s rows).last ∷ []))

pub tail_of_file : FitsAlone → (s : Layout) (rows : List Row) (bytes : List ℕ) → IsTrue (is_schema s.columns) → IsFile s rows bytes → length bytes < 2 ^ 64 → IsTailOf s rows bytes
tail_of_file law s rows bytes schema h fits =
    let parts = blocks_of s rows in
    let each = blocks_good law s rows schema h.some h.good h.rise in
    let is : bytes ≡ laid s parts ++ tail_spelled s (length rows) (places s 0 parts) = h.spelled ∙ ap (λ (l : List ℕ). laid s parts ++ l) (tail_is s (length rows) parts) in
    let sum : length bytes ≡ length (laid s parts) + length (tail_spelled s (length rows) (places s 0 parts)) = ap length is ∙ length-append (laid s parts) (tail_spelled s (length rows) (places s 0 parts)) in
    let widths = places_widths s 0 parts each (omega (arith, sum)) in
    let rise = subst (λ (l : List Row). Rise (map key_of l)) (sym (blocks_rows s rows)) h.rise in
    record {
      each = each;
      place = omega (arith, sum, tail_long s (length rows) (places s 0 parts) widths, places_long s 0 parts);
      whole = is;
      blocks = ap (λ (l : List ℕ). take (length (laid s parts)) l) is ∙ take_at (laid s parts) (tail_spelled s (length rows) (places s 0 parts)) (length (laid s parts)) refl;
      behind = ap (λ (l : List ℕ). drop (length (laid s parts)) l) is ∙ drop_at (laid s parts) (tail_spelled s (length rows) (places s 0 parts)) (length (laid s parts)) refl;
      tail = record {
        some = omega (arith, places_long s 0 parts, blocks_some s rows);
        follow = places_follow s 0 (length (laid s parts)) parts each (omega arith);
        fall = places_fall s 0 parts each rise;
        widths = widths;
      };
      few = omega (arith, few_rows s parts each, ap length (blocks_rows s rows));
    }
