-- Blocks that are read one after the other.
use Rattle.std.proofs.Common.{◌≡◌, ◌≢◌, ◌⊎◌, inl, inr, ℕ, ◌+◌, ◌<◌, List, [], ◌∷◌, ◌++◌, length, map, take, get_or, refl, sym, ap, subst, ◌∙◌, arith, Bool, true, false, leb, ltb}
use Rattle.std.specs.List.{AllByRecursion}
use Rattle.std.specs.Prelude.{◌||◌, ◌&&◌, ◌==◌}
use Rattle.std.specs.declared.cmp.Ordering.{Ordering}
use Rattle.std.specs.declared.cmp.Ordering.TheVariants.{Less, Equal, Greater}
use Rattle.std.proofs.lemmas.Bool.{leb-true, leb-false, ltb-true, ltb-false, eqb-true, false≢true}
use Rattle.std.proofs.lemmas.List.{append-nil, length-append}
use Rattle.std.proofs.lemmas.Grind.{flat_map-append}
use Rattle.mesa_delta_format.specs.mesa_key.Order.{byte_cmp}
use Rattle.mesa_delta_format.specs.mesa_columns.declared.rows.Row.{Row}
use Rattle.mesa_delta_format.specs.mesa_block.Layout.{Layout, values_size, widths_of}
use Rattle.mesa_delta_format.specs.mesa_fold.Folded.{rows_of}
use Rattle.mesa_delta_format.specs.mesa_block.Fill.{fit, is_full}
use Rattle.mesa_delta_format.specs.mesa_block.Reading.{is_less}
use Rattle.mesa_delta_format.specs.mesa_block.Rows.{AreRows, IsRow, Rise, most_rows, most_bytes}
use Rattle.mesa_delta_format.specs.mesa_block.Spelling.{block, key_of}
use Rattle.mesa_delta.specs.declared.run.Run.{Run}
use Rattle.mesa_delta_format.specs.declared.place.Entry.{Entry}
use Rattle.mesa_delta_format.specs.Indexed.{Indexed, IsIndex}
use Rattle.mesa_delta_format.specs.Packing.{Packed, last_part}
use Rattle.mesa_delta.specs.NextBlock.{goes_on}
use Rattle.mesa_delta_format.specs.Places.{entry_of}
use Rattle.mesa_delta.specs.Reading.{IsBlock, IsNeverNext, IsRun}
use Rattle.mesa_delta_format.specs.Spread.{blocks_of}
use Rattle.mesa_delta_format.specs.Summary.{last_key}
use Rattle.mesa_delta.proofs.Indexing.{is_same}
use Rattle.mesa_delta_format.proofs.Packing.{FitsAlone, Grows, fits, fit_true, blocks_packed, blocks_rows}
use Rattle.mesa_delta_format.proofs.Spreading.{each_more}

full_at : (a b : Bool) → (a ≡ false → b ≡ false → ⊥) → a || b ≡ true
full_at true b off = refl
full_at false true off = refl
full_at false false off = absurd (off refl refl)

or_true : (a b : Bool) → a || b ≡ true → (a ≡ true) ⊎ (b ≡ true)
or_true true b e = inl refl
or_true false b e = inr e

and_true : (a b : Bool) → a && b ≡ true → (a ≡ true) × (b ≡ true)
and_true true true e = (refl, refl)
and_true true false e = absurd (false≢true e)
and_true false b e = absurd (false≢true e)

and_both : (a b : Bool) → a ≡ true → b ≡ true → a && b ≡ true
and_both a b e f = ap (λ (x : Bool). x && b) e ∙ f

or_left : (a b : Bool) → a ≡ true → a || b ≡ true
or_left a b e = ap (λ (x : Bool). x || b) e

or_right : (a b : Bool) → b ≡ true → a || b ≡ true
or_right true b e = refl
or_right false b e = e

not_true : (a : Bool) → (a ≡ true → ⊥) → a ≡ false
not_true true off = absurd (off refl)
not_true false off = refl

abbrev more_bytes : Layout → Row → ℕ
more_bytes s row = length row.key + values_size (widths_of s)

-- what is kept tells whether the last block has room
full_is : Grows → (s : Layout) (run : Run) (last : List Row) (row : Row) → AllByRecursion (IsRow s) last → IsRow s row → run.count ≡ length last → run.len ≡ length (block s last) → fit s (last ++ row ∷ []) ≡ false → is_full (values_size (widths_of s)) run.count run.len row ≡ true
full_is law s run last row all h count len off =
    full_at (leb most_rows run.count) (ltb most_bytes (run.len + more_bytes s row))
    (λ a b.
    let few = leb-false most_rows run.count a in
    let short = ltb-false most_bytes (run.len + more_bytes s row) b in
    let yes = fits s (last ++ row ∷ []) (omega (arith, few, count, length-append last (row ∷ []))) (omega (arith, short, len, law s last row all h)) in
    false≢true (sym off ∙ yes))

full_so : Grows → (s : Layout) (run : Run) (last : List Row) (row : Row) → AllByRecursion (IsRow s) last → IsRow s row → run.count ≡ length last → run.len ≡ length (block s last) → is_full (values_size (widths_of s)) run.count run.len row ≡ true → fit s (last ++ row ∷ []) ≡ false
full_so law s run last row all h count len full =
    not_true (fit s (last ++ row ∷ []))
    (λ yes.
    let f = fit_true s (last ++ row ∷ []) yes in
    elim (or_true (leb most_rows run.count) (ltb most_bytes (run.len + more_bytes s row)) full) as (λ _. ⊥) [
      | inl a ↦ absurd (omega (arith, leb-true most_rows run.count a, f.0, count, length-append last (row ∷ [])))
      | inr b ↦ absurd (omega (arith, ltb-true most_bytes (run.len + more_bytes s row) b, f.1, len, law s last row all h))
    ])

less_is : (o : Ordering) → is_less o ≡ true → o ≡ Less
less_is Less e = refl
less_is Equal e = absurd (false≢true e)
less_is Greater e = absurd (false≢true e)

pub last_less : (rows : List Row) (row : Row) (more : List Row) → 0 < length rows → Rise (map key_of (rows ++ row ∷ more)) → byte_cmp (last_key rows) row.key ≡ Less
last_less [] row more some h = absurd (omega arith)
last_less (a ∷ []) row more some h = h.0
last_less (a ∷ b ∷ rows) row more some h = last_less (b ∷ rows) row more (omega arith) h.1

rise_join : (rows : List Row) (row : Row) (more : List Row) → Rise (map key_of rows) → Rise (map key_of (row ∷ more)) → (0 < length rows → byte_cmp (last_key rows) row.key ≡ Less) → Rise (map key_of (rows ++ row ∷ more))
rise_join [] row more h k less = k
rise_join (a ∷ []) row more h k less = (less (omega arith), k)
rise_join (a ∷ b ∷ rows) row more h k less = (h.0, rise_join (b ∷ rows) row more h.1 k (λ some. less (omega arith)))

packed_at : (s : Layout) (p : List Row) (parts : List (List Row)) (part : List Row) (more : List (List Row)) → Packed s ((p ∷ parts) ++ part ∷ more) → fit s (last_part (p ∷ parts) ++ take 1 part) ≡ false
packed_at s p [] part more h = h.0
packed_at s p (q ∷ parts) part more h = packed_at s q parts part more h.1

packed_join : (s : Layout) (parts : List (List Row)) (part : List Row) → Packed s parts → (0 < length parts → fit s (last_part parts ++ take 1 part) ≡ false) → Packed s (parts ++ part ∷ [])
packed_join s [] part h off = tt
packed_join s (p ∷ []) part h off = (off (omega arith), tt)
packed_join s (p ∷ q ∷ parts) part h off = (h.0, packed_join s (q ∷ parts) part h.1 (λ some. off (omega arith)))

last_part_good : (s : Layout) (parts : List (List Row)) → 0 < length parts → AllByRecursion (AreRows s) parts → AreRows s (last_part parts)
last_part_good s [] some all = absurd (omega arith)
last_part_good s (p ∷ []) some all = all.0
last_part_good s (p ∷ q ∷ parts) some all = last_part_good s (q ∷ parts) (omega arith) all.1

last_part_push : (parts : List (List Row)) (part : List Row) → last_part (parts ++ part ∷ []) ≡ part
last_part_push [] part = refl
last_part_push (p ∷ []) part = refl
last_part_push (p ∷ q ∷ parts) part = last_part_push (q ∷ parts) part

last_key_append : (rows : List Row) (row : Row) (more : List Row) → last_key (rows ++ row ∷ more) ≡ last_key (row ∷ more)
last_key_append [] row more = refl
last_key_append (a ∷ []) row more = refl
last_key_append (a ∷ b ∷ rows) row more = last_key_append (b ∷ rows) row more

rows_more : (parts : List (List Row)) (part : List Row) (more : List (List Row)) → rows_of (parts ++ part ∷ more) ≡ rows_of parts ++ (part ++ rows_of more)
rows_more parts part more = flat_map-append (λ (p : List Row). p) parts (part ∷ more)

pub rows_push : (parts : List (List Row)) (part : List Row) → rows_of (parts ++ part ∷ []) ≡ rows_of parts ++ part
rows_push parts part = rows_more parts part [] ∙ ap (λ (l : List Row). rows_of parts ++ l) (append-nil part)

rows_some : (s : Layout) (p : List Row) (parts : List (List Row)) → AreRows s p → 0 < length (rows_of (p ∷ parts))
rows_some s p parts h = omega (arith, h.some, length-append p (rows_of parts))

-- a block of a file that begins so may come next
pub goes_holds : Grows → (s : Layout) (run : Run) (parts more : List (List Row)) (row : Row) (rest : List Row) → IsRun s run parts → IsRow s row → Packed s (parts ++ (row ∷ rest) ∷ more) → Rise (map key_of (rows_of (parts ++ (row ∷ rest) ∷ more))) → goes_on s run row ≡ true
goes_holds law s run [] more row rest h is packed rise = or_left (run.next == 0) (is_less (byte_cmp run.last row.key) && is_full (values_size (widths_of s)) run.count run.len row) (ap (λ (n : ℕ). n == 0) h.next)
goes_holds law s run (p ∷ parts) more row rest h is packed rise =
    let last = last_part_good s (p ∷ parts) (omega arith) h.each in
    let less = last_less (rows_of (p ∷ parts)) row (rest ++ rows_of more) (rows_some s p parts h.each.0) (subst (λ (l : List Row). Rise (map key_of l)) (rows_more (p ∷ parts) (row ∷ rest) more) rise) in
    let full = full_is law s run (last_part (p ∷ parts)) row last.good is h.count (h.len (omega arith)) (packed_at s p parts (row ∷ rest) more packed) in
    or_right (run.next == 0) (is_less (byte_cmp run.last row.key) && is_full (values_size (widths_of s)) run.count run.len row)
    (and_both (is_less (byte_cmp run.last row.key)) (is_full (values_size (widths_of s)) run.count run.len row) (ap is_less (ap (λ (k : List ℕ). byte_cmp k row.key) h.last ∙ less)) full)

zero_so : (n : ℕ) → n == 0 ≡ true → n ≡ 0
zero_so n e = eqb-true n 0 e

-- what a test that is passed tells
passed : Grows → (s : Layout) (run : Run) (parts : List (List Row)) (row : Row) → IsRun s run parts → IsRow s row → goes_on s run row ≡ true → 0 < length parts → (byte_cmp (last_key (rows_of parts)) row.key ≡ Less) × (fit s (last_part parts ++ row ∷ []) ≡ false)
passed law s run parts row h is e some =
    let last = last_part_good s parts some h.each in
    elim (or_true (run.next == 0) (is_less (byte_cmp run.last row.key) && is_full (values_size (widths_of s)) run.count run.len row) e) as (λ _. (byte_cmp (last_key (rows_of parts)) row.key ≡ Less) × (fit s (last_part parts ++ row ∷ []) ≡ false)) [
      | inl z ↦ absurd (omega (arith, zero_so run.next z, h.next, some))
      | inr f ↦ (
          let both = and_true (is_less (byte_cmp run.last row.key)) (is_full (values_size (widths_of s)) run.count run.len row) f in
          (ap (λ (k : List ℕ). byte_cmp k row.key) (sym h.last) ∙ less_is (byte_cmp run.last row.key) both.0, full_so law s run (last_part parts) row last.good is h.count (h.len some) both.1)
          )
    ]

parts_some : (parts : List (List Row)) → 0 < length (rows_of parts) → 0 < length parts
parts_some [] some = absurd (omega arith)
parts_some (p ∷ parts) some = omega arith

part_good : (s : Layout) (parts : List (List Row)) (part : List Row) (more : List (List Row)) → AllByRecursion (AreRows s) (parts ++ part ∷ more) → AreRows s part
part_good s [] part more all = all.0
part_good s (p ∷ parts) part more all = part_good s parts part more all.1

no_more : (more : List (List Row)) → length more ≡ 0 → more ≡ []
no_more [] e = refl
no_more (p ∷ more) e = absurd (omega arith)

-- what is kept after one block more
pub one_more : Grows → (x : Indexed) (run after : Run) (parts : List (List Row)) (row : Row) (rest : List Row) → IsRun x.layout run parts → IsBlock x run.next (row ∷ rest) → goes_on x.layout run row ≡ true
    → after.next ≡ run.next + 1 → after.rows ≡ run.rows + length (row ∷ rest) → after.last ≡ last_key (row ∷ rest) → after.count ≡ length (row ∷ rest) → after.len ≡ (entry_of x.entries run.next).len → IsRun x.layout after (parts ++ (row ∷ rest) ∷ [])
one_more law x run after parts row rest h b e next rows last count len =
    let s = x.layout in
    let part = row ∷ rest in
    let told = passed law s run parts row h b.rows.good.0 e in
    let sum = rows_push parts part in
    let rise = rise_join (rows_of parts) row rest h.rise b.rows.rise (λ some. (told (parts_some parts some)).0) in
    record {
      each = each_more (AreRows s) parts part h.each b.rows;
      rise = subst (λ (l : List Row). Rise (map key_of l)) (sym sum) rise;
      packed = packed_join s parts part h.packed (λ some. (told some).1);
      next = omega (arith, next, h.next, length-append parts (part ∷ []));
      rows = omega (arith, rows, h.rows, ap length sum, length-append (rows_of parts) part);
      last = last ∙ sym (ap last_key sum ∙ last_key_append (rows_of parts) row rest);
      count = count ∙ sym (ap length (last_part_push parts part));
      len = λ some. len ∙ ap (λ (e : Entry). e.len) b.entry ∙ sym (ap (λ (p : List Row). length (block s p)) (last_part_push parts part));
    }

-- where the test isn't passed, the block stands in off file behind these
pub never_passed : FitsAlone → Grows → (x : Indexed) (run : Run) (row : Row) (rest : List Row) → IsIndex x → goes_on x.layout run row ≡ false → IsNeverNext x run (row ∷ rest)
never_passed law grows x run row rest index off = λ parts more rows bytes h f is.
    let s = x.layout in
    let packed = subst (Packed s) is (blocks_packed law s rows index.schema f.file.some f.file.good) in
    let rise = subst (λ (l : List Row). Rise (map key_of l)) (sym (blocks_rows s rows) ∙ ap rows_of is) f.file.rise in
    let same = is_same law x rows bytes index f in
    let good = part_good s parts (row ∷ rest) more (subst (AllByRecursion (AreRows s)) is same.of_file.each) in
    absurd (false≢true (sym off ∙ goes_holds grows s run parts more row rest h good.good.0 packed rise))

-- where the count of rows isn't the index's, too
pub never_counted : FitsAlone → (x : Indexed) (run after : Run) (part : List Row) → IsIndex x → after.next ≡ run.next + 1 → after.rows ≡ run.rows + length part → after.next ≡ length x.entries → after.rows ≢ x.rows → IsNeverNext x run part
never_counted law x run after part index next rows_are all off = λ parts more rows bytes h f is.
    let s = x.layout in
    let same = is_same law x rows bytes index f in
    let none = no_more more (omega (arith, all, next, h.next, f.blocks, ap length is, length-append parts (part ∷ more))) in
    let last : blocks_of s rows ≡ parts ++ part ∷ [] = is ∙ ap (λ (l : List (List Row)). parts ++ part ∷ l) none in
    let count : length rows ≡ length (rows_of parts) + length part = ap length (sym (blocks_rows s rows) ∙ ap rows_of last ∙ rows_push parts part) ∙ length-append (rows_of parts) part in
    off (omega (arith, rows_are, h.rows, count, same.rows))

-- the same for rows of which the first is known
pub never_allowed : FitsAlone → Grows → (x : Indexed) (run : Run) (part : List Row) (row : Row) → IsIndex x → 0 < length part → row ≡ get_or part 0 row → goes_on x.layout run row ≡ false → IsNeverNext x run part
never_allowed law grows x run [] row index some is off = absurd (omega arith)
never_allowed law grows x run (first ∷ rest) row index some is off = never_passed law grows x run first rest index (ap (goes_on x.layout run) (sym is) ∙ off)

pub one_more_of : Grows → (x : Indexed) (run after : Run) (parts : List (List Row)) (part : List Row) (row : Row) → IsRun x.layout run parts → IsBlock x run.next part → row ≡ get_or part 0 row → goes_on x.layout run row ≡ true
    → after.next ≡ run.next + 1 → after.rows ≡ run.rows + length part → after.last ≡ last_key part → after.count ≡ length part → after.len ≡ (entry_of x.entries run.next).len → IsRun x.layout after (parts ++ part ∷ [])
one_more_of law x run after parts [] row h b is e next rows last count len = absurd (omega (arith, b.rows.some))
one_more_of law x run after parts (first ∷ rest) row h b is e next rows last count len = one_more law x run after parts first rest h b (ap (goes_on x.layout run) (sym is) ∙ e) next rows last count len
