-- Blocks that are filled in turn are as full as they can be, and only such blocks are.
use Rattle.std.proofs.Common.{◌≡◌, ℕ, ◌+◌, ◌<◌, ◌≤◌, List, [], ◌∷◌, ◌++◌, length, map, take, refl, sym, ap, subst, ◌∙◌, arith, append_assoc, Bool, true, false, leb}
use Rattle.std.specs.List.{AllByRecursion}
use Rattle.std.specs.Prelude.{IsTrue, ◌&&◌}
use Rattle.std.proofs.lemmas.Bool.{leb-true, le-leb}
use Rattle.std.proofs.lemmas.List.{append-nil, length-append, map-append}
use Rattle.std.proofs.lemmas.Grind.{flat_map-append}
use Rattle.mesa_columns.specs.declared.rows.Row.{Row}
use Rattle.mesa_block.specs.Layout.{Layout, values_size, widths_of}
use Rattle.mesa_columns.specs.Schema.{is_schema}
use Rattle.mesa_fold.specs.Folded.{rows_of}
use Rattle.mesa_block.specs.Fill.{fit}
use Rattle.mesa_block.specs.Rows.{AreRows, IsRow, Rise, most_rows, most_bytes}
use Rattle.mesa_block.specs.Spelling.{block, key_of}
use Rattle.mesa_delta_format.specs.Packing.{Packed}
use Rattle.mesa_delta_format.specs.Spread.{Filling, filled, with_more, placed, spread, nothing_filled, blocks_of}
use Rattle.mesa_delta_format.proofs.Spreading.{spread_rows, rise_behind, each_more}

-- what the crate below says: a row fits in an empty block, and a block grows with each row
abbrev pub FitsAlone : Type 0
FitsAlone = (s : Layout) (row : Row) → IsTrue (is_schema s.columns) → IsRow s row → fit s (row ∷ []) ≡ true

abbrev pub Grows : Type 0
Grows = (s : Layout) (rows : List Row) (row : Row) → AllByRecursion (IsRow s) rows → IsRow s row → length (block s (rows ++ row ∷ [])) ≡ length (block s rows) + (length row.key + values_size (widths_of s))

pub record IsPart (s : Layout) (part : List Row) : Type 0 where
  pub some : 0 < length part
  pub few : length part ≤ most_rows
  pub short : length (block s part) ≤ most_bytes
  pub good : AllByRecursion (IsRow s) part

and_true : (a b : Bool) → a && b ≡ true → (a ≡ true) × (b ≡ true)
and_true true true e = (refl, refl)
and_true true false e = absurd cc
and_true false b e = absurd cc

pub fit_true : (s : Layout) (rows : List Row) → fit s rows ≡ true → (length rows ≤ most_rows) × (length (block s rows) ≤ most_bytes)
fit_true s rows e =
    let h = and_true (leb (length rows) most_rows) (leb (length (block s rows)) most_bytes) e in
    (leb-true (length rows) most_rows h.0, leb-true (length (block s rows)) most_bytes h.1)

and_both : (a b : Bool) → a ≡ true → b ≡ true → a && b ≡ true
and_both true true e f = refl
and_both true false e f = absurd cc
and_both false b e f = absurd cc

pub fits : (s : Layout) (rows : List Row) → length rows ≤ most_rows → length (block s rows) ≤ most_bytes → fit s rows ≡ true
fits s rows few short = and_both (leb (length rows) most_rows) (leb (length (block s rows)) most_bytes) (le-leb (length rows) most_rows few) (le-leb (length (block s rows)) most_bytes short)

pub packed_swap : (s : Layout) (done : List (List Row)) (p q : List Row) → take 1 p ≡ take 1 q → Packed s (done ++ p ∷ []) → Packed s (done ++ q ∷ [])
packed_swap s [] p q e h = tt
packed_swap s (d ∷ []) p q e h = (ap (λ (l : List Row). fit s (d ++ l)) (sym e) ∙ h.0, tt)
packed_swap s (d ∷ c ∷ done) p q e h = (h.0, packed_swap s (c ∷ done) p q e h.1)

pub packed_more : (s : Layout) (done : List (List Row)) (p q : List Row) → Packed s (done ++ p ∷ []) → fit s (p ++ take 1 q) ≡ false → Packed s ((done ++ p ∷ []) ++ q ∷ [])
packed_more s [] p q h e = (e, tt)
packed_more s (d ∷ []) p q h e = (h.0, (e, tt))
packed_more s (d ∷ c ∷ done) p q h e = (h.0, packed_more s (c ∷ done) p q h.1 e)

record IsGood (s : Layout) (b : Filling) : Type 0 where
  done : AllByRecursion (IsPart s) b.done
  last : IsPart s b.last
  packed : Packed s (b.done ++ b.last ∷ [])

first_same : (rows : List Row) (row : Row) → 0 < length rows → take 1 rows ≡ take 1 (rows ++ row ∷ [])
first_same [] row some = absurd (omega arith)
first_same (r ∷ rows) row some = refl

alone : FitsAlone → (s : Layout) (row : Row) → IsTrue (is_schema s.columns) → IsRow s row → IsPart s (row ∷ [])
alone law s row schema h =
    let f = fit_true s (row ∷ []) (law s row schema h) in
    record { some = omega arith; few = f.0; short = f.1; good = (h, tt) }

good_placed : FitsAlone → (s : Layout) (b : Filling) (row : Row) (t : Bool) → IsTrue (is_schema s.columns) → IsGood s b → IsRow s row → fit s (b.last ++ row ∷ []) ≡ t → IsGood s (placed t b row)
good_placed law s b row true schema h is e =
    let f = fit_true s (b.last ++ row ∷ []) e in
    record {
      done = h.done;
      last = record { some = omega (arith, length-append b.last (row ∷ [])); few = f.0; short = f.1; good = each_more (IsRow s) b.last row h.last.good is };
      packed = packed_swap s b.done b.last (b.last ++ row ∷ []) (first_same b.last row h.last.some) h.packed;
    }
good_placed law s b row false schema h is e = record {
  done = each_more (IsPart s) b.done b.last h.done h.last;
  last = alone law s row schema is;
  packed = packed_more s b.done b.last (row ∷ []) h.packed e;
}

good_filled : FitsAlone → (s : Layout) (b : Filling) (rows : List Row) → IsTrue (is_schema s.columns) → IsGood s b → AllByRecursion (IsRow s) rows → IsGood s (filled s b rows)
good_filled law s b [] schema h all = h
good_filled law s b (row ∷ rows) schema h all = good_filled law s (with_more s b row) rows schema (good_placed law s b row (fit s (b.last ++ row ∷ [])) schema h all.0 refl) all.1

good_spread : FitsAlone → (s : Layout) (rows : List Row) → IsTrue (is_schema s.columns) → 0 < length rows → AllByRecursion (IsRow s) rows → IsGood s (spread s rows)
good_spread law s [] schema some all = absurd (omega arith)
good_spread law s (row ∷ rows) schema some all =
    let first : IsGood s (record { done = []; last = row ∷ [] }) = record { done = tt; last = alone law s row schema all.0; packed = tt } in
    good_filled law s (with_more s nothing_filled row) rows schema (subst (λ (t : Bool). IsGood s (placed t nothing_filled row)) (sym (law s row schema all.0)) first) all.1

pub rise_front : (front bs : List (List ℕ)) → Rise (front ++ bs) → Rise front
rise_front [] bs h = tt
rise_front (a ∷ []) bs h = tt
rise_front (a ∷ b ∷ front) bs h = (h.0, rise_front (b ∷ front) bs h.1)

each_rises : (parts : List (List Row)) → Rise (map key_of (rows_of parts)) → AllByRecursion (λ (part : List Row). Rise (map key_of part)) parts
each_rises [] h = tt
each_rises (part ∷ parts) h =
    let apart = subst Rise (map-append key_of part (rows_of parts)) h in
    (rise_front (map key_of part) (map key_of (rows_of parts)) apart, each_rises parts (rise_behind (map key_of part) (map key_of (rows_of parts)) apart))

are_rows : (s : Layout) (parts : List (List Row)) → AllByRecursion (IsPart s) parts → AllByRecursion (λ (part : List Row). Rise (map key_of part)) parts → AllByRecursion (AreRows s) parts
are_rows s [] h r = tt
are_rows s (part ∷ parts) h r = (record { some = h.0.some; few = h.0.few; short = h.0.short; good = h.0.good; rise = r.0 }, are_rows s parts h.1 r.1)

pub blocks_rows : (s : Layout) (rows : List Row) → rows_of (blocks_of s rows) ≡ rows
blocks_rows s rows =
    flat_map-append (λ (part : List Row). part) (spread s rows).done ((spread s rows).last ∷ []) ∙ ap (λ (l : List Row). rows_of (spread s rows).done ++ l) (append-nil (spread s rows).last) ∙ spread_rows s rows

-- The blocks of a file's rows: each is one, and they are as full as they can be.
pub blocks_good : FitsAlone → (s : Layout) (rows : List Row) → IsTrue (is_schema s.columns) → 0 < length rows → AllByRecursion (IsRow s) rows → Rise (map key_of rows) → AllByRecursion (AreRows s) (blocks_of s rows)
blocks_good law s rows schema some all rise =
    let h = good_spread law s rows schema some all in
    are_rows s (blocks_of s rows) (each_more (IsPart s) (spread s rows).done (spread s rows).last h.done h.last) (each_rises (blocks_of s rows) (subst (λ (l : List Row). Rise (map key_of l)) (sym (blocks_rows s rows)) rise))

pub blocks_packed : FitsAlone → (s : Layout) (rows : List Row) → IsTrue (is_schema s.columns) → 0 < length rows → AllByRecursion (IsRow s) rows → Packed s (blocks_of s rows)
blocks_packed law s rows schema some all = (good_spread law s rows schema some all).packed

pub all_split : {X : Type 0} (P : X → Type 0) (xs ys : List X) → AllByRecursion P (xs ++ ys) → AllByRecursion P xs × AllByRecursion P ys
all_split P [] ys all = (tt, all)
all_split P (x ∷ xs) ys all = let h = all_split P xs ys all.1 in ((all.0, h.0), h.1)

-- fewer rows are no longer
block_grows : Grows → (s : Layout) (have more : List Row) → AllByRecursion (IsRow s) (have ++ more) → length (block s have) ≤ length (block s (have ++ more))
block_grows law s have [] all = omega (arith, ap (λ (l : List Row). length (block s l)) (append-nil have))
block_grows law s have (x ∷ more) all =
    let over = sym (append_assoc have (x ∷ []) more) in
    let split = all_split (IsRow s) have (x ∷ more) all in
    let rest = block_grows law s (have ++ x ∷ []) more (subst (AllByRecursion (IsRow s)) over all) in
    omega (arith, rest, law s have x split.0 split.1.0, ap (λ (l : List Row). length (block s l)) over)

fit_prefix : Grows → (s : Layout) (have more : List Row) → IsPart s (have ++ more) → fit s have ≡ true
fit_prefix law s have more h = fits s have (omega (arith, h.few, length-append have more)) (omega (arith, h.short, block_grows law s have more h.good))

fill_one : Grows → (s : Layout) (done : List (List Row)) (have more : List Row) → IsPart s (have ++ more) → filled s (record { done = done; last = have }) more ≡ record { done = done; last = have ++ more }
fill_one law s done have [] h = ap (λ (l : List Row). record { done = done; last = l }) (sym (append-nil have))
fill_one law s done have (x ∷ more) h =
    let over = append_assoc have (x ∷ []) more in
    let part = subst (IsPart s) (sym over) h in
    ap (λ (t : Bool). filled s (placed t (record { done = done; last = have }) x) more) (fit_prefix law s (have ++ x ∷ []) more part)
    ∙ fill_one law s done (have ++ x ∷ []) more part ∙ ap (λ (l : List Row). record { done = done; last = l }) over

filled_append : (s : Layout) (b : Filling) (xs ys : List Row) → filled s b (xs ++ ys) ≡ filled s (filled s b xs) ys
filled_append s b [] ys = refl
filled_append s b (x ∷ xs) ys = filled_append s (with_more s b x) xs ys

abbrev parts_in : Filling → List (List Row)
parts_in b = b.done ++ b.last ∷ []

fill_parts : Grows → (s : Layout) (done : List (List Row)) (p : List Row) (ps : List (List Row)) → AllByRecursion (IsPart s) ps → Packed s (p ∷ ps) → parts_in (filled s (record { done = done; last = p }) (rows_of ps)) ≡ done ++ p ∷ ps
fill_parts law s done p [] all packed = refl
fill_parts law s done p ([] ∷ ps) all packed = absurd (omega (arith, all.0.some))
fill_parts law s done p ((r ∷ rs) ∷ ps) all packed =
    let one = ap (λ (t : Bool). filled s (placed t (record { done = done; last = p }) r) rs) packed.0 ∙ fill_one law s (done ++ p ∷ []) (r ∷ []) rs all.0 in
    ap parts_in (filled_append s (record { done = done; last = p }) (r ∷ rs) (rows_of ps) ∙ ap (λ (b : Filling). filled s b (rows_of ps)) one)
    ∙ fill_parts law s (done ++ p ∷ []) (r ∷ rs) ps all.1 packed.1 ∙ append_assoc done (p ∷ []) ((r ∷ rs) ∷ ps)

parts_are : (s : Layout) (parts : List (List Row)) → AllByRecursion (AreRows s) parts → AllByRecursion (IsPart s) parts
parts_are s [] h = tt
parts_are s (part ∷ parts) h = (record { some = h.0.some; few = h.0.few; short = h.0.short; good = h.0.good }, parts_are s parts h.1)

-- Blocks that are as full as they can be are the blocks of their rows.
pub repacked : FitsAlone → Grows → (s : Layout) (parts : List (List Row)) → IsTrue (is_schema s.columns) → 0 < length parts → AllByRecursion (AreRows s) parts → Packed s parts → blocks_of s (rows_of parts) ≡ parts
repacked law grows s [] schema some all packed = absurd (omega arith)
repacked law grows s ([] ∷ ps) schema some all packed = absurd (omega (arith, all.0.some))
repacked law grows s ((r ∷ rs) ∷ ps) schema some all packed =
    let h = parts_are s ((r ∷ rs) ∷ ps) all in
    let one = ap (λ (t : Bool). filled s (placed t nothing_filled r) rs) (law s r schema h.0.good.0) ∙ fill_one grows s [] (r ∷ []) rs h.0 in
    ap parts_in (filled_append s nothing_filled (r ∷ rs) (rows_of ps) ∙ ap (λ (b : Filling). filled s b (rows_of ps)) one)
    ∙ fill_parts grows s [] (r ∷ rs) ps h.1 packed
