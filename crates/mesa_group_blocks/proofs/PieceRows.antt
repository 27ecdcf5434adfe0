-- The rows of the blocks that are read for a query.
use Rattle.std.proofs.Common.{◌≡◌, ℕ, ◌+◌, ◌<◌, ◌≤◌, List, [], ◌∷◌, ◌++◌, length, map, get_or, refl, sym, ◌∙◌, ap, subst, arith, Option, Some}
use Rattle.std.specs.Prelude.{flat_map, slice_get}
use Rattle.std.specs.List.{AllByRecursion}
use Rattle.std.proofs.lemmas.Grind.{flat_map-append}
use Rattle.std.proofs.lemmas.List.{append-nil}
use Rattle.std.proofs.lemmas.Option.{get_or_from_slice_get}
use Rattle.mesa_open_files.specs.mesa_columns.declared.lifting.Lift.{Lift}
use Rattle.mesa_open_files.specs.mesa_columns.declared.rows.Row.{Row}
use Rattle.mesa_schema.specs.Changes.{Lineage, columns_at, columns_of, epoch_of, lifted}
use Rattle.mesa_open_files.specs.mesa_columns.Columns.{kinds_of}
use Rattle.mesa_open_files.specs.mesa_columns.Lifting.{lifted_with}
use Rattle.mesa_schema.specs.Lifting.{Lifts}
use Rattle.mesa_open_files.specs.mesa_columns.Rows.{AreRowsOf}
use Rattle.mesa_filter.specs.Filter.{KeyFilter, filtered}
use Rattle.mesa_delta.specs.Reading.{index_of}
use Rattle.mesa_open_files.specs.mesa_delta_format.Spread.{blocks_of}
use Rattle.mesa_delta.specs.declared.input.Input.{Input}
use Rattle.mesa_scan.proofs.Lifted.{lifts_all}
use Rattle.mesa_merge.specs.Inputs.{IsTold, Known, known_of}
use Rattle.mesa_scan.specs.MatchingRows.{matching_rows}
use Rattle.mesa_scan.specs.Scanning.{matching, matching_block}
use Rattle.mesa_scan.proofs.Blocks.{matching_more}
use Rattle.mesa_scan.proofs.Onwards.{all_matching}
use Rattle.mesa_open_files.proofs.Retired.{all_append}
use Rattle.mesa_group_blocks.specs.declared.pieces.Piece.{Piece}
use Rattle.mesa_group_blocks.specs.Pieces.{ArePiecesOf, IsPieceOf, rows_at, rows_in, rows_of_pieces}

pub rows_append : (f : KeyFilter) (files : List Known) (contents : List (List Row)) (xs ys : List Piece) → rows_of_pieces f files contents (xs ++ ys) ≡ rows_of_pieces f files contents xs ++ rows_of_pieces f files contents ys
rows_append f files contents xs ys = flat_map-append (rows_at f files contents) xs ys

-- ---- blocks of one file

-- one block of a file
abbrev pub IsIn : Known → ℕ → Piece → Type 0
IsIn k place p = (p.file ≡ place) × (p.block < length k.file.entries)

-- the rows of blocks of one file
abbrev pub rows_in_file : KeyFilter → Known → List Row → List Piece → List Row
rows_in_file f k rows pieces = flat_map (λ (p : Piece). rows_in f (Some k) rows p.block) pieces

pub rows_here : (f : KeyFilter) (files : List Known) (contents : List (List Row)) (k : Known) (rows : List Row) (place : ℕ) (pieces : List Piece) → slice_get files place ≡ Some k → get_or contents place [] ≡ rows → AllByRecursion (IsIn k place) pieces
    → rows_of_pieces f files contents pieces ≡ rows_in_file f k rows pieces
rows_here f files contents k rows place [] at is all = refl
rows_here f files contents k rows place (p ∷ pieces) at is all =
    let here : rows_at f files contents p ≡ rows_in f (Some k) rows p.block =
    ap (λ n. rows_in f (slice_get files n) (get_or contents n []) p.block) all.0.0 ∙ (λ i. rows_in f (at i) (is i) p.block) in
    λ i. here i ++ rows_here f files contents k rows place pieces at is all.1 i

pub pieces_here : (files : List Known) (k : Known) (place : ℕ) (pieces : List Piece) → place < length files → slice_get files place ≡ Some k → AllByRecursion (IsIn k place) pieces → AllByRecursion (IsPieceOf files) pieces
pieces_here files k place [] lt at all = tt
pieces_here files k place (p ∷ pieces) lt at all =
    let one : IsPieceOf files p = record {
      file = subst (λ n. n < length files) (sym all.0.0) lt;
      block = λ d. subst (λ (x : Known). p.block < length x.file.entries) (sym (ap (λ n. get_or files n d) all.0.0 ∙ get_or_from_slice_get files place k d at)) all.0.1;
    } in
    (one, pieces_here files k place pieces lt at all.1)

-- The first blocks of a file were looked at: these may have matching rows.
pub record AreFirst {R : Type 0} (bytes : R → Option (List ℕ)) (i : Input R) (f : KeyFilter) (place n : ℕ) (pieces : List Piece) : Type 0 where
  pub each : AllByRecursion (IsIn (known_of bytes i) place) pieces
  pub told : (rows : List Row) → IsTold (known_of bytes i) rows → rows_in_file f (known_of bytes i) rows pieces ≡ matching i f rows n

pub first_none : {R : Type 0} (bytes : R → Option (List ℕ)) (i : Input R) (f : KeyFilter) (place : ℕ) → AreFirst bytes i f place 0 []
first_none bytes i f place = record { each = tt; told = λ rows told. refl }

blocks_told : {R : Type 0} (bytes : R → Option (List ℕ)) (i : Input R) (rows : List Row) (n : ℕ) → IsTold (known_of bytes i) rows → n < length (index_of i.reader).entries → n < length (blocks_of (index_of i.reader).layout rows)
blocks_told bytes i rows n told lt = omega (arith, lt, told.2.blocks)

-- one block more, which may have one
pub first_more : {R : Type 0} (bytes : R → Option (List ℕ)) (i : Input R) (f : KeyFilter) (place n : ℕ) (pieces : List Piece) → n < length (index_of i.reader).entries → AreFirst bytes i f place n pieces → AreFirst bytes i f place (n + 1) (pieces ++ record { file = place; block = n } ∷ [])
first_more bytes i f place n pieces lt h =
    let k : Known = known_of bytes i in
    let p : Piece = record { file = place; block = n } in
    record {
      each = all_append (IsIn k place) pieces (p ∷ []) h.each ((refl, lt), tt);
      told = λ rows told.
          flat_map-append (λ (q : Piece). rows_in f (Some k) rows q.block) pieces (p ∷ [])
          ∙ (λ j. h.told rows told j ++ append-nil (rows_in f (Some k) rows n) j)
          ∙ sym (matching_more i f rows n (blocks_told bytes i rows n told lt));
    }

-- or hasn't
pub first_skipped : {R : Type 0} (bytes : R → Option (List ℕ)) (i : Input R) (f : KeyFilter) (place n : ℕ) (pieces : List Piece) → n < length (index_of i.reader).entries
    → ((rows : List Row) → IsTold (known_of bytes i) rows → matching_block i f rows n ≡ []) → AreFirst bytes i f place n pieces → AreFirst bytes i f place (n + 1) pieces
first_skipped bytes i f place n pieces lt none h = record {
  each = h.each;
  told = λ rows told.
      h.told rows told ∙ sym (append-nil (matching i f rows n)) ∙ ap (λ (more : List Row). matching i f rows n ++ more) (sym (none rows told))
      ∙ sym (matching_more i f rows n (blocks_told bytes i rows n told lt));
}

-- all of them were
pub first_all : {R : Type 0} (bytes : R → Option (List ℕ)) (i : Input R) (f : KeyFilter) (place n : ℕ) (pieces : List Piece) → length (index_of i.reader).entries ≤ n → AreFirst bytes i f place n pieces → ArePiecesOf (known_of bytes i) f place pieces
first_all bytes i f place n pieces le h = record {
  each = h.each;
  told = λ rows told. h.told rows told ∙ all_matching i f rows told.0 n told.2 le;
}

-- ---- a block that is decoded

-- the matching rows of a block, as the filter's own columns see them
pub seen : (f : KeyFilter) (lift : Lift) (l : Lineage) (epoch : ℕ) (block : List Row) → f.kinds ≡ kinds_of (columns_of l) → Lifts lift l epoch → AreRowsOf (columns_at l epoch) block
    → matching_rows f (map (lifted_with lift) block) ≡ filtered (columns_of l) f.terms (map (lifted l epoch (epoch_of l)) block)
seen f lift l epoch block of lifts good =
    ap (matching_rows f) (lifts_all lift l epoch block lifts good)
    ∙ ap (λ kinds. matching_rows (record f { kinds = kinds }) (map (lifted l epoch (epoch_of l)) block)) of
