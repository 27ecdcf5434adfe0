-- The blocks that are read for a query, and their rows.
use Rattle.std.specs.Prelude.{◌≡◌, ℕ, ◌<◌, List, [], ◌∷◌, flat_map, get_or, length, slice_get, map, Option, None, Some, ⊤}
use Rattle.std.specs.List.{AllByRecursion}
use Rattle.mesa_open_files.specs.mesa_columns.declared.lifting.Lift.{Lift}
use Rattle.mesa_open_files.specs.mesa_columns.declared.rows.Row.{Row}
use Rattle.mesa_schema.specs.Changes.{columns_at, columns_of}
use Rattle.mesa_schema.specs.Lifting.{Lifts}
use Rattle.mesa_schema.specs.Lineages.{IsLineage}
use Rattle.mesa_filter.specs.Filter.{KeyFilter, filtered}
use Rattle.mesa_delta.specs.Ahead.{Untested}
use Rattle.mesa_open_files.specs.mesa_delta_format.Spread.{blocks_of}
use Rattle.mesa_merge.specs.Inputs.{IsTold, Known, lifted_in}
use Rattle.mesa_group_blocks.specs.declared.decoding.Decoding.{Decoding}
use Rattle.mesa_group_blocks.specs.declared.pieces.Piece.{Piece}

-- ---- blocks of files

-- the matching rows of a file's block of a number, lifted, by the rows of the file
abbrev pub rows_in : KeyFilter → Option Known → List Row → ℕ → List Row
rows_in f None rows block = []
rows_in f (Some k) rows block = filtered (columns_of k.table) f.terms (map (lifted_in k) (get_or (blocks_of k.file.layout rows) block []))

-- those of a piece, by the rows of the files
abbrev pub rows_at : KeyFilter → List Known → List (List Row) → Piece → List Row
rows_at f files contents p = rows_in f (slice_get files p.file) (get_or contents p.file []) p.block

-- and of pieces, one after the other
abbrev pub rows_of_pieces : KeyFilter → List Known → List (List Row) → List Piece → List Row
rows_of_pieces f files contents pieces = flat_map (rows_at f files contents) pieces

-- A piece is a block of one of the files.
pub record IsPieceOf (files : List Known) (p : Piece) : Type 0 where
  pub file : p.file < length files
  pub block : (d : Known) → p.block < length (get_or files p.file d).file.entries

-- These are the blocks of one file that may have matching rows, by the file's place: where it is told, its other blocks have none.
pub record ArePiecesOf (k : Known) (f : KeyFilter) (place : ℕ) (pieces : List Piece) : Type 0 where
  pub each : AllByRecursion (λ (p : Piece). (p.file ≡ place) × (p.block < length k.file.entries)) pieces
  pub told : (rows : List Row) → IsTold k rows → flat_map (λ (p : Piece). rows_in f (Some k) rows p.block) pieces ≡ filtered (columns_of k.table) f.terms (map (lifted_in k) rows)

-- a block that was read ahead, as a piece
abbrev pub piece_of : Untested → Piece
piece_of u = record { file = u.file; block = u.block }

-- ---- how blocks are decoded

-- The rows of a file are lifted to the present by this.
pub record IsLiftOf (k : Known) (lift : Lift) : Type 0 where
  pub rules : IsLineage k.table
  pub lifts : Lifts lift k.table k.epoch
  pub columns : k.file.layout.columns ≡ columns_at k.table k.epoch

abbrev pub AreLiftsOf : List Known → List Lift → Type 0
AreLiftsOf [] [] = ⊤
AreLiftsOf [] (lift ∷ lifts) = ⊥
AreLiftsOf (k ∷ ks) [] = ⊥
AreLiftsOf (k ∷ ks) (lift ∷ lifts) = IsLiftOf k lift × AreLiftsOf ks lifts

-- A file's blocks are decoded by its index and lifted to the present.
pub record IsDecodingOf (k : Known) (d : Decoding) : Type 0 where
  pub index : d.index.now ≡ k.file
  pub lift : IsLiftOf k d.lift.now

abbrev pub AreDecodingsOf : List Known → List Decoding → Type 0
AreDecodingsOf [] [] = ⊤
AreDecodingsOf [] (d ∷ ds) = ⊥
AreDecodingsOf (k ∷ ks) [] = ⊥
AreDecodingsOf (k ∷ ks) (d ∷ ds) = IsDecodingOf k d × AreDecodingsOf ks ds
