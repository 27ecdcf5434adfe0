-- Blocks that are dealt out to jobs, each with groups of its own.
use Rattle.std.specs.Prelude.{◌≡◌, ◌≤◌, List, ◌++◌, length, map, take, true}
use Rattle.std.specs.List.{AllByRecursion}
use Rattle.mesa_open_files.specs.mesa_columns.declared.rows.Row.{Row}
use Rattle.mesa_open_files.specs.mesa_columns.Columns.{kinds_of}
use Rattle.mesa_filter.specs.Filter.{KeyFilter}
use Rattle.mesa_delta.specs.Ahead.{AreAhead}
use Rattle.mesa_merge.specs.Inputs.{AreAlike, AreTold, Known, tolds_of}
use Rattle.mesa_answer.specs.Gathered.{HasPut, wanted_of}
use Rattle.mesa_answer.specs.Gathering.{Wanted}
use Rattle.mesa_group_blocks.specs.declared.decoding.Decoding.{Decoding}
use Rattle.mesa_group_blocks.specs.declared.jobs.Job.{Job}
use Rattle.mesa_group_blocks.specs.declared.pieces.Piece.{Piece}
use Rattle.mesa_group_blocks.specs.Pieces.{AreDecodingsOf, IsPieceOf, piece_of, rows_of_pieces}

-- a job's blocks
abbrev pub pieces_in : Job → List Piece
pieces_in j = j.pieces.items

-- Of a job's blocks so many were read, some of which wait. The rows of the others are put into its groups: where the files are told, all that match.
pub record IsJob (files : List Known) (w : Wanted) (f : KeyFilter) (j : Job) : Type 0 where
  pub next : j.next ≤ length j.pieces.items
  pub pieces : AllByRecursion (IsPieceOf files) j.pieces.items
  pub waiting : AreAhead (tolds_of files) j.waiting
  pub wanted : wanted_of j.groups ≡ w
  pub given : List Row
  pub put : HasPut j.groups given
  pub told : (contents : List (List Row)) → AreTold files contents
      → given ++ rows_of_pieces f files contents (map piece_of j.waiting) ≡ rows_of_pieces f files contents (take j.next j.pieces.items)

-- Jobs of files whose rows are lifted to the columns of the groups that are wanted.
pub record AreRun (files : List Known) (w : Wanted) (f : KeyFilter) (jobs : List Job) : Type 0 where
  pub filter : f.kinds ≡ kinds_of w.schema
  pub alike : AreAlike w.schema files
  pub each : AllByRecursion (IsJob files w f) jobs

-- What waits of a job of these files can be grouped.
pub record CanGroup (files : List Known) (w : Wanted) (f : KeyFilter) (ds : List Decoding) (j : Job) : Type 0 where
  pub filter : f.kinds ≡ kinds_of w.schema
  pub alike : AreAlike w.schema files
  pub decoded : AreDecodingsOf files ds
  pub job : IsJob files w f j

-- It was, or it is told that it wasn't.
pub record HasGrouped (f : KeyFilter) (ds : List Decoding) (old new : Job) : Type 0 where
  pub pieces : new.pieces ≡ old.pieces
  pub next : new.next ≡ old.next
  pub job : new.sound ≡ true → (files : List Known) (w : Wanted) → CanGroup files w f ds old → IsJob files w f new
