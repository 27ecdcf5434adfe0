-- The digests of a relation at the newest version.
use Rattle.std.specs.Prelude.{◌≡◌, ℕ, ◌+◌, List, length, Option, Some}
use Rattle.mesa_pick_files.specs.mesa_columns.Columns.{Columns}
use Rattle.mesa_pick_files.specs.mesa_columns.Rows.{AreRowsOf}
use Rattle.mesa_pick_files.specs.mesa_columns.declared.rows.Row.{Row}
use Rattle.mesa_digest.specs.Digests as digest
use Rattle.mesa_digest.specs.declared.digesting.DigestPair.{DigestPair}
use Rattle.mesa_disk.specs.Story.{Story}
use Rattle.mesa_pick_files.specs.mesa_model.Relations.{Relation, relation_columns}
use Rattle.mesa_store_spec.specs.Catalog.{Catalog}
use Rattle.mesa_store_spec.specs.Contents.{Rows, kept_of}
use Rattle.mesa_recover.specs.Opening.{IsSoundStart}
use Rattle.mesa_pick_files.specs.Told.{TellContent}
use Rattle.mesa_open_files.specs.declared.querying.Pinned.{Pinned}
use Rattle.mesa_store_digest.specs.Latest.{HasContent, relation_named}

-- These are the number and the digests of rows of a relation's columns, at the newest version. From a sound start the rows are the relation's content at that version.
pub record IsDigestOf (story : Story) (c : Catalog) (name : List ℕ) (version rows : ℕ) (ordered : List ℕ) (set : ℕ) : Type 0 where
  pub relation : Relation
  pub named : relation_named c name ≡ Some relation
  pub newest : c.next ≡ version + 1
  pub content : List Row
  pub form : AreRowsOf (relation_columns relation) content
  pub is : (files : Rows) → IsSoundStart story c files → HasContent (kept_of files c).store name (relation_columns relation) version content
  pub rows_are : rows ≡ length content
  pub ordered_is : ordered ≡ digest.ordered content
  pub set_is : set ≡ digest.set (relation_columns relation) content

-- Digests of rows of these columns, which are the content that a query's files tell, where they tell one.
pub record AreDigests {R : Type 0} (bytes : R → Option (List ℕ)) (s : Columns) (p : Pinned R) (pair : DigestPair) : Type 0 where
  pub content : List Row
  pub form : AreRowsOf s content
  pub are : pair ≡ digest.digests_of s content
  pub told : (rows : List Row) → TellContent bytes s p rows → content ≡ rows
