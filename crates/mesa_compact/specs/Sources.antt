-- What the files of views are made of: their groups over the table's rows.
use Rattle.std.specs.Prelude.{◌≡◌, ℕ, List, length, slice_get, Some, IsTrue}
use Rattle.mesa_open_files.specs.mesa_columns.declared.views.View.{View}
use Rattle.mesa_open_files.specs.mesa_columns.Columns.{Columns}
use Rattle.mesa_open_files.specs.mesa_filter.Query.{are_places}
use Rattle.mesa_answer.specs.Gathered.{wanted_of}
use Rattle.mesa_answer.specs.Regrouping.{PlacesSeen, places_seen}
use Rattle.mesa_answer.specs.declared.groups.Groups.{Groups}
use Rattle.mesa_view.specs.SumDamage.{view_groups}

-- These are the places of a view's columns, for each of a table's views.
pub record AreSeen (s : Columns) (views : List View) (seen : List PlacesSeen) : Type 0 where
  pub count : length seen ≡ length views
  pub each : (i : ℕ) (v : View) (p : PlacesSeen) → slice_get views i ≡ Some v → slice_get seen i ≡ Some p → p ≡ places_seen s v

-- they are there
abbrev pub ArePlaces : Columns → PlacesSeen → Type 0
ArePlaces s p = IsTrue (are_places s.keys p.columns) × IsTrue (are_places s.values p.values)

-- The gatherers are of the groups of these views, one for each.
pub record AreSources (s : Columns) (views : List View) (groups : List Groups) : Type 0 where
  pub count : length groups ≡ length views
  pub each : (i : ℕ) (v : View) (g : Groups) → slice_get views i ≡ Some v → slice_get groups i ≡ Some g → wanted_of g ≡ view_groups s v
