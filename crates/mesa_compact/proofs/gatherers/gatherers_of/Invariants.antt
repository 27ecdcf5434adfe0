use Rattle.std.proofs.Common.{◌≡◌, ℕ, [], List, length}
use Rattle.std.specs.Prelude.{slice_get, Some}
use Rattle.std.specs.List.{AllByRecursion}
use Rattle.mesa_open_files.specs.mesa_columns.declared.views.View.{View}
use Rattle.mesa_answer.specs.Gathered.{wanted_of}
use Rattle.mesa_answer.specs.declared.groups.Groups.{Groups}
use Rattle.mesa_view.specs.SumDamage.{view_groups}
use Rattle.mesa_compact.specs.Grouping.{HavePut, TakesRows}
use Rattle.mesa_compact.specs.Sources.{AreSeen}
use Rattle.mesa_compact.proofs.gatherers.gatherers_of.Given as goal

abbrev pub invariant-views : goal.invariant-views
invariant-views l = record {
  count : length l.groups.items ≡ l.places-index;
  each : (views : List View) → AreSeen l.schema views l.seen → (i : ℕ) (v : View) (x : Groups) → slice_get views i ≡ Some v → slice_get l.groups.items i ≡ Some x → wanted_of x ≡ view_groups l.schema v;
  none : HavePut l.groups.items [];
  takes : AllByRecursion (TakesRows l.schema) l.groups.items;
}
