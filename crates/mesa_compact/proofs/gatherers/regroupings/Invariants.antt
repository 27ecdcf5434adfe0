use Rattle.std.proofs.Common.{◌≡◌, ℕ, length}
use Rattle.std.specs.Prelude.{slice_get, Some}
use Rattle.std.specs.List.{AllByRecursion}
use Rattle.mesa_open_files.specs.mesa_columns.declared.views.View.{View}
use Rattle.mesa_schema.specs.Changes.{columns_of}
use Rattle.mesa_answer.specs.Regrouping.{PlacesSeen, places_seen}
use Rattle.mesa_compact.specs.Sources.{ArePlaces}
use Rattle.mesa_compact.proofs.gatherers.regroupings.Given as goal

abbrev pub invariant-each : goal.invariant-each
invariant-each l = record {
  count : length l.seen.items ≡ l.view;
  each : (i : ℕ) (v : View) (p : PlacesSeen) → slice_get l.evolving.views i ≡ Some v → slice_get l.seen.items i ≡ Some p → p ≡ places_seen (columns_of l.evolving) v;
  places : AllByRecursion (ArePlaces (columns_of l.evolving)) l.seen.items;
}
