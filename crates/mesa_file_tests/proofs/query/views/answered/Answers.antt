use Rattle.std.proofs.Common.{sym, subst}
use Rattle.std.specs.Prelude.{Some}
use Rattle.std.specs.List.{AllByRecursion}
use Rattle.mesa_open_files.specs.Pins.{IsPinnedInput}
use Rattle.mesa_file_tests.proofs.query.views.answered.Goals as goal

pub page_of-requires-after_bounds : goal.page_of-requires-after_bounds
page_of-requires-after_bounds g c = λ _ _. (_, c.query_of-query.ensures, subst (AllByRecursion (IsPinnedInput g.R.FileReader.bytes _ (Some 0))) (sym c.two-inputs.ensures) (c.derived-first.ensures _ c.view_of-view.ensures.view, (c.own-second.ensures (Some 0), tt)))
