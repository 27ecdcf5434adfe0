use Rattle.std.proofs.Common.{sym, subst}
use Rattle.std.specs.Prelude.{None}
use Rattle.std.specs.List.{AllByRecursion}
use Rattle.mesa_open_files.specs.Pins.{IsPinnedInput}
use Rattle.mesa_file_tests.proofs.query.sums.answered_of.Goals as goal

pub page_of-requires-after_bounds : goal.page_of-requires-after_bounds
page_of-requires-after_bounds g c = λ _ _. (_, c.query_of-query.ensures, subst (AllByRecursion (IsPinnedInput _ _ None)) (sym c.three-inputs.ensures) (c.own-first.ensures None, (c.own-second.ensures None, (c.own-third.ensures None, tt))))
