use Rattle.std.proofs.Common.{sym, subst}
use Rattle.std.specs.Prelude.{None}
use Rattle.std.specs.List.{AllByRecursion}
use Rattle.mesa_open_files.specs.Pins.{IsPinnedInput}
use Rattle.mesa_file_tests.proofs.query.warmed.pinned_of.Goals as goal

pub returns : goal.returns
returns g c = (_, record { query = c.query_of-query.ensures; inputs = subst (AllByRecursion (IsPinnedInput g.R.FileReader.bytes _ None)) (sym c.one.ensures) (c.own-file.ensures None, tt) })
