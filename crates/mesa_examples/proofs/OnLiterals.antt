-- What an answer unfolds to compute a script on a literal.
use Rattle.std.specs.Prelude.{⊤}
use Rattle.std.specs.Fmt.{digits}
use Rattle.std.specs.Str.{is_utf8, chars}
use lib.Utf8.{encode}
use Rattle.csv.proofs.OnLiterals.{csv_on_literals}
use Rattle.csv.specs.Writing.{fields_text, is_blank, escaped}
use Rattle.mesa_history_spec.specs.mesa_key.Spelling.{before_zero}
use Rattle.mesa_history_spec.specs.Run.{place_of}
use Rattle.mesa_history_spec.specs.Replay.{turned, go, runs}
use Rattle.mesa_history_spec.specs.Legal.{are_fit}
use Rattle.mesa_history_spec.specs.Law.{carried_in, written_in}
use Rattle.mesa_history_spec.specs.Output.{block, output}

unfoldable pub on_literals : ⊤
unfolding csv_on_literals fields_text is_blank escaped digits is_utf8 chars encode before_zero place_of turned go runs are_fit carried_in written_in block output
on_literals = tt
