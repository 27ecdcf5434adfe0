use Rattle.mesa_print.proofs.Texts.{puts_both}
use Rattle.mesa_print.proofs.line.Line.put_damage.Goals as goal

pub returns-clause-puts : goal.returns-clause-puts
returns-clause-puts c =
    puts_both _ _ _ _ _ (puts_both _ _ _ _ _ (puts_both _ _ _ _ _ (puts_both _ _ _ _ _ (puts_both _ _ _ _ _ (puts_both _ _ _ _ _ c.put.ensures.puts c.put_file.ensures.puts) c.put_labelled.ensures.puts) c.put-2.ensures.puts) c.put_seen.ensures.puts) c.put-3.ensures.puts) c.put_seen-2.ensures.puts
