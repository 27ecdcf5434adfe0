-- One entry more, counted.
use Rattle.std.proofs.Common.{◌≡◌, ◌+◌, List, [], ◌∷◌, ◌++◌, Bool, arith}
use Rattle.mesa_script.specs.mesa_model.declared.commands.Script.{Script}
use Rattle.mesa_script.specs.mesa_model.declared.entries.Entry.{Entry}
use Rattle.mesa_history_spec.specs.Run.{Run}
use Rattle.mesa_history_spec.specs.Replay.{go, runs}
use Rattle.mesa_history_spec.specs.Counting.{one_if, count_in}

pub count_more : (test : Run → Entry → Bool) (script : Script) (r : Run) (h : List Entry) (e : Entry) → count_in test script r (h ++ e ∷ []) ≡ count_in test script r h + one_if (test (runs script r h) e)
unfolding runs count_in
count_more test script r [] e = omega arith
count_more test script r (x ∷ h) e = let more = count_more test script (go script r x) h e in omega (arith, more)
