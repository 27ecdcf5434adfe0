-- Whether a history with one entry more prints a refusal.
use Rattle.std.proofs.Common.{◌≡◌, ◌||◌, List, [], ◌∷◌, ◌++◌, Bool, true, false, refl, sym, ap, ◌∙◌}
use Rattle.mesa_script.specs.mesa_model.declared.commands.Script.{Script}
use Rattle.mesa_script.specs.mesa_model.declared.entries.Entry.{Entry}
use Rattle.mesa_history_spec.specs.Run.{Run}
use Rattle.mesa_history_spec.specs.Replay.{told_by, go, runs}
use Rattle.mesa_history_spec.specs.Refused.{tells_refusal, some_refused}

or-assoc : (a b c : Bool) → ((a || b) || c) ≡ (a || (b || c))
or-assoc true b c = refl
or-assoc false b c = refl

pub or-false : (a : Bool) → (a || false) ≡ a
or-false true = refl
or-false false = refl

pub refused_more : (script : Script) (r : Run) (h : List Entry) (e : Entry) → some_refused script r (h ++ e ∷ []) ≡ (some_refused script r h || tells_refusal (told_by script (runs script r h) e))
unfolding runs some_refused
refused_more script r [] e = or-false _
refused_more script r (x ∷ h) e = ap (λ (b : Bool). tells_refusal (told_by script r x) || b) (refused_more script (go script r x) h e) ∙ sym (or-assoc (tells_refusal (told_by script r x)) _ _)
