-- What is on a sink with one entry more, but for the rows of pages.
use Rattle.std.proofs.Common.{◌≡◌, ℕ, List, [], ◌∷◌, ◌++◌, Bool, true, false, refl, sym, ◌∙◌, ap, subst, append_assoc, append-nil, Option, None, Some}
use Rattle.std.specs.Io.KnownBytes.{Appends}
use Rattle.std.proofs.KnownBytes.{Appends-trans, Appends-nil}
use Rattle.mesa_history_spec.specs.mesa_model.declared.commands.Script.{Script}
use Rattle.mesa_history_spec.specs.mesa_model.declared.entries.Entry.{Entry}
use Rattle.mesa_history_spec.specs.Run.{Told, Run}
use Rattle.mesa_history_spec.specs.Replay.{told_by, runs, go}
use Rattle.mesa_history_spec.specs.Output.{IsBlock}
use Rattle.mesa_invariant_spec.specs.Printing.{HasAllButRows, HasFrontButRows, IsBlockButRows, IsOutputButRows, IsPrintedButRows, IsPut, Prints}
use Rattle.mesa_invariant_spec.proofs.Printed.{no_block}

-- a block with all its rows is one
pub with_rows : (e : Entry) (told : Option Told) (piece : List ℕ) → IsBlock e told piece → IsBlockButRows e told piece
with_rows e told piece is = record { shown = told; alike = refl; block = is }

-- what a history printed, and the block of one entry more
output_more : (script : Script) (r : Run) (h : List Entry) (e : Entry) (text piece : List ℕ)
    → IsOutputButRows script r h text → IsBlockButRows e (told_by script (runs script r h) e) piece → IsOutputButRows script r (h ++ e ∷ []) (text ++ piece)
unfolding runs IsOutputButRows
output_more script r [] e text piece was more = (piece, ([], (more, refl, ap (λ l. l ++ piece) was ∙ sym (append-nil piece))))
output_more script r (x ∷ h) e text piece was more =
    (was.0, (was.1.0 ++ piece, (was.1.1.0, output_more script (go script r x) h e was.1.0 piece was.1.1.1 more, ap (λ l. l ++ piece) was.1.1.2 ∙ append_assoc was.0 was.1.0 piece)))

module _ (script : Script) (r : Run) (h : List Entry) (e : Entry) (at : Option (List ℕ)) where
  whole_more : (old new : Option (List ℕ)) (piece : List ℕ) → HasAllButRows script r h at old → IsBlockButRows e (told_by script (runs script r h) e) piece → Appends old new piece → HasAllButRows script r (h ++ e ∷ []) at new
  whole_more old new piece had more put = record {
    text = had.text ++ piece;
    output = output_more script r h e had.text piece had.output more;
    held = Appends-trans at old new had.text piece had.held put;
  }

  front_here : (old new : Option (List ℕ)) (piece : List ℕ) → HasAllButRows script r h at old → IsBlockButRows e (told_by script (runs script r h) e) piece → IsPut piece false old new → HasFrontButRows script r (h ++ e ∷ []) at new
  front_here old new piece had more put = record {
    past = h;
    entry = e;
    rest = [];
    split = refl;
    text = had.text;
    output = had.output;
    piece = piece;
    block = more;
    count = put.0;
    held = Appends-trans at old new had.text _ had.held put.1;
  }

  front_still : (now : Option (List ℕ)) → HasFrontButRows script r h at now → HasFrontButRows script r (h ++ e ∷ []) at now
  front_still now had = record {
    past = had.past;
    entry = had.entry;
    rest = had.rest ++ e ∷ [];
    split = ap (λ l. l ++ e ∷ []) had.split ∙ append_assoc had.past (had.entry ∷ had.rest) (e ∷ []);
    text = had.text;
    output = had.output;
    piece = had.piece;
    block = had.block;
    count = had.count;
    held = had.held;
  }

  silent_more : (running : Bool) (held : Option (List ℕ)) → IsPrintedButRows script r h running at held → told_by script (runs script r h) e ≡ None → IsPrintedButRows script r (h ++ e ∷ []) running at held
  silent_more true held had none = whole_more held held [] had (subst (λ t. IsBlockButRows e t []) (sym none) (with_rows e None [] (no_block e))) (Appends-nil held)
  silent_more false held had none = front_still held had

  put_more : (now : Bool) (old new : Option (List ℕ)) (piece : List ℕ) → HasAllButRows script r h at old → IsBlockButRows e (told_by script (runs script r h) e) piece → IsPut piece now old new → IsPrintedButRows script r (h ++ e ∷ []) now at new
  put_more true old new piece had more put = whole_more old new piece had more put
  put_more false old new piece had more put = front_here old new piece had more put

-- What is on the sink behind a turn, on any store.
pub shown_more : (sound : Bool) (script : Script) (r : Run) (h : List Entry) (e : Entry) (told : Option Told) (before now : Bool) (at old new : Option (List ℕ)) → told_by script (runs script r h) e ≡ told
    → IsPrintedButRows script r h before at old → Prints sound e told before now old new → IsPrintedButRows script r (h ++ e ∷ []) now at new
shown_more sound script r h e None before now at old new is had prints =
    subst (λ n. IsPrintedButRows script r (h ++ e ∷ []) n at new) (sym prints.0) (subst (IsPrintedButRows script r (h ++ e ∷ []) before at) (sym prints.1) (silent_more script r h e at before old had is))
shown_more sound script r h e (Some told) before now at old new is had prints =
    put_more script r h e at now old new prints.1.piece (subst (λ b. IsPrintedButRows script r h b at old) prints.0 had) (subst (λ t. IsBlockButRows e t prints.1.piece) (sym is) prints.1.anyhow) prints.1.put
