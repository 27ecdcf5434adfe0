-- What is on a sink with one entry more.
use Rattle.std.proofs.Common.{◌≡◌, ◌<◌, ℕ, List, [], ◌∷◌, ◌++◌, Bool, true, false, not, IsTrue, refl, sym, ◌∙◌, ap, subst, arith, append_assoc, Option, None, Some}
use Rattle.std.specs.Io.KnownBytes.{Appends}
use Rattle.std.proofs.KnownBytes.{Appends-trans, Appends-nil}
use Rattle.mesa_disk.specs.mesa_io.Causes.{last}
use Rattle.mesa_history_spec.specs.mesa_model.declared.commands.Script.{Script}
use Rattle.mesa_history_spec.specs.mesa_model.declared.entries.Entry.{Entry}
use Rattle.mesa_history_spec.specs.mesa_model.declared.entries.Outcome.{Outcome}
use Rattle.mesa_history_spec.specs.mesa_model.declared.entries.Outcome.TheVariants as outcome
use Rattle.mesa_history_spec.specs.Run.{Told, Run}
use Rattle.mesa_history_spec.specs.Replay.{told_by, some_damage, is_skipped, last_of, runs}
use Rattle.mesa_history_spec.specs.Legal.{fits_sink}
use Rattle.mesa_history_spec.specs.Output.{block, IsDamage, IsBlock, IsBlockAs}
use Rattle.mesa_history_spec.proofs.Printing.{output_more}
use Rattle.mesa_invariant_spec.specs.Causes.{Cause, Replies, Unread, Damaged, Unwritten, NoMemory, outcome_of, reply_of, replayed, CanBeTold, told_at}
use Rattle.mesa_invariant_spec.specs.Printing.{HasAll, HasFront, IsPrinted, IsPut, Prints}

-- ---- blocks

block_none : (e : Entry) → block e None ≡ []
unfolding block
block_none e = refl

some_is_damage : IsDamage some_damage
some_is_damage = record { file = omega arith; place = omega arith; want = tt; found = tt; differ = λ same. cc }

-- an entry that tells nothing prints nothing
pub no_block : (e : Entry) → IsBlock e None []
no_block e = by e.outcome
  where
    by : (o : Outcome) → IsBlockAs o e None []
    by outcome.Stands = sym (block_none e)
    by outcome.Memory = sym (block_none e)
    by outcome.ReadFault = sym (block_none e)
    by outcome.WriteFault = sym (block_none e)
    by outcome.Damaged = record { damage = some_damage; is = some_is_damage; same = sym (block_none e) }
    by outcome.Skipped = sym (block_none e)

-- the block of a turn that stands
pub standing_block : (e : Entry) (told : Told) (piece : List ℕ) → e.outcome ≡ outcome.Stands → piece ≡ block e (Some told) → IsBlock e (Some told) piece
standing_block e told piece stands is = subst (λ o. IsBlockAs o e (Some told) piece) (sym stands) is

-- the block of a turn that has a cause
pub cause_block : (e : Entry) (cause : Cause) (position : ℕ) (piece : List ℕ) → e.outcome ≡ outcome_of cause → CanBeTold cause → piece ≡ block e (Some (told_at position (reply_of cause))) → IsBlock e (Some (told_at position (replayed cause))) piece
cause_block e cause position piece ends can is = subst (λ o. IsBlockAs o e (Some (told_at position (replayed cause))) piece) (sym ends) (by cause can is)
  where
    by : (x : Cause) → CanBeTold x → piece ≡ block e (Some (told_at position (reply_of x))) → IsBlockAs (outcome_of x) e (Some (told_at position (replayed x))) piece
    by (Replies r) can' is' = is'
    by Unread can' is' = is'
    by (Damaged damage) can' is' = record { damage = damage; is = can'; same = is' }
    by Unwritten can' is' = is'
    by NoMemory can' is' = is'

-- ---- one entry more

whole_more : (script : Script) (r : Run) (h : List Entry) (e : Entry) (at old new : Option (List ℕ)) (piece : List ℕ) → HasAll script r h at old
    → IsBlock e (told_by script (runs script r h) e) piece → Appends old new piece → HasAll script r (h ++ e ∷ []) at new
whole_more script r h e at old new piece had more put = record {
  text = had.text ++ piece;
  output = output_more script r h e had.text piece had.output more;
  held = Appends-trans at old new had.text piece had.held put;
}

front_here : (script : Script) (r : Run) (h : List Entry) (e : Entry) (at old new : Option (List ℕ)) (piece : List ℕ) → HasAll script r h at old
    → IsBlock e (told_by script (runs script r h) e) piece → IsPut piece false old new → HasFront script r (h ++ e ∷ []) at new
front_here script r h e at old new piece had more put = record {
  past = h;
  entry = e;
  rest = [];
  split = refl;
  text = had.text;
  output = had.output;
  piece = piece;
  block = more;
  count = put.0;
  held = Appends-trans at old new had.text _ had.held put.1;
}

front_still : (script : Script) (r : Run) (h : List Entry) (e : Entry) (at now : Option (List ℕ)) → HasFront script r h at now → HasFront script r (h ++ e ∷ []) at now
front_still script r h e at now had = record {
  past = had.past;
  entry = had.entry;
  rest = had.rest ++ e ∷ [];
  split = ap (λ l. l ++ e ∷ []) had.split ∙ append_assoc had.past (had.entry ∷ had.rest) (e ∷ []);
  text = had.text;
  output = had.output;
  piece = had.piece;
  block = had.block;
  count = had.count;
  held = had.held;
}

silent_more : (script : Script) (r : Run) (h : List Entry) (e : Entry) (running : Bool) (at held : Option (List ℕ)) → IsPrinted script r h running at held → told_by script (runs script r h) e ≡ None → IsPrinted script r (h ++ e ∷ []) running at held
silent_more script r h e true at held had none = whole_more script r h e at held held [] had (subst (λ t. IsBlock e t []) (sym none) (no_block e)) (Appends-nil held)
silent_more script r h e false at held had none = front_still script r h e at held had

put_more : (script : Script) (r : Run) (h : List Entry) (e : Entry) (now : Bool) (at old new : Option (List ℕ)) (piece : List ℕ) → HasAll script r h at old
    → IsBlock e (told_by script (runs script r h) e) piece → IsPut piece now old new → IsPrinted script r (h ++ e ∷ []) now at new
put_more script r h e true at old new piece had more put = whole_more script r h e at old new piece had more put
put_more script r h e false at old new piece had more put = front_here script r h e at old new piece had more put

-- What is on the sink behind a turn.
pub printed_more : (sound : Bool) (script : Script) (r : Run) (h : List Entry) (e : Entry) (told : Option Told) (before now : Bool) (at old new : Option (List ℕ)) → IsTrue sound → e.moment < last
    → told_by script (runs script r h) e ≡ told → IsPrinted script r h before at old → Prints sound e told before now old new → IsPrinted script r (h ++ e ∷ []) now at new
printed_more sound script r h e None before now at old new ok low is had prints =
    subst (λ n. IsPrinted script r (h ++ e ∷ []) n at new) (sym prints.0) (subst (IsPrinted script r (h ++ e ∷ []) before at) (sym prints.1) (silent_more script r h e before at old had is))
printed_more sound script r h e (Some told) before now at old new ok low is had prints =
    put_more script r h e now at old new prints.1.piece (subst (λ b. IsPrinted script r h b at old) prints.0 had) (subst (λ t. IsBlock e t prints.1.piece) (sym is) (prints.1.block ok low)) prints.1.put

-- ---- the sink

silent_sink : (b : Bool) → IsTrue (fits_sink (last_of (not b) None) (not b))
silent_sink true = refl
silent_sink false = refl

-- the sink's rule for the entry behind a turn
pub sink_more : (sound : Bool) (e : Entry) (told : Option Told) (before now : Bool) (held new_held : Option (List ℕ)) → is_skipped e ≡ not before → Prints sound e told before now held new_held
    → IsTrue (fits_sink (last_of (is_skipped e) told) (not now))
sink_more sound e None before now held new_held skipped prints =
    subst (λ b. IsTrue (fits_sink (last_of b None) (not now))) (sym skipped) (subst (λ n. IsTrue (fits_sink (last_of (not before) None) (not n))) (sym prints.0) (silent_sink before))
sink_more sound e (Some told) before now held new_held skipped prints =
    subst (λ b. IsTrue (fits_sink (last_of b (Some told)) (not now))) (sym skipped) (subst (λ b. IsTrue (fits_sink (last_of (not b) (Some told)) (not now))) (sym prints.0) refl)

-- a sink that has failed stays so
pub sink_still : (sound : Bool) (e : Entry) (told : Option Told) (before now : Bool) (held new_held : Option (List ℕ)) → Prints sound e told before now held new_held → now ≡ true → before ≡ true
sink_still sound e None before now held new_held prints is = sym prints.0 ∙ is
sink_still sound e (Some told) before now held new_held prints is = prints.0
