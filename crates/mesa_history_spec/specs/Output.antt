-- Output: what a run prints.
use Rattle.std.specs.Prelude.{◌≡◌, ◌≢◌, ◌<◌, ◌^◌, ℕ, List, [], ◌∷◌, ◌++◌, length, Option, Some, None, option_map}
use Rattle.std.specs.List.{AllByRecursion}
use Rattle.mesa_script.specs.mesa_model.declared.commands.Script.{Script}
use Rattle.mesa_script.specs.mesa_file.declared.damage.Damage.{Damage}
use Rattle.mesa_script.specs.mesa_file.declared.damage.Seen.{Seen}
use Rattle.mesa_script.specs.mesa_file.declared.damage.Seen.TheVariants as seen
use Rattle.mesa_script.specs.mesa_model.declared.entries.Entry.{Entry}
use Rattle.mesa_script.specs.mesa_model.declared.entries.Outcome.{Outcome}
use Rattle.mesa_script.specs.mesa_model.declared.entries.Outcome.TheVariants as outcome
use Rattle.mesa_script.specs.mesa_model.declared.replies.Reply.TheVariants as reply
use Rattle.mesa_script.specs.mesa_model.declared.replies.Refusal.TheVariants as no
use Rattle.mesa_history_spec.specs.Run.{Told, Run}
use Rattle.mesa_history_spec.specs.Replay.{turned, told_by, after, go}
use Rattle.mesa_script.specs.Replies.{head_line}
use Rattle.mesa_script.specs.Rows.{body_of}

-- The block of an entry that prints: its head line, and the lines behind it. An entry that prints nothing has none.
unfoldable pub block : Entry → Option Told → List ℕ
block e None = []
block e (Some told) = head_line e.session e.command told.at told.reply ++ body_of told.heading told.reply

-- the same reply about this damage
abbrev pub retold : Damage → Option Told → Option Told
retold damage told = option_map (λ (t : Told). record t { reply = reply.Refused (no.Damaged damage) }) told

-- what can be seen at a place: a number of 64 bits, or a digest of 32 bytes
abbrev pub IsSeen : Seen → Type 0
IsSeen (seen.Length n) = n < 2 ^ 64
IsSeen (seen.Digest bytes) = (length bytes ≡ 32) × AllByRecursion (λ byte. byte < 2 ^ 8) bytes
IsSeen seen.Absent = Unit {0}
IsSeen seen.Fits = Unit {0}
IsSeen (seen.Misfit n) = n < 2 ^ 64

-- what can be told of a file: an id and a place of 64 bits, and what was wanted there and what was found, which differ
pub record IsDamage (damage : Damage) : Type 0 where
  pub file : damage.file < 2 ^ 64
  pub place : damage.place < 2 ^ 64
  pub want : IsSeen damage.want
  pub found : IsSeen damage.found
  pub differ : damage.want ≢ damage.found

-- the text tells some damage
pub record TellsDamage (e : Entry) (told : Option Told) (text : List ℕ) : Type 0 where
  pub damage : Damage
  pub is : IsDamage damage
  pub same : text ≡ block e (retold damage told)

-- the text is the block of an entry of this outcome
abbrev pub IsBlockAs : Outcome → Entry → Option Told → List ℕ → Type 0
IsBlockAs outcome.Stands e told text = text ≡ block e told
IsBlockAs outcome.Memory e told text = text ≡ block e told
IsBlockAs outcome.ReadFault e told text = text ≡ block e told
IsBlockAs outcome.WriteFault e told text = text ≡ block e told
IsBlockAs outcome.Damaged e told text = TellsDamage e told text
IsBlockAs outcome.Skipped e told text = text ≡ block e told

-- The text is the block of an entry that tells this; of a damaged entry all is fixed but the damage.
abbrev pub IsBlock : Entry → Option Told → List ℕ → Type 0
IsBlock e told text = IsBlockAs e.outcome e told text

-- Output: the text is the blocks of a history's entries, in their order.
unfoldable pub IsOutput : Script → Run → List Entry → List ℕ → Type 0
IsOutput script r [] text = text ≡ []
IsOutput script r (e ∷ h) text = (piece : List ℕ) × ((rest : List ℕ) × (IsBlock e (told_by script r e) piece × IsOutput script (go script r e) h rest × (text ≡ piece ++ rest)))

-- the output of a history, computed; of a damaged entry it is one of those that may be
unfoldable pub output : Script → Run → List Entry → List ℕ
output script r [] = []
output script r (e ∷ h) = let t = turned script r e in block e t.told ++ output script (after r e t) h
