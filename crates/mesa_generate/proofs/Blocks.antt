-- The blocks of entries whose replies are short: nothing, or one line.
use Rattle.std.proofs.Common.{◌≡◌, ℕ, ◌+◌, ◌/◌, ◌%◌, ◌==◌, List, [], ◌∷◌, ◌++◌, true, false, refl, sym, ap, subst, ◌∙◌, append-nil, arith, ne_eqb, nat_lt, Option, Some, None}
use Rattle.std.specs.Prelude.{codes, decimal, if◌then◌else◌, option_map}
use Rattle.std.specs.Int.{w64, to_be_bytes}
use Rattle.mesa_invariant_spec.specs.mesa_history_spec.Replay.{go, told_by}
use Rattle.mesa_invariant_spec.specs.mesa_history_spec.Run.{Run, Told}
use Rattle.mesa_model.specs.declared.commands.Script.{Script}
use Rattle.mesa_model.specs.declared.entries.Entry.{Entry}
use Rattle.mesa_model.specs.declared.entries.Outcome.{Outcome}
use Rattle.mesa_model.specs.declared.entries.Outcome.TheVariants as outcome
use Rattle.mesa_model.specs.declared.replies.Refusal.TheVariants as no
use Rattle.mesa_model.specs.declared.replies.Reply.{Reply}
use Rattle.mesa_model.specs.declared.replies.Reply.TheVariants as reply
use Rattle.mesa_invariant_spec.specs.mesa_file.declared.damage.Damage.{Damage}
use Rattle.mesa_invariant_spec.specs.mesa_file.declared.damage.Seen.{Seen}
use Rattle.mesa_invariant_spec.specs.mesa_file.declared.damage.Seen.TheVariants as seen
use Rattle.mesa_invariant_spec.specs.mesa_filter.Hex.{hex_digit, hex_of}
use Rattle.mesa_invariant_spec.specs.mesa_history_spec.Output.{IsBlock, IsBlockAs, IsOutput, block}
use Rattle.mesa_invariant_spec.specs.mesa_script.Replies.{damage_text, reply_text, seen_text}
use Rattle.mesa_invariant_spec.specs.Printing.{IsBlockButRows, IsOutputButRows}
use Rattle.mesa_invariant_spec.specs.mesa_history_spec.Bare.{bare_reply, bare_told}
use Rattle.mesa_generate.specs.Excerpt.{Output}
use Rattle.mesa_generate.specs.Lines.{IsUnbroken}
use Rattle.mesa_generate.proofs.Breaks.{decimal_unbroken, unbroken_both, unbroken_more}
use Rattle.mesa_generate.proofs.Short.{IsShort, is_page, refused_short}

-- ---- damages

hex_unbroken : (n : ℕ) → (hex_digit n == 10) ≡ false
hex_unbroken n = elim (nat_lt n 10) as (λ b. ((if b then 48 + n else 87 + n) == 10) ≡ false) [
  | true ↦ ne_eqb (48 + n) 10 (λ e. omega (arith, e))
  | false ↦ ne_eqb (87 + n) 10 (λ e. omega (arith, e))
]

bytes_unbroken : (bytes : List ℕ) → IsUnbroken (hex_of bytes)
bytes_unbroken [] = refl
bytes_unbroken (b ∷ bytes) =
    unbroken_more (hex_digit (b / 16)) (hex_digit (b % 16) ∷ hex_of bytes) (hex_unbroken (b / 16)) (unbroken_more (hex_digit (b % 16)) (hex_of bytes) (hex_unbroken (b % 16)) (bytes_unbroken bytes))

seen_unbroken : (s : Seen) → IsUnbroken (seen_text s)
seen_unbroken (seen.Length n) = unbroken_both (codes "length:") (decimal n) refl (decimal_unbroken n)
seen_unbroken (seen.Digest bytes) = unbroken_both (codes "sha256:") (hex_of bytes) refl (bytes_unbroken bytes)
seen_unbroken seen.Absent = refl
seen_unbroken seen.Fits = refl
seen_unbroken (seen.Misfit n) = unbroken_both (codes "misfit:") (decimal n) refl (decimal_unbroken n)

pub damage_unbroken : (d : Damage) → IsUnbroken (damage_text d)
damage_unbroken d =
    let file : List ℕ = hex_of (to_be_bytes w64 d.file) in
    let named : List ℕ = codes "damaged file=" ++ file in
    let at : List ℕ = named ++ codes " place=" in
    let placed : List ℕ = at ++ decimal d.place in
    let want : List ℕ = placed ++ codes " want=" in
    let wanted : List ℕ = want ++ seen_text d.want in
    let found : List ℕ = wanted ++ codes " found=" in
    let names = unbroken_both (codes "damaged file=") file refl (bytes_unbroken (to_be_bytes w64 d.file)) in
    let places = unbroken_both at (decimal d.place) (unbroken_both named (codes " place=") names refl) (decimal_unbroken d.place) in
    let wants = unbroken_both want (seen_text d.want) (unbroken_both placed (codes " want=") places refl) (seen_unbroken d.want) in
    unbroken_both found (seen_text d.found) (unbroken_both wanted (codes " found=") wants refl) (seen_unbroken d.found)

-- ---- one block

-- a line without a break in it, and its break
pub record IsLine (text : List ℕ) : Type 0 where
  pub line : List ℕ
  pub unbroken : IsUnbroken line
  pub is : text ≡ line ++ 10 ∷ []

short_line : (e : Entry) (told : Told) → IsShort told.reply → IsLine (block e (Some told))
unfolding block
short_line e told short = record {
  line = decimal e.session ++ 46 ∷ decimal e.command ++ 64 ∷ decimal told.at ++ 32 ∷ reply_text told.reply;
  unbroken =
      unbroken_both (decimal e.session ++ 46 ∷ decimal e.command ++ 64 ∷ decimal told.at) (32 ∷ reply_text told.reply)
      (unbroken_both (decimal e.session ++ 46 ∷ decimal e.command) (64 ∷ decimal told.at)
      (unbroken_both (decimal e.session) (46 ∷ decimal e.command) (decimal_unbroken e.session) (decimal_unbroken e.command)) (decimal_unbroken told.at)) short.text;
  is = ap (λ (b : List ℕ). (decimal e.session ++ 46 ∷ decimal e.command ++ 64 ∷ decimal told.at ++ 32 ∷ reply_text told.reply ++ 10 ∷ []) ++ b) (short.body told.heading) ∙ append-nil _;
}

no_block : (o : Outcome) (e : Entry) (text : List ℕ) → IsBlockAs o e None text → text ≡ []
unfolding block
no_block outcome.Stands e text is = is
no_block outcome.Memory e text is = is
no_block outcome.ReadFault e text is = is
no_block outcome.WriteFault e text is = is
no_block outcome.Damaged e text is = is.same
no_block outcome.Skipped e text is = is

one_block : (o : Outcome) (e : Entry) (told : Told) (text : List ℕ) → IsShort told.reply → IsBlockAs o e (Some told) text → IsLine text
one_block outcome.Stands e told text short is = subst IsLine (sym is) (short_line e told short)
one_block outcome.Memory e told text short is = subst IsLine (sym is) (short_line e told short)
one_block outcome.ReadFault e told text short is = subst IsLine (sym is) (short_line e told short)
one_block outcome.WriteFault e told text short is = subst IsLine (sym is) (short_line e told short)
one_block outcome.Damaged e told text short is =
    subst IsLine (sym is.same) (short_line e (record told { reply = reply.Refused (no.Damaged is.damage) }) (refused_short (no.Damaged is.damage) (damage_unbroken is.damage)))
one_block outcome.Skipped e told text short is = subst IsLine (sym is) (short_line e told short)

-- ---- a block but for rows

page_stays : (r : Reply) → is_page (bare_reply r) ≡ is_page r
page_stays (reply.Page page) = refl
page_stays r = refl

bare_off : (r : Reply) → is_page r ≡ false → bare_reply r ≡ r
bare_off (reply.Page page) is = absurd cc
bare_off r is = refl

bare_same : (s t : Reply) → is_page t ≡ false → bare_reply s ≡ bare_reply t → s ≡ t
bare_same s t not same =
    let off : is_page s ≡ false = sym (page_stays s) ∙ ap is_page same ∙ page_stays t ∙ not in
    sym (bare_off s off) ∙ same ∙ bare_off t not

no_rows : (e : Entry) (shown : Option Told) (text : List ℕ) → option_map bare_told shown ≡ None → IsBlock e shown text → text ≡ []
no_rows e None text alike is = no_block e.outcome e text is
no_rows e (Some told) text alike is = absurd cc

one_of_rows : (e : Entry) (shown : Option Told) (told : Told) (text : List ℕ) → IsShort told.reply → option_map bare_told shown ≡ Some (bare_told told) → IsBlock e shown text → IsLine text
one_of_rows e None told text short alike is = absurd cc
one_of_rows e (Some other) told text short alike is =
    let bare : bare_told other ≡ bare_told told = cc in
    let same : other.reply ≡ told.reply = bare_same other.reply told.reply short.unpaged (ap (λ (t : Told). t.reply) bare) in
    one_block e.outcome e other text (subst IsShort (sym same) short) is

-- ---- what makes an output

-- An output is made of pieces, one for each entry: nothing of one that prints nothing, and one line of one whose reply is short.
pub record IsMadeOf (is_output : Output) (is_piece : Entry → Option Told → List ℕ → Type 0) : Type 0 where
  pub nothing : (script : Script) (r : Run) (text : List ℕ) → is_output script r [] text → text ≡ []
  pub more : (script : Script) (r : Run) (e : Entry) (h : List Entry) (text : List ℕ) → is_output script r (e ∷ h) text
      → (piece : List ℕ) × ((rest : List ℕ) × (is_piece e (told_by script r e) piece × is_output script (go script r e) h rest × (text ≡ piece ++ rest)))
  pub empty : (e : Entry) (text : List ℕ) → is_piece e None text → text ≡ []
  pub line : (e : Entry) (told : Told) (text : List ℕ) → IsShort told.reply → is_piece e (Some told) text → IsLine text

pub made_whole : IsMadeOf IsOutput IsBlock
unfolding IsOutput
made_whole = record {
  nothing = λ script r text is. is;
  more = λ script r e h text is. is;
  empty = λ e text is. no_block e.outcome e text is;
  line = λ e told text short is. one_block e.outcome e told text short is;
}

pub made_anyhow : IsMadeOf IsOutputButRows IsBlockButRows
unfolding IsOutputButRows
made_anyhow = record {
  nothing = λ script r text is. is;
  more = λ script r e h text is. is;
  empty = λ e text is. no_rows e is.shown text is.alike is.block;
  line = λ e told text short is. one_of_rows e is.shown told text short is.alike is.block;
}
