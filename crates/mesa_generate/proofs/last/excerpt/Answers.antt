use Rattle.std.proofs.Common.{◌≡◌, ℕ, List, Option, ap, sym, subst, ◌∙◌}
use Rattle.mesa_generate.specs.Excerpt.{CutsBy, IsExcerptBy, Output, before_last_three}
use Rattle.mesa_generate.specs.Lines.{behind_lines}
use Rattle.mesa_invariant_spec.specs.mesa_history_spec.Run.{Told, begins}
use Rattle.mesa_model.specs.declared.entries.Entry.{Entry}
use Rattle.mesa_model.specs.declared.commands.Script.{Script}
use Rattle.mesa_generate.proofs.Blocks.{IsMadeOf, made_anyhow, made_whole}
use Rattle.mesa_generate.proofs.Cutting.{excerpt_cut}
use Rattle.mesa_generate.proofs.Reading.{ends_with_queries}
use Rattle.mesa_generate.proofs.last.excerpt.Goals as goal

cuts : (is_output : Output) (is_piece : Entry → Option Told → List ℕ → Type 0) → IsMadeOf is_output is_piece → (script : Script) (text piece : List ℕ) → piece ≡ behind_lines (before_last_three script) text → CutsBy is_output script text piece
cuts is_output is_piece made script text piece same seed versions start h is names all output =
    subst (IsExcerptBy is_output script (begins start) h (before_last_three script)) (sym same)
    (excerpt_cut is_output is_piece made script (ends_with_queries seed versions script is) start h text all names output)

pub returns : goal.returns
returns c =
    let script = c.args.script.now in
    let same = c.behind_lines.ensures ∙ ap (λ n. behind_lines n c.args.text.now) c.before_last_three.ensures in
    record {
      whole = cuts _ _ made_whole script c.args.text.now _ same;
      anyhow = cuts _ _ made_anyhow script c.args.text.now _ same;
    }
