-- What a turn prints, and what it leaves of a sink.
use Rattle.std.specs.Prelude.{◌≡◌, ℕ, List, ◌++◌, true, false, not, Option, Some}
use Rattle.mesa_io.specs.Causes.{Rose}
use Rattle.mesa_model.specs.declared.entries.Entry.{Entry}
use Rattle.mesa_model.specs.declared.replies.Reply.TheVariants as reply
use Rattle.mesa_invariant_spec.specs.mesa_history_spec.Run.{Told}
use Rattle.mesa_invariant_spec.specs.mesa_history_spec.Output.{block}
use Rattle.mesa_print.specs.declared.printer.Printer.{Printer}
use Rattle.mesa_script.specs.Replies.{head_line}
use Rattle.mesa_script.specs.declared.rendered.Rendered.{Rendered}
use Rattle.mesa_invariant_spec.specs.Printing.{IsPut}

-- A printer goes on: once broken it stays so; it breaks only where its sink's count of faults rose; and else the count stays.
pub record GoesOn {K : Type 0} (faults : K → ℕ) (old new : Printer K) : Type 0 where
  pub still : new.broken ≡ false → old.broken ≡ false
  pub cause : old.broken ≡ false → new.broken ≡ true → Rose (faults old.sink) (faults new.sink)
  pub quiet : new.broken ≡ old.broken → faults new.sink ≡ faults old.sink

-- A printer was given the block of a turn that tells this: its sink has it whole, or a front of it where the sink failed.
pub record PrintsBlock {K : Type 0} (held : K → Option (List ℕ)) (faults : K → ℕ) (old new : Printer K) (e : Entry) (told : Told) : Type 0 where
  pub put : IsPut (block e (Some told)) (not new.broken) (held old.sink) (held new.sink)
  pub goes : GoesOn faults old new

-- the block that a turn prints of a page, under a position and a version
abbrev pub page_text : Entry → ℕ → ℕ → Rendered → List ℕ
page_text e at version page = head_line e.session e.command at (reply.Rows page.rows version page.more) ++ page.body
