-- What a turn prints.
use Rattle.std.proofs.Common.{◌≡◌, ℕ, List, [], ◌++◌, Bool, true, false, not, refl, sym, ◌∙◌, ap, subst, Option, Some}
use Rattle.mesa_model.specs.declared.entries.Entry.{Entry}
use Rattle.mesa_model.specs.Query.{Heading}
use Rattle.mesa_model.specs.declared.replies.Page.{Page}
use Rattle.mesa_model.specs.declared.replies.Reply.TheVariants as reply
use Rattle.mesa_invariant_spec.specs.mesa_history_spec.Run.{Told}
use Rattle.mesa_invariant_spec.specs.mesa_history_spec.Output.{block}
use Rattle.mesa_print.specs.declared.printer.Printer.{Printer}
use Rattle.mesa_print.specs.Printed.{Printed}
use Rattle.mesa_script.specs.Replies.{head_line}
use Rattle.mesa_script.specs.Rows.{body_of, rendered}
use Rattle.mesa_script.specs.declared.rendered.Rendered.{Rendered}
use Rattle.mesa_invariant_spec.specs.Printing.{IsPut}
use Rattle.mesa_invariant_spec.specs.mesa_history_spec.Replay.{no_rows}
use Rattle.mesa_invariant_spec.specs.Causes.{reply_of}
use Rattle.mesa_engine.specs.declared.failure.Failure.{Failure}
use Rattle.mesa_engine.specs.declared.failure.Failure.TheVariants as failure
use Rattle.mesa_engine.specs.Failure.{cause_in}
use Rattle.mesa_engine.specs.Printing.{GoesOn, PrintsBlock, page_text}

-- A printer that was given a text has it, or a front of it.
pub gives : {K : Type 0} (held : K → Option (List ℕ)) (faults : K → ℕ) (old new : Printer K) (text : List ℕ) → Printed held faults old new text → IsPut text (not new.broken) (held old.sink) (held new.sink) × GoesOn faults old new
gives held faults old new text p = (by new.broken refl, record { still = λ whole. (p.whole whole).0; cause = p.cause; quiet = p.quiet })
  where
    by : (b : Bool) → new.broken ≡ b → IsPut text (not b) (held old.sink) (held new.sink)
    by false whole = (p.whole whole).1
    by true broken = p.front

-- A text that is the block of a turn was printed.
pub tells : {K : Type 0} (held : K → Option (List ℕ)) (faults : K → ℕ) (old new : Printer K) (e : Entry) (told : Told) (body : List ℕ) → body ≡ body_of told.heading told.reply
    → Printed held faults old new (head_line e.session e.command told.at told.reply ++ body) → PrintsBlock held faults old new e told
unfolding block
tells held faults old new e told body is p = record {
  put = subst (λ x. IsPut (head_line e.session e.command told.at told.reply ++ x) (not new.broken) (held old.sink) (held new.sink)) is (gives held faults old new _ p).0;
  goes = (gives held faults old new _ p).1;
}

-- What is printed of a page is the block of the turn that answers it.
pub page_block : (e : Entry) (at version : ℕ) (heading : Heading) (page : Page) (text : Rendered) → text ≡ rendered heading page → version ≡ page.version → page_text e at version text ≡ block e (Some (record { at = at; reply = reply.Page page; heading = heading }))
unfolding block
page_block e at version heading page text is same = (λ i. page_text e at (same i) (is i))

-- A printer that is the same has gone on.
pub same_goes : {K : Type 0} (faults : K → ℕ) (old new : Printer K) → new ≡ old → GoesOn faults old new
same_goes {K = K} faults old new is = record {
  still = λ whole. ap (λ (p : Printer K). p.broken) (sym is) ∙ whole;
  cause = λ whole broken. absurd (let never : false ≡ true = sym whole ∙ ap (λ (p : Printer K). p.broken) (sym is) ∙ broken in cc);
  quiet = λ same. ap (λ (p : Printer K). faults p.sink) is;
}

-- No line stands behind the head line of a failure.
pub no_body : (f : Failure) → [] ≡ body_of no_rows (reply_of (cause_in f))
no_body (failure.Refused refusal) = refl
no_body failure.Idle = refl
no_body (failure.Busy lease) = refl
no_body failure.Unread = refl
no_body (failure.Damaged damage) = refl
no_body failure.Unwritten = refl
no_body failure.Memory = refl
