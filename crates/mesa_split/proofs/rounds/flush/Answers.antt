use Rattle.std.proofs.Common.{◌≡◌, ℕ, List, ◌++◌, refl, sym, ◌∙◌, ap}
use Rattle.std.specs.Prelude.{◌==◌, option_map}
use Rattle.mesa_disk.specs.declared.failures.DraftError.TheVariants.{Failed, Memory}
use Rattle.mesa_split.specs.declared.held.Held.{Held}
use Rattle.mesa_split.proofs.Holding.{empty_list, flush_failed, flush_idle, flush_memory, flush_sent}
use Rattle.mesa_split.proofs.rounds.flush.Goals as goal

pub returns-then-is_empty : goal.returns-then-is_empty
returns-then-is_empty g c =
    let bytes = c.draft-held.result.now.bytes in
    let same = ap (λ (h : Held g.row.M.Denot g.row.D.Denot). h.bytes.items) c.draft-held.ensures in
    flush_idle c.requires (sym same ∙ empty_list bytes.items c.is_empty.result (c.is_empty.ensures ∙ ap (λ n. n == 0) bytes.ok.0) c.if-is_empty.true)

pub returns-in_default : goal.returns-in_default
returns-in_default g c = flush_memory c.requires refl refl

pub returns-in-Err-Failed : goal.returns-in-Err-Failed
returns-in-Err-Failed g c =
    let cause = c.in-Err-Failed.ensures.cause in
    flush_failed c.requires c.append.ensures.id cause.later (cause.failed (cc))

pub returns-in-Err-Memory : goal.returns-in-Err-Memory
returns-in-Err-Memory g c = flush_memory c.requires c.append.ensures.id (c.in-Err-Memory.ensures.cause.other (λ is. let both : Memory ≡ Failed = cc in cc))

pub returns : goal.returns
returns g c =
    let same = ap (λ (h : Held g.row.M.Denot g.row.D.Denot). h.bytes.items) c.draft-held.ensures in
    let put = c.in-Ok-append.ensures.appended ∙ ap (λ (b : List ℕ). option_map (λ (before : List ℕ). before ++ b) (g.D.Draft.bytes c.args.draft.now)) (c.deref.ensures.value ∙ same) in
    flush_sent c.requires c.of.result put c.of.ensures.bytes c.of.ensures.sent c.replace_draft.ensures.draft c.replace_draft.ensures.taken c.replace_draft.ensures.columns c.replace_draft.ensures.id c.append.ensures.id c.in-Ok-append.ensures.cause.quiet
