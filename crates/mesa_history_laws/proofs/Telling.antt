-- What a turn tells and how far its command comes: a page is told only of a query that was answered, and a query is answered only where it is decided.
use Rattle.std.proofs.Common.{◌≡◌, ℕ, refl, sym, ◌∙◌, ap, ◌⊎◌, inl, inr, Option, Some, None, Result, Ok, Err}
use Rattle.mesa_history_spec.specs.mesa_filter.declared.words.QueryWords.{QueryWords}
use Rattle.mesa_history_spec.specs.mesa_model.declared.commands.Command.{Command}
use Rattle.mesa_history_spec.specs.mesa_model.declared.commands.Command.TheVariants as command
use Rattle.mesa_history_spec.specs.mesa_model.declared.commands.Script.{Script}
use Rattle.mesa_history_spec.specs.mesa_model.declared.entries.Entry.{Entry}
use Rattle.mesa_history_spec.specs.mesa_model.declared.entries.Kind.{Kind}
use Rattle.mesa_history_spec.specs.mesa_model.declared.entries.Kind.TheVariants as kind
use Rattle.mesa_history_spec.specs.mesa_model.declared.entries.Outcome.{Outcome}
use Rattle.mesa_history_spec.specs.mesa_model.declared.entries.Outcome.TheVariants as outcome
use Rattle.mesa_history_spec.specs.mesa_model.declared.replies.Page.{Page}
use Rattle.mesa_history_spec.specs.mesa_model.declared.replies.Refusal.{Refusal}
use Rattle.mesa_history_spec.specs.mesa_model.declared.replies.Refusal.TheVariants as no
use Rattle.mesa_history_spec.specs.mesa_model.declared.replies.Reply.{Reply}
use Rattle.mesa_history_spec.specs.mesa_model.declared.replies.Reply.TheVariants as reply
use Rattle.mesa_history_spec.specs.mesa_schema.Recasts.{Recast}
use Rattle.mesa_history_spec.specs.mesa_model.Warehouse.{Warehouse, table_at}
use Rattle.mesa_history_spec.specs.mesa_model.Tables.{recast_reply}
use Rattle.mesa_history_spec.specs.mesa_model.Query.{Answer, query_answer}
use Rattle.mesa_history_spec.specs.Machine.{Claim, Errand, Merges, Recasts, claim_checked, explained, still_checked, swapped_reply}
use Rattle.mesa_history_spec.specs.Run.{Answered, CutOff, Finished, First, Granted, Looked, Renewed, Run, Stage, State, Told, command_of, place_of}
use Rattle.mesa_history_spec.specs.Replay.{Turned, claim_asked, close, closed_if, closes, completes, decide, decided_explain, decided_query, does, grants, no_rows, recasts, refused_turn, renew, renews, some_damage, standing, turn_as, turn_of, turned}
use Rattle.mesa_history_laws.proofs.NoPages.{NoPage, alter_tells, asked_tells, expire_tells, explain_tells, load_tells, nothing_tells, pin_tells, recast_tells, refused_is_none, release_tells, swap_tells, table_tells, view_tells}

-- a page is told of an answer that the session has
pub record IsTold (stage : Stage) (told : Told) : Type 0 where
  pub answer : Answer
  pub has : stage ≡ Answered told.at answer
  pub page : told.reply ≡ reply.Page answer.page
  pub heading : told.heading ≡ answer.heading

-- a query is answered where it is decided
pub record IsDecided (w : Warehouse) (session position : ℕ) (o : Option Command) (at : ℕ) (answer : Answer) : Type 0 where
  pub words : QueryWords
  pub query : o ≡ Some (command.Query words)
  pub here : at ≡ position
  pub answers : query_answer w session words ≡ Ok answer

-- What a turn tells, and what it leaves.
pub record Tells (w : Warehouse) (session position : ℕ) (o : Option Command) (stage : Stage) (t : Turned) : Type 0 where
  pub printed : (told : Told) (page : Page) → t.told ≡ Some told → told.reply ≡ reply.Page page → IsTold stage told
  pub staged : (at : ℕ) (answer : Answer) → t.stage ≡ Answered at answer → (stage ≡ Answered at answer) ⊎ IsDecided w session position o at answer

module _ (w : Warehouse) (session position : ℕ) (o : Option Command) (stage : Stage) where
  abbrev T : Turned → Type 0
  T = Tells w session position o stage

  -- a turn that tells something that is no page, and finishes its command
  finishes : (s : State) (told : Told) → NoPage told.reply → T (record { state = s; told = Some told; stage = Finished })
  finishes s told none = record {
    printed = λ other page is reads. (let same : told ≡ other = cc in absurd (none page (ap (λ (x : Told). x.reply) same ∙ reads)));
    staged = λ at answer is. cc;
  }

  -- a turn that tells nothing
  leaving : (s : State) (next : Stage) → ((at : ℕ) (answer : Answer) → next ≡ Answered at answer → (stage ≡ Answered at answer) ⊎ IsDecided w session position o at answer) → T (record { state = s; told = None; stage = next })
  leaving s next staged = record { printed = λ other page is reads. cc; staged = staged }

  refusing : (s : State) (refusal : Refusal) (at : ℕ) → T (record { state = s; told = Some (record { at = at; reply = reply.Refused refusal; heading = no_rows }); stage = Finished })
  refusing s refusal at = finishes s (record { at = at; reply = reply.Refused refusal; heading = no_rows }) (refused_is_none refusal)

  explains : (s : State) (r : Result Reply Refusal) → ((other : Reply) → r ≡ Ok other → NoPage other) → T (decided_explain position s r)
  explains s (Ok r) none = finishes s (record { at = position; reply = r; heading = no_rows }) (none r refl)
  explains s (Err refusal) none = refusing s refusal position

  granting : (s : State) (r : Result Claim Reply) → ((other : Reply) → r ≡ Err other → NoPage other) → T (grants position s r)
  granting s (Err r) none = finishes s (record { at = position; reply = r; heading = no_rows }) (none r refl)
  granting s (Ok claim) none = leaving _ (Granted claim) (λ at answer is. cc)

  renewing : (s : State) (claim : Claim) (r : Result (Unit {0}) Refusal) → T (renews position s claim r)
  renewing s claim (Err refusal) = refusing s refusal position
  renewing s claim (Ok ok) = leaving _ (Renewed claim) (λ at answer is. cc)

  recasting : (s : State) (claim : Claim) (r : Recast) (q : Result (Unit {0}) Refusal) → T (recasts position s claim r q)
  recasting s claim r (Err refusal) = refusing _ refusal position
  recasting s claim r (Ok ok) = finishes _ (record { at = position; reply = recast_reply (table_at s.warehouse.store claim.table); heading = no_rows }) (recast_tells (table_at s.warehouse.store claim.table))

  doing : (s : State) (claim : Claim) (errand : Errand) → T (does position s claim errand)
  doing s claim (Merges work) = finishes _ (record { at = position; reply = swapped_reply work; heading = no_rows }) (swap_tells work)
  doing s claim (Recasts epoch r) = recasting s claim r (still_checked (table_at s.warehouse.store claim.table).lineage epoch r)

  completing : (s : State) (claim : Claim) (r : Result (Unit {0}) Refusal) → T (completes position s claim r)
  completing s claim (Err refusal) = refusing s refusal position
  completing s claim (Ok ok) = doing s claim claim.errand

module _ (session position : ℕ) (o : Option Command) (s : State) where
  closing : (stage : Stage) → Tells s.warehouse session position o stage (close position s stage)
  closing First = leaving s.warehouse session position o First s First (λ at answer is. cc)
  closing Looked = leaving s.warehouse session position o Looked s Looked (λ at answer is. cc)
  closing (Answered at answer) = record {
    printed = λ told page is reads.
        let same : record { at = at; reply = reply.Page answer.page; heading = answer.heading } ≡ told = cc in
        record { answer = answer; has = ap (λ (x : Told). Answered x.at answer) same; page = ap (λ (x : Told). x.reply) (sym same); heading = ap (λ (x : Told). x.heading) (sym same) };
    staged = λ at answer is. cc;
  }
  closing (Granted claim) = completing s.warehouse session position o (Granted claim) s claim (claim_checked s.warehouse s.machine position claim)
  closing (Renewed claim) = completing s.warehouse session position o (Renewed claim) s claim (claim_checked s.warehouse s.machine position claim)
  closing Finished = leaving s.warehouse session position o Finished s Finished (λ at answer is. cc)
  closing CutOff = leaving s.warehouse session position o CutOff s CutOff (λ at answer is. cc)

  renewed : (stage : Stage) → Tells s.warehouse session position o stage (renew position s stage)
  renewed First = leaving s.warehouse session position o First s First (λ at answer is. cc)
  renewed Looked = leaving s.warehouse session position o Looked s Looked (λ at answer is. cc)
  renewed (Answered at answer) = leaving s.warehouse session position o (Answered at answer) s (Answered at answer) (λ other its is. inl is)
  renewed (Granted claim) = renewing s.warehouse session position o (Granted claim) s claim (claim_checked s.warehouse s.machine position claim)
  renewed (Renewed claim) = leaving s.warehouse session position o (Renewed claim) s (Renewed claim) (λ at answer is. cc)
  renewed Finished = leaving s.warehouse session position o Finished s Finished (λ at answer is. cc)
  renewed CutOff = leaving s.warehouse session position o CutOff s CutOff (λ at answer is. cc)

module _ (w : Warehouse) (session position : ℕ) (o : Option Command) (s : State) where
  refused : (k : Kind) (stage : Stage) (refusal : Refusal) → Tells w session position o stage (refused_turn position s k stage refusal)
  refused kind.Look stage refusal = leaving w session position o stage s Looked (λ at answer is. cc)
  refused kind.Decide stage refusal = refusing w session position o stage s refusal position
  refused kind.Close stage refusal = refusing w session position o stage _ refusal _
  refused kind.Grant stage refusal = refusing w session position o stage s refusal position
  refused kind.Renew stage refusal = refusing w session position o stage s refusal position

module _ (session position : ℕ) (s : State) where
  queries : (words : QueryWords) (stage : Stage) (r : Result Answer Refusal) → query_answer s.warehouse session words ≡ r → Tells s.warehouse session position (Some (command.Query words)) stage (decided_query position s r)
  queries words stage (Err refusal) is = refusing s.warehouse session position (Some (command.Query words)) stage s refusal position
  queries words stage (Ok answer) is = leaving s.warehouse session position (Some (command.Query words)) stage s (Answered position answer) (λ at its same.
      let here : at ≡ position = cc in
      let mine : answer ≡ its = cc in
      inr (record { words = words; query = refl; here = here; answers = is ∙ ap Ok mine }))

  decides : (c : Command) (stage : Stage) → Tells s.warehouse session position (Some c) stage (decide position s session c)
  decides (command.Query words) stage = queries words stage (query_answer s.warehouse session words) refl
  decides (command.Explain words) stage = explains s.warehouse session position (Some (command.Explain words)) stage s (explained s.warehouse s.machine words) (explain_tells s.warehouse s.machine words)
  decides (command.Table words) stage = finishes s.warehouse session position (Some (command.Table words)) stage _ _ (table_tells s.warehouse words)
  decides (command.View words) stage = finishes s.warehouse session position (Some (command.View words)) stage _ _ (view_tells s.warehouse words)
  decides (command.Alter words) stage = finishes s.warehouse session position (Some (command.Alter words)) stage _ _ (alter_tells s.warehouse words)
  decides (command.Load rows) stage = finishes s.warehouse session position (Some (command.Load rows)) stage _ _ (load_tells s.warehouse rows)
  decides (command.Pin asked) stage = finishes s.warehouse session position (Some (command.Pin asked)) stage _ _ (pin_tells s.warehouse session asked)
  decides (command.Release token) stage = finishes s.warehouse session position (Some (command.Release token)) stage _ _ (release_tells s.warehouse session token)
  decides (command.Expire table version) stage = finishes s.warehouse session position (Some (command.Expire table version)) stage _ _ (expire_tells s.warehouse table version)
  decides (command.Work words) stage = finishes s.warehouse session position (Some (command.Work words)) stage _ _ (nothing_tells s.warehouse)
  decides (command.Recast words) stage = finishes s.warehouse session position (Some (command.Recast words)) stage _ _ (nothing_tells s.warehouse)

  stands : (c : Command) (k : Kind) (stage : Stage) → Tells s.warehouse session position (Some c) stage (standing position s session c k stage)
  stands c kind.Look stage = leaving s.warehouse session position (Some c) stage s Looked (λ at answer is. cc)
  stands c kind.Decide stage = decides c stage
  stands c kind.Close stage = closing session position (Some c) s stage
  stands c kind.Grant stage = granting s.warehouse session position (Some c) stage s (claim_asked s.warehouse s.machine position c) (asked_tells s.warehouse s.machine position c)
  stands c kind.Renew stage = renewed session position (Some c) s stage

module _ (r : Run) (e : Entry) where
  abbrev stage_of : Stage
  stage_of = (place_of r e.session).stage

  turn_tells : (c : Command) (outcome : Outcome) → Tells r.state.warehouse e.session r.position (Some c) stage_of (turn_of r c e stage_of outcome)
  turn_tells c outcome.Stands = stands e.session r.position r.state c e.kind stage_of
  turn_tells c outcome.Memory = refused r.state.warehouse e.session r.position (Some c) r.state e.kind stage_of no.Memory
  turn_tells c outcome.ReadFault = refused r.state.warehouse e.session r.position (Some c) r.state e.kind stage_of no.ReadFault
  turn_tells c outcome.WriteFault = refused r.state.warehouse e.session r.position (Some c) (closed_if (closes r.moment e) r.position r.state) e.kind stage_of no.WriteFault
  turn_tells c outcome.Damaged = refused r.state.warehouse e.session r.position (Some c) r.state e.kind stage_of (no.Damaged some_damage)
  turn_tells c outcome.Skipped = leaving r.state.warehouse e.session r.position (Some c) stage_of r.state CutOff (λ at answer is. cc)

  as_tells : (o : Option Command) → Tells r.state.warehouse e.session r.position o stage_of (turn_as r e o)
  as_tells None = leaving r.state.warehouse e.session r.position None stage_of r.state CutOff (λ at answer is. cc)
  as_tells (Some c) = turn_tells c e.outcome

-- What an entry's turn tells, and what it leaves.
pub turned_tells : (script : Script) (r : Run) (e : Entry) → Tells r.state.warehouse e.session r.position (command_of script e) (place_of r e.session).stage (turned script r e)
unfolding turned
turned_tells script r e = as_tells r e (command_of script e)
