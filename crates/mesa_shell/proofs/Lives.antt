-- A life of calls and crashes is a list of runs.
use Rattle.std.proofs.Common.{◌≡◌, inl, inr, List, [], ◌∷◌, refl, sym, subst, append-nil}
use Rattle.mesa_model.specs.declared.commands.Script.{Script}
use Rattle.mesa_session.specs.mesa_history_spec.Found.{Kept}
use Rattle.mesa_engine.specs.mesa_store_spec.Contents.{kept_of}
use Rattle.mesa_engine.specs.mesa_store_spec.Sound.{StandsFor}
use Rattle.mesa_shell.specs.Ports.{Ports}
use Rattle.mesa_shell.specs.Completing.{AsksFor}
use Rattle.mesa_shell.specs.Life.{Stretch, kept_after, kept_at_first, kept_next}
use Rattle.mesa_shell.specs.Lives.{AreCalls, AreRunsOf, Call, IsCall, IsStretch, LivesLaw, disk_after}
use Rattle.mesa_shell.specs.Next.{HasFront, IsSoundWith}
use Rattle.mesa_shell.proofs.Life.{life_law}
use Rattle.mesa_shell.proofs.Next.{HasImages, crash_leaves_front, opens_sound, rest_leaves_front, rest_leaves_sound, run_leaves_sound}

module _ {K D M B : Type 0} (ports : Ports K D M B) (images : (d : D) → HasImages (ports.story d)) where
  abbrev Keeps : D → Kept → Type 0
  Keeps disk kept = IsSoundWith ports.bytes (ports.story disk) kept

  module _ (call : Call K D B) (kept : Kept) (is : IsCall ports call) (sound : Keeps call.given.disk kept) where
    -- behind a call that took no turn the next one finds what there was
    rested : call.done.history.items ≡ [] → Keeps call.next kept
    rested none = elim is.next [
      | inl same ↦
          let left : Keeps call.done.disk (kept_of sound.rows sound.catalogue) = rest_leaves_sound ports call.given call.done (images call.done.disk) call.input call.source_before call.source_now call.asked sound.catalogue sound.rows is.ends none sound.sound (is.goes.0 none, is.goes.1) in
          subst (Keeps call.next) sound.same (subst (λ (d : D). Keeps d (kept_of sound.rows sound.catalogue)) (sym same) left)
      | inr crash ↦
          let stands : StandsFor crash.image (kept_of sound.rows sound.catalogue) =
          rest_leaves_front ports call.given call.done (images call.done.disk) call.input call.source_before call.source_now call.asked sound.catalogue sound.rows is.ends none sound.sound is.goes.1 crash.moment crash.image crash.since crash.until crash.left in
          opens_sound ports.bytes (ports.story call.next) (images call.next) kept crash.image sound.sound.files crash.told crash.only (subst (StandsFor crash.image) sound.same stands)
    ]

    -- behind a run it finds what that came to, or a front of it
    ran : (script : Script) → AsksFor call.asked call.input script → (s : Stretch) × IsStretch ports call s × Keeps call.next (kept_next kept s)
    ran script asks = elim is.next [
      | inl same ↦
          let s : Stretch = record { script = script; turns = call.done.history.items } in
          let left : Keeps call.done.disk (kept_next (kept_of sound.rows sound.catalogue) s) =
          run_leaves_sound ports call.given call.done (images call.done.disk) call.input call.source_before call.source_now call.asked script sound.catalogue sound.rows asks is.ends sound.sound is.goes (is.unclosed script (kept_of sound.rows sound.catalogue) asks) in (
            s,
            record { asks = asks; rest = []; split = sym (append-nil call.done.history.items); has = inl refl },
            subst (λ (k : Kept). Keeps call.next (kept_next k s)) sound.same (subst (λ (d : D). Keeps d (kept_next (kept_of sound.rows sound.catalogue) s)) (sym same) left),
          )
      | inr crash ↦
          let front : HasFront script (kept_of sound.rows sound.catalogue) call.done.history.items crash.moment crash.image =
          crash_leaves_front ports call.given call.done (images call.done.disk) call.input call.source_before call.source_now call.asked script sound.catalogue sound.rows asks is.ends sound.sound is.goes.1 (is.unclosed script (kept_of sound.rows sound.catalogue) asks) crash.moment crash.image crash.since crash.until crash.left in
          let s : Stretch = record { script = script; turns = front.past } in (
            s,
            record { asks = asks; rest = front.rest; split = front.split; has = inr (crash, front.later) },
            opens_sound ports.bytes (ports.story call.next) (images call.next) (kept_next kept s) crash.image sound.sound.files crash.told crash.only (subst (λ (k : Kept). StandsFor crash.image (kept_next k s)) sound.same front.stands),
          )
    ]

  -- ---- calls one after another

  lives : (calls : List (Call K D B)) (disk : D) (kept : Kept) → Keeps disk kept → AreCalls ports disk calls → (life : List Stretch) × AreRunsOf ports calls life × Keeps (disk_after disk calls) (kept_after kept life)
  unfolding disk_after AreCalls AreRunsOf kept_after
  lives [] disk kept sound are = ([], refl, sound)
  lives (call ∷ calls) disk kept sound are =
      let here : Keeps call.given.disk kept = subst (λ (d : D). Keeps d kept) (sym are.0) sound in
      elim are.1.asks [
        | inl none ↦
            let more = lives calls call.next kept (rested call kept are.1 here none) are.2 in
            (more.0, inl (none, more.1), more.2)
        | inr asks ↦
            let one = ran call kept are.1 here asks.0 asks.1 in
            let more = lives calls call.next (kept_next kept one.0) one.2 are.2 in
            (one.0 ∷ more.0, inr (one.0, more.0, refl, one.1, more.1), more.2)
      ]

  pub lives_law : LivesLaw ports
  lives_law disk calls sound are =
      let all = lives calls disk kept_at_first sound are in
      record { life = all.0; runs = all.1; sound = all.2; holds = life_law all.0 }
