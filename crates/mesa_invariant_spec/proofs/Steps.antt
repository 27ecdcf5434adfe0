-- The invariant with one entry more: three lemmas, by what the turn's device work did.
use Rattle.std.proofs.Common.{◌≡◌, ◌⊎◌, inl, inr, ⊎_elim, ℕ, ◌+◌, ◌<◌, ◌≤◌, List, [], ◌∷◌, ◌++◌, Bool, true, false, not, ◌||◌, IsTrue, refl, sym, ◌∙◌, ap, subst, arith, Option}
use Rattle.std.proofs.lemmas.Bool.Decides.{leb_tells}
use Rattle.mesa_disk.specs.mesa_io.Causes.{last}
use Rattle.mesa_disk.specs.Image.{Image}
use Rattle.mesa_disk.specs.Story.{Story, Elapses, Unmoved, Spans}
use Rattle.mesa_history_spec.specs.mesa_model.declared.entries.Entry.{Entry}
use Rattle.mesa_history_spec.specs.mesa_model.Entry.{IsShort}
use Rattle.mesa_history_spec.specs.Run.{Run, begins}
use Rattle.mesa_history_spec.specs.Replay.{Turned, turned, told_by, closes, stood, is_skipped, last_of, go}
use Rattle.mesa_history_spec.specs.Legal.{Fits, fits_sink}
use Rattle.mesa_history_spec.specs.Found.{Kept, kept_of, kept_in, Found}
use Rattle.mesa_history_spec.specs.Counting.{one_if, is_disk_fault}
use Rattle.mesa_history_spec.specs.Refused.{some_refused, tells_refusal}
use Rattle.mesa_history_spec.proofs.More.{runs_more, fit_more, state_after, moment_after, last_after, kept_after, kept_in_is}
use Rattle.mesa_history_spec.proofs.Counting.{count_more}
use Rattle.mesa_history_spec.proofs.Refusing.{refused_more}
use Rattle.mesa_history_spec.proofs.Finding.{all_more, all_later, still, without, with_it, as_tried, unchanged}
use Rattle.mesa_invariant_spec.specs.Books.{Books, AreBooksOf}
use Rattle.mesa_invariant_spec.specs.Printing.{Prints}
use Rattle.mesa_invariant_spec.specs.Invariant.{Outset, run_of, IsAtClock, AllFound, HasCounted, faults_in, HoldsInvariant, Counts, StandsForEither, AllStand, HasLaws, Passes}
use Rattle.mesa_invariant_spec.proofs.Pieces.{shown_more}
use Rattle.mesa_invariant_spec.proofs.Printed.{printed_more, sink_more}

-- What a turn of a vault is, whatever its device work did.
pub record IsStep (o : Outset) (sound : Bool) (h : List Entry) (e : Entry) (made : Turned) (running now : Bool) (held new_held : Option (List ℕ)) : Type 0 where
  pub is : turned o.script (run_of o h) e ≡ made
  pub fits : Fits o.script (run_of o h) e
  pub short : IsShort e
  pub skipped : is_skipped e ≡ not running
  pub prints : Prints sound e made.told running now held new_held

-- ---- faults

counted_more : (counted answered : ℕ) (old new : Story) (answers : Bool) → old.moment ≤ new.moment → Counts old new answers → HasCounted counted old answered → HasCounted counted new (answered + one_if answers)
counted_more counted answered old new false later c was low below under =
    let had = was (omega (arith, later, low)) (omega (arith, below, c.faults)) (omega (arith, under, c.reads)) in omega (arith, had, c.faults, c.reads)
counted_more counted answered old new true later c was low below under =
    let had = was (omega (arith, later, low)) (omega (arith, below, c.faults)) (omega (arith, under, c.reads)) in
    ⊎_elim (λ a. omega (arith, had, c.faults, c.reads, a, below)) (λ b. omega (arith, had, c.faults, c.reads, b, under)) (c.rose low refl)

-- ---- time goes on by one turn that moves the disk

lt_or_le : (a b : ℕ) → (a < b) ⊎ (b ≤ a)
lt_or_le a b = ⊎_elim (λ yes. inr yes.1) (λ no. inl no.1) (leb_tells b a)

found_step : (F G : ℕ → Image → Type 0) (P : Image → Type 0) (old new : Story) (m since : ℕ) → Elapses P old new → HasLaws old new → old.moment < new.moment → m ≡ new.moment → new.moment < last
    → ((t : ℕ) (c : Image) → since ≤ t → t ≤ old.moment → old.may_have_left t c → F t c)
    → ((t : ℕ) (c : Image) → t < m → F t c → G t c)
    → ((t : ℕ) (c : Image) → t < m → old.may_leave c → G t c)
    → ((t : ℕ) (c : Image) → t < m → P c → G t c)
    → ((c : Image) → new.may_leave c → G m c)
    → (t : ℕ) (c : Image) → since ≤ t → t ≤ new.moment → new.may_have_left t c → G t c
found_step F G P old new m since run laws higher m_is below was still_ now here final t c begun le left =
    ⊎_elim
    (λ early. ⊎_elim
    (λ past. ⊎_elim (λ had. now t c early (laws.only_old c (omega (arith, higher, below)) had)) (here t c early) (run.nothing_else old.moment c (omega arith) (laws.earlier old.moment t c (omega (arith, past)) left)))
    (λ not_past. ⊎_elim (λ had. still_ t c early (was t c begun not_past had)) (here t c early) (run.nothing_else t c not_past left))
    (lt_or_le old.moment t))
    (λ late. let is : t ≡ m = omega (arith, le, late, m_is) in
    subst (λ (s : ℕ). G s c) (sym is) (final c (laws.only_new c below (subst (λ (s : ℕ). new.may_have_left s c) (is ∙ m_is) left))))
    (lt_or_le t m)

-- ---- one entry more

module _ (o : Outset) (sound : Bool) (books : Books) (old : Story) (held : Option (List ℕ)) (h : List Entry) (running refused : Bool) (v : HoldsInvariant o sound books old held h running refused) where
  abbrev r : Run
  r = run_of o h

  abbrev b : Run
  b = begins o.start

  module _ (e : Entry) (made : Turned) (now : Bool) (new_held : Option (List ℕ)) (step : IsStep o sound h e made running now held new_held) where
    more : run_of o (h ++ e ∷ []) ≡ go o.script r e
    more = runs_more o.script b h e

    state_is : (run_of o (h ++ e ∷ [])).state ≡ made.state
    state_is = ap (λ (x : Run). x.state) more ∙ state_after o.script r e ∙ ap (λ (t : Turned). t.state) step.is

    told_is : told_by o.script r e ≡ made.told
    told_is = ap (λ (t : Turned). t.told) step.is

    kept_now : kept_in (go o.script r e) ≡ kept_of made.state
    kept_now = kept_after o.script r e ∙ ap (λ (t : Turned). kept_of t.state) step.is

    last_is : (run_of o (h ++ e ∷ [])).last ≡ last_of (is_skipped e) made.told
    last_is = ap (λ (x : Run). x.last) more ∙ last_after o.script r e ∙ ap (last_of (is_skipped e)) told_is

    -- all but what is found
    with_entry : (after : Books) (new : Story) → old.moment ≤ new.moment → e.moment ≡ new.moment → Counts old new (is_disk_fault r e) → AreBooksOf sound after made.state → (IsTrue sound → AllFound o (h ++ e ∷ []) new)
        → HoldsInvariant o sound after new new_held (h ++ e ∷ []) now (refused || tells_refusal made.told)
    with_entry after new later moment counts state found = record {
      state = subst (AreBooksOf sound after) (sym state_is) state;
      legal = fit_more o.script b h e v.legal step.fits;
      short = all_more IsShort h e v.short step.short;
      by = all_more _ h e (all_later h old.moment new.moment later v.by) (omega (arith, moment));
      at = subst (λ m. IsAtClock m new.moment) (sym (ap (λ (x : Run). x.moment) more ∙ moment_after o.script r e)) moment;
      begun = omega (arith, v.begun, later);
      sink = subst (λ l. IsTrue (fits_sink l (not now))) (sym last_is) (sink_more sound e made.told running now held new_held step.skipped step.prints);
      told = (λ i. v.told i || tells_refusal made.told) ∙ sym (refused_more o.script b h e ∙ ap (λ t. some_refused o.script b h || tells_refusal t) told_is);
      counts = subst (HasCounted o.counted new) (sym (count_more is_disk_fault o.script b h e)) (counted_more o.counted (faults_in o h) old new (is_disk_fault r e) later counts v.counts);
      shown = shown_more sound o.script b h e made.told running now o.at_start held new_held told_is v.shown step.prints;
      printed = λ ok low. printed_more sound o.script b h e made.told running now o.at_start held new_held ok (omega (arith, moment, low)) told_is (v.printed ok (omega (arith, later, low))) step.prints;
      found = found;
    }

    -- An entry that moves nothing on the disk, and keeps what a store keeps, whatever the books become.
    pub quiet : (after : Books) (new : Story) → Unmoved old new → Counts old new (is_disk_fault r e) → e.moment ≡ old.moment → AreBooksOf sound after made.state → kept_of made.state ≡ kept_of r.state
        → HoldsInvariant o sound after new new_held (h ++ e ∷ []) now (refused || tells_refusal made.told)
    quiet after new same counts moment state kept =
        let unmoved : kept_in (go o.script r e) ≡ kept_in r = kept_now ∙ kept ∙ sym (kept_in_is r) in
        with_entry after new (omega (arith, same.moment)) (moment ∙ sym same.moment) counts state
        (λ ok below t c begun le left.
        let had = v.found ok (omega (arith, same.moment, below)) t c begun (omega (arith, same.moment, le)) ((same.may_have_left t c).0 left) in
        ⊎_elim (λ early. still o.stands o.script b h e t c early had) (λ late. unchanged o.stands o.script b h e t c (all_later h old.moment t (omega (arith, late, moment)) v.by) unmoved had) (lt_or_le t e.moment))

    module _ (new : Story) (passes : Passes old new) (counts : Counts old new (is_disk_fault r e)) (moment : e.moment ≡ new.moment)
        (had_old : IsTrue sound → old.moment < last → AllStand o.stands old (kept_of r.state)) where
      abbrev F : ℕ → Image → Type 0
      F t c = Found o.stands o.script b h t c

      abbrev G : ℕ → Image → Type 0
      G t c = Found o.stands o.script b (h ++ e ∷ []) t c

      -- An entry whose device work wrote what it makes.
      pub wrote : (after : Books) → AreBooksOf sound after made.state → (IsTrue sound → new.moment < last → Spans (StandsForEither o.stands (kept_of r.state) (kept_of made.state)) old new) → (IsTrue sound → new.moment < last → AllStand o.stands new (kept_of made.state))
          → HoldsInvariant o sound after new new_held (h ++ e ∷ []) now (refused || tells_refusal made.told)
      wrote after state spans done =
          with_entry after new passes.later moment counts state
          (λ ok below t c begun le left.
          found_step F G (StandsForEither o.stands (kept_of r.state) (kept_of made.state)) old new e.moment o.since (spans ok below).run passes.laws (omega (arith, passes.rose, below)) moment below
          (v.found ok (omega (arith, passes.later, below)))
          (λ u d early found. still o.stands o.script b h e u d early found)
          (λ u d early left'. without o.stands o.script b h e u d (kept_of r.state) early (had_old ok (omega (arith, passes.later, below)) d left') (sym (kept_in_is r)))
          (λ u d early from. ⊎_elim (λ one. without o.stands o.script b h e u d (kept_of r.state) early one (sym (kept_in_is r))) (λ one. with_it o.stands o.script b h e u d (kept_of made.state) one (sym kept_now)) from)
          (λ d left'. with_it o.stands o.script b h e e.moment d (kept_of made.state) (done ok below d left') (sym kept_now))
          t c begun le left)

      -- An entry whose device work failed, which closes; what it tried is what it would have made had it stood.
      pub tried : (after : Books) (aim : Kept) → AreBooksOf sound after made.state → kept_of made.state ≡ kept_of r.state → closes r.moment e ≡ true → (IsTrue sound → aim ≡ kept_in (go o.script r (stood e)))
          → (IsTrue sound → new.moment < last → Spans (StandsForEither o.stands (kept_of r.state) aim) old new) → HoldsInvariant o sound after new new_held (h ++ e ∷ []) now (refused || tells_refusal made.told)
      tried after aim state kept closing aim_is spans =
          let unmoved : kept_of r.state ≡ kept_in (go o.script r e) = sym kept ∙ sym kept_now in
          let had : IsTrue sound → old.moment < last → (u : ℕ) (d : Image) → old.may_leave d → G u d = λ ok low u d left'. with_it o.stands o.script b h e u d (kept_of r.state) (had_old ok low d left') unmoved in
          let either : IsTrue sound → (u : ℕ) (d : Image) → StandsForEither o.stands (kept_of r.state) aim d → G u d = λ ok u d from. ⊎_elim (λ one. with_it o.stands o.script b h e u d (kept_of r.state) one unmoved) (λ one. as_tried o.stands o.script b h e u d aim closing one (aim_is ok)) from in
          with_entry after new passes.later moment counts state
          (λ ok below t c begun le left.
          found_step F G (StandsForEither o.stands (kept_of r.state) aim) old new e.moment o.since (spans ok below).run passes.laws (omega (arith, passes.rose, below)) moment below
          (v.found ok (omega (arith, passes.later, below)))
          (λ u d early found. still o.stands o.script b h e u d early found)
          (λ u d early left'. had ok (omega (arith, passes.later, below)) u d left')
          (λ u d early from. either ok u d from)
          (λ d left'. either ok e.moment d ((spans ok below).left d left'))
          t c begun le left)
