use Rattle.std.proofs.Common.{◌≡◌, inl, inr, ◌≤◌, ℕ, [], ◌∷◌, List, length, drop, refl, sym, ◌∙◌, subst, ap, arith}
use Rattle.std.proofs.lemmas.Bool.{cases_eq}
use Rattle.mesa_disk.specs.Image.{Image, area_of, Torn, InArea, AnyChange}
use Rattle.mesa_disk.specs.Story.{Story, Steps, After, Follows}
use Rattle.mesa_disk.specs.declared.area.Area.{Area}
use Rattle.mesa_disk.proofs.Run.{starts, goes_on, told_changed}
use Rattle.mesa_journal.specs.Areas.{MayClose, Closes}
use Rattle.mesa_journal.proofs.writing.close_gate.Goals as goal

-- an area that begins with any byte, behind which all is as it was behind an open gate
opened : (rest new : List ℕ) → length (1 ∷ rest) ≤ length new → drop 1 new ≡ drop 1 (1 ∷ rest) → Closes (1 ∷ rest) new
opened rest [] long after = absurd (omega (arith, long))
opened rest (gate ∷ more) long after =
    let same : more ≡ rest = after in
    elim (cases_eq gate 1) [
      | inl open_still ↦ inr (ap (λ (g : ℕ). g ∷ more) open_still ∙ ap (λ (l : List ℕ). 1 ∷ l) same)
      | inr shut ↦ inl (inr (record { gate = gate; rest = more; shut = shut; split = refl; fit = tt; ends = refl }))
    ]

first_gate : (old new : List ℕ) → MayClose old → Torn 0 1 old new → Closes old new
first_gate old new (inl short) torn = inl (inl (record { short = omega (arith, torn.no_longer, short); none = refl; ends = refl }))
first_gate old new (inr opens) torn =
    let was = opens.1 in
    subst (λ o. Closes o new) (sym was)
    (opened opens.0 new (omega (arith, torn.no_shorter, ap length was)) (torn.after ∙ ap (λ (l : List ℕ). drop 1 l) was))

torn_first : (start : Story) (new : Image → Type 0) (area : Area) → ((c : Image) → start.may_leave c → MayClose (area_of area c))
    → Follows (InArea area (Torn 0 1)) start.may_leave new → (c : Image) → new c → After (InArea area Closes) start.may_leave c
torn_first start new area may crash c left =
    let from = crash c left in
    (from.0, from.1, record { bytes = from.2.bytes; stepped = first_gate _ _ (may from.0 from.1) from.2.stepped; same = from.2.same })

pub returns-in_err-journal_write-clause-any_moment : goal.returns-in_err-journal_write-clause-any_moment
returns-in_err-journal_write-clause-any_moment g c short =
    let story = g.D.Disk.story in
    let start = story c.args.disk.now in
    let left = torn_first start (story c.journal_write.new.self).may_leave c.args.area short c.journal_write.ensures.crash in
    goes_on _ _ start start (story c.journal_write.new.self) (starts _ start) c.journal_write.ensures.time left

pub returns-clause-any_moment : goal.returns-clause-any_moment
returns-clause-any_moment g c short =
    let story = g.D.Disk.story in
    let start = story c.args.disk.now in
    let left = torn_first start (story c.journal_write.new.self).may_leave c.args.area short c.journal_write.ensures.crash in
    let run = goes_on _ _ start start (story c.journal_write.new.self) (starts _ start) c.journal_write.ensures.time left in
    goes_on _ _ start (story c.journal_write.new.self) (story c.journal_sync.new.self) run c.journal_sync.ensures.time (λ x now. left x (c.journal_sync.ensures.crash x now))

pub returns-in_err-journal_write-clause-left : goal.returns-in_err-journal_write-clause-left
returns-in_err-journal_write-clause-left g c short =
    let story = g.D.Disk.story in
    torn_first (story c.args.disk.now) (story c.journal_write.new.self).may_leave c.args.area short c.journal_write.ensures.crash

pub returns-clause-left : goal.returns-clause-left
returns-clause-left g c short x now =
    let story = g.D.Disk.story in
    torn_first (story c.args.disk.now) (story c.journal_write.new.self).may_leave c.args.area short c.journal_write.ensures.crash x (c.journal_sync.ensures.crash x now)

pub returns-in_err-journal_write-clause-told : goal.returns-in_err-journal_write-clause-told
returns-in_err-journal_write-clause-told g c = told_changed c.args.area _ _ _ c.journal_write.ensures.torn

pub returns-clause-told : goal.returns-clause-told
returns-clause-told g c =
    let story = g.D.Disk.story in
    let first = told_changed c.args.area _ _ (story c.journal_write.new.self).told c.journal_write.ensures.torn in
    subst (λ t. Steps (AnyChange c.args.area) (story c.args.disk.now).told t) (sym c.journal_sync.ensures.told) first
