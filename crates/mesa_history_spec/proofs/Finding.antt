-- What a crash may have left, with one entry more at the history's end.
use Rattle.std.proofs.Common.{◌≡◌, inl, inr, ⊎_elim, ℕ, ◌<◌, ◌≤◌, List, [], ◌∷◌, ◌++◌, true, refl, sym, ◌∙◌, ap, subst, arith, append_assoc, append-nil}
use Rattle.std.specs.List.{AllByRecursion}
use Rattle.mesa_script.specs.mesa_model.declared.commands.Script.{Script}
use Rattle.mesa_script.specs.mesa_model.declared.entries.Entry.{Entry}
use Rattle.mesa_history_spec.specs.Run.{Run}
use Rattle.mesa_history_spec.specs.Replay.{closes, stood, go, runs}
use Rattle.mesa_history_spec.specs.Found.{Kept, kept_in, WasTried, Found}
use Rattle.mesa_history_spec.proofs.More.{runs_more}

-- the moments of these entries are at most t
abbrev pub AllBy : List Entry → ℕ → Type 0
AllBy h t = AllByRecursion (λ e. e.moment ≤ t) h

pub all_more : (P : Entry → Type 0) (xs : List Entry) (x : Entry) → AllByRecursion P xs → P x → AllByRecursion P (xs ++ x ∷ [])
all_more P [] x all one = (one, tt)
all_more P (y ∷ xs) x all one = (all.0, all_more P xs x all.1 one)

pub all_later : (xs : List Entry) (a b : ℕ) → a ≤ b → AllBy xs a → AllBy xs b
all_later [] a b le all = tt
all_later (x ∷ xs) a b le all = (omega (arith, le, all.0), all_later xs a b le all.1)

module _ {Image : Type 0} (stands : Image → Kept → Type 0) (script : Script) (start : Run) (h : List Entry) (e : Entry) where
  abbrev now : Run
  now = runs script start h

  -- what was tried stays so
  tried_still : (kept : Kept) → WasTried script start h kept → WasTried script start (h ++ e ∷ []) kept
  tried_still kept w = record { past = w.past; entry = w.entry; rest = w.rest ++ e ∷ []; split = ap (λ l. l ++ e ∷ []) w.split ∙ append_assoc w.past (w.entry ∷ w.rest) (e ∷ []); closing = w.closing; same = w.same }

  -- a later entry takes nothing from what was found
  pub still : (t : ℕ) (image : Image) → t < e.moment → Found stands script start h t image → Found stands script start (h ++ e ∷ []) t image
  still t image later found = record {
    kept = found.kept;
    is = found.is;
    how = ⊎_elim
        (λ s. inl (record { past = s.past; rest = s.rest ++ e ∷ []; split = ap (λ l. l ++ e ∷ []) s.split ∙ append_assoc s.past s.rest (e ∷ []); later = all_more _ s.rest e s.later later; same = s.same }))
        (λ w. inr (tried_still found.kept w)) found.how;
  }

  -- an image of the state without the entry
  pub without : (t : ℕ) (image : Image) (kept : Kept) → t < e.moment → stands image kept → kept ≡ kept_in now → Found stands script start (h ++ e ∷ []) t image
  without t image kept later is same = record { kept = kept; is = is; how = inl (record { past = h; rest = e ∷ []; split = refl; later = (later, tt); same = same }) }

  -- an image of the state with it
  pub with_it : (t : ℕ) (image : Image) (kept : Kept) → stands image kept → kept ≡ kept_in (go script now e) → Found stands script start (h ++ e ∷ []) t image
  with_it t image kept is same = record { kept = kept; is = is; how = inl (record { past = h ++ e ∷ []; rest = []; split = sym (append-nil _); later = tt; same = same ∙ ap kept_in (sym (runs_more script start h e)) }) }

  -- an image of what the entry tried, where it closes
  pub as_tried : (t : ℕ) (image : Image) (kept : Kept) → closes now.moment e ≡ true → stands image kept → kept ≡ kept_in (go script now (stood e)) → Found stands script start (h ++ e ∷ []) t image
  as_tried t image kept closing is same = record { kept = kept; is = is; how = inr (record { past = h; entry = e; rest = []; split = refl; closing = closing; same = same }) }

  none_later : (rest : List Entry) (t : ℕ) → AllByRecursion (λ x. t < x.moment) rest → AllBy rest t → rest ≡ []
  none_later [] t later by = refl
  none_later (x ∷ rest) t later by = absurd (omega (arith, later.0, by.0))

  all_behind : (past rest : List Entry) (t : ℕ) → AllBy (past ++ rest) t → AllBy rest t
  all_behind [] rest t by = by
  all_behind (x ∷ past) rest t by = all_behind past rest t by.1

  -- an entry that changes nothing that is kept, at a time behind all entries before it
  pub unchanged : (t : ℕ) (image : Image) → AllBy h t → kept_in (go script now e) ≡ kept_in now → Found stands script start h t image → Found stands script start (h ++ e ∷ []) t image
  unchanged t image by same found = ⊎_elim
      (λ s. let none : s.rest ≡ [] = none_later s.rest t s.later (all_behind s.past s.rest t (subst (λ l. AllBy l t) s.split by)) in
      let all : h ≡ s.past = s.split ∙ ap (λ l. s.past ++ l) none ∙ append-nil s.past in
      with_it t image found.kept found.is (s.same ∙ ap (λ l. kept_in (runs script start l)) (sym all) ∙ sym same))
      (λ w. record { kept = found.kept; is = found.is; how = inr (tried_still found.kept w) }) found.how
