-- What a verdict says of the store that was checked.
use Rattle.std.proofs.Common.{◌≡◌, inl, inr, ⊎_elim, ◌≤◌, ℕ, List, sym, ◌∙◌, ap, subst, arith, refl, Option, Some, None}
use Rattle.std.specs.Prelude.{◌↔◌}
use Rattle.mesa_disk.specs.Image.{Image}
use Rattle.mesa_disk.specs.Story.{Story}
use Rattle.mesa_parse.specs.declared.forms.Form.TheVariants as form
use Rattle.mesa_engine.specs.mesa_commit.Images.{Has}
use Rattle.mesa_session.specs.mesa_history_spec.Rows.{Rows}
use Rattle.mesa_engine.specs.mesa_store_spec.Catalog.{Catalog}
use Rattle.mesa_engine.specs.mesa_store_spec.Fitting.{live_files}
use Rattle.mesa_engine.specs.mesa_store_spec.Sound.{HaveSoundRows, IsSound, wants}
use Rattle.mesa_recover.specs.declared.error.OpenError.{OpenError}
use Rattle.mesa_recover.specs.declared.error.OpenError.TheVariants as open_error
use Rattle.mesa_recover.specs.Opening.{IsSoundStart, ReadsAs}
use Rattle.mesa_check.specs.Faults.{Fault}
use Rattle.mesa_check.specs.Verdict.{IsFirstFault}
use Rattle.mesa_shell.specs.Ports.{Ports}
use Rattle.mesa_shell.specs.ExitLines.{verdict_status}
use Rattle.mesa_shell.specs.Exit.{EndedReading, Ends, EndsCheck, HasLooked, Prints}
use Rattle.mesa_shell.specs.Completing.{Decides, IsUndamaged, NoneRose}
use Rattle.mesa_shell.specs.declared.done.Devices.{Devices}
use Rattle.mesa_shell.specs.declared.done.Done.{Done}
use Rattle.mesa_shell.proofs.Journals.{same_catalog}
use Rattle.mesa_shell.proofs.Readable.{reads_same, sound_fits, sound_whole}
use Rattle.mesa_shell.proofs.Undamaged.{sound_undamaged}

pub low_verdict : (fault : Option Fault) → verdict_status fault ≤ 1
low_verdict None = omega arith
low_verdict (Some f) = omega arith

-- ---- there is no fault exactly where what is read is sound

none_low : (fault : Option Fault) → verdict_status fault ≡ 0 → fault ≡ None
none_low None is = refl
none_low (Some f) is = absurd (omega (arith, is))

module _ (story : Story) (c : Catalog) (fault : Option Fault) (reads : ReadsAs story c) (first : IsFirstFault story c fault) (i : Image) (told : story.told ≡ Some i) where
  faultless_sound : fault ≡ None → IsSound i
  faultless_sound none =
      let s = first.sound i told none in
      record { bodies = reads.1; catalogue = c; rows = s.0; is = record { live = reads.0; end = reads.2; journal = reads.3.journal i told; records = reads.3.records; files = s.1; rows_are = s.2 } }

  sound_faultless : IsSound i → fault ≡ None
  sound_faultless s =
      let same : s.catalogue ≡ c = same_catalog i s.is.live reads.0 s.bodies reads.1 s.is.end reads.2 s.catalogue c s.is.journal (reads.3.journal i told) s.is.records reads.3.records in
      first.unsound i told (s.rows, subst (λ (k : Catalog). Has (wants s.rows (live_files k)) i) same s.is.files, subst (λ (k : Catalog). HaveSoundRows s.rows k) same s.is.rows_are)

-- The status of a verdict is 0 exactly there.
pub sound_exactly : (story : Story) (c : Catalog) (fault : Option Fault) (status : ℕ) → status ≡ verdict_status fault → ReadsAs story c → IsFirstFault story c fault → (i : Image) → story.told ≡ Some i → (status ≡ 0) ↔ IsSound i
sound_exactly story c fault status is reads first i told = (
  λ zero. faultless_sound story c fault reads first i told (none_low fault (sym is ∙ zero)),
  λ sound. is ∙ ap verdict_status (sound_faultless story c fault reads first i told sound),
)

-- ---- where nothing fails

module _ {K D M B : Type 0} (ports : Ports K D M B) (g : Devices K D B) (done : Done K D B) (still : NoneRose ports g done) where
  printed : (status : ℕ) (line : List ℕ) → Prints ports g done status line → done.status ≡ status
  printed status line prints = ⊎_elim (λ p. p.0) (λ p. absurd (still.sink p.1)) prints

  unread : IsUndamaged (ports.story g.disk) → (e : OpenError) → (e ≡ open_error.RunsFull → ⊥) → EndedReading ports g done e → Decides done
  unread is open_error.Fault other p = absurd (⊎_elim still.disk still.reads p.0.reason)
  unread is (open_error.Journal area at want found) other p = absurd (⊎_elim (is.whole p.0.reason.0 at want found) (is.fitting p.0.reason.0 at want found) (p.0.reason.2 is.image is.told))
  unread is (open_error.File d) other p = absurd (is.files d (p.0.reason.0 is.image is.told))
  unread is open_error.RunsFull other p = absurd (other refl)
  unread is open_error.Memory other p = inr (printed _ _ p.1.2)

  check_decides : IsUndamaged (ports.story g.disk) → EndsCheck ports g done → Decides done
  check_decides is ends = elim ends [
    | inl p ↦ unread is p.0 p.1 p.2
    | inr p ↦ inl (let status = printed _ _ p.2.ended.2 in let low = low_verdict p.1 in omega (arith, status, low))
  ]

  looked_decides : (c : Catalog) (rows : Rows) (name : List ℕ) → IsSoundStart (ports.story g.disk) c rows → (d : Catalog) → HasLooked ports g done d name → Decides done
  looked_decides c rows name start d h = elim h.ended [
    | inl p ↦ inl (let status = printed _ _ p.1.2 in omega (arith, status))
    | inr rest ↦ elim rest [
      | inl p ↦ inl (let status = printed _ _ p.2.2 in omega (arith, status))
      | inr more ↦ elim more [
        | inl p ↦ absurd (p.2.never rows (subst (λ x. IsSoundStart (ports.story g.disk) x rows) (reads_same (ports.story g.disk) c d rows start h.reads) start))
        | inr p ↦ inl (let status = printed _ _ p.5.2 in omega (arith, status))
      ]
    ]
  ]

  sound_unread : (c : Catalog) (rows : Rows) → IsSoundStart (ports.story g.disk) c rows → (e : OpenError) → (e ≡ open_error.RunsFull → ⊥) → EndedReading ports g done e → Decides done
  sound_unread c rows s open_error.Fault other p = absurd (⊎_elim still.disk still.reads p.0.reason)
  sound_unread c rows s (open_error.Journal area at want found) other p =
      absurd (⊎_elim (sound_whole s.image s.bodies c rows p.0.reason.0 at want found s.sound) (sound_fits s.image s.bodies c rows p.0.reason.0 at want found s.sound) (p.0.reason.2 s.image s.told))
  sound_unread c rows s (open_error.File d) other p = absurd (sound_undamaged s.image s.bodies c rows s.sound d (p.0.reason.0 s.image s.told))
  sound_unread c rows s open_error.RunsFull other p = absurd (other refl)
  sound_unread c rows s open_error.Memory other p = inr (printed _ _ p.1.2)

  -- A name that is looked up in a sound store is refused, or has its digests printed, or memory was short.
  pub looks : (name : List ℕ) (c : Catalog) (rows : Rows) (input : Option (List ℕ)) (before now : ℕ) → IsSoundStart (ports.story g.disk) c rows → Ends ports g done (Some (form.Digest name)) input before now → Decides done
  looks name c rows input before now s ends = elim ends [
    | inl p ↦ elim p.1 [
      | inl q ↦ sound_unread c rows s q.0 q.1 q.2
      | inr q ↦ looked_decides c rows name s q.0 q.1
    ]
    | inr p ↦ inr (printed _ _ p.1.1.2)
  ]

  -- A check of a store that isn't damaged comes to a verdict, or memory was short.
  pub decides : (input : Option (List ℕ)) (before now : ℕ) → IsUndamaged (ports.story g.disk) → Ends ports g done (Some form.Check) input before now → Decides done
  decides input before now is ends = elim ends [
    | inl p ↦ check_decides is p.1
    | inr p ↦ inr (printed _ _ p.1.1.2)
  ]
