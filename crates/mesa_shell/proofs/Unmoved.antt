-- An opening's first part moves no image: what is said of the disk that it leaves is so of the one that it was given.
use Rattle.std.proofs.Common.{◌≡◌, ⊎_elim, inl, inr, ℕ, ◌<◌, List, ◌∙◌, subst, arith}
use Rattle.mesa_io.specs.Causes.{last, Rose}
use Rattle.mesa_disk.specs.Image.{Image}
use Rattle.mesa_disk.specs.Story.{Story, Unmoved}
use Rattle.mesa_disk.specs.declared.area.Area.{Area}
use Rattle.mesa_session.specs.mesa_history_spec.Rows.{Rows}
use Rattle.mesa_engine.specs.mesa_store_spec.Catalog.{Catalog}
use Rattle.mesa_recover.specs.declared.error.OpenError.{OpenError}
use Rattle.mesa_recover.specs.declared.error.OpenError.TheVariants as open_error
use Rattle.mesa_recover.specs.Opening.{HasReason, IsRead, IsSoundStart, Keeps}

module _ (old now : Story) (still : Unmoved old now) where
  pub read_before : (live : Area) (bodies : List (List ℕ)) (end : ℕ) (c : Catalog) → IsRead now live bodies end c → IsRead old live bodies end c
  read_before live bodies end c r = record {
    bytes = r.bytes;
    records = r.records;
    journal = λ i told. r.journal i (still.told ∙ told);
    files = λ i told. r.files i (still.told ∙ told);
    gate = λ long. let len = still.len live in (let past = r.gate (omega (arith, len, long)) in omega (arith, len, past));
    none = λ short. let len = still.len live in r.none (omega (arith, len, short));
  }

  pub sound_after : (c : Catalog) (rows : Rows) → IsSoundStart old c rows → IsSoundStart now c rows
  sound_after c rows s = record {
    image = s.image;
    told = still.told ∙ s.told;
    bodies = s.bodies;
    sound = s.sound;
    left = λ x may. s.left x ((still.may_leave x).0 may);
  }

  pub keeps_before : (later : Story) → Keeps now later → Keeps old later
  keeps_before later keeps c rows s below t x from to left = let at = still.moment in keeps c rows (sound_after c rows s) below t x (omega (arith, at, from)) to left

  -- where below its last value the clock has no other moment since now
  pub keeps_unmoved : ((x : Image) → now.moment < last → now.may_have_left now.moment x → now.may_leave x) → Keeps old now
  keeps_unmoved only c rows s below t x from to left =
      let at = still.moment in
      let same : t ≡ now.moment = omega (arith, at, from, to) in
      s.left x ((still.may_leave x).0 (only x below (subst (λ m. now.may_have_left m x) same left)))

  pub reason_before : (later : Story) (e : OpenError) → now.faults ≡ old.faults → now.read_faults ≡ old.read_faults → HasReason now later e → HasReason old later e
  reason_before later open_error.Fault faults reads p =
      ⊎_elim (λ rose. inl (subst (λ n. Rose n later.faults) faults rose)) (λ rose. inr (subst (λ n. Rose n later.read_faults) reads rose)) p
  reason_before later (open_error.Journal area at want found) faults reads p = (p.0, p.1, λ i told. p.2 i (still.told ∙ told), p.3)
  reason_before later (open_error.File d) faults reads p = (λ i told. p.0 i (still.told ∙ told), p.1)
  reason_before later open_error.RunsFull faults reads p = (p.0, (p.1.0, p.1.1, p.1.2, read_before p.1.0 p.1.1 p.1.2 p.0 p.1.3), p.2)
  reason_before later open_error.Memory faults reads p = tt
