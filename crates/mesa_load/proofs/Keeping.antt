-- Files that are kept one after another.
use Rattle.std.proofs.Common.{◌≡◌, ℕ, ◌≤◌, List, [], ◌∷◌, ◌++◌, map, Ok, Err, sym, ap, subst, ◌∙◌, arith, append_assoc}
use Rattle.std.specs.Prelude.{Result, IfErr, OnOk}
use Rattle.std.proofs.lemmas.List.{map-append}
use Rattle.mesa_open_files.specs.declared.made.MadeFile.{MadeFile}
use Rattle.mesa_open_files.specs.declared.prepared.LoadError.{LoadError}
use Rattle.mesa_open_files.specs.declared.prepared.LoadError.TheVariants as load
use Rattle.mesa_load.specs.Collected.{IsKept, IsUnwritten, finished, graver}
use Rattle.mesa_load.specs.declared.building.WriteState.{WriteState}
use Rattle.mesa_load.specs.declared.building.WriteState.TheVariants as progress

module _ {M T : Type 0} where
  one_more : (written : List (WriteState M T)) (files more : List (MadeFile M)) (file : WriteState M T) (left : List (WriteState M T))
      → written ≡ map finished files ++ file ∷ left → IsKept files file more → written ≡ map finished more ++ left
  one_more written files more (progress.Finished made) left so_far kept =
      so_far
      ∙ sym (append_assoc (map finished files) (finished made ∷ []) left)
      ∙ ap (λ (fs : List (WriteState M T)). fs ++ left) (sym (ap (map finished) kept ∙ map-append finished files (made ∷ [])))
  one_more written files more (progress.Failed error draft) left so_far kept = absurd kept
  one_more written files more (progress.Begun id draft) left so_far kept = absurd kept
  one_more written files more progress.Lent left so_far kept = absurd kept

  -- the files with one more are those of one draft more
  pub kept_more : {A : Type 0} (written : List (WriteState M T)) (so_far next : Result A LoadError) (files more : List (MadeFile M)) (file : WriteState M T) (left : List (WriteState M T))
      → OnOk so_far (written ≡ map finished files ++ file ∷ left) → OnOk next (IsKept files file more) → OnOk (graver so_far next) (written ≡ map finished more ++ left)
  kept_more written (Err (load.Batch r)) next files more file left was kept = tt
  kept_more written (Err load.Draft) next files more file left was kept = tt
  kept_more written (Err load.Memory) (Ok y) files more file left was kept = tt
  kept_more written (Err load.Memory) (Err e) files more file left was kept = tt
  kept_more written (Ok x) (Err e) files more file left was kept = tt
  kept_more written (Ok x) (Ok y) files more file left was kept = one_more written files more file left was kept

-- nothing failed so far, and nothing does now
pub quiet_more : {A : Type 0} (so_far next : Result A LoadError) (first before now : ℕ) → OnOk so_far (before ≡ first) → OnOk next (now ≡ before) → OnOk (graver so_far next) (now ≡ first)
quiet_more (Err (load.Batch r)) next first before now was is = tt
quiet_more (Err load.Draft) next first before now was is = tt
quiet_more (Err load.Memory) (Ok y) first before now was is = tt
quiet_more (Err load.Memory) (Err e) first before now was is = tt
quiet_more (Ok x) (Err e) first before now was is = tt
quiet_more (Ok x) (Ok y) first before now was is = is ∙ was

-- a draft's fault stays, and want of memory does as long as no draft fails
pub refused_more : {A : Type 0} (so_far next : Result A LoadError) (first before now : ℕ) → OnOk so_far (before ≡ first) → IfErr so_far (IsUnwritten first before) → before ≤ now → OnOk next (now ≡ before) → IfErr next (IsUnwritten before now)
    → IfErr (graver so_far next) (IsUnwritten first now)
refused_more (Err (load.Batch r)) next first before now quiet refused later same one = refused
refused_more (Err load.Draft) next first before now quiet refused later same one = omega (arith, later, refused)
refused_more (Err load.Memory) (Ok x) first before now quiet refused later same one = same ∙ refused
refused_more (Err load.Memory) (Err e) first before now quiet refused later same one = subst (λ (n : ℕ). IsUnwritten n now e) refused one
refused_more (Ok x) next first before now quiet refused later same one = subst (λ (n : ℕ). IfErr next (IsUnwritten n now)) quiet one
