-- Readers of one list of files for several parts.
use Rattle.std.proofs.Common.{◌≡◌, ℕ, List, [], ◌∷◌, ◌++◌, length, refl, sym, subst, false, Option, Some, None}
use Rattle.std.specs.Prelude.{flat_map}
use Rattle.std.specs.List.{AllByRecursion}
use Rattle.mesa_file.specs.declared.damage.Damage.{Damage}
use Rattle.mesa_disk.specs.Image.{Image}
use Rattle.mesa_disk.specs.Story.{Story}
use Rattle.mesa_query.specs.mesa_scan.Cursors.{reader_in}
use Rattle.mesa_delta.specs.declared.input.Input.{Input}
use Rattle.mesa_open_files.specs.GivingBack.{GivesBack, spare_inputs}
use Rattle.mesa_open_files.specs.Opening.{Counted, HaveOpened}
use Rattle.mesa_open_files.specs.Spares.{HasSpares, IsSpareOf}
use Rattle.mesa_open_files.specs.declared.merging.Spare.{Spare}
use Rattle.mesa_open_files.specs.declared.merging.Task.{Task}
use Rattle.mesa_open_files.specs.declared.opening.Wanted.{Wanted}
use Rattle.mesa_open_files.proofs.Counts.{counted_none, counted_then}
use Rattle.mesa_open_files.proofs.Openings.{opened_fresh}
use Rattle.mesa_open_files.proofs.Retired.{all_append}
use Rattle.mesa_open_files.proofs.Spares.{spares_opened}
use Rattle.mesa_pick_files.specs.Parts.{AreReaders}

-- damage is there or not
pub damaged_not : (o : Option Damage) (d : Damage) → o ≡ Some d → o ≡ None → ⊥
damaged_not o d some none = cc

pub none_damaged : (d : Damage) → ◌≡◌ {A = Option Damage} None (Some d) → ⊥
none_damaged d is = cc

-- readers that haven't failed are given back without a count
pub counted_back : {R : Type 0} (faults : R → ℕ) (is : List (Input R)) (a b : Story) → AllByRecursion (λ (i : Input R). faults (reader_in i) ≡ 0) is → GivesBack faults is a b → Counted a b false
counted_back faults is a b fresh back = counted_then a a b false (counted_none a) back.calls (back.quiet fresh)

module _ {R : Type 0} (bytes : R → Option (List ℕ)) (faults : R → ℕ) (told : Option Image) (ws : List Wanted) where
  abbrev IsFresh : Input R → Type 0
  IsFresh i = faults (reader_in i) ≡ 0

  -- what was opened hasn't failed
  pub readers_fresh : (d : Option Damage) (s : Spare R) → AreReaders bytes faults told ws d s → AllByRecursion IsFresh (spare_inputs s)
  readers_fresh d s are = opened_fresh bytes faults told ws s.inputs.items d are

  spares_fresh : (ss : List (Spare R)) → AllByRecursion (AreReaders bytes faults told ws None) ss → AllByRecursion IsFresh (flat_map spare_inputs ss)
  spares_fresh [] all = tt
  spares_fresh (s ∷ ss) all = all_append IsFresh (spare_inputs s) (flat_map spare_inputs ss) (readers_fresh None s all.0) (spares_fresh ss all.1)

  pub both_fresh : (s : Spare R) (ss : List (Spare R)) → AreReaders bytes faults told ws None s → AllByRecursion (AreReaders bytes faults told ws None) ss → AllByRecursion IsFresh (spare_inputs s ++ flat_map spare_inputs ss)
  both_fresh s ss first all = all_append IsFresh (spare_inputs s) (flat_map spare_inputs ss) (readers_fresh None s first) (spares_fresh ss all)

  -- one more
  pub readers_more : (ss : List (Spare R)) (s : Spare R) → AllByRecursion (AreReaders bytes faults told ws None) ss → AreReaders bytes faults told ws None s → AllByRecursion (AreReaders bytes faults told ws None) (ss ++ s ∷ [])
  readers_more ss s all one = all_append (AreReaders bytes faults told ws None) ss (s ∷ []) all (one, tt)

  -- ---- further readers are spare ones

  spares_of : (t : Task R) (ss : List (Spare R)) → HaveOpened bytes faults told ws t.inputs.items None → AllByRecursion (AreReaders bytes faults told ws None) ss → AllByRecursion (IsSpareOf bytes t) ss
  spares_of t [] opened all = tt
  spares_of t (s ∷ ss) opened all = (spares_opened bytes faults told ws t.inputs.items s.inputs.items opened all.0, spares_of t ss opened all.1)

  each_of : (t : Task R) (d : Option Damage) → t.damage ≡ d → HaveOpened bytes faults told ws t.inputs.items d → AllByRecursion (AreReaders bytes faults told ws None) t.spare.items
      → ((x : Damage) → d ≡ Some x → t.spare.items ≡ []) → AllByRecursion (IsSpareOf bytes t) t.spare.items
  each_of t None is opened all none = spares_of t t.spare.items opened all
  each_of t (Some x) is opened all none = subst (AllByRecursion (IsSpareOf bytes t)) (sym (none x refl)) tt

  -- a task with the readers of all parts
  pub parts_spare : (more : ℕ) (t : Task R) → AreReaders bytes faults told ws t.damage (record { inputs = t.inputs }) → AllByRecursion (AreReaders bytes faults told ws None) t.spare.items
      → (t.damage ≡ None → length t.spare.items ≡ more) → ((x : Damage) → t.damage ≡ Some x → t.spare.items ≡ []) → HasSpares bytes more t
  parts_spare more t first spare counted none = record { each = each_of t t.damage refl first spare none; count = counted; none = none }
