-- What is told of a recast's ranges is what its record is made of, and they cover the table.
use Rattle.std.proofs.Common.{◌≡◌, ℕ, zero, suc, ◌+◌, ◌-◌, ◌<◌, ◌≤◌, List, [], ◌∷◌, ◌++◌, replicate, Bool, true, false, refl, sym, ◌∙◌, ap, subst, arith, cond, Option, Some, None}
use Rattle.std.specs.Prelude.{◌&&◌, ◌==◌, IfSome}
use Rattle.std.specs.List.{AllByRecursion}
use Rattle.std.proofs.lemmas.Bool.{eq-eqb, ne_eqb}
use Rattle.mesa_record.specs.declared.record.Files.{Files}
use Rattle.mesa_record.specs.declared.checkpoint.CheckpointSingle.{CheckpointSingle}
use Rattle.mesa_record.specs.declared.recasting.RecastBase.{RecastBase}
use Rattle.mesa_engine.specs.mesa_store_spec.Catalog.{Delta, Ending, empty_delta}
use Rattle.mesa_engine.specs.mesa_store_spec.Rewritten.{AreCovered, IsCoveredAt, Rewritten, base_rewritten, files_at, files_rewritten, files_with, rewritten_at, single_at, single_rewritten, single_with, singles_rewritten}
use Rattle.mesa_catalog_table.specs.Meaning.{AreLoaded, singles_from}
use Rattle.mesa_catalog_table.specs.declared.table.Loaded.{Loaded}
use Rattle.mesa_file_records.specs.Recasts.{AreSinglesRewritten, IsBaseRewritten, IsEndingRewritten, IsSingleRewritten, single_in, singles_in}

-- ---- where a range is found

and_false : (a : Bool) → (a && false) ≡ false
and_false true = refl
and_false false = refl

-- behind those of lower versions
abbrev AreBelow : ℕ → List Rewritten → Type 0
AreBelow version made = AllByRecursion (λ (x : Rewritten). x.to < version) made

found_past : (from to : ℕ) (made rest : List Rewritten) → AreBelow to made → rewritten_at from to (made ++ rest) ≡ rewritten_at from to rest
found_past from to [] rest below = refl
found_past from to (x ∷ made) rest below =
    let other : (x.to == to) ≡ false = ne_eqb x.to to (λ same. let less = below.0 in omega (arith, same, less)) in
    ap (λ b. cond ((x.from == from) && b) (Some x) (rewritten_at from to (made ++ rest))) other
    ∙ ap (λ b. cond b (Some x) (rewritten_at from to (made ++ rest))) (and_false (x.from == from)) ∙ found_past from to made rest below.1

found_here : (from to : ℕ) (x : Rewritten) (rest : List Rewritten) → x.from ≡ from → x.to ≡ to → rewritten_at from to (x ∷ rest) ≡ Some x
found_here from to x rest at_from at_to = λ i. cond (eq-eqb x.from from at_from i && eq-eqb x.to to at_to i) (Some x) (rewritten_at from to rest)

-- ---- the base

ending_is : (to : ℕ) (files : Option Files) (made more : List Rewritten) (b : Option RecastBase) → IsEndingRewritten to files made b → b ≡ Some (record { to = to; files = files_rewritten 0 to (made ++ more) files })
ending_is to None [] more b is = is
ending_is to None (x ∷ made) more b is = absurd is
ending_is to (Some f) [] more b is = absurd is
ending_is to (Some f) (x ∷ made) more b is =
    is.5 ∙ ap (λ (o : Option Files). Some (record { to = to; files = o })) (sym (ap (files_at f.views) (found_here 0 to x (made ++ more) is.3 is.4) ∙ ap (files_with f.views) is.2))

pub base_is : (old : Option Ending) (made more : List Rewritten) (b : Option RecastBase) → IsBaseRewritten old made b → b ≡ base_rewritten (made ++ more) old
base_is None [] more b is = is
base_is None (x ∷ made) more b is = absurd is
base_is (Some e) made more b is = ending_is e.to e.delta.files made more b is

ending_covered : (to : ℕ) (files : Option Files) (made more : List Rewritten) (b : Option RecastBase) → IsEndingRewritten to files made b → IsCoveredAt 0 to (made ++ more) files
ending_covered to None made more b is = tt
ending_covered to (Some f) [] more b is = absurd is
ending_covered to (Some f) (x ∷ made) more b is = (x, is.1, found_here 0 to x (made ++ more) is.3 is.4, is.2)

pub base_covered : (old : Option Ending) (made more : List Rewritten) (b : Option RecastBase) → IsBaseRewritten old made b → IfSome old (λ (e : Ending). IsCoveredAt 0 e.to (made ++ more) e.delta.files)
base_covered None made more b is = tt
base_covered (Some e) made more b is = ending_covered e.to e.delta.files made more b is

ending_below : (to version : ℕ) (files : Option Files) (made : List Rewritten) (b : Option RecastBase) → to < version → IsEndingRewritten to files made b → AreBelow version made
ending_below to version None [] b lt is = tt
ending_below to version None (x ∷ made) b lt is = absurd is
ending_below to version (Some f) [] b lt is = tt
ending_below to version (Some f) (x ∷ made) b lt is = (omega (arith, lt, is.4), subst (AreBelow version) (sym is.0) tt)

-- its versions are below the singletons'
pub base_below : (version : ℕ) (old : Option Ending) (made : List Rewritten) (b : Option RecastBase) → IfSome old (λ (e : Ending). e.to < version) → IsBaseRewritten old made b → AllByRecursion (λ (x : Rewritten). x.to < version) made
base_below version None [] b lt is = tt
base_below version None (x ∷ made) b lt is = absurd is
base_below version (Some e) made b lt is = ending_below e.to version e.delta.files made b lt is

-- ---- singletons

-- versions that brought nothing
empties_pass : (epoch version n : ℕ) (made : List Rewritten) (ds : List Delta) → singles_rewritten epoch version made (replicate n empty_delta ++ ds) ≡ singles_rewritten epoch (version + n) made ds
empties_pass epoch version zero made ds = ap (λ v. singles_rewritten epoch v made ds) (let e : version ≡ version + 0 = omega arith in e)
empties_pass epoch version (suc n) made ds = empties_pass epoch (version + 1) n made ds ∙ ap (λ v. singles_rewritten epoch v made ds) (let e : version + 1 + n ≡ version + suc n = omega arith in e)

empties_bring : (epoch version n : ℕ) (made : List Rewritten) → singles_rewritten epoch version made (replicate n empty_delta) ≡ []
empties_bring epoch version zero made = refl
empties_bring epoch version (suc n) made = empties_bring epoch (version + 1) n made

empties_covered : (version n : ℕ) (made : List Rewritten) → AreCovered version made (replicate n empty_delta)
empties_covered version zero made = tt
empties_covered version (suc n) made = (tt, empties_covered (version + 1) n made)

covered_behind : (version n : ℕ) (made : List Rewritten) (ds : List Delta) → AreCovered (version + n) made ds → AreCovered version made (replicate n empty_delta ++ ds)
covered_behind version zero made ds is = subst (λ v. AreCovered v made ds) (let e : version + 0 ≡ version = omega arith in e) is
covered_behind version (suc n) made ds is = (tt, covered_behind (version + 1) n made ds (subst (λ v. AreCovered v made ds) (let e : version + suc n ≡ version + 1 + n = omega arith in e) is))

lower : (low high : ℕ) (made : List Rewritten) → low ≤ high → AreBelow low made → AreBelow high made
lower low high [] le below = tt
lower low high (x ∷ made) le below = ((let lt = below.0 in omega (arith, lt, le)), lower low high made le below.1)

below_more : (version : ℕ) (made : List Rewritten) (x : Rewritten) → AreBelow version made → x.to < version → AreBelow version (made ++ x ∷ [])
below_more version [] x below lt = (lt, tt)
below_more version (y ∷ made) x below lt = (below.0, below_more version made x below.1 lt)

joined : (made rest : List Rewritten) (x : Rewritten) → (made ++ x ∷ []) ++ rest ≡ made ++ x ∷ rest
joined [] rest x = refl
joined (y ∷ made) rest x = ap (λ (more : List Rewritten). y ∷ more) (joined made rest x)

-- What is told of singletons is what the record says of them, and they are covered.
pub record AreThese (epoch version : ℕ) (made : List Rewritten) (ds : List Delta) (ss : List CheckpointSingle) : Type 0 where
  pub told : ss ≡ singles_rewritten epoch version made ds
  pub covered : AreCovered version made ds

-- behind versions that brought nothing
these_behind : (epoch version n at : ℕ) (made : List Rewritten) (ds : List Delta) (ss : List CheckpointSingle) → version + n ≡ at → AreThese epoch at made ds ss → AreThese epoch version made (replicate n empty_delta ++ ds) ss
these_behind epoch version n at made ds ss same is = record {
  told = is.told ∙ ap (λ v. singles_rewritten epoch v made ds) (sym same) ∙ sym (empties_pass epoch version n made ds);
  covered = covered_behind version n made ds (subst (λ v. AreCovered v made ds) (sym same) is.covered);
}

module _ (epoch : ℕ) where
  module _ (l : Loaded) (sources : List (ℕ × Files)) (rest : List Delta)
      (go : (before xs : List Rewritten) (ss : List CheckpointSingle) → AreBelow (l.version + 1) before → AreSinglesRewritten epoch sources xs ss → AreThese epoch (l.version + 1) (before ++ xs) rest ss) where
    -- a version with rows, before the others
    with_rows : (f : Files) → l.delta.value.files ≡ Some f → (before xs : List Rewritten) (ss : List CheckpointSingle) → AreBelow l.version before → AreSinglesRewritten epoch ((l.version, f) ∷ sources) xs ss → AreThese epoch l.version (before ++ xs) (l.delta.value ∷ rest) ss
    with_rows f some before [] ss below is = absurd is
    with_rows f some before (x ∷ xs) [] below is = absurd is
    with_rows f some before (x ∷ xs) (s ∷ ss) below is =
        let one : IsSingleRewritten epoch l.version f x s = is.0 in
        let found : rewritten_at l.version l.version (before ++ x ∷ xs) ≡ Some x = found_past l.version l.version before (x ∷ xs) below ∙ found_here l.version l.version x xs one.from one.to in
        let others : AreThese epoch (l.version + 1) (before ++ x ∷ xs) rest ss =
        subst (λ (made : List Rewritten). AreThese epoch (l.version + 1) made rest ss) (joined before xs x)
        (go (before ++ x ∷ []) xs ss (below_more (l.version + 1) before x (lower l.version (l.version + 1) before (omega arith) below) (let same = one.to in omega (arith, same))) is.1) in
        let here : s ∷ [] ≡ single_rewritten epoch l.version (before ++ x ∷ xs) (Some f) =
        ap (λ (y : CheckpointSingle). y ∷ []) one.told ∙ sym (ap (single_at epoch l.version f.views) found ∙ ap (single_with epoch l.version f.views x.totals) one.has) in
        record {
          told = (λ i. here i ++ others.told i) ∙ ap (λ (o : Option Files). single_rewritten epoch l.version (before ++ x ∷ xs) o ++ singles_rewritten epoch (l.version + 1) (before ++ x ∷ xs) rest) (sym some);
          covered = (subst (IsCoveredAt l.version l.version (before ++ x ∷ xs)) (sym some) (x, one.file, found, one.has), others.covered);
        }

    one_is : (files : Option Files) → l.delta.value.files ≡ files → (before xs : List Rewritten) (ss : List CheckpointSingle) → AreBelow l.version before → AreSinglesRewritten epoch (single_in l.version files ++ sources) xs ss → AreThese epoch l.version (before ++ xs) (l.delta.value ∷ rest) ss
    one_is None none before xs ss below is =
        let others = go before xs ss (lower l.version (l.version + 1) before (omega arith) below) is in
        record {
          told = others.told ∙ ap (λ (o : Option Files). single_rewritten epoch l.version (before ++ xs) o ++ singles_rewritten epoch (l.version + 1) (before ++ xs) rest) (sym none);
          covered = (subst (IsCoveredAt l.version l.version (before ++ xs)) (sym none) tt, others.covered);
        }
    one_is (Some f) some before xs ss below is = with_rows f some before xs ss below is

  pub singles_are : (version next : ℕ) (loaded : List Loaded) (before xs : List Rewritten) (ss : List CheckpointSingle) → AreLoaded version next loaded → AllByRecursion (λ (x : Rewritten). x.to < version) before → AreSinglesRewritten epoch (singles_in loaded) xs ss
      → AreThese epoch version (before ++ xs) (singles_from version next loaded) ss
  singles_are version next [] before [] [] rise below is = record { told = sym (empties_bring epoch version (next - version) (before ++ [])); covered = empties_covered version (next - version) (before ++ []) }
  singles_are version next [] before [] (s ∷ ss) rise below is = absurd is
  singles_are version next [] before (x ∷ xs) ss rise below is = absurd is
  singles_are version next (l ∷ loaded) before xs ss rise below is =
      let rest = singles_from (l.version + 1) next loaded in
      these_behind epoch version (l.version - version) l.version (before ++ xs) (l.delta.value ∷ rest) ss (let le = rise.0 in omega (arith, le))
      (one_is l (singles_in loaded) rest (λ more ys ts low its. singles_are (l.version + 1) next loaded more ys ts rise.2 low its) l.delta.value.files refl before xs ss (lower version l.version before rise.0 below) is)
