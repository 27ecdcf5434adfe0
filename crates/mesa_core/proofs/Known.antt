-- Files of which the same is known: their rows merge to the same.
use Rattle.std.proofs.Common.{◌≡◌, ◌∙◌, ℕ, List, [], ◌∷◌, map, refl, sym, ap, subst, Option, None, Some}
use Rattle.mesa_recast_turns.specs.mesa_columns.declared.rows.Row.{Row}
use Rattle.mesa_recast_turns.specs.mesa_schema.Changes.{epoch_of, lifted}
use Rattle.mesa_recast_turns.specs.mesa_columns.Columns.{Columns, aggs_of}
use Rattle.mesa_open_files.specs.mesa_fold.Folded.{folded}
use Rattle.mesa_delta.specs.Reading.{IsIndexed}
use Rattle.mesa_delta.specs.declared.input.Input.{Input}
use Rattle.mesa_recast_turns.specs.mesa_merge.Inputs.{Known, known_of, knowns_of}
use Rattle.mesa_open_files.specs.Inputs.{AreTold, IsMergeOf, present_parts}

-- ---- lists

pub cons_none : {X : Type 0} (x : X) (xs : List X) → x ∷ xs ≡ [] → ⊥
cons_none x xs same = absurd cc

pub first_same : {X : Type 0} (x y : X) (xs ys : List X) → x ∷ xs ≡ y ∷ ys → x ≡ y
first_same x y xs ys same = cc

pub rest_same : {X : Type 0} (x y : X) (xs ys : List X) → x ∷ xs ≡ y ∷ ys → xs ≡ ys
rest_same x y xs ys same = cc

pub none_some : {X : Type 0} (x : X) → None ≡ Some x → ⊥
none_some x is = absurd cc

pub some_same : {X : Type 0} (x y : X) → Some x ≡ Some y → x ≡ y
some_same x y is = cc

module _ {R : Type 0} (bytes : R → Option (List ℕ)) where
  pub told_back : (old new : List (Input R)) (parts : List (List Row)) → knowns_of bytes new ≡ knowns_of bytes old → AreTold bytes new parts → AreTold bytes old parts
  told_back [] [] parts known told = told
  told_back [] (n ∷ new) parts known told = absurd (cons_none _ _ known)
  told_back (o ∷ old) [] parts known told = absurd (cons_none _ _ (sym known))
  told_back (o ∷ old) (n ∷ new) [] known told = told
  told_back (o ∷ old) (n ∷ new) (rows ∷ parts) known told =
      let same : known_of bytes n ≡ known_of bytes o = first_same _ _ _ _ known in
      (subst (λ (k : Known). (b : List ℕ) × (k.told ≡ Some b) × IsIndexed k.file rows b) same told.0, told_back old new parts (rest_same _ _ _ _ known) told.1)

  pub same_lifted : (old new : List (Input R)) (parts : List (List Row)) → knowns_of bytes new ≡ knowns_of bytes old → present_parts old parts ≡ present_parts new parts
  same_lifted [] [] parts known = refl
  same_lifted [] (n ∷ new) parts known = absurd (cons_none _ _ known)
  same_lifted (o ∷ old) [] parts known = absurd (cons_none _ _ (sym known))
  same_lifted (o ∷ old) (n ∷ new) [] known = refl
  same_lifted (o ∷ old) (n ∷ new) (rows ∷ parts) known =
      let same : known_of bytes o ≡ known_of bytes n = sym (first_same _ _ _ _ known) in
      λ j. map (λ (row : Row). lifted (same j).table (same j).epoch (epoch_of (same j).table) row) rows ∷ same_lifted old new parts (rest_same _ _ _ _ known) j

  pub merge_stays : (s : Columns) (old new : List (Input R)) (rows : List Row) → knowns_of bytes new ≡ knowns_of bytes old → IsMergeOf bytes s old rows → IsMergeOf bytes s new rows
  merge_stays s old new rows known merge = λ parts told. merge parts (told_back old new parts known told) ∙ ap (folded (aggs_of s)) (same_lifted old new parts known)
