-- A range that is looked for among others, which are turned round.
use Rattle.std.proofs.Common.{◌≡◌, inl, inr, ℕ, ◌+◌, ◌<◌, ◌≤◌, List, [], ◌∷◌, ◌++◌, length, Bool, true, false, refl, sym, ◌∙◌, ap, subst, arith, cond, Some, None}
use Rattle.std.specs.Prelude.{◌&&◌, ◌==◌, is_some}
use Rattle.std.proofs.lemmas.Bool.{and_parts, eq-eqb, eqb-true}
use Rattle.std.proofs.lemmas.List.{length-append}
use Rattle.mesa_open_files.specs.declared.made.MadeFile.{MadeFile}
use Rattle.mesa_open_files.specs.declared.recasting.RecastedRange.{RecastedRange}
use Rattle.mesa_file_records.specs.Recasts.{HasFile, IsMade, IsTaken}

-- whether it is the range of these versions, with a file
abbrev is_it : {M : Type 0} → ℕ → ℕ → RecastedRange M → Bool
is_it from to y = (y.from == from) && ((y.to == to) && is_some y.file)

-- how many are before the first such range
abbrev pub steps_to : {M : Type 0} → ℕ → ℕ → List (RecastedRange M) → ℕ
steps_to from to [] = 0
steps_to from to (y ∷ ys) = cond (is_it from to y) 0 (steps_to from to ys + 1)

module _ {M : Type 0} (from to : ℕ) where
  is_there : (y : RecastedRange M) (f : MadeFile M) → y.from ≡ from → y.to ≡ to → y.file ≡ Some f → is_it from to y ≡ true
  is_there y f at_from at_to has = λ i. eq-eqb y.from from at_from i && (eq-eqb y.to to at_to i && is_some (has i))

  -- where the front isn't the range, it is behind
  behind : (y : RecastedRange M) (ys : List (RecastedRange M)) → is_it from to y ≡ false → HasFile (y ∷ ys) from to → HasFile ys from to
  behind y ys none (inl is) = absurd (let never : true ≡ false = sym (is_there y is.2 is.0 is.1 is.3) ∙ none in cc)
  behind y ys none (inr has) = has

  -- and putting others at the end doesn't bring it nearer
  as_far : (ys more : List (RecastedRange M)) → HasFile ys from to → steps_to from to (ys ++ more) ≡ steps_to from to ys
  as_far [] more has = absurd has
  as_far (y ∷ ys) more has = elim (is_it from to y) as (λ b. is_it from to y ≡ b → cond b 0 (steps_to from to (ys ++ more) + 1) ≡ cond b 0 (steps_to from to ys + 1)) [
    | true ↦ λ e. refl
    | false ↦ λ e. ap (λ n. n + 1) (as_far ys more (behind y ys e has))
  ] refl

  isnt_from : (y : RecastedRange M) → ((y.from ≡ from) → (y.to ≡ to) → ⊥) → is_it from to y ≡ false
  isnt_from y other = elim (is_it from to y) as (λ b. is_it from to y ≡ b → b ≡ false) [
    | true ↦ λ e.
        let first = and_parts (y.from == from) ((y.to == to) && is_some y.file) e in
        let last = and_parts (y.to == to) (is_some y.file) first.1 in
        absurd (other (eqb-true y.from from first.0) (eqb-true y.to to last.0))
    | false ↦ λ e. refl
  ] refl

  without : (y : RecastedRange M) → y.file ≡ None → is_it from to y ≡ false
  without y none = elim (is_it from to y) as (λ b. is_it from to y ≡ b → b ≡ false) [
    | true ↦ λ e.
        let first = and_parts (y.from == from) ((y.to == to) && is_some y.file) e in
        let last = and_parts (y.to == to) (is_some y.file) first.1 in
        absurd (let never : true ≡ false = sym last.1 ∙ ap is_some none in cc)
    | false ↦ λ e. refl
  ] refl

  -- Each step brings it nearer.
  pub nearer : (y : RecastedRange M) (ys more : List (RecastedRange M)) → is_it from to y ≡ false → HasFile (y ∷ ys) from to → steps_to from to (ys ++ more) < steps_to from to (y ∷ ys)
  nearer y ys more none has =
      let far = as_far ys more (behind y ys none has) in
      let first : steps_to from to (y ∷ ys) ≡ steps_to from to ys + 1 = ap (λ b. cond b 0 (steps_to from to ys + 1)) none in
      omega (arith, far, first)

-- ---- others

in_front : {M : Type 0} (xs ys : List (RecastedRange M)) (from to : ℕ) → HasFile xs from to → HasFile (xs ++ ys) from to
in_front [] ys from to has = absurd has
in_front (x ∷ xs) ys from to (inl is) = inl is
in_front (x ∷ xs) ys from to (inr has) = inr (in_front xs ys from to has)

at_back : {M : Type 0} (xs ys : List (RecastedRange M)) (from to : ℕ) → HasFile ys from to → HasFile (xs ++ ys) from to
at_back [] ys from to has = has
at_back (x ∷ xs) ys from to has = inr (at_back xs ys from to has)

turned_round : {M : Type 0} (y : RecastedRange M) (ys : List (RecastedRange M)) (from to : ℕ) → HasFile (y ∷ ys) from to → HasFile (ys ++ y ∷ []) from to
turned_round y ys from to (inl is) = at_back ys (y ∷ []) from to (inl is)
turned_round y ys from to (inr has) = in_front ys (y ∷ []) from to has

-- one of those that were put at the end is one of the others, or the last
one_of : {M : Type 0} (z y : RecastedRange M) (ys : List (RecastedRange M)) → IsMade z (ys ++ y ∷ []) → IsMade z (y ∷ ys)
one_of z y [] is = is
one_of z y (x ∷ ys) (inl same) = inr (inl same)
one_of z y (x ∷ ys) (inr is) = by (one_of z y ys is)
  where
    by : IsMade z (y ∷ ys) → IsMade z (y ∷ x ∷ ys)
    by (inl same) = inl same
    by (inr there) = inr (inr there)

-- The range is among these, which are those that were there, turned round: none with a file is lost.
pub record IsTurned {M : Type 0} (old now : List (RecastedRange M)) (from to : ℕ) : Type 0 where
  pub has : HasFile now from to
  pub rest : (z : RecastedRange M) → IsMade z now → IsMade z old
  pub others : (f t : ℕ) → HasFile old f t → HasFile now f t
  pub fewer : length now ≤ length old

module _ {M : Type 0} (old : List (RecastedRange M)) (from to : ℕ) where
  pub unturned : HasFile old from to → IsTurned old old from to
  unturned has = record { has = has; rest = λ z is. is; others = λ f t is. is; fewer = omega arith }

  module _ (left : List (RecastedRange M)) (y : RecastedRange M) (ys : List (RecastedRange M)) (is : left ≡ y ∷ ys) (turned : IsTurned old left from to) where
    here : IsTurned old (y ∷ ys) from to
    here = subst (λ now. IsTurned old now from to) is turned

    -- the front goes to the end
    pub turned_once : ((y.from ≡ from) → (y.to ≡ to) → ⊥) → IsTurned old (ys ++ y ∷ []) from to
    turned_once other = record {
      has = in_front ys (y ∷ []) from to (behind from to y ys (isnt_from from to y other) here.has);
      rest = λ z one. here.rest z (one_of z y ys one);
      others = λ f t had. turned_round y ys f t (here.others f t had);
      fewer = (let few = here.fewer in omega (arith, few, length-append ys (y ∷ [])));
    }

    pub turned_nearer : ((y.from ≡ from) → (y.to ≡ to) → ⊥) → steps_to from to (ys ++ y ∷ []) < steps_to from to left
    turned_nearer other = subst (λ now. steps_to from to (ys ++ y ∷ []) < steps_to from to now) (sym is) (nearer from to y ys (y ∷ []) (isnt_from from to y other) here.has)

    -- one without a file goes
    pub dropped_once : y.file ≡ None → IsTurned old ys from to
    dropped_once none = record {
      has = behind from to y ys (without from to y none) here.has;
      rest = λ z one. here.rest z (inr one);
      others = λ f t had. behind f t y ys (without f t y none) (here.others f t had);
      fewer = (let few = here.fewer in omega (arith, few));
    }

    pub dropped_nearer : y.file ≡ None → steps_to from to ys < steps_to from to left
    dropped_nearer none =
        let all = append_none ys in
        subst (λ now. steps_to from to ys < steps_to from to now) (sym is) (subst (λ more. steps_to from to more < steps_to from to (y ∷ ys)) all (nearer from to y ys [] (without from to y none) here.has))
      where
        append_none : (xs : List (RecastedRange M)) → xs ++ [] ≡ xs
        append_none [] = refl
        append_none (x ∷ xs) = ap (λ (more : List (RecastedRange M)). x ∷ more) (append_none xs)

    -- and the range is taken, with its file
    pub taken_now : (f : MadeFile M) → y.from ≡ from → y.to ≡ to → y.file ≡ Some f → IsTaken old (record { range = y; file = f }) ys
    taken_now f at_from at_to file = record {
      has = file;
      one = here.rest y (inl refl);
      fewer = (let few = here.fewer in omega (arith, few));
      rest = λ z one. here.rest z (inr one);
      others = λ a b other had. behind a b y ys (isnt_from a b y (λ same to_is. other (sym same) (sym to_is))) (here.others a b had);
    }

  -- while the range is among them, there is a front
  pub never_empty : (left : List (RecastedRange M)) → left ≡ [] → IsTurned old left from to → ⊥
  never_empty left none turned = subst (λ now. HasFile now from to) none turned.has
