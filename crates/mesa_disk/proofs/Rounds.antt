-- Runs of calls that each add or remove a file.
use Rattle.std.proofs.Common.{◌≡◌, ◌≢◌, inl, inr, ℕ, List, [], ◌∷◌, ◌++◌, length, take, drop, Option, Some, cond, false, refl, sym, ◌∙◌, ap, subst, arith, append_assoc, take-append-drop}
use Rattle.std.proofs.lemmas.List.{take_all, take_at}
use Rattle.std.specs.Ordering.{nat_cmp, eq_by_cmp, is_eq}
use Rattle.std.specs.declared.cmp.Ordering.TheVariants.{Less, Equal, Greater}
use Rattle.std.specs.FinMap.{get-insert, nat_cmp-IsAntisymmetric}
use Rattle.std.specs.Cmp.{nat_cmp_total}
use Rattle.mesa_disk.specs.Image.{Image, file_of, Adopts, May}
use Rattle.mesa_disk.specs.Story.{Story, Steps, After, Follows, Elapses}
use Rattle.mesa_disk.specs.Files.{InTurn, InTurnFor, AreAbsent, HasOtherIds}
use Rattle.mesa_disk.proofs.Run.{goes_on}

pub push : {A : Type 0} (step : A → Image → Image → Type 0) (xs : List A) (x : A) (i j k : Image) → InTurn step xs i j → step x j k → InTurn step (xs ++ x ∷ []) i k
push step [] x i j k run next = (k, subst (λ (m : Image). step x m k) run next, refl)
push step (y ∷ xs) x i j k run next = (run.0, run.1, push step xs x run.0 j k run.2 next)

-- weaker steps
pub each : {A : Type 0} (step other : A → Image → Image → Type 0) → ((x : A) (i j : Image) → step x i j → other x i j) → (xs : List A) (i j : Image) → InTurn step xs i j → InTurn other xs i j
each step other weaker [] i j run = run
each step other weaker (x ∷ xs) i j run = (run.0, weaker x i run.0 run.1, each step other weaker xs run.0 j run.2)

-- none of the rest
pub idle : {A : Type 0} (step : A → Image → Image → Type 0) (xs ys : List A) (i j : Image) → InTurn (May step) xs i j → InTurn (May step) (xs ++ ys) i j
idle step [] [] i j run = run
idle step [] (y ∷ ys) i j run = (i, inl refl, idle step [] ys i j run)
idle step (x ∷ xs) ys i j run = (run.0, run.1, idle step xs ys run.0 j run.2)

-- all of them are the first few
pub first_all : {A : Type 0} (step : A → Image → Image → Type 0) (xs : List A) (i j : Image) → InTurn step xs i j → InTurnFor step xs i j
first_all step xs i j run = (length xs, subst (λ ys. InTurn step ys i j) (sym (take_all (length xs) xs (omega arith))) run)

-- the first few are some of them
pub first_some : {A : Type 0} (step : A → Image → Image → Type 0) (xs : List A) (i j : Image) → InTurnFor step xs i j → InTurn (May step) xs i j
first_some step xs i j run =
    subst (λ ys. InTurn (May step) ys i j) (take-append-drop run.0 xs)
    (idle step (take run.0 xs) (drop run.0 xs) i j (each step (May step) (λ x k l is. inr is) (take run.0 xs) i j run.1))

-- those that were done, and one more that was done or not
pub first_tried : {A : Type 0} (step : A → Image → Image → Type 0) (done : List A) (x : A) (rest : List A) (i j k : Image) → InTurn step done i j → May step x j k → InTurnFor step (done ++ x ∷ rest) i k
first_tried step done x rest i j k run (inl same) =
    (length done, subst (λ ys. InTurn step ys i k) (sym (take_at done (x ∷ rest) (length done) refl)) (subst (λ (l : Image). InTurn step done i l) (sym same) run))
first_tried step done x rest i j k run (inr is) =
    let more = done ++ x ∷ [] in
    let front : take (length more) (done ++ x ∷ rest) ≡ more = ap (take (length more)) (sym (append_assoc done (x ∷ []) rest)) ∙ take_at more rest (length more) refl in
    (length more, subst (λ ys. InTurn step ys i k) (sym front) (push step done x i j k run is))

-- some of those that were tried, and one more that was done or not
pub some_tried : {A : Type 0} (step : A → Image → Image → Type 0) (done : List A) (x : A) (rest : List A) (i j k : Image) → InTurn (May step) done i j → May step x j k → InTurn (May step) (done ++ x ∷ rest) i k
some_tried step done x rest i j k run is = subst (λ xs. InTurn (May step) xs i k) (append_assoc done (x ∷ []) rest) (idle step (done ++ x ∷ []) rest i k (push (May step) done x i j k run is))

pub steps_weaker : (R Q : Image → Image → Type 0) → ((i j : Image) → R i j → Q i j) → (old new : Option Image) → Steps R old new → Steps Q old new
steps_weaker R Q weaker old new is = record {
  on = λ i e. let to = is.on i e in (to.0, to.1, weaker i to.0 to.2);
  back = λ j e. let from = is.back j e in (from.0, from.1, weaker from.0 j from.2);
}

pub steps_push : {A : Type 0} (step : A → Image → Image → Type 0) (xs : List A) (x : A) (old mid new : Option Image) → Steps (InTurn step xs) old mid → Steps (step x) mid new → Steps (InTurn step (xs ++ x ∷ [])) old new
steps_push step xs x old mid new run next = record {
  on = λ i e. let a = run.on i e in let b = next.on a.0 a.1 in (b.0, b.1, push step xs x i a.0 b.0 a.2 b.2);
  back = λ k e. let b = next.back k e in let a = run.back b.0 b.1 in (a.0, a.1, push step xs x a.0 b.0 k a.2 b.2);
}

pub follows_push : {A : Type 0} (step : A → Image → Image → Type 0) (xs : List A) (x : A) (old mid new : Image → Type 0) → Follows (InTurn step xs) old mid → Follows (step x) mid new → Follows (InTurn step (xs ++ x ∷ [])) old new
follows_push step xs x old mid new run next c left =
    let b = next c left in
    let a = run b.0 b.1 in
    (a.0, a.1, push step xs x a.0 b.0 c a.2 b.2)

-- how far a run has come: the steps that were done, of all; `image_step` is what a step that succeeds does to the images, and `part` what a crash leaves of all
pub record Moving {A : Type 0} (step image_step : A → Image → Image → Type 0) (part : List A → Image → Image → Type 0) (done rest : List A) (start now : Story) : Type 0 where
  pub told : Steps (InTurn step done) start.told now.told
  pub left : Follows (InTurn image_step done) start.may_leave now.may_leave
  pub run : Elapses (After (part (done ++ rest)) start.may_leave) start now

pub nothing_done : {A : Type 0} (step image_step : A → Image → Image → Type 0) (part : List A → Image → Image → Type 0) (all : List A) (start : Story) → Moving step image_step part [] all start start
nothing_done step image_step part all start = record {
  told = record { on = λ i e. (i, e, refl); back = λ j e. (j, e, refl) };
  left = λ c now. (c, now, refl);
  run = record { later = omega arith; nothing_else = λ t c le left. inl left; keeps = λ t c le left. left };
}

module _ {A : Type 0} (step image_step : A → Image → Image → Type 0) (part : List A → Image → Image → Type 0) (may : (x : A) (i j : Image) → image_step x i j → May step x i j) (done : List A) (x : A) (rest : List A)
    (tries : (i j k : Image) → InTurn image_step done i j → May step x j k → part (done ++ x ∷ rest) i k) (start mid now : Story) (moving : Moving step image_step part done (x ∷ rest) start mid) where
  -- the images after a step that was tried
  pub tried : Follows (May step x) mid.may_leave now.may_leave → Follows (part (done ++ x ∷ rest)) start.may_leave now.may_leave
  tried crash c left =
      let b = crash c left in
      let a = moving.left b.0 b.1 in
      (a.0, a.1, tries a.0 b.0 c a.2 b.2)

  pub run_tried : Follows (May step x) mid.may_leave now.may_leave → Elapses now.may_leave mid now → Elapses (After (part (done ++ x ∷ rest)) start.may_leave) start now
  run_tried crash time = goes_on _ now.may_leave start mid now moving.run time (tried crash)

  pub told_tried : Steps (May step x) mid.told now.told → Steps (InTurnFor step (done ++ x ∷ rest)) start.told now.told
  told_tried told = record {
    on = λ i e. let a = moving.told.on i e in let b = told.on a.0 a.1 in (b.0, b.1, first_tried step done x rest i a.0 b.0 a.2 b.2);
    back = λ k e. let b = told.back k e in let a = moving.told.back b.0 b.1 in (a.0, a.1, first_tried step done x rest a.0 b.0 k a.2 b.2);
  }

  pub one_more : Steps (step x) mid.told now.told → Follows (image_step x) mid.may_leave now.may_leave → Elapses now.may_leave mid now → Moving step image_step part (done ++ x ∷ []) rest start now
  one_more told crash time = record {
    told = steps_push step done x _ _ _ moving.told told;
    left = follows_push image_step done x _ _ _ moving.left crash;
    run = subst (λ xs. Elapses (After (part xs) start.may_leave) start now) (sym (append_assoc done (x ∷ []) rest))
        (run_tried (λ c left. let from = crash c left in (from.0, from.1, may x from.0 c from.2)) time);
  }

-- another number isn't tied
pub not_equal : (q id : ℕ) → q ≢ id → eq_by_cmp nat_cmp q id ≡ false
not_equal q id other =
    elim (nat_cmp q id) as (λ r. nat_cmp q id ≡ r → is_eq r ≡ false) [
      | Less ↦ λ e. refl
      | Equal ↦ λ e. absurd (other (nat_cmp-IsAntisymmetric q id e))
      | Greater ↦ λ e. refl
    ] refl

-- a file of another id
pub other_file : (id q : ℕ) (made : Option (List ℕ)) (i j : Image) → q ≢ id → Adopts (id, made) i j → file_of j q ≡ file_of i q
other_file id q made i j other is =
    ap (λ (k : Image). file_of k q) is.same
    ∙ get-insert nat_cmp_total i.files id is.bytes q
    ∙ ap (λ b. cond b (Some is.bytes) (file_of i q)) (not_equal q id other)

pub still_absent : (id : ℕ) (made : Option (List ℕ)) (files : List (ℕ × Option (List ℕ))) (i j : Image) → HasOtherIds id files → Adopts (id, made) i j → AreAbsent files i → AreAbsent files j
still_absent id made [] i j others is absent = tt
still_absent id made (file ∷ files) i j others is absent = (other_file id file.0 made i j others.0 is ∙ absent.0, still_absent id made files i j others.1 is absent.1)
