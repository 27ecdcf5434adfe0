-- What stays adopted.
use Rattle.std.proofs.Common.{◌≡◌, ◌≢◌, ◌⊎◌, inl, inr, ⊎_elim, ℕ, zero, suc, ◌<◌, ◌≤◌, List, [], ◌∷◌, Option, None, refl, ◌∙◌, ap, subst, arith}
use Rattle.std.specs.List.{AllByRecursion}
use Rattle.mesa_disk.specs.Image.{Image, file_of}
use Rattle.mesa_disk.specs.Story.{Steps}
use Rattle.mesa_disk.specs.Files.{HasOtherIds, IsNoneOf}
use Rattle.mesa_commit.specs.Images.{Has}
use Rattle.mesa_commit.specs.Turn.{MovesOnly, made_ids}
use Rattle.mesa_commit.specs.Holding.{Among}
use Rattle.mesa_commit.specs.Filed.{AreFresh, AreNamedOrWait, AreGiven, AreMoved}

-- an id that was given before isn't among those given now
pub given_before : (id next next' : ℕ) (made : List (ℕ × Option (List ℕ))) → AreGiven next next' made → id < next → HasOtherIds id made
given_before id next next' [] given before = tt
given_before id next next' (f ∷ made) given before = ((λ (same : f.0 ≡ id). let at : next ≤ f.0 = given.0.0 in omega (arith, same, at, before)), given_before id next next' made given.1 before)

pub given_later : (id next next' : ℕ) (made : List (ℕ × Option (List ℕ))) → AreGiven next next' made → next' ≤ id → HasOtherIds id made
given_later id next next' [] given later = tt
given_later id next next' (f ∷ made) given later = ((λ (same : f.0 ≡ id). let at : f.0 < next' = given.0.1 in omega (arith, same, at, later)), given_later id next next' made given.1 later)

pub not_among : (id : ℕ) (ids : List ℕ) → (Among id ids → ⊥) → IsNoneOf ids id
not_among id [] none = tt
not_among id (d ∷ ids) none = ((λ same. none (inl same)), not_among id ids (λ is. none (inr is)))

-- either it is one of these, or none of them
made_or_not : (id : ℕ) (made : List (ℕ × Option (List ℕ))) → Among id (made_ids made) ⊎ HasOtherIds id made
made_or_not id [] = inr tt
made_or_not id (f ∷ made) = ⊎_elim (λ same. inl (inl same)) (λ other. ⊎_elim (λ is. inl (inr is)) (λ more. inr (other, more)) (made_or_not id made)) (same_or_not f.0 id)
  where
    same_or_not : (a b : ℕ) → (a ≡ b) ⊎ (a ≢ b)
    same_or_not zero zero = inl refl
    same_or_not zero (suc b) = inr (λ same. omega (arith, same))
    same_or_not (suc a) zero = inr (λ same. omega (arith, same))
    same_or_not (suc a) (suc b) = ⊎_elim (λ same. inl (ap suc same)) (λ other. inr (λ same. other (omega (arith, same)))) (same_or_not a b)

-- a pin's files: they were given before, and none of them is removed
pub pin_stays : (files : List (ℕ × List ℕ)) (made : List (ℕ × Option (List ℕ))) (dropped : List ℕ) (i j : Image) → MovesOnly made dropped i j → AllByRecursion (λ (w : ℕ × List ℕ). HasOtherIds w.0 made × IsNoneOf dropped w.0) files → Has files i → Has files j
pin_stays [] made dropped i j moves apart has = tt
pin_stays (w ∷ files) made dropped i j moves apart has = (moves.others w.0 apart.0.0 apart.0.1 ∙ has.0, pin_stays files made dropped i j moves apart.1 has.1)

pub had_apart : (files : List (ℕ × List ℕ)) (had : List ℕ) (next next' : ℕ) (made : List (ℕ × Option (List ℕ))) (dropped : List ℕ) → AreGiven next next' made → AllByRecursion (λ (w : ℕ × List ℕ). Among w.0 had) files
    → ((id : ℕ) → Among id had → id < next) → ((id : ℕ) → Among id dropped → Among id had → ⊥) → AllByRecursion (λ (w : ℕ × List ℕ). HasOtherIds w.0 made × IsNoneOf dropped w.0) files
had_apart [] had next next' made dropped given all before apart = tt
had_apart (w ∷ files) had next next' made dropped given all before apart =
    ((given_before w.0 next next' made given (before w.0 all.0), not_among w.0 dropped (λ is. apart w.0 is all.0)), had_apart files had next next' made dropped given all.1 before apart)

-- ids from the next one on are absent still, whatever the device answered
pub fresh_stays : (made : List (ℕ × Option (List ℕ))) (dropped : List ℕ) (next next' past : ℕ) (old new : Option Image) → AreGiven next next' made → next ≤ next' → Steps (MovesOnly made dropped) old new → AreFresh next past old → AreFresh next' past new
fresh_stays made dropped next next' past old new given le told fresh j is id from below =
    let o = told.back j is in o.2.none_new id (given_later id next next' made given from) (fresh o.0 o.1 id (omega (arith, le, from)) below)

-- a file that is there was there, or was brought; what was removed is gone
pub named_stays : (made : List (ℕ × Option (List ℕ))) (dropped named named' waits waits' : List ℕ) (old new : Option Image) → AreMoved made dropped old new
    → ((id : ℕ) → Among id (made_ids made) → Among id named') → ((id : ℕ) → Among id named ⊎ Among id waits → Among id named' ⊎ (Among id waits' ⊎ Among id dropped))
    → AreNamedOrWait named waits old → AreNamedOrWait named' waits' new
named_stays made dropped named named' waits waits' old new moved brings goes had j is id there =
    let o = moved.only.back j is in
    ⊎_elim (λ one. inl (brings id one))
    (λ other. ⊎_elim (λ one. inl one) (λ more. ⊎_elim (λ two. inr two) (λ gone. absurd (there (of_gone dropped (moved.gone j is) gone))) more) (goes id (had o.0 o.1 id (λ none. there (o.2.none_new id other none)))))
    (made_or_not id made)
  where
    of_gone : (ids : List ℕ) → AllByRecursion (λ d. file_of j d ≡ None) ids → Among id ids → file_of j id ≡ None
    of_gone [] all at = absurd at
    of_gone (d ∷ ids) all (inl same) = subst (λ n. file_of j n ≡ None) same all.0
    of_gone (d ∷ ids) all (inr at) = of_gone ids all.1 at
