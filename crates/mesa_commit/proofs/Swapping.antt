-- What a swap does to the files that a vault keeps.
use Rattle.std.proofs.Common.{◌⊎◌, inl, inr, ⊎_elim, ℕ, ◌+◌, ◌<◌, ◌≤◌, List, [], ◌∷◌, ◌++◌, map, Option, Bool, true, false, cond, not, refl, subst, arith}
use Rattle.std.specs.Prelude.{filter}
use Rattle.std.specs.List.{AllByRecursion}
use Rattle.mesa_disk.specs.Image.{Image}
use Rattle.mesa_commit.specs.declared.trash.Hold.{Hold}
use Rattle.mesa_commit.specs.declared.trash.Dropped.{Dropped}
use Rattle.mesa_commit.specs.Holding.{Among, is_held, ids_of, freed, kept, dropped_at, Held, AreFiled, IsHoldOf}
use Rattle.mesa_commit.specs.Images.{Has, ids_of as ids_in}
use Rattle.mesa_commit.specs.Turn.{MovesOnly, made_ids}
use Rattle.mesa_commit.specs.Filed.{AreGiven, AreMoved, PinFiles, held_in, FilesAdopted, Renames, TurnsKeepFiles, waits_after, pin_holds}
use Rattle.mesa_commit.proofs.Filing.{filed_brought, filed_dropped, filed_removed, freed_unheld}
use Rattle.mesa_commit.proofs.Adopting.{pin_stays, had_apart, fresh_stays, named_stays}

among_left : (id : ℕ) (xs ys : List ℕ) → Among id xs → Among id (xs ++ ys)
among_left id [] ys is = absurd is
among_left id (x ∷ xs) ys (inl is) = inl is
among_left id (x ∷ xs) ys (inr is) = inr (among_left id xs ys is)

among_right : (id : ℕ) (xs ys : List ℕ) → Among id ys → Among id (xs ++ ys)
among_right id [] ys is = is
among_right id (x ∷ xs) ys is = inr (among_right id xs ys is)

among_split : (id : ℕ) (xs ys : List ℕ) → Among id (xs ++ ys) → Among id xs ⊎ Among id ys
among_split id [] ys is = inr is
among_split id (x ∷ xs) ys (inl is) = inl (inl is)
among_split id (x ∷ xs) ys (inr is) = ⊎_elim (λ a. inl (inr a)) (λ a. inr a) (among_split id xs ys is)

given_of : (next next' : ℕ) (made : List (ℕ × Option (List ℕ))) (id : ℕ) → AreGiven next next' made → Among id (made_ids made) → (next ≤ id) × (id < next')
given_of next next' [] id given is = absurd is
given_of next next' (f ∷ made) id given (inl is) = subst (λ n. (next ≤ n) × (n < next')) is given.0
given_of next next' (f ∷ made) id given (inr is) = given_of next next' made id given.1 is

waits_back : (id at : ℕ) (trash : List Dropped) (gone : List ℕ) → Among id gone → Among id (ids_of (trash ++ map (dropped_at at) gone))
waits_back id at [] (g ∷ gone) (inl is) = inl is
waits_back id at [] (g ∷ gone) (inr is) = inr (waits_back id at [] gone is)
waits_back id at [] [] is = absurd is
waits_back id at (d ∷ trash) gone is = inr (waits_back id at trash gone is)

waits_front : (id : ℕ) (trash more : List Dropped) → Among id (ids_of trash) → Among id (ids_of (trash ++ more))
waits_front id [] more is = absurd is
waits_front id (d ∷ trash) more (inl is) = inl is
waits_front id (d ∷ trash) more (inr is) = inr (waits_front id trash more is)

-- what waits is kept or freed
kept_or_freed : (test : Dropped → Bool) (id : ℕ) (ds : List Dropped) → Among id (ids_of ds) → Among id (ids_of (filter test ds)) ⊎ Among id (ids_of (filter (λ d. not (test d)) ds))
kept_or_freed test id [] is = absurd is
kept_or_freed test id (d ∷ ds) is = by (test d) is (λ more. kept_or_freed test id ds more)
  where
    by : (b : Bool) → Among id (ids_of (d ∷ ds)) → (Among id (ids_of ds) → Among id (ids_of (filter test ds)) ⊎ Among id (ids_of (filter (λ e. not (test e)) ds)))
        → Among id (ids_of (cond b (d ∷ filter test ds) (filter test ds))) ⊎ Among id (ids_of (cond (not b) (d ∷ filter (λ e. not (test e)) ds) (filter (λ e. not (test e)) ds)))
    by true (inl one) rest = inl (inl one)
    by true (inr more) rest = ⊎_elim (λ a. inl (inr a)) (λ a. inr a) (rest more)
    by false (inl one) rest = inr (inl one)
    by false (inr more) rest = ⊎_elim (λ a. inl a) (λ a. inr (inr a)) (rest more)

own_ids : (files : List (ℕ × List ℕ)) (had : List ℕ) → ((id : ℕ) → Among id (ids_in files) → Among id had) → AllByRecursion (λ (w : ℕ × List ℕ). Among w.0 had) files
own_ids [] had all = tt
own_ids (w ∷ files) had all = (all w.0 (inl refl), own_ids files had (λ id is. all id (inr is)))

pins_stay : (pins : List PinFiles) (next next' : ℕ) (named : List ℕ) (trash : List Dropped) (made : List (ℕ × Option (List ℕ))) (dropped : List ℕ) (i j : Image) → MovesOnly made dropped i j → AreGiven next next' made
    → AllByRecursion (λ (p : Held). IsHoldOf named trash p.0 p.1) (map held_in pins) → AllByRecursion (λ (p : Held). p.0.next ≤ next) (map held_in pins) → ((id : ℕ) → Among id dropped → AllByRecursion (λ (p : Held). Among id p.1 → ⊥) (map held_in pins))
    → AllByRecursion (λ (p : PinFiles). Has p.1 i) pins → AllByRecursion (λ (p : PinFiles). Has p.1 j) pins
pins_stay [] next next' named trash made dropped i j moves given held low apart has = tt
pins_stay (p ∷ pins) next next' named trash made dropped i j moves given held low apart has = (
  pin_stays p.1 made dropped i j moves
      (had_apart p.1 (ids_in p.1) next next' made dropped given (own_ids p.1 (ids_in p.1) (λ id is. is)) (λ id is. (let l = held.0.given id is in let m : p.0.next ≤ next = low.0 in omega (arith, l, m))) (λ id gone is. (apart id gone).0 is)) has.0,
  pins_stay pins next next' named trash made dropped i j moves given held.1 low.1 (λ id gone. (apart id gone).1) has.1,
)

all_second : {A : Type 0} (P Q : A → Type 0) (xs : List A) → AllByRecursion (λ x. P x × Q x) xs → AllByRecursion Q xs
all_second P Q [] all = tt
all_second P Q (x ∷ xs) all = (all.0.1, all_second P Q xs all.1)

module _ (position next past : ℕ) (named : List ℕ) (trash : List Dropped) (pins : List PinFiles) (old new : Option Image) (made : List (ℕ × Option (List ℕ))) (later_id : ℕ) (later gone : List ℕ)
    (f : FilesAdopted position next past named trash pins old) (given : AreGiven next later_id made) (le : next ≤ later_id) (renames : Renames named made later gone)
    (brings : (id : ℕ) → Among id (made_ids made) → Among id later) (moved : AreMoved made (ids_of (freed (pin_holds pins) (waits_after position trash gone))) old new) where
  abbrev mid : List ℕ
  mid = named ++ made_ids made

  abbrev waits : List Dropped
  waits = waits_after position trash gone

  abbrev holders : List Hold
  holders = pin_holds pins

  abbrev removed : List ℕ
  removed = ids_of (freed holders waits)

  brought : AreFiled position later_id mid trash (map held_in pins)
  brought = filed_brought position next named trash (map held_in pins) f.filed later_id mid le (λ id is. among_left id named (made_ids made) is)
      (λ id is. ⊎_elim (λ (o : Among id named). inl o) (λ n. inr (given_of next later_id made id given n)) (among_split id named (made_ids made) is))

  filed : AreFiled (position + 1) later_id later waits (map held_in pins)
  filed = filed_dropped position later_id mid trash (map held_in pins) brought later gone renames.fewer (λ id is. among_left id named (made_ids made) (renames.were id is)) renames.split renames.apart

  still_waits : (id : ℕ) → Among id named ⊎ Among id (ids_of trash) → Among id later ⊎ (Among id (ids_of (kept holders waits)) ⊎ Among id removed)
  still_waits id had = ⊎_elim
      (λ (one : Among id named). ⊎_elim (λ (still : Among id later). inl still) (λ (out : Among id gone). inr (kept_or_freed (is_held holders) id waits (waits_back id position trash gone out))) (renames.split id (among_left id named (made_ids made) one)))
      (λ two. inr (kept_or_freed (is_held holders) id waits (waits_front id trash (map (dropped_at position) gone) two))) had

  files_kept : FilesAdopted (position + 1) later_id past later (kept holders waits) pins new
  files_kept = record {
    filed = filed_removed (position + 1) later_id later waits (map held_in pins) filed;
    there = λ j is. (let o = moved.only.back j is in
        pins_stay pins next later_id named trash made removed o.0 j o.2 given f.filed.held (all_second _ _ (map held_in pins) f.filed.before)
        (λ id freed_is. freed_unheld (position + 1) later_id later waits (map held_in pins) filed id freed_is) (f.there o.0 o.1));
    strays = named_stays made removed named later (ids_of trash) (ids_of (kept holders waits)) old new moved brings still_waits f.strays;
    fresh = fresh_stays made removed next later_id past old new given le moved.only f.fresh;
  }

-- A turn that names, drops and removes files keeps what is kept of them.
pub turns_keep : TurnsKeepFiles
turns_keep = files_kept
