-- What the calls of a turn leave of files that are there.
use Rattle.std.proofs.Common.{◌≡◌, ℕ, List, [], ◌∷◌, Option, Some, sym, ◌∙◌, ap}
use Rattle.std.specs.List.{AllByRecursion}
use Rattle.mesa_disk.specs.Image.{Image, area_of, Loses, InArea, AnyChange}
use Rattle.mesa_disk.specs.Story.{Steps}
use Rattle.mesa_disk.specs.Files.{AddsFirst, LosesFirst, HasOtherIds, IsNoneOf, OthersStay, AreThere}
use Rattle.mesa_disk.specs.declared.area.Area.{Area}
use Rattle.mesa_disk.specs.declared.area.Area.TheVariants.{Zero, One}
use Rattle.mesa_disk.proofs.Rounds.{first_some}
use Rattle.mesa_disk.proofs.Others.{adds_first_only, loses_first_only, loses_none, area_others}
use Rattle.mesa_commit.specs.Images.{ids_of, Has}
use Rattle.mesa_commit.specs.Turn.{told_files, AreApart, MovesOnly, made_ids}

-- an area stays with the others
pub same_area : (area : Area) (P : ℕ → Type 0) (i j : Image) → OthersStay P i j → area_of area j ≡ area_of area i
same_area Zero P i j stay = stay.zero
same_area One P i j stay = stay.one

-- files that are among the others stay
pub has_stays : (P : ℕ → Type 0) (files : List (ℕ × List ℕ)) (i j : Image) → OthersStay P i j → AllByRecursion P (ids_of files) → Has files i → Has files j
has_stays P [] i j stay others has = tt
has_stays P (w ∷ files) i j stay others has = (stay.files w.0 others.0 ∙ has.0, has_stays P files i j stay others.1 has.1)

-- and so do all in a change of an area
pub has_changed : (files : List (ℕ × List ℕ)) (area : Area) (step : List ℕ → List ℕ → Type 0) (i j : Image) → InArea area step i j → Has files i → Has files j
has_changed [] area step i j is has = tt
has_changed (w ∷ files) area step i j is has = (area_others area step i j is w.0 ∙ has.0, has_changed files area step i j is has.1)

none_made : (brought : List (ℕ × List ℕ)) (id : ℕ) → IsNoneOf (ids_of brought) id → HasOtherIds id (told_files brought)
none_made [] id none = tt
none_made (w ∷ brought) id none = (none.0, none_made brought id none.1)

-- the ids of files that none is brought under are others
pub apart_others : (brought : List (ℕ × List ℕ)) (ids : List ℕ) → AreApart (ids_of brought) ids → AllByRecursion (λ id. HasOtherIds id (told_files brought)) ids
apart_others brought [] apart = tt
apart_others brought (id ∷ ids) apart = (none_made brought id apart.0, apart_others brought ids apart.1)

-- what was brought is there
pub there_has : (brought : List (ℕ × List ℕ)) (i : Image) → AreThere (told_files brought) i → Has brought i
there_has [] i there = tt
there_has (w ∷ brought) i there = (there.0.1 ∙ ap Some (sym there.0.2), there_has brought i there.1)

-- made files of which none is dropped stay there
pub there_stays : (dropped : List ℕ) (made : List (ℕ × Option (List ℕ))) (i j : Image) → OthersStay (IsNoneOf dropped) i j → AreApart dropped (made_ids made) → AreThere made i → AreThere made j
there_stays dropped [] i j stay apart there = tt
there_stays dropped (f ∷ made) i j stay apart there =
    ((there.0.0, stay.files f.0 apart.0 ∙ there.0.1, there.0.2), there_stays dropped made i j stay apart.1 there.1)

pub there_changed : (area : Area) (step : List ℕ → List ℕ → Type 0) (made : List (ℕ × Option (List ℕ))) (i j : Image) → InArea area step i j → AreThere made i → AreThere made j
there_changed area step [] i j is there = tt
there_changed area step (f ∷ made) i j is there =
    ((there.0.0, area_others area step i j is f.0 ∙ there.0.1, there.0.2), there_changed area step made i j is there.1)

-- ---- what a read gives

module _ (made : List (ℕ × Option (List ℕ))) (dropped : List ℕ) (area : Area) where
  moved_adopting : (i j : Image) → AddsFirst made i j → MovesOnly made dropped i j
  moved_adopting i j run =
      let stay = adds_first_only made i j run in
      record { others = λ id other none. stay.files id other; none_new = λ id other none. stay.files id other ∙ none }

  -- after adoptions, whatever they answer
  pub adopting_moves : (old one : Option Image) → Steps (AddsFirst made) old one → Steps (MovesOnly made dropped) old one
  adopting_moves old one told = record {
    on = λ i e. let to = told.on i e in (to.0, to.1, moved_adopting i to.0 to.2);
    back = λ j e. let from = told.back j e in (from.0, from.1, moved_adopting from.0 j from.2);
  }

  moved_appending : (i j k : Image) → MovesOnly made dropped i j → AnyChange area j k → MovesOnly made dropped i k
  moved_appending i j k moves is = record {
    others = λ id other none. area_others area _ j k is id ∙ moves.others id other none;
    none_new = λ id other none. area_others area _ j k is id ∙ moves.none_new id other none;
  }

  -- and an append
  pub appending_moves : (old one two : Option Image) → Steps (AddsFirst made) old one → Steps (AnyChange area) one two → Steps (MovesOnly made dropped) old two
  appending_moves old one two told changed = record {
    on = λ i e. let to = (adopting_moves old one told).on i e in let next = changed.on to.0 to.1 in (next.0, next.1, moved_appending i to.0 next.0 to.2 next.2);
    back = λ k e. let mid = changed.back k e in let from = (adopting_moves old one told).back mid.0 mid.1 in (from.0, from.1, moved_appending from.0 mid.0 k from.2 mid.2);
  }

  moved_removing : (i j k : Image) → MovesOnly made dropped i j → LosesFirst dropped j k → MovesOnly made dropped i k
  moved_removing i j k moves run =
      let stay = loses_first_only dropped j k run in
      record {
        others = λ id other none. stay.files id none ∙ moves.others id other none;
        none_new = λ id other none. loses_none dropped j k (first_some Loses dropped j k run) id (moves.none_new id other none);
      }

  -- and removals
  pub removing_moves : (old one two three : Option Image) → Steps (AddsFirst made) old one → Steps (AnyChange area) one two → Steps (LosesFirst dropped) two three → Steps (MovesOnly made dropped) old three
  removing_moves old one two three told changed gone = record {
    on = λ i e. let to = (appending_moves old one two told changed).on i e in let next = gone.on to.0 to.1 in (next.0, next.1, moved_removing i to.0 next.0 to.2 next.2);
    back = λ k e. let mid = gone.back k e in let from = (appending_moves old one two told changed).back mid.0 mid.1 in (from.0, from.1, moved_removing from.0 mid.0 k from.2 mid.2);
  }

  -- the made files that none drops are there in the end
  pub made_there : (one two three : Option Image) → ((i : Image) → one ≡ Some i → AreThere made i) → Steps (AnyChange area) one two → Steps (OthersStay (IsNoneOf dropped)) two three → AreApart dropped (made_ids made) → (i : Image) → three ≡ Some i → AreThere made i
  made_there one two three there changed gone apart k e =
      let mid = gone.back k e in
      let from = changed.back mid.0 mid.1 in
      there_stays dropped made mid.0 k mid.2 apart (there_changed area _ made from.0 mid.0 from.2 (there from.0 from.1))
