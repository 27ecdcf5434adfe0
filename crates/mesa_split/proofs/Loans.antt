-- Inputs that are lent and given back.
use Rattle.std.proofs.Common.{◌≡◌, inl, inr, ℕ, zero, suc, ◌+◌, ◌<◌, ◌≤◌, List, [], ◌∷◌, ◌++◌, length, map, get_or, set, take, refl, sym, ap, subst, ◌∙◌, arith, add-one, Global, Vec}
use Rattle.std.proofs.lemmas.List.{length-map, map-append}
use Rattle.std.specs.Prelude.{Option, Some, Result, slice_get}
use Rattle.std.specs.List.{AllByRecursion}
use Rattle.mesa_file.specs.declared.damage.Damage.{Damage}
use Rattle.mesa_compact.specs.mesa_columns.declared.rows.Row.{Row}
use Rattle.mesa_delta.specs.declared.error.FileError.{FileError}
use Rattle.mesa_delta.specs.declared.error.FileError.TheVariants.{Read}
use Rattle.mesa_delta.specs.declared.input.Input.{Input}
use Rattle.mesa_merge.specs.Damaged.{IsDamageOf}
use Rattle.mesa_merge.specs.Faults.{HaveFaultCause, faults_of}
use Rattle.mesa_open_files.specs.declared.merging.Spare.{Spare}
use Rattle.mesa_split.specs.Lending.{AreEmpty, AreLent, IsDamageIn, Moved, counts_in, items_of, lists_in, lists_of, own_in, returned}
use Rattle.mesa_split.specs.declared.parts.Part.{Part}

-- ---- lists

pub map_put : {A B : Type 0} (f : A → B) (xs : List A) (i : ℕ) (y : A) → map f (set xs i y) ≡ set (map f xs) i (f y)
map_put f [] i y = refl
map_put f (x ∷ xs) zero y = refl
map_put f (x ∷ xs) (suc i) y = ap (λ ys. f x ∷ ys) (map_put f xs i y)

-- what is put where it stood
pub put_same : {A : Type 0} (xs : List A) (i : ℕ) (y d : A) → y ≡ get_or xs i d → set xs i y ≡ xs
put_same [] i y d is = refl
put_same (x ∷ xs) zero y d is = ap (λ z. z ∷ xs) is
put_same (x ∷ xs) (suc i) y d is = ap (λ zs. x ∷ zs) (put_same xs i y d is)

pub map_at : {A B : Type 0} (f : A → B) (xs : List A) (i : ℕ) (d : A) (e : B) → i < length xs → get_or (map f xs) i e ≡ f (get_or xs i d)
map_at f [] i d e lt = absurd (omega (arith, lt))
map_at f (x ∷ xs) zero d e lt = refl
map_at f (x ∷ xs) (suc i) d e lt = map_at f xs i d e (omega (arith, lt))

pub any_at : {A : Type 0} (xs : List A) (i : ℕ) (d e : A) → i < length xs → get_or xs i d ≡ get_or xs i e
any_at [] i d e lt = absurd (omega (arith, lt))
any_at (x ∷ xs) zero d e lt = refl
any_at (x ∷ xs) (suc i) d e lt = any_at xs i d e (omega (arith, lt))

module _ {R : Type 0} where
  -- ---- one list more is lent

  pub lent_more : (olds nows ls : List (Vec (Input R) Global)) (l e : Vec (Input R) Global) → AreLent olds nows ls → length ls < length olds → l ≡ get_or olds (length ls) l → e.items ≡ [] → AreLent olds (set nows (length ls) e) (ls ++ l ∷ [])
  lent_more [] nows [] l e h lt is empty = absurd (omega (arith, lt))
  lent_more (o ∷ os) nows [] l e h lt is empty = subst (λ (ns : List (Vec (Input R) Global)). AreLent (o ∷ os) (set ns 0 e) (l ∷ [])) (sym h) (is, empty, refl)
  lent_more [] nows (x ∷ xs) l e h lt is empty = absurd h
  lent_more (o ∷ os) [] (x ∷ xs) l e h lt is empty = absurd h
  lent_more (o ∷ os) (n ∷ ns) (x ∷ xs) l e h lt is empty = (h.0, h.1, lent_more os ns xs l e h.2 (omega (arith, lt)) is empty)

  -- those that aren't lent stay
  pub lent_rest : (olds nows ls : List (Vec (Input R) Global)) (i : ℕ) (d : Vec (Input R) Global) → AreLent olds nows ls → length ls ≤ i → get_or nows i d ≡ get_or olds i d
  lent_rest olds nows [] i d h le = ap (λ (ns : List (Vec (Input R) Global)). get_or ns i d) h
  lent_rest [] nows (x ∷ xs) i d h le = absurd h
  lent_rest (o ∷ os) [] (x ∷ xs) i d h le = absurd h
  lent_rest (o ∷ os) (n ∷ ns) (x ∷ xs) zero d h le = absurd (omega (arith, le))
  lent_rest (o ∷ os) (n ∷ ns) (x ∷ xs) (suc i) d h le = lent_rest os ns xs i d h.2 (omega (arith, le))

  pub lent_empty : (olds nows ls : List (Vec (Input R) Global)) → AreLent olds nows ls → AreEmpty (length ls) nows
  lent_empty olds nows [] h = tt
  lent_empty [] nows (x ∷ xs) h = absurd h
  lent_empty (o ∷ os) [] (x ∷ xs) h = absurd h
  lent_empty (o ∷ os) (n ∷ ns) (x ∷ xs) h = (h.1, lent_empty os ns xs h.2)

  pub empty_at : (n : ℕ) (nows : List (Vec (Input R) Global)) (i : ℕ) (d : Vec (Input R) Global) → AreEmpty n nows → i < n → (get_or nows i d).items ≡ []
  empty_at zero nows i d h lt = absurd (omega (arith, lt))
  empty_at (suc n) [] i d h lt = absurd h
  empty_at (suc n) (l ∷ ls) zero d h lt = h.0
  empty_at (suc n) (l ∷ ls) (suc i) d h lt = empty_at n ls i d h.1 (omega (arith, lt))

  -- the lent lists are those that there were
  pub lent_at : (olds nows ls : List (Vec (Input R) Global)) (i : ℕ) (d : Vec (Input R) Global) → AreLent olds nows ls → i < length ls → get_or ls i d ≡ get_or olds i d
  lent_at olds nows [] i d h lt = absurd (omega (arith, lt))
  lent_at [] nows (x ∷ xs) i d h lt = absurd h
  lent_at (o ∷ os) [] (x ∷ xs) i d h lt = absurd h
  lent_at (o ∷ os) (n ∷ ns) (x ∷ xs) zero d h lt = h.0
  lent_at (o ∷ os) (n ∷ ns) (x ∷ xs) (suc i) d h lt = lent_at os ns xs i d h.2 (omega (arith, lt))

  -- ---- one list more is given back

  pub returned_none : (nows : List (Vec (Input R) Global)) → returned nows [] ≡ nows
  returned_none [] = refl
  returned_none (n ∷ ns) = refl

  pub returned_more : (nows ls : List (Vec (Input R) Global)) (i : ℕ) (l : Vec (Input R) Global) → i < length nows → i < length ls → l ≡ get_or ls i l → set (returned nows (take i ls)) i l ≡ returned nows (take (suc i) ls)
  returned_more [] ls i l lt few is = absurd (omega (arith, lt))
  returned_more (n ∷ ns) [] i l lt few is = absurd (omega (arith, few))
  returned_more (n ∷ ns) (x ∷ xs) zero l lt few is = λ k. is k ∷ sym (returned_none ns) k
  returned_more (n ∷ ns) (x ∷ xs) (suc i) l lt few is = ap (λ zs. x ∷ zs) (returned_more ns xs i l (omega (arith, lt)) (omega (arith, few)) is)

  pub returned_rest : (nows ls : List (Vec (Input R) Global)) (i : ℕ) (d : Vec (Input R) Global) → get_or (returned nows (take i ls)) i d ≡ get_or nows i d
  returned_rest [] ls i d = refl
  returned_rest (n ∷ ns) ls zero d = refl
  returned_rest (n ∷ ns) [] (suc i) d = refl
  returned_rest (n ∷ ns) (x ∷ xs) (suc i) d = returned_rest ns xs i d

  -- ---- spares

  pub lend_step : (own now : Vec (Input R) Global) (os ns : List (Spare R)) (ps : List (Part R)) (i : ℕ) (p : Part R) (t d : Spare R) → AreLent (lists_of own os) (lists_of now ns) (lists_in ps) → length ps ≡ i + 1 → i < length os → length ns ≡ length os → p.inputs ≡ (get_or ns i d).inputs → t.inputs.items ≡ []
      → AreLent (lists_of own os) (lists_of now (set ns i t)) (lists_in (ps ++ p ∷ []))
  lend_step own now os ns ps i p t d h count few same is empty =
      let f : Spare R → Vec (Input R) Global = λ (s : Spare R). s.inputs in
      let ls : List (Vec (Input R) Global) = lists_in ps in
      let long : length ls ≡ suc i = length-map ps (λ (q : Part R). q.inputs) ∙ count ∙ add-one i in
      let stays : get_or (lists_of now ns) (suc i) p.inputs ≡ get_or (lists_of own os) (suc i) p.inputs = lent_rest (lists_of own os) (lists_of now ns) ls (suc i) p.inputs h (omega (arith, long)) in
      let here : p.inputs ≡ get_or (lists_of own os) (suc i) p.inputs = is ∙ sym (map_at f ns i d p.inputs (omega (arith, few, same))) ∙ stays in
      let at : p.inputs ≡ get_or (lists_of own os) (length ls) p.inputs = here ∙ ap (λ n. get_or (lists_of own os) n p.inputs) (sym long) in
      let all : length (lists_of own os) ≡ suc (length os) = ap suc (length-map os f) in
      let more = lent_more (lists_of own os) (lists_of now ns) ls p.inputs t.inputs h (omega (arith, long, all, few)) at empty in
      let put : set (lists_of now ns) (length ls) t.inputs ≡ lists_of now (set ns i t) = ap (λ n. set (lists_of now ns) n t.inputs) long ∙ ap (λ xs. now ∷ xs) (sym (map_put f ns i t)) in
      subst (λ xs. AreLent (lists_of own os) (lists_of now (set ns i t)) xs) (sym (map-append (λ (q : Part R). q.inputs) ps (p ∷ []))) (subst (λ xs. AreLent (lists_of own os) xs (ls ++ p.inputs ∷ [])) put more)

  pub give_step : (nows ls : List (Vec (Input R) Global)) (now : Vec (Input R) Global) (ns : List (Spare R)) (i : ℕ) (t : Spare R) → lists_of now ns ≡ returned nows (take (i + 1) ls) → i + 1 < length nows → i + 1 < length ls → t.inputs ≡ get_or ls (i + 1) t.inputs → lists_of now (set ns i t) ≡ returned nows (take (i + 1 + 1) ls)
  give_step nows ls now ns i t h some few is =
      let f : Spare R → Vec (Input R) Global = λ (s : Spare R). s.inputs in
      let n : i + 1 ≡ suc i = add-one i in
      let two : suc (suc i) ≡ i + 1 + 1 = omega arith in
      ap (λ xs. now ∷ xs) (map_put f ns i t) ∙ ap (λ xs. set xs (suc i) t.inputs) (h ∙ ap (λ k. returned nows (take k ls)) n)
      ∙ returned_more nows ls (suc i) t.inputs (omega (arith, some)) (omega (arith, few)) (is ∙ ap (λ k. get_or ls k t.inputs) n)
      ∙ ap (λ k. returned nows (take k ls)) two

  -- a spare whose part's inputs aren't back has none
  pub give_empty : (nows ls : List (Vec (Input R) Global)) (now : Vec (Input R) Global) (ns : List (Spare R)) (n i : ℕ) (d : Spare R) → lists_of now ns ≡ returned nows (take (i + 1) ls) → AreEmpty n nows → i + 1 < n → i < length ns → (get_or ns i d).inputs.items ≡ []
  give_empty nows ls now ns n i d h empty few there =
      let f : Spare R → Vec (Input R) Global = λ (s : Spare R). s.inputs in
      let e : Vec (Input R) Global = (get_or ns i d).inputs in
      let here : e ≡ get_or nows (suc i) e = sym (map_at f ns i d e there) ∙ ap (λ xs. get_or xs (suc i) e) (h ∙ ap (λ k. returned nows (take k ls)) (add-one i)) ∙ returned_rest nows ls (suc i) e in
      ap (λ (v : Vec (Input R) Global). v.items) here ∙ empty_at n nows (suc i) e empty (omega (arith, few))

  pub lists_count : (own : Vec (Input R) Global) (ss : List (Spare R)) → length (lists_of own ss) ≡ suc (length ss)
  lists_count own ss = ap suc (length-map ss (λ (s : Spare R). s.inputs))

  pub parts_count : (ps : List (Part R)) → length (lists_in ps) ≡ length ps
  parts_count ps = length-map ps (λ (p : Part R). p.inputs)

  pub list_at : (ps : List (Part R)) (n : ℕ) (p : Part R) (d : Vec (Input R) Global) → slice_get ps n ≡ Some p → p.inputs ≡ get_or (lists_in ps) n d
  list_at [] n p d is = absurd cc
  list_at (x ∷ xs) zero p d is = let same : p ≡ x = cc in ap (λ (q : Part R). q.inputs) same
  list_at (x ∷ xs) (suc n) p d is = list_at xs n p d is

  -- ---- all at once

  -- what was known of all lists stays where that of the parts does
  pub lent_same : {A : Type 0} (f : List (Input R) → A) (olds nows : List (Vec (Input R) Global)) (ps qs : List (Part R)) → AreLent olds nows (lists_in ps) → map (λ (q : Part R). f q.inputs.items) qs ≡ map (λ (p : Part R). f p.inputs.items) ps
      → map f (items_of (returned nows (lists_in qs))) ≡ map f (items_of olds)
  lent_same f olds nows [] [] lent same = ap (λ (ls : List (Vec (Input R) Global)). map f (items_of ls)) (returned_none nows ∙ lent)
  lent_same f olds nows [] (q ∷ qs) lent same = absurd cc
  lent_same f [] nows (p ∷ ps) qs lent same = absurd lent
  lent_same f (o ∷ os) [] (p ∷ ps) qs lent same = absurd lent
  lent_same f (o ∷ os) (n ∷ ns) (p ∷ ps) [] lent same = absurd cc
  lent_same {A = A} f (o ∷ os) (n ∷ ns) (p ∷ ps) (q ∷ qs) lent same = λ i.
      (ap (head (f q.inputs.items)) same ∙ ap (λ (l : Vec (Input R) Global). f l.items) lent.0) i ∷ lent_same f os ns ps qs lent.2 (ap tail same) i where
        head : A → List A → A
        head d [] = d
        head d (x ∷ xs) = x

        tail : List A → List A
        tail [] = []
        tail (x ∷ xs) = xs

  -- so do the counts move
  pub lent_moved : (faults : R → ℕ) (olds nows : List (Vec (Input R) Global)) (ps qs : List (Part R)) (rs : List (Result (List Row) FileError)) → AreLent olds nows (lists_in ps) → Moved (counts_in faults ps) (counts_in faults qs) rs
      → Moved (map (faults_of faults) (items_of olds)) (map (faults_of faults) (items_of (returned nows (lists_in qs)))) rs
  lent_moved faults olds nows ps qs [] lent h = lent_same (faults_of faults) olds nows ps qs lent h
  lent_moved faults olds nows [] qs (r ∷ rs) lent h = absurd h
  lent_moved faults olds nows (p ∷ ps) [] (r ∷ rs) lent h = absurd h
  lent_moved faults [] nows (p ∷ ps) (q ∷ qs) (r ∷ rs) lent h = absurd lent
  lent_moved faults (o ∷ os) [] (p ∷ ps) (q ∷ qs) (r ∷ rs) lent h = absurd lent
  lent_moved faults (o ∷ os) (n ∷ ns) (p ∷ ps) (q ∷ qs) (r ∷ rs) lent h = (
    subst (λ (l : Vec (Input R) Global). HaveFaultCause {T = List Row} {E = FileError} (λ e. e ≡ Read) (faults_of faults l.items) (faults_of faults q.inputs.items) r) lent.0 h.0,
    lent_moved faults os ns ps qs rs lent.2 h.1,
  )

  -- what holds of all lists, and of what the parts have, holds of all once they are back
  pub lent_all : (P : List (Input R) → Type 0) (olds nows : List (Vec (Input R) Global)) (ps qs : List (Part R)) → AreLent olds nows (lists_in ps) → length qs ≡ length ps → AllByRecursion P (items_of olds) → AllByRecursion (λ (q : Part R). P q.inputs.items) qs → AllByRecursion P (items_of (returned nows (lists_in qs)))
  lent_all P olds nows [] [] lent same all each = subst (λ (ls : List (Vec (Input R) Global)). AllByRecursion P (items_of ls)) (sym (returned_none nows ∙ lent)) all
  lent_all P olds nows [] (q ∷ qs) lent same all each = absurd (omega (arith, same))
  lent_all P olds nows (p ∷ ps) [] lent same all each = absurd (omega (arith, same))
  lent_all P [] nows (p ∷ ps) (q ∷ qs) lent same all each = absurd lent
  lent_all P (o ∷ os) [] (p ∷ ps) (q ∷ qs) lent same all each = absurd lent
  lent_all P (o ∷ os) (n ∷ ns) (p ∷ ps) (q ∷ qs) lent same all each = (each.0, lent_all P os ns ps qs lent.2 (omega (arith, same)) all.1 each.1)

  -- what holds of all lists holds of those that the parts got
  pub parts_all : (P : List (Input R) → Type 0) (olds nows : List (Vec (Input R) Global)) (ps : List (Part R)) → AreLent olds nows (lists_in ps) → AllByRecursion P (items_of olds) → AllByRecursion (λ (p : Part R). P p.inputs.items) ps
  parts_all P olds nows [] lent all = tt
  parts_all P [] nows (p ∷ ps) lent all = absurd lent
  parts_all P (o ∷ os) [] (p ∷ ps) lent all = absurd lent
  parts_all P (o ∷ os) (n ∷ ns) (p ∷ ps) lent all = (subst (λ (l : Vec (Input R) Global). P l.items) (sym lent.0) all.0, parts_all P os ns ps lent.2 all.1)

  -- damage that a part's inputs have is of one of the lists
  pub damaged_list : (bytes : R → Option (List ℕ)) (size : R → ℕ) (olds nows : List (Vec (Input R) Global)) (ps qs : List (Part R)) (d : Damage) → AreLent olds nows (lists_in ps) → length qs ≡ length ps → IsDamageIn bytes size qs d
      → (at : ℕ) × (n : List (Input R)) × (slice_get (items_of (returned nows (lists_in qs))) at ≡ Some n) × IsDamageOf bytes size n d
  damaged_list bytes size olds nows ps [] d lent same some = absurd some
  damaged_list bytes size olds nows [] (q ∷ qs) d lent same some = absurd (omega (arith, same))
  damaged_list bytes size [] nows (p ∷ ps) (q ∷ qs) d lent same some = absurd lent
  damaged_list bytes size (o ∷ os) [] (p ∷ ps) (q ∷ qs) d lent same some = absurd lent
  damaged_list bytes size (o ∷ os) (n ∷ ns) (p ∷ ps) (q ∷ qs) d lent same some = elim some [
    | inl here ↦ (0, q.inputs.items, refl, here)
    | inr more ↦ (let there = damaged_list bytes size os ns ps qs d lent.2 (omega (arith, same)) more in (suc there.0, there.1, there.2, there.3))
  ]

  -- the first part has the own inputs
  pub own_lent : (own now : Vec (Input R) Global) (os ns : List (Spare R)) (ps : List (Part R)) → AreLent (lists_of own os) (lists_of now ns) (lists_in ps) → 0 < length ps → own_in ps ≡ own.items
  own_lent own now os ns [] lent some = absurd (omega (arith, some))
  own_lent own now os ns (p ∷ ps) lent some = ap (λ (l : Vec (Input R) Global). l.items) lent.0

-- what holds of the own inputs and of the spares' holds of all lists
pub lists_all : {R : Type 0} (P : List (Input R) → Type 0) (own : Vec (Input R) Global) (ss : List (Spare R)) → P own.items → AllByRecursion (λ (s : Spare R). P s.inputs.items) ss → AllByRecursion P (items_of (lists_of own ss))
lists_all {R = R} P own ss one all = (one, each ss all) where
  each : (ss : List (Spare R)) → AllByRecursion (λ (s : Spare R). P s.inputs.items) ss → AllByRecursion P (items_of (map (λ (s : Spare R). s.inputs) ss))
  each [] all = tt
  each (s ∷ ss) all = (all.0, each ss all.1)
