-- The first file that isn't as it is recorded, and the first body that misfits.
use Rattle.std.proofs.Common.{◌≡◌, inl, inr, ⊎_elim, ℕ, zero, suc, ◌+◌, ◌<◌, List, [], ◌∷◌, ◌++◌, length, take, drop, refl, sym, ◌∙◌, ap, arith, length-append}
use Rattle.std.specs.Prelude.{slice_index_or}
use Rattle.std.proofs.lemmas.List.{map-append, take-map}
use Rattle.std.specs.List.{AllByRecursion}
use Rattle.mesa_store_spec.specs.mesa_file.declared.damage.Damage.{Damage}
use Rattle.mesa_disk.specs.Story.{Story, Unmoved}
use Rattle.mesa_disk.specs.Image.{Image, file_of}
use Rattle.mesa_journal.specs.Journal.{frames, word}
use Rattle.mesa_journal.specs.Read.{bodies_of, placed_from}
use Rattle.mesa_journal.specs.declared.reading.Body.{Body}
use Rattle.mesa_journal.proofs.Bytes.{length-word}
use Rattle.mesa_disk.specs.declared.area.Area.{Area}
use Rattle.mesa_catalog_table.specs.declared.recorded.Recorded.{Recorded}
use Rattle.mesa_recover.specs.declared.error.OpenError.{OpenError}
use Rattle.mesa_recover.specs.Damages.{IsAsRecorded, IsFileDamage, IsFirstDamage, IsFirstMisfit, MisfitsBehind}
use Rattle.mesa_recover.specs.Misfits.{IsMisfitAt, IsMisfitIn}

pub all_push : {A : Type 0} (P : A → Type 0) (xs : List A) (x : A) → AllByRecursion P xs → P x → AllByRecursion P (xs ++ x ∷ [])
all_push P [] x all p = (p, tt)
all_push P (y ∷ xs) x all p = (all.0, all_push P xs x all.1 p)

pub split_at : {A : Type 0} (xs : List A) (n : ℕ) (d : A) → n < length xs → xs ≡ take n xs ++ slice_index_or xs n d ∷ drop (suc n) xs
split_at [] n d lt = absurd (omega (arith, lt))
split_at (x ∷ xs) zero d lt = refl
split_at (x ∷ xs) (suc n) d lt = ap (λ l. x ∷ l) (split_at xs n d (omega (arith, lt)))

-- two calls that move no image
pub unmoved_twice : (a b d : Story) → Unmoved a b → Unmoved b d → Unmoved a d
unmoved_twice a b d one two = record {
  told = two.told ∙ one.told;
  len = λ area. two.len area ∙ one.len area;
  moment = two.moment ∙ one.moment;
  may_leave = λ c. (λ l. (one.may_leave c).0 ((two.may_leave c).0 l), λ l. (two.may_leave c).1 ((one.may_leave c).1 l));
  may_have_left = λ t c. (λ l. (one.may_have_left t c).0 ((two.may_have_left t c).0 l), λ l. (two.may_have_left t c).1 ((one.may_have_left t c).1 l));
}

-- ---- files

pub first_damage : (i : Image) (files : List Recorded) (n : ℕ) (file : Recorded) (d : Damage) → n < length files → file ≡ slice_index_or files n file → AllByRecursion (IsAsRecorded i) (take n files) → IsFileDamage (file_of i file.id) file d → IsFirstDamage i files d
first_damage i files n file d lt is good damaged = record {
  before = take n files;
  file = file;
  behind = drop (suc n) files;
  split = split_at files n file lt ∙ ap (λ f. take n files ++ f ∷ drop (suc n) files) (sym is);
  good = good;
  damaged = damaged;
}

-- one element more
pub take_next : {A : Type 0} (xs : List A) (n : ℕ) (x : A) → n < length xs → x ≡ slice_index_or xs n x → take (n + 1) xs ≡ take n xs ++ x ∷ []
take_next {A = A} xs n x lt is = (let e : n + 1 ≡ suc n = omega arith in ap (λ m. take m xs) e) ∙ next xs n lt ∙ ap (λ y. take n xs ++ y ∷ []) (sym is)
  where
    next : (ys : List A) (m : ℕ) → m < length ys → take (suc m) ys ≡ take m ys ++ slice_index_or ys m x ∷ []
    next [] m lt = absurd (omega (arith, lt))
    next (y ∷ ys) zero lt = refl
    next (y ∷ ys) (suc m) lt = ap (λ l. y ∷ l) (next ys m (omega (arith, lt)))

-- ---- bodies

-- the place of a body's gate
placed_at : (from : ℕ) (bodies : List (List ℕ)) (n : ℕ) (d : Body) → n < length bodies → (slice_index_or (placed_from from bodies) n d).at ≡ from + length (frames (take n bodies))
placed_at from [] n d lt = absurd (omega (arith, lt))
placed_at from (b ∷ bodies) zero d lt = omega arith
placed_at from (b ∷ bodies) (suc n) d lt =
    let next = placed_at (from + length b + 5) bodies n d (omega (arith, lt)) in
    omega (arith, next, length-append (word (length b) ++ b) (frames (take n bodies)), length-append (word (length b)) b, length-word (length b))

length_bodies : (bodies : List Body) → length (bodies_of bodies) ≡ length bodies
length_bodies [] = refl
length_bodies (b ∷ bodies) = ap suc (length_bodies bodies)

pub first_misfit : (area : Area) (bodies : List Body) (n : ℕ) (body : Body) (e : OpenError) → n < length bodies → body ≡ slice_index_or bodies n body → IsMisfitAt area (bodies_of (take n bodies)) body.at body.bytes e
    → bodies ≡ placed_from 0 (bodies_of bodies) → IsMisfitIn area (bodies_of bodies) e
first_misfit area bodies n body e lt is misfit placed = ⊎_elim (λ m. inl m) (λ x. inr (body.at, x.0, first x.0 x.1, x.2)) misfit
  where
    at : body.at ≡ length (frames (bodies_of (take n bodies)))
    at =
        let here : body.at ≡ (slice_index_or (placed_from 0 (bodies_of bodies)) n body).at = ap (λ (b : Body). b.at) (is ∙ ap (λ bs. slice_index_or bs n body) placed) in
        let place = placed_at 0 (bodies_of bodies) n body (omega (arith, lt, length_bodies bodies)) in
        let some : length (frames (take n (bodies_of bodies))) ≡ length (frames (bodies_of (take n bodies))) = ap (λ bs. length (frames bs)) (take-map (λ (b : Body). b.bytes) n bodies) in
        omega (arith, here, place, some)

    first : (offset : ℕ) → MisfitsBehind area (bodies_of (take n bodies)) body.bytes offset → IsFirstMisfit area (bodies_of bodies) body.at offset
    first offset misfits = record {
      before = bodies_of (take n bodies);
      body = body.bytes;
      behind = bodies_of (drop (suc n) bodies);
      split = ap bodies_of (split_at bodies n body lt ∙ ap (λ b. take n bodies ++ b ∷ drop (suc n) bodies) (sym is)) ∙ map-append (λ (b : Body). b.bytes) (take n bodies) (body ∷ drop (suc n) bodies);
      place = at;
      misfits = misfits;
    }
