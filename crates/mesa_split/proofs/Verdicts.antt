-- What holds of lists of inputs that were merged side by side.
use Rattle.std.proofs.Common.{◌≡◌, inl, inr, ℕ, zero, suc, ◌+◌, ◌<◌, ◌≤◌, List, [], ◌∷◌, ◌++◌, length, length-append, get_or, take, add-one, map, refl, sym, ap, subst, ◌∙◌, arith, Global, Vec}
use Rattle.std.specs.Prelude.{Option, None, Some, slice_get, Result, Ok, Err, IfErr, IfOk, flat_map}
use Rattle.std.specs.List.{AllByRecursion}
use Rattle.mesa_file.specs.declared.damage.Damage.{Damage}
use Rattle.mesa_compact.specs.mesa_columns.declared.rows.Row.{Row}
use Rattle.mesa_compact.specs.mesa_columns.Columns.{Columns, aggs_of}
use Rattle.mesa_open_files.specs.mesa_fold.Folded.{folded, rows_of}
use Rattle.mesa_batch.specs.Bound.{KeepsBound}
use Rattle.mesa_delta.specs.declared.error.FileError.{FileError}
use Rattle.mesa_delta.specs.declared.error.FileError.TheVariants.{Damaged, Memory, Read}
use Rattle.mesa_delta.specs.declared.input.Input.{Input}
use Rattle.mesa_compact.specs.mesa_scan.Cursors.{IsInput}
use Rattle.mesa_compact.specs.mesa_scan.Cut.{cut}
use Rattle.mesa_merge.specs.Damaged.{IsDamageOf}
use Rattle.mesa_merge.specs.Faults.{HaveFaultCause, NoneFell, SomeRose, faults_of}
use Rattle.mesa_merge.specs.Inputs.{AreTold, knowns_of, lifted_parts}
use Rattle.mesa_merge.proofs.Inputs.{none_fell}
use Rattle.mesa_open_files.specs.GivingBack.{spare_inputs}
use Rattle.mesa_open_files.specs.declared.merging.Spare.{Spare}
use Rattle.mesa_compact.specs.Bounded.{AreBounded}
use Rattle.mesa_compact.proofs.Viewing.{faults_append}
use Rattle.mesa_split.proofs.Collected.{memory_caused}
use Rattle.mesa_split.specs.Lending.{AllTell, HavePieces, IsDamageIn, Moved, Tells, answers_of, counts_in, items_of, knowns_in, lists_of}
use Rattle.mesa_split.specs.Parts.{HasPiece, IsPartOf, IsPieceOf, gained, joined, low_at}
use Rattle.mesa_split.specs.declared.parts.Part.{Part}
use Rattle.mesa_split.specs.Split.{IsFailureOf, IsGained, IsNotBy, IsSomeBy}

-- ---- counts of faults, list by list

abbrev Answers : Type 0
Answers = List (Result (List Row) FileError)

both_fell : (xs ys us vs : List ℕ) → NoneFell xs ys → NoneFell us vs → NoneFell (xs ++ us) (ys ++ vs)
both_fell [] [] us vs h g = g
both_fell [] (y ∷ ys) us vs h g = absurd h
both_fell (x ∷ xs) [] us vs h g = absurd h
both_fell (x ∷ xs) (y ∷ ys) us vs h g = (h.0, both_fell xs ys us vs h.1 g)

rose_here : (xs ys us vs : List ℕ) → SomeRose xs ys → SomeRose (xs ++ us) (ys ++ vs)
rose_here [] ys us vs h = absurd h
rose_here (x ∷ xs) [] us vs h = absurd h
rose_here (x ∷ xs) (y ∷ ys) us vs h = elim h [ inl here ↦ inl here | inr more ↦ inr (rose_here xs ys us vs more) ]

rose_there : (xs ys us vs : List ℕ) → NoneFell xs ys → SomeRose us vs → SomeRose (xs ++ us) (ys ++ vs)
rose_there [] [] us vs h g = g
rose_there [] (y ∷ ys) us vs h g = absurd h
rose_there (x ∷ xs) [] us vs h g = absurd h
rose_there (x ∷ xs) (y ∷ ys) us vs h g = inr (rose_there xs ys us vs h.1 g)

-- all counts
abbrev flat : List (List ℕ) → List ℕ
flat [] = []
flat (b ∷ bs) = b ++ flat bs

flat_fell : (bs ns : List (List ℕ)) (rs : Answers) → Moved bs ns rs → NoneFell (flat bs) (flat ns)
flat_fell bs ns [] h = subst (λ xs. NoneFell (flat bs) (flat xs)) (sym h) (none_fell (flat bs))
flat_fell [] ns (r ∷ rs) h = absurd h
flat_fell (b ∷ bs) [] (r ∷ rs) h = absurd h
flat_fell (b ∷ bs) (n ∷ ns) (r ∷ rs) h = both_fell b n (flat bs) (flat ns) h.0.later (flat_fell bs ns rs h.1)

rose_by : (b n : List ℕ) (r : Result (List Row) FileError) → HaveFaultCause {T = List Row} {E = FileError} (λ e. e ≡ Read) b n r → r ≡ Err Read → SomeRose b n
rose_by b n r h is = (subst (λ (x : Result (List Row) FileError). HaveFaultCause {T = List Row} {E = FileError} (λ e. e ≡ Read) b n x) is h).failed refl

flat_rose : (bs ns : List (List ℕ)) (rs : Answers) → Moved bs ns rs → IsSomeBy Read rs → SomeRose (flat bs) (flat ns)
flat_rose bs ns [] h some = absurd some
flat_rose [] ns (r ∷ rs) h some = absurd h
flat_rose (b ∷ bs) [] (r ∷ rs) h some = absurd h
flat_rose (b ∷ bs) (n ∷ ns) (r ∷ rs) h some = elim some [
  | inl is ↦ rose_here b n (flat bs) (flat ns) (rose_by b n r h.0 is)
  | inr more ↦ rose_there b n (flat bs) (flat ns) h.0.later (flat_rose bs ns rs h.1 more)
]

-- where no read failed, no count moved
pub moved_same : (bs ns : List (List ℕ)) (rs : Answers) → Moved bs ns rs → AllByRecursion (IsNotBy Read) rs → ns ≡ bs
moved_same bs ns [] h none = h
moved_same [] ns (r ∷ rs) h none = absurd h
moved_same (b ∷ bs) [] (r ∷ rs) h none = absurd h
moved_same (b ∷ bs) (n ∷ ns) (Ok v ∷ rs) h none = λ i. h.0.quiet i ∷ moved_same bs ns rs h.1 none.1 i
moved_same (b ∷ bs) (n ∷ ns) (Err e ∷ rs) h none = λ i. h.0.other (λ is. none.0 (ap Err is)) i ∷ moved_same bs ns rs h.1 none.1 i

pub gained_not : (rs : Answers) → AllByRecursion IsGained rs → AllByRecursion (IsNotBy Read) rs
gained_not [] all = tt
gained_not (Ok v ∷ rs) all = ((λ (is : Ok v ≡ Err Read). cc), gained_not rs all.1)
gained_not (Err e ∷ rs) all = absurd all.0

caused_failure : {T : Type 0} (bs ns : List (List ℕ)) (rs : Answers) (e : FileError) → Moved bs ns rs → IsFailureOf rs (Some e) → HaveFaultCause {T = T} {E = FileError} (λ x. x ≡ Read) (flat bs) (flat ns) (Err e)
caused_failure bs ns rs e h why = record {
  later = flat_fell bs ns rs h;
  failed = λ is. flat_rose bs ns rs h (subst (λ x. IsSomeBy x rs) is why.0);
  quiet = tt;
  other = λ never. elim why.1 [
    | inl is ↦ absurd (never is)
    | inr none ↦ ap flat (moved_same bs ns rs h none)
  ];
}

caused_gained : {T : Type 0} (bs ns : List (List ℕ)) (rs : Answers) (v : T) → Moved bs ns rs → AllByRecursion IsGained rs → HaveFaultCause {T = T} {E = FileError} (λ x. x ≡ Read) (flat bs) (flat ns) (Ok v)
caused_gained bs ns rs v h all = record {
  later = flat_fell bs ns rs h;
  failed = tt;
  quiet = ap flat (moved_same bs ns rs h (gained_not rs all));
  other = tt;
}

-- ---- of inputs

module _ {R : Type 0} (faults : R → ℕ) where
  abbrev counts_of : List (List (Input R)) → List (List ℕ)
  counts_of lists = map (faults_of faults) lists

  flat_spares : (ss : List (Spare R)) → faults_of faults (flat_map spare_inputs ss) ≡ flat (counts_of (items_of (map (λ (s : Spare R). s.inputs) ss)))
  flat_spares [] = refl
  flat_spares (s ∷ ss) = faults_append faults s.inputs.items (flat_map spare_inputs ss) ∙ ap (λ ns. faults_of faults s.inputs.items ++ ns) (flat_spares ss)

  flat_lists : (inputs : Vec (Input R) Global) (ss : List (Spare R)) → faults_of faults (inputs.items ++ flat_map spare_inputs ss) ≡ flat (counts_of (items_of (lists_of inputs ss)))
  flat_lists inputs ss = faults_append faults inputs.items (flat_map spare_inputs ss) ∙ ap (λ ns. faults_of faults inputs.items ++ ns) (flat_spares ss)

  -- the counts of a task's lists moved as the answers say
  pub caused_lists : {T : Type 0} (old new : Vec (Input R) Global) (os ns : List (Spare R)) (rs : Answers) (e : FileError) → Moved (counts_of (items_of (lists_of old os))) (counts_of (items_of (lists_of new ns))) rs → IsFailureOf rs (Some e)
      → HaveFaultCause {T = T} {E = FileError} (λ x. x ≡ Read) (faults_of faults (old.items ++ flat_map spare_inputs os)) (faults_of faults (new.items ++ flat_map spare_inputs ns)) (Err e)
  caused_lists {T = T} old new os ns rs e h why =
      subst (λ xs. HaveFaultCause {T = T} {E = FileError} (λ x. x ≡ Read) xs (faults_of faults (new.items ++ flat_map spare_inputs ns)) (Err e)) (sym (flat_lists old os))
      (subst (λ xs. HaveFaultCause {T = T} {E = FileError} (λ x. x ≡ Read) (flat (counts_of (items_of (lists_of old os)))) xs (Err e)) (sym (flat_lists new ns)) (caused_failure {T = T} _ _ rs e h why))

  pub gained_lists : {T : Type 0} (old new : Vec (Input R) Global) (os ns : List (Spare R)) (rs : Answers) (v : T) → Moved (counts_of (items_of (lists_of old os))) (counts_of (items_of (lists_of new ns))) rs → AllByRecursion IsGained rs
      → HaveFaultCause {T = T} {E = FileError} (λ x. x ≡ Read) (faults_of faults (old.items ++ flat_map spare_inputs os)) (faults_of faults (new.items ++ flat_map spare_inputs ns)) (Ok v)
  gained_lists {T = T} old new os ns rs v h all =
      subst (λ xs. HaveFaultCause {T = T} {E = FileError} (λ x. x ≡ Read) xs (faults_of faults (new.items ++ flat_map spare_inputs ns)) (Ok v)) (sym (flat_lists old os))
      (subst (λ xs. HaveFaultCause {T = T} {E = FileError} (λ x. x ≡ Read) (flat (counts_of (items_of (lists_of old os)))) xs (Ok v)) (sym (flat_lists new ns)) (caused_gained _ _ rs v h all))

  -- where no list was touched no count moved
  pub unread_lists : {T : Type 0} (old new : Vec (Input R) Global) (os ns : List (Spare R)) → lists_of new ns ≡ lists_of old os
      → HaveFaultCause {T = T} {E = FileError} (λ x. x ≡ Read) (faults_of faults (old.items ++ flat_map spare_inputs os)) (faults_of faults (new.items ++ flat_map spare_inputs ns)) (Err Memory)
  unread_lists {T = T} old new os ns same =
      memory_caused {T = T} _ _ (flat_lists new ns ∙ ap (λ (ls : List (Vec (Input R) Global)). flat (counts_of (items_of ls))) same ∙ sym (flat_lists old os))

-- ---- pieces that were merged side by side

part_told : {R : Type 0} (bytes : R → Option (List ℕ)) (s : Columns) (own other : List (Input R)) (low high : Option (List ℕ)) (rows : List Row) → Tells bytes own other → IsPartOf s low high (knowns_of bytes other) rows → IsPartOf s low high (knowns_of bytes own) rows
part_told bytes s own other low high rows tells p = record {
  form = p.form;
  rise = p.rise;
  within = p.within;
  told = λ contents told. (let both = tells contents told in p.told contents both.0 ∙ ap (λ parts. cut low high (folded (aggs_of s) parts)) both.1);
}

-- the rows of a piece, told by the own inputs
pub piece_told : {R : Type 0} (bytes : R → Option (List ℕ)) (s : Columns) (cuts : List (List ℕ)) (at : ℕ) (own other : List (Input R)) (r : Result (List Row) FileError) → Tells bytes own other → IfOk r (IsPieceOf s cuts at (knowns_of bytes other)) → IsGained r → IsPieceOf s cuts at (knowns_of bytes own) (gained r)
piece_told bytes s cuts at own other (Ok rows) tells h all = ((λ le. part_told bytes s own other (low_at None cuts at) (slice_get cuts at) rows tells (h.0 le)), h.1)
piece_told bytes s cuts at own other (Err e) tells h all = absurd all

module _ {R : Type 0} (bytes : R → Option (List ℕ)) (faults size : R → ℕ) (s : Columns) (cuts : List (List ℕ)) where
  abbrev Pieces : ℕ → List (Part R) → List (Part R) → Type 0
  Pieces at os ns = HavePieces bytes faults size s cuts at os ns

  pub pieces_moved : (at : ℕ) (os ns : List (Part R)) → Pieces at os ns → Moved (counts_in faults os) (counts_in faults ns) (answers_of ns)
  pieces_moved at [] [] h = refl
  pieces_moved at [] (n ∷ ns) h = absurd h
  pieces_moved at (o ∷ os) [] h = absurd h
  pieces_moved at (o ∷ os) (n ∷ ns) h = (h.0.cause, pieces_moved (suc at) os ns h.1)

  pub pieces_known : (at : ℕ) (os ns : List (Part R)) → Pieces at os ns → knowns_in bytes ns ≡ knowns_in bytes os
  pieces_known at [] [] h = refl
  pieces_known at [] (n ∷ ns) h = absurd h
  pieces_known at (o ∷ os) [] h = absurd h
  pieces_known at (o ∷ os) (n ∷ ns) h = λ i. h.0.known i ∷ pieces_known (suc at) os ns h.1 i

  pub pieces_inputs : (at : ℕ) (os ns : List (Part R)) → Pieces at os ns → AllByRecursion (λ (p : Part R). AllByRecursion (IsInput bytes) p.inputs.items) ns
  pieces_inputs at [] [] h = tt
  pieces_inputs at [] (n ∷ ns) h = absurd h
  pieces_inputs at (o ∷ os) [] h = absurd h
  pieces_inputs at (o ∷ os) (n ∷ ns) h = (h.0.inputs, pieces_inputs (suc at) os ns h.1)

  -- damage that a part met is of its inputs
  pub pieces_damaged : (at : ℕ) (os ns : List (Part R)) (d : Damage) → Pieces at os ns → IsSomeBy (Damaged d) (answers_of ns) → IsDamageIn bytes size ns d
  pieces_damaged at [] [] d h some = absurd some
  pieces_damaged at [] (n ∷ ns) d h some = absurd h
  pieces_damaged at (o ∷ os) [] d h some = absurd h
  pieces_damaged at (o ∷ os) (n ∷ ns) d h some = elim some [
    | inl is ↦ inl ((subst (λ (x : Result (List Row) FileError). IfErr x (λ e. (y : Damage) → e ≡ Damaged y → IsDamageOf bytes size n.inputs.items y)) is h.0.damaged) d refl)
    | inr more ↦ inr (pieces_damaged (suc at) os ns d h.1 more)
  ]

  accepted_one : (own other n : List (Input R)) (at : ℕ) (r : Result (List Row) FileError) (d : Damage) → Tells bytes own other → HasPiece bytes faults size s cuts at other n r → r ≡ Err (Damaged d) → AreBounded s (knowns_of bytes own) → ⊥
  accepted_one own other n at r d tells h is b =
      let both = tells b.contents b.told in
      (subst (λ (x : Result (List Row) FileError). IfErr x (λ e. (y : Damage) → e ≡ Damaged y → (contents : List (List Row)) → AreTold (knowns_of bytes other) contents
      → KeepsBound (aggs_of s) [] (rows_of (lifted_parts (knowns_of bytes other) contents)) → ⊥)) is h.accepts) d refl b.contents both.0 (subst (λ parts. KeepsBound (aggs_of s) [] (rows_of parts)) (sym both.1) b.bound)

  pub pieces_accept : (own : List (Input R)) (at : ℕ) (os ns : List (Part R)) (d : Damage) → Pieces at os ns → AllTell bytes own os → IsSomeBy (Damaged d) (answers_of ns) → AreBounded s (knowns_of bytes own) → ⊥
  pieces_accept own at [] [] d h tells some b = absurd some
  pieces_accept own at [] (n ∷ ns) d h tells some b = absurd h
  pieces_accept own at (o ∷ os) [] d h tells some b = absurd h
  pieces_accept own at (o ∷ os) (n ∷ ns) d h tells some b = elim some [
    | inl is ↦ accepted_one own o.inputs.items n.inputs.items at n.rows d tells.0 h.0 is b
    | inr more ↦ pieces_accept own (suc at) os ns d h.1 tells.1 more b
  ]

-- ---- part by part

pub some_at : (e : FileError) (rs : Answers) (i : ℕ) (r : Result (List Row) FileError) → i < length rs → r ≡ get_or rs i r → r ≡ Err e → IsSomeBy e rs
some_at e [] i r lt at is = absurd (omega (arith, lt))
some_at e (x ∷ xs) zero r lt at is = inl (sym at ∙ is)
some_at e (x ∷ xs) (suc i) r lt at is = inr (some_at e xs i r (omega (arith, lt)) at is)

pub all_more : (P : Result (List Row) FileError → Type 0) (rs : Answers) (i : ℕ) (r : Result (List Row) FileError) → i < length rs → r ≡ get_or rs i r → AllByRecursion P (take i rs) → P r → AllByRecursion P (take (i + 1) rs)
all_more P rs i r lt at all one = rw add-one (steps rs i r lt at all one) where
  steps : (rs : Answers) (i : ℕ) (r : Result (List Row) FileError) → i < length rs → r ≡ get_or rs i r → AllByRecursion P (take i rs) → P r → AllByRecursion P (take (suc i) rs)
  steps [] i r lt at all one = absurd (omega (arith, lt))
  steps (x ∷ xs) zero r lt at all one = (subst P at one, tt)
  steps (x ∷ xs) (suc i) r lt at all one = (all.0, steps xs i r (omega (arith, lt)) at all.1 one)

pub joined_some : (rs : Answers) (i : ℕ) (r : Result (List Row) FileError) → i < length rs → r ≡ get_or rs i r → 0 < length (gained r) → 0 < length (joined rs)
joined_some [] i r lt at some = absurd (omega (arith, lt))
joined_some (x ∷ xs) zero r lt at some = let one : length (gained r) ≡ length (gained x) = ap (λ (y : Result (List Row) FileError). length (gained y)) at in omega (arith, some, one, length-append (gained x) (joined xs))
joined_some (x ∷ xs) (suc i) r lt at some = omega (arith, joined_some xs i r (omega (arith, lt)) at some, length-append (gained x) (joined xs))

-- all of a list are its first
pub all_of : {A : Type 0} (xs : List A) (n : ℕ) → length xs ≤ n → take n xs ≡ xs
all_of [] zero le = refl
all_of [] (suc n) le = refl
all_of (x ∷ xs) zero le = absurd (omega (arith, le))
all_of (x ∷ xs) (suc n) le = ap (λ ys. x ∷ ys) (all_of xs n (omega (arith, le)))
