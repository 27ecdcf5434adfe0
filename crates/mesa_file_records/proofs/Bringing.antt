-- Singletons are rewritten one after the other: what was brought so far, and what is still there.
use Rattle.std.proofs.Common.{◌≡◌, ℕ, ◌+◌, ◌<◌, ◌≤◌, List, [], ◌∷◌, ◌++◌, length, take, drop, get_or, refl, sym, ◌∙◌, ap, subst, arith, Option, None, Some, append_assoc}
use Rattle.std.specs.List.{AllByRecursion}
use Rattle.std.proofs.lemmas.List.Concat.{flat_map-append}
use Rattle.std.proofs.lemmas.List.{append-nil, drop_more, length-map, length_push, map_push, take_all, take_more}
use Rattle.mesa_record.specs.declared.record.Files.{Files}
use Rattle.mesa_record.specs.declared.checkpoint.CheckpointSingle.{CheckpointSingle}
use Rattle.mesa_engine.specs.mesa_store_spec.Rewritten.{Rewritten}
use Rattle.mesa_catalog_table.specs.Meaning.{AreLoaded}
use Rattle.mesa_catalog_table.specs.declared.table.Loaded.{Loaded}
use Rattle.mesa_open_files.specs.declared.recasting.RecastedRange.{RecastedRange}
use Rattle.mesa_file_records.specs.Adopted.{ref_under, told_under}
use Rattle.mesa_file_records.proofs.Lists.{told_joined}
use Rattle.mesa_file_records.specs.Recasts.{AreSinglesRewritten, AreTaken, HasFile, HasFileAt, IsSingleRewritten, IsTaken, Took, files_taken, rewritten_under, single_in, singles_in, with_file}
use Rattle.mesa_file_records.proofs.Brought.{rewritten_joined}
use Rattle.mesa_file_records.proofs.Listed.{rewritten_as}
use Rattle.mesa_file_records.proofs.TakenFiles.{taken_joined}

-- ---- how many there are

-- each that is taken is one fewer
pub fewer_left : {M : Type 0} (old : List (RecastedRange M)) (taken : List (Took M)) (left : List (RecastedRange M)) → AreTaken old taken left → length taken + length left ≤ length old
fewer_left old [] left are = (let same = ap length are in omega (arith, same))
fewer_left old (k ∷ taken) left are = (let few = are.1.fewer in omega (arith, few, fewer_left are.0 taken left are.2))

pub one_there : {M : Type 0} (ys : List (RecastedRange M)) (from to : ℕ) → HasFile ys from to → 0 < length ys
one_there [] from to has = absurd has
one_there (y ∷ ys) from to has = omega arith

-- ---- what is still there

-- each of these versions with rows is among ranges, with a file
abbrev pub AreThere : {M : Type 0} → List (RecastedRange M) → List Loaded → Type 0
AreThere ys loaded = AllByRecursion (λ (l : Loaded). HasFileAt ys l.version l.version l.delta.value.files) loaded

module _ {M : Type 0} where
  version_there : (old : List (RecastedRange M)) (k : Took M) (left : List (RecastedRange M)) (version : ℕ) (files : Option Files) → IsTaken old k left → k.range.to < version → HasFileAt old version version files → HasFileAt left version version files
  version_there old k left version None took lt has = tt
  version_there old k left version (Some f) took lt has = took.others version version (λ from to. absurd (omega (arith, to, lt))) has

  -- they stay while one of a lower version is taken,
  pub still_there : (old : List (RecastedRange M)) (k : Took M) (left : List (RecastedRange M)) (from next : ℕ) (loaded : List Loaded) → IsTaken old k left → k.range.to < from → AreLoaded from next loaded → AreThere old loaded → AreThere left loaded
  still_there old k left from next [] took lt rise has = tt
  still_there old k left from next (l ∷ loaded) took lt rise has =
      let low : k.range.to < l.version = (let le = rise.0 in omega (arith, lt, le)) in
      (version_there old k left l.version l.delta.value.files took low has.0, still_there old k left (l.version + 1) next loaded took (omega (arith, low)) rise.2 has.1)

  -- and while several are
  pub still_all : (old : List (RecastedRange M)) (id : ℕ) (taken : List (Took M)) (left : List (RecastedRange M)) (from next : ℕ) (loaded : List Loaded) → AreTaken old taken left → AllByRecursion (λ (x : Rewritten). x.to < from) (rewritten_under id taken) → AreLoaded from next loaded → AreThere old loaded → AreThere left loaded
  still_all old id [] left from next loaded are low rise has = subst (λ (ys : List (RecastedRange M)). AreThere ys loaded) are has
  still_all old id (k ∷ taken) left from next loaded are low rise has = still_all are.0 (id + 1) taken left from next loaded are.2 low.1 rise (still_there old k are.0 from next loaded are.1 low.0 rise has)

  -- What is to come: these versions with rows are among the ranges that are left.
  pub record IsAhead (left : List (RecastedRange M)) (loaded : List Loaded) : Type 0 where
    pub from : ℕ
    pub next : ℕ
    pub rise : AreLoaded from next loaded
    pub there : AreThere left loaded

  module _ (left : List (RecastedRange M)) (loaded : List Loaded) (i : ℕ) (x : Loaded) (lt : i < length loaded) (is : x ≡ get_or loaded i x) (ahead : IsAhead left (drop i loaded)) where
    cut : drop i loaded ≡ x ∷ drop (i + 1) loaded
    cut = drop_more loaded i x lt ∙ ap (λ (y : Loaded). y ∷ drop (i + 1) loaded) (sym is)

    front : IsAhead left (x ∷ drop (i + 1) loaded)
    front = subst (IsAhead left) cut ahead

    pub its_file : HasFileAt left x.version x.version x.delta.value.files
    its_file = front.there.0

    -- the next of them brings nothing,
    pub ahead_past : IsAhead left (drop (i + 1) loaded)
    ahead_past = record { from = x.version + 1; next = front.next; rise = front.rise.2; there = front.there.1 }

    -- or its range is taken
    pub ahead_taken : (k : Took M) (then : List (RecastedRange M)) → IsTaken left k then → k.range.to ≡ x.version → IsAhead then (drop (i + 1) loaded)
    ahead_taken k then took to = record {
      from = x.version + 1;
      next = front.next;
      rise = front.rise.2;
      there = still_there left k then (x.version + 1) front.next (drop (i + 1) loaded) took (omega (arith, to)) front.rise.2 front.there.1;
    }

-- ---- what was brought so far

one_more : (epoch : ℕ) (sources : List (ℕ × Files)) (xs : List Rewritten) (ss : List CheckpointSingle) (f : ℕ × Files) (x : Rewritten) (s : CheckpointSingle)
    → AreSinglesRewritten epoch sources xs ss → IsSingleRewritten epoch f.0 f.1 x s → AreSinglesRewritten epoch (sources ++ f ∷ []) (xs ++ x ∷ []) (ss ++ s ∷ [])
one_more epoch [] [] [] f x s are one = (one, tt)
one_more epoch [] [] (z ∷ ss) f x s are one = absurd are
one_more epoch [] (y ∷ xs) ss f x s are one = absurd are
one_more epoch (g ∷ sources) [] ss f x s are one = absurd are
one_more epoch (g ∷ sources) (y ∷ xs) [] f x s are one = absurd are
one_more epoch (g ∷ sources) (y ∷ xs) (z ∷ ss) f x s are one = (are.0, one_more epoch sources xs ss f x s are.1 one)

abbrev source_of : Loaded → List (ℕ × Files)
source_of l = single_in l.version l.delta.value.files

module _ {M : Type 0} (bytes : M → Option (List ℕ)) (old : List (RecastedRange M)) (id epoch : ℕ) (files : List (ℕ × Option (List ℕ))) where
  -- These versions are rewritten: their ranges were taken, and their files have the ids from one on.
  pub record AreBrought (passed : List Loaded) (left : List (RecastedRange M)) (singles : List CheckpointSingle) (next : ℕ) (made : List (ℕ × Option (List ℕ))) : Type 0 where
    pub taken : List (Took M)
    pub are : AreTaken old taken left
    pub rewritten : AreSinglesRewritten epoch (singles_in passed) (rewritten_under id taken) singles
    pub next_is : next ≡ id + length taken
    pub made_is : made ≡ files ++ told_under bytes id (files_taken taken)

  pub same_brought : (passed : List Loaded) (left then : List (RecastedRange M)) (singles more : List CheckpointSingle) (next later : ℕ) (made all : List (ℕ × Option (List ℕ))) → then ≡ left → more ≡ singles → later ≡ next → all ≡ made → AreBrought passed left singles next made → AreBrought passed then more later all
  same_brought passed left then singles more next later made all a b d e brought = record {
    taken = brought.taken;
    are = subst (AreTaken old brought.taken) (sym a) brought.are;
    rewritten = subst (AreSinglesRewritten epoch (singles_in passed) (rewritten_under id brought.taken)) (sym b) brought.rewritten;
    next_is = d ∙ brought.next_is;
    made_is = e ∙ brought.made_is;
  }

  pub none_brought : AreBrought [] old [] id files
  none_brought = record { taken = []; are = refl; rewritten = tt; next_is = omega arith; made_is = sym (append-nil files) }

  module _ (passed : List Loaded) (left : List (RecastedRange M)) (singles : List CheckpointSingle) (next : ℕ) (made : List (ℕ × Option (List ℕ))) (so_far : AreBrought passed left singles next made) (l : Loaded) where
    sources_more : (o : Option Files) → l.delta.value.files ≡ o → singles_in (passed ++ l ∷ []) ≡ singles_in passed ++ single_in l.version o
    sources_more o is = flat_map-append source_of passed (l ∷ []) ∙ ap (λ (more : List (ℕ × Files)). singles_in passed ++ more) (append-nil (source_of l) ∙ ap (single_in l.version) is)

    -- a version without rows brings nothing
    pub past_empty : l.delta.value.files ≡ None → AreBrought (passed ++ l ∷ []) left singles next made
    past_empty none = record {
      taken = so_far.taken;
      are = so_far.are;
      rewritten = subst (λ (sources : List (ℕ × Files)). AreSinglesRewritten epoch sources (rewritten_under id so_far.taken) singles) (sym (sources_more None none ∙ append-nil (singles_in passed))) so_far.rewritten;
      next_is = so_far.next_is;
      made_is = so_far.made_is;
    }

    -- and one with rows its file
    pub past_taken : (f : Files) → l.delta.value.files ≡ Some f → (k : Took M) (then : List (RecastedRange M)) → IsTaken left k then → k.range.from ≡ l.version → k.range.to ≡ l.version → (s : CheckpointSingle)
        → s ≡ record { version = l.version; epoch = epoch; files = with_file f (ref_under next k.file); totals = k.range.totals } → (later : ℕ) → later ≡ next + 1 → (all : List (ℕ × Option (List ℕ))) → all ≡ made ++ told_under bytes next (k.file ∷ [])
        → AreBrought (passed ++ l ∷ []) then (singles ++ s ∷ []) later all
    past_taken f some k then took from to s told later one all more = record {
      taken = so_far.taken ++ k ∷ [];
      are = taken_joined old so_far.taken left (k ∷ []) then so_far.are (then, took, refl);
      rewritten = subst (λ (sources : List (ℕ × Files)). AreSinglesRewritten epoch sources (rewritten_under id (so_far.taken ++ k ∷ [])) (singles ++ s ∷ [])) (sym (sources_more (Some f) some))
          (subst (λ (xs : List Rewritten). AreSinglesRewritten epoch (singles_in passed ++ (l.version, f) ∷ []) xs (singles ++ s ∷ [])) (sym names)
          (one_more epoch (singles_in passed) (rewritten_under id so_far.taken) singles (l.version, f) (rewritten_as next k) s so_far.rewritten (record { file = ref_under next k.file; has = refl; from = from; to = to; told = told })));
      next_is = (let before = so_far.next_is in omega (arith, one, before, length_push so_far.taken k));
      made_is = more ∙ ap (λ (fs : List (ℕ × Option (List ℕ))). fs ++ told_under bytes next (k.file ∷ [])) so_far.made_is ∙ files_more;
    }
      where
        names : rewritten_under id (so_far.taken ++ k ∷ []) ≡ rewritten_under id so_far.taken ++ rewritten_as next k ∷ []
        names = rewritten_joined id so_far.taken (k ∷ []) ∙ ap (λ n. rewritten_under id so_far.taken ++ rewritten_as n k ∷ []) (sym so_far.next_is)

        place : id + length (files_taken so_far.taken) ≡ next
        place = (let before = so_far.next_is in omega (arith, before, length-map so_far.taken (λ (x : Took M). x.file)))

        files_more : (files ++ told_under bytes id (files_taken so_far.taken)) ++ told_under bytes next (k.file ∷ []) ≡ files ++ told_under bytes id (files_taken (so_far.taken ++ k ∷ []))
        files_more =
            append_assoc files (told_under bytes id (files_taken so_far.taken)) (told_under bytes next (k.file ∷ []))
            ∙ ap (λ (fs : List (ℕ × Option (List ℕ))). files ++ fs)
            (sym (ap (told_under bytes id) (map_push (λ (x : Took M). x.file) so_far.taken k) ∙ told_joined bytes id (files_taken so_far.taken) (k.file ∷ []) ∙ ap (λ n. told_under bytes id (files_taken so_far.taken) ++ told_under bytes n (k.file ∷ [])) place))

  -- one further along the list
  pub one_further : (loaded : List Loaded) (i : ℕ) (x : Loaded) → i < length loaded → x ≡ get_or loaded i x → (left : List (RecastedRange M)) (singles : List CheckpointSingle) (next : ℕ) (made : List (ℕ × Option (List ℕ)))
      → AreBrought (take i loaded ++ x ∷ []) left singles next made → AreBrought (take (i + 1) loaded) left singles next made
  one_further loaded i x lt is left singles next made brought =
      subst (λ (passed : List Loaded). AreBrought passed left singles next made) (ap (λ (y : Loaded). take i loaded ++ y ∷ []) is ∙ sym (take_more loaded i x lt)) brought

  -- and at its end
  pub all_further : (loaded : List Loaded) (i : ℕ) → length loaded ≤ i → (left : List (RecastedRange M)) (singles : List CheckpointSingle) (next : ℕ) (made : List (ℕ × Option (List ℕ))) → AreBrought (take i loaded) left singles next made → AreBrought loaded left singles next made
  all_further loaded i le left singles next made brought = subst (λ (passed : List Loaded). AreBrought passed left singles next made) (take_all i loaded le) brought

  -- there is an id for one more
  pub room_there : (loaded : List Loaded) (left : List (RecastedRange M)) (singles : List CheckpointSingle) (next : ℕ) (made : List (ℕ × Option (List ℕ))) (bound : ℕ) → AreBrought loaded left singles next made → id + length old < bound → (from to : ℕ) → HasFile left from to → next + 1 < bound
  room_there loaded left singles next made bound brought room from to has =
      let few = fewer_left old brought.taken left brought.are in
      let one = one_there left from to has in
      let at = brought.next_is in
      omega (arith, room, few, one, at)
