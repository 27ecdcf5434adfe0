use Rattle.std.proofs.Common.{◌≡◌, Result, Ok, Err, OnErr, ℕ, List, Option, ◌++◌, [], ◌∷◌, length, refl, sym, ◌∙◌, ap, subst, arith, rules, append_assoc}
use Rattle.std.proofs.lemmas.List.{append-nil, map-append, nil_from_length}
use Rattle.std.specs.Vec.Iter.{into_iter_items}
use Rattle.mesa_disk.specs.Story.{Steps, After, Follows, Elapses}
use Rattle.mesa_disk.specs.Image.{Adopts, May}
use Rattle.mesa_disk.specs.Files.{InTurn, AddsFirst, AddsSome, AreAbsent, HasDistinctIds, HasOtherIds, OthersStay, files_of}
use Rattle.mesa_disk.proofs.Rounds.{Moving, nothing_done, tried, run_tried, told_tried, one_more, steps_weaker, first_all, some_tried, still_absent}
use Rattle.mesa_disk.proofs.Others.{adds_first_only, adds_there}
use Rattle.mesa_disk.proofs.moving.adopt_all.Goals as goal

pub loop-adoption-init : goal.loop-adoption-init
loop-adoption-init g c =
    let files = files_of g.M.Made.bytes in
    let given = c.into_iter-adoption-iterator.ensures.into_iter_gives in
    let items = sym given.0 in
    record {
      items = refl;
      size = search rules;
      distinct = subst (λ l. HasDistinctIds (files l)) items c.requires.distinct;
      absent = λ i e. subst (λ l. AreAbsent (files l) i) items (c.requires.new i e);
      moving = nothing_done Adopts (May Adopts) AddsSome _ (g.D.Disk.story c.args.disk.now);
      len = λ a. refl;
      faults = refl;
      read_faults = refl;
    }

pub adopt-requires : goal.adopt-requires
adopt-requires g c i e =
    let files = files_of g.M.Made.bytes in
    let steps : into_iter_items c.loop-adoption.adoption-iterator ≡ c.in-Some.adoption ∷ into_iter_items c.next.new.self = c.in-Some.ensures.steps.0 in
    (subst (λ l. AreAbsent (files l) i) steps (c.loop-adoption.invariant.absent i e)).0

pub loop-adoption-preserved : goal.loop-adoption-preserved
loop-adoption-preserved g c =
    let story = g.D.Disk.story in
    let start = story c.args.disk.now in
    let mid = story c.loop-adoption.disk in
    let new = story c.adopt.new.self in
    let files = files_of g.M.Made.bytes in
    let at = c.loop-adoption in
    let x = c.in-Some.adoption in
    let steps : into_iter_items at.adoption-iterator ≡ x ∷ into_iter_items c.next.new.self = c.in-Some.ensures.steps.0 in
    let rest = files (into_iter_items c.next.new.self) in
    let done = files at.yielded in
    let file : ℕ × Option (List ℕ) = (x.id, g.M.Made.bytes x.made) in
    let moving = subst (λ l. Moving Adopts (May Adopts) AddsSome done (files l) start mid) steps at.invariant.moving in
    let distinct = subst (λ l. HasDistinctIds (files l)) steps at.invariant.distinct in
    let more = one_more Adopts (May Adopts) AddsSome (λ y a b is. is) done file rest (some_tried Adopts done file rest) start mid new moving
    c.in_ok-adopt.ensures.adopted c.adopt.ensures.crash c.adopt.ensures.time in
    let gone = c.in-Some.ensures.steps.1 in
    let short = ap length steps in
    record {
      items = append_assoc at.yielded (x ∷ []) _ ∙ rw (← steps) at.invariant.items;
      size = let was = at.invariant.size in omega arith;
      distinct = distinct.1;
      absent = λ j e.
          let from = c.in_ok-adopt.ensures.adopted.back j e in
          still_absent x.id (g.M.Made.bytes x.made) rest from.0 j distinct.0 from.2 (subst (λ l. AreAbsent (files l) from.0) steps (at.invariant.absent from.0 from.1)).1;
      moving = subst (λ l. Moving Adopts (May Adopts) AddsSome l rest start new) (sym (map-append _ at.yielded (x ∷ []))) more;
      len = λ a. c.adopt.ensures.len a ∙ at.invariant.len a;
      faults = c.in_ok-adopt.ensures.cause.quiet ∙ at.invariant.faults;
      read_faults = c.adopt.ensures.read_cause ∙ at.invariant.read_faults;
    }

pub returns-in_err-adopt-clause-partly : goal.returns-in_err-adopt-clause-partly
returns-in_err-adopt-clause-partly g c =
    let story = g.D.Disk.story in
    let start = story c.args.disk.now in
    let mid = story c.loop-adoption.disk in
    let new = story c.adopt.new.self in
    let files = files_of g.M.Made.bytes in
    let at = c.loop-adoption in
    let x = c.in-Some.adoption in
    let steps : into_iter_items at.adoption-iterator ≡ x ∷ into_iter_items c.next.new.self = c.in-Some.ensures.steps.0 in
    let rest = files (into_iter_items c.next.new.self) in
    let done = files at.yielded in
    let file : ℕ × Option (List ℕ) = (x.id, g.M.Made.bytes x.made) in
    let moving = subst (λ l. Moving Adopts (May Adopts) AddsSome done (files l) start mid) steps at.invariant.moving in
    let whole : done ++ file ∷ rest ≡ files c.args.made.items =
    sym (map-append _ at.yielded (x ∷ into_iter_items c.next.new.self))
    ∙ ap files (ap (λ l. at.yielded ++ l) (sym steps) ∙ at.invariant.items ∙ c.into_iter-adoption-iterator.ensures.into_iter_gives.0) in
    subst (λ l. Steps (AddsFirst l) start.told new.told) whole
    (told_tried Adopts (May Adopts) AddsSome (λ y a b is. is) done file rest (some_tried Adopts done file rest) start mid new moving c.adopt.ensures.whole)

pub returns-in_err-adopt-clause-only : goal.returns-in_err-adopt-clause-only
returns-in_err-adopt-clause-only g c =
    let files = files_of g.M.Made.bytes c.args.made.items in
    steps_weaker (AddsFirst files) (OthersStay (λ id. HasOtherIds id files)) (adds_first_only files) _ _ (returns-in_err-adopt-clause-partly g c)

pub returns-in_err-adopt-clause-any_moment : goal.returns-in_err-adopt-clause-any_moment
returns-in_err-adopt-clause-any_moment g c =
    let story = g.D.Disk.story in
    let start = story c.args.disk.now in
    let mid = story c.loop-adoption.disk in
    let new = story c.adopt.new.self in
    let files = files_of g.M.Made.bytes in
    let at = c.loop-adoption in
    let x = c.in-Some.adoption in
    let steps : into_iter_items at.adoption-iterator ≡ x ∷ into_iter_items c.next.new.self = c.in-Some.ensures.steps.0 in
    let rest = files (into_iter_items c.next.new.self) in
    let done = files at.yielded in
    let file : ℕ × Option (List ℕ) = (x.id, g.M.Made.bytes x.made) in
    let moving = subst (λ l. Moving Adopts (May Adopts) AddsSome done (files l) start mid) steps at.invariant.moving in
    let whole : done ++ file ∷ rest ≡ files c.args.made.items =
    sym (map-append _ at.yielded (x ∷ into_iter_items c.next.new.self))
    ∙ ap files (ap (λ l. at.yielded ++ l) (sym steps) ∙ at.invariant.items ∙ c.into_iter-adoption-iterator.ensures.into_iter_gives.0) in
    subst (λ l. Elapses (After (AddsSome l) start.may_leave) start new) whole
    (run_tried Adopts (May Adopts) AddsSome (λ y a b is. is) done file rest (some_tried Adopts done file rest) start mid new moving c.adopt.ensures.crash c.adopt.ensures.time)

pub returns-in_err-adopt-clause-left : goal.returns-in_err-adopt-clause-left
returns-in_err-adopt-clause-left g c =
    let story = g.D.Disk.story in
    let start = story c.args.disk.now in
    let mid = story c.loop-adoption.disk in
    let new = story c.adopt.new.self in
    let files = files_of g.M.Made.bytes in
    let at = c.loop-adoption in
    let x = c.in-Some.adoption in
    let steps : into_iter_items at.adoption-iterator ≡ x ∷ into_iter_items c.next.new.self = c.in-Some.ensures.steps.0 in
    let rest = files (into_iter_items c.next.new.self) in
    let done = files at.yielded in
    let file : ℕ × Option (List ℕ) = (x.id, g.M.Made.bytes x.made) in
    let moving = subst (λ l. Moving Adopts (May Adopts) AddsSome done (files l) start mid) steps at.invariant.moving in
    let whole : done ++ file ∷ rest ≡ files c.args.made.items =
    sym (map-append _ at.yielded (x ∷ into_iter_items c.next.new.self))
    ∙ ap files (ap (λ l. at.yielded ++ l) (sym steps) ∙ at.invariant.items ∙ c.into_iter-adoption-iterator.ensures.into_iter_gives.0) in
    subst (λ l. Follows (AddsSome l) start.may_leave new.may_leave) whole
    (tried Adopts (May Adopts) AddsSome (λ y a b is. is) done file rest (some_tried Adopts done file rest) start mid new moving c.adopt.ensures.crash)

pub returns-clause-adopted : goal.returns-clause-adopted
returns-clause-adopted g c =
    let story = g.D.Disk.story in
    let start = story c.args.disk.now in
    let new = story c.loop-adoption.disk in
    let files = files_of g.M.Made.bytes in
    let at = c.loop-adoption in
    let none = c.in-None.ensures.steps in
    let empty : into_iter_items at.adoption-iterator ≡ [] = nil_from_length _ (sym at.invariant.size ∙ none.0) in
    let all : at.yielded ≡ c.args.made.items = sym (append-nil at.yielded) ∙ rw empty at at.invariant.items ∙ c.into_iter-adoption-iterator.ensures.into_iter_gives.0 in
    let moving = subst (λ l. Moving Adopts (May Adopts) AddsSome (files at.yielded) (files l) start new) empty at.invariant.moving in
    subst (λ l. Steps (InTurn Adopts (files l)) start.told new.told) all moving.told

pub returns-clause-all : goal.returns-clause-all
returns-clause-all g c j is =
    let files = files_of g.M.Made.bytes c.args.made.items in
    let from = (returns-clause-adopted g c).back j is in
    adds_there files from.0 j c.requires.distinct from.2

pub returns-clause-partly : goal.returns-clause-partly
returns-clause-partly g c =
    let files = files_of g.M.Made.bytes c.args.made.items in
    steps_weaker (InTurn Adopts files) (AddsFirst files) (first_all Adopts files) _ _ (returns-clause-adopted g c)

pub returns-clause-only : goal.returns-clause-only
returns-clause-only g c =
    let files = files_of g.M.Made.bytes c.args.made.items in
    steps_weaker (AddsFirst files) (OthersStay (λ id. HasOtherIds id files)) (adds_first_only files) _ _ (returns-clause-partly g c)

pub returns-clause-left : goal.returns-clause-left
returns-clause-left g c =
    let story = g.D.Disk.story in
    let start = story c.args.disk.now in
    let new = story c.loop-adoption.disk in
    let files = files_of g.M.Made.bytes in
    let at = c.loop-adoption in
    let none = c.in-None.ensures.steps in
    let empty : into_iter_items at.adoption-iterator ≡ [] = nil_from_length _ (sym at.invariant.size ∙ none.0) in
    let all : at.yielded ≡ c.args.made.items = sym (append-nil at.yielded) ∙ rw empty at at.invariant.items ∙ c.into_iter-adoption-iterator.ensures.into_iter_gives.0 in
    let moving = subst (λ l. Moving Adopts (May Adopts) AddsSome (files at.yielded) (files l) start new) empty at.invariant.moving in
    subst (λ l. Follows (AddsSome (files l)) start.may_leave new.may_leave) all moving.left

pub returns-clause-any_moment : goal.returns-clause-any_moment
returns-clause-any_moment g c =
    let story = g.D.Disk.story in
    let start = story c.args.disk.now in
    let new = story c.loop-adoption.disk in
    let files = files_of g.M.Made.bytes in
    let at = c.loop-adoption in
    let none = c.in-None.ensures.steps in
    let empty : into_iter_items at.adoption-iterator ≡ [] = nil_from_length _ (sym at.invariant.size ∙ none.0) in
    let all : at.yielded ≡ c.args.made.items = sym (append-nil at.yielded) ∙ rw empty at at.invariant.items ∙ c.into_iter-adoption-iterator.ensures.into_iter_gives.0 in
    let moving = subst (λ l. Moving Adopts (May Adopts) AddsSome (files at.yielded) (files l) start new) empty at.invariant.moving in
    subst (λ l. Elapses (After (AddsSome l) start.may_leave) start new) (append-nil (files at.yielded) ∙ ap files all) moving.run

on_err : {T E P : Type 0} (r : Result T E) → P → OnErr r P
on_err (Ok x) p = tt
on_err (Err e) p = p

pub returns-in_err-adopt-clause-clock : goal.returns-in_err-adopt-clause-clock
returns-in_err-adopt-clause-clock g c =
    let later = c.loop-adoption.invariant.moving.run.later in
    let rose = c.adopt.ensures.clock in
    on_err c.from_residual.result (omega arith)
