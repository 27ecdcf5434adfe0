use Rattle.std.proofs.Common.{◌≡◌, ◌+◌, ◌++◌, [], ◌∷◌, List, ℕ, take, drop, refl, sym, ◌∙◌, ap, subst, take-append-drop}
use Rattle.std.proofs.lemmas.List.{take_more, drop_more, take_all}
use Rattle.mesa_disk.specs.Story.{Steps, After, Follows, Elapses}
use Rattle.mesa_disk.specs.Image.{Loses, May}
use Rattle.mesa_disk.specs.Files.{InTurn, LosesFirst, LosesSome, OthersStay, IsNoneOf}
use Rattle.mesa_disk.proofs.Rounds.{Moving, nothing_done, tried, run_tried, told_tried, one_more, steps_weaker, first_all, some_tried}
use Rattle.mesa_disk.proofs.Others.{loses_first_only, loses_gone}
use Rattle.mesa_disk.proofs.moving.remove_all.Goals as goal

pub loop-id-init : goal.loop-id-init
loop-id-init g c = record {
  moving = nothing_done Loses (May Loses) LosesSome c.args.ids.now (g.D.Disk.story c.args.disk.now);
  len = λ a. refl;
  faults = refl;
  read_faults = refl;
}

pub loop-id-preserved : goal.loop-id-preserved
loop-id-preserved g c =
    let story = g.D.Disk.story in
    let ids = c.args.ids.now in
    let i = c.loop-id.id-index in
    let x = c.id-item.result in
    let start = story c.args.disk.now in
    let mid = story c.loop-id.disk in
    let new = story c.remove.new.self in
    let rest : drop i ids ≡ x ∷ drop (i + 1) ids = drop_more ids i x c.loop-id-test.true ∙ ap (λ (y : ℕ). y ∷ drop (i + 1) ids) (sym c.id-item.is) in
    let moving = subst (λ l. Moving Loses (May Loses) LosesSome (take i ids) l start mid) rest c.loop-id.invariant.moving in
    let front : take (i + 1) ids ≡ take i ids ++ x ∷ [] = take_more ids i x c.loop-id-test.true ∙ ap (λ (y : ℕ). take i ids ++ y ∷ []) (sym c.id-item.is) in
    let more = one_more Loses (May Loses) LosesSome (λ y a b is. is) (take i ids) x (drop (i + 1) ids) (some_tried Loses (take i ids) x (drop (i + 1) ids)) start mid new moving
    c.in_ok-remove.ensures.removed c.remove.ensures.crash c.remove.ensures.time in
    record {
      moving = subst (λ l. Moving Loses (May Loses) LosesSome l (drop (i + 1) ids) start new) (sym front) more;
      len = λ a. c.remove.ensures.len a ∙ c.loop-id.invariant.len a;
      faults = c.in_ok-remove.ensures.cause.quiet ∙ c.loop-id.invariant.faults;
      read_faults = c.remove.ensures.read_cause ∙ c.loop-id.invariant.read_faults;
    }

pub returns-in_err-remove-clause-partly : goal.returns-in_err-remove-clause-partly
returns-in_err-remove-clause-partly g c =
    let story = g.D.Disk.story in
    let ids = c.args.ids.now in
    let i = c.loop-id.id-index in
    let x = c.id-item.result in
    let start = story c.args.disk.now in
    let mid = story c.loop-id.disk in
    let new = story c.remove.new.self in
    let rest : drop i ids ≡ x ∷ drop (i + 1) ids = drop_more ids i x c.loop-id-test.true ∙ ap (λ (y : ℕ). y ∷ drop (i + 1) ids) (sym c.id-item.is) in
    let moving = subst (λ l. Moving Loses (May Loses) LosesSome (take i ids) l start mid) rest c.loop-id.invariant.moving in
    let whole : take i ids ++ x ∷ drop (i + 1) ids ≡ ids = ap (λ (l : List ℕ). take i ids ++ l) (sym rest) ∙ take-append-drop i ids in
    subst (λ l. Steps (LosesFirst l) start.told new.told) whole
    (told_tried Loses (May Loses) LosesSome (λ y a b is. is) (take i ids) x (drop (i + 1) ids) (some_tried Loses (take i ids) x (drop (i + 1) ids)) start mid new moving c.remove.ensures.whole)

pub returns-in_err-remove-clause-only : goal.returns-in_err-remove-clause-only
returns-in_err-remove-clause-only g c =
    let ids = c.args.ids.now in
    steps_weaker (LosesFirst ids) (OthersStay (IsNoneOf ids)) (loses_first_only ids) _ _ (returns-in_err-remove-clause-partly g c)

pub returns-in_err-remove-clause-any_moment : goal.returns-in_err-remove-clause-any_moment
returns-in_err-remove-clause-any_moment g c =
    let story = g.D.Disk.story in
    let ids = c.args.ids.now in
    let i = c.loop-id.id-index in
    let x = c.id-item.result in
    let start = story c.args.disk.now in
    let mid = story c.loop-id.disk in
    let new = story c.remove.new.self in
    let rest : drop i ids ≡ x ∷ drop (i + 1) ids = drop_more ids i x c.loop-id-test.true ∙ ap (λ (y : ℕ). y ∷ drop (i + 1) ids) (sym c.id-item.is) in
    let moving = subst (λ l. Moving Loses (May Loses) LosesSome (take i ids) l start mid) rest c.loop-id.invariant.moving in
    let whole : take i ids ++ x ∷ drop (i + 1) ids ≡ ids = ap (λ (l : List ℕ). take i ids ++ l) (sym rest) ∙ take-append-drop i ids in
    subst (λ l. Elapses (After (LosesSome l) start.may_leave) start new) whole
    (run_tried Loses (May Loses) LosesSome (λ y a b is. is) (take i ids) x (drop (i + 1) ids) (some_tried Loses (take i ids) x (drop (i + 1) ids)) start mid new moving c.remove.ensures.crash c.remove.ensures.time)

pub returns-in_err-remove-clause-left : goal.returns-in_err-remove-clause-left
returns-in_err-remove-clause-left g c =
    let story = g.D.Disk.story in
    let ids = c.args.ids.now in
    let i = c.loop-id.id-index in
    let x = c.id-item.result in
    let start = story c.args.disk.now in
    let mid = story c.loop-id.disk in
    let new = story c.remove.new.self in
    let rest : drop i ids ≡ x ∷ drop (i + 1) ids = drop_more ids i x c.loop-id-test.true ∙ ap (λ (y : ℕ). y ∷ drop (i + 1) ids) (sym c.id-item.is) in
    let moving = subst (λ l. Moving Loses (May Loses) LosesSome (take i ids) l start mid) rest c.loop-id.invariant.moving in
    let whole : take i ids ++ x ∷ drop (i + 1) ids ≡ ids = ap (λ (l : List ℕ). take i ids ++ l) (sym rest) ∙ take-append-drop i ids in
    subst (λ l. Follows (LosesSome l) start.may_leave new.may_leave) whole
    (tried Loses (May Loses) LosesSome (λ y a b is. is) (take i ids) x (drop (i + 1) ids) (some_tried Loses (take i ids) x (drop (i + 1) ids)) start mid new moving c.remove.ensures.crash)

pub returns-clause-removed : goal.returns-clause-removed
returns-clause-removed g c =
    let story = g.D.Disk.story in
    let ids = c.args.ids.now in
    let all : take c.loop-id.id-index ids ≡ ids = take_all c.loop-id.id-index ids c.loop-id-test.false in
    subst (λ l. Steps (InTurn Loses l) (story c.args.disk.now).told (story c.loop-id.disk).told) all c.loop-id.invariant.moving.told

pub returns-clause-all : goal.returns-clause-all
returns-clause-all g c j is =
    let from = (returns-clause-removed g c).back j is in
    loses_gone c.args.ids.now from.0 j from.2

pub returns-clause-partly : goal.returns-clause-partly
returns-clause-partly g c =
    let ids = c.args.ids.now in
    steps_weaker (InTurn Loses ids) (LosesFirst ids) (first_all Loses ids) _ _ (returns-clause-removed g c)

pub returns-clause-only : goal.returns-clause-only
returns-clause-only g c =
    let ids = c.args.ids.now in
    steps_weaker (LosesFirst ids) (OthersStay (IsNoneOf ids)) (loses_first_only ids) _ _ (returns-clause-partly g c)

pub returns-clause-left : goal.returns-clause-left
returns-clause-left g c =
    let story = g.D.Disk.story in
    let ids = c.args.ids.now in
    let all : take c.loop-id.id-index ids ≡ ids = take_all c.loop-id.id-index ids c.loop-id-test.false in
    subst (λ l. Follows (InTurn (May Loses) l) (story c.args.disk.now).may_leave (story c.loop-id.disk).may_leave) all c.loop-id.invariant.moving.left
