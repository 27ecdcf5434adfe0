-- What each turn does to what is filed.
use Rattle.std.proofs.Common.{◌≡◌, ◌⊎◌, inl, inr, ⊎_elim, ℕ, ◌+◌, ◌<◌, ◌≤◌, List, [], ◌∷◌, ◌++◌, map, Bool, true, false, not, ◌||◌, nat_lt, sym, ◌∙◌, ap, subst, arith}
use Rattle.std.specs.Prelude.{filter}
use Rattle.std.specs.List.{AllByRecursion}
use Rattle.mesa_commit.specs.declared.trash.Hold.{Hold}
use Rattle.mesa_commit.specs.declared.trash.Dropped.{Dropped}
use Rattle.mesa_commit.specs.Holding.{Among, holds, is_held, ids_of, freed, kept, dropped_at, IsDroppedAfter, IsHoldOf, Held, holds_of, AreFiled, IsHad}
use Rattle.mesa_commit.proofs.Waiting.{all_so, all_both, all_append, all_filter, among_front, among_back, among_either, after_either, dropped_among, among_dropped, after_dropped, all_dropped, both_true, either_true, right_true, is_less, less_is, two_true, kept_among, among_kept, after_kept, found_in, kept_entry}

-- it is held by one of these
held_by : (d : Dropped) (pins : List Held) (P : Held → Type 0) → AllByRecursion P pins → is_held (holds_of pins) d ≡ true → (p : Held) × P p × (holds d p.0 ≡ true) × ((id : ℕ) → Among id p.1 → IsHad id pins)
held_by d [] P all e = absurd (let f : false ≡ true = e in cc)
held_by d (p ∷ pins) P all e =
    ⊎_elim (λ one. (p, all.0, one, λ id is. inl is)) (λ more. (let rest = held_by d pins P all.1 more in (rest.0, rest.1, rest.2, λ id is. inr (rest.3 id is))))
    (either_true (holds d p.0) (is_held (holds_of pins) d) e)

-- ---- turns

-- before the first turn of a run
pub filed_first : (position next : ℕ) (named : List ℕ) → ((id : ℕ) → Among id named → id < next) → AreFiled position next named [] []
filed_first position next named given = record { held = tt; before = tt; apart = λ id is. absurd is; named_given = given; trash_given = λ id is. absurd is; past = tt }

module _ (position next : ℕ) (named : List ℕ) (trash : List Dropped) (pins : List Held) (f : AreFiled position next named trash pins) where
  -- a turn that files nothing
  pub filed_later : (later : ℕ) → position ≤ later → AreFiled later next named trash pins
  filed_later later le = record { held = f.held; before = all_so _ (λ (p : Held). (p.0.at < later) × (p.0.next ≤ next)) pins (λ p is. (omega (arith, is.0, le), is.1)) f.before; apart = f.apart; named_given = f.named_given; trash_given = f.trash_given; past = all_so (λ (d : Dropped). d.at < position) (λ (d : Dropped). d.at < later) trash (λ d l. omega (arith, l, le)) f.past }

  -- new files are named: a publish, and the first half of a swap
  pub filed_brought : (next' : ℕ) (named' : List ℕ) → next ≤ next' → ((id : ℕ) → Among id named → Among id named') → ((id : ℕ) → Among id named' → Among id named ⊎ ((next ≤ id) × (id < next')))
      → AreFiled position next' named' trash pins
  filed_brought next' named' le stays new = record {
    held = all_both _ (λ (p : Held). (p.0.at < position) × (p.0.next ≤ next)) (λ (p : Held). IsHoldOf named' trash p.0 p.1) pins
        (λ p is low. record {
          given = is.given;
          since = is.since;
          there = λ id had. ⊎_elim (λ (one : Among id named). inl (stays id one)) (λ two. inr two) (is.there id had);
          only = λ id given from. is.only id given (⊎_elim (λ (one : Among id named'). inl (⊎_elim (λ (old : Among id named). old) (λ fresh. absurd (omega (arith, fresh.0, given, low.1))) (new id one))) (λ two. inr two) from);
        }) f.held f.before;
    before = all_so _ (λ (p : Held). (p.0.at < position) × (p.0.next ≤ next')) pins (λ p is. (is.0, omega (arith, is.1, le))) f.before;
    apart = λ id gone is. ⊎_elim (λ (old : Among id named). f.apart id gone old) (λ fresh. omega (arith, fresh.0, f.trash_given id gone)) (new id is);
    named_given = λ id is. ⊎_elim (λ (old : Among id named). let l = f.named_given id old in omega (arith, l, le)) (λ fresh. fresh.1) (new id is);
    trash_given = λ id is. let l = f.trash_given id is in omega (arith, l, le);
    past = f.past;
  }

  -- files are named no more, and wait: the other half of a swap, at this position
  pub filed_dropped : (named' gone : List ℕ) → ((id : ℕ) → Among id named' → Among id named) → ((id : ℕ) → Among id gone → Among id named) → ((id : ℕ) → Among id named → Among id named' ⊎ Among id gone)
      → ((id : ℕ) → Among id gone → Among id named' → ⊥) → AreFiled (position + 1) next named' (trash ++ map (dropped_at position) gone) pins
  filed_dropped named' gone fewer were split not_both = record {
    held = all_both _ (λ (p : Held). (p.0.at < position) × (p.0.next ≤ next)) (λ (p : Held). IsHoldOf named' (trash ++ map (dropped_at position) gone) p.0 p.1) pins
        (λ p is low. record {
          given = is.given;
          there = λ id had. ⊎_elim (λ (one : Among id named). ⊎_elim (λ (still : Among id named'). inl still) (λ (now : Among id gone). inr (among_back id trash (map (dropped_at position) gone) (dropped_among position id gone now))) (split id one))
              (λ two. inr (among_front id trash (map (dropped_at position) gone) two)) (is.there id had);
          since = λ id had. all_append (λ (d : Dropped). d.id ≡ id → p.0.at < d.at) trash (map (dropped_at position) gone) (is.since id had) (all_dropped (λ (d : Dropped). d.id ≡ id → p.0.at < d.at) position gone (λ x same. low.0));
          only = λ id given from. is.only id given (⊎_elim (λ (one : Among id named'). inl (fewer id one))
              (λ two. ⊎_elim (λ early. inr early) (λ now. inl (were id (after_dropped p.0.at position id gone now))) (after_either p.0.at id trash (map (dropped_at position) gone) two)) from);
        }) f.held f.before;
    before = all_so _ (λ (p : Held). (p.0.at < position + 1) × (p.0.next ≤ next)) pins (λ p is. (omega (arith, is.0), is.1)) f.before;
    apart = λ id waits is. ⊎_elim (λ early. f.apart id early (fewer id is)) (λ now. not_both id (among_dropped position id gone now) is) (among_either id trash (map (dropped_at position) gone) waits);
    named_given = λ id is. f.named_given id (fewer id is);
    trash_given = λ id is. ⊎_elim (λ early. f.trash_given id early) (λ now. f.named_given id (were id (among_dropped position id gone now))) (among_either id trash (map (dropped_at position) gone) is);
    past = all_append (λ (d : Dropped). d.at < position + 1) trash (map (dropped_at position) gone) (all_so (λ (d : Dropped). d.at < position) (λ (d : Dropped). d.at < position + 1) trash (λ d l. omega (arith, l)) f.past) (all_dropped (λ (d : Dropped). d.at < position + 1) position gone (λ x. omega arith));
  }

  -- what no pin holds isn't named, and no pin had it: it may be removed
  pub freed_unnamed : (id : ℕ) → Among id (ids_of (freed (holds_of pins) trash)) → Among id named → ⊥
  freed_unnamed id is = f.apart id (among_kept (λ d. not (is_held (holds_of pins) d)) id trash is).3

  freed_by : (id : ℕ) (more : List Held) (so_far : List Hold) (any : Dropped → Bool) → ((d : Dropped) → is_held (holds_of more) d ≡ true → any d ≡ true)
      → AllByRecursion (λ (p : Held). IsHoldOf named trash p.0 p.1) more → Among id (ids_of (filter (λ d. not (any d)) trash)) → AllByRecursion (λ (p : Held). Among id p.1 → ⊥) more
  freed_by id [] so_far any some all is = tt
  freed_by id (p ∷ more) so_far any some all is = (
    λ had.
        let found = found_in (λ (d : Dropped). d.id ≡ id → p.0.at < d.at) (λ d. not (any d)) id trash (all.0.since id had) is in
        let d : Dropped = found.0 in
        let late : p.0.at < d.at = found.1 found.2 in
        let given : d.id < p.0.next = subst (λ n. n < p.0.next) (sym found.2) (all.0.given id had) in
        let one : holds d p.0 ≡ true = two_true (nat_lt p.0.at d.at) (nat_lt d.id p.0.next) (less_is p.0.at d.at late) (less_is d.id p.0.next given) in
        let yes : any d ≡ true = some d (ap (λ b. b || is_held (holds_of more) d) one) in
        let no : not (any d) ≡ true = found.3 in
        let clash : false ≡ true = sym (ap not yes) ∙ no in
        cc,
    freed_by id more so_far any (λ d e. some d (right_true (holds d p.0) (is_held (holds_of more) d) e)) all.1 is,
  )

  pub freed_unheld : (id : ℕ) → Among id (ids_of (freed (holds_of pins) trash)) → AllByRecursion (λ (p : Held). Among id p.1 → ⊥) pins
  freed_unheld id is = freed_by id pins [] (is_held (holds_of pins)) (λ d e. e) f.held is

  -- it was removed
  keeps_held : (more : List Held) (any : Dropped → Bool) → ((d : Dropped) → is_held (holds_of more) d ≡ true → any d ≡ true) → AllByRecursion (λ (p : Held). IsHoldOf named trash p.0 p.1) more
      → AllByRecursion (λ (p : Held). IsHoldOf named (filter any trash) p.0 p.1) more
  keeps_held [] any some all = tt
  keeps_held (p ∷ more) any some all = (
    record {
      given = all.0.given;
      there = λ id had. ⊎_elim (λ (one : Among id named). inl one)
          (λ two. inr (kept_among any id trash
          (all_so (λ (d : Dropped). d.id ≡ id → p.0.at < d.at) (λ (d : Dropped). d.id ≡ id → any d ≡ true) trash
          (λ d late same. some d (ap (λ b. b || is_held (holds_of more) d) (two_true (nat_lt p.0.at d.at) (nat_lt d.id p.0.next) (less_is p.0.at d.at (late same)) (less_is d.id p.0.next (subst (λ n. n < p.0.next) (sym same) (all.0.given id had))))))
          (all.0.since id had)) two)) (all.0.there id had);
      since = λ id had. all_filter (λ (d : Dropped). d.id ≡ id → p.0.at < d.at) any trash (all.0.since id had);
      only = λ id given from. all.0.only id given (⊎_elim (λ (one : Among id named). inl one) (λ two. inr (after_kept any p.0.at id trash two)) from);
    },
    keeps_held more any (λ d e. some d (right_true (holds d p.0) (is_held (holds_of more) d) e)) all.1,
  )

  pub filed_removed : AreFiled position next named (kept (holds_of pins) trash) pins
  filed_removed = record {
    before = f.before;
    named_given = f.named_given;
    past = all_filter _ (is_held (holds_of pins)) trash f.past;
    held = keeps_held pins (is_held (holds_of pins)) (λ d e. e) f.held;
    apart = λ id is. f.apart id (among_kept (is_held (holds_of pins)) id trash is).3;
    trash_given = λ id is. f.trash_given id (among_kept (is_held (holds_of pins)) id trash is).3;
  }

  -- a pin is made at this position
  pub filed_pinned : (at_end : Bool) → AreFiled (position + 1) next named trash (pins ++ (record { at = position; next = next }, named) ∷ [])
      × AreFiled (position + 1) next named trash ((record { at = position; next = next }, named) ∷ pins)
  filed_pinned at_end = (pinned (pins ++ (record { at = position; next = next }, named) ∷ []) (all_append _ pins _ f.held (own, tt)) (all_append _ pins _ low (here, tt)), pinned ((record { at = position; next = next }, named) ∷ pins) (own, f.held) (here, low))
    where
      none_later : (id : ℕ) → Among id named → (ds : List Dropped) → ((i : ℕ) → Among i (ids_of ds) → Among i named → ⊥) → AllByRecursion (λ (d : Dropped). d.id ≡ id → position < d.at) ds
      none_later id is [] none = tt
      none_later id is (d ∷ ds) none = ((λ same. absurd (none id (inl same) is)), none_later id is ds (λ i a. none i (inr a)))

      after_among : (at id : ℕ) (ds : List Dropped) → IsDroppedAfter at id ds → Among id (ids_of ds)
      after_among at id [] is = is
      after_among at id (d ∷ ds) (inl is) = inl is.0
      after_among at id (d ∷ ds) (inr is) = inr (after_among at id ds is)

      never : (ds : List Dropped) → AllByRecursion (λ (d : Dropped). d.at < position) ds → (id : ℕ) → IsDroppedAfter position id ds → ⊥
      never [] all id is = is
      never (d ∷ ds) all id (inl is) = omega (arith, is.1, all.0)
      never (d ∷ ds) all id (inr is) = never ds all.1 id is

      own : IsHoldOf named trash (record { at = position; next = next }) named
      own = record {
        given = f.named_given;
        there = λ id is. inl is;
        since = λ id is. none_later id is trash f.apart;
        only = λ id given from. ⊎_elim (λ (one : Among id named). one) (λ late. absurd (never trash f.past id late)) from;
      }

      here : (position < position + 1) × (next ≤ next)
      here = (omega arith, omega arith)

      low : AllByRecursion (λ (p : Held). (p.0.at < position + 1) × (p.0.next ≤ next)) pins
      low = all_so _ (λ (p : Held). (p.0.at < position + 1) × (p.0.next ≤ next)) pins (λ p is. (omega (arith, is.0), is.1)) f.before

      pinned : (all : List Held) → AllByRecursion (λ (p : Held). IsHoldOf named trash p.0 p.1) all → AllByRecursion (λ (p : Held). (p.0.at < position + 1) × (p.0.next ≤ next)) all → AreFiled (position + 1) next named trash all
      pinned all held before = record { held = held; before = before; apart = f.apart; named_given = f.named_given; trash_given = f.trash_given; past = all_so (λ (d : Dropped). d.at < position) (λ (d : Dropped). d.at < position + 1) trash (λ d l. omega (arith, l)) f.past }

  -- pins are given back
  pub filed_released : (test : Held → Bool) → AreFiled position next named trash (filter test pins)
  filed_released test = record { apart = f.apart; named_given = f.named_given; trash_given = f.trash_given; held = all_filter _ test pins f.held; before = all_filter _ test pins f.before; past = f.past }

  -- what waits after a removal is had by some pin
  pub kept_had : (id : ℕ) → Among id (ids_of (kept (holds_of pins) trash)) → IsHad id pins
  kept_had id is =
      let found = kept_entry (is_held (holds_of pins)) id trash is in
      let d : Dropped = found.0 in
      let by = held_by d pins (λ (p : Held). IsHoldOf named trash p.0 p.1) f.held found.2 in
      let p : Held = by.0 in
      let both = both_true (nat_lt p.0.at d.at) (nat_lt d.id p.0.next) by.2 in
      by.3 id (by.1.only id (subst (λ n. n < p.0.next) found.1 (is_less d.id p.0.next both.1)) (inr (found.3 p.0.at (is_less p.0.at d.at both.0))))
