-- The rule as the lock is made, and as it is closed.
use Rattle.std.proofs.Common.{◌≡◌, ℕ, zero, suc, true, false, ◌^◌, ◌<◌, ◌≤◌, List, [], ◌∷◌, length, refl, sym, ap, ◌∙◌, subst, inl, ⊎_elim, arith, Option, Some, true≢false}
use Rattle.std.specs.List.{slice_get}
use mathlib.Core.Option.{some, some-injective}
use mathlib.Core.Logic.{dite}
use native.Mathlib.Decide.{ℕ_discrete}
use lib.ListN.{get_elem?}
use Rattle.atomic_table.specs.Table.{State, opening, Final, Seen}
use Rattle.mesa_turn.specs.declared.view.View.{View}
use Rattle.mesa_turn.specs.declared.view.Turn.TheVariants.{Idle}
use Rattle.mesa_turn.specs.History.{name_of, has, Exactly}
use Rattle.mesa_turn.specs.Passes.{IsReady}
use Rattle.mesa_turn.specs.Rule.{At, Fits, Home, Out, Turns, is_on, first_view}
use Rattle.mesa_turn.proofs.Lists.{prefix_whole, get_some}
use Rattle.mesa_turn.proofs.Names.{below_eight, named_at, no_names}
use Rattle.mesa_turn.proofs.Views.{one_view, one_there, none_but}
use Rattle.mesa_turn.proofs.Change.{some_not_none}

-- a pass at rest is ready
pub is_ready : (vs : List View) (v : View) → vs ≡ v ∷ [] → v.turn ≡ Idle → (v.names ≡ [] → ⊥) → Exactly v.own v.names v.seen → IsReady vs
is_ready vs v e idle named exact = subst IsReady (sym e) (refl, idle, named, exact)

all_below : (n m : ℕ) → ((k : ℕ) → k < n → k < m) → n ≤ m
all_below zero m h = omega arith
all_below (suc n) m h = h n (omega arith)

module _ {V : Type 0} (history : V → List ℕ) (limit : ℕ) where
  abbrev S : Type 0
  S = Option V

  abbrev Rule : State S View → Type 0
  Rule = Turns history limit

  -- the rule as the lock is made
  pub opens : (value : V) → history value ≡ [] → limit < 2 ^ 60 → Rule (opening (0 ∷ 0 ∷ 0 ∷ []) (Some value ∷ []) (first_view limit))
  opens value empty small = record {
    ticket = 0;
    serving = 0;
    log = [];
    order = omega arith;
    words = refl;
    each = λ i v a. one_there i (first_view limit) v (Fits limit [] 0 0) a record {
      seen = ([], refl);
      shorter = ([], refl);
      own = λ k. refl;
      own_seen = λ k h. absurd (true≢false (sym h));
      names = below_eight;
      single = refl;
      bound = λ _. refl;
      spent = λ _. refl;
      ticket = λ t e. absurd (some_not_none t e);
      on = λ e. absurd (true≢false (sym e));
    };
    apart = λ i j v w ne a b. absurd (ne (none_but i (first_view limit) v a ∙ sym (none_but j (first_view limit) w b)));
    flight = λ t le lt. absurd (omega arith);
    longest = (0, first_view limit, refl, refl);
    slot = inl record { value = value; slot = refl; stands = empty; count = refl; none_on = λ i v a. one_there i (first_view limit) v (λ u. is_on u.turn ≡ false) a refl };
    names = λ k x e. absurd (some_not_none x e);
    room = omega arith;
    small = small;
  }

  -- what the last pass, which holds all names, finds: the slot is at home, its list is what the pass has seen, and each position is the pass's own
  pub ends : (s : State S View) (r : Rule s) (id : ℕ) (v : View) → At s.views id v → v.turn ≡ Idle → ((n : ℕ) → n < 8 → has v.names n ≡ true)
      → (x : V) × (s.homes ≡ some (Some x) ∷ []) × (history x ≡ v.seen) × ((k : ℕ) → k < length v.seen → has v.own k ≡ true)
  ends s r id v at idle all = let f = r.each id v at in
      let every : (k : ℕ) → k < length r.log → has v.own k ≡ true = λ k lt. f.own k ∙ named_at v.names (slice_get r.log k) (get_some r.log k lt) (λ x e. all (name_of x) (r.names k x e)) in
      let long : length r.log ≤ length v.seen = all_below (length r.log) (length v.seen) (λ k lt. f.own_seen k (every k lt)) in
      let whole : v.seen ≡ r.log = prefix_whole v.seen r.log f.seen long in
      ⊎_elim
      (λ (a : Home history s r.log r.serving). (a.value, a.slot, a.stands ∙ sym whole, λ k lt. every k (subst (λ l. k < length l) whole lt)))
      (λ (o : Out history s r.log r.serving). absurd (dite (ℕ_discrete o.at id)
      (λ e. true≢false (sym o.on ∙ (ap (λ (u : View). is_on u.turn) (one_view s.views id o.view v (subst (λ i. At s.views i o.view) e o.there) at) ∙ ap is_on idle)))
      (λ ne. let g = r.each o.at o.view o.there in let none_held : (n : ℕ) → has o.view.names n ≡ true → ⊥ = λ n h. true≢false (sym h ∙ (r.apart id o.at v o.view (λ e. ne (sym e)) at o.there).names n (all n (g.names n h))) in
      true≢false (sym o.on ∙ ap is_on (g.spent (no_names o.view.names none_held))))))
      r.slot

  pub closes : (id : ℕ) (v : View) (words : List ℕ) (slots : List (Option V)) (found : Option V) → Final (Seen Rule id v) words slots → v.turn ≡ Idle → ((n : ℕ) → n < 8 → has v.names n ≡ true)
      → get_elem? slots 0 ≡ some found → (x : V) × (found ≡ Some x) × (history x ≡ v.seen) × ((k : ℕ) → k < length v.seen → has v.own k ≡ true)
  closes id v words slots found f idle all took =
      let e = ends f.0 f.1.0 id v f.1.1 idle all in
      let there : get_elem? slots 0 ≡ some (Some e.0) = f.4 0 (Some e.0) (ap (λ hs. get_elem? hs 0) e.1) in
      (e.0, some-injective found (Some e.0) (sym took ∙ there), e.2, e.3)
