-- One changed view keeps the rule, where what it does to the words, the slot and the longest list fits.
use Rattle.std.proofs.Common.{◌≡◌, ◌≢◌, ℕ, true, false, ◌+◌, ◌<◌, ◌≤◌, List, [], ◌∷◌, ◌++◌, length, set, sym, ap, ◌∙◌, subst, inl, inr, ◌⊎◌, ⊎_elim, arith, Option, Some, None, true≢false}
use Rattle.std.specs.List.{slice_get}
use mathlib.Core.Option as maybe
use mathlib.Core.Option.{some, none}
use mathlib.Core.Logic.{dite}
use native.Mathlib.Decide.{ℕ_discrete}
use Rattle.atomic_table.specs.Table.{State}
use Rattle.atomic_table.proofs.Lists.{set_else, at_longer}
use Rattle.mesa_turn.specs.declared.view.View.{View}
use Rattle.mesa_turn.specs.declared.view.Turn.TheVariants.{Idle}
use Rattle.mesa_turn.specs.History.{name_of, has}
use Rattle.mesa_turn.specs.Rule.{Apart, At, Fits, Holder, Home, Knower, Out, Turns, rooms, ticket_of, is_on, added}
use Rattle.mesa_turn.proofs.Views.{one_view, each_set, views_apart_back, apart_set, flight_keeps, rooms_set, rooms_snoc, at_end}

pub some_same : {A : Type 0} (a b : A) → Some a ≡ Some b → a ≡ b
some_same a b e = ap (λ (o : Option _). elim o [ None ↦ a | Some x ↦ x ]) e

pub some_not_none : {A : Type 0} (a : A) → None ≡ Some a → ⊥
some_not_none a e = cc

pub not_held : (v : View) (n : ℕ) → has v.names n ≡ true → v.names ≡ [] → ⊥
not_held v n h e = true≢false (sym h ∙ ap (λ ns. has ns n) e)

pub no_ticket : (v u : View) → v.turn ≡ Idle → (t : ℕ) → ticket_of v.turn ≡ Some t → ticket_of u.turn ≢ Some t
no_ticket v u idle t e = absurd (some_not_none t (sym (ap ticket_of idle) ∙ e))

module _ {V : Type 0} (history : V → List ℕ) (limit : ℕ) where
  abbrev pub S : Type 0
  S = Option V

  abbrev pub Rule : State S View → Type 0
  Rule = Turns history limit

  -- the slot stays where it is at a step of a view whose turn is not on
  pub slot_stays : (s : State S View) (words : List ℕ) (log : List ℕ) (serving id : ℕ) (v w : View) → At s.views id v → is_on v.turn ≡ false → is_on w.turn ≡ false → Home history s log serving ⊎ Out history s log serving
      → Home history (record { words = words; homes = s.homes; views = set s.views id w }) log serving ⊎ Out history (record { words = words; homes = s.homes; views = set s.views id w }) log serving
  slot_stays s words log serving id v w at off off' h = ⊎_elim
      (λ (a : Home history s log serving). inl record { value = a.value; slot = a.slot; stands = a.stands; count = a.count; none_on = each_set (λ u. is_on u.turn ≡ false) s.views id w off' (λ i u _ b. a.none_on i u b) })
      (λ (o : Out history s log serving). inr record {
        at = o.at;
        view = o.view;
        slot = o.slot;
        on = o.on;
        count = o.count;
        there = set_else s.views id o.at w (λ e. true≢false (sym o.on ∙ (ap (λ (u : View). is_on u.turn) (one_view s.views id o.view v (subst (λ i. At s.views i o.view) e o.there) at) ∙ off))) ∙ o.there;
      })
      h

  -- one view changes, and with it the words, the slot and the longest list
  abbrev pub change : (s : State S View) (r : Rule s) (id : ℕ) (v w : View) (next now : ℕ) (log words : List ℕ) (homes : List (maybe.Option S)) → At s.views id v
      → now ≤ next
      → words ≡ next ∷ now ∷ length log ∷ []
      → Fits limit log next now w
      → ((i : ℕ) (u : View) → i ≢ id → At s.views i u → Fits limit r.log r.ticket r.serving u → Fits limit log next now u)
      → ((i : ℕ) (u : View) → i ≢ id → At s.views i u → Apart w u)
      → ((t : ℕ) → now ≤ t → t < next → Holder (set s.views id w) t)
      → Knower (set s.views id w) log
      → (Home history (record { words = words; homes = homes; views = set s.views id w }) log now ⊎ Out history (record { words = words; homes = homes; views = set s.views id w }) log now)
      → ((k x : ℕ) → slice_get log k ≡ Some x → name_of x < 8)
      → next + (rooms s.views + w.room) ≤ limit + v.room
      → Rule record { words = words; homes = homes; views = set s.views id w }
  change s r id v w next now log words homes at order is mine others apart flight known slot names room = record {
    ticket = next;
    serving = now;
    log = log;
    order = order;
    words = is;
    each = each_set (Fits limit log next now) s.views id w mine (λ i u ne a. others i u ne a (r.each i u a));
    apart = apart_set s.views id w r.apart apart;
    flight = flight;
    longest = known;
    slot = slot;
    names = names;
    room = let e = rooms_set s.views id v w at in omega arith;
    small = r.small;
  }

  -- the same for a view that keeps its names
  pub one_step : (s : State S View) (r : Rule s) (id : ℕ) (v w : View) (next now : ℕ) (log words : List ℕ) (homes : List (maybe.Option S)) → At s.views id v → w.names ≡ v.names
      → now ≤ next
      → words ≡ next ∷ now ∷ length log ∷ []
      → Fits limit log next now w
      → ((i : ℕ) (u : View) → i ≢ id → At s.views i u → Fits limit r.log r.ticket r.serving u → Fits limit log next now u)
      → ((t i : ℕ) (u : View) → i ≢ id → At s.views i u → Fits limit r.log r.ticket r.serving u → ticket_of w.turn ≡ Some t → ticket_of u.turn ≢ Some t)
      → ((t : ℕ) → now ≤ t → t < next → Holder (set s.views id w) t)
      → Knower (set s.views id w) log
      → (Home history (record { words = words; homes = homes; views = set s.views id w }) log now ⊎ Out history (record { words = words; homes = homes; views = set s.views id w }) log now)
      → ((k x : ℕ) → slice_get log k ≡ Some x → name_of x < 8)
      → next + (rooms s.views + w.room) ≤ limit + v.room
      → Rule record { words = words; homes = homes; views = set s.views id w }
  one_step s r id v w next now log words homes at same order is mine others tickets flight known slot names room =
      change s r id v w next now log words homes at order is mine others (λ i u ne a. let p = r.apart id i v u (λ e. ne (sym e)) at a in record {
        names = λ n h. p.names n (ap (λ ns. has ns n) (sym same) ∙ h);
        tickets = λ t e. tickets t i u ne a (r.each i u a) e;
      }) flight known slot names room

  -- a view that holds no ticket changes, and nothing else does
  abbrev pub rest_changes : (s : State S View) (r : Rule s) (id : ℕ) (v w : View) → At s.views id v → v.turn ≡ Idle → w.turn ≡ Idle → Fits limit r.log r.ticket r.serving w
      → ((i : ℕ) (u : View) → i ≢ id → At s.views i u → Apart w u) → Knower (set s.views id w) r.log → r.ticket + (rooms s.views + w.room) ≤ limit + v.room
      → Rule record { words = s.words; homes = s.homes; views = set s.views id w }
  rest_changes s r id v w at idle idle' mine apart known room =
      change s r id v w r.ticket r.serving r.log s.words s.homes at r.order r.words mine (λ i u ne a f. f) apart
      (λ t le lt. flight_keeps s.views id v w t at (λ e. absurd (some_not_none t (sym (ap ticket_of idle) ∙ e))) (r.flight t le lt))
      known
      (slot_stays s s.words r.log r.serving id v w at (ap is_on idle) (ap is_on idle') r.slot) r.names room

  -- a view that holds no ticket comes
  pub comes : (s : State S View) (r : Rule s) (w : View) → w.turn ≡ Idle → Fits limit r.log r.ticket r.serving w → ((i : ℕ) (u : View) → At s.views i u → Apart w u) → r.ticket + (rooms s.views + w.room) ≤ limit
      → Rule record { words = s.words; homes = s.homes; views = s.views ++ w ∷ [] }
  comes s r w idle mine apart room = record {
    ticket = r.ticket;
    serving = r.serving;
    log = r.log;
    order = r.order;
    words = r.words;
    each = λ i u a. ⊎_elim (λ (t : At s.views i u × (i < length s.views)). r.each i u t.0) (λ (t : (w ≡ u) × (i ≡ length s.views)). subst (Fits limit r.log r.ticket r.serving) t.0 mine) (at_end s.views w i u a);
    apart = λ i j u x ne a b. ⊎_elim
        (λ (t : At s.views i u × (i < length s.views)). ⊎_elim
        (λ (q : At s.views j x × (j < length s.views)). r.apart i j u x ne t.0 q.0)
        (λ (q : (w ≡ x) × (j ≡ length s.views)). subst (Apart u) q.0 (views_apart_back w u (apart i u t.0))) (at_end s.views w j x b))
        (λ (t : (w ≡ u) × (i ≡ length s.views)). ⊎_elim
        (λ (q : At s.views j x × (j < length s.views)). subst (λ z. Apart z x) t.0 (apart j x q.0))
        (λ (q : (w ≡ x) × (j ≡ length s.views)). absurd (ne (t.1 ∙ sym q.1))) (at_end s.views w j x b))
        (at_end s.views w i u a);
    flight = λ t le lt. let h = r.flight t le lt in (h.0, h.1, at_longer s.views (w ∷ []) h.0 h.1 h.2, h.3);
    longest = let h = r.longest in (h.0, h.1, at_longer s.views (w ∷ []) h.0 h.1 h.2, h.3);
    slot = ⊎_elim
        (λ (a : Home history s r.log r.serving). inl record {
          value = a.value;
          slot = a.slot;
          stands = a.stands;
          count = a.count;
          none_on = λ i u b. ⊎_elim (λ (t : At s.views i u × (i < length s.views)). a.none_on i u t.0) (λ (t : (w ≡ u) × (i ≡ length s.views)). ap (λ (z : View). is_on z.turn) (sym t.0) ∙ ap is_on idle) (at_end s.views w i u b);
        })
        (λ (o : Out history s r.log r.serving). inr record { at = o.at; view = o.view; slot = o.slot; on = o.on; count = o.count; there = at_longer s.views (w ∷ []) o.at o.view o.there })
        r.slot;
    names = r.names;
    room = let e = rooms_snoc s.views w in omega arith;
    small = r.small;
  }

  -- only one turn is on
  pub one_on : (s : State S View) (r : Rule s) (id j : ℕ) (v u : View) → At s.views id v → is_on v.turn ≡ true → At s.views j u → is_on u.turn ≡ true → u ≡ v
  one_on s r id j v u at on there on' = dite (ℕ_discrete j id)
      (λ e. one_view s.views id u v (subst (λ i. At s.views i u) e there) at)
      (λ ne. absurd ((r.apart id j v u (λ e. ne (sym e)) at there).tickets r.serving ((r.each id v at).on on).0 ((r.each j u there).on on').0))

  -- while a turn is on, the slot is out
  pub slot_out : (s : State S View) (r : Rule s) (id : ℕ) (v : View) → At s.views id v → is_on v.turn ≡ true → (s.homes ≡ none ∷ []) × (length r.log ≡ r.serving + added v.turn)
  slot_out s r id v at on = ⊎_elim
      (λ (a : Home history s r.log r.serving). absurd (true≢false (sym on ∙ a.none_on id v at)))
      (λ (o : Out history s r.log r.serving). (o.slot, o.count ∙ ap (λ (u : View). r.serving + added u.turn) (one_on s r id o.at v o.view at on o.there o.on)))
      r.slot
