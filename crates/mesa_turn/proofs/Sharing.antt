-- Splitting a pass, joining two, and comparing the lists of those keep the rule.
use Rattle.std.proofs.Common.{◌≡◌, ◌≢◌, ℕ, true, false, ◌||◌, ◌<◌, ◌≤◌, List, [], ◌∷◌, set, refl, sym, ap, ◌∙◌, subst, inl, inr, ◌⊎◌, ⊎_elim, arith, Option, Some, None, true≢false}
use Rattle.std.specs.List.{slice_get}
use Rattle.std.proofs.lemmas.Bool.{false_from_ne_true}
use mathlib.Core.Option.{none}
use mathlib.Core.List.{IsPrefix}
use mathlib.Core.Logic.{dite}
use native.Mathlib.Decide.{ℕ_discrete}
use lib.Seq.{set-get_or}
use Rattle.atomic_table.specs.Table.{State, Me, step, keeps, Allows, Splits, Joins}
use Rattle.atomic_table.proofs.Lists.{at_set, set_else}
use Rattle.mesa_turn.specs.declared.view.View.{View}
use Rattle.mesa_turn.specs.declared.view.Turn.TheVariants.{Idle}
use Rattle.mesa_turn.specs.History.{has, has_at, AreApart, Exactly, without}
use Rattle.mesa_turn.specs.Rule.{Apart, At, Fits, Knower, Turns, is_on, spent_view}
use Rattle.mesa_turn.specs.Steps.{kept_of, cut_of, both_of, compared, compares}
use Rattle.mesa_turn.proofs.Lists.{prefix_get, longer_prefix, longer_left, longer_right, longer_whole, shorter_begins, exactly_of}
use Rattle.mesa_turn.proofs.Names.{has_append, has_either, has_one, has_without_self, has_without, without_within, no_name, has_at_append, has_at_one, has_at_without, once_without, once_append}
use Rattle.mesa_turn.proofs.Views.{one_view, set_at, each_set, knower_keeps, rooms_set, rooms_at, spent_there}
use Rattle.mesa_turn.proofs.Change.{some_not_none, not_held, no_ticket, rest_changes, comes}

-- where no own position has the name, no entry that the pass has seen has it
pub none_seen : (own names seen : List ℕ) (name : ℕ) → Exactly own names seen → has names name ≡ true → ((k : ℕ) → has own k ≡ true → has_at (name ∷ []) (slice_get seen k) ≡ false)
    → (k : ℕ) → has_at (name ∷ []) (slice_get seen k) ≡ false
none_seen own names seen name exact named clear k = false_from_ne_true (has_at (name ∷ []) (slice_get seen k)) (λ h. true≢false (sym h ∙ clear k (exact k ∙ has_at_one name names named (slice_get seen k) h)))

module _ {V : Type 0} (history : V → List ℕ) (limit : ℕ) where
  abbrev S : Type 0
  S = Option V

  abbrev Rule : State S View → Type 0
  Rule = Turns history limit

  -- where no own position has the name, no entry of the longest list has it
  none_there : (log : List ℕ) (next now name : ℕ) (v : View) → Fits limit log next now v → has v.names name ≡ true → ((k : ℕ) → has v.own k ≡ true → has_at (name ∷ []) (slice_get v.seen k) ≡ false)
      → (k : ℕ) → has_at (name ∷ []) (slice_get log k) ≡ false
  none_there log next now name v f named clear = none_seen v.own v.names log name f.own named (λ k h. ap (has_at (name ∷ [])) (sym (prefix_get v.seen log k f.seen (f.own_seen k h))) ∙ clear k h)

  -- a pass is split in two
  pub splits : (id name room other : ℕ) (v : View) → v.turn ≡ Idle → has v.names name ≡ true → has v.names other ≡ true → other ≢ name → room ≤ v.room
      → ((k : ℕ) → has v.own k ≡ true → has_at (name ∷ []) (slice_get v.seen k) ≡ false) → Splits Rule id v (kept_of name room v) (cut_of name room v)
  splits id name room other v idle named another ne le clear s r at =
      let f = r.each id v at in
      let l : View = kept_of name room v in
      let c : View = cut_of name room v in
      let top = r.room in let tiny = r.small in
      let there = rooms_at s.views id v at in
      let away = none_there r.log r.ticket r.serving name v f named clear in
      let r' = rest_changes history limit s r id v l at idle idle (record {
        seen = f.seen;
        shorter = f.shorter;
        own = λ k. f.own k ∙ has_at_without name v.names (slice_get r.log k) (away k);
        own_seen = f.own_seen;
        names = λ n h. f.names n (without_within name v.names n h);
        single = once_without name v.names f.single;
        bound = λ _. f.bound (not_held v name named);
        spent = λ e. absurd {A = v.turn ≡ Idle} (not_held l other (has_without name v.names other ne ∙ another) e);
        ticket = f.ticket;
        on = λ e. absurd (true≢false (sym e ∙ ap is_on idle));
      }) (λ i u d a. record {
        names = λ n h. (r.apart id i v u (λ e. d (sym e)) at a).names n (without_within name v.names n h);
        tickets = no_ticket l u idle;
      }) (knower_keeps s.views id v l r.log at (λ e. e) r.longest) (omega arith) in
      comes history limit (record { words = s.words; homes = s.homes; views = set s.views id l }) r' c refl (record {
        seen = f.seen;
        shorter = (v.seen, refl);
        own = λ k. sym (away k);
        own_seen = λ k h. absurd (true≢false (sym h));
        names = λ n h. subst (λ z. z < 8) (has_one name n h) (f.names name named);
        single = refl;
        bound = λ _. f.bound (not_held v name named);
        spent = λ _. refl;
        ticket = λ t e. absurd {A = (r.serving ≤ t) × (t < r.ticket)} (some_not_none t e);
        on = λ e. absurd {A = (None ≡ Some r.serving) × (v.seen ≡ r.log)} (true≢false (sym e));
      }) (each_set (Apart c) s.views id l (record {
        names = λ n h. ap (has (without name v.names)) (sym (has_one name n h)) ∙ has_without_self name v.names;
        tickets = no_ticket c l refl;
      }) (λ i u d a. record {
        names = λ n h. (r.apart id i v u (λ e. d (sym e)) at a).names n (ap (has v.names) (sym (has_one name n h)) ∙ named);
        tickets = no_ticket c u refl;
      })) (let e = rooms_set s.views id v l at in omega arith)

  -- after a join the pass that is kept has seen the longest list, or a third one has
  abbrev Known : List View → ℕ → ℕ → View → List ℕ → Type 0
  Known views id other b log = (b.seen ≡ log) ⊎ ((i : ℕ) × (u : View) × (i ≢ id) × (i ≢ other) × At views i u × (u.seen ≡ log))

  known_after : (views : List View) (id other : ℕ) (v w : View) (log : List ℕ) → At views id v → At views other w → IsPrefix v.seen log → IsPrefix w.seen log → Knower views log → Known views id other (both_of v w) log
  known_after views id other v w log at at' p q h = dite (ℕ_discrete h.0 id)
      (λ e. inl (longer_whole v.seen w.seen log p q (inl (ap (λ (u : View). u.seen) (one_view views id v h.1 at (subst (λ i. At views i h.1) e h.2)) ∙ h.3))))
      (λ ne. dite (ℕ_discrete h.0 other)
      (λ e. inl (longer_whole v.seen w.seen log p q (inr (ap (λ (u : View). u.seen) (one_view views other w h.1 at' (subst (λ i. At views i h.1) e h.2)) ∙ h.3))))
      (λ ne'. inr (h.0, h.1, ne, ne', h.2, h.3)))

  knower_after : (views views' : List View) (id other : ℕ) (b : View) (log : List ℕ) → Known views id other b log → At views' id b → ((i : ℕ) (u : View) → i ≢ id → i ≢ other → At views i u → At views' i u) → Knower views' log
  knower_after views views' id other b log known at same = ⊎_elim
      (λ (e : b.seen ≡ log). (id, b, at, e))
      (λ (t : (i : ℕ) × (u : View) × (i ≢ id) × (i ≢ other) × At views i u × (u.seen ≡ log)). (t.0, t.1, same t.0 t.1 t.2 t.3 t.4, t.5))
      known

  -- a view without names, positions and room, which has seen a list
  abbrev witness : List ℕ → View
  witness seen = record { names = []; seen = seen; shorter = []; own = []; room = 0; limit = 0; turn = Idle }

  witness_fits : (log seen : List ℕ) (next now : ℕ) → IsPrefix seen log → Fits limit log next now (witness seen)
  witness_fits log seen next now begins = record {
    seen = begins;
    shorter = (seen, refl);
    own = λ k. sym (no_name (slice_get log k));
    own_seen = λ k h. absurd (true≢false (sym h));
    names = λ n h. absurd (true≢false (sym h));
    single = refl;
    bound = λ ne. absurd (ne refl);
    spent = λ _. refl;
    ticket = λ t e. absurd (some_not_none t e);
    on = λ e. absurd (true≢false (sym e));
  }

  witness_apart : (seen : List ℕ) (u : View) → Apart (witness seen) u
  witness_apart seen u = record { names = λ n h. absurd (true≢false (sym h)); tickets = no_ticket (witness seen) u refl }

  -- the pass that is kept fits, where the other's view is without names already
  both_fits : (log : List ℕ) (next now : ℕ) (v w : View) → Fits limit log next now v → Fits limit log next now w → v.names ≢ [] → v.turn ≡ Idle → AreApart v.names w.names → Fits limit log next now (both_of v w)
  both_fits log next now v w f g held_one idle apart = record {
    seen = longer_prefix v.seen w.seen log f.seen g.seen;
    shorter = shorter_begins v.seen w.seen log f.seen g.seen;
    own = λ k. has_append v.own w.own k ∙ ((λ i. f.own k i || g.own k i) ∙ sym (has_at_append v.names w.names (slice_get log k)));
    own_seen = λ k h. let left = longer_left v.seen w.seen in let right = longer_right v.seen w.seen in ⊎_elim
        (λ (q : has v.own k ≡ true). let a = f.own_seen k q in omega arith)
        (λ (q : has w.own k ≡ true). let a = g.own_seen k q in omega arith)
        (has_either v.own w.own k h);
    names = λ n h. ⊎_elim (λ (q : has v.names n ≡ true). f.names n q) (λ (q : has w.names n ≡ true). g.names n q) (has_either v.names w.names n h);
    single = once_append v.names w.names f.single g.single apart;
    bound = λ _. f.bound held_one;
    spent = λ _. idle;
    ticket = f.ticket;
    on = λ e. absurd (true≢false (sym e ∙ ap is_on idle));
  }

  -- of two passes one is made, and the other is spent: first the other loses its names, then the one gains them, and then the other forgets what it has seen
  pub joins : (id other : ℕ) (v w : View) → v.names ≢ [] → v.turn ≡ Idle → w.turn ≡ Idle → Joins Rule id v other w (both_of v w) spent_view
  joins id other v w held_one idle idle' s r at ne at' =
      let b : View = both_of v w in
      let x : View = witness w.seen in
      let at_other : At s.views other w = sym (set_else s.views id other b ne) ∙ at' in
      let f = r.each id v at in
      let g = r.each other w at_other in
      let p = r.apart id other v w (λ e. ne (sym e)) at at_other in
      let known = known_after s.views id other v w r.log at at_other f.seen g.seen r.longest in
      let top = r.room in
      let enough = rooms_at s.views id v at in
      let rooms_one = rooms_set s.views other w x at_other in
      let r1 = rest_changes history limit s r other w x at_other idle' refl (witness_fits r.log w.seen r.ticket r.serving g.seen)
      (λ i u d a. witness_apart w.seen u) (knower_keeps s.views other w x r.log at_other (λ e. e) r.longest) (omega arith) in
      let s1 : State S View = record { words = s.words; homes = s.homes; views = set s.views other x } in
      let at_id : At s1.views id v = set_else s.views other id x (λ e. ne (sym e)) ∙ at in
      let at_x : At s1.views other x = set_at s.views other w x at_other in
      let rooms_two = rooms_set s1.views id v b at_id in
      let r2 = rest_changes history limit s1 r1 id v b at_id idle idle (both_fits r.log r.ticket r.serving v w f g held_one idle p.names)
      (λ i u d a. record {
        names = λ n h. false_from_ne_true (has u.names n) (λ hu. ⊎_elim {C = ⊥}
            (λ (q : (i ≡ other) × (x ≡ u)). true≢false (sym hu ∙ ap (λ (z : View). has z.names n) (sym q.1)))
            (λ (q : (i ≢ other) × At s.views i u). ⊎_elim {C = ⊥}
            (λ (y : has v.names n ≡ true). true≢false (sym hu ∙ (r.apart id i v u (λ e. d (sym e)) at q.1).names n y))
            (λ (y : has w.names n ≡ true). true≢false (sym hu ∙ (r.apart other i w u (λ e. q.0 (sym e)) at_other q.1).names n y))
            (has_either v.names w.names n h))
            (at_set s.views other i x u a));
        tickets = no_ticket b u idle;
      })
      (knower_after s.views (set s1.views id b) id other b r.log known (set_at s1.views id v b at_id) (λ i u d d' a. set_else s1.views id i b d ∙ (set_else s.views other i x d' ∙ a)))
      (omega arith) in
      let s2 : State S View = record { words = s.words; homes = s.homes; views = set s1.views id b } in
      let at_x2 : At s2.views other x = set_else s1.views id other b ne ∙ at_x in
      let r3 = rest_changes history limit s2 r2 other x spent_view at_x2 refl refl (witness_fits r.log [] r.ticket r.serving (r.log, refl))
      (λ i u d a. witness_apart [] u)
      (knower_after s.views (set s2.views other spent_view) id other b r.log known (set_else s2.views other id spent_view (λ e. ne (sym e)) ∙ set_at s1.views id v b at_id)
      (λ i u d d' a. set_else s2.views other i spent_view d' ∙ (set_else s1.views id i b d ∙ (set_else s.views other i x d' ∙ a))))
      (omega arith) in
      subst (λ vs. Rule record { words = s.words; homes = s.homes; views = vs }) (spent_there s.views id other b x spent_view ne) r3

  -- a pass at rest compares the two lists that it had when it was joined
  pub compares_so : (slots id : ℕ) (me : Me S View) → me.0.turn ≡ Idle → Allows Rule slots id me 0 (λ k. k) (compares (step slots 0 0 0 none) me)
  compares_so slots id me idle s r deep at small =
      let v : View = me.0 in
      let f = r.each id v at in
      let w : View = compared v in
      let top = r.room in (
        w,
        keeps,
        tt,
        subst (λ ws. Rule record { words = ws; homes = s.homes; views = set s.views id w }) (sym (set-get_or s.words 0 0))
            (rest_changes history limit s r id v w at idle idle (record {
              seen = f.seen;
              shorter = (v.seen, refl);
              own = f.own;
              own_seen = f.own_seen;
              names = f.names;
              single = f.single;
              bound = f.bound;
              spent = f.spent;
              ticket = f.ticket;
              on = λ e. absurd (true≢false (sym e ∙ ap is_on idle));
            }) (λ i u d a. record {
              names = (r.apart id i v u (λ e. d (sym e)) at a).names;
              tickets = no_ticket w u idle;
            }) (knower_keeps s.views id v w r.log at (λ e. e) r.longest) (omega arith)),
        (refl, f.shorter, exactly_of v.own v.names v.seen r.log f.seen f.own f.own_seen, f.single),
      )
