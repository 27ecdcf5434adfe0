-- The steps of a turn keep the rule: draw, look, mark and pass.
use Rattle.std.proofs.Common.{◌≡◌, ◌≢◌, ℕ, true, false, ◌||◌, ◌+◌, ◌^◌, ◌%◌, ◌<◌, List, [], ◌∷◌, ◌++◌, length, set, get_or, refl, sym, ap, ◌∙◌, subst, inl, inr, ⊎_elim, arith, Option, Some, true≢false, eq-eqb, ne_eqb, length-append, mod-eq_of_lt}
use Rattle.std.proofs.lemmas.Option.{slice_get_past}
use Rattle.std.proofs.lemmas.Bool.{false_from_ne_true}
use mathlib.Core.Option.{some, none}
use mathlib.Core.List.{IsPrefix}
use mathlib.Core.Logic.{dite}
use native.Mathlib.Decide.{ℕ_discrete}
use lib.ListN.{get_elem?}
use Rattle.atomic_table.specs.Table.{State, Me, step, Act, Valid, keeps, takes, gives, stepped, carried_after, Allows, put_back}
use Rattle.mesa_turn.specs.declared.view.View.{View}
use Rattle.mesa_turn.specs.declared.view.Turn.{Turn}
use Rattle.mesa_turn.specs.declared.view.Turn.TheVariants.{Idle, Drawn, Come, Marked}
use Rattle.mesa_turn.specs.History.{name_of, has, has_at, Exactly}
use Rattle.mesa_turn.specs.Rule.{At, Home, Out, Turns, ticket_of, is_on, added}
use Rattle.mesa_turn.specs.Steps.{number_of, held, drawn, called, entered, rested, drew, looked, marked, passed}
use Rattle.mesa_turn.proofs.Lists.{prefix_more, prefix_self, prefix_trans, prefix_length, get_past, get_before}
use Rattle.mesa_turn.proofs.Views.{one_view, set_at, each_set, flight_keeps, knower_keeps, rooms_at}
use Rattle.mesa_turn.proofs.Change.{some_same, some_not_none, not_held, slot_stays, one_step, slot_out}

module _ {V : Type 0} (history : V → List ℕ) (limit : ℕ) where
  abbrev S : Type 0
  S = Option V

  abbrev Rule : State S View → Type 0
  Rule = Turns history limit

  -- a seat with no ticket draws one
  pub draws : (slots id n : ℕ) (me : Me S View) → me.0.turn ≡ Idle → has me.0.names n ≡ true → 0 < me.0.room → Allows Rule slots id me 0 (λ k. (k + 1) % 2 ^ 64) (drew (step slots 0 1 0 none) me)
  draws slots id n me idle named room s r deep at small =
      let v : View = me.0 in
      let found : ℕ = get_or s.words 0 0 in
      let is : found ≡ r.ticket = ap (λ ws. get_or ws 0 0) r.words in
      let w : View = drawn found v in
      let mine = r.each id v at in
      let there = rooms_at s.views id v at in
      let top = r.room in let tiny = r.small in
      let fits : (found + 1) % 2 ^ 64 ≡ r.ticket + 1 = mod-eq_of_lt (omega arith) ∙ ap (λ k. k + 1) is in
      let serves = r.order in
      let no_ticket : (t : ℕ) → ticket_of v.turn ≡ Some t → ⊥ = λ t e. some_not_none t (sym (ap ticket_of idle) ∙ e) in (
        w,
        keeps,
        tt,
        one_step history limit s r id v w (r.ticket + 1) r.serving r.log (set s.words 0 ((found + 1) % 2 ^ 64)) s.homes at refl (omega arith)
            (ap (λ ws. set ws 0 ((found + 1) % 2 ^ 64)) r.words ∙ ap (λ k. k ∷ r.serving ∷ length r.log ∷ []) fits)
            (record {
              seen = mine.seen;
              shorter = mine.shorter;
              own = mine.own;
              own_seen = mine.own_seen;
              names = mine.names;
              single = mine.single;
              bound = mine.bound;
              spent = λ none_held. absurd (not_held v n named none_held);
              ticket = λ t e. let e' : found ≡ t = some_same found t e in (omega arith, omega arith);
              on = λ e. absurd (true≢false (sym e));
            })
            (λ i u ne a f. record { seen = f.seen; shorter = f.shorter; own = f.own; own_seen = f.own_seen; names = f.names; single = f.single; bound = f.bound; spent = f.spent; ticket = λ t e. let b = f.ticket t e in (b.0, omega arith); on = f.on })
            (λ t i u ne a f e e'. let e'' : found ≡ t = some_same found t e in let b = f.ticket t e' in let lt = b.1 in omega arith)
            (λ t le lt. dite (ℕ_discrete t r.ticket) (λ e. (id, w, set_at s.views id v w at, ap (λ k. Some k) (is ∙ sym e)))
            (λ other. flight_keeps s.views id v w t at (λ e. absurd (no_ticket t e)) (r.flight t le (omega arith))))
            (knower_keeps s.views id v w r.log at (λ e. e) r.longest)
            (slot_stays history limit s (set s.words 0 ((found + 1) % 2 ^ 64)) r.log r.serving id v w at (ap is_on idle) refl r.slot)
            r.names (omega arith),
        refl,
      )

  -- a seat that looks, and finds its ticket served or not
  pub looks : (slots id n t : ℕ) (me : Me S View) → me.0.turn ≡ Drawn t → has me.0.names n ≡ true → Allows Rule slots id me 1 (λ k. k) (looked history (step slots 1 0 0 none) me)
  looks slots id n t me turn named s r deep at small =
      let v : View = me.0 in
      let found : ℕ = get_or s.words 1 0 in
      let is : found ≡ r.serving = ap (λ ws. get_or ws 1 0) r.words in
      let mine = r.each id v at in
      let number : number_of v.turn ≡ t = ap number_of turn in
      let ticket : ticket_of v.turn ≡ Some t = ap ticket_of turn in
      let words : set s.words 1 found ≡ r.ticket ∷ r.serving ∷ length r.log ∷ [] = ap (λ ws. set ws 1 (get_or ws 1 0)) r.words in
      let P : Type 0 = (w : View) × (a : Act S) × Valid s.homes me.1 a × Rule (stepped s 1 found id me.1 w a) × looked history (step slots 1 0 0 none) me found (w, carried_after me.1 a) in
      let res : P = dite (ℕ_discrete found t)
      (λ hit. ⊎_elim {C = P}
      (λ (a : Home history s r.log r.serving).
      let w : View = called found (history a.value) v in
      let is_log = a.stands in (
        w,
        takes 0 (Some a.value),
        ap (λ hs. get_elem? hs 0) a.slot,
        one_step history limit s r id v w r.ticket r.serving r.log (set s.words 1 found) (set s.homes 0 none) at refl r.order words
            (record {
              seen = subst (λ l. IsPrefix l r.log) (sym is_log) (prefix_self r.log);
              shorter = prefix_trans v.shorter v.seen (history a.value) mine.shorter (subst (IsPrefix v.seen) (sym is_log) mine.seen);
              own = mine.own;
              own_seen = λ k h. let le = prefix_length v.seen r.log mine.seen in let lt = mine.own_seen k h in let e : length (history a.value) ≡ length r.log = ap (λ l. length l) is_log in omega arith;
              names = mine.names;
              single = mine.single;
              bound = mine.bound;
              spent = λ none_held. absurd (not_held v n named none_held);
              ticket = λ t' e. mine.ticket t' (ticket ∙ (ap (λ k. Some k) (sym hit) ∙ e));
              on = λ _. (ap (λ k. Some k) is, is_log);
            })
            (λ i u ne b f. f)
            (λ t' i u ne b f e. (r.apart id i v u (λ q. ne (sym q)) at b).tickets t' (ticket ∙ (ap (λ k. Some k) (sym hit) ∙ e)))
            (λ t' le lt. flight_keeps s.views id v w t' at (λ e. ap (λ k. Some k) hit ∙ (sym ticket ∙ e)) (r.flight t' le lt))
            (id, w, set_at s.views id v w at, is_log)
            (inr record { at = id; view = w; slot = ap (λ hs. set hs 0 none) a.slot; there = set_at s.views id v w at; on = refl; count = let c = a.count in omega arith })
            r.names (let top = r.room in let tiny = r.small in omega arith),
        (
          (λ _. (a.value, refl, record { seen = subst (IsPrefix v.seen) (sym is_log) mine.seen; count = ap (λ l. length l) is_log ∙ (a.count ∙ sym is); below = let b = mine.bound (not_held v n named) in let top = r.room in let lt = (mine.ticket t ticket).1 in omega arith; own = subst (Exactly v.own v.names) (sym is_log) mine.own; own_seen = mine.own_seen })),
          (λ miss. absurd (miss (hit ∙ sym number))),
        ),
      ))
      (λ (o : Out history s r.log r.serving).
      let their = (r.each o.at o.view o.there).on o.on in
      absurd (dite (ℕ_discrete o.at id)
      (λ e. true≢false (sym o.on ∙ (ap (λ (u : View). is_on u.turn) (one_view s.views id o.view v (subst (λ i. At s.views i o.view) e o.there) at) ∙ ap is_on turn)))
      (λ ne. (r.apart id o.at v o.view (λ e. ne (sym e)) at o.there).tickets r.serving (ticket ∙ ap (λ k. Some k) (sym hit ∙ is)) their.0)))
      r.slot)
      (λ miss. (
        v,
        keeps,
        tt,
        one_step history limit s r id v v r.ticket r.serving r.log (set s.words 1 found) s.homes at refl r.order words mine
            (λ i u ne b f. f) (λ t' i u ne b f e. (r.apart id i v u (λ q. ne (sym q)) at b).tickets t' e)
            (λ t' le lt. flight_keeps s.views id v v t' at (λ e. e) (r.flight t' le lt))
            (knower_keeps s.views id v v r.log at (λ e. e) r.longest)
            (slot_stays history limit s (set s.words 1 found) r.log r.serving id v v at (ap is_on turn) (ap is_on turn) r.slot)
            r.names (let top = r.room in let tiny = r.small in omega arith),
        ((λ hit. absurd (miss (hit ∙ number))), (λ _. refl)),
      )) in
      res

  -- a seat whose turn has come, and which holds the slot, counts its one new entry
  pub marks : (slots id t : ℕ) (x : V) (e : ℕ) (me : Me S View) → me.0.turn ≡ Come t → me.1 ≡ (0, Some x) ∷ [] → history x ≡ me.0.seen ++ e ∷ [] → has me.0.names (name_of e) ≡ true
      → Allows Rule slots id me 2 (λ k. (k + 1) % 2 ^ 64) (marked history (step slots 2 1 0 none) me)
  marks slots id t x e me turn carried grown named s r deep at small =
      let v : View = me.0 in
      let found : ℕ = get_or s.words 2 0 in
      let is : found ≡ length r.log = ap (λ ws. get_or ws 2 0) r.words in
      let mine = r.each id v at in
      let on : is_on v.turn ≡ true = ap is_on turn in
      let now = mine.on on in
      let ticket : ticket_of v.turn ≡ Some t = ap ticket_of turn in
      let serving : t ≡ r.serving = some_same t r.serving (sym ticket ∙ now.0) in
      let number : number_of v.turn ≡ r.serving = ap number_of turn ∙ serving in
      let their = slot_out history limit s r id v at on in
      let count : length r.log ≡ r.serving = their.1 ∙ (ap (λ (u : Turn). r.serving + added u) turn ∙ (omega arith)) in
      let log : List ℕ = r.log ++ e ∷ [] in
      let longer_by : length log ≡ length r.log + 1 = length-append r.log (e ∷ []) in
      let mine_now = mine.ticket r.serving now.0 in
      let top = r.room in let tiny = r.small in
      let holds : held history me.1 ≡ history x = ap (held history) carried in
      let w : View = entered (held history me.1) v in
      let whole : held history me.1 ≡ log = holds ∙ (grown ∙ ap (λ l. l ++ e ∷ []) now.1) in
      let own_now : Exactly w.own w.names log = λ k. dite (ℕ_discrete k (length r.log))
      (λ h. ap (λ b. b || has v.own k) (eq-eqb (length v.seen) k (ap (λ l. length l) now.1 ∙ sym h)) ∙ (sym named ∙ ap (has_at v.names) (sym (get_past r.log e k h))))
      (λ ne. ap (λ b. b || has v.own k) (ne_eqb (length v.seen) k (λ h. ne (sym h ∙ ap (λ l. length l) now.1))) ∙ (mine.own k ∙ ap (has_at v.names) (sym (get_before r.log e k ne)))) in
      let fits : (found + 1) % 2 ^ 64 ≡ length log = mod-eq_of_lt (omega arith) ∙ (ap (λ k. k + 1) is ∙ sym longer_by) in (
        w,
        keeps,
        tt,
        one_step history limit s r id v w r.ticket r.serving log (set s.words 2 ((found + 1) % 2 ^ 64)) s.homes at refl r.order
            (ap (λ ws. set ws 2 ((found + 1) % 2 ^ 64)) r.words ∙ ap (λ k. r.ticket ∷ r.serving ∷ k ∷ []) fits)
            (record {
              seen = subst (λ l. IsPrefix l log) (sym whole) (prefix_self log);
              shorter = prefix_trans v.shorter v.seen (held history me.1) mine.shorter (subst (IsPrefix v.seen) (sym whole) (prefix_more v.seen r.log (e ∷ []) mine.seen));
              own = own_now;
              own_seen = λ k h. let l : length (held history me.1) ≡ length log = ap (λ l. length l) whole in dite (ℕ_discrete k (length r.log))
                  (λ q. omega arith)
                  (λ ne. let lt = mine.own_seen k (sym (ap (λ b. b || has v.own k) (ne_eqb (length v.seen) k (λ q. ne (sym q ∙ ap (λ l. length l) now.1)))) ∙ h) in let c : length v.seen ≡ length r.log = ap (λ l. length l) now.1 in omega arith);
              names = mine.names;
              single = mine.single;
              bound = mine.bound;
              spent = λ none_held. absurd (not_held v (name_of e) named none_held);
              ticket = λ t' q. mine.ticket t' (now.0 ∙ (ap (λ k. Some k) (sym number) ∙ q));
              on = λ _. (ap (λ k. Some k) number, whole);
            })
            (λ i u ne b f. let p = r.apart id i v u (λ q. ne (sym q)) at b in record {
              seen = prefix_more u.seen r.log (e ∷ []) f.seen;
              shorter = f.shorter;
              own = λ k. dite (ℕ_discrete k (length r.log))
                  (λ h. f.own k ∙ (ap (has_at u.names) (slice_get_past r.log k (omega arith)) ∙ (sym (p.names (name_of e) named) ∙ ap (has_at u.names) (sym (get_past r.log e k h)))))
                  (λ other. f.own k ∙ ap (has_at u.names) (sym (get_before r.log e k other)));
              own_seen = f.own_seen;
              names = f.names;
              single = f.single;
              bound = f.bound;
              spent = f.spent;
              ticket = f.ticket;
              on = λ q. absurd (p.tickets r.serving now.0 (f.on q).0);
            })
            (λ t' i u ne b f q. (r.apart id i v u (λ q. ne (sym q)) at b).tickets t' (now.0 ∙ (ap (λ k. Some k) (sym number) ∙ q)))
            (λ t' le lt. flight_keeps s.views id v w t' at (λ q. ap (λ k. Some k) number ∙ (sym now.0 ∙ q)) (r.flight t' le lt))
            (id, w, set_at s.views id v w at, whole)
            (inr record { at = id; view = w; slot = their.0; there = set_at s.views id v w at; on = refl; count = omega arith })
            (λ k y q. dite (ℕ_discrete k (length r.log))
            (λ h. let same : e ≡ y = some_same e y (sym (get_past r.log e k h) ∙ q) in subst (λ z. name_of z < 8) same (mine.names (name_of e) named))
            (λ ne. r.names k y (sym (get_before r.log e k ne) ∙ q)))
            (omega arith),
        (refl, subst (Exactly w.own w.names) (sym whole) own_now),
      )

  -- a seat that has counted its entry passes the turn on, and gives the slot back
  pub passes : (slots id t n : ℕ) (x : V) (me : Me S View) → me.0.turn ≡ Marked t → me.1 ≡ (0, Some x) ∷ [] → history x ≡ me.0.seen → has me.0.names n ≡ true
      → Allows Rule slots id me 1 (λ k. (k + 1) % 2 ^ 64) (passed (step slots 1 1 0 none) me)
  passes slots id t n x me turn carried same named s r deep at small =
      let v : View = me.0 in
      let found : ℕ = get_or s.words 1 0 in
      let is : found ≡ r.serving = ap (λ ws. get_or ws 1 0) r.words in
      let mine = r.each id v at in
      let on : is_on v.turn ≡ true = ap is_on turn in
      let now = mine.on on in
      let their = slot_out history limit s r id v at on in
      let count : length r.log ≡ r.serving + 1 = their.1 ∙ ap (λ (u : Turn). r.serving + added u) turn in
      let mine_now = mine.ticket r.serving now.0 in
      let top = r.room in let tiny = r.small in
      let w : View = rested v in
      let homes : put_back s.homes me.1 ≡ some (Some x) ∷ [] = λ i. put_back (their.0 i) (carried i) in
      let fits : (found + 1) % 2 ^ 64 ≡ r.serving + 1 = mod-eq_of_lt (let lt = mine_now.1 in omega arith) ∙ ap (λ k. k + 1) is in (
        w,
        gives,
        tt,
        one_step history limit s r id v w r.ticket (r.serving + 1) r.log (set s.words 1 ((found + 1) % 2 ^ 64)) (put_back s.homes me.1) at refl (let lt = mine_now.1 in omega arith)
            (ap (λ ws. set ws 1 ((found + 1) % 2 ^ 64)) r.words ∙ ap (λ k. r.ticket ∷ k ∷ length r.log ∷ []) fits)
            (record {
              seen = mine.seen;
              shorter = mine.shorter;
              own = mine.own;
              own_seen = mine.own_seen;
              names = mine.names;
              single = mine.single;
              bound = mine.bound;
              spent = λ _. refl;
              ticket = λ t' q. absurd (some_not_none t' q);
              on = λ q. absurd (true≢false (sym q));
            })
            (λ i u ne b f. let p = r.apart id i v u (λ q. ne (sym q)) at b in record {
              seen = f.seen;
              shorter = f.shorter;
              own = f.own;
              own_seen = f.own_seen;
              names = f.names;
              single = f.single;
              bound = f.bound;
              spent = f.spent;
              ticket = λ t' q. let between = f.ticket t' q in let other : t' ≢ r.serving = λ h. p.tickets r.serving now.0 (q ∙ ap (λ k. Some k) h) in (let le = between.0 in omega arith, between.1);
              on = λ q. absurd (p.tickets r.serving now.0 (f.on q).0);
            })
            (λ t' i u ne b f q. absurd (some_not_none t' q))
            (λ t' le lt. flight_keeps s.views id v w t' at (λ q. let h : r.serving ≡ t' = some_same r.serving t' (sym now.0 ∙ q) in absurd (omega arith)) (r.flight t' (omega arith) lt))
            (knower_keeps s.views id v w r.log at (λ q. q) r.longest)
            (inl record {
              value = x;
              slot = homes;
              stands = same ∙ now.1;
              count = count;
              none_on = each_set (λ u. is_on u.turn ≡ false) s.views id w refl (λ i u ne b. false_from_ne_true (is_on u.turn) (λ q. (r.apart id i v u (λ z. ne (sym z)) at b).tickets r.serving now.0 ((r.each i u b).on q).0));
            })
            r.names (omega arith),
        refl,
      )
