-- The best of a table and its views, one view after another.
use Rattle.std.proofs.Common.{◌≡◌, ℕ, ◌+◌, ◌<◌, ◌≤◌, List, [], ◌∷◌, ◌++◌, length, get_or, Bool, true, false, cond, refl, sym, ◌∙◌, ap, subst, arith, Option, Some, None}
use Rattle.std.specs.Prelude.{◌==◌, ◌&&◌, IfSome, IsTrue, max, nat_lt, position, slice_get}
use Rattle.std.specs.Bool.{then_some}
use Rattle.std.specs.List.{position_from}
use Rattle.std.specs.Option.{is_some, option_or}
use Rattle.std.proofs.lemmas.Bool.{eq-eqb, eqb-true, ltb-false, ltb-true}
use Rattle.std.proofs.lemmas.Iterator.Adapters.{position_from-zero}
use Rattle.std.proofs.lemmas.List.Quantifiers.{position-Some}
use Rattle.std.proofs.lemmas.Option.{slice_get-get_or}
use Rattle.mesa_filter.proofs.mesa_list.Whole.{both}
use Rattle.mesa_model.specs.mesa_columns.declared.views.View.{View}
use Rattle.mesa_model.specs.mesa_columns.Columns.{Columns}
use Rattle.mesa_filter.specs.declared.terms.Term.{Term}
use Rattle.mesa_model.specs.Orders.{best_score, choice, is_candidate, leading, table_score, view_score}
use Rattle.mesa_schema.specs.Views.{view_key_places}
use Rattle.mesa_order.specs.Best.{best_of, better_of}

position_from-push : {X : Type 0} (p : X → Bool) (i : ℕ) (xs : List X) (x : X) → position_from p i (xs ++ x ∷ []) ≡ option_or (position_from p i xs) (then_some (p x) (i + length xs))
position_from-push p i [] x = elim (p x) as (λ b. cond b (Some i) None ≡ then_some b (i + 0)) [ true ↦ ap Some (omega arith) | false ↦ refl ]
position_from-push p i (y ∷ ys) x =
    elim (p y) as (λ b. cond b (Some i) (position_from p (i + 1) (ys ++ x ∷ [])) ≡ option_or (cond b (Some i) (position_from p (i + 1) ys)) (then_some (p x) (i + length (y ∷ ys)))) [
      | true ↦ refl
      | false ↦ position_from-push p (i + 1) ys x ∙ ap (λ n. option_or (position_from p (i + 1) ys) (then_some (p x) n)) (omega arith)
    ]

first_of : (o : Option ℕ) (P Q : ℕ → Type 0) → IfSome o (λ n. P n × Q n) → IfSome o P
first_of None P Q h = tt
first_of (Some n) P Q h = h.0

second_of : (o : Option ℕ) (P Q : ℕ → Type 0) → IfSome o (λ n. P n × Q n) → IfSome o Q
second_of None P Q h = tt
second_of (Some n) P Q h = h.1

kept_some : (o : Option ℕ) (more : Option ℕ) → is_some o ≡ true → option_or o more ≡ o
kept_some (Some x) more h = refl
kept_some None more h = cc

module _ (s : Columns) (values : List ℕ) (terms : List Term) where
  abbrev score : View → ℕ
  score v = view_score s values terms v

  abbrev best : List View → ℕ
  best views = best_score s values terms views

  abbrev table : ℕ
  table = table_score s terms

  abbrev serves : ℕ → View → Bool
  serves n v = is_candidate s values v && (score v == n)

  table_least : (views : List View) → table ≤ best views
  table_least [] = omega arith
  table_least (v ∷ views) = let rest = table_least views in omega (arith, rest)

  best_push : (views : List View) (v : View) → best (views ++ v ∷ []) ≡ max (best views) (score v)
  best_push [] v = omega arith
  best_push (w ∷ views) v = let rest = best_push views v in omega (arith, rest)

  -- a score that isn't 0 is a candidate's
  scores_serve : (v : View) (n : ℕ) → 0 < n → score v ≡ n → is_candidate s values v ≡ true
  scores_serve v n some is = by (is_candidate s values v) refl
    where
      by : (b : Bool) → is_candidate s values v ≡ b → b ≡ true
      by true e = refl
      by false e = let none : score v ≡ 0 = ap (λ b. cond b (leading terms (view_key_places s v)) 0) e in absurd (omega (arith, some, is, none))

  serves_own : (v : View) (n : ℕ) → 0 < n → score v ≡ n → serves n v ≡ true
  serves_own v n some is = let candidate = scores_serve v n some is in let same : (score v == n) ≡ true = eq-eqb (score v) n is in λ i. candidate i && same i

  serves_score : (v : View) (n : ℕ) → serves n v ≡ true → score v ≡ n
  serves_score v n h = by (is_candidate s values v) h
    where
      by : (b : Bool) → (b && (score v == n)) ≡ true → score v ≡ n
      by true h = eqb-true (score v) n h
      by false h = cc

  is_not : (b : Bool) → (b ≡ true → ⊥) → b ≡ false
  is_not true f = absurd (f refl)
  is_not false f = refl

  -- no view has a score above the best
  none_above : (i : ℕ) (views : List View) (n : ℕ) → best views < n → position_from (serves n) i views ≡ None
  none_above i [] n h = refl
  none_above i (v ∷ views) n h =
      let not : serves n v ≡ false = is_not (serves n v) (λ t. let is = serves_score v n t in omega (arith, h, is)) in
      ap (λ b. cond b (Some i) (position_from (serves n) (i + 1) views)) not ∙ none_above (i + 1) views n (omega (arith, h))

  -- the best score is that of a view behind one that doesn't serve
  best_behind : (v : View) (views : List View) (n : ℕ) → table < n → n ≡ best (v ∷ views) → serves n v ≡ false → n ≡ best views
  best_behind v views n h is none = by (score v == n) refl
    where
      by : (b : Bool) → (score v == n) ≡ b → n ≡ best views
      by true same = let own : serves n v ≡ true = serves_own v n (omega (arith, h)) (eqb-true (score v) n same) in cc
      by false other = let differ : score v ≡ n → ⊥ = λ same. let yes = eq-eqb (score v) n same in cc in omega (arith, is, differ)

  -- where the table hasn't the best score a view has
  some_best : (i : ℕ) (views : List View) (n : ℕ) → table < n → n ≡ best views → is_some (position_from (serves n) i views) ≡ true
  some_best i [] n h is = absurd (omega (arith, h, is))
  some_best i (v ∷ views) n h is = by (serves n v) refl (λ behind. some_best (i + 1) views n h behind)
    where
      by : (b : Bool) → serves n v ≡ b → (n ≡ best views → is_some (position_from (serves n) (i + 1) views) ≡ true) → is_some (cond b (Some i) (position_from (serves n) (i + 1) views)) ≡ true
      by true e later = refl
      by false e later = later (best_behind v views n h is e)

  -- the best of views, and of one more
  pub best_next : (views : List View) (v : View) → best_of s values terms (views ++ v ∷ []) ≡ better_of (best_of s values terms views) (length views) (score v)
  best_next views v = by (nat_lt (best views) (score v)) refl
    where
      more : List View
      more = views ++ v ∷ []

      picked : ℕ → List View → Option ℕ
      picked n xs = cond (table == n) None (position (serves n) xs)

      pushed : (n : ℕ) → position (serves n) (views ++ v ∷ []) ≡ option_or (position_from (serves n) 0 views) (then_some (serves n v) (0 + length views))
      pushed n = position_from-zero (serves n) (views ++ v ∷ []) ∙ position_from-push (serves n) 0 views v

      by : (b : Bool) → nat_lt (best views) (score v) ≡ b → best_of s values terms (views ++ v ∷ []) ≡ cond b (record { score = score v; view = Some (length views) }) (best_of s values terms views)
      by true e =
          let above : best views < score v = ltb-true (best views) (score v) e in
          let new : best (views ++ v ∷ []) ≡ score v = let push = best_push views v in omega (arith, push, above) in
          let low : (table == score v) ≡ false = is_not (table == score v) (λ t. let same = eqb-true table (score v) t in let least = table_least views in omega (arith, above, same, least)) in
          let own : serves (score v) v ≡ true = serves_own v (score v) (omega (arith, above)) refl in
          let place : position (serves (score v)) (views ++ v ∷ []) ≡ Some (length views) =
          pushed (score v) ∙ (λ i. option_or (none_above 0 views (score v) above i) (then_some (own i) (0 + length views))) ∙ ap Some (omega arith) in
          let chosen : choice s (views ++ v ∷ []) values terms ≡ Some (length views) =
          (λ i. cond (table == new i) None (position (serves (new i)) (views ++ v ∷ []))) ∙ (λ i. cond (low i) None (place i)) in
          λ i. record { score = new i; view = chosen i }
      by false e =
          let below : score v ≤ best views = ltb-false (best views) (score v) e in
          let same : best (views ++ v ∷ []) ≡ best views = let push = best_push views v in omega (arith, push, below) in
          let chosen : choice s (views ++ v ∷ []) values terms ≡ choice s views values terms =
          (λ i. cond (table == same i) None (position (serves (same i)) (views ++ v ∷ []))) ∙ stays (table == best views) refl in
          λ i. record { score = same i; view = chosen i }
        where
          stays : (t : Bool) → (table == best views) ≡ t → cond t None (position (serves (best views)) (views ++ v ∷ [])) ≡ cond t None (position (serves (best views)) views)
          stays true t = refl
          stays false t =
              let differ : table ≡ best views → ⊥ = λ eq. let yes = eq-eqb table (best views) eq in cc in
              let least = table_least views in
              let some = some_best 0 views (best views) (omega (arith, differ, least)) refl in
              pushed (best views) ∙ kept_some (position_from (serves (best views)) 0 views) _ some ∙ sym (position_from-zero (serves (best views)) views)

  -- where there are no views the table is chosen
  pub none_yet : choice s [] values terms ≡ None
  none_yet = elim (table == table) as (λ b. ◌≡◌ {A = Option ℕ} (cond b None None) None) [ true ↦ refl | false ↦ refl ]

  -- the first that serves is there, and is a candidate
  found_serves : (n : ℕ) (views : List View) (found : Option ℕ) → position (serves n) views ≡ found → IfSome found (λ view. (view < length views) × IfSome (slice_get views view) (λ v. IsTrue (is_candidate s values v)))
  found_serves n views None is = tt
  found_serves n views (Some view) is =
      let first = position-Some (serves n) views view (record { name = []; keys = []; values = [] }) is in
      let v : View = get_or views view (record { name = []; keys = []; values = [] }) in
      let there : slice_get views view ≡ Some v = slice_get-get_or views view (record { name = []; keys = []; values = [] }) first.0 in
      (first.0, subst (λ (o : Option View). IfSome o (λ w. IsTrue (is_candidate s values w))) (sym there) (both (is_candidate s values v) (score v == n) first.1).0)

  chosen_serves : (views : List View) → IfSome (choice s views values terms) (λ view. (view < length views) × IfSome (slice_get views view) (λ v. IsTrue (is_candidate s values v)))
  chosen_serves views = elim (table == best views) as (λ b. IfSome (cond b None (position (serves (best views)) views)) (λ view. (view < length views) × IfSome (slice_get views view) (λ v. IsTrue (is_candidate s values v)))) [
    | true ↦ tt
    | false ↦ found_serves (best views) views (position (serves (best views)) views) refl
  ]

  -- a view that is chosen is there,
  pub chosen_there : (views : List View) (o : Option ℕ) → o ≡ choice s views values terms → IfSome o (λ view. view < length views)
  chosen_there views o is =
      subst (λ p. IfSome p (λ view. view < length views)) (sym is) (first_of (choice s views values terms) (λ view. view < length views) (λ view. IfSome (slice_get views view) (λ v. IsTrue (is_candidate s values v))) (chosen_serves views))

  -- and may answer
  pub chosen_candidate : (views : List View) (o : Option ℕ) → o ≡ choice s views values terms → IfSome o (λ view. IfSome (slice_get views view) (λ v. IsTrue (is_candidate s values v)))
  chosen_candidate views o is =
      subst (λ p. IfSome p (λ view. IfSome (slice_get views view) (λ v. IsTrue (is_candidate s values v)))) (sym is)
      (second_of (choice s views values terms) (λ view. view < length views) (λ view. IfSome (slice_get views view) (λ v. IsTrue (is_candidate s values v))) (chosen_serves views))
