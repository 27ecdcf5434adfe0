-- What is chosen by name, once a name more or a name less is there.
use Rattle.std.proofs.Common.{◌≡◌, ℕ, zero, suc, ◌+◌, List, [], ◌∷◌, ◌++◌, length, Option, Some, None, Bool, true, false, cond, nat_lt, not, refl, sym, ◌∙◌, ap, arith, slice_get}
use Rattle.std.proofs.lemmas.Bool.{and_parts}
use Rattle.std.proofs.lemmas.Bool.Decides.{nat_tests}
use Rattle.std.specs.Prelude.{option_map, option_and_then, filter_map, ◌||◌}
use Rattle.std.specs.List.{position_or_len, cons_option, list_all}
use Rattle.mesa_columns.specs.mesa_list.Bytes.{same_bytes}
use Rattle.mesa_columns.specs.Names.{has_name}
use Rattle.mesa_columns.specs.Columns.{place_of, places_in, chosen}
use Rattle.mesa_columns.specs.Changes.{without}
use Rattle.mesa_columns.proofs.Drops.{without-suc}

not_true : (b : Bool) → not b ≡ true → b ≡ false
not_true true h = cc
not_true false h = refl

-- what stands under a name
abbrev pub pick : {X : Type 0} → List (List ℕ) → List X → List ℕ → Option X
pick names xs name = option_and_then (slice_get xs) (place_of name names)

place_test : (k n : ℕ) → cond (nat_lt (suc k) (suc n)) (Some (suc k)) None ≡ option_map suc (cond (nat_lt k n) (Some k) None)
place_test k n = by (nat_lt k n) refl
  where
    by : (b : Bool) → nat_lt k n ≡ b → cond (nat_lt (suc k) (suc n)) (Some (suc k)) None ≡ option_map suc (cond b (Some k) None)
    by true e = let f : nat_lt (suc k) (suc n) ≡ true = grind (arith, nat_tests) in ap (λ b. cond b (Some (suc k)) None) f
    by false e = let f : nat_lt (suc k) (suc n) ≡ false = grind (arith, nat_tests) in ap (λ b. cond b (Some (suc k)) None) f

place_cons : (name n : List ℕ) (names : List (List ℕ)) → place_of name (n ∷ names) ≡ cond (same_bytes name n) (Some 0) (option_map suc (place_of name names))
place_cons name n names = by (same_bytes name n)
  where
    by : (b : Bool) → cond (nat_lt (cond (not b) (1 + position_or_len (same_bytes name) names) 0) (suc (length names))) (Some (cond (not b) (1 + position_or_len (same_bytes name) names) 0)) None ≡ cond b (Some 0) (option_map suc (place_of name names))
    by true = let f : nat_lt 0 (suc (length names)) ≡ true = grind (arith, nat_tests) in ap (λ b. cond b (Some 0) None) f
    by false =
        let e : 1 + position_or_len (same_bytes name) names ≡ suc (position_or_len (same_bytes name) names) = omega arith in
        ap (λ p. cond (nat_lt p (suc (length names))) (Some p) None) e ∙ place_test (position_or_len (same_bytes name) names) (length names)

module _ {X : Type 0} where
  shifted : (x : X) (xs : List X) (o : Option ℕ) → option_and_then (slice_get (x ∷ xs)) (option_map suc o) ≡ option_and_then (slice_get xs) o
  shifted x xs None = refl
  shifted x xs (Some i) = refl

  pick_cons : (name n : List ℕ) (names : List (List ℕ)) (x : X) (xs : List X) → pick (n ∷ names) (x ∷ xs) name ≡ cond (same_bytes name n) (Some x) (pick names xs name)
  pick_cons name n names x xs = ap (option_and_then (slice_get (x ∷ xs))) (place_cons name n names) ∙ by (same_bytes name n)
    where
      by : (b : Bool) → option_and_then (slice_get (x ∷ xs)) (cond b (Some 0) (option_map suc (place_of name names))) ≡ cond b (Some x) (pick names xs name)
      by true = refl
      by false = shifted x xs (place_of name names)

  -- a column more
  pick_more : (name : List ℕ) (names : List (List ℕ)) (xs : List X) (n : List ℕ) (x : X) → length names ≡ length xs → has_name name names ≡ true → pick (names ++ n ∷ []) (xs ++ x ∷ []) name ≡ pick names xs name
  pick_more name [] xs n x len has = absurd (let f : false ≡ true = has in cc)
  pick_more name (m ∷ names) [] n x len has = absurd (omega (arith, len))
  pick_more name (m ∷ names) (y ∷ xs) n x len has =
      pick_cons name m (names ++ n ∷ []) y (xs ++ x ∷ []) ∙ by (same_bytes name m) has (pick_more name names xs n x (omega (arith, len))) ∙ sym (pick_cons name m names y xs)
    where
      by : (b : Bool) → (b || has_name name names) ≡ true → (has_name name names ≡ true → pick (names ++ n ∷ []) (xs ++ x ∷ []) name ≡ pick names xs name) → cond b (Some y) (pick (names ++ n ∷ []) (xs ++ x ∷ []) name) ≡ cond b (Some y) (pick names xs name)
      by true has rest = refl
      by false has rest = rest has

  -- a column less, of another name
  pick_less : (name : List ℕ) (names : List (List ℕ)) (xs : List X) (i : ℕ) (d : List ℕ) → length names ≡ length xs → slice_get names i ≡ Some d → same_bytes name d ≡ false → pick (without i names) (without i xs) name ≡ pick names xs name
  pick_less name [] xs i d len at other = cc
  pick_less name (m ∷ names) [] i d len at other = absurd (omega (arith, len))
  pick_less name (m ∷ names) (y ∷ xs) zero d len at other =
      let same : m ≡ d = cc in
      let no : same_bytes name m ≡ false = ap (same_bytes name) same ∙ other in
      sym (pick_cons name m names y xs ∙ ap (λ b. cond b (Some y) (pick names xs name)) no)
  pick_less name (m ∷ names) (y ∷ xs) (suc i) d len at other =
      let rest = pick_less name names xs i d (omega (arith, len)) at other in
      (λ j. pick (without-suc i m names j) (without-suc i y xs j) name) ∙ pick_cons name m (without i names) y (without i xs) ∙ ap (λ o. cond (same_bytes name m) (Some y) o) rest ∙ sym (pick_cons name m names y xs)

  -- the columns of names are what stands under each
  chosen_picks : (names : List (List ℕ)) (xs : List X) (asked : List (List ℕ)) → chosen (places_in names asked) xs ≡ filter_map (pick names xs) asked
  chosen_picks names xs [] = refl
  chosen_picks names xs (a ∷ asked) = by (place_of a names) (chosen_picks names xs asked)
    where
      by : (o : Option ℕ) → chosen (places_in names asked) xs ≡ filter_map (pick names xs) asked → filter_map (slice_get xs) (cons_option o (places_in names asked)) ≡ cons_option (option_and_then (slice_get xs) o) (filter_map (pick names xs) asked)
      by None rest = rest
      by (Some i) rest = ap (cons_option (slice_get xs i)) rest

  same_picks : (names more : List (List ℕ)) (xs ys : List X) (asked : List (List ℕ)) (P : List ℕ → Bool) → ((a : List ℕ) → P a ≡ true → pick more ys a ≡ pick names xs a) → list_all P asked ≡ true → filter_map (pick more ys) asked ≡ filter_map (pick names xs) asked
  same_picks names more xs ys [] P same all = refl
  same_picks names more xs ys (a ∷ asked) P same all =
      let both = and_parts (P a) (list_all P asked) all in
      λ i. cons_option (same a both.0 i) (same_picks names more xs ys asked P same both.1 i)

  -- Names that are there choose the same once there is one more.
  pub chosen-push : (names : List (List ℕ)) (xs : List X) (n : List ℕ) (x : X) (asked : List (List ℕ)) → length names ≡ length xs → list_all (λ a. has_name a names) asked ≡ true
      → chosen (places_in (names ++ n ∷ []) asked) (xs ++ x ∷ []) ≡ chosen (places_in names asked) xs
  chosen-push names xs n x asked len all =
      chosen_picks (names ++ n ∷ []) (xs ++ x ∷ []) asked ∙ same_picks names (names ++ n ∷ []) xs (xs ++ x ∷ []) asked (λ a. has_name a names) (λ a has. pick_more a names xs n x len has) all ∙ sym (chosen_picks names xs asked)

  -- So do names other than that of a column that goes.
  pub chosen-less : (names : List (List ℕ)) (xs : List X) (i : ℕ) (d : List ℕ) (asked : List (List ℕ)) → length names ≡ length xs → slice_get names i ≡ Some d → list_all (λ a. not (same_bytes a d)) asked ≡ true
      → chosen (places_in (without i names) asked) (without i xs) ≡ chosen (places_in names asked) xs
  chosen-less names xs i d asked len at all =
      chosen_picks (without i names) (without i xs) asked ∙ same_picks names (without i names) xs (without i xs) asked (λ a. not (same_bytes a d)) (λ a other. pick_less a names xs i d len at (not_true (same_bytes a d) other)) all ∙ sym (chosen_picks names xs asked)
