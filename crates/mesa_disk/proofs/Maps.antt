-- The files of a disk in memory as a finite map.
use Rattle.std.proofs.Common.{◌≡◌, ℕ, List, [], ◌∷◌, ◌&&◌, Bool, true, false, IsTrue, cond, Option, Some, None, map, refl, sym, ◌∙◌, ap, subst}
use lib.Dec.{T}
use Rattle.std.specs.Option.{option_map}
use Rattle.std.specs.Ordering.{nat_cmp, is_eq, is_lt, eq_by_cmp}
use Rattle.std.specs.declared.cmp.Ordering.TheVariants.{Less}
use Rattle.std.specs.Cmp.{nat_cmp_total, eq_by_cmp_equiv}
use Rattle.std.specs.Map.{lookup, keys_of}
use Rattle.std.specs.List.{AllByRecursion, AllZip}
use Rattle.std.specs.List.Sorted.{IsStrictlySortedBy}
use Rattle.std.specs.FinMap.{get, insert, remove, keys, from_entries, from_sorted, find, is_sorted, get-from_entries, get-from_sorted, get-insert, get-remove, same_map, entries-from_sorted, nat_cmp-IsAntisymmetric}
use Rattle.std.specs.FinMap.Entries.{below_all}

turned_value : {X Y : Type 0} (f : X → Y) (b : Bool) (w o : Option X) → option_map f (cond b w o) ≡ cond b (option_map f w) (option_map f o)
turned_value f true w o = refl
turned_value f false w o = refl

module _ {X Y : Type 0} (f : X → Y) where
  -- the entries with what their values stand for
  abbrev pub shown : List (ℕ × X) → List (ℕ × Y)
  shown es = map (λ e. (e.0, f e.1)) es

  -- what a map has at a key
  abbrev pub at : List (ℕ × X) → ℕ → Option X
  at es q = lookup (λ k. is_eq (nat_cmp q k)) es

  find-shown : (q : ℕ) (es : List (ℕ × X)) → find nat_cmp q (shown es) ≡ option_map f (at es q)
  find-shown q [] = refl
  find-shown q (e ∷ es) = elim (is_eq (nat_cmp q e.0)) as (λ b. cond b (Some (f e.1)) (find nat_cmp q (shown es)) ≡ option_map f (cond b (Some e.1) (at es q))) [ true ↦ refl | false ↦ find-shown q es ]

  pub get-shown : (es : List (ℕ × X)) (q : ℕ) → get (from_entries {R = nat_cmp} (shown es)) q ≡ option_map f (at es q)
  get-shown es q = get-from_entries nat_cmp_total (shown es) q ∙ find-shown q es

  changed : (old new : List (ℕ × X)) (k : ℕ) (w : Option X) → ((q : ℕ) → at new q ≡ cond (is_eq (nat_cmp k q)) w (at old q))
      → (q : ℕ) → get (from_entries {R = nat_cmp} (shown new)) q ≡ cond (eq_by_cmp nat_cmp q k) (option_map f w) (get (from_entries {R = nat_cmp} (shown old)) q)
  changed old new k w is q =
      get-shown new q ∙ ap (option_map f) (is q) ∙ turned_value f _ w (at old q)
      ∙ ap (λ b. cond b (option_map f w) (option_map f (at old q))) ((eq_by_cmp_equiv nat_cmp_total).symm k q)
      ∙ ap (λ o. cond (eq_by_cmp nat_cmp q k) (option_map f w) o) (sym (get-shown old q))

  pub shown-insert : (old new : List (ℕ × X)) (k : ℕ) (v : X) → ((q : ℕ) → at new q ≡ cond (is_eq (nat_cmp k q)) (Some v) (at old q))
      → from_entries {R = nat_cmp} (shown new) ≡ insert (from_entries (shown old)) k (f v)
  shown-insert old new k v is = same_map nat_cmp_total nat_cmp-IsAntisymmetric _ _ (λ q. changed old new k (Some v) is q ∙ sym (get-insert nat_cmp_total (from_entries (shown old)) k (f v) q))

  pub shown-remove : (old new : List (ℕ × X)) (k : ℕ) → ((q : ℕ) → at new q ≡ cond (is_eq (nat_cmp k q)) None (at old q))
      → from_entries {R = nat_cmp} (shown new) ≡ remove (from_entries (shown old)) k
  shown-remove old new k is = same_map nat_cmp_total nat_cmp-IsAntisymmetric _ _ (λ q. changed old new k None is q ∙ sym (get-remove nat_cmp_total (from_entries (shown old)) k q))

  below : (x : ℕ) (es : List (ℕ × X)) → AllByRecursion (λ y. nat_cmp x y ≡ Less) (keys_of es) → IsTrue (below_all nat_cmp x (shown es))
  below x [] all = refl
  below x (e ∷ es) all = ap (λ o. is_lt o && below_all nat_cmp x (shown es)) all.0 ∙ below x es all.1

  sorted : (es : List (ℕ × X)) → IsStrictlySortedBy nat_cmp (keys_of es) → IsTrue (is_sorted nat_cmp (shown es))
  unfolding IsStrictlySortedBy
  sorted [] rising = refl
  sorted (e ∷ es) rising = ap (λ b. b && is_sorted nat_cmp (shown es)) (below e.0 es rising.0) ∙ sorted es rising.1

  keys-shown_list : (es : List (ℕ × X)) → map (λ e. e.0) (shown es) ≡ keys_of es
  keys-shown_list [] = refl
  keys-shown_list (e ∷ es) = ap (λ l. e.0 ∷ l) (keys-shown_list es)

  pub keys-shown : (es : List (ℕ × X)) → IsStrictlySortedBy nat_cmp (keys_of es) → keys (from_entries {R = nat_cmp} (shown es)) ≡ keys_of es
  keys-shown es rising =
      let in_order : T (is_sorted nat_cmp (shown es)) = subst T (sym (sorted es rising)) tt in
      let same : from_entries {R = nat_cmp} (shown es) ≡ from_sorted (shown es) =
      same_map nat_cmp_total nat_cmp-IsAntisymmetric _ _ (λ q. get-from_entries nat_cmp_total (shown es) q ∙ sym (get-from_sorted nat_cmp (shown es) q in_order)) in
      ap keys same ∙ ap (λ l. map (λ e. e.0) l) (entries-from_sorted nat_cmp (shown es) in_order) ∙ keys-shown_list es

  -- another map whose values stand for the same
  pub shown-clone : (es others : List (ℕ × X)) → AllZip (λ p q. (q.0 ≡ p.0) × (f q.1 ≡ f p.1)) es others → shown others ≡ shown es
  shown-clone [] [] all = refl
  shown-clone [] (o ∷ others) all = absurd all
  shown-clone (e ∷ es) [] all = absurd all
  shown-clone (e ∷ es) (o ∷ others) all = λ i. (all.0.0 i, all.0.1 i) ∷ shown-clone es others all.1 i
