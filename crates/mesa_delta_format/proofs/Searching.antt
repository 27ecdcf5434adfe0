-- A search that halves, and what it finds.
use Rattle.std.proofs.Common.{◌≡◌, ℕ, zero, suc, ◌+◌, ◌<◌, ◌≤◌, max, List, [], ◌∷◌, length, get_or, refl, sym, ap, ◌∙◌, arith, Bool, true, false, cond}
use Rattle.std.specs.declared.cmp.Ordering.{Ordering}
use Rattle.std.specs.declared.cmp.Ordering.TheVariants.{Less, Equal, Greater}
use Rattle.std.specs.Ordering.{is_le, ordering_reverse}
use Rattle.std.proofs.lemmas.Cmp.{nat_list_cmp_total}
use Rattle.mesa_block.specs.mesa_key.Order.{byte_cmp}
use Rattle.mesa_delta_format.specs.Seeking.{seek_in, NeverFall}

chain : (a b c : List ℕ) (o p : Ordering) → byte_cmp a b ≡ o → byte_cmp b c ≡ p → is_le o ≡ true → is_le p ≡ true → is_le (byte_cmp a c) ≡ true
chain a b c Greater p e f ho hp = absurd cc
chain a b c Less Greater e f ho hp = absurd cc
chain a b c Equal p e f ho hp = ap is_le (nat_list_cmp_total.congr a b c e ∙ f) ∙ hp
chain a b c Less Less e f ho hp = ap is_le (nat_list_cmp_total.trans a b c e f)
chain a b c Less Equal e f ho hp =
    let back : byte_cmp c b ≡ Equal = nat_list_cmp_total.antisymm c b ∙ ap ordering_reverse f in
    let over : byte_cmp c a ≡ Greater = nat_list_cmp_total.congr c b a back ∙ nat_list_cmp_total.antisymm b a ∙ ap ordering_reverse e in
    ap is_le (nat_list_cmp_total.antisymm a c ∙ ap ordering_reverse over)

pub le_chain : (a b c : List ℕ) → is_le (byte_cmp a b) ≡ true → is_le (byte_cmp b c) ≡ true → is_le (byte_cmp a c) ≡ true
le_chain a b c = chain a b c (byte_cmp a b) (byte_cmp b c) refl refl

still_le : (key b : List ℕ) (shorts : List (List ℕ)) (m : ℕ) (d : List ℕ) → NeverFall (b ∷ shorts) → m < length (b ∷ shorts) → is_le (byte_cmp key b) ≡ true → is_le (byte_cmp key (get_or (b ∷ shorts) m d)) ≡ true
still_le key b shorts zero d fall lt h = h
still_le key b [] (suc m) d fall lt h = absurd (omega arith)
still_le key b (c ∷ shorts) (suc m) d fall lt h = still_le key c shorts m d fall.1 (omega arith) (le_chain key b c h fall.0)

differ : true ≡ false → ⊥
differ e = cc

above_at : (t : Bool) (found m : ℕ) → (t ≡ true → ⊥) → m ≤ found → suc m ≤ cond t 0 (found + 1)
above_at true found m other le = absurd (other refl)
above_at false found m other le = omega arith

pub above : (key : List ℕ) (shorts : List (List ℕ)) (m : ℕ) (d : List ℕ) → NeverFall shorts → m < length shorts → is_le (byte_cmp key (get_or shorts m d)) ≡ false → m ≤ seek_in key shorts
above key shorts zero d fall lt off = omega arith
above key [] (suc m) d fall lt off = absurd (omega arith)
above key (a ∷ []) (suc m) d fall lt off = absurd (omega arith)
above key (a ∷ b ∷ shorts) (suc m) d fall lt off =
    above_at (is_le (byte_cmp key b)) (seek_in key (b ∷ shorts)) m
    (λ onto. differ (sym (still_le key b shorts m d fall.1 (omega arith) onto) ∙ off))
    (above key (b ∷ shorts) m d fall.1 (omega arith) off)

below_first : (t : Bool) (found : ℕ) → t ≡ true → cond t 0 (found + 1) < 1
below_first true found is = omega arith
below_first false found is = absurd cc

below_later : (t : Bool) (found m : ℕ) → found < suc m → cond t 0 (found + 1) < suc (suc m)
below_later true found m lt = omega arith
below_later false found m lt = omega arith

pub below : (key : List ℕ) (shorts : List (List ℕ)) (m : ℕ) (d : List ℕ) → 1 ≤ m → m < length shorts → is_le (byte_cmp key (get_or shorts m d)) ≡ true → seek_in key shorts < m
below key shorts zero d some lt onto = absurd (omega arith)
below key [] (suc m) d some lt onto = absurd (omega arith)
below key (a ∷ []) (suc m) d some lt onto = absurd (omega arith)
below key (a ∷ b ∷ shorts) (suc zero) d some lt onto = below_first (is_le (byte_cmp key b)) (seek_in key (b ∷ shorts)) onto
below key (a ∷ b ∷ shorts) (suc (suc m)) d some lt onto = below_later (is_le (byte_cmp key b)) (seek_in key (b ∷ shorts)) m (below key (b ∷ shorts) (suc m) d (omega arith) (omega arith) onto)

within_at : (t : Bool) (found n : ℕ) → found < suc n → cond t 0 (found + 1) < suc (suc n)
within_at true found n lt = omega arith
within_at false found n lt = omega arith

pub within : (key : List ℕ) (shorts : List (List ℕ)) → seek_in key shorts < max (length shorts) 1
within key [] = omega arith
within key (a ∷ []) = omega arith
within key (a ∷ b ∷ shorts) = omega (arith, within_at (is_le (byte_cmp key b)) (seek_in key (b ∷ shorts)) (length shorts) (omega (arith, within key (b ∷ shorts))))
