-- Entries of a tail: read one after the other, consecutive, in order.
use Rattle.std.proofs.Common.{◌≡◌, ℕ, zero, suc, ◌+◌, ◌-◌, ◌*◌, ◌<◌, ◌≤◌, List, [], ◌∷◌, ◌++◌, length, take, drop, get_or, sym, ap, subst, ◌∙◌, arith, true}
use Rattle.std.specs.Prelude.{flat_map}
use Rattle.std.specs.Int.{w32, w64, to_be_bytes, from_be_bytes}
use Rattle.std.specs.Ordering.{is_le}
use Rattle.std.proofs.lemmas.List.{append-nil, drop-drop, take-append-drop, length-take-le, get_or-drop, length-drop, length-map, drop-take, take-take, drop_more}
use Rattle.std.proofs.lemmas.Grind.{flat_map-append}
use Rattle.std.proofs.lemmas.Nat.{be_bytes_4, be_bytes_8}
use Rattle.mesa_block.specs.mesa_key.Order.{byte_cmp}
use Rattle.mesa_delta_format.specs.declared.place.Entry.{Entry}
use Rattle.mesa_delta_format.specs.Places.{spelled, Follow, shorts_of, short_of}
use Rattle.mesa_delta_format.specs.Seeking.{NeverFall}

pub take_sum : {X : Type 0} (n m : ℕ) (xs : List X) → take (n + m) xs ≡ take n xs ++ take m (drop n xs)
take_sum n m xs =
    sym (take-append-drop n (take (n + m) xs)) ∙ ap (λ l. l ++ drop n (take (n + m) xs)) (take-take n (n + m) xs (omega arith)) ∙ ap (λ l. take n xs ++ l) (drop-take n m xs)

small_cut : (n : ℕ) (bytes : List ℕ) → ((i : ℕ) → get_or bytes i 0 < 256) → (i : ℕ) → get_or (take n bytes) i 0 < 256
small_cut zero bytes small i = omega arith
small_cut (suc n) [] small i = omega arith
small_cut (suc n) (b ∷ bytes) small zero = small 0
small_cut (suc n) (b ∷ bytes) small (suc i) = small_cut n bytes (λ k. small (suc k)) i

small_in : (n m : ℕ) (bytes : List ℕ) → ((i : ℕ) → get_or bytes i 0 < 256) → (i : ℕ) → get_or (take n (drop m bytes)) i 0 < 256
small_in n m bytes small i =
    small_cut n (drop m bytes) (λ k. subst (λ (b : ℕ). b < 256) (sym (get_or-drop m bytes k 0)) (small (m + k))) i

parted : (bytes : List ℕ) → take 16 bytes ++ (take 8 (drop 16 bytes) ++ (take 4 (drop 24 bytes) ++ drop 28 bytes)) ≡ bytes
parted bytes =
    ap (λ (l : List ℕ). take 16 bytes ++ l)
    (ap (λ (l : List ℕ). take 8 (drop 16 bytes) ++ l)
    (ap (λ (l : List ℕ). take 4 (drop 24 bytes) ++ l) (sym (drop-drop 4 24 bytes)) ∙ take-append-drop 4 (drop 24 bytes) ∙ sym (drop-drop 8 16 bytes))
    ∙ take-append-drop 8 (drop 16 bytes))
    ∙ take-append-drop 16 bytes

pub entry_again : (bytes short digest : List ℕ) (offset len : ℕ) → length bytes ≡ 60 → ((i : ℕ) → get_or bytes i 0 < 256) → short ≡ take 16 bytes → digest ≡ drop 28 bytes
    → offset ≡ from_be_bytes w64 (take 8 (drop 16 bytes)) → len ≡ from_be_bytes w32 (take 4 (drop 24 bytes))
    → short ++ (to_be_bytes w64 offset ++ (to_be_bytes w32 len ++ digest)) ≡ bytes
entry_again bytes short digest offset len long small s d o l =
    let eight : length (take 8 (drop 16 bytes)) ≡ 8 = length-take-le 8 (drop 16 bytes) (omega (arith, length-drop 16 bytes)) in
    let four : length (take 4 (drop 24 bytes)) ≡ 4 = length-take-le 4 (drop 24 bytes) (omega (arith, length-drop 24 bytes)) in
    let at_offset = be_bytes_8 (take 8 (drop 16 bytes)) offset eight (small_in 8 16 bytes small) o in
    let at_len = be_bytes_4 (take 4 (drop 24 bytes)) len four (small_in 4 24 bytes small) l in
    ap (λ (x : List ℕ). x ++ (to_be_bytes w64 offset ++ (to_be_bytes w32 len ++ digest))) s
    ∙ ap (λ (x : List ℕ). take 16 bytes ++ (x ++ (to_be_bytes w32 len ++ digest))) at_offset
    ∙ ap (λ (x : List ℕ). take 16 bytes ++ (take 8 (drop 16 bytes) ++ (x ++ digest))) at_len
    ∙ ap (λ (x : List ℕ). take 16 bytes ++ (take 8 (drop 16 bytes) ++ (take 4 (drop 24 bytes) ++ x))) d
    ∙ parted bytes

-- the steps of the loop over entries
pub spelled_more : (es : List Entry) (e : Entry) (bytes : List ℕ) (i : ℕ) → flat_map spelled es ≡ take (60 * i) bytes → spelled e ≡ take 60 (drop (60 * i) bytes) → flat_map spelled (es ++ e ∷ []) ≡ take (60 * (i + 1)) bytes
spelled_more es e bytes i before at =
    flat_map-append spelled es (e ∷ []) ∙ ap (λ (l : List ℕ). flat_map spelled es ++ l) (append-nil (spelled e))
    ∙ ap (λ (l : List ℕ). l ++ spelled e) before ∙ ap (λ (l : List ℕ). take (60 * i) bytes ++ l) at ∙ sym (take_sum (60 * i) 60 bytes) ∙ ap (λ (n : ℕ). take n bytes) (omega arith)

pub follow_le : (at : ℕ) (es : List Entry) (end : ℕ) → Follow at es end → at ≤ end
follow_le at [] end h = omega (arith, h)
follow_le at (e ∷ es) end h = omega (arith, follow_le (at + e.len) es end h.3)

-- a block that ends behind the place
pub past : (at : ℕ) (es : List Entry) (end i : ℕ) (d : Entry) → i < length es → end - at < (get_or es i d).len → Follow at (drop i es) end → ⊥
past at es end i d lt long h =
    let f = subst (λ (l : List Entry). Follow at l end) (drop_more es i d lt) h in
    absurd (omega (arith, long, follow_le (at + (get_or es i d).len) (drop (i + 1) es) end f.3))

two_more : (es : List Entry) (i : ℕ) (d : Entry) → 1 ≤ i → i < length es → drop (i - 1) es ≡ get_or es (i - 1) d ∷ get_or es i d ∷ drop (i + 1) es
two_more es i d some lt =
    let back : i - 1 + 1 ≡ i = omega arith in
    drop_more es (i - 1) d (omega arith) ∙ ap (λ (l : List Entry). get_or es (i - 1) d ∷ l) (ap (λ (k : ℕ). drop k es) back ∙ drop_more es i d lt)

abbrev Fall : List Entry → Type 0
Fall es = NeverFall (shorts_of es)

pub fall_onto : (es : List Entry) (i : ℕ) (d : Entry) → 1 ≤ i → i < length es → is_le (byte_cmp (get_or es (i - 1) d).short (get_or es i d).short) ≡ true → NeverFall (shorts_of (drop (i + 1 - 1) es)) → NeverFall (shorts_of (drop (i - 1) es))
fall_onto es i d some lt le h =
    let back : i + 1 - 1 ≡ i = omega arith in
    subst Fall (sym (two_more es i d some lt)) (le, subst Fall (ap (λ (k : ℕ). drop k es) back ∙ drop_more es i d lt) h)

pub fall_from : (es : List Entry) (i : ℕ) (d : Entry) → 1 ≤ i → i < length es → NeverFall (shorts_of (drop (i - 1) es)) → NeverFall (shorts_of (drop (i + 1 - 1) es)) × (is_le (byte_cmp (get_or es (i - 1) d).short (get_or es i d).short) ≡ true)
fall_from es i d some lt h =
    let back : i + 1 - 1 ≡ i = omega arith in
    let f = subst Fall (two_more es i d some lt) h in
    (subst Fall (sym (ap (λ (k : ℕ). drop k es) back ∙ drop_more es i d lt)) f.1, f.0)

fall_short : (shorts : List (List ℕ)) → length shorts ≤ 1 → NeverFall shorts
fall_short [] le = tt
fall_short (a ∷ []) le = tt
fall_short (a ∷ b ∷ shorts) le = absurd (omega arith)

pub fall_end : (es : List Entry) (i : ℕ) → 1 ≤ i → length es ≤ i → NeverFall (shorts_of (drop (i - 1) es))
fall_end es i some all = fall_short (shorts_of (drop (i - 1) es)) (omega (arith, length-map (drop (i - 1) es) short_of, length-drop (i - 1) es))
