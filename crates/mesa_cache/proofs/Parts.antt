-- Parts of pages, put together to what was asked for.
use Rattle.std.proofs.Common.{◌≡◌, refl, inl, inr, ℕ, ◌+◌, ◌-◌, ◌*◌, ◌/◌, ◌%◌, ◌≤◌, min, List, ◌++◌, length, take, drop, Option, Some, ◌∙◌, sym, ap, subst, arith, length-append, length-drop, length-take}
use Rattle.std.proofs.lemmas.List.{take-take, drop-take, drop-drop, take_min, take_all}
use Rattle.std.proofs.lemmas.Slice.{take-put_mid}
use Rattle.std.proofs.Math.Seq.{take-add}
use borrow.Rule.Slice.PartMut.{put_mid}
use Rattle.mesa_cache.specs.Pages.{IsPage, ArePages, AreAmong, AreWith, page_of}

-- a part of a page is that part of the file
pub part_of_page : (b : List ℕ) (number offset n : ℕ) → offset + n ≤ 16384 → take n (drop offset (page_of number b)) ≡ take n (drop (16384 * number + offset) b)
part_of_page b number offset n fits =
    let whole : offset + (16384 - offset) ≡ 16384 = omega arith in
    let rest : n ≤ 16384 - offset = omega arith in
    let on = drop (16384 * number) b in
    let inner : drop offset (take 16384 on) ≡ take (16384 - offset) (drop offset on) = subst (λ m. drop offset (take m on) ≡ take (16384 - offset) (drop offset on)) whole (drop-take offset (16384 - offset) on) in
    ap (take n) inner ∙ take-take n (16384 - offset) (drop offset on) rest ∙ ap (take n) (drop-drop offset (16384 * number) b)

-- the part of a page that holds what stands in the file from a place on
pub part_from : (b page piece : List ℕ) (from count : ℕ) → count ≤ 16384 - from % 16384 → page ≡ page_of (from / 16384) b → piece ≡ take count (drop (from % 16384) page) → piece ≡ take count (drop from b)
part_from b page piece from count fits is part =
    let on_page : from % 16384 + count ≤ 16384 = omega arith in
    let place : 16384 * (from / 16384) + from % 16384 ≡ from = omega arith in
    part ∙ ap (λ p. take count (drop (from % 16384) p)) is ∙ part_of_page b (from / 16384) (from % 16384) count on_page ∙ ap (λ n. take count (drop n b)) place

-- a part of a buffer has as many bytes as were counted
pub part_len : (xs : List ℕ) (done count : ℕ) → count ≤ length xs - done → length (take (done + count - done) (drop done xs)) ≡ count
part_len xs done count fits = length-take (done + count - done) (drop done xs) ∙ omega (arith, length-drop done xs)

-- a page is long enough for its part of what is asked for
pub part_fits : (from count left size len : ℕ) → count ≡ min (16384 - from % 16384) left → from + left ≤ size → len ≡ min 16384 (size - 16384 * (from / 16384)) → from % 16384 + count ≤ len
part_fits from count left size len is within whole = omega arith

-- a part that is filled behind those that were filled
pub filled_behind : (b ys zs : List ℕ) (at done n k : ℕ) → done ≤ length ys → length zs ≡ n → take done ys ≡ take done (drop at b) → zs ≡ take n (drop (at + done) b)
    → take (done + n) (put_mid done k ys zs) ≡ take (done + n) (drop at b)
filled_behind b ys zs at done n k within len before part =
    let whole : done + n ≡ done + length zs = omega arith in
    let front : take (done + n) (put_mid done k ys zs) ≡ take done ys ++ zs = take-put_mid done k ys zs (done + n) whole within in
    let back : take (done + n) (drop at b) ≡ take done (drop at b) ++ take n (drop (at + done) b) = subst (λ xs. take (done + n) (drop at b) ≡ take done (drop at b) ++ take n xs) (drop-drop done at b) (take-add done n (drop at b)) in
    front ∙ ap (λ xs. xs ++ zs) before ∙ ap (λ xs. take done (drop at b) ++ xs) part ∙ sym back

-- a part that is written over leaves a buffer as long as it was
pub put_len : (buf piece : List ℕ) (done count k : ℕ) → done + count ≤ length buf → length piece ≡ count → k ≡ count → length (put_mid done k buf piece) ≡ length buf
put_len buf piece done count k within len is =
    let rest = drop k (drop done buf) in
    length-append (take done buf) (piece ++ rest) ∙ omega (arith, length-take done buf, length-append piece rest, length-drop k (drop done buf), length-drop done buf)

-- a buffer that is filled whole by what was filled before
pub filled_front : (b buf : List ℕ) (at done len : ℕ) → done ≡ length buf → length buf ≡ len → take done buf ≡ take done (drop at b) → buf ≡ take len (drop at b)
filled_front b buf at done len whole long before = sym (take_all done buf (omega arith)) ∙ before ∙ ap (λ n. take n (drop at b)) (whole ∙ long)

-- how many bytes are left
pub rest_len : (xs : List ℕ) (done : ℕ) → length (take (length xs - done) (drop done xs)) ≡ length xs - done
rest_len xs done = length-take (length xs - done) (drop done xs) ∙ omega (arith, length-drop done xs)

-- what is left, filled behind what was filled before
pub filled_rest : (b buf rest : List ℕ) (at done len : ℕ) → length buf ≡ len → done ≤ len → take done buf ≡ take done (drop at b)
    → let left = length (take (length buf - done) (drop done buf)) in length rest ≡ left → rest ≡ take left (drop (at + done) b) → put_mid done (length buf - done) buf rest ≡ take len (drop at b)
filled_rest b buf rest at done len whole within before len_rest part =
    let left : length (take (length buf - done) (drop done buf)) ≡ length buf - done = rest_len buf done in
    let room : done ≤ length buf = omega arith in
    let all : done + (length buf - done) ≡ len = omega arith in
    let fits : done + (length buf - done) ≤ length buf = omega arith in
    let long : length (put_mid done (length buf - done) buf rest) ≤ done + (length buf - done) = omega (arith, put_len buf rest done (length buf - done) (length buf - done) fits (len_rest ∙ left) refl) in
    let filled = filled_behind b buf rest at done (length buf - done) (length buf - done) room (len_rest ∙ left) before (part ∙ ap (λ n. take n (drop (at + done) b)) left) in
    sym (take_all (done + (length buf - done)) (put_mid done (length buf - done) buf rest) long) ∙ filled ∙ ap (λ n. take n (drop at b)) all

-- pages of a file are pages of the same file
pub ArePages-along : (content content' : Option (List ℕ)) (size size' : ℕ) (old new : List (ℕ × List ℕ)) → content ≡ content' → size ≡ size' → ArePages content size old → AreAmong new old → ArePages content' size' new
ArePages-along content content' size size' old new same_content same_size are among number page is =
    subst (λ s. IsPage content' s number page) same_size (subst (λ t. IsPage t size number page) same_content (are number page (among number page is)))

-- and so they are with one page more
pub ArePages-with : (content : Option (List ℕ)) (size number : ℕ) (page : List ℕ) (old new : List (ℕ × List ℕ)) → ArePages content size old → IsPage content size number page → AreWith number page new old → ArePages content size new
ArePages-with content size number page old new are one with n p is = elim (with n p is) [
  | inl there ↦ are n p there
  | inr same ↦ subst (λ m. IsPage content size m p) (sym same.0) (subst (λ q. IsPage content size number q) (sym same.1) one)
]

-- what is read from a page's place on is the page
pub page_is_read : (content : Option (List ℕ)) (size number len : ℕ) (page : List ℕ) → ((b : List ℕ) → content ≡ Some b → length b ≡ size) → len ≡ min 16384 (size - 16384 * number) → length page ≡ len
    → ((b : List ℕ) → content ≡ Some b → page ≡ take len (drop (16384 * number) b)) → IsPage content size number page
page_is_read content size number len page sized is whole told = record {
  len = whole ∙ is;
  told = λ b t.
      let on = drop (16384 * number) b in
      let all : len ≡ min 16384 (length on) = is ∙ ap (λ n. min 16384 (n - 16384 * number)) (sym (sized b t)) ∙ ap (λ n. min 16384 n) (sym (length-drop (16384 * number) b)) in
      told b t ∙ ap (λ n. take n on) all ∙ take_min 16384 on;
}
