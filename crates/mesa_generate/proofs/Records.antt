-- Records that are written one after the other.
use Rattle.std.proofs.Common.{◌≡◌, ◌<◌, ◌≤◌, ◌+◌, ◌-◌, ℕ, suc, List, ◌++◌, sym, ap, ◌∙◌, append_assoc, arith}
use Rattle.mesa_invariant_spec.specs.mesa_script.Generated.{draw, row_record, rows_from, versions_from}

-- what is drawn is small
pub draw_small : (x : ℕ) → draw x < 4294967296
draw_small x = omega arith

-- what three draws leave
abbrev pub drawn : ℕ → ℕ
drawn x = draw (draw (draw x))

-- texts that are written one after the other
pub joined : (s s1 s2 s3 s4 s5 s6 a b c d e f : List ℕ) → s1 ≡ s ++ a → s2 ≡ s1 ++ b → s3 ≡ s2 ++ c → s4 ≡ s3 ++ d → s5 ≡ s4 ++ e → s6 ≡ s5 ++ f → s6 ≡ s ++ (a ++ b ++ c ++ d ++ e ++ f)
joined s s1 s2 s3 s4 s5 s6 a b c d e f e1 e2 e3 e4 e5 e6 = rw (e6, e5, e4, e3, e2, e1) (simp append_assoc)

-- a row more, and those to come
pub row_more : (version j x y : ℕ) (old new : List ℕ) (rest : ℕ → List ℕ) → j < 4 → new ≡ old ++ row_record version j (draw x) (draw (draw x)) (drawn x) → y ≡ drawn x
    → old ++ rows_from version j (4 - j) x rest ≡ new ++ rows_from version (j + 1) (4 - (j + 1)) y rest
row_more version j x y old new rest lt written state =
    let left : 4 - j ≡ suc (4 - (j + 1)) = omega arith in
    ap (λ k. old ++ rows_from version j k x rest) left
    ∙ sym (append_assoc old (row_record version j (draw x) (draw (draw x)) (drawn x)) (rows_from version (j + 1) (4 - (j + 1)) (drawn x) rest))
    ∙ (λ i. sym written i ++ rows_from version (j + 1) (4 - (j + 1)) (sym state i) rest)

-- behind the last row
pub rows_done : (version j x : ℕ) (old : List ℕ) (rest : ℕ → List ℕ) → 4 ≤ j → old ++ rows_from version j (4 - j) x rest ≡ old ++ rest x
rows_done version j x old rest le = let none : 4 - j ≡ 0 = omega arith in ap (λ k. old ++ rows_from version j k x rest) none

-- two texts and what is to come
pub both_written : (s s1 s2 one two tail : List ℕ) → s1 ≡ s ++ one → s2 ≡ s1 ++ two → s ++ (one ++ two ++ tail) ≡ s2 ++ tail
both_written s s1 s2 one two tail e1 e2 = sym (ap (λ t. t ++ tail) (e2 ∙ ap (λ t. t ++ two) e1) ∙ simp append_assoc)

-- a version more, and those to come
pub version_more : (version versions x y : ℕ) (old new : List ℕ) → version < versions
    → ((more : ℕ) → old ++ versions_from version (suc more) x ≡ new ++ versions_from (version + 1) more y)
    → new ++ versions_from (version + 1) (versions - (version + 1)) y ≡ old ++ versions_from version (versions - version) x
version_more version versions x y old new lt written =
    let left : versions - version ≡ suc (versions - (version + 1)) = omega arith in
    sym (written (versions - (version + 1))) ∙ ap (λ k. old ++ versions_from version k x) (sym left)
