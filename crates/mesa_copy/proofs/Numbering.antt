-- The ids of drafts that are drawn one after the other.
use Rattle.std.proofs.Common.{◌≡◌, ℕ, zero, suc, ◌+◌, List, [], ◌∷◌, ◌++◌, map, flat_map, refl, sym, ◌∙◌, ap, arith, append_assoc, append-nil}
use Rattle.std.proofs.lemmas.List.{map-append}
use Rattle.std.proofs.lemmas.List.Concat.{flat_map-append}
use Rattle.mesa_open_files.specs.Recasts.{range_file, recast_ids}
use Rattle.mesa_file.specs.Serials.{AreNext, Drafts, after_drafts, drawn, next_ids, next_serials}
use Rattle.mesa_open_files.specs.declared.made.MadeFile.{MadeFile}
use Rattle.mesa_open_files.specs.declared.recasting.RecastedRange.{RecastedRange}

after_more : (n m k : ℕ) (d : Drafts) → k ≡ n + m → after_drafts m (after_drafts n d) ≡ after_drafts k d
after_more n zero k d e = let same : n ≡ k = omega (arith, e) in ap (λ x. after_drafts x d) same
after_more n (suc m) zero d e = absurd (omega (arith, e))
after_more n (suc m) (suc k) d e = ap next_serials (after_more n m k d (omega (arith, e)))

next_more : (n m k : ℕ) (d : Drafts) → k ≡ n + m → next_ids k d ≡ next_ids n d ++ next_ids m (after_drafts n d)
next_more n zero k d e = let same : k ≡ n = omega (arith, e) in ap (λ x. next_ids x d) same ∙ sym (append-nil (next_ids n d))
next_more n (suc m) zero d e = absurd (omega (arith, e))
next_more n (suc m) (suc k) d e =
    let less : k ≡ n + m = omega (arith, e) in
    ap (λ ids. ids ++ drawn (after_drafts k d) ∷ []) (next_more n m k d less)
    ∙ append_assoc (next_ids n d) (next_ids m (after_drafts n d)) (drawn (after_drafts k d) ∷ [])
    ∙ ap (λ x. next_ids n d ++ (next_ids m (after_drafts n d) ++ drawn x ∷ [])) (sym (after_more n m k d less))

-- none
pub next_none : (d : Drafts) → AreNext d d []
next_none d = record { count = zero; next = refl; after = refl }

-- one
pub next_one : (d : Drafts) → AreNext d (next_serials d) (drawn d ∷ [])
next_one d = record { count = suc zero; next = refl; after = refl }

-- some, and then some more
pub next_both : (a b c : Drafts) (xs ys : List ℕ) → AreNext a b xs → AreNext b c ys → AreNext a c (xs ++ ys)
next_both a b c xs ys h k = record {
  count = h.count + k.count;
  next = (λ i. h.next i ++ k.next i) ∙ ap (λ x. next_ids h.count a ++ next_ids k.count x) h.after ∙ sym (next_more h.count k.count (h.count + k.count) a refl);
  after = k.after ∙ ap (after_drafts k.count) h.after ∙ after_more h.count k.count (h.count + k.count) a refl;
}

-- the ids of the files of ranges, and of more
pub ids_append : {M : Type 0} (id_of : M → ℕ) (xs ys : List (RecastedRange M)) → recast_ids id_of (xs ++ ys) ≡ recast_ids id_of xs ++ recast_ids id_of ys
ids_append id_of xs ys = ap (map (λ (f : MadeFile _). id_of f.made)) (flat_map-append range_file xs ys) ∙ map-append (λ (f : MadeFile _). id_of f.made) (flat_map range_file xs) (flat_map range_file ys)
