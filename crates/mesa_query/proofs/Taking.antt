-- Files that are taken one after the other from the end of one list to the end of another.
use Rattle.std.proofs.Common.{◌≡◌, ℕ, List, [], ◌∷◌, ◌++◌, map, sym, ap, ◌∙◌, append-nil, append_assoc}
use Rattle.std.specs.Prelude.{Option, reverse}
use Rattle.std.proofs.lemmas.List.{map-append, reverse-append, reverse-reverse}
use Rattle.mesa_cache.specs.Reading.{Reading}
use Rattle.mesa_group_blocks.specs.mesa_scan.Cursors.{IsInput}
use Rattle.mesa_group_blocks.specs.mesa_open_files.declared.querying.PinnedInput.{PinnedInput}
use Rattle.mesa_query.specs.Cooled.{cooled_file}
use Rattle.mesa_query.specs.Same.{AreReadable, AreSameFiles}
use Rattle.mesa_query.proofs.CachedFiles.{AreStill, readable_here, same_again, still_along, still_at}

module _ {X Y : Type 0} (f : X → Y) where
  -- the one that was taken, between those that are left and those that were taken before
  taken : (all left : List X) (x : X) (before : List Y) → all ≡ left ++ x ∷ [] → map f all ++ before ≡ map f left ++ f x ∷ before
  taken all left x before is = ap (λ xs. map f xs ++ before) is ∙ ap (λ ys. ys ++ before) (map-append f left (x ∷ [])) ∙ append_assoc (map f left) (f x ∷ []) before

  -- where it was put, read from the end
  put : (front : List Y) (before now : List Y) (y : Y) → now ≡ before ++ y ∷ [] → front ++ reverse now ≡ front ++ y ∷ reverse before
  put front before now y is = ap (λ ys. front ++ ys) (ap reverse is ∙ reverse-append before (y ∷ []))

module _ {R : Type 0} (bytes : R → Option (List ℕ)) (start : List (PinnedInput R)) where
  -- ---- a cache is taken away

  pub readable_last : (warm left : List (PinnedInput (Reading R))) (x : PinnedInput (Reading R)) (files : List (PinnedInput R)) → warm ≡ left ++ x ∷ [] → AreStill bytes start (map cooled_file warm ++ reverse files) → IsInput bytes (cooled_file x).input
  readable_last warm left x files is still =
      readable_here bytes (map cooled_file left) (cooled_file x) (reverse files) (still_along bytes start _ _ (taken cooled_file warm left x (reverse files) is) still).0

  pub one_cooled : (warm left : List (PinnedInput (Reading R))) (x : PinnedInput (Reading R)) (files now : List (PinnedInput R)) (y : PinnedInput R) → warm ≡ left ++ x ∷ [] → now ≡ files ++ y ∷ []
      → AreSameFiles bytes (cooled_file x ∷ []) (y ∷ []) → IsInput bytes y.input → AreStill bytes start (map cooled_file warm ++ reverse files) → AreStill bytes start (map cooled_file left ++ reverse now)
  one_cooled warm left x files now y is was one input still =
      still_along bytes start _ _ (sym (put cooled_file (map cooled_file left) files now y was))
      (still_at bytes start (map cooled_file left) (cooled_file x) y (reverse files) one input (still_along bytes start _ _ (taken cooled_file warm left x (reverse files) is) still))

  -- ---- a cache is put before a reader

  pub readable_first : (warm : List (PinnedInput (Reading R))) (files left : List (PinnedInput R)) (x : PinnedInput R) → files ≡ left ++ x ∷ [] → AreStill bytes start (map cooled_file warm ++ reverse files) → IsInput bytes x.input
  readable_first warm files left x is still = readable_here bytes (map cooled_file warm) x (reverse left) (still_along bytes start _ _ (put cooled_file (map cooled_file warm) left files x is) still).0

  pub one_warmed : (warm now : List (PinnedInput (Reading R))) (files left : List (PinnedInput R)) (x : PinnedInput R) (y : PinnedInput (Reading R)) → files ≡ left ++ x ∷ [] → now ≡ warm ++ y ∷ []
      → AreSameFiles bytes (x ∷ []) (cooled_file y ∷ []) → IsInput bytes (cooled_file y).input → AreStill bytes start (map cooled_file warm ++ reverse files) → AreStill bytes start (map cooled_file now ++ reverse left)
  one_warmed warm now files left x y is was one input still =
      still_along bytes start _ _ (sym (taken cooled_file now warm y (reverse left) was))
      (still_at bytes start (map cooled_file warm) x (cooled_file y) (reverse left) one input (still_along bytes start _ _ (put cooled_file (map cooled_file warm) left files x is) still))

  -- the file comes back without one
  pub one_back : (warm : List (PinnedInput (Reading R))) (files left now : List (PinnedInput R)) (x y : PinnedInput R) → files ≡ left ++ x ∷ [] → now ≡ left ++ y ∷ []
      → AreSameFiles bytes (x ∷ []) (y ∷ []) → IsInput bytes y.input → AreStill bytes start (map cooled_file warm ++ reverse files) → AreStill bytes start (map cooled_file warm ++ reverse now)
  one_back warm files left now x y is was one input still =
      still_along bytes start _ _ (sym (put cooled_file (map cooled_file warm) left now y was))
      (still_at bytes start (map cooled_file warm) x y (reverse left) one input (still_along bytes start _ _ (put cooled_file (map cooled_file warm) left files x is) still))

  -- ---- at first, and at last

  pub none_warmed : (warm : List (PinnedInput (Reading R))) (files : List (PinnedInput R)) → warm ≡ [] → files ≡ reverse start → AreReadable bytes start → AreStill bytes start (map cooled_file warm ++ reverse files)
  none_warmed warm files none turned readable =
      still_along bytes start _ _ (sym (ap (λ (ws : List (PinnedInput (Reading R))). map cooled_file ws ++ reverse files) none ∙ ap reverse turned ∙ reverse-reverse start)) (readable, same_again bytes start)

  pub all_warmed : (warm : List (PinnedInput (Reading R))) (files : List (PinnedInput R)) → files ≡ [] → AreStill bytes start (map cooled_file warm ++ reverse files) → AreStill bytes start (map cooled_file warm)
  all_warmed warm files none still = still_along bytes start _ _ (ap (λ (fs : List (PinnedInput R)). map cooled_file warm ++ reverse fs) none ∙ append-nil (map cooled_file warm)) still

  pub all_cooled : (warm : List (PinnedInput (Reading R))) (files now : List (PinnedInput R)) → warm ≡ [] → now ≡ reverse files → AreStill bytes start (map cooled_file warm ++ reverse files) → AreStill bytes start now
  all_cooled warm files now none turned still = still_along bytes start _ _ (ap (λ (ws : List (PinnedInput (Reading R))). map cooled_file ws ++ reverse files) none ∙ sym turned) still
