-- Lists that are read one element after the other.
use Rattle.std.proofs.Common.{◌≡◌, List, [], ◌∷◌, ◌++◌, Bool, true, refl, ◌∙◌, Result, Ok}
use Rattle.std.specs.List.{list_all}
use Rattle.std.proofs.lemmas.List.Folds.{list_all-append}
use Rattle.mesa_list.specs.Checks.{◌>>=◌}

-- what was read goes before what is to come
abbrev pub ahead : {A E : Type 0} → List A → Result (List A) E → Result (List A) E
ahead found more = more >>= (λ xs. Ok (found ++ xs))

-- a test that each passes, and one more does
pub all_pass_more : {A : Type 0} (test : A → Bool) (found : List A) (x : A) → list_all test found ≡ true → test x ≡ true → list_all test (found ++ x ∷ []) ≡ true
all_pass_more test found x h t = list_all-append test found (x ∷ []) ∙ rw (h, t) refl
