-- What the inputs of one of several have to do with those of all.
use Rattle.std.proofs.Common.{◌≡◌, ℕ, zero, suc, ◌<◌, List, [], ◌∷◌, ◌++◌, sym, subst, length, get_or, set, arith}
use Rattle.std.specs.Prelude.{flat_map, Result}
use Rattle.mesa_file.specs.declared.damage.Damage.{Damage}
use Rattle.mesa_delta.specs.declared.input.Input.{Input}
use Rattle.mesa_compact.specs.mesa_merge.Faults.{faults_of}
use Rattle.mesa_open_files.specs.declared.merging.CompactError.{CompactError}
use Rattle.mesa_compact.specs.Writing.{HasCauses}
use Rattle.mesa_compact.proofs.Causing.{caused_left, caused_right}
use Rattle.mesa_compact.proofs.Viewing.{faults_append}

-- the causes at the inputs of one of several are those at all
pub caused_at : {A R T : Type 0} (f : A → List (Input R)) (faults : R → ℕ) (IsTold : Damage → Type 0) (a b : ℕ) (xs : List A) (i : ℕ) (y d : A) (r : Result T CompactError) → i < length xs
    → HasCauses a b (faults_of faults (f (get_or xs i d))) (faults_of faults (f y)) IsTold r → HasCauses a b (faults_of faults (flat_map f xs)) (faults_of faults (flat_map f (set xs i y))) IsTold r
caused_at f faults IsTold a b [] i y d r lt h = absurd (omega (arith, lt))
caused_at f faults IsTold a b (x ∷ xs) zero y d r lt h =
    subst (λ ns. HasCauses a b (faults_of faults (flat_map f (x ∷ xs))) ns IsTold r) (sym (faults_append faults (f y) (flat_map f xs)))
    (subst (λ ns. HasCauses a b ns (faults_of faults (f y) ++ faults_of faults (flat_map f xs)) IsTold r) (sym (faults_append faults (f x) (flat_map f xs)))
    (caused_left IsTold a b _ _ (faults_of faults (flat_map f xs)) r h))
caused_at f faults IsTold a b (x ∷ xs) (suc i) y d r lt h =
    subst (λ ns. HasCauses a b (faults_of faults (flat_map f (x ∷ xs))) ns IsTold r) (sym (faults_append faults (f x) (flat_map f (set xs i y))))
    (subst (λ ns. HasCauses a b ns (faults_of faults (f x) ++ faults_of faults (flat_map f (set xs i y))) IsTold r) (sym (faults_append faults (f x) (flat_map f xs)))
    (caused_right IsTold a b (faults_of faults (f x)) _ _ r (caused_at f faults IsTold a b xs i y d r (omega (arith, lt)) h)))
