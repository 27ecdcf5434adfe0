-- The generated script.
use Rattle.std.proofs.Common.{◌≡◌, ℕ, zero, suc, List, [], ◌∷◌, refl}
use Rattle.std.specs.Prelude.{codes, Ok}
use Rattle.mesa_history_spec.specs.mesa_script.Generated.{draw, generated}
use Rattle.mesa_examples.specs.Rows.{lines, printed_alone}
use Rattle.mesa_examples.proofs.OnLiterals.{on_literals}

-- so many draws from a state
abbrev draws : ℕ → ℕ → List ℕ
draws zero x = []
draws (suc n) x = draw x ∷ draws n (draw x)

-- The first draws of seed 1.
first_draws : draws 12 1 ≡ 149 ∷ 11249 ∷ 57305 ∷ 38044 ∷ 35283 ∷ 24819 ∷ 26463 ∷ 18689 ∷ 25472 ∷ 9901 ∷ 21742 ∷ 57836 ∷ []
first_draws = refl

-- The script of seed 1 with one version.
one_version : generated 1 1 ≡ lines (
    codes "table,facts,day int;site int,clicks sum;low min;last replace"
    ∷ codes "view,by_site,facts,site,clicks;low"
    ∷ codes "row,facts,0,20,94,305,0"
    ∷ codes "row,facts,0,49,8,819,0"
    ∷ codes "row,facts,0,62,97,472,0"
    ∷ codes "row,facts,0,55,-66,836,0"
    ∷ codes "commit"
    ∷ codes "work,facts"
    ∷ codes "query,facts,latest,,-,clicks;low"
    ∷ codes "query,by_site,latest,site<16,,,8"
    ∷ codes "query,facts,latest,day=0&site>=48,,,4"
    ∷ [])
unfolding on_literals
one_version = refl

-- What it prints.
generated_one : printed_alone (generated 1 1) ≡ Ok (lines (
    codes "0.1@0 table facts"
    ∷ codes "0.2@1 view by_site"
    ∷ codes "0.3@3 loaded version=0 rows=4"
    ∷ codes "0.4@4 idle"
    ∷ codes "0.5@5 rows 1 version=0"
    ∷ codes "133,305"
    ∷ codes "0.6@7 rows 0 version=0"
    ∷ codes "0.7@9 rows 3 version=0"
    ∷ codes "0,49,8,819,0"
    ∷ codes "0,55,-66,836,0"
    ∷ codes "0,62,97,472,0"
    ∷ []))
unfolding on_literals
generated_one = refl
