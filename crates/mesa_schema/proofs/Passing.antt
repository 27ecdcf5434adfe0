-- What passed checks say.
use Rattle.std.proofs.Common.{◌≡◌, Bool, true, false, refl, Result, Ok, Err}
use Rattle.std.specs.Prelude.{is_ok}
use Rattle.mesa_fold.specs.mesa_list.Checks.{◌>>◌, refuse_if, refuse_unless}

pub passed_unless : {E B : Type 0} (t : Bool) (e : E) (rest : Result B E) → is_ok (refuse_unless t e >> rest) ≡ true → (t ≡ true) × (is_ok rest ≡ true)
passed_unless true e rest h = (refl, h)
passed_unless false e rest h = cc

pub passed_if : {E B : Type 0} (t : Bool) (e : E) (rest : Result B E) → is_ok (refuse_if t e >> rest) ≡ true → (t ≡ false) × (is_ok rest ≡ true)
passed_if true e rest h = cc
passed_if false e rest h = (refl, h)

pub passed_first : {E A B : Type 0} (r : Result A E) (rest : Result B E) → is_ok (r >> rest) ≡ true → (is_ok r ≡ true) × (is_ok rest ≡ true)
passed_first (Ok x) rest h = (refl, h)
passed_first (Err e) rest h = cc

pub passed_last : {E : Type 0} (t : Bool) (e : E) → is_ok (refuse_if t e) ≡ true → t ≡ false
passed_last true e h = cc
passed_last false e h = refl
