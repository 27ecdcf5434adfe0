use Rattle.std.proofs.Common.{ℕ, ◌<◌, ◌/◌, ◌^◌, [], ◌∷◌, length, slice_index, ap, ◌∙◌, arith}
use Rattle.std.proofs.lemmas.Simd.{get_or-replicate, get_or-zip2}
use Rattle.mesa_sha256.proofs.words.shifted.Goals as goal

pub returns : goal.returns
returns c = λ l lt.
    let by = c.args.by in
    let long : l < length c.args.x = omega arith in
    get_or-zip2 _ c.args.x (by ∷ by ∷ by ∷ by ∷ []) l 0 0 0 long lt ∙ ap (λ (k : ℕ). slice_index c.args.x l / 2 ^ k) (get_or-replicate 4 l by 0 lt)
