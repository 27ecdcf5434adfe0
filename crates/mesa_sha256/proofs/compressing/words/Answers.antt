use Rattle.std.proofs.Common.{◌≡◌, ◌*◌, [], ◌∷◌, slice_index}
use Rattle.sha2.specs.Sha256.{word_at}
use Rattle.mesa_sha256.specs.Lanes.{one_of}
use Rattle.mesa_sha256.proofs.Lanes.{of_each}
use Rattle.mesa_sha256.proofs.compressing.words.Goals as goal

pub returns : goal.returns
returns c =
    let x = c.args in
    of_each (λ l. slice_index (c.word.result ∷ c.word-2.result ∷ c.word-3.result ∷ c.word-4.result ∷ []) l ≡ word_at (one_of l x.a.now x.b.now x.c.now x.d.now) (4 * x.i))
    c.word.ensures c.word-2.ensures c.word-3.ensures c.word-4.ensures
