use Rattle.std.proofs.Common.{◌∙◌, ◌/◌, ℕ, List, ap, length}
use Rattle.sha2.specs.Sha256.{digest_bytes, hash_after, initial_hash_256, sha256}
use Rattle.mesa_sha256.proofs.digesting.digests.Goals as goal

pub returns-clause-a : goal.returns-clause-a
unfolding sha256
returns-clause-a c = c.padded_digests.ensures.a ∙ ap (λ (p : List ℕ). digest_bytes (hash_after initial_hash_256 p (length p / 64)) 8) c.of-a.ensures

pub returns-clause-b : goal.returns-clause-b
unfolding sha256
returns-clause-b c = c.padded_digests.ensures.b ∙ ap (λ (p : List ℕ). digest_bytes (hash_after initial_hash_256 p (length p / 64)) 8) c.of-b.ensures

pub returns-clause-c : goal.returns-clause-c
unfolding sha256
returns-clause-c c = c.padded_digests.ensures.c ∙ ap (λ (p : List ℕ). digest_bytes (hash_after initial_hash_256 p (length p / 64)) 8) c.of-c.ensures

pub returns-clause-d : goal.returns-clause-d
unfolding sha256
returns-clause-d c = c.padded_digests.ensures.d ∙ ap (λ (p : List ℕ). digest_bytes (hash_after initial_hash_256 p (length p / 64)) 8) c.of-d.ensures
