pub use Rattle.mesa_commit.proofs as mesa_commit
mod Joined
mod Gates
