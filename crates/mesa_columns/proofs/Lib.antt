pub use Rattle.mesa_key.proofs as mesa_key
pub mod Drops
pub mod LiftSteps
pub mod Lists
pub mod Maps
pub mod NumberWords
pub mod Places
pub mod Repeats
pub mod SchemaRules
