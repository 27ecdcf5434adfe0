pub use Rattle.mesa_journal.proofs as mesa_journal
pub mod Tails
pub mod Firsts
pub mod Reasons
pub mod Unnamed
pub mod Beginnings
pub mod Bodies
pub mod Restating
