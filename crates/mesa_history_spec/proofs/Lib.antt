pub use Rattle.mesa_script.proofs.mesa_batch as mesa_batch
pub use Rattle.mesa_script.proofs.mesa_columns as mesa_columns
pub use Rattle.mesa_script.proofs.mesa_fold as mesa_fold
pub use Rattle.mesa_script.proofs.mesa_key as mesa_key
pub use Rattle.mesa_script.proofs.mesa_schema as mesa_schema
pub use Rattle.mesa_span.proofs as mesa_span
pub mod BareLists
pub mod BareSteps
pub mod BareTurns
pub mod Alike
pub mod More
pub mod Places
pub mod Refusing
pub mod Finding
pub mod Due
pub mod ClosedRuns
pub mod Moments
pub mod Renewals
pub mod Testing
pub mod Turns
pub mod Ending
pub mod Counting
pub mod Checks
pub mod Going
pub mod Growing
pub mod Claiming
pub mod Claims
pub mod Printing
