pub mod Parts
pub mod Held
pub mod Lending
pub mod Written
pub mod Split
pub mod Rounds
pub mod Sampling
pub mod Laws
