pub mod Run
pub mod Rounds
pub mod Others
mod Maps
mod Noted
mod Picks
