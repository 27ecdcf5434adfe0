pub mod Failures
pub mod Said
pub mod Left
pub mod Ended
pub mod Command
pub mod Forms
pub mod Found
