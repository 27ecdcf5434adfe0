pub mod Digests
pub mod Places
pub mod Laws
