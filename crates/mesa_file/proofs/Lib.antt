pub use Rattle.mesa_key.proofs.mesa_list as mesa_list
mod Drafts
