pub use Rattle.mesa_list.proofs as mesa_list
