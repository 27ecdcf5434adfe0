pub use Rattle.mesa_answer.specs as mesa_answer
pub use Rattle.mesa_answer.specs.mesa_key as mesa_key
pub mod Gathering
pub mod SumDamage
