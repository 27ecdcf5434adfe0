-- Records in the editions.
use Rattle.std.specs.Prelude.{◌≡◌, ℕ, List}
use Rattle.mesa_record_fields.specs.declared.edition.Edition.{Edition}
use Rattle.mesa_record.specs.declared.record.Record.{Record}
use Rattle.mesa_record.specs.Rules.{FitsIn}
use Rattle.mesa_record.specs.Spelling.{spelled_in}

-- The bytes are the record's spelling in an edition.
pub record IsSpelled (r : Record) (bytes : List ℕ) : Type 0 where
  pub edition : Edition
  pub fits : FitsIn edition r
  pub spelled : spelled_in edition r ≡ bytes
