use Rattle.std.proofs.Common.{◌≡◌, ◌∙◌, ap, map, subst, sym}
use Rattle.mesa_batch.specs.Numbers.{known_of}
use Rattle.mesa_model.specs.Versions.{common_oldest}
use Rattle.mesa_oracle_tables.specs.Kept.{Versioned, from_of, greatest_of}
use Rattle.mesa_oracle_tables.proofs.OneVersion.{greatest_is, greatest_there}
use Rattle.mesa_oracle_tables.proofs.store.PlainStore.common_oldest.Goals as goal

pub returns-clause-common : goal.returns-clause-common
returns-clause-common c =
    let s = c.self.inside in
    subst (λ (v : Versioned). c.greatest.result ≡ common_oldest v.store) c.self.view_is
    (c.greatest.ensures ∙ ap (greatest_of s.floor) c.as_slice.ensures ∙ greatest_is (from_of s.floor s.oldests) s.totals s.versions.items (map known_of s.tables.items) c.self.invariant.oldests)

pub returns-clause-there : goal.returns-clause-there
returns-clause-there c =
    let s = c.self.inside in
    let is = c.greatest.ensures ∙ ap (greatest_of s.floor) c.as_slice.ensures in
    rw (is, sym (ap (λ (v : Versioned). v.next) c.self.view_is)) (greatest_there s.floor s.next s.oldests c.self.invariant.floor c.self.invariant.apart)
