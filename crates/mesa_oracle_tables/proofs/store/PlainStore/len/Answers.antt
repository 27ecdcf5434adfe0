use Rattle.std.proofs.Common.{◌≡◌, ◌∙◌, sym, subst, map, length}
use Rattle.std.proofs.lemmas.List.{length-map}
use Rattle.mesa_batch.specs.Numbers.{known_of}
use Rattle.mesa_oracle_tables.specs.Kept.{Versioned, from_of}
use Rattle.mesa_oracle_tables.proofs.OneVersion.{length-tables_in}
use Rattle.mesa_oracle_tables.proofs.store.PlainStore.len.Goals as goal

pub returns : goal.returns
returns c =
    let s = c.self.inside in
    let items = map known_of s.tables.items in
    subst (λ (v : Versioned). c.len.result ≡ length v.store.tables) c.self.view_is (c.len.ensures ∙ s.tables.ok.0 ∙ sym (length-map s.tables.items known_of) ∙ sym (length-tables_in (from_of s.floor s.oldests) 0 s.totals s.versions.items items))
