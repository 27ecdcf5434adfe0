use Rattle.std.proofs.Common.{◌≡◌, ◌∙◌, ap, sym, subst, map, List, IfOk}
use Rattle.mesa_batch.specs.Glance.{Known, Sight}
use Rattle.mesa_batch.specs.Numbers.{known_of}
use Rattle.mesa_oracle_tables.specs.Kept.{Versioned, from_of, known_in}
use Rattle.mesa_oracle_tables.proofs.Stores.{known_again}
use Rattle.mesa_oracle_tables.proofs.store.PlainStore.glance.Goals as goal

pub returns : goal.returns
returns c =
    let s = c.self.inside in
    let known = sym (ap (λ (v : Versioned). known_in v.store) c.self.view_is) ∙ known_again (from_of s.floor s.oldests) 0 s.totals s.versions.items (map known_of s.tables.items) in
    let again = c.in_ok-tables.ensures.known ∙ ap (map known_of) c.deref.ensures.value in
    subst (λ (ks : List Known). IfOk c.new.result (λ (g : Sight). g.tables ≡ ks)) (again ∙ sym known) c.new.ensures.tables
