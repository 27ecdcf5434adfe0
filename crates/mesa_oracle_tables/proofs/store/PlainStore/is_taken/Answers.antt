use Rattle.std.proofs.Common.{◌≡◌, ◌∙◌, ap, sym, subst, Some, None, refl}
use Rattle.std.specs.Prelude.{is_some, Option, option_map}
use Rattle.mesa_model.specs.Relations.{Relation, is_taken}
use Rattle.mesa_oracle_tables.specs.declared.names.Place.{Place}
use Rattle.mesa_oracle_tables.specs.Kept.{Versioned}
use Rattle.mesa_oracle_tables.specs.Kept.{from_of}
use Rattle.mesa_oracle_tables.proofs.store.PlainStore.is_taken.Goals as goal

some_mapped : (f : Place → Relation) (o : Option Place) → is_some (option_map f o) ≡ is_some o
some_mapped f None = refl
some_mapped f (Some x) = refl

pub returns : goal.returns
returns c =
    let s = c.self.inside in
    let found = (rw c.deref.ensures.value at c.relation_place.ensures.found) (from_of s.floor s.oldests) s.totals s.versions.items in
    subst (λ (v : Versioned). c.is_some.result ≡ is_taken v.store c.args.name.now) c.self.view_is (sym (ap is_some found ∙ some_mapped _ c.relation_place.result ∙ sym c.is_some.ensures))
