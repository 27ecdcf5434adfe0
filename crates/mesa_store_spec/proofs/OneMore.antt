-- A catalogue with one body more.
use Rattle.std.proofs.Common.{◌≡◌, ℕ, List, [], ◌∷◌, ◌++◌, Option, Some, None, Ok, false, true, refl, ◌∙◌, ap, subst, sym}
use Rattle.mesa_record.specs.declared.record.Record.{Record}
use Rattle.mesa_record.specs.declared.record.Record.TheVariants as record_of
use Rattle.mesa_record.specs.declared.checkpoint.Checkpoint.{Checkpoint}
use Rattle.mesa_record.specs.Reading.{record_at}
use Rattle.mesa_store_spec.specs.Catalog.{Catalog, empty_catalog, applied}
use Rattle.mesa_commit.specs.mesa_disk.declared.area.Area.{Area}
use Rattle.mesa_commit.specs.mesa_disk.declared.area.Area.TheVariants.{Zero, One}
use Rattle.mesa_store_spec.specs.Fitting.{fits, with_body, read_record, applied_if, then_bodies, catalog_from}
use Rattle.mesa_store_spec.specs.Journaled.{checkpoint_in, first_by, first_read, first_body, catalog}

then_twice : (o : Option Catalog) (f g h : Catalog → Option Catalog) → ((d : Catalog) → f d ≡ then_bodies (g d) h) → then_bodies o f ≡ then_bodies (then_bodies o g) h
then_twice None f g h same = refl
then_twice (Some d) f g h same = same d

from-append : (c : Catalog) (bodies more : List (List ℕ)) → catalog_from c (bodies ++ more) ≡ then_bodies (catalog_from c bodies) (λ d. catalog_from d more)
unfolding catalog_from
from-append c [] more = refl
from-append c (body ∷ bodies) more = then_twice (with_body c body) (λ d. catalog_from d (bodies ++ more)) (λ d. catalog_from d bodies) (λ d. catalog_from d more) (λ d. from-append d bodies more)

one_body : (c d : Catalog) (body : List ℕ) → with_body c body ≡ Some d → catalog_from c (body ∷ []) ≡ Some d
unfolding catalog_from
one_body c d body is = ap (λ o. then_bodies o (λ e. catalog_from e [])) is

read_more : (c : Catalog) (body : List ℕ) (r : Record) → record_at body ≡ Ok r → fits c r ≡ true → with_body c body ≡ Some (applied c r)
read_more c body r reads good = ap (read_record c) reads ∙ ap (applied_if c r) good

none_some : (c : Catalog) → ◌≡◌ {A = Option Catalog} None (Some c) → ⊥
none_some c is = cc

from-none : (c : Catalog) → catalog_from c [] ≡ Some c
unfolding catalog_from
from-none c = refl

-- a record that has a checkpoint is one
pub checkpoint_is : (r : Record) (k : Checkpoint) → checkpoint_in r ≡ Some k → r ≡ record_of.Checkpoint k
checkpoint_is (record_of.Checkpoint x) k e = (let same : x ≡ k = cc in ap (λ (y : Checkpoint). record_of.Checkpoint y) same)
checkpoint_is r k e = absurd (cc)

never_later : (c : Catalog) (k : Checkpoint) → fits c (record_of.Checkpoint k) ≡ true → ⊥
unfolding fits
never_later c k e = (let no : false ≡ true = e in cc)

first_more : (r : Record) (o : Option Checkpoint) → checkpoint_in r ≡ o → fits empty_catalog r ≡ true → first_by Zero r o ≡ Some (applied empty_catalog r)
first_more r None is good = ap (applied_if empty_catalog r) good
first_more r (Some k) is good = absurd (never_later empty_catalog k (subst (λ (x : Record). fits empty_catalog x ≡ true) (checkpoint_is r k is) good))

-- A record that fits is applied.
pub catalog_more : (area : Area) (bodies : List (List ℕ)) (body : List ℕ) (c : Catalog) (r : Record) → catalog area bodies ≡ Some c → record_at body ≡ Ok r → fits c r ≡ true → catalog area (bodies ++ body ∷ []) ≡ Some (applied c r)
catalog_more Zero [] body c r is reads good =
    let same : empty_catalog ≡ c = cc in
    let fit : fits empty_catalog r ≡ true = subst (λ (e : Catalog). fits e r ≡ true) (sym same) good in
    ap (λ o. then_bodies o (λ d. catalog_from d [])) (ap (first_read Zero) reads ∙ first_more r (checkpoint_in r) refl fit ∙ ap (λ (e : Catalog). Some (applied e r)) same) ∙ from-none (applied c r)
catalog_more One [] body c r is reads good = absurd (none_some c is)
catalog_more area (first ∷ bodies) body c r is reads good =
    then_twice (first_body area first) (λ d. catalog_from d (bodies ++ body ∷ [])) (λ d. catalog_from d bodies) (λ d. catalog_from d (body ∷ [])) (λ d. from-append d bodies (body ∷ []))
    ∙ ap (λ o. then_bodies o (λ d. catalog_from d (body ∷ []))) is
    ∙ one_body c (applied c r) body (read_more c body r reads good)
