use Rattle.std.proofs.Common.{◌≡◌, ◌∙◌, ◌+◌, ◌≤◌, ap, sym, subst}
use Rattle.std.specs.Prelude.{Option, Some, IfSome, option_map}
use Rattle.mesa_catalog_records.specs.mesa_record.declared.record.Record.{Record}
use Rattle.std.specs.List.{AllByRecursion}
use Rattle.mesa_catalog_records.specs.mesa_store_spec.Catalog.{Catalog}
use Rattle.mesa_catalog_records.specs.mesa_store_spec.Ids.{named, times}
use Rattle.mesa_catalog.specs.Kept.{Reserved}
use Rattle.mesa_catalog_records.specs.declared.ready.Ready.{Ready}
use Rattle.mesa_catalog.specs.Lookups.{generation_of, turns_generation}
use Rattle.mesa_catalog_records.specs.Meaning.{catalogue_of}
use Rattle.mesa_catalog_records.specs.Readied.{IsReady, record_in}
use Rattle.mesa_catalog_records.specs.Named.{ids_brought}
use Rattle.mesa_catalog_records.proofs.Applies.{kind_of_fits}
use Rattle.mesa_catalog.proofs.Counted.{still_once}
use Rattle.mesa_catalog.proofs.Keeping.{most_after}
use Rattle.mesa_catalog.proofs.Generation.{generation_turned}
use Rattle.mesa_catalog.proofs.catalog.Catalog.apply.Goals as goal

some_same : (a b : Record) → Some a ≡ Some b → a ≡ b
some_same a b e = cc

pub invariant_of-self : goal.invariant_of-self
invariant_of-self c =
    let s = c.self.inside.catalog_tables in
    let old = c.self.inside.greatest in
    let new = c.greatest_with-self-inside.result in
    let y = c.in-Some.ready in
    let was = c.in-Some.ensures.value in
    let ready = subst (λ (o : Option Ready). IfSome o (IsReady s)) (sym was) c.self.invariant.ready in
    let same = some_same (record_in y) c.args.r (ap (option_map record_in) was ∙ ap (λ (k : Reserved). k.reserved) c.self.view_is ∙ c.requires) in
    let kind = kind_of_fits (catalogue_of s) (record_in y) ready.fits in
    let brings = subst (λ r. AllByRecursion (λ id. id ≤ new) (ids_brought r)) (sym same) c.greatest_with-self-inside.ensures.all in
    record {
      catalog_tables = c.take_in.ensures.live_files;
      ready = subst (λ (o : Option Ready). IfSome o (IsReady c.take_in.new.self)) (sym c.take.ensures.after) tt;
      once = λ id. subst (λ (k : Catalog). times id (named k) ≤ 1) (sym c.take_in.ensures.applied) (still_once id (catalogue_of s) (record_in y) ready.fits (c.self.invariant.once id));
      most = subst (λ (k : Catalog). AllByRecursion (λ id. id ≤ new) (named k)) (sym c.take_in.ensures.applied) (most_after (catalogue_of s) (record_in y) old new kind c.greatest_with-self-inside.ensures.least c.self.invariant.most brings);
    }

pub returns-in-Some-clause-generation : goal.returns-in-Some-clause-generation
returns-in-Some-clause-generation c =
    let s = c.self.inside.catalog_tables in
    let y = c.in-Some.ready in
    let was = c.in-Some.ensures.value in
    let ready = subst (λ (o : Option Ready). IfSome o (IsReady s)) (sym was) c.self.invariant.ready in
    let same = some_same (record_in y) c.args.r (ap (option_map record_in) was ∙ ap (λ (k : Reserved). k.reserved) c.self.view_is ∙ c.requires) in
    let kept = ap (λ (k : Reserved). k.catalogue) c.self.view_is in
    ap generation_of c.take_in.ensures.applied
    ∙ generation_turned (catalogue_of s) (record_in y) (kind_of_fits (catalogue_of s) (record_in y) ready.fits)
    ∙ (λ i. generation_of (kept i) + turns_generation (same i))
