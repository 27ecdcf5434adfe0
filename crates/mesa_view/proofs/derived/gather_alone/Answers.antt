use Rattle.std.proofs.Common.{◌≡◌, [], List, ◌∙◌, ap, inr, sym}
use Rattle.std.specs.Prelude.{map}
use Rattle.mesa_scan.specs.mesa_schema.Changes.{columns_of}
use Rattle.mesa_filter.specs.declared.terms.Term.{Term}
use Rattle.mesa_filter.specs.Filter.{filtered}
use Rattle.mesa_scan.specs.Cursors.{lift_by}
use Rattle.mesa_view.proofs.Blocks.{every_passes}
use Rattle.mesa_view.specs.declared.error.GatherError.TheVariants as gather
use Rattle.mesa_view.proofs.derived.gather_alone.Goals as goal

pub returns-in-Ok-clause-put : goal.returns-in-Ok-clause-put
returns-in-Ok-clause-put g c = c.in-Ok.ensures.put [] c.requires.none

pub returns-in-Err-File-clause-never : goal.returns-in-Err-File-clause-never
returns-in-Err-File-clause-never g c = λ d e b all told indexed keeps. (c.in-Err-File.ensures.damaged d (c.in-Err-File.field-0-is ∙ ap gather.File e)).unsound b all told indexed

pub returns-clause-never : goal.returns-clause-never
returns-clause-never g c = λ d e b all told indexed keeps. c.in-Err-Sum.ensures.never c.in-Err-Sum.field-0-is [] c.requires.none b all told indexed keeps

pub returns-clause-damaged : goal.returns-clause-damaged
returns-clause-damaged g c = λ d e.
    let input = c.args.input.now in
    let s = columns_of input.evolving.value in
    let sum = c.in-Err-Sum.ensures.sum c.in-Err-Sum.field-0-is [] c.requires.none in
    inr (record {
      key = _;
      given = sum.0;
      leaves = sum.1;
      first = λ b all told indexed.
          let more = sum.2 b all told indexed in
          let rows = map (lift_by input) all in
          let every : rows ≡ filtered s c.args.filter.now.terms rows = sym (ap (λ (terms : List Term). filtered s terms rows) c.requires.every ∙ every_passes s rows) in
          (more.0, every ∙ more.1);
      told = cc;
    })
