use Rattle.std.proofs.Common.{◌≡◌, ap, arith, length, subst, sym, ◌∙◌}
use Rattle.std.proofs.lemmas.List.{length-map}
use Rattle.mesa_group_blocks.specs.mesa_open_files.declared.querying.PinnedInput.{PinnedInput}
use Rattle.mesa_query.specs.Cooled.{cooled}
use Rattle.mesa_query.proofs.AnsweredCached.{HasCause, HasForm, IsDamaged, IsNever, IsPageOf, cause_cooled, damaged_cooled, form_cooled, never_cooled, page_cooled}
use Rattle.mesa_query.proofs.Cooling.{known_cooled, own_cooled, pinned_cool, pinned_warm}
use Rattle.mesa_query.proofs.warm.Warm.answer.Goals as goal

pub answer-requires-after_bounds : goal.answer-requires-after_bounds
answer-requires-after_bounds g c = λ κs below. (c.self.invariant.pinned.0, pinned_warm g.R.FileReader.bytes c.self.invariant.pinned.0 c.self.inside.pinned c.self.invariant.pinned.1)

pub invariant_of-self : goal.invariant_of-self
invariant_of-self g c =
    let s = c.self.invariant.pinned.0 in
    let old = c.self.inside.pinned in
    let new = c.answer.new.pinned in
    let bytes = g.R.FileReader.bytes in
    let as_many : length new.inputs.items ≡ length old.inputs.items = sym (length-map new.inputs.items (λ (file : PinnedInput _). file.own)) ∙ ap length c.answer.ensures.own ∙ length-map old.inputs.items (λ (file : PinnedInput _). file.own) in
    record {
      pinned = (s, pinned_cool bytes s new (c.answer.ensures.pinned s (pinned_warm bytes s old c.self.invariant.pinned.1)));
      empty = c.self.invariant.empty;
      fits = omega (arith, as_many, new.inputs.ok.0, old.inputs.ok.0, c.self.invariant.fits);
    }

pub returns-clause-page : goal.returns-clause-page
returns-clause-page g c = subst (λ p. IsPageOf g.R.FileReader.bytes p c.answer.result) c.self.view_is (page_cooled g.R.FileReader.bytes c.self.inside.pinned c.answer.result c.answer.ensures.page)

pub returns-clause-form : goal.returns-clause-form
returns-clause-form g c = subst (λ p. HasForm g.R.FileReader.bytes p c.answer.result) c.self.view_is (form_cooled g.R.FileReader.bytes c.self.inside.pinned c.answer.result c.answer.ensures.form)

pub returns-clause-pinned : goal.returns-clause-pinned
returns-clause-pinned g c =
    let bytes = g.R.FileReader.bytes in
    λ s is. pinned_cool bytes s c.answer.new.pinned (c.answer.ensures.pinned s (pinned_warm bytes s c.self.inside.pinned (rw c.self.view_is is)))

pub returns-clause-rest : goal.returns-clause-rest
returns-clause-rest g c = rw (← c.self.view_is) (ap cooled c.answer.ensures.rest)

pub returns-clause-known : goal.returns-clause-known
returns-clause-known g c =
    let bytes = g.R.FileReader.bytes in
    rw (← c.self.view_is) (known_cooled bytes c.answer.new.pinned.inputs.items ∙ c.answer.ensures.known ∙ sym (known_cooled bytes c.self.inside.pinned.inputs.items))

pub returns-clause-own : goal.returns-clause-own
returns-clause-own g c = rw (← c.self.view_is) (own_cooled c.answer.new.pinned.inputs.items ∙ c.answer.ensures.own ∙ sym (own_cooled c.self.inside.pinned.inputs.items))

pub returns-clause-cause : goal.returns-clause-cause
returns-clause-cause g c = subst (λ p. HasCause g.R.FileReader.faults p (cooled c.answer.new.pinned) c.answer.result) c.self.view_is (cause_cooled g.R.FileReader.bytes g.R.FileReader.faults c.self.inside.pinned c.answer.new.pinned c.answer.result c.answer.ensures.cause)

pub returns-clause-damaged : goal.returns-clause-damaged
returns-clause-damaged g c = subst (λ p. IsDamaged g.R.FileReader.bytes g.R.FileReader.size p (cooled c.answer.new.pinned) c.answer.result) c.self.view_is (damaged_cooled g.R.FileReader.bytes g.R.FileReader.size c.self.inside.pinned c.answer.new.pinned c.answer.result c.answer.ensures.damaged)

pub returns-clause-never : goal.returns-clause-never
returns-clause-never g c = subst (λ p. IsNever g.R.FileReader.bytes p c.answer.result) c.self.view_is (never_cooled g.R.FileReader.bytes c.self.inside.pinned c.answer.result c.answer.ensures.never)
