use Rattle.std.proofs.Common.{inl, inr, ◌≡◌, ◌≢◌, ◌<◌, ℕ, [], ◌∷◌, ◌++◌, get_or, length, set, refl, sym, ◌∙◌, subst, arith}
use Rattle.std.proofs.lemmas.List.{length-set}
use Rattle.mesa_scan.specs.mesa_columns.Rows.{AreRowsOf}
use Rattle.mesa_scan.specs.Cursors.{at_hand}
use Rattle.mesa_scan.proofs.Taken.{stepped, taken}
use Rattle.mesa_merge.specs.Fronts.{HasFront}
use Rattle.mesa_merge.specs.Hands.{IsAhead, hands_of}
use Rattle.mesa_merge.specs.Matches.{AreWinners}
use Rattle.mesa_merge.proofs.Hands.{hand_of_get, hand_other, hand_same, hands_length}
use Rattle.mesa_merge.proofs.Inputs.{alike_at, cause_at, given_at, given_set, inputs_set, known_get, known_set, ready_set, told_at}
use Rattle.mesa_merge.proofs.Stages.{ahead_of_hand}
use Rattle.mesa_merge.proofs.Taking.{hand_form, stepped_given}
use Rattle.mesa_merge.proofs.Trees.{changed_won}
use Rattle.mesa_merge.proofs.streams.advance.Goals as goal

pub play-requires-clause-changed : goal.play-requires-clause-changed
play-requires-clause-changed g c =
    let cs = c.args.cursors.now in
    let i = c.args.i in
    let t = c.args.tree.now in
    let news = set cs i c.fill-filled.new.self in
    let count : length (hands_of news) ≡ length (hands_of cs) = hands_length news ∙ length-set cs i _ ∙ sym (hands_length cs) in
    let lt : i < length (hands_of cs) = omega (arith, hands_length cs, c.requires.count, c.requires.within) in
    let others : (j : ℕ) → j ≢ i → get_or (hands_of news) j [] ≡ get_or (hands_of cs) j [] = λ j ne. hand_other cs i j c.fill-filled.new.self ne in
    record {
      inputs = subst (λ n. AreWinners n t.winners.items) (sym count) c.requires.tree.won.inputs;
      won = changed_won (hands_of cs) (hands_of news) i t.winners.items count lt c.requires.tree.won others;
      count = c.requires.tree.fronts.count ∙ sym count;
      fronts = λ j low ne. subst (HasFront (get_or t.fronts.items j 0)) (sym (others j ne)) (c.requires.tree.fronts.each j (omega (arith, low, count)));
    }

pub returns-in-Ok-clause-others : goal.returns-in-Ok-clause-others
returns-in-Ok-clause-others g c = λ j ne. hand_other c.args.cursors.now c.args.i j c.fill-filled.new.self ne

pub returns-in-Err-clause-others : goal.returns-in-Err-clause-others
returns-in-Err-clause-others g c = λ j ne. hand_other c.args.cursors.now c.args.i j c.fill-filled.new.self ne

pub returns-in-Ok-clause-given : goal.returns-in-Ok-clause-given
returns-in-Ok-clause-given g c = λ row rows e low givens h.
    let bytes = g.R.FileReader.bytes in
    let is = c.args.inputs.now in
    let cs = c.args.cursors.now in
    let i = c.args.i in
    let ltc : i < length cs = omega (arith, c.requires.count, c.requires.within) in
    let hand = stepped _ (at_hand c.step.new.self) rows row (sym (hand_of_get cs i c.index-cursors-i.result ltc) ∙ e) c.step.ensures.rows in
    let was = given_at bytes low is cs givens i c.index-inputs-i.result c.index-cursors-i.result h c.requires.within in
    given_set bytes low is cs givens i c.fill-filled.new.input c.fill-filled.new.self (get_or givens i [] ++ row ∷ []) h
    (c.in-Ok.ensures.given low (get_or givens i [] ++ row ∷ []) (taken bytes low _ _ c.step.new.self (get_or givens i []) row was hand c.step.ensures.still))

pub returns-in-Ok-clause-form : goal.returns-in-Ok-clause-form
returns-in-Ok-clause-form g c = λ row rows e low s givens alike h.
    let bytes = g.R.FileReader.bytes in
    let is = c.args.inputs.now in
    let cs = c.args.cursors.now in
    let i = c.args.i in
    let ltc : i < length cs = omega (arith, c.requires.count, c.requires.within) in
    let hand = stepped _ (at_hand c.step.new.self) rows row (sym (hand_of_get cs i c.index-cursors-i.result ltc) ∙ e) c.step.ensures.rows in
    let was = given_at bytes low is cs givens i c.index-inputs-i.result c.index-cursors-i.result h c.requires.within in
    let form = c.rises.ensures.form low (get_or givens i []) was in
    let same = alike_at bytes s is i c.index-inputs-i.result alike c.requires.within in
    hand_form s (get_or givens i []) (at_hand (get_or cs i c.index-cursors-i.result)) row (at_hand c.step.new.self) (subst (λ t. AreRowsOf t (get_or givens i [] ++ at_hand (get_or cs i c.index-cursors-i.result))) same form) hand

pub returns-in-Ok-clause-above : goal.returns-in-Ok-clause-above
returns-in-Ok-clause-above g c = λ row rows e low givens h.
    let bytes = g.R.FileReader.bytes in
    let is = c.args.inputs.now in
    let cs = c.args.cursors.now in
    let i = c.args.i in
    let ltc : i < length cs = omega (arith, c.requires.count, c.requires.within) in
    let hand = stepped _ (at_hand c.step.new.self) rows row (sym (hand_of_get cs i c.index-cursors-i.result ltc) ∙ e) c.step.ensures.rows in
    let was = given_at bytes low is cs givens i c.index-inputs-i.result c.index-cursors-i.result h c.requires.within in
    let now = c.in-Ok.ensures.given low (get_or givens i [] ++ row ∷ []) (taken bytes low _ _ c.step.new.self (get_or givens i []) row was hand c.step.ensures.still) in
    subst (IsAhead row.key) (sym (hand_same cs i c.fill-filled.new.self ltc))
    (ahead_of_hand row (get_or givens i []) (at_hand c.fill-filled.new.self) (λ next rest there. c.rises-2.ensures.above low (get_or givens i [] ++ row ∷ []) next rest now there))

pub returns-in-Ok-clause-ready : goal.returns-in-Ok-clause-ready
returns-in-Ok-clause-ready g c = λ n ready. ready_set n c.args.inputs.now c.args.cursors.now c.args.i c.fill-filled.new.input c.fill-filled.new.self ready c.in-Ok.ensures.ready

pub returns-in-Ok-clause-known : goal.returns-in-Ok-clause-known
returns-in-Ok-clause-known g c = known_set g.R.FileReader.bytes c.args.inputs.now c.args.i c.fill-filled.new.input c.index-inputs-i.result c.requires.within c.fill-filled.ensures.same

pub returns-in-Err-clause-known : goal.returns-in-Err-clause-known
returns-in-Err-clause-known g c = known_set g.R.FileReader.bytes c.args.inputs.now c.args.i c.fill-filled.new.input c.index-inputs-i.result c.requires.within c.fill-filled.ensures.same

pub returns-in-Ok-clause-inputs : goal.returns-in-Ok-clause-inputs
returns-in-Ok-clause-inputs g c = λ all. inputs_set g.R.FileReader.bytes c.args.inputs.now c.args.i c.fill-filled.new.input c.index-inputs-i.result all c.requires.within c.fill-filled.ensures.input

pub returns-in-Err-clause-inputs : goal.returns-in-Err-clause-inputs
returns-in-Err-clause-inputs g c = λ all. inputs_set g.R.FileReader.bytes c.args.inputs.now c.args.i c.fill-filled.new.input c.index-inputs-i.result all c.requires.within c.fill-filled.ensures.input

pub returns-in-Ok-clause-cause : goal.returns-in-Ok-clause-cause
returns-in-Ok-clause-cause g c = cause_at g.R.FileReader.faults c.args.inputs.now c.args.i c.fill-filled.new.input c.index-inputs-i.result _ _ c.requires.within c.in-Ok.ensures.cause tt

pub returns-in-Err-clause-cause : goal.returns-in-Err-clause-cause
returns-in-Err-clause-cause g c = cause_at g.R.FileReader.faults c.args.inputs.now c.args.i c.fill-filled.new.input c.index-inputs-i.result _ _ c.requires.within c.in-Err.ensures.cause refl

pub returns-in-Err-clause-accepts : goal.returns-in-Err-clause-accepts
returns-in-Err-clause-accepts g c = λ d e low givens h contents told.
    let bytes = g.R.FileReader.bytes in
    let is = c.args.inputs.now in
    let cs = c.args.cursors.now in
    let i = c.args.i in
    let one = told_at bytes is contents i c.index-inputs-i.result told c.requires.within in
    let was = given_at bytes low is cs givens i c.index-inputs-i.result c.index-cursors-i.result h c.requires.within in
    let now = stepped_given bytes low _ _ c.step.new.self (get_or givens i []) was c.step.ensures.rows c.step.ensures.still in
    c.in-Err.ensures.accepts_from d e low now.0 now.1 one.0 (get_or contents i []) one.1 one.2

pub returns-in-Err-clause-damaged : goal.returns-in-Err-clause-damaged
returns-in-Err-clause-damaged g c = λ d e low givens h.
    let bytes = g.R.FileReader.bytes in
    let is = c.args.inputs.now in
    let cs = c.args.cursors.now in
    let i = c.args.i in
    let was = given_at bytes low is cs givens i c.index-inputs-i.result c.index-cursors-i.result h c.requires.within in
    let now = stepped_given bytes low _ _ c.step.new.self (get_or givens i []) was c.step.ensures.rows c.step.ensures.still in
    let input = get_or is i c.index-inputs-i.result in
    let unsound = c.in-Err.ensures.accepts_from d e low now.0 now.1 in
    record {
      at = i;
      input = input;
      one = known_get bytes is i c.index-inputs-i.result c.requires.within;
      damaged = elim (c.in-Err.ensures.damaged_from d e low now.0 now.1) [
        | inl told ↦ inl (record { block = told.0; before = told.1; shown = told.2; unsound = unsound })
        | inr fall ↦ inr (record { falls = fall; unsound = unsound })
      ];
    }
