use Rattle.std.proofs.Common.{inl, inr, ◌≡◌, ◌≢◌, ◌<◌, ℕ, [], get_or, length, set, refl, sym, ◌∙◌, subst, arith, add-one}
use Rattle.std.proofs.lemmas.List.{length-set}
use Rattle.mesa_scan.proofs.Moving.{ahead_left}
use Rattle.mesa_merge.specs.Fronts.{HasFront}
use Rattle.mesa_merge.specs.Hands.{hands_of}
use Rattle.mesa_merge.specs.Inputs.{knowns_of, tolds_of}
use Rattle.mesa_merge.specs.Matches.{AreWinners}
use Rattle.mesa_merge.specs.Merging.{AreReady, HasGivens}
use Rattle.mesa_merge.proofs.Hands.{hand_other, hands_length}
use Rattle.mesa_merge.proofs.Inputs.{cause_at, given_at, given_set, inputs_set, known_get, known_set, ready_more, set_same, told_at}
use Rattle.mesa_merge.proofs.Trees.{changed_won}
use Rattle.mesa_merge.proofs.Ahead.{own_of}
use Rattle.mesa_merge.proofs.streams.start.Goals as goal

pub play-requires-clause-changed : goal.play-requires-clause-changed
play-requires-clause-changed g c =
    let cs = c.args.cursors.now in
    let i = c.args.i in
    let t = c.args.tree.now in
    let news = set cs i c.fill_waiting-filled.new.self in
    let count : length (hands_of news) ≡ length (hands_of cs) = hands_length news ∙ length-set cs i _ ∙ sym (hands_length cs) in
    let lt : i < length (hands_of cs) = omega (arith, hands_length cs, c.requires.count, c.requires.within) in
    let others : (j : ℕ) → j ≢ i → get_or (hands_of news) j [] ≡ get_or (hands_of cs) j [] = λ j ne. hand_other cs i j c.fill_waiting-filled.new.self ne in
    record {
      inputs = subst (λ n. AreWinners n t.winners.items) (sym count) c.requires.tree.won.inputs;
      won = changed_won (hands_of cs) (hands_of news) i t.winners.items count lt c.requires.tree.won others;
      count = c.requires.tree.fronts.count ∙ sym count;
      fronts = λ j low ne. subst (HasFront (get_or t.fronts.items j 0)) (sym (others j ne)) (c.requires.tree.fronts.each j (omega (arith, low, count)));
    }

pub returns-in-Ok-clause-others : goal.returns-in-Ok-clause-others
returns-in-Ok-clause-others g c = λ j ne. hand_other c.args.cursors.now c.args.i j c.fill_waiting-filled.new.self ne

pub returns-in-Err-clause-others : goal.returns-in-Err-clause-others
returns-in-Err-clause-others g c = λ j ne. hand_other c.args.cursors.now c.args.i j c.fill_waiting-filled.new.self ne

pub returns-in-Ok-clause-more : goal.returns-in-Ok-clause-more
returns-in-Ok-clause-more g c = λ ready.
    subst (λ n. AreReady n (set c.args.inputs.now c.args.i c.fill_waiting-filled.new.input) (set c.args.cursors.now c.args.i c.fill_waiting-filled.new.self)) (sym (add-one c.args.i))
    (ready_more c.args.inputs.now c.args.cursors.now c.args.i c.fill_waiting-filled.new.input c.fill_waiting-filled.new.self ready c.in-Ok.ensures.ready)

pub returns-in-Ok-clause-known : goal.returns-in-Ok-clause-known
returns-in-Ok-clause-known g c = known_set g.R.FileReader.bytes c.args.inputs.now c.args.i c.fill_waiting-filled.new.input c.index-inputs-i.result c.requires.within c.fill_waiting-filled.ensures.same

pub returns-in-Err-clause-known : goal.returns-in-Err-clause-known
returns-in-Err-clause-known g c = known_set g.R.FileReader.bytes c.args.inputs.now c.args.i c.fill_waiting-filled.new.input c.index-inputs-i.result c.requires.within c.fill_waiting-filled.ensures.same

pub returns-in-Ok-clause-inputs : goal.returns-in-Ok-clause-inputs
returns-in-Ok-clause-inputs g c = λ all. inputs_set g.R.FileReader.bytes c.args.inputs.now c.args.i c.fill_waiting-filled.new.input c.index-inputs-i.result all c.requires.within c.fill_waiting-filled.ensures.input

pub returns-in-Err-clause-inputs : goal.returns-in-Err-clause-inputs
returns-in-Err-clause-inputs g c = λ all. inputs_set g.R.FileReader.bytes c.args.inputs.now c.args.i c.fill_waiting-filled.new.input c.index-inputs-i.result all c.requires.within c.fill_waiting-filled.ensures.input

pub returns-in-Ok-clause-cause : goal.returns-in-Ok-clause-cause
returns-in-Ok-clause-cause g c = cause_at g.R.FileReader.faults c.args.inputs.now c.args.i c.fill_waiting-filled.new.input c.index-inputs-i.result _ _ c.requires.within c.in-Ok.ensures.cause tt

pub returns-in-Err-clause-cause : goal.returns-in-Err-clause-cause
returns-in-Err-clause-cause g c = cause_at g.R.FileReader.faults c.args.inputs.now c.args.i c.fill_waiting-filled.new.input c.index-inputs-i.result _ _ c.requires.within c.in-Err.ensures.cause refl

pub fill_waiting-filled-requires : goal.fill_waiting-filled-requires
fill_waiting-filled-requires g c = (c.type_bounds.send-R, own_of g.R.FileReader.bytes c.args.inputs.now c.args.i c.index-inputs-i.result c.args.ahead.now c.requires.within c.requires.ahead)

pub returns-in-Ok-clause-ahead : goal.returns-in-Ok-clause-ahead
returns-in-Ok-clause-ahead g c = ahead_left (tolds_of (knowns_of g.R.FileReader.bytes c.args.inputs.now)) c.args.ahead.now c.fill_waiting-filled.new.ahead c.fill_waiting-filled.ensures.taken c.requires.ahead

pub returns-in-Err-clause-ahead : goal.returns-in-Err-clause-ahead
returns-in-Err-clause-ahead g c = ahead_left (tolds_of (knowns_of g.R.FileReader.bytes c.args.inputs.now)) c.args.ahead.now c.fill_waiting-filled.new.ahead c.fill_waiting-filled.ensures.taken c.requires.ahead

pub returns-in-Ok-clause-given : goal.returns-in-Ok-clause-given
returns-in-Ok-clause-given g c = λ low givens h.
    let bytes = g.R.FileReader.bytes in
    let is = c.args.inputs.now in
    let cs = c.args.cursors.now in
    let i = c.args.i in
    let was = given_at bytes low is cs givens i c.index-inputs-i.result c.index-cursors-i.result h c.requires.within in
    subst (λ gs. HasGivens bytes low (set is i c.fill_waiting-filled.new.input) (set cs i c.fill_waiting-filled.new.self) gs) (set_same givens i)
    (given_set bytes low is cs givens i c.fill_waiting-filled.new.input c.fill_waiting-filled.new.self (get_or givens i []) h (c.in-Ok.ensures.given low (get_or givens i []) was))

pub returns-in-Err-clause-accepts : goal.returns-in-Err-clause-accepts
returns-in-Err-clause-accepts g c = λ d e low givens h contents told.
    let bytes = g.R.FileReader.bytes in
    let is = c.args.inputs.now in
    let i = c.args.i in
    let one = told_at bytes is contents i c.index-inputs-i.result told c.requires.within in
    let was = given_at bytes low is c.args.cursors.now givens i c.index-inputs-i.result c.index-cursors-i.result h c.requires.within in
    c.in-Err.ensures.accepts_from d e low (get_or givens i []) was one.0 (get_or contents i []) one.1 one.2

pub returns-in-Err-clause-damaged : goal.returns-in-Err-clause-damaged
returns-in-Err-clause-damaged g c = λ d e low givens h.
    let bytes = g.R.FileReader.bytes in
    let is = c.args.inputs.now in
    let i = c.args.i in
    let was = given_at bytes low is c.args.cursors.now givens i c.index-inputs-i.result c.index-cursors-i.result h c.requires.within in
    let unsound = c.in-Err.ensures.accepts_from d e low (get_or givens i []) was in
    record {
      at = i;
      input = get_or is i c.index-inputs-i.result;
      one = known_get bytes is i c.index-inputs-i.result c.requires.within;
      damaged = elim (c.in-Err.ensures.damaged_from d e low (get_or givens i []) was) [
        | inl told ↦ inl (record { block = told.0; before = told.1; shown = told.2; unsound = unsound })
        | inr fall ↦ inr (record { falls = fall; unsound = unsound })
      ];
    }
