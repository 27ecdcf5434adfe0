use Rattle.std.proofs.Common.{◌≡◌, inl, ℕ, List, [], ◌∷◌, ◌+◌, ◌-◌, ◌++◌, length, take, drop, get_or, Some, refl, sym, ◌∙◌, ap, subst, arith}
use Rattle.std.specs.Option.{option_or}
use Rattle.std.proofs.lemmas.List.{drop_more, take_rest}
use Rattle.mesa_journal.specs.Areas.{number_in}
use Rattle.mesa_journal.specs.Live.{first_number}
use Rattle.mesa_journal.proofs.Tails.{Parsed, parsed_more}
use Rattle.mesa_journal.proofs.both.scan.Goals as goal

first_more : (bodies : List (List ℕ)) (body : List ℕ) → option_or (first_number bodies) (Some (number_in body)) ≡ first_number (bodies ++ body ∷ [])
first_more [] body = refl
first_more (b ∷ bodies) body = refl

pub loop-at-init : goal.loop-at-init
loop-at-init c = ([], record { split = refl; place = refl; fit = tt; within = omega arith }, refl)

pub returns-then-area-lt2-clause-scanned : goal.returns-then-area-lt2-clause-scanned
returns-then-area-lt2-clause-scanned c = record { bodies = []; end = 0; whole = inl (record { short = omega arith; none = refl; ends = refl }); is = refl }

pub loop-at-preserved : goal.loop-at-preserved
loop-at-preserved c =
    let area = c.args.area.now in
    let at = c.loop-at.at in
    let body = c.in-Some.body.now in
    let bodies = c.loop-at.invariant.0 in
    let was = c.loop-at.invariant.1 in
    let tail = take (length area - (at + 1)) (drop (at + 1) area) in
    let open_gate : get_or area at 0 ≡ 1 = c.loop-at-test.true in
    let here : drop at area ≡ 1 ∷ tail =
    drop_more area at 0 was.within ∙ ap (λ (g : ℕ). g ∷ drop (at + 1) area) open_gate ∙ ap (λ (l : List ℕ). 1 ∷ l) (sym (take_rest area (at + 1))) in
    let found = c.in-Some.ensures.body in
    let more : Parsed area (bodies ++ body ∷ []) (at + length body + 5) = parsed_more area bodies at tail body found.1.0 was here found.0 found.1.1 found.1.2 in
    let end : at + length body + 5 ≡ at + (length body + 5) = omega arith in
    let seen : c.loop-at.first ≡ first_number bodies = c.loop-at.invariant.2 in
    let number : c.number_in.result ≡ number_in body = c.number_in.ensures in
    (bodies ++ body ∷ [], subst (Parsed area (bodies ++ body ∷ [])) end more, c.or-first.ensures ∙ (λ i. option_or (seen i) (Some (number i))) ∙ first_more bodies body)
