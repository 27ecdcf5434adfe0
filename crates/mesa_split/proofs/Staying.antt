-- What stays of parts whose inputs stay.
use Rattle.std.proofs.Common.{◌≡◌, inl, inr, ℕ, List, [], ◌∷◌, map, refl, sym, ap, subst, ◌∙◌, Global, Vec}
use Rattle.std.specs.Prelude.{Option}
use Rattle.std.specs.List.{AllByRecursion}
use Rattle.mesa_file.specs.declared.damage.Damage.{Damage}
use Rattle.mesa_compact.specs.mesa_columns.declared.rows.Row.{Row}
use Rattle.mesa_compact.specs.mesa_columns.Columns.{Columns}
use Rattle.mesa_delta.specs.declared.input.Input.{Input}
use Rattle.mesa_compact.specs.mesa_scan.Cursors.{IsInput}
use Rattle.mesa_merge.specs.Damaged.{IsDamageOf}
use Rattle.mesa_merge.specs.Inputs.{AreAlike, AreTold, Known, knowns_of, lifted_parts}
use Rattle.mesa_split.specs.Lending.{AllTell, AreReady, IsDamageIn, knowns_in, lists_in, own_in}
use Rattle.mesa_split.specs.Rounds.{StayInputs}
use Rattle.mesa_split.specs.declared.parts.Part.{Part}

module _ {R : Type 0} where
  map_lists : {A : Type 0} (f : List (Input R) → A) (ps : List (Part R)) → map (λ (p : Part R). f p.inputs.items) ps ≡ map (λ (v : Vec (Input R) Global). f v.items) (lists_in ps)
  map_lists f [] = refl
  map_lists f (p ∷ ps) = ap (λ xs. f p.inputs.items ∷ xs) (map_lists f ps)

  pub same_lists : {A : Type 0} (f : List (Input R) → A) (ps qs : List (Part R)) → lists_in qs ≡ lists_in ps → map (λ (q : Part R). f q.inputs.items) qs ≡ map (λ (p : Part R). f p.inputs.items) ps
  same_lists f ps qs same = map_lists f qs ∙ ap (λ (ls : List (Vec (Input R) Global)). map (λ (v : Vec (Input R) Global). f v.items) ls) same ∙ sym (map_lists f ps)

  all_to : (P : List (Input R) → Type 0) (ps : List (Part R)) → AllByRecursion (λ (p : Part R). P p.inputs.items) ps → AllByRecursion (λ (v : Vec (Input R) Global). P v.items) (lists_in ps)
  all_to P [] all = tt
  all_to P (p ∷ ps) all = (all.0, all_to P ps all.1)

  all_from : (P : List (Input R) → Type 0) (ps : List (Part R)) → AllByRecursion (λ (v : Vec (Input R) Global). P v.items) (lists_in ps) → AllByRecursion (λ (p : Part R). P p.inputs.items) ps
  all_from P [] all = tt
  all_from P (p ∷ ps) all = (all.0, all_from P ps all.1)

  pub all_lists : (P : List (Input R) → Type 0) (ps qs : List (Part R)) → lists_in qs ≡ lists_in ps → AllByRecursion (λ (p : Part R). P p.inputs.items) ps → AllByRecursion (λ (q : Part R). P q.inputs.items) qs
  all_lists P ps qs same all = all_from P qs (subst (AllByRecursion (λ (v : Vec (Input R) Global). P v.items)) (sym same) (all_to P ps all))

  pub some_lists : (bytes : R → Option (List ℕ)) (size : R → ℕ) (ps qs : List (Part R)) (d : Damage) → lists_in qs ≡ lists_in ps → IsDamageIn bytes size ps d → IsDamageIn bytes size qs d
  some_lists bytes size [] qs d same some = absurd some
  some_lists bytes size (p ∷ ps) [] d same some = absurd cc
  some_lists bytes size (p ∷ ps) (q ∷ qs) d same some = elim some [
    | inl here ↦ (let one : p.inputs ≡ q.inputs = cc in inl (subst (λ (v : Vec (Input R) Global). IsDamageOf bytes size v.items d) one here))
    | inr more ↦ (let rest : lists_in qs ≡ lists_in ps = cc in inr (some_lists bytes size ps qs d rest more))
  ]

module _ {R : Type 0} (bytes : R → Option (List ℕ)) where
  pub stay_none : (s : Columns) (ps : List (Part R)) → AreReady bytes s ps → StayInputs bytes ps ps
  stay_none s ps ready = record { known = refl; each = each ps ready } where
    each : (ps : List (Part R)) → AreReady bytes s ps → AllByRecursion (λ (p : Part R). AllByRecursion (IsInput bytes) p.inputs.items) ps
    each [] ready = tt
    each (p ∷ ps) ready = (ready.0.each, each ps ready.1)

  pub stay_on : (ps qs rs : List (Part R)) → StayInputs bytes ps qs → StayInputs bytes qs rs → StayInputs bytes ps rs
  stay_on ps qs rs first more = record { known = more.known ∙ first.known; each = more.each }

  -- parts whose inputs stay may merge on
  pub ready_on : (s : Columns) (ps qs : List (Part R)) → AreReady bytes s ps → StayInputs bytes ps qs → AreReady bytes s qs
  ready_on s [] [] ready h = tt
  ready_on s [] (q ∷ qs) ready h = absurd (let bad = h.known in cc)
  ready_on s (p ∷ ps) [] ready h = tt
  ready_on s (p ∷ ps) (q ∷ qs) ready h =
      let one : knowns_of bytes q.inputs.items ≡ knowns_of bytes p.inputs.items = (let all = h.known in cc) in
      let rest : knowns_in bytes qs ≡ knowns_in bytes ps = (let all = h.known in cc) in
      (record { each = h.each.0; alike = subst (AreAlike s) (sym one) ready.0.alike }, ready_on s ps qs ready.1 (record { known = rest; each = h.each.1 }))

  -- and tell what they told
  pub tell_on : (own mine : List (Input R)) (ps qs : List (Part R)) → AllTell bytes own ps → knowns_in bytes qs ≡ knowns_in bytes ps → knowns_of bytes mine ≡ knowns_of bytes own → AllTell bytes mine qs
  tell_on own mine ps [] tells known same = tt
  tell_on own mine [] (q ∷ qs) tells known same = absurd cc
  tell_on own mine (p ∷ ps) (q ∷ qs) tells known same =
      let one : knowns_of bytes q.inputs.items ≡ knowns_of bytes p.inputs.items = cc in
      let rest : knowns_in bytes qs ≡ knowns_in bytes ps = cc in (
        subst (λ (ks : List Known). (contents : List (List Row)) → AreTold ks contents → AreTold (knowns_of bytes q.inputs.items) contents × (lifted_parts (knowns_of bytes q.inputs.items) contents ≡ lifted_parts ks contents)) (sym same)
            (subst (λ (ks : List Known). (contents : List (List Row)) → AreTold (knowns_of bytes own) contents → AreTold ks contents × (lifted_parts ks contents ≡ lifted_parts (knowns_of bytes own) contents)) (sym one) tells.0),
        tell_on own mine ps qs tells.1 rest same,
      )

  pub own_on : (ps qs : List (Part R)) → knowns_in bytes qs ≡ knowns_in bytes ps → knowns_of bytes (own_in qs) ≡ knowns_of bytes (own_in ps)
  own_on [] [] known = refl
  own_on [] (q ∷ qs) known = absurd cc
  own_on (p ∷ ps) [] known = absurd cc
  own_on (p ∷ ps) (q ∷ qs) known = cc
