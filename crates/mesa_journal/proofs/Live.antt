-- The two areas of an image.
use Rattle.std.proofs.Common.{◌≡◌, inl, inr, ℕ, ◌+◌, ◌<◌, ◌≤◌, List, [], ◌∷◌, ◌++◌, length, true, false, ◌==◌, refl, sym, ◌∙◌, ap, subst, arith}
use Rattle.std.proofs.lemmas.Bool.Decides.{nat_tests}
use Rattle.mesa_disk.specs.Image.{Image, area_of, InArea}
use Rattle.mesa_disk.specs.declared.area.Area.{Area}
use Rattle.mesa_disk.specs.declared.area.Area.TheVariants.{Zero, One}
use Rattle.mesa_journal.specs.Journal.{IsJournal, Closed}
use Rattle.mesa_journal.specs.Areas.{other_of, rank, Leads, IsBehind, HasJournal, IsDamagedIn, holds_body, MayClose, Closes}
use Rattle.mesa_journal.proofs.Unique.{same_journal, same_end, not_damaged}

-- a change of one area leaves the other
pub other_stays : (area : Area) (step : List ℕ → List ℕ → Type 0) (i j : Image) → InArea area step i j → area_of (other_of area) j ≡ area_of (other_of area) i
other_stays Zero step i j is = ap (λ (x : Image). x.one) is.same
other_stays One step i j is = ap (λ (x : Image). x.zero) is.same

pub same_stays : (area : Area) (step : List ℕ → List ℕ → Type 0) (i j : Image) → InArea (other_of area) step i j → area_of area j ≡ area_of area i
same_stays Zero step i j is = ap (λ (x : Image). x.zero) is.same
same_stays One step i j is = ap (λ (x : Image). x.one) is.same

pub other_other : (area : Area) → other_of (other_of area) ≡ area
other_other Zero = refl
other_other One = refl

-- ---- ranks

rank_more : (bodies more : List (List ℕ)) → rank bodies ≤ rank (bodies ++ more)
rank_more [] more = omega arith
rank_more (body ∷ bodies) more = omega arith

-- a body more leaves the live area live
pub leads_more : (live : Area) (bodies more others : List (List ℕ)) → Leads live bodies others → Leads live (bodies ++ more) others
leads_more Zero bodies more others leads = omega (arith, leads, rank_more bodies more)
leads_more One bodies more others leads = omega (arith, leads, rank_more bodies more)

-- and so does it that the other one loses its bodies
pub leads_none : (live : Area) (bodies others : List (List ℕ)) → Leads live bodies others → Leads live bodies []
leads_none Zero bodies others leads = omega arith
leads_none One bodies others leads = omega (arith, leads)

pub behind_more : (live : Area) (bodies more : List (List ℕ)) (other : List ℕ) → IsBehind live bodies other → IsBehind live (bodies ++ more) other
behind_more live bodies more other is = record { others = is.others; end = is.end; whole = is.whole; leads = leads_more live bodies more is.others is.leads }

pub behind_same : (live : Area) (bodies : List (List ℕ)) (old new : List ℕ) → new ≡ old → IsBehind live bodies old → IsBehind live bodies new
behind_same live bodies old new same is = subst (IsBehind live bodies) (sym same) is

-- while the other area's first gate is closed, the live one stays live
pub behind_closes : (live : Area) (bodies : List (List ℕ)) (old new : List ℕ) → IsBehind live bodies old → Closes old new → IsBehind live bodies new
behind_closes live bodies old new is (inl none) = record { others = []; end = 0; whole = none; leads = leads_none live bodies is.others is.leads }
behind_closes live bodies old new is (inr same) = behind_same live bodies old new same is

-- ---- an image has one journal

both_lead : (bodies others cs ds : List (List ℕ)) → bodies ≡ ds → others ≡ cs → Leads Zero bodies others → Leads One cs ds → ⊥
both_lead bodies others cs ds one two zero leads = omega (arith, zero, leads, ap rank one, ap rank two)

pub one_live : (image : Image) (a b : Area) (bodies cs : List (List ℕ)) (end e : ℕ) → HasJournal image a bodies end → HasJournal image b cs e → a ≡ b
one_live image Zero Zero bodies cs end e x y = refl
one_live image One One bodies cs end e x y = refl
one_live image Zero One bodies cs end e x y =
    absurd (both_lead bodies x.behind.others cs y.behind.others (same_journal image.zero bodies y.behind.others end y.behind.end x.whole y.behind.whole) (same_journal image.one x.behind.others cs x.behind.end e x.behind.whole y.whole) x.behind.leads y.behind.leads)
one_live image One Zero bodies cs end e x y =
    absurd (both_lead cs y.behind.others bodies x.behind.others (same_journal image.zero cs x.behind.others e x.behind.end y.whole x.behind.whole) (same_journal image.one y.behind.others bodies y.behind.end end y.behind.whole x.whole) y.behind.leads x.behind.leads)

pub same_live : (image : Image) (a b : Area) (bodies cs : List (List ℕ)) (end e : ℕ) → HasJournal image a bodies end → HasJournal image b cs e → (bodies ≡ cs) × (end ≡ e)
same_live image a b bodies cs end e x y =
    let whole : IsJournal (area_of a image) cs e = subst (λ (z : Area). IsJournal (area_of z image) cs e) (sym (one_live image a b bodies cs end e x y)) y.whole in
    (same_journal (area_of a image) bodies cs end e x.whole whole, same_end (area_of a image) bodies cs end e x.whole whole)

-- and no damage
pub never_damaged : (image : Image) (live area : Area) (bodies : List (List ℕ)) (end at want : ℕ) → HasJournal image live bodies end → IsDamagedIn area at want image → ⊥
never_damaged image Zero Zero bodies end at want x d = not_damaged image.zero bodies end at want x.whole d
never_damaged image One Zero bodies end at want x d = not_damaged image.zero x.behind.others x.behind.end at want x.behind.whole d
never_damaged image Zero One bodies end at want x d = not_damaged image.one x.behind.others x.behind.end at want x.behind.whole d.1
never_damaged image One One bodies end at want x d = not_damaged image.one bodies end at want x.whole d.1

-- ---- whether an area holds a body

pub may_close : (area : List ℕ) → holds_body area ≡ true → MayClose area
may_close [] e = inl (omega arith)
may_close (gate ∷ []) e = inl (omega arith)
may_close (gate ∷ next ∷ rest) e = inr (next ∷ rest, (let is : gate ≡ 1 = grind (arith, nat_tests) in ap (λ (g : ℕ). g ∷ next ∷ rest) is))

pub shut_long : (area : List ℕ) → holds_body area ≡ false → 1 < length area → Closed area [] 0
shut_long [] e long = absurd (omega (arith, long))
shut_long (gate ∷ []) e long = absurd (omega (arith, long))
shut_long (gate ∷ next ∷ rest) e long = record { gate = gate; rest = next ∷ rest; shut = (λ (is : gate ≡ 1). (let t : (gate == 1) ≡ true = grind (arith, nat_tests) in let f : true ≡ false = sym t ∙ e in cc)); split = refl; fit = tt; ends = refl }
