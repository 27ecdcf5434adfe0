-- The catalogue that an area's bodies make, one after the other, and the first that is refused.
use Rattle.std.proofs.Common.{◌≡◌, inl, inr, ⊎_elim, ℕ, suc, ◌+◌, ◌<◌, List, [], ◌∷◌, ◌++◌, length, take, Some, None, refl, sym, ◌∙◌, ap, subst, arith}
use Rattle.std.specs.Prelude.{slice_index_or}
use Rattle.std.proofs.lemmas.List.{map-append}
use Rattle.mesa_disk.specs.declared.area.Area.{Area}
use Rattle.mesa_journal.specs.Read.{bodies_of, placed_from}
use Rattle.mesa_journal.specs.declared.reading.Body.{Body}
use Rattle.mesa_record.specs.Reading.{record_at}
use Rattle.mesa_store_spec.specs.Catalog.{Catalog}
use Rattle.mesa_store_spec.specs.Fitting.{catalog_from, then_bodies, with_body}
use Rattle.mesa_store_spec.specs.Journaled.{catalog, first_body}
use Rattle.mesa_recover.specs.declared.error.OpenError.{OpenError}
use Rattle.mesa_recover.specs.declared.error.OpenError.TheVariants as open_error
use Rattle.mesa_recover.specs.Damages.{misfit_of}
use Rattle.mesa_recover.specs.Misfits.{IsMisfitAt, IsMisfitIn, misfit_at}
use Rattle.mesa_recover.proofs.Firsts.{first_misfit, take_next}
use Rattle.mesa_recover.specs.Live.{IsRefusedBehind}

-- ---- one body more

pub one_body : (area : Area) (body : List ℕ) (c : Catalog) → first_body area body ≡ Some c → catalog area (body ∷ []) ≡ Some c
unfolding catalog_from
one_body area body c made = ap (λ o. then_bodies o (λ d. catalog_from d [])) made

from_more : (c : Catalog) (bodies : List (List ℕ)) (body : List ℕ) (d e : Catalog) → catalog_from c bodies ≡ Some d → with_body d body ≡ Some e → catalog_from c (bodies ++ body ∷ []) ≡ Some e
unfolding catalog_from
from_more c [] body d e made more =
    let same : c ≡ d = cc in
    ap (λ o. then_bodies o (λ x. catalog_from x [])) (ap (λ x. with_body x body) same ∙ more)
from_more c (b ∷ bodies) body d e made more =
    elim (with_body c b) as (λ o. then_bodies o (λ x. catalog_from x bodies) ≡ Some d → then_bodies o (λ x. catalog_from x (bodies ++ body ∷ [])) ≡ Some e) [
      | None ↦ λ is. absurd (cc)
      | Some x ↦ λ is. from_more x bodies body d e is more
    ] made

pub one_more : (area : Area) (first : List ℕ) (bodies : List (List ℕ)) (body : List ℕ) (d e : Catalog) → catalog area (first ∷ bodies) ≡ Some d → with_body d body ≡ Some e → catalog area (first ∷ (bodies ++ body ∷ [])) ≡ Some e
one_more area first bodies body d e made more =
    elim (first_body area first) as (λ o. then_bodies o (λ x. catalog_from x bodies) ≡ Some d → then_bodies o (λ x. catalog_from x (bodies ++ body ∷ [])) ≡ Some e) [
      | None ↦ λ is. absurd (cc)
      | Some x ↦ λ is. from_more x bodies body d e is more
    ] made

-- the same of bodies with their places
pub bodies_more : (area : Area) (first : List ℕ) (bodies : List Body) (n : ℕ) (body : Body) (d e : Catalog) → n < length bodies → body ≡ slice_index_or bodies n body
    → catalog area (first ∷ bodies_of (take n bodies)) ≡ Some d → with_body d body.bytes ≡ Some e → catalog area (first ∷ bodies_of (take (n + 1) bodies)) ≡ Some e
bodies_more area first bodies n body d e lt is made more =
    ap (λ bs. catalog area (first ∷ bs)) (ap bodies_of (take_next bodies n body lt is) ∙ map-append (λ (b : Body). b.bytes) (take n bodies) (body ∷ []))
    ∙ one_more area first (bodies_of (take n bodies)) body.bytes d e made more

-- ---- a body that is refused

behind : (area : Area) (first : List ℕ) (before : List (List ℕ)) (c : Catalog) (at : ℕ) (body : List ℕ) (e : OpenError) → catalog area (first ∷ before) ≡ Some c → IsRefusedBehind area c at body e → IsMisfitAt area (first ∷ before) at body e
behind area first before c at body e made refused = ⊎_elim (λ (m : e ≡ open_error.Memory). inl m) (λ (x : (offset : ℕ) × (misfit_of c (record_at body) ≡ Some offset) × (e ≡ misfit_at area at offset)). inr (x.0, (c, made, x.1), x.2)) refused

-- the first is refused, or one behind it
pub first_refused : (area : Area) (all : List Body) (first : Body) (bodies : List Body) (e : OpenError) → all ≡ first ∷ bodies → IsMisfitAt area [] first.at first.bytes e → all ≡ placed_from 0 (bodies_of all) → IsMisfitIn area (bodies_of all) e
first_refused area all first bodies e split refused =
    subst (λ (bs : List Body). bs ≡ placed_from 0 (bodies_of bs) → IsMisfitIn area (bodies_of bs) e) (sym split) (first_misfit area (first ∷ bodies) 0 first e (omega arith) refl refused)

pub later_refused : (area : Area) (all : List Body) (first : Body) (bodies : List Body) (n : ℕ) (body : Body) (c : Catalog) (e : OpenError) → all ≡ first ∷ bodies → n < length bodies → body ≡ slice_index_or bodies n body
    → catalog area (first.bytes ∷ bodies_of (take n bodies)) ≡ Some c → IsRefusedBehind area c body.at body.bytes e → all ≡ placed_from 0 (bodies_of all) → IsMisfitIn area (bodies_of all) e
later_refused area all first bodies n body c e split lt is made refused =
    subst (λ (bs : List Body). bs ≡ placed_from 0 (bodies_of bs) → IsMisfitIn area (bodies_of bs) e) (sym split)
    (first_misfit area (first ∷ bodies) (suc n) body e (omega (arith, lt)) is (behind area first.bytes (bodies_of (take n bodies)) c body.at body.bytes e made refused))
