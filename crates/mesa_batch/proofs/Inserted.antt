-- An entry more in an ordered map.
use Rattle.std.proofs.Common.{◌≡◌, List, [], ◌∷◌, refl, ◌∙◌, ap, Some, None}
use Rattle.std.specs.Prelude.{Bool, true, false, cond}
use Rattle.std.specs.declared.cmp.Ordering.{Ordering}
use Rattle.std.specs.declared.cmp.Ordering.TheVariants.{Less, Equal, Greater}
use Rattle.std.specs.Ordering.{is_eq, match_ordering}
use Rattle.std.specs.Map.{lookup}
use Rattle.std.specs.BTreeMap.{insert_entry, is_at}

-- two tests that don't both pass may be asked in any order
pub either_first : {X : Type 0} (a b : Bool) (x y z : X) → (a ≡ true → b ≡ true → ⊥) → cond b y (cond a x z) ≡ cond a x (cond b y z)
either_first true true x y z apart = absurd (apart refl refl)
either_first true false x y z apart = refl
either_first false true x y z apart = refl
either_first false false x y z apart = refl

-- What a test finds after an entry more, whose key ties with each key that passes where it passes, and with none that is there.
pub lookup-inserted : {K X : Type 0} (cmp : K → K → Ordering) (test : K → Bool) (k : K) (v : X) → ((x : K) → test k ≡ true → test x ≡ true → cmp k x ≡ Equal) → (es : List (K × X))
    → lookup (is_at (cmp k)) es ≡ None → lookup test (insert_entry cmp es k v) ≡ cond (test k) (Some v) (lookup test es)
lookup-inserted cmp test k v ties [] none = refl
lookup-inserted {K} {X} cmp test k v ties (e ∷ es) none =
    elim (cmp k e.0) as (λ o. cmp k e.0 ≡ o → cond (is_eq o) (Some e.1) (lookup (is_at (cmp k)) es) ≡ None
    → lookup test (match_ordering o ((k, v) ∷ e ∷ es) ((e.0, v) ∷ es) (e ∷ insert_entry cmp es k v)) ≡ cond (test k) (Some v) (cond (test e.0) (Some e.1) (lookup test es))) [
      | Less ↦ λ t n. refl
      | Equal ↦ λ t n. absurd (cc)
      | Greater ↦ λ t n.
          let apart : test k ≡ true → test e.0 ≡ true → ⊥ = λ p q. let tied : cmp k e.0 ≡ Equal = ties e.0 p q in cc in
          ap (cond (test e.0) (Some e.1)) (lookup-inserted cmp test k v ties es n) ∙ either_first (test k) (test e.0) (Some v) (Some e.1) (lookup test es) apart
    ] refl none
