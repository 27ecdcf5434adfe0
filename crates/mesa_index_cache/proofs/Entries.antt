-- Indexes that are looked up, kept and forgotten.
use Rattle.std.proofs.Common.{◌≡◌, ◌≢◌, ◌⊎◌, inl, inr, ℕ, Bool, true, false, cond, Option, Some, None, Result, Ok, Err, OnOk, OnErr, refl, sym, ◌∙◌, ap}
use Rattle.std.proofs.lemmas.Bool.{false≢true}
use Rattle.std.proofs.lemmas.Option.{none-some, same_Some}
use Rattle.std.specs.Option.{option_map}
use Rattle.std.specs.BTreeMap.{IsUnchanged, Updates}
use Rattle.std.specs.Cmp.{nat_cmp_total, eq_by_cmp_equiv}
use Rattle.std.specs.FinMap.{nat_cmp-IsAntisymmetric}
use Rattle.std.specs.Map.{lookup}
use Rattle.std.specs.Ordering.{is_eq, nat_cmp}
use Rattle.std.specs.declared.cmp.Ordering.TheVariants.{Less, Equal, Greater}
use Rattle.mesa_open_files.specs.mesa_delta_format.Indexed.{Indexed}
use Rattle.mesa_index_cache.specs.Kept.{AreWith, AreWithout, index_in, kept_at}
use Rattle.mesa_index_cache.specs.declared.indexes.Indexes.{Indexes}
use Rattle.mesa_index_cache.specs.declared.kept.Kept.{Kept}

tied : (k q : ℕ) → is_eq (nat_cmp k q) ≡ true → k ≡ q
tied k q =
    elim (nat_cmp k q) as (λ r. nat_cmp k q ≡ r → is_eq r ≡ true → k ≡ q) [
      | Less ↦ λ e un. absurd (false≢true un)
      | Equal ↦ λ e yes. nat_cmp-IsAntisymmetric k q e
      | Greater ↦ λ e un. absurd (false≢true un)
    ] refl

apart : (k q : ℕ) → is_eq (nat_cmp k q) ≡ false → q ≢ k
apart k q other same = false≢true (sym other ∙ ap (λ n. is_eq (nat_cmp k n)) same ∙ (eq_by_cmp_equiv nat_cmp_total).refl k)

put : (b : Bool) (k q : ℕ) (v : Kept) (o : Option Kept) (x : Indexed) → (b ≡ true → k ≡ q) → option_map index_in (cond b (Some v) o) ≡ Some x → (option_map index_in o ≡ Some x) ⊎ ((q ≡ k) × (x ≡ index_in v))
put true k q v o x at is = inr (sym (at refl), sym (same_Some (index_in v) x is))
put false k q v o x at is = inl is

taken : (b : Bool) (k q : ℕ) (o : Option Kept) (x : Indexed) → (b ≡ false → q ≢ k) → option_map index_in (cond b None o) ≡ Some x → (option_map index_in o ≡ Some x) × (q ≢ k)
taken true k q o x at is = absurd (none-some x is)
taken false k q o x at is = (is, at refl)

pub put_with : (old new : Indexes) (k : ℕ) (v : Kept) → ((q : ℕ) → kept_at q new ≡ cond (is_eq (nat_cmp k q)) (Some v) (kept_at q old)) → AreWith k (index_in v) new old
put_with old new k v is q x kept = put (is_eq (nat_cmp k q)) k q v (kept_at q old) x (tied k q) (sym (ap (option_map index_in) (is q)) ∙ kept)

pub taken_without : (old new : Indexes) (k : ℕ) → ((q : ℕ) → kept_at q new ≡ cond (is_eq (nat_cmp k q)) None (kept_at q old)) → AreWithout k new old
taken_without old new k is q x kept = taken (is_eq (nat_cmp k q)) k q (kept_at q old) x (apart k q) (sym (ap (option_map index_in) (is q)) ∙ kept)

-- an index that was put where there was memory for it
pub kept_with : {V E : Type 0} (r : Result V E) (old new : Indexes) (k : ℕ) (v : Kept) → OnOk r (Updates nat_cmp old.by_file new.by_file k (Some v)) → OnErr r (IsUnchanged old.by_file new.by_file) → AreWith k (index_in v) new old
kept_with (Ok o) old new k v put same = put_with old new k v put.0
kept_with (Err e) old new k v put same = λ q x kept. inl (ap (λ es. option_map index_in (lookup (λ (n : ℕ). is_eq (nat_cmp q n)) es)) (sym same) ∙ kept)
