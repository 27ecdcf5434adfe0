-- What a result has.
use Rattle.std.proofs.Common.{◌≡◌, ℕ, List, refl, sym, ◌∙◌, subst}
use Rattle.std.specs.Prelude.{Result, Ok, Err, IfOk, IfErr}
use Rattle.mesa_file.specs.declared.damage.Damage.{Damage}
use Rattle.mesa_delta.specs.declared.error.FileError.TheVariants.{Memory}
use Rattle.mesa_open_files.specs.declared.merging.CompactError.{CompactError}
use Rattle.mesa_open_files.specs.declared.merging.CompactError.TheVariants.{File}
use Rattle.mesa_compact.specs.Writing.{HasCauses, damaged_by}
use Rattle.mesa_compact.proofs.Causing.{caused_memory, caused_ok}

-- from four things that it has
pub four_map : {T E : Type 0} (r : Result T E) (P Q S U V : T → Type 0) → ((x : T) → P x → Q x → S x → U x → V x) → IfOk r P → IfOk r Q → IfOk r S → IfOk r U → IfOk r V
four_map (Ok x) P Q S U V f p q s u = f x p q s u
four_map (Err e) P Q S U V f p q s u = tt

-- of one that is Ok, or for which there is no memory, the counts stay
pub caused_none : {T : Type 0} (IsTold : Damage → Type 0) (a : ℕ) (us vs : List ℕ) (r : Result T CompactError) → IfErr r (λ e. e ≡ File Memory) → vs ≡ us → HasCauses a a us vs IsTold r
caused_none IsTold a us vs (Ok v) h stays = caused_ok IsTold a a us vs v refl stays
caused_none {T = T} IsTold a us vs (Err e) h stays = subst (λ (x : CompactError). HasCauses {T = T} a a us vs IsTold (Err x)) (sym h) (caused_memory {T = T} IsTold a a us vs refl stays)

-- and it tells no damage
pub none_told : {T : Type 0} (r : Result T CompactError) (P : Damage → Type 0) → IfErr r (λ e. e ≡ File Memory) → IfErr r (λ e. (d : Damage) → e ≡ damaged_by d → P d)
none_told (Ok v) P h = tt
none_told (Err e) P h = λ d is. absurd (let both : File Memory ≡ damaged_by d = sym h ∙ is in cc)
