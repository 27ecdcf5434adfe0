-- Inputs that are lent to parts, and come back.
use Rattle.std.specs.Prelude.{◌≡◌, ◌⊎◌, ℕ, zero, suc, List, Vec, [], ◌∷◌, map, Option, Some, Result, Ok, Err, ⊤}
use Rattle.std.specs.List.{AllByRecursion}
use Rattle.mesa_file.specs.declared.damage.Damage.{Damage}
use Rattle.mesa_compact.specs.mesa_columns.Columns.{Columns}
use Rattle.mesa_delta.specs.declared.error.FileError.TheVariants.{Read}
use Rattle.mesa_merge.specs.Damaged.{IsDamageOf}
use Rattle.mesa_merge.specs.Faults.{HaveFaultCause, faults_of}
use Rattle.mesa_merge.specs.Inputs.{AreInputs, AreTold, Known, knowns_of, lifted_parts}
use Rattle.mesa_open_files.specs.declared.merging.CompactError.{CompactError}
use Rattle.mesa_open_files.specs.declared.merging.CompactError.TheVariants.{File}
use Rattle.mesa_compact.specs.Writing.{IsReadFault}
use Rattle.mesa_split.specs.Parts.{HasPiece}
use Rattle.mesa_split.specs.Split.{IsFailureOf, IsGained}
use Rattle.std.specs.declared.alloc.Global.{Global}
use Rattle.mesa_compact.specs.mesa_columns.declared.rows.Row.{Row}
use Rattle.mesa_delta.specs.declared.error.FileError.{FileError}
use Rattle.mesa_delta.specs.declared.input.Input.{Input}
use Rattle.mesa_open_files.specs.declared.merging.Spare.{Spare}
use Rattle.mesa_split.specs.declared.parts.Part.{Part}

-- all lists of inputs: the first part's, and then each spare's
abbrev pub lists_of : {R : Type 0} → Vec (Input R) Global → List (Spare R) → List (Vec (Input R) Global)
lists_of {R = R} inputs spares = inputs ∷ map (λ (s : Spare R). s.inputs) spares

abbrev pub items_of : {R : Type 0} → List (Vec (Input R) Global) → List (List (Input R))
items_of {R = R} lists = map (λ (v : Vec (Input R) Global). v.items) lists

-- the lists that parts have, and what came of each
abbrev pub lists_in : {R : Type 0} → List (Part R) → List (Vec (Input R) Global)
lists_in {R = R} parts = map (λ (p : Part R). p.inputs) parts

abbrev pub answers_of : {R : Type 0} → List (Part R) → List (Result (List Row) FileError)
answers_of {R = R} parts = map (λ (p : Part R). p.rows) parts

-- The first lists were lent, and are empty meanwhile; the others stay.
abbrev pub AreLent : {R : Type 0} → List (Vec (Input R) Global) → List (Vec (Input R) Global) → List (Vec (Input R) Global) → Type 0
AreLent olds nows [] = nows ≡ olds
AreLent [] nows (l ∷ ls) = ⊥
AreLent (old ∷ olds) [] (l ∷ ls) = ⊥
AreLent (old ∷ olds) (now ∷ nows) (l ∷ ls) = (l ≡ old) × (now.items ≡ []) × AreLent olds nows ls

-- lists with these in the place of the first ones
abbrev pub returned : {R : Type 0} → List (Vec (Input R) Global) → List (Vec (Input R) Global) → List (Vec (Input R) Global)
returned [] ls = []
returned (now ∷ nows) [] = now ∷ nows
returned (now ∷ nows) (l ∷ ls) = l ∷ returned nows ls

-- so many of the first lists are empty
abbrev pub AreEmpty : {R : Type 0} → ℕ → List (Vec (Input R) Global) → Type 0
AreEmpty zero ls = ⊤
AreEmpty (suc n) [] = ⊥
AreEmpty (suc n) (l ∷ ls) = (l.items ≡ []) × AreEmpty n ls

-- what is known of the files of each part
abbrev pub knowns_in : {R : Type 0} → (R → Option (List ℕ)) → List (Part R) → List (List Known)
knowns_in {R = R} bytes parts = map (λ (p : Part R). knowns_of bytes p.inputs.items) parts

-- the counts of faults of the readers of each
abbrev pub counts_in : {R : Type 0} → (R → ℕ) → List (Part R) → List (List ℕ)
counts_in {R = R} faults parts = map (λ (p : Part R). faults_of faults p.inputs.items) parts

-- The inputs of each part may be merged into these columns.
abbrev pub AreReady : {R : Type 0} → (R → Option (List ℕ)) → Columns → List (Part R) → Type 0
AreReady {R = R} bytes s parts = AllByRecursion (λ (p : Part R). AreInputs bytes s p.inputs.items) parts

-- Other inputs tell the rows that these do.
abbrev pub Tells : {R : Type 0} → (R → Option (List ℕ)) → List (Input R) → List (Input R) → Type 0
Tells bytes own other = (contents : List (List Row)) → AreTold (knowns_of bytes own) contents → AreTold (knowns_of bytes other) contents × (lifted_parts (knowns_of bytes other) contents ≡ lifted_parts (knowns_of bytes own) contents)

-- Each part's inputs tell the rows that these do.
abbrev pub AllTell : {R : Type 0} → (R → Option (List ℕ)) → List (Input R) → List (Part R) → Type 0
AllTell {R = R} bytes own parts = AllByRecursion (λ (p : Part R). Tells bytes own p.inputs.items) parts

-- the inputs of the first part
abbrev pub own_in : {R : Type 0} → List (Part R) → List (Input R)
own_in [] = []
own_in (p ∷ ps) = p.inputs.items

-- Parts have merged the next pieces, one each, from this one on.
abbrev pub HavePieces : {R : Type 0} → (R → Option (List ℕ)) → (R → ℕ) → (R → ℕ) → Columns → List (List ℕ) → ℕ → List (Part R) → List (Part R) → Type 0
HavePieces bytes faults size s cuts at [] [] = ⊤
HavePieces bytes faults size s cuts at [] (n ∷ ns) = ⊥
HavePieces bytes faults size s cuts at (o ∷ os) [] = ⊥
HavePieces bytes faults size s cuts at (o ∷ os) (n ∷ ns) = HasPiece bytes faults size s cuts at o.inputs.items n.inputs.items n.rows × HavePieces bytes faults size s cuts (suc at) os ns

-- the counts of each list of inputs moved as its answer says, and those of further lists stay
abbrev pub Moved : List (List ℕ) → List (List ℕ) → List (Result (List Row) FileError) → Type 0
Moved bs ns [] = ns ≡ bs
Moved [] ns (r ∷ rs) = ⊥
Moved (b ∷ bs) [] (r ∷ rs) = ⊥
Moved (b ∷ bs) (n ∷ ns) (r ∷ rs) = HaveFaultCause {T = List Row} {E = FileError} (λ e. e ≡ Read) b n r × Moved bs ns rs

-- Damage of the inputs of one of the parts.
abbrev pub IsDamageIn : {R : Type 0} → (R → Option (List ℕ)) → (R → ℕ) → List (Part R) → Damage → Type 0
IsDamageIn bytes size [] d = ⊥
IsDamageIn bytes size (p ∷ ps) d = IsDamageOf bytes size p.inputs.items d ⊎ IsDamageIn bytes size ps d

-- Why parts didn't go on, by what each of them answered last: all have their rows, and no reader failed; or one has none, and its error is told, a failed read before any other.
abbrev pub IsEndOf : {T : Type 0} → List (Result (List Row) FileError) → Result T CompactError → Type 0
IsEndOf answers (Ok v) = AllByRecursion IsGained answers
IsEndOf answers (Err e) = (AllByRecursion IsGained answers × (IsReadFault e → ⊥)) ⊎ ((f : FileError) × (e ≡ File f) × IsFailureOf answers (Some f))
