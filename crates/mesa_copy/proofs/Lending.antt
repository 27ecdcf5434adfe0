-- An input that is lent to be regrouped, and comes back.
use Rattle.std.proofs.Common.{◌≡◌, ℕ, ◌<◌, List, [], ◌∷◌, ◌++◌, length, refl, sym, ◌∙◌, ap, subst, arith}
use Rattle.std.specs.Prelude.{Option, Result}
use Rattle.mesa_compact.specs.mesa_columns.declared.rows.Row.{Row}
use Rattle.mesa_schema.specs.Changes.{columns_of}
use Rattle.mesa_compact.specs.mesa_columns.Columns.{Columns}
use Rattle.mesa_open_files.specs.mesa_fold.Folded.{grouped}
use Rattle.mesa_schema.specs.Recasts.{Recast}
use Rattle.mesa_delta.specs.declared.input.Input.{Input}
use Rattle.mesa_compact.specs.mesa_answer.Answering.{grouped_columns}
use Rattle.mesa_file.specs.declared.damage.Damage.{Damage}
use Rattle.mesa_compact.specs.mesa_merge.Faults.{faults_of}
use Rattle.mesa_compact.specs.mesa_merge.Inputs.{known_of, knowns_of}
use Rattle.mesa_open_files.specs.Made.{Content}
use Rattle.mesa_open_files.specs.Recasts.{recast_content}
use Rattle.mesa_open_files.specs.declared.merging.CompactError.{CompactError}
use Rattle.mesa_compact.specs.Regrouped.{IsRegroupDamage}
use Rattle.mesa_compact.specs.Writing.{HasCauses}
use Rattle.mesa_copy.specs.Renewals.{IsRenewal, columns_in}
use Rattle.mesa_copy.specs.declared.renewal.Renewal.{Renewal}

-- what comes back is one input, the same
pub one_popped : {R : Type 0} (bytes : R → Option (List ℕ)) (inputs front : List (Input R)) (last input : Input R) → inputs ≡ front ++ last ∷ [] → knowns_of bytes inputs ≡ known_of bytes input ∷ [] → (front ≡ []) × (known_of bytes last ≡ known_of bytes input)
one_popped bytes inputs [] last input is known = (refl, (let one : known_of bytes last ∷ [] ≡ known_of bytes input ∷ [] = sym (ap (knowns_of bytes) is) ∙ known in cc))
one_popped bytes inputs (x ∷ []) last input is known = absurd (let two : known_of bytes x ∷ known_of bytes last ∷ [] ≡ known_of bytes input ∷ [] = sym (ap (knowns_of bytes) is) ∙ known in cc)
one_popped bytes inputs (x ∷ y ∷ front) last input is known = absurd (let two : known_of bytes x ∷ known_of bytes y ∷ knowns_of bytes (front ++ last ∷ []) ≡ known_of bytes input ∷ [] = sym (ap (knowns_of bytes) is) ∙ known in cc)

-- one comes back
pub some_back : {R : Type 0} (bytes : R → Option (List ℕ)) (inputs : List (Input R)) (input : Input R) → knowns_of bytes inputs ≡ known_of bytes input ∷ [] → 0 < length inputs
some_back bytes [] input known = absurd cc
some_back bytes (x ∷ inputs) input known = omega arith

-- the recast's columns are those of the groups
pub renewed_is : (r : Recast) (x : Renewal) (present renewed : Columns) (columns values : List ℕ) → IsRenewal r x → present ≡ columns_in x → renewed ≡ columns_of x.renewed → columns ≡ x.columns.items → values ≡ x.values.items → renewed ≡ grouped_columns present columns values
renewed_is r x present renewed columns values is p e c v = e ∙ is.renewed ∙ (λ i. grouped_columns (sym p i) ((sym is.columns ∙ sym c) i) ((sym is.values ∙ sym v) i))

abbrev content : Columns → List Row → Content
content s rows = record { columns = s; rows = rows }

-- and the groups are the recast's content
pub content_is : (r : Recast) (x : Renewal) (present renewed : Columns) (columns values : List ℕ) (rows : List Row) → IsRenewal r x → present ≡ columns_in x → renewed ≡ columns_of x.renewed → columns ≡ x.columns.items → values ≡ x.values.items
    → content renewed (grouped present columns values rows) ≡ recast_content (columns_in x) r rows
content_is r x present renewed columns values rows is p e c v = λ i. content ((e ∙ is.renewed) i) (grouped (p i) ((c ∙ is.columns) i) ((v ∙ is.values) i) rows)

-- What the causes of a regrouped range speak of.
record Setting (R : Type 0) : Type 0 where
  before : List (Input R)
  after : List (Input R)
  schema : Columns
  columns : List ℕ
  values : List ℕ

abbrev setting : {R : Type 0} → List (Input R) → List (Input R) → Columns → List ℕ → List ℕ → Setting R
setting is ks s columns values = record { before = is; after = ks; schema = s; columns = columns; values = values }

-- they are told of what was lent
pub caused_here : {R T : Type 0} (faults : R → ℕ) (bytes : R → Option (List ℕ)) (size : R → ℕ) (a b : ℕ) (is js ks ls : List (Input R)) (s t : Columns) (columns places values others : List ℕ) (result : Result T CompactError)
    → is ≡ js → ks ≡ ls → s ≡ t → columns ≡ places → values ≡ others
    → HasCauses a b (faults_of faults is) (faults_of faults ks) (IsRegroupDamage bytes size s columns values ks) result → HasCauses a b (faults_of faults js) (faults_of faults ls) (IsRegroupDamage bytes size t places others ls) result
caused_here {R = R} faults bytes size a b is js ks ls s t columns places values others result p q e c v h =
    let same : setting is ks s columns values ≡ setting js ls t places others = λ i. setting (p i) (q i) (e i) (c i) (v i) in
    subst (λ (x : Setting R). HasCauses a b (faults_of faults x.before) (faults_of faults x.after) (IsRegroupDamage bytes size x.schema x.columns x.values x.after) result) same h

-- so is damage
pub told_here : {R : Type 0} (bytes : R → Option (List ℕ)) (size : R → ℕ) (s t : Columns) (columns places values others : List ℕ) (is : List (Input R)) (d : Damage) → s ≡ t → columns ≡ places → values ≡ others → IsRegroupDamage bytes size s columns values is d → IsRegroupDamage bytes size t places others is d
told_here {R = R} bytes size s t columns places values others is d e c v h =
    let same : setting is is s columns values ≡ setting is is t places others = λ i. setting is is (e i) (c i) (v i) in
    subst (λ (x : Setting R). IsRegroupDamage bytes size x.schema x.columns x.values is d) same h
