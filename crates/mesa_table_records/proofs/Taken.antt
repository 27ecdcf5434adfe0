-- Changes and views that are taken in one after the other.
use Rattle.std.proofs.Common.{◌≡◌, ℕ, ◌+◌, ◌≤◌, suc, List, [], ◌∷◌, ◌++◌, length, map, append_assoc, sym, ◌∙◌, ap, arith, Bool, true, false}
use Rattle.std.specs.Prelude.{◌&&◌, is_ok}
use Rattle.std.specs.List.{list_all, range_with_len}
use Rattle.std.proofs.lemmas.List.{append-nil, length_push, map_push}
use Rattle.mesa_catalog_table.specs.mesa_columns.declared.changes.Change.{Change}
use Rattle.mesa_catalog_table.specs.mesa_columns.Columns.{Columns}
use Rattle.mesa_catalog_table.specs.mesa_columns.Changes.{changed}
use Rattle.mesa_schema.specs.Changes.{Lineage, columns_at, columns_of, epoch_of, max_changes, rule_checked, with_change}
use Rattle.mesa_schema.proofs.PresentRows.{columns_more}
use Rattle.mesa_catalog_table.specs.mesa_store_spec.CheckpointFits.{changes_pass, plain}
use Rattle.mesa_table_records.proofs.Restored.{counts_changed, rule_alone}

-- ---- one change of those that are left

pub change_passes : (l m : Lineage) (c : Change) (left rest : List Change) (whole : Bool) → l.views ≡ [] → left ≡ c ∷ rest → is_ok (rule_checked l c) ≡ true → m ≡ with_change l c
    → changes_pass (columns_of l) left ≡ whole → changes_pass (columns_of m) rest ≡ whole
change_passes l m c left rest whole none is rule same all =
    let alone : is_ok (rule_checked (plain (columns_of l)) c) ≡ true = ap is_ok (sym (rule_alone l c none)) ∙ rule in
    let now : columns_of m ≡ changed (columns_of l) c = ap columns_of same ∙ columns_more l c in
    ap (λ (s : Columns). changes_pass s rest) now
    ∙ sym (ap (λ b. b && changes_pass (changed (columns_of l) c) rest) alone)
    ∙ sym (ap (changes_pass (columns_of l)) is) ∙ all

-- the columns once a change more was taken in
pub lineage_on : (first l m : Lineage) (c : Change) → l ≡ record first { changes = l.changes } → m ≡ with_change l c → m ≡ record first { changes = m.changes }
lineage_on first l m c is same =
    let more : m.changes ≡ l.changes ++ c ∷ [] = ap (λ (x : Lineage). x.changes) same in
    same ∙ (λ i. record { begins = (is i).begins; first = (is i).first; changes = sym more i; views = (is i).views })

pub changes_on : (l m : Lineage) (c : Change) (left rest whole : List Change) → m ≡ with_change l c → left ≡ c ∷ rest → l.changes ++ left ≡ whole → m.changes ++ rest ≡ whole
changes_on l m c left rest whole same is all =
    ap (λ (x : Lineage). x.changes ++ rest) same ∙ append_assoc l.changes (c ∷ []) rest ∙ ap (λ cs. l.changes ++ cs) (sym is) ∙ all

pub few_on : (l m : Lineage) (c : Change) (left rest : List Change) → m ≡ with_change l c → left ≡ c ∷ rest → epoch_of l + length left ≤ max_changes → epoch_of m + length rest ≤ max_changes
few_on l m c left rest same is few =
    let now : epoch_of m ≡ l.begins + length (l.changes ++ c ∷ []) = ap epoch_of same in
    let more : length (l.changes ++ c ∷ []) ≡ length l.changes + 1 = length_push l.changes c in
    let one : length left ≡ suc (length rest) = ap length is in
    omega (arith, few, now, more, one)

-- what is counted of each epoch, with that of a change more
pub counts_on : (f : Columns → ℕ) (l m : Lineage) (c : Change) (old new : List ℕ) → m ≡ with_change l c → old ≡ map (λ e. f (columns_at l e)) (range_with_len 0 (epoch_of l + 1)) → new ≡ old ++ f (columns_of m) ∷ []
    → new ≡ map (λ e. f (columns_at m e)) (range_with_len 0 (epoch_of m + 1))
counts_on f l m c old new same had more =
    more ∙ (λ i. had i ++ f (columns_of (same i)) ∷ []) ∙ sym (counts_changed f l c) ∙ ap (λ (x : Lineage). map (λ e. f (columns_at x e)) (range_with_len 0 (epoch_of x + 1))) (sym same)

-- ---- one of those that are left

pub first_passes : {X : Type 0} (p : X → Bool) (x : X) (left rest : List X) (whole : Bool) → left ≡ x ∷ rest → p x ≡ true → list_all p left ≡ whole → list_all p rest ≡ whole
first_passes p x left rest whole is passes all = sym (ap (λ b. b && list_all p rest) passes) ∙ sym (ap (list_all p) is) ∙ all

pub first_fails : {X : Type 0} (p : X → Bool) (x : X) (left rest : List X) (whole : Bool) → left ≡ x ∷ rest → p x ≡ false → list_all p left ≡ whole → whole ≡ false
first_fails p x left rest whole is fails all = sym all ∙ ap (list_all p) is ∙ ap (λ b. b && list_all p rest) fails

-- what is made of one more, and what is left
pub moved_on : {X Y Z : Type 0} (f : X → Z) (g : Y → Z) (old new : List X) (x : X) (left rest : List Y) (y : Y) (whole : List Z) → left ≡ y ∷ rest → new ≡ old ++ x ∷ [] → f x ≡ g y
    → map f old ++ map g left ≡ whole → map f new ++ map g rest ≡ whole
moved_on f g old new x left rest y whole is more same all =
    ap (λ xs. map f xs ++ map g rest) more ∙ ap (λ zs. zs ++ map g rest) (map_push f old x) ∙ append_assoc (map f old) (f x ∷ []) (map g rest)
    ∙ ap (λ z. map f old ++ z ∷ map g rest) same ∙ ap (λ ys. map f old ++ map g ys) (sym is) ∙ all

-- and where nothing is left
pub moved_all : {X Y Z : Type 0} (f : X → Z) (g : Y → Z) (made : List X) (left : List Y) (whole : List Z) → left ≡ [] → map f made ++ map g left ≡ whole → map f made ≡ whole
moved_all f g made left whole none all = sym (append-nil (map f made)) ∙ ap (λ ys. map f made ++ map g ys) (sym none) ∙ all
