-- Queries over a catalogue's tables.
use Rattle.std.proofs.Common.{◌≡◌, ℕ, suc, ◌+◌, List, [], ◌∷◌, map, get_or, refl, sym, ◌∙◌, ap, subst, arith, add-zero, Bool, true, false, cond, Option, Some, None, Ok, Err}
use Rattle.std.specs.Prelude.{find, option_and_then, option_map, position, slice_get, IsOk}
use Rattle.std.specs.List.{position_from}
use Rattle.std.specs.Option.{option_or}
use Rattle.std.proofs.lemmas.Iterator.Adapters.{position_from-zero}
use Rattle.std.proofs.Math.ListN.{get_or-map}
use Rattle.std.proofs.lemmas.List.{length-map}
use Rattle.std.proofs.lemmas.Option.{slice_get-get_or}
use Rattle.mesa_catalog.proofs.mesa_batch.NameNumbers.{position-within}
use Rattle.mesa_list.specs.Bytes.{same_bytes}
use Rattle.mesa_list.specs.Checks.{refused_as}
use Rattle.mesa_catalog.specs.mesa_columns.declared.views.View.{View}
use Rattle.mesa_schema.specs.Changes.{Lineage, epoch_of}
use Rattle.mesa_catalog.specs.mesa_columns.Columns.{Columns, chosen, kinds_of, place_of}
use Rattle.mesa_catalog.specs.mesa_batch.Glance.{Known}
use Rattle.mesa_filter.specs.declared.words.QueryWords.{QueryWords}
use Rattle.mesa_filter.specs.Asked.{asked_of}
use Rattle.mesa_filter.specs.Query.{BuiltQuery, group_kinds, query_of}
use Rattle.mesa_filter.specs.Resume.{resume_prefix}
use Rattle.mesa_model.specs.declared.replies.Refusal.{Refusal}
use Rattle.mesa_model.specs.declared.replies.Page.{Page}
use Rattle.mesa_model.specs.Page.{page_of}
use Rattle.mesa_model.specs.Query.{Answer, answer_rows, query_answer}
use Rattle.mesa_model.specs.Refusals.{no_such_table, query_refusal}
use Rattle.mesa_model.specs.Relations.{Relation, relation_columns, relation_content, relation_from, relation_of}
use Rattle.mesa_model.specs.Warehouse.{Store, Table, Warehouse, no_table, table_at}
use Rattle.mesa_catalog.specs.mesa_store_spec.Catalog.{TableMeta, Catalog, no_meta, meta_at}
use Rattle.mesa_catalog.specs.mesa_catalog_table.declared.relation.Relation.{Relation as Place}
use Rattle.mesa_catalog.specs.Lookups.{known_as}
use Rattle.mesa_catalog.specs.mesa_catalog_records.Names.{relation_from as place_from, relation_of as place_named}
use Rattle.mesa_catalog.specs.mesa_catalog_table.Lookups.{view_names}
use Rattle.mesa_binding.specs.declared.failure.Failure.{Failure}
use Rattle.mesa_binding.specs.Built.{IsBuiltOf}
use Rattle.mesa_binding.specs.Told.{IsDue}
use Rattle.mesa_binding.proofs.Queries.{answered, no_relation, no_version, not_asked, not_built_by}
use Rattle.mesa_validate.specs.Found.{Sees, answer_found, columns_at, relation_seen, relation_with, version_in, without_rows}
use Rattle.mesa_validate.specs.Seen.{known_in, known_of}

-- ---- the first that passes, by its place

found_from : {X : Type 0} (p : X → Bool) (xs all : List X) (i : ℕ) → ((j : ℕ) → slice_get xs j ≡ slice_get all (i + j)) → find p xs ≡ option_and_then (slice_get all) (position_from p i xs)
found_from p [] all i same = refl
found_from p (x ∷ xs) all i same =
    elim (p x) as (λ b. cond b (Some x) (find p xs) ≡ option_and_then (slice_get all) (cond b (Some i) (position_from p (i + 1) xs))) [
      | true ↦ same 0 ∙ ap (slice_get all) (add-zero i)
      | false ↦ found_from p xs all (i + 1) (λ j. same (suc j) ∙ ap (slice_get all) (omega arith))
    ]

-- a view of a name is the one at its place
view_found : (name : List ℕ) (views : List View) → find (λ (v : View). same_bytes name v.name) views ≡ option_and_then (slice_get views) (place_of name (map (λ (v : View). v.name) views))
view_found name views = found_from (λ (v : View). same_bytes name v.name) views views 0 (λ j. ap (slice_get views) (omega arith)) ∙ ap (option_and_then (slice_get views)) (named 0 views)
  where
    named_from : (i : ℕ) (vs : List View) → position_from (λ (v : View). same_bytes name v.name) i vs ≡ position_from (same_bytes name) i (map (λ (v : View). v.name) vs)
    named_from i [] = refl
    named_from i (v ∷ vs) = λ k. cond (same_bytes name v.name) (Some i) (named_from (i + 1) vs k)

    named : (i : ℕ) (vs : List View) → position_from (λ (v : View). same_bytes name v.name) 0 vs ≡ position (same_bytes name) (map (λ (v : View). v.name) vs)
    named i vs = named_from 0 vs ∙ sym (position_from-zero (same_bytes name) (map (λ (v : View). v.name) vs))

-- ---- the relation of a name

-- what a table decides, by whether it has the name and by the place of its view of the name
decided : (number : ℕ) (t : Table) (same : Bool) (o : Option ℕ) (at : ℕ → Table) (rest : Option Relation) (places : Option Place) → at number ≡ t
    → ((i : ℕ) → o ≡ Some i → (v : View) × (slice_get t.lineage.views i ≡ Some v))
    → rest ≡ option_map (λ (p : Place). relation_with (at p.table) p) places
    → elim (cond {A = Option Relation} same (Some (record { number = number; table = t; view = None })) (option_map (λ (v : View). record { number = number; table = t; view = Some v }) (option_and_then (slice_get t.lineage.views) o))) [ None ↦ rest | Some relation ↦ Some relation ]
    ≡ option_map (λ (p : Place). relation_with (at p.table) p) (option_or (cond {A = Option Place} same (Some (record { table = number; view = None })) (option_map (λ (i : ℕ). record { table = number; view = Some i }) o)) places)
decided number t true o at rest places is there e = λ j. Some (record { number = number; table = sym is j; view = None })
decided number t false None at rest places is there e = e
decided number t false (Some i) at rest places is there e =
    let v = there i refl in
    let one : Relation = record { number = number; table = t; view = Some v.0 } in
    let mine : Option Relation → Option Relation = λ o. elim o [ None ↦ rest | Some relation ↦ Some relation ] in
    ap (λ (o : Option View). mine (option_map (λ (x : View). record { number = number; table = t; view = Some x }) o)) v.1
    ∙ ap (λ (o : Option View). Some (record { number = number; table = t; view = o })) (sym v.1)
    ∙ ap (λ (x : Table). Some (relation_with x (record { table = number; view = Some i }))) (sym is)

-- a place that was found is one
place_there : (name : List ℕ) (views : List View) (i : ℕ) → place_of name (map (λ (v : View). v.name) views) ≡ Some i → (v : View) × (slice_get views i ≡ Some v)
place_there name views i e =
    let d : View = record { name = []; keys = []; values = [] } in
    (get_or views i d, slice_get-get_or views i d (omega (arith, position-within (same_bytes name) (map (λ (v : View). v.name) views) i e, length-map views (λ (v : View). v.name))))

relation_by : (number : ℕ) (name : List ℕ) (ts : List Table) (ss : List TableMeta) (at : ℕ → Table) → map known_of ts ≡ map known_as ss → ((j : ℕ) → at (number + j) ≡ get_or ts j no_table)
    → relation_from number name ts ≡ option_map (λ (p : Place). relation_with (at p.table) p) (place_from number name ss)
relation_by number name [] [] at same here = refl
relation_by number name [] (s ∷ ss) at same here = absurd cc
relation_by number name (t ∷ ts) [] at same here = absurd cc
relation_by number name (t ∷ ts) (s ∷ ss) at same here =
    let first : known_of t ≡ known_as s = cc in
    let others : map known_of ts ≡ map known_as ss = cc in
    let names = ap (λ (k : Known). k.name) first in
    let views = ap (λ (k : Known). k.lineage.views) first in
    let rest = relation_by (number + 1) name ts ss at others (λ j. ap at (omega arith) ∙ here (suc j)) in
    let o = place_of name (view_names t.lineage) in
    ap (λ (v : Option View). elim (cond {A = Option Relation} (same_bytes name t.name) (Some (record { number = number; table = t; view = None })) (option_map (λ (v : View). record { number = number; table = t; view = Some v }) v)) [ None ↦ relation_from (number + 1) name ts | Some relation ↦ Some relation ]) (view_found name t.lineage.views)
    ∙ decided number t (same_bytes name t.name) o at (relation_from (number + 1) name ts) (place_from (number + 1) name ss) (ap at (sym (add-zero number)) ∙ here 0) (λ i e. place_there name t.lineage.views i e) rest
    ∙ (λ j. option_map (λ (p : Place). relation_with (at p.table) p) (option_or (cond {A = Option Place} (same_bytes name (names j)) (Some (record { table = number; view = None })) (option_map (λ (i : ℕ). record { table = number; view = Some i }) (place_of name (map (λ (v : View). v.name) (views j))))) (place_from (number + 1) name ss)))

-- the relation of a name in a store that has the catalogue's tables
pub relation_there : (c : Catalog) (s : Store) (name : List ℕ) → known_in s ≡ map known_as c.tables → relation_of s name ≡ option_map (relation_seen s) (place_named c name)
relation_there c s name same = relation_by 0 name s.tables c.tables (λ n. table_at s n) same (λ j. ap (λ n. table_at s n) (omega arith))

-- its columns and its epoch are the catalogue's
known_same : (c : Catalog) (s : Store) (number : ℕ) → known_in s ≡ map known_as c.tables → (table_at s number).lineage ≡ (meta_at c number).lineage
known_same c s number same = ap (λ (k : Known). k.lineage) (sym (get_or-map known_of s.tables number no_table) ∙ ap (λ ks. get_or ks number (known_of no_table)) same ∙ get_or-map known_as c.tables number no_meta)

pub columns_there : (c : Catalog) (s : Store) (p : Place) → known_in s ≡ map known_as c.tables → relation_columns (relation_seen s p) ≡ columns_at c p
columns_there c s p same = ap (λ (l : Lineage). relation_columns (relation_with (record (without_rows (meta_at c p.table)) { lineage = l }) p)) (known_same c s p.table same)

-- ---- a query's steps

-- what was built by these columns and at this epoch was built by those that they are
pub built_at : (s k : Columns) (version epoch n : ℕ) (words : QueryWords) (q : BuiltQuery) → s ≡ k → epoch ≡ n → IsBuiltOf s version epoch words q → IsBuiltOf k q.version n words q
built_at s k version epoch n words q columns same built =
    subst (λ (c : Columns). IsBuiltOf c q.version n words q) columns
    (subst (λ e. IsBuiltOf s q.version e words q) same
    (subst (λ v. IsBuiltOf s v epoch words q) (sym (ap (λ (b : BuiltQuery). b.version) built.parts)) built))

module _ (c : Catalog) (pinned : Option ℕ) (words : QueryWords) (w : Warehouse) (session : ℕ) (s : Sees c pinned words session w) where
  pub nothing_found : place_named c words.relation ≡ None → query_answer w session words ≡ Err no_such_table
  nothing_found none = no_relation w session words s.store s.opened s.asked (relation_there c s.store words.relation s.tables ∙ ap (option_map (relation_seen s.store)) none)

  module _ (p : Place) (found : place_named c words.relation ≡ Some p) where
    relation_is : relation_of s.store words.relation ≡ Some (relation_seen s.store p)
    relation_is = relation_there c s.store words.relation s.tables ∙ ap (option_map (relation_seen s.store)) found

    columns_are : relation_columns (relation_seen s.store p) ≡ columns_at c p
    columns_are = columns_there c s.store p s.tables

    epoch_is : epoch_of (table_at s.store p.table).lineage ≡ epoch_of (meta_at c p.table).lineage
    epoch_is = ap epoch_of (known_same c s.store p.table s.tables)

    pub unasked : (failure : Failure) → IsDue (refused_as query_refusal (asked_of (columns_at c p) words)) failure → IsDue (query_answer w session words) failure
    unasked failure due = not_asked w session words s.store (relation_seen s.store p) failure s.opened s.asked relation_is (subst (λ (k : Columns). IsDue (refused_as query_refusal (asked_of k words)) failure) (sym columns_are) due)

    pub unversioned : (refusal : Refusal) → IsOk (asked_of (columns_at c p) words) → version_in c pinned words.version p.table ≡ Err refusal → query_answer w session words ≡ Err refusal
    unversioned refusal asked none = no_version w session words s.store (relation_seen s.store p) refusal s.opened s.asked relation_is (subst (λ (k : Columns). IsOk (asked_of k words)) (sym columns_are) asked) (s.seen p.table ∙ none)

    pub unbuilt : (v : ℕ) (failure : Failure) → IsOk (asked_of (columns_at c p) words) → version_in c pinned words.version p.table ≡ Ok v → IsDue (refused_as query_refusal (query_of (columns_at c p) words.relation v (epoch_of (meta_at c p.table).lineage) words)) failure → IsDue (query_answer w session words) failure
    unbuilt v failure asked is due =
        not_built_by w session words s.store (relation_seen s.store p) (columns_at c p) v failure s.opened s.asked relation_is (sym columns_are) asked (s.seen p.table ∙ is)
        (subst (λ e. IsDue (refused_as query_refusal (query_of (columns_at c p) words.relation v e words)) failure) (sym epoch_is) due)

    pub built_answer : (q : BuiltQuery) → version_in c pinned words.version p.table ≡ Ok q.version → IsBuiltOf (columns_at c p) q.version (epoch_of (meta_at c p.table).lineage) words q → query_answer w session words ≡ Ok (answer_found s.store (record { relation = p; query = q }))
    built_answer q is made =
        let r = relation_seen s.store p in
        let k = relation_columns r in
        let e = epoch_of r.table.lineage in
        let own : IsBuiltOf k q.version e words q = subst (λ (k : Columns). IsBuiltOf k q.version e words q) (sym columns_are) (subst (λ n. IsBuiltOf (columns_at c p) q.version n words q) (sym epoch_is) made) in
        let limit : q.limit ≡ words.limit = ap (λ (b : BuiltQuery). b.limit) own.parts in
        let page : Answer → Page = λ a. a.page in
        let kinds : chosen q.asked.columns (kinds_of k) ≡ group_kinds q = ap (λ (b : BuiltQuery). chosen q.asked.columns b.kinds) (sym own.parts) in
        let prefix : resume_prefix k words.relation q.version e q.asked.columns ≡ q.prefix = ap (λ (b : BuiltQuery). b.prefix) (sym own.parts) in
        answered w session words s.store r q.asked q.version q.resume s.opened s.asked relation_is own.asked (s.seen p.table ∙ is) own.resume
        ∙ (λ j. Ok (record { page = page_of q.version (sym limit j) q.resume (answer_rows k q.asked (relation_content r q.version)); heading = record { kinds = kinds j; prefix = prefix j } }))
