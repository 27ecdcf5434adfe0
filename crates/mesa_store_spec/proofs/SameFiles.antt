-- References that are the same are equal.
use Rattle.std.proofs.Common.{◌≡◌, ℕ, List, [], ◌∷◌, true, ◌&&◌, ◌==◌, refl, sym}
use Rattle.std.proofs.lemmas.Bool.{and_from, and_parts, eq-eqb, eqb-true}
use lib.Pointwise.{pointwise}
use Rattle.std.specs.Ordering.{int_eq}
use Rattle.std.specs.Cmp.Lexicographic.{same_text}
use Rattle.std.specs.Cmp.Rules.{signed_items}
use Rattle.mesa_history_spec.specs.mesa_list.Bytes.{same_bytes}
use Rattle.mesa_delta_format.specs.mesa_key.declared.Format.{Format}
use Rattle.mesa_delta_format.specs.mesa_key.declared.Format.TheVariants as format
use Rattle.mesa_history_spec.specs.mesa_file.declared.file_ref.FileRef.{FileRef}
use Rattle.mesa_record.specs.declared.record.ViewRef.{ViewRef}
use Rattle.mesa_store_spec.specs.SameFiles.{same_contents, same_counts, same_format, same_ref, same_view, same_views}

format_is : (a b : Format) → same_format a b ≡ true → a ≡ b
format_is format.One format.One e = refl
format_is format.One format.Two e = cc
format_is format.Two format.One e = cc
format_is format.Two format.Two e = refl

ref_is : (a b : FileRef) → same_ref a b ≡ true → a ≡ b
ref_is a b e =
    let both = and_parts (same_counts a b) (same_contents a b) e in
    let blocks = and_parts (same_format a.format b.format && (a.id == b.id) && (a.len == b.len) && (a.rows == b.rows)) (a.blocks == b.blocks) both.0 in
    let rows = and_parts (same_format a.format b.format && (a.id == b.id) && (a.len == b.len)) (a.rows == b.rows) blocks.0 in
    let len = and_parts (same_format a.format b.format && (a.id == b.id)) (a.len == b.len) rows.0 in
    let id = and_parts (same_format a.format b.format) (a.id == b.id) len.0 in
    let digest = and_parts (same_bytes a.first b.first && same_bytes a.last b.last && pointwise int_eq a.aggregates b.aggregates) (same_bytes a.digest b.digest) both.1 in
    let aggregates = and_parts (same_bytes a.first b.first && same_bytes a.last b.last) (pointwise int_eq a.aggregates b.aggregates) digest.0 in
    let keys = and_parts (same_bytes a.first b.first) (same_bytes a.last b.last) aggregates.0 in
    let the_format : a.format ≡ b.format = format_is a.format b.format id.0 in
    let the_id : a.id ≡ b.id = eqb-true a.id b.id id.1 in
    let the_len : a.len ≡ b.len = eqb-true a.len b.len len.1 in
    let the_rows : a.rows ≡ b.rows = eqb-true a.rows b.rows rows.1 in
    let the_blocks : a.blocks ≡ b.blocks = eqb-true a.blocks b.blocks blocks.1 in
    let the_first : a.first ≡ b.first = same_text a.first b.first (sym keys.0) in
    let the_last : a.last ≡ b.last = same_text a.last b.last (sym keys.1) in
    let the_aggregates : a.aggregates ≡ b.aggregates = (signed_items a.aggregates b.aggregates).0 aggregates.1 in
    let the_digest : a.digest ≡ b.digest = same_text a.digest b.digest (sym digest.1) in
    λ i. record {
      format = the_format i;
      id = the_id i;
      len = the_len i;
      rows = the_rows i;
      blocks = the_blocks i;
      first = the_first i;
      last = the_last i;
      aggregates = the_aggregates i;
      digest = the_digest i;
    }

view_is : (a b : ViewRef) → same_view a b ≡ true → a ≡ b
view_is a b e =
    let both = and_parts (a.view == b.view) (same_ref a.file b.file) e in
    let view : a.view ≡ b.view = eqb-true a.view b.view both.0 in
    let file : a.file ≡ b.file = ref_is a.file b.file both.1 in
    λ i. record { view = view i; file = file i }

-- the same view files are equal
pub views_are : (xs ys : List ViewRef) → same_views xs ys ≡ true → xs ≡ ys
views_are [] [] e = refl
views_are [] (y ∷ ys) e = cc
views_are (x ∷ xs) [] e = cc
views_are (x ∷ xs) (y ∷ ys) e =
    let both = and_parts (same_view x y) (same_views xs ys) e in
    λ i. view_is x y both.0 i ∷ views_are xs ys both.1 i

-- ---- and equal ones are the same

format_again : (a : Format) → same_format a a ≡ true
format_again format.One = refl
format_again format.Two = refl

number_again : (n : ℕ) → (n == n) ≡ true
number_again n = eq-eqb n n refl

bytes_again : (xs : List ℕ) → same_bytes xs xs ≡ true
bytes_again [] = refl
bytes_again (x ∷ xs) = and_from (x == x) (same_bytes xs xs) (number_again x) (bytes_again xs)

ref_again : (a : FileRef) → same_ref a a ≡ true
ref_again a =
    and_from (same_counts a a) (same_contents a a)
    (and_from (same_format a.format a.format && (a.id == a.id) && (a.len == a.len) && (a.rows == a.rows)) (a.blocks == a.blocks)
    (and_from (same_format a.format a.format && (a.id == a.id) && (a.len == a.len)) (a.rows == a.rows)
    (and_from (same_format a.format a.format && (a.id == a.id)) (a.len == a.len) (and_from (same_format a.format a.format) (a.id == a.id) (format_again a.format) (number_again a.id)) (number_again a.len))
    (number_again a.rows)) (number_again a.blocks))
    (and_from (same_bytes a.first a.first && same_bytes a.last a.last && pointwise int_eq a.aggregates a.aggregates) (same_bytes a.digest a.digest)
    (and_from (same_bytes a.first a.first && same_bytes a.last a.last) (pointwise int_eq a.aggregates a.aggregates) (and_from (same_bytes a.first a.first) (same_bytes a.last a.last) (bytes_again a.first) (bytes_again a.last)) ((signed_items a.aggregates a.aggregates).1 refl))
    (bytes_again a.digest))

pub views_again : (xs : List ViewRef) → same_views xs xs ≡ true
views_again [] = refl
views_again (x ∷ xs) = and_from (same_view x x) (same_views xs xs) (and_from (x.view == x.view) (same_ref x.file x.file) (number_again x.view) (ref_again x.file)) (views_again xs)
