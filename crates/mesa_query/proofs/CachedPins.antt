-- A pinned query over the same files.
use Rattle.std.proofs.Common.{◌≡◌, ℕ, List, [], ◌++◌, refl, sym, ap, ◌∙◌, vec_len, append-nil}
use Rattle.std.specs.Prelude.{Option, Vec, reverse}
use Rattle.std.specs.declared.alloc.Global.{Global}
use Rattle.std.proofs.lemmas.List.{nil_from_length}
use Rattle.mesa_group_blocks.specs.mesa_open_files.declared.querying.Pinned.{Pinned}
use Rattle.mesa_group_blocks.specs.mesa_open_files.declared.querying.PinnedInput.{PinnedInput}
use Rattle.mesa_query.specs.Same.{AreReadable, AreSameFiles, IsSamePin}
use Rattle.mesa_query.proofs.CachedFiles.{pinned_still}

pub no_items : {X : Type 0} (v : Vec X Global) → vec_len v ≡ 0 → v.items ≡ []
no_items v none = nil_from_length v.items (sym v.ok.0 ∙ none)

-- no file stands behind those with caches
pub none_behind : {X : Type 0} (front : List X) (v : Vec X Global) → vec_len v ≡ 0 → front ++ reverse v.items ≡ front
none_behind front v none = ap (λ xs. front ++ reverse xs) (no_items v none) ∙ append-nil front

abbrev pub with_files : {R : Type 0} → Pinned R → Vec (PinnedInput R) Global → Pinned R
with_files p files = record { query = p.query; version = p.version; view = p.view; at = p.at; inputs = files }

pub same_pin : {R : Type 0} (bytes : R → Option (List ℕ)) (old : Pinned R) (files : Vec (PinnedInput R) Global) → AreSameFiles bytes old.inputs.items files.items → AreReadable bytes files.items → IsSamePin bytes old (with_files old files)
same_pin bytes old files same readable = record {
  rest = refl;
  files = same;
  pinned = λ s is. record { query = is.query; inputs = pinned_still bytes s old.view old.inputs.items files.items same.known same.own is.inputs readable };
}
