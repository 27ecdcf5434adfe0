-- Versions that tables let go.
use Rattle.std.proofs.Common.{◌≡◌, ◌∙◌, ◌<◌, ◌+◌, ◌++◌, ◌∷◌, [], ℕ, List, ap, append-nil, append_assoc, arith, drop, get_or, length, map, set, sym, take}
use Rattle.std.proofs.lemmas.List.{drop-set-lt, drop_all, drop_more, map-append, take_all, take_more_set}
use Rattle.mesa_table_records.specs.mesa_store_spec.Catalog.{TableMeta, meta_from}
use Rattle.mesa_table_records.specs.mesa_catalog_table.declared.table.Table.{Table}
use Rattle.mesa_table_records.specs.mesa_catalog_table.Meaning.{meta_of}

pub expired_step : (version next i : ℕ) (tables : List Table) (d t : Table) (whole : List TableMeta) → i < length tables → meta_of next t ≡ meta_from version (meta_of next (get_or tables i d))
    → map (meta_of next) (take i tables) ++ map (meta_from version) (map (meta_of next) (drop i tables)) ≡ whole
    → map (meta_of next) (take (i + 1) (set tables i t)) ++ map (meta_from version) (map (meta_of next) (drop (i + 1) (set tables i t))) ≡ whole
expired_step version next i tables d t whole lt is before =
    rw (take_more_set tables i t lt, drop-set-lt (i + 1) tables i t (omega arith))
    (ap (λ ss. ss ++ map (meta_from version) (map (meta_of next) (drop (i + 1) tables))) (map-append (meta_of next) (take i tables) (t ∷ []))
    ∙ append_assoc (map (meta_of next) (take i tables)) (meta_of next t ∷ []) (map (meta_from version) (map (meta_of next) (drop (i + 1) tables)))
    ∙ ap (λ s. map (meta_of next) (take i tables) ++ s ∷ map (meta_from version) (map (meta_of next) (drop (i + 1) tables))) is
    ∙ ap (λ ts. map (meta_of next) (take i tables) ++ map (meta_from version) (map (meta_of next) ts)) (sym (drop_more tables i d lt))
    ∙ before)

pub expired_all : (version next i : ℕ) (tables : List Table) (whole : List TableMeta) → length tables ≡ i
    → map (meta_of next) (take i tables) ++ map (meta_from version) (map (meta_of next) (drop i tables)) ≡ whole → map (meta_of next) tables ≡ whole
expired_all version next i tables whole long before =
    sym (append-nil (map (meta_of next) tables))
    ∙ (λ j. map (meta_of next) (sym (take_all i tables (omega (arith, long))) j) ++ map (meta_from version) (map (meta_of next) (sym (drop_all i tables (omega (arith, long))) j)))
    ∙ before
