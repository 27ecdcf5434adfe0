-- The file of one row, computed: 103 bytes, with the SHA-256 of its block.
use Rattle.std.proofs.Common.{◌≡◌, ℕ, List, [], ◌∷◌, ◌++◌, refl, length, ◌∙◌, ap}
use Rattle.std.specs.Prelude.{pos, codes}
use Rattle.sha2.specs.Sha256.{sha256, first_words, schedule, rounds, compress, hash_after, digest_bytes}
use Rattle.mesa_delta_format.specs.mesa_value.declared.Agg.TheVariants.{Sum}
use Rattle.mesa_delta_format.specs.mesa_key.declared.Format.TheVariants as format
use Rattle.mesa_delta_format.specs.mesa_key.declared.KeyType.TheVariants as kind
use Rattle.mesa_delta_format.specs.mesa_columns.declared.rows.Row.{Row}
use Rattle.mesa_delta_format.specs.mesa_block.Layout.{Layout}
use Rattle.mesa_delta_format.specs.mesa_block.Spelling.{block}
use Rattle.mesa_delta_format.specs.File.{file_bytes}

abbrev one_schema : Layout
one_schema = record { format = format.One; columns = record { keys = record { name = codes "k"; kind = kind.Int } ∷ []; values = record { name = codes "v"; agg = Sum } ∷ [] } }

-- key 1, value 5
abbrev one_row : List Row
one_row = record { key = 0x80 ∷ 0 ∷ 0 ∷ 0 ∷ 0 ∷ 0 ∷ 0 ∷ 1 ∷ []; values = pos 5 ∷ [] } ∷ []

abbrev one_block : List ℕ
one_block = 0 ∷ 0 ∷ 1 ∷ 0x80 ∷ 0 ∷ 0 ∷ 0 ∷ 0 ∷ 0 ∷ 0 ∷ 1 ∷ 0 ∷ 0 ∷ 0 ∷ 0 ∷ 0 ∷ 0 ∷ 0 ∷ 5 ∷ []

abbrev short : List ℕ
short = 0x80 ∷ 0 ∷ 0 ∷ 0 ∷ 0 ∷ 0 ∷ 0 ∷ 1 ∷ 0 ∷ 0 ∷ 0 ∷ 0 ∷ 0 ∷ 0 ∷ 0 ∷ 0 ∷ []

abbrev foot_bytes : List ℕ
foot_bytes = 0 ∷ 0 ∷ 0 ∷ 0 ∷ 0 ∷ 0 ∷ 0 ∷ 0 ∷ 0 ∷ 1 ∷ 0 ∷ 0 ∷ 0 ∷ 1 ∷ 1 ∷ 1 ∷ 0x4d ∷ 0x45 ∷ 0x53 ∷ 0x41 ∷ 0x44 ∷ 0x4c ∷ 0x54 ∷ 0x31 ∷ []

-- with the digest's name
one_named : file_bytes one_schema one_row ≡ one_block ++ ((short ++ (0 ∷ 0 ∷ 0 ∷ 0 ∷ 0 ∷ 0 ∷ 0 ∷ 0 ∷ 0 ∷ 0 ∷ 0 ∷ 19 ∷ [] ++ sha256 one_block)) ++ [] ++ foot_bytes)
unfolding block
one_named = refl

abbrev one_digest : List ℕ
one_digest = 203 ∷ 67 ∷ 254 ∷ 254 ∷ 55 ∷ 84 ∷ 230 ∷ 198 ∷ 84 ∷ 125 ∷ 181 ∷ 212 ∷ 239 ∷ 64 ∷ 215 ∷ 52 ∷ 100 ∷ 147 ∷ 35 ∷ 235 ∷ 84 ∷ 218 ∷ 181 ∷ 125 ∷ 32 ∷ 47 ∷ 24 ∷ 237 ∷ 180 ∷ 26 ∷ 30 ∷ 254 ∷ []

digest_is : sha256 one_block ≡ one_digest
unfolding first_words schedule rounds compress hash_after digest_bytes sha256
digest_is = refl

one_file : file_bytes one_schema one_row ≡ one_block ++ (short ++ (0 ∷ 0 ∷ 0 ∷ 0 ∷ 0 ∷ 0 ∷ 0 ∷ 0 ∷ 0 ∷ 0 ∷ 0 ∷ 19 ∷ one_digest)) ++ foot_bytes
one_file = one_named ∙ ap (λ d. one_block ++ ((short ++ (0 ∷ 0 ∷ 0 ∷ 0 ∷ 0 ∷ 0 ∷ 0 ∷ 0 ∷ 0 ∷ 0 ∷ 0 ∷ 19 ∷ d)) ++ [] ++ foot_bytes)) digest_is

one_long : length (file_bytes one_schema one_row) ≡ 103
one_long = ap length one_file

-- ---- in format 2: 111 bytes

abbrev wide_schema : Layout
wide_schema = record one_schema { format = format.Two }

abbrev wide_block : List ℕ
wide_block = 0 ∷ 0 ∷ 1 ∷ 0x80 ∷ 0 ∷ 0 ∷ 0 ∷ 0 ∷ 0 ∷ 0 ∷ 1 ∷ 0 ∷ 0 ∷ 0 ∷ 0 ∷ 0 ∷ 0 ∷ 0 ∷ 0 ∷ 0 ∷ 0 ∷ 0 ∷ 0 ∷ 0 ∷ 0 ∷ 0 ∷ 5 ∷ []

abbrev wide_foot : List ℕ
wide_foot = 0 ∷ 0 ∷ 0 ∷ 0 ∷ 0 ∷ 0 ∷ 0 ∷ 0 ∷ 0 ∷ 1 ∷ 0 ∷ 0 ∷ 0 ∷ 1 ∷ 1 ∷ 1 ∷ 0x4d ∷ 0x45 ∷ 0x53 ∷ 0x41 ∷ 0x44 ∷ 0x4c ∷ 0x54 ∷ 0x32 ∷ []

wide_named : file_bytes wide_schema one_row ≡ wide_block ++ ((short ++ (0 ∷ 0 ∷ 0 ∷ 0 ∷ 0 ∷ 0 ∷ 0 ∷ 0 ∷ 0 ∷ 0 ∷ 0 ∷ 27 ∷ [] ++ sha256 wide_block)) ++ [] ++ wide_foot)
unfolding block
wide_named = refl

abbrev wide_digest : List ℕ
wide_digest = 59 ∷ 103 ∷ 161 ∷ 157 ∷ 110 ∷ 16 ∷ 159 ∷ 86 ∷ 153 ∷ 69 ∷ 92 ∷ 123 ∷ 135 ∷ 158 ∷ 42 ∷ 172 ∷ 156 ∷ 35 ∷ 155 ∷ 197 ∷ 100 ∷ 162 ∷ 148 ∷ 215 ∷ 52 ∷ 23 ∷ 77 ∷ 174 ∷ 190 ∷ 32 ∷ 202 ∷ 148 ∷ []

wide_digest_is : sha256 wide_block ≡ wide_digest
unfolding first_words schedule rounds compress hash_after digest_bytes sha256
wide_digest_is = refl

wide_file : file_bytes wide_schema one_row ≡ wide_block ++ (short ++ (0 ∷ 0 ∷ 0 ∷ 0 ∷ 0 ∷ 0 ∷ 0 ∷ 0 ∷ 0 ∷ 0 ∷ 0 ∷ 27 ∷ wide_digest)) ++ wide_foot
wide_file = wide_named ∙ ap (λ d. wide_block ++ ((short ++ (0 ∷ 0 ∷ 0 ∷ 0 ∷ 0 ∷ 0 ∷ 0 ∷ 0 ∷ 0 ∷ 0 ∷ 0 ∷ 27 ∷ d)) ++ [] ++ wide_foot)) wide_digest_is

wide_long : length (file_bytes wide_schema one_row) ≡ 111
wide_long = ap length wide_file
