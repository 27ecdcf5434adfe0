-- Vectors of the format, computed.
use Rattle.std.proofs.Common.{◌≡◌, [], ◌∷◌, refl, true}
use Rattle.std.specs.Prelude.{pos, negsuc, codes}
use Rattle.std.specs.declared.cmp.Ordering.TheVariants.{Less}
use Rattle.mesa_key.specs.declared.KeyValue.TheVariants.{Int, Text}
use Rattle.mesa_key.specs.declared.KeyType.TheVariants as kind
use Rattle.mesa_key.specs.Spelling.{key_spelling, key_of, is_key_text, before_zero}
use Rattle.std.specs.Str.{is_utf8, chars}
use lib.Utf8.{encode}
use Rattle.mesa_key.specs.Order.{byte_cmp}

two : key_spelling (Int (pos 2) ∷ []) ≡ 0x80 ∷ 0 ∷ 0 ∷ 0 ∷ 0 ∷ 0 ∷ 0 ∷ 2 ∷ []
two = refl

minus_one : key_spelling (Int (negsuc 0) ∷ []) ≡ 0x7f ∷ 0xff ∷ 0xff ∷ 0xff ∷ 0xff ∷ 0xff ∷ 0xff ∷ 0xff ∷ []
minus_one = refl

ab : key_spelling (Text (codes "ab") ∷ []) ≡ 0x61 ∷ 0x62 ∷ 0 ∷ []
ab = refl

pair : key_spelling (Int (pos 20140101) ∷ Text (codes "UK") ∷ []) ≡ 0x80 ∷ 0 ∷ 0 ∷ 0 ∷ 0x01 ∷ 0x33 ∷ 0x50 ∷ 0x45 ∷ 0x55 ∷ 0x4b ∷ 0 ∷ []
pair = refl

back : key_of (kind.Int ∷ kind.Text ∷ []) (0x80 ∷ 0 ∷ 0 ∷ 0 ∷ 0x01 ∷ 0x33 ∷ 0x50 ∷ 0x45 ∷ 0x55 ∷ 0x4b ∷ 0 ∷ []) ≡ Int (pos 20140101) ∷ Text (codes "UK") ∷ []
unfolding before_zero
back = refl

order : byte_cmp (key_spelling (Int (negsuc 0) ∷ [])) (key_spelling (Int (pos 2) ∷ [])) ≡ Less
order = refl

text : is_key_text (codes "xy") ≡ true
unfolding is_utf8 chars encode
text = refl
