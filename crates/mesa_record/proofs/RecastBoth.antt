-- What a recast makes of a table, both ways.
use Rattle.std.proofs.Common.{◌≡◌, ℕ, List, ◌++◌, length, refl, ap, subst, ◌∙◌, append_assoc, Bool, true, false, Ok, Option, Some, None}
use Rattle.std.specs.Prelude.{IsTrue, ◌&&◌}
use Rattle.std.specs.List.{list_all}
use Rattle.mesa_record_fields.proofs.mesa_list.Whole.{both}
use Rattle.mesa_record_fields.specs.declared.edition.Edition.TheVariants.{Fourth}
use Rattle.mesa_record.specs.declared.recasting.RecastBase.{RecastBase}
use Rattle.mesa_record.specs.declared.recasting.Recasting.{Recasting}
use Rattle.mesa_record_fields.specs.Reading.{Left, flag_of, half_at, meaning, names_at, sized_at, word_at}
use Rattle.mesa_record.specs.Reading.{files_if_any_at, recast_base_at, recast_base_if, recast_base_if_any_at, recasting_at, stated_single_at}
use Rattle.mesa_record_fields.specs.Rules.{is_count_of_columns, is_long}
use Rattle.mesa_record.specs.Rules.{FitsSingle, IsTypedRecastBase, IsTypedRecasting, IsTypedSingle, are_recast_columns, are_recast_deltas, is_recast_base, is_recasting, is_stated_single}
use Rattle.mesa_record_fields.specs.Spelling.{counted, flag, half, sized, text, word}
use Rattle.mesa_record.specs.Spelling.{files_if_any, recast_base, recast_base_if_any, recast_columns, recast_deltas, recasting_fields, stated_single}
use Rattle.mesa_record_fields.proofs.Both.{Again, Begins, Found, begins_two, here, of_ok, ok_is, step_of}
use Rattle.mesa_record_fields.proofs.Numbers.{half_again, half_found, one, word_again, word_found}
use Rattle.mesa_record_fields.proofs.Texts.{meaning_again, meaning_found}
use Rattle.mesa_record_fields.proofs.ColumnsBoth.{flag_of_byte, made_again, names_again, names_found}
use Rattle.mesa_record_fields.proofs.FileRefsBoth.{all_true}
use Rattle.mesa_record.proofs.FilesBoth.{files_if_any_again, files_if_any_found, files_if_any_keep, files_if_any_of}
use Rattle.mesa_record.proofs.Room.{all_of, files_if_any_fit, single_fits}
use Rattle.mesa_record.proofs.StatedBoth.{in_four, in_four_again, in_four_found, single_again, single_found, sized_again, sized_found}

-- ---- the base

-- a base within its types that keeps the rules
record IsBase (o : Option RecastBase) : Type 0 where
  pub typed : IsTypedRecastBase o
  pub rules : IsTrue (is_recast_base o)

base_there : (b : RecastBase) → IsBase (Some b) → Again recast_base_at (recast_base b) b
base_there b is at more =
    let b1 = files_if_any Fourth b.files ++ more in
    let r1 = word_again b.to is.typed.0 at b1 in
    let r2 = files_if_any_again Fourth b.files (files_if_any_of Fourth b.files is.typed.1 (files_if_any_fit b.files) is.rules) r1.0 more in
    let flat : recast_base b ++ more ≡ word b.to ++ b1 = append_assoc (word b.to) (files_if_any Fourth b.files) more in
    (r2.0, ap (λ bytes. recast_base_at (here at bytes)) flat ∙ rw (r1.1, r2.1) refl)

base_again : (o : Option RecastBase) → IsBase o → Again recast_base_if_any_at (recast_base_if_any o) o
base_again None is at more = let some = meaning_again flag_of 0 false refl at more in (some.0, rw some.1 refl)
base_again (Some b) is at more =
    let some = meaning_again flag_of 1 true refl at (recast_base b ++ more) in
    let all = made_again recast_base_at Some (recast_base b) b (base_there b is) some.0 more in
    (all.0, rw some.1 all.1)

base_read : Found recast_base_at recast_base (λ b. IsBase (Some b))
base_read l after b bytes h =
    let s1 = step_of (word_at l) _ _ h in
    let f1 = word_found l s1.0.1 s1.0.0 bytes s1.1 in
    let s2 = step_of (files_if_any_at Fourth s1.0.1) _ _ s1.2 in
    let f2 = files_if_any_found Fourth s1.0.1 s2.0.1 s2.0.0 f1.1.rest s2.1 in
    let keep = files_if_any_keep Fourth s2.0.0 f2.0 in
    let made : RecastBase = record { to = s1.0.0; files = s2.0.0 } in
    subst (λ (z : RecastBase × Left). IsBase (Some z.0) × Begins l (recast_base z.0) z.1) (ok_is (made, s2.0.1) (b, after) s2.2)
    (record { typed = (f1.0, keep.0); rules = keep.2 }, begins_two l s1.0.1 s2.0.1 _ _ f1.1 f2.1)

-- the base behind the flag
base_if_found : (some : Bool) (l mid after : Left) (o : Option RecastBase) → Begins l (one (flag some)) mid → recast_base_if some mid ≡ Ok (o, after) → IsBase o × Begins l (recast_base_if_any o) after
base_if_found false l mid after o first h =
    subst (λ (z : Option RecastBase × Left). IsBase z.0 × Begins l (recast_base_if_any z.0) z.1) (of_ok _ (None, mid) (o, after) refl h) (record { typed = tt; rules = refl }, first)
base_if_found true l mid after o first h =
    let s = step_of (recast_base_at mid) _ _ h in
    let g = base_read mid s.0.1 s.0.0 first.rest s.1 in
    subst (λ (z : Option RecastBase × Left). IsBase z.0 × Begins l (recast_base_if_any z.0) z.1) (of_ok _ (Some s.0.0, s.0.1) (o, after) refl s.2) (g.0, begins_two l mid s.0.1 (one 1) (recast_base s.0.0) first g.1)

base_found : Found recast_base_if_any_at recast_base_if_any IsBase
base_found l after o bytes h =
    let s = step_of (meaning flag_of l) _ _ h in
    let g = meaning_found flag_of flag flag_of_byte l s.0.1 s.0.0 bytes s.1 in
    base_if_found s.0.0 l s.0.1 after o g.1 s.2

-- ---- the whole

-- what a recast makes of a table, within its types, that keeps the rules
pub record IsRecasting (r : Recasting) : Type 0 where
  pub typed : IsTypedRecasting r
  pub rules : IsTrue (is_recasting r)

-- six lists in front of a seventh
flat_six : (a b c d e f rest : List ℕ) → ((a ++ (b ++ (c ++ d))) ++ (e ++ f)) ++ rest ≡ a ++ (b ++ (c ++ (d ++ (e ++ (f ++ rest)))))
flat_six a b c d e f rest =
    append_assoc (a ++ (b ++ (c ++ d))) (e ++ f) rest ∙ ap (λ l. (a ++ (b ++ (c ++ d))) ++ l) (append_assoc e f rest)
    ∙ append_assoc a (b ++ (c ++ d)) (e ++ (f ++ rest))
    ∙ ap (λ l. a ++ l) (append_assoc b (c ++ d) (e ++ (f ++ rest)) ∙ ap (λ l. b ++ l) (append_assoc c d (e ++ (f ++ rest))))

pub recasting_again : (r : Recasting) → IsRecasting r → Again recasting_at (recasting_fields r) r
unfolding recasting_at recast_columns recast_deltas
recasting_again r is at more =
    let rules = both (are_recast_columns r) (are_recast_deltas r) is.rules in
    let counts = both (is_count_of_columns (length r.keys)) (is_count_of_columns (length r.values)) rules.0 in
    let deltas = both (is_recast_base r.base) (is_long r.singles && list_all is_stated_single r.singles) rules.1 in
    let typed = is.typed.columns in
    let b5 = sized word (stated_single Fourth) r.singles ++ more in
    let b4 = recast_base_if_any r.base ++ b5 in
    let b3 = counted text r.values ++ b4 in
    let b2 = counted text r.keys ++ b3 in
    let b1 = word r.epoch ++ b2 in
    let r1 = half_again r.table typed.table at b1 in
    let r2 = word_again r.epoch typed.epoch r1.0 b2 in
    let r3 = names_again r.keys (record { all = typed.keys; count = counts.0 }) r2.0 b3 in
    let r4 = names_again r.values (record { all = typed.values; count = counts.1 }) r3.0 b4 in
    let r5 = base_again r.base (record { typed = is.typed.deltas.base; rules = deltas.0 }) r4.0 b5 in
    let r6 = sized_again word_at word in_four (stated_single_at Fourth) (stated_single Fourth) IsTypedSingle is_stated_single (FitsSingle Fourth) in_four_again (single_again Fourth) r.singles
    (record { typed = is.typed.deltas.singles; rules = deltas.1; fits = all_of (FitsSingle Fourth) single_fits r.singles }) r5.0 more in
    let flat : recasting_fields r ++ more ≡ half r.table ++ b1 = flat_six (half r.table) (word r.epoch) (counted text r.keys) (counted text r.values) (recast_base_if_any r.base) (sized word (stated_single Fourth) r.singles) more in
    (r6.0, ap (λ bytes. recasting_at (here at bytes)) flat ∙ rw (r1.1, r2.1, r3.1, r4.1, r5.1, r6.1) refl)

pub recasting_found : Found recasting_at recasting_fields IsRecasting
unfolding recasting_at recast_columns recast_deltas
recasting_found l after r bytes h =
    let s1 = step_of (half_at l) _ _ h in
    let f1 = half_found l s1.0.1 s1.0.0 bytes s1.1 in
    let s2 = step_of (word_at s1.0.1) _ _ s1.2 in
    let f2 = word_found s1.0.1 s2.0.1 s2.0.0 f1.1.rest s2.1 in
    let s3 = step_of (names_at s2.0.1) _ _ s2.2 in
    let f3 = names_found s2.0.1 s3.0.1 s3.0.0 f2.1.rest s3.1 in
    let s4 = step_of (names_at s3.0.1) _ _ s3.2 in
    let f4 = names_found s3.0.1 s4.0.1 s4.0.0 f3.1.rest s4.1 in
    let s5 = step_of (recast_base_if_any_at s4.0.1) _ _ s4.2 in
    let f5 = base_found s4.0.1 s5.0.1 s5.0.0 f4.1.rest s5.1 in
    let s6 = step_of (sized_at word_at (stated_single_at Fourth) s5.0.1) _ _ s5.2 in
    let f6 = sized_found word_at word in_four (stated_single_at Fourth) (stated_single Fourth) IsTypedSingle is_stated_single (FitsSingle Fourth) in_four_found (single_found Fourth) s5.0.1 s6.0.1 s6.0.0 f5.1.rest s6.1 in
    let made : Recasting = record { table = s1.0.0; epoch = s2.0.0; keys = s3.0.0; values = s4.0.0; base = s5.0.0; singles = s6.0.0 } in
    let columns : Begins l (recast_columns made) s4.0.1 = begins_two l s1.0.1 s4.0.1 _ _ f1.1 (begins_two s1.0.1 s2.0.1 s4.0.1 _ _ f2.1 (begins_two s2.0.1 s3.0.1 s4.0.1 _ _ f3.1 f4.1)) in
    let deltas : Begins s4.0.1 (recast_deltas made) s6.0.1 = begins_two s4.0.1 s5.0.1 s6.0.1 _ _ f5.1 f6.1 in
    subst (λ (z : Recasting × Left). IsRecasting z.0 × Begins l (recasting_fields z.0) z.1) (ok_is (made, s6.0.1) (r, after) s6.2) (
      record {
        typed = record { columns = record { table = f1.0; epoch = f2.0; keys = f3.0.all; values = f4.0.all }; deltas = record { base = f5.0.typed; singles = f6.0.typed } };
        rules = all_true (are_recast_columns made) (are_recast_deltas made)
            (all_true (is_count_of_columns (length made.keys)) (is_count_of_columns (length made.values)) f3.0.count f4.0.count)
            (all_true (is_recast_base made.base) (is_long made.singles && list_all is_stated_single made.singles) f5.0.rules f6.0.rules);
      },
      begins_two l s4.0.1 s6.0.1 _ _ columns deltas,
    )
