-- What an append does to the bytes of an area.
use Rattle.std.proofs.Common.{◌≡◌, ◌≢◌, ◌⊎◌, inl, inr, ℕ, ◌+◌, ◌^◌, ◌<◌, List, [], ◌∷◌, ◌++◌, length, get_or, take, drop, refl, sym, ◌∙◌, ap, arith, append_assoc, length-append, take-append-drop}
use Rattle.std.proofs.lemmas.Bool.{cases_eq}
use Rattle.std.proofs.lemmas.List.{append-nil, take_at, drop_at, drop_more}
use Rattle.mesa_disk.specs.Image.{overwritten, Torn}
use Rattle.mesa_journal.specs.Journal.{word, frames, AllFit, Closed, record_bytes}

pub length-word : (n : ℕ) → length (word n) ≡ 4
unfolding word
length-word n = refl

pub frames-push : (bodies : List (List ℕ)) (body : List ℕ) → frames (bodies ++ body ∷ []) ≡ frames bodies ++ 1 ∷ (word (length body) ++ body)
frames-push [] body = append-nil (1 ∷ (word (length body) ++ body))
frames-push (b ∷ bodies) body =
    ap (λ (l : List ℕ). 1 ∷ (word (length b) ++ b ++ l)) (frames-push bodies body)
    ∙ ap (λ (l : List ℕ). 1 ∷ l) (sym (append_assoc (word (length b) ++ b) (frames bodies) (1 ∷ (word (length body) ++ body))))

pub AllFit-push : (bodies : List (List ℕ)) (body : List ℕ) → AllFit bodies → length body < 2 ^ 32 → AllFit (bodies ++ body ∷ [])
AllFit-push [] body fit small = (small, tt)
AllFit-push (b ∷ bodies) body fit small = (fit.0, AllFit-push bodies body fit.1 small)

pub length-frames-push : (bodies : List (List ℕ)) (body : List ℕ) → length (frames (bodies ++ body ∷ [])) ≡ length (frames bodies) + length body + 5
length-frames-push bodies body =
    ap length (frames-push bodies body)
    ∙ length-append (frames bodies) (1 ∷ (word (length body) ++ body))
    ∙ omega (arith, length-append (word (length body)) body, length-word (length body))

pub length-record_bytes : (body : List ℕ) → length (record_bytes body) ≡ length body + 5
length-record_bytes body = omega (arith, length-append (word (length body) ++ body) (0 ∷ []), length-append (word (length body)) body, length-word (length body))

-- the bodies, and behind a gate another record with a closed gate behind it
pub record Staged (area : List ℕ) (bodies : List (List ℕ)) (end : ℕ) (body : List ℕ) : Type 0 where
  pub gate : ℕ
  pub rest : List ℕ
  pub split : area ≡ frames bodies ++ gate ∷ (record_bytes body ++ rest)
  pub fit : AllFit bodies
  pub ends : end ≡ length (frames bodies)

module _ (bodies : List (List ℕ)) (end : ℕ) where
  front : (area : List ℕ) (closed : Closed area bodies end) → take (end + 1) area ≡ frames bodies ++ closed.gate ∷ []
  front area closed =
      ap (λ (l : List ℕ). take (end + 1) l) (closed.split ∙ sym (append_assoc (frames bodies) (closed.gate ∷ []) closed.rest))
      ∙ take_at (frames bodies ++ closed.gate ∷ []) closed.rest (end + 1) (omega (arith, length-append (frames bodies) (closed.gate ∷ []), closed.ends))

  -- what is behind the gate doesn't matter
  pub closed_torn : (n : ℕ) (old new : List ℕ) → Closed old bodies end → Torn (end + 1) n old new → Closed new bodies end
  closed_torn n old new closed torn = record {
    gate = closed.gate;
    rest = drop (end + 1) new;
    shut = closed.shut;
    split = sym (take-append-drop (end + 1) new) ∙ ap (λ (l : List ℕ). l ++ drop (end + 1) new) (torn.before ∙ front old closed) ∙ append_assoc (frames bodies) (closed.gate ∷ []) (drop (end + 1) new);
    fit = closed.fit;
    ends = closed.ends;
  }

  pub closed_written : (body old new : List ℕ) → Closed old bodies end → new ≡ overwritten (end + 1) (record_bytes body) old → Staged new bodies end body
  closed_written body old new closed is =
      let rest = drop (end + 1 + length (record_bytes body)) old in
      record {
        gate = closed.gate;
        rest = rest;
        split = is ∙ ap (λ (l : List ℕ). l ++ record_bytes body ++ rest) (front old closed)
            ∙ append_assoc (frames bodies ++ closed.gate ∷ []) (record_bytes body) rest
            ∙ append_assoc (frames bodies) (closed.gate ∷ []) (record_bytes body ++ rest);
        fit = closed.fit;
        ends = closed.ends;
      }

  module _ (body : List ℕ) where
    before_gate : (area : List ℕ) (staged : Staged area bodies end body) → take end area ≡ frames bodies
    before_gate area staged = ap (λ (l : List ℕ). take end l) staged.split ∙ take_at (frames bodies) (staged.gate ∷ (record_bytes body ++ staged.rest)) end (sym staged.ends)

    behind_gate : (area : List ℕ) (staged : Staged area bodies end body) → drop (end + 1) area ≡ record_bytes body ++ staged.rest
    behind_gate area staged =
        ap (λ (l : List ℕ). drop (end + 1) l) (staged.split ∙ sym (append_assoc (frames bodies) (staged.gate ∷ []) (record_bytes body ++ staged.rest)))
        ∙ drop_at (frames bodies ++ staged.gate ∷ []) (record_bytes body ++ staged.rest) (end + 1) (omega (arith, length-append (frames bodies) (staged.gate ∷ []), staged.ends))

    longer : (area : List ℕ) (staged : Staged area bodies end body) → end < length area
    longer area staged = omega (arith, ap length staged.split, length-append (frames bodies) (staged.gate ∷ (record_bytes body ++ staged.rest)), staged.ends)

    pub staged_torn : (old new : List ℕ) → Staged old bodies end body → Torn end 1 old new → Staged new bodies end body
    staged_torn old new staged torn =
        let gate = get_or new end 0 in
        let rest : drop end new ≡ gate ∷ (record_bytes body ++ staged.rest) =
        drop_more new end 0 (omega (arith, longer old staged, torn.no_shorter)) ∙ ap (λ (l : List ℕ). gate ∷ l) (torn.after ∙ behind_gate old staged) in
        record {
          gate = gate;
          rest = staged.rest;
          split = sym (take-append-drop end new) ∙ ap (λ (l : List ℕ). l ++ drop end new) (torn.before ∙ before_gate old staged) ∙ ap (λ (l : List ℕ). frames bodies ++ l) rest;
          fit = staged.fit;
          ends = staged.ends;
        }

    -- the record counts, where its gate is open
    pub staged_open : (area : List ℕ) (staged : Staged area bodies end body) → length body < 2 ^ 32 → staged.gate ≡ 1 → Closed area (bodies ++ body ∷ []) (end + length body + 5)
    staged_open area staged small is_open = record {
      gate = 0;
      rest = staged.rest;
      shut = omega arith;
      split = staged.split
          ∙ ap (λ (g : ℕ). frames bodies ++ g ∷ (record_bytes body ++ staged.rest)) is_open
          ∙ ap (λ (l : List ℕ). frames bodies ++ 1 ∷ l) (append_assoc (word (length body) ++ body) (0 ∷ []) staged.rest)
          ∙ sym (append_assoc (frames bodies) (1 ∷ (word (length body) ++ body)) (0 ∷ staged.rest))
          ∙ ap (λ (l : List ℕ). l ++ 0 ∷ staged.rest) (sym (frames-push bodies body));
      fit = AllFit-push bodies body staged.fit small;
      ends = omega (arith, staged.ends, length-frames-push bodies body);
    }

    pub staged_shut : (area : List ℕ) (staged : Staged area bodies end body) → staged.gate ≢ 1 → Closed area bodies end
    staged_shut area staged shut = record {
      gate = staged.gate;
      rest = record_bytes body ++ staged.rest;
      shut = shut;
      split = staged.split;
      fit = staged.fit;
      ends = staged.ends;
    }

    pub staged_either : (area : List ℕ) → Staged area bodies end body → length body < 2 ^ 32 → Closed area bodies end ⊎ Closed area (bodies ++ body ∷ []) (end + length body + 5)
    staged_either area staged small = elim (cases_eq staged.gate 1) [
      | inl is_open ↦ inr (staged_open area staged small is_open)
      | inr shut ↦ inl (staged_shut area staged shut)
    ]

    pub staged_written : (old new : List ℕ) → Staged old bodies end body → length body < 2 ^ 32 → new ≡ overwritten end (1 ∷ []) old → Closed new (bodies ++ body ∷ []) (end + length body + 5)
    staged_written old new staged small is =
        let opened : Staged new bodies end body = record {
          gate = 1;
          rest = staged.rest;
          split = is
              ∙ ap (λ (l : List ℕ). l ++ (1 ∷ []) ++ drop (end + 1) old) (before_gate old staged)
              ∙ ap (λ (l : List ℕ). frames bodies ++ (1 ∷ []) ++ l) (behind_gate old staged)
              ∙ append_assoc (frames bodies) (1 ∷ []) (record_bytes body ++ staged.rest);
          fit = staged.fit;
          ends = staged.ends;
        } in
        staged_open new opened small refl
