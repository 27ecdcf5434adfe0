-- What one changed view leaves as it was.
use Rattle.std.proofs.Common.{◌≡◌, ◌≢◌, ℕ, zero, suc, ◌+◌, ◌<◌, ◌≤◌, List, [], ◌∷◌, ◌++◌, length, set, refl, sym, ap, ◌∙◌, subst, inl, inr, ◌⊎◌, ⊎_elim, arith, Some}
use mathlib.Core.Logic.{dite}
use native.Mathlib.Decide.{ℕ_discrete}
use mathlib.Core.Option.{some-injective, some-ne-none}
use Rattle.atomic_table.proofs.Lists.{at_set, set_else}
use Rattle.mesa_turn.specs.declared.view.View.{View}
use Rattle.mesa_turn.specs.Rule.{Apart, At, Holder, Knower, rooms, ticket_of}
use Rattle.mesa_turn.proofs.Names.{apart_back}

pub one_view : (views : List View) (i : ℕ) (v u : View) → At views i v → At views i u → v ≡ u
one_view views i v u a b = some-injective v u (sym a ∙ b)

pub set_at : (views : List View) (id : ℕ) (v w : View) → At views id v → At (set views id w) id w
set_at [] id v w at = absurd (some-ne-none v (sym at))
set_at (x ∷ xs) zero v w at = refl
set_at (x ∷ xs) (suc id) v w at = set_at xs id v w at

-- a changed view keeps what each view has
pub each_set : (P : View → Type 0) (views : List View) (id : ℕ) (w : View) → P w → ((i : ℕ) (v : View) → i ≢ id → At views i v → P v) → (i : ℕ) (v : View) → At (set views id w) i v → P v
each_set P views id w mine others i v at = ⊎_elim (λ (t : (i ≡ id) × (w ≡ v)). subst P t.1 mine) (λ (t : (i ≢ id) × At views i v). others i v t.0 t.1) (at_set views id i w v at)

pub views_apart_back : (v w : View) → Apart v w → Apart w v
views_apart_back v w a = record {
  names = apart_back v.names w.names a.names;
  tickets = λ t h k. a.tickets t k h;
}

-- two views stay apart where the changed one is apart from the others
pub apart_set : (views : List View) (id : ℕ) (w : View) → ((i j : ℕ) (v u : View) → i ≢ j → At views i v → At views j u → Apart v u) → ((i : ℕ) (v : View) → i ≢ id → At views i v → Apart w v)
    → (i j : ℕ) (v u : View) → i ≢ j → At (set views id w) i v → At (set views id w) j u → Apart v u
apart_set views id w all new i j v u ne vi uj =
    ⊎_elim (λ (t : (i ≡ id) × (w ≡ v)).
    ⊎_elim (λ (q : (j ≡ id) × (w ≡ u)). absurd (ne (t.0 ∙ sym q.0)))
    (λ (q : (j ≢ id) × At views j u). subst (λ x. Apart x u) t.1 (new j u q.0 q.1)) (at_set views id j w u uj))
    (λ (t : (i ≢ id) × At views i v).
    ⊎_elim (λ (q : (j ≡ id) × (w ≡ u)). subst (Apart v) q.1 (views_apart_back w v (new i v t.0 t.1)))
    (λ (q : (j ≢ id) × At views j u). all i j v u ne t.1 q.1) (at_set views id j w u uj))
    (at_set views id i w v vi)

-- a ticket that the changed view keeps, or that another view has, stays in flight
pub flight_keeps : (views : List View) (id : ℕ) (v w : View) (t : ℕ) → At views id v → (ticket_of v.turn ≡ Some t → ticket_of w.turn ≡ Some t) → Holder views t → Holder (set views id w) t
flight_keeps views id v w t at same h = dite (ℕ_discrete h.0 id)
    (λ e. (id, w, set_at views id v w at, same (ap (λ (u : View). ticket_of u.turn) (one_view views id v h.1 at (subst (λ i. At views i h.1) e h.2)) ∙ h.3)))
    (λ ne. (h.0, h.1, set_else views id h.0 w ne ∙ h.2, h.3))

-- a list that the changed view has seen too, or that another view has seen, stays known
pub knower_keeps : (views : List View) (id : ℕ) (v w : View) (log : List ℕ) → At views id v → (v.seen ≡ log → w.seen ≡ log) → Knower views log → Knower (set views id w) log
knower_keeps views id v w log at same h = dite (ℕ_discrete h.0 id)
    (λ e. (id, w, set_at views id v w at, same (ap (λ (u : View). u.seen) (one_view views id v h.1 at (subst (λ i. At views i h.1) e h.2)) ∙ h.3)))
    (λ ne. (h.0, h.1, set_else views id h.0 w ne ∙ h.2, h.3))

pub rooms_set : (views : List View) (id : ℕ) (v w : View) → At views id v → rooms (set views id w) + v.room ≡ rooms views + w.room
rooms_set [] id v w at = absurd (some-ne-none v (sym at))
rooms_set (x ∷ xs) zero v w at = let e : x.room ≡ v.room = ap (λ (u : View). u.room) (some-injective x v at) in omega arith
rooms_set (x ∷ xs) (suc id) v w at = let h = rooms_set xs id v w at in omega arith

pub rooms_at : (views : List View) (id : ℕ) (v : View) → At views id v → v.room ≤ rooms views
rooms_at [] id v at = absurd (some-ne-none v (sym at))
rooms_at (x ∷ xs) zero v at = let e : x.room ≡ v.room = ap (λ (u : View). u.room) (some-injective x v at) in omega arith
rooms_at (x ∷ xs) (suc id) v at = let h = rooms_at xs id v at in omega arith

pub rooms_snoc : (views : List View) (w : View) → rooms (views ++ w ∷ []) ≡ rooms views + w.room
rooms_snoc [] w = omega arith
rooms_snoc (x ∷ xs) w = let h = rooms_snoc xs w in omega arith

-- a list with one view more at its end
pub at_end : (l : List View) (w : View) (j : ℕ) (b : View) → At (l ++ w ∷ []) j b → (At l j b × (j < length l)) ⊎ ((w ≡ b) × (j ≡ length l))
at_end [] w zero b e = inr (some-injective w b e, refl)
at_end [] w (suc j) b e = absurd (some-ne-none b (sym e))
at_end (x ∷ xs) w zero b e = inl (e, omega arith)
at_end (x ∷ xs) w (suc j) b e = ⊎_elim (λ (t : At xs j b × (j < length xs)). inl (t.0, (let lt = t.1 in omega arith))) (λ (t : (w ≡ b) × (j ≡ length xs)). inr (t.0, ap suc t.1)) (at_end xs w j b e)

pub set_swap : (l : List View) (i j : ℕ) (a b : View) → i ≢ j → set (set l i a) j b ≡ set (set l j b) i a
set_swap [] i j a b ne = refl
set_swap (x ∷ xs) zero zero a b ne = absurd (ne refl)
set_swap (x ∷ xs) zero (suc j) a b ne = refl
set_swap (x ∷ xs) (suc i) zero a b ne = refl
set_swap (x ∷ xs) (suc i) (suc j) a b ne = ap (λ l. x ∷ l) (set_swap xs i j a b (λ e. ne (ap suc e)))

pub set_twice : (l : List View) (i : ℕ) (a b : View) → set (set l i a) i b ≡ set l i b
set_twice [] i a b = refl
set_twice (x ∷ xs) zero a b = refl
set_twice (x ∷ xs) (suc i) a b = ap (λ l. x ∷ l) (set_twice xs i a b)

-- a view that is set, then another, and then the first again
pub spent_there : (l : List View) (i j : ℕ) (a x b : View) → (j ≡ i → ⊥) → set (set (set l j x) i a) j b ≡ set (set l i a) j b
spent_there l i j a x b ne = ap (λ m. set m j b) (set_swap l j i x a ne) ∙ set_twice (set l i a) j x b

-- the one view of a new table
pub one_there : (i : ℕ) (v u : View) (P : View → Type 0) → At (v ∷ []) i u → P v → P u
one_there zero v u P a h = subst P (some-injective v u a) h
one_there (suc i) v u P a h = absurd (some-ne-none u (sym a))

pub none_but : (i : ℕ) (v u : View) → At (v ∷ []) i u → i ≡ 0
none_but zero v u a = refl
none_but (suc i) v u a = absurd (some-ne-none u (sym a))
