-- The ids of drafts, one after the other.
use Rattle.std.proofs.Common.{◌≡◌, ℕ, zero, suc, ◌+◌, ◌*◌, ◌^◌, ◌%◌, ◌<◌, refl, arith}
use Rattle.mesa_file.specs.Serials.{AreSerials, Drafts, after_drafts, drawn}

-- a draft changes neither the run nor the session
run_after : (n : ℕ) (d : Drafts) → (after_drafts n d).run ≡ d.run
run_after zero d = refl
run_after (suc n) d = run_after n d

session_after : (n : ℕ) (d : Drafts) → (after_drafts n d).session ≡ d.session
session_after zero d = refl
session_after (suc n) d = session_after n d

-- serial numbers are counted modulo 2^32
serial_after : (n : ℕ) (d : Drafts) → d.next < 2 ^ 32 → (after_drafts n d).next ≡ (d.next + n) % 2 ^ 32
serial_after zero d low = omega arith
serial_after (suc n) d low = let before = serial_after n d low in omega (arith, before)

-- the parts of an id are told by it
parts_told : (r s n q t m : ℕ) → s < 2 ^ 8 → n < 2 ^ 32 → t < 2 ^ 8 → m < 2 ^ 32 → r * 2 ^ 40 + s * 2 ^ 32 + n ≡ q * 2 ^ 40 + t * 2 ^ 32 + m → (r ≡ q) × (s ≡ t) × (n ≡ m)
parts_told r s n q t m s8 n32 t8 m32 same = (omega arith, omega arith, omega arith)

ids_told : (d e : Drafts) (i j : ℕ) → AreSerials d → AreSerials e → drawn (after_drafts i d) ≡ drawn (after_drafts j e) → (d.run ≡ e.run) × (d.session ≡ e.session) × ((d.next + i) % 2 ^ 32 ≡ (e.next + j) % 2 ^ 32)
ids_told d e i j a b same =
    let r = run_after i d in
    let q = run_after j e in
    let s = session_after i d in
    let t = session_after j e in
    let n = serial_after i d a.next in
    let m = serial_after j e b.next in
    let told = parts_told d.run d.session ((d.next + i) % 2 ^ 32) e.run e.session ((e.next + j) % 2 ^ 32) a.session (omega arith) b.session (omega arith) (omega (arith, r, q, s, t, n, m, same)) in
    told

-- no two drafts of a session have one id, until serial numbers come again
pub own_differ : (d : Drafts) (i n : ℕ) → AreSerials d → 0 < n → n < 2 ^ 32 → drawn (after_drafts (i + n) d) ≡ drawn (after_drafts i d) → ⊥
own_differ d i n a some few same = let told = ids_told d d (i + n) i a a same in omega (arith, told.2)

-- nor do two of two sessions or runs
pub others_differ : (d e : Drafts) (i j : ℕ) → AreSerials d → AreSerials e → drawn (after_drafts i d) ≡ drawn (after_drafts j e) → (d.run ≡ e.run) × (d.session ≡ e.session)
others_differ d e i j a b same = let told = ids_told d e i j a b same in (told.0, told.1)
