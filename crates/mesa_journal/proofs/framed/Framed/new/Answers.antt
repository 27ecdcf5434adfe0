use Rattle.std.proofs.Common.{◌≡◌, ◌<◌, ◌^◌, ◌-◌, ◌∷◌, [], ◌++◌, length, ℕ, List, take, drop, sym, subst, ◌∙◌, ap, arith, rules, append_assoc}
use Rattle.std.proofs.lemmas.List.{take_at, drop_at}
use Rattle.mesa_disk.specs.mesa_key.Spelling.{AreBytes}
use Rattle.mesa_journal.specs.Journal.{word, record_bytes, body_of_frame}
use Rattle.mesa_journal.proofs.Bytes.{length-record_bytes, length-word}
use Rattle.mesa_journal.proofs.framed.Framed.new.Goals as goal

pub body_of_frame-frame : (body : List ℕ) → body_of_frame (1 ∷ record_bytes body) ≡ body
body_of_frame-frame body =
    let frame = 1 ∷ record_bytes body in
    ap (λ (l : List ℕ). take (length frame - 6) l)
    (ap (λ (l : List ℕ). drop 5 (1 ∷ l)) (append_assoc (word (length body)) body (0 ∷ []))
    ∙ drop_at (1 ∷ word (length body)) (body ++ 0 ∷ []) 5 (omega (arith, length-word (length body))))
    ∙ take_at body (0 ∷ []) (length frame - 6) (omega (arith, length-record_bytes body))

pub is_frame : (items body : List ℕ) → items ≡ 1 ∷ record_bytes body → length body < 2 ^ 32 → AreBytes body
    → (items ≡ 1 ∷ record_bytes (body_of_frame items)) × (length (body_of_frame items) < 2 ^ 32) × AreBytes (body_of_frame items)
is_frame items body is small bytes =
    let same : body_of_frame items ≡ body = ap body_of_frame is ∙ body_of_frame-frame body in
    (is ∙ ap (λ (l : List ℕ). 1 ∷ record_bytes l) (sym same), omega (arith, ap length same), subst AreBytes (sym same) bytes)

pub invariant_of-result : goal.invariant_of-result
unfolding word
invariant_of-result c =
    let items : c.push-2.new.self.items ≡ 1 ∷ record_bytes c.args.body.now = search rules in
    let small : length c.args.body.now < 2 ^ 32 = search rules in
    is_frame _ _ items small (λ i. let h = c.type_inv.body i in omega arith)
