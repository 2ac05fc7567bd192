-- What is read is spelled so, and what is spelled so is read: a body in its frame.
use Rattle.std.proofs.Common.{◌≡◌, ℕ, ◌≤◌, Bool, true, false, cond, ltb, List, ◌++◌, length, take, drop, Some, None, refl, sym, ap, subst, ◌∙◌, append_assoc, arith}
use Rattle.std.specs.Int.{w64, to_be_bytes}
use Rattle.std.specs.Str.{bytes_eq}
use Rattle.std.proofs.lemmas.Bool.{ltb-false, le-ltb}
use Rattle.std.proofs.lemmas.List.{take_at, drop_at, take-append-drop, length-append, length-take}
use Rattle.std.proofs.lemmas.Slice.Eq.{bytes_eq-Decides}
use Rattle.cq_tokform.specs.Spelling.{mark, framed}
use Rattle.cq_tokform.specs.Sound.{IsSoundBody}
use Rattle.cq_tokform.specs.Reading.{◌>>=◌, number_at, behind_mark, body_at, frame_at}
use Rattle.cq_tokform.proofs.Fields.{IsBytes, IsBytes-drop, IsReader, Takes, Takes-then, bind_some, unless_some, if_some, some_is, number64}

mark_takes : (bytes rest : List ℕ) → IsBytes bytes → behind_mark bytes ≡ Some rest → Takes bytes mark rest
mark_takes bytes rest fits e =
    let g = unless_some (ltb (length bytes) 8) (cond (bytes_eq (take 8 bytes) mark) (Some (drop 8 bytes)) None) rest e in
    let h = if_some (bytes_eq (take 8 bytes) mark) (Some (drop 8 bytes)) rest g.1 in
    let front : take 8 bytes ≡ mark = (bytes_eq-Decides (take 8 bytes) mark).0 h.0 in
    let parts : bytes ≡ mark ++ drop 8 bytes = sym (take-append-drop 8 bytes) ∙ ap (λ (x : List ℕ). x ++ drop 8 bytes) front in
    subst (λ (r : List ℕ). Takes bytes mark r) (some_is (drop 8 bytes) rest h.1) (record { parts = parts; rest_fits = IsBytes-drop 8 bytes fits })

mark_again : (rest : List ℕ) → behind_mark (mark ++ rest) ≡ Some rest
mark_again rest =
    let long : ltb (length (mark ++ rest)) 8 ≡ false = le-ltb _ _ (omega (arith, length-append mark rest)) in
    let same : bytes_eq (take 8 (mark ++ rest)) mark ≡ true = (bytes_eq-Decides (take 8 (mark ++ rest)) mark).1 (take_at mark rest 8 refl) in
    ap (λ (b : Bool). cond b None (cond (bytes_eq (take 8 (mark ++ rest)) mark) (Some (drop 8 (mark ++ rest))) None)) long
    ∙ ap (λ (b : Bool). cond b (Some (drop 8 (mark ++ rest))) None) same
    ∙ ap (λ (r : List ℕ). Some r) (drop_at mark rest 8 refl)

body_takes : (n : ℕ) (bytes : List ℕ) (x : List ℕ × List ℕ) → IsBytes bytes → body_at n bytes ≡ Some x → Takes bytes x.0 x.1 × (length x.0 ≡ n) × IsSoundBody x.0
body_takes n bytes x fits e =
    let g = unless_some (ltb 268435456 n) (cond (ltb (length bytes) n) None (Some (take n bytes, drop n bytes))) x e in
    let h = unless_some (ltb (length bytes) n) (Some (take n bytes, drop n bytes)) x g.1 in
    let small : n ≤ 268435456 = ltb-false _ _ g.0 in
    let long : n ≤ length bytes = ltb-false _ _ h.0 in
    let len : length (take n bytes) ≡ n = omega (arith, length-take n bytes) in
    subst (λ (y : List ℕ × List ℕ). Takes bytes y.0 y.1 × (length y.0 ≡ n) × IsSoundBody y.0) (some_is (take n bytes, drop n bytes) x h.1)
    (record { parts = sym (take-append-drop n bytes); rest_fits = IsBytes-drop n bytes fits }, len, omega (arith, len, small))

body_again : (body rest : List ℕ) → IsSoundBody body → body_at (length body) (body ++ rest) ≡ Some (body, rest)
body_again body rest sound =
    let small : ltb 268435456 (length body) ≡ false = le-ltb _ _ sound in
    let long : ltb (length (body ++ rest)) (length body) ≡ false = le-ltb _ _ (omega (arith, length-append body rest)) in
    rw (small, long, take_at body rest (length body) refl, drop_at body rest (length body) refl) refl

frame_takes : (bytes : List ℕ) (x : List ℕ × List ℕ) → IsBytes bytes → frame_at bytes ≡ Some x → Takes bytes (framed x.0) x.1 × IsSoundBody x.0
unfolding frame_at
frame_takes bytes x fits e =
    let m = bind_some (behind_mark bytes) (λ rest. number_at w64 rest >>= λ n. body_at n.0 n.1) x e in
    let n = bind_some (number_at w64 m.0) (λ n. body_at n.0 n.1) x m.2 in
    let t0 = mark_takes bytes m.0 fits m.1 in
    let t1 = number64.takes m.0 n.0 t0.rest_fits n.1 in
    let t2 = body_takes n.0.0 n.0.1 x t1.0.rest_fits n.2 in
    let counted : Takes m.0 (to_be_bytes w64 (length x.0)) n.0.1 = subst (λ (k : ℕ). Takes m.0 (to_be_bytes w64 k) n.0.1) (sym t2.1) t1.0 in
    let w1 = Takes-then m.0 (to_be_bytes w64 (length x.0)) n.0.1 x.0 x.1 counted t2.0 in
    (Takes-then bytes mark m.0 (to_be_bytes w64 (length x.0) ++ x.0) x.1 t0 w1, t2.2)

frame_again : (body rest : List ℕ) → IsSoundBody body → frame_at (framed body ++ rest) ≡ Some (body, rest)
unfolding frame_at
frame_again body rest sound =
    let regrouped : framed body ++ rest ≡ mark ++ (to_be_bytes w64 (length body) ++ (body ++ rest)) = append_assoc mark (to_be_bytes w64 (length body) ++ body) rest ∙ ap (λ (y : List ℕ). mark ++ y) (append_assoc (to_be_bytes w64 (length body)) body rest) in
    ap frame_at regrouped ∙ rw (mark_again (to_be_bytes w64 (length body) ++ (body ++ rest)), number64.again (length body) (body ++ rest) (omega (arith, sound)), body_again body rest sound) refl

pub frames : IsReader framed IsSoundBody frame_at
frames = record { takes = frame_takes; again = frame_again }
