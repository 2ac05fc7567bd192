-- The 16 bytes before a body announce its length, and what announces one is its frame.
use Rattle.std.proofs.Common.{◌≡◌, ℕ, ◌≤◌, Bool, true, cond, ltb, List, ◌++◌, length, take, drop, Some, None, refl, sym, ap, ◌∙◌, append_assoc, arith}
use Rattle.std.specs.Int.{w64, from_be_bytes, to_be_bytes}
use Rattle.std.specs.Str.{bytes_eq}
use Rattle.std.proofs.lemmas.Bool.{ltb-false, le-ltb}
use Rattle.std.proofs.lemmas.List.{take_at, drop_at, take-append-drop, length-drop}
use Rattle.std.proofs.lemmas.Nat.{be_bytes_8, from_be_bytes-to_be_bytes_8}
use Rattle.std.proofs.lemmas.Slice.Eq.{bytes_eq-Decides}
use Rattle.cq_tokform.specs.Spelling.{mark, framed}
use Rattle.cq_tokform.specs.Sound.{IsSoundBody}
use Rattle.cq_tokform.specs.Reading.{announced}
use Rattle.cq_tokform.proofs.Fields.{IsBytes, IsBytes-drop, if_some, unless_some, some_is}

-- what stands before a body
abbrev pub front_of : List ℕ → List ℕ
front_of body = mark ++ to_be_bytes w64 (length body)

pub framed_parts : (body : List ℕ) → framed body ≡ front_of body ++ body
framed_parts body = sym (append_assoc mark (to_be_bytes w64 (length body)) body)

pub front_length : (body : List ℕ) → length (front_of body) ≡ 16
front_length body = refl

pub announces : (body : List ℕ) → IsSoundBody body → announced (front_of body) ≡ Some (length body)
announces body sound =
    let len = to_be_bytes w64 (length body) in
    let same : bytes_eq (take 8 (mark ++ len)) mark ≡ true = (bytes_eq-Decides (take 8 (mark ++ len)) mark).1 (take_at mark len 8 refl) in
    let told : from_be_bytes w64 (drop 8 (mark ++ len)) ≡ length body = ap (from_be_bytes w64) (drop_at mark len 8 refl) ∙ from_be_bytes-to_be_bytes_8 (length body) (omega (arith, sound)) in
    ap (λ (b : Bool). cond b (cond (ltb 268435456 (from_be_bytes w64 (drop 8 (mark ++ len)))) None (Some (from_be_bytes w64 (drop 8 (mark ++ len))))) None) same
    ∙ ap (λ (n : ℕ). cond (ltb 268435456 n) None (Some n)) told
    ∙ ap (λ (b : Bool). cond b None (Some (length body))) (le-ltb 268435456 (length body) sound)

-- 16 bytes that announce as many as follow are the front of these
pub announced_is : (bytes body : List ℕ) → IsBytes bytes → length bytes ≡ 16 → announced bytes ≡ Some (length body) → (bytes ≡ front_of body) × IsSoundBody body
announced_is bytes body fits len e =
    let n = from_be_bytes w64 (drop 8 bytes) in
    let g = if_some (bytes_eq (take 8 bytes) mark) (cond (ltb 268435456 n) None (Some n)) (length body) e in
    let h = unless_some (ltb 268435456 n) (Some n) (length body) g.1 in
    let small : n ≤ 268435456 = ltb-false _ _ h.0 in
    let is : n ≡ length body = some_is n (length body) h.1 in
    let begins : take 8 bytes ≡ mark = (bytes_eq-Decides (take 8 bytes) mark).0 g.0 in
    let eight : length (drop 8 bytes) ≡ 8 = (let left = length-drop 8 bytes in omega (arith, left, len)) in
    let back : to_be_bytes w64 n ≡ drop 8 bytes = be_bytes_8 (drop 8 bytes) _ eight (IsBytes-drop 8 bytes fits) refl in (
      sym (take-append-drop 8 bytes) ∙ ap (λ (b : List ℕ). b ++ drop 8 bytes) begins ∙ ap (λ (b : List ℕ). mark ++ b) (sym back ∙ ap (to_be_bytes w64) is),
      omega (arith, is, small),
    )
