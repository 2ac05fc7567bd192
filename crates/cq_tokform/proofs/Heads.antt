-- What is read is spelled so, and what is spelled so is read: the head of a body.
use Rattle.std.proofs.Common.{◌≡◌, ℕ, ◌^◌, ◌<◌, ◌≤◌, true, ◌&&◌, eqb, nat_le, List, [], ◌∷◌, ◌++◌, Some, refl, ap, subst, ◌∙◌, arith}
use Rattle.std.specs.Int.{w32, w64, to_be_bytes}
use Rattle.std.proofs.lemmas.Bool.{eqb-true, eq-eqb, leb-true, le-leb}
use Rattle.cq_base.specs.declared.settings.Settings.{Settings}
use Rattle.cq_tokform.specs.declared.head.Head.{Head}
use Rattle.cq_tokform.specs.Spelling.{text, flag, head}
use Rattle.cq_tokform.specs.Sound.{IsSoundText, IsSoundHead, is_sound_head}
use Rattle.cq_tokform.specs.Reading.{byte_at, number_at, text_at, head_at}
use Rattle.cq_tokform.proofs.Fields.{IsBytes, IsReader, Takes, Takes-then, after, if_some, some_is, byte_takes, number32, number64, texts}
use Rattle.cq_tokform.proofs.Records.{both, with_both}

single : IsReader (λ (b : ℕ). b ∷ []) (λ (b : ℕ). Unit {0}) byte_at
single = record { takes = λ bytes x fits e. (byte_takes bytes x fits e, tt); again = λ b rest any. refl }

abbrev HeadTaken : Settings → List ℕ → Head × List ℕ → Type 0
HeadTaken settings bytes x = Takes bytes (head settings x.0) x.1 × IsSoundHead settings x.0

head_takes : (settings : Settings) (bytes : List ℕ) (x : Head × List ℕ) → IsBytes bytes → head_at settings bytes ≡ Some x → HeadTaken settings bytes x
unfolding head_at
head_takes settings bytes x fits e =
    after (HeadTaken settings bytes x) (λ (n : ℕ). to_be_bytes w64 n) (λ (n : ℕ). n < 2 ^ 64) (number_at w64) number64 bytes _ x fits e (λ v b0 t0 s0 e0.
    after (HeadTaken settings bytes x) (λ (n : ℕ). to_be_bytes w32 n) (λ (n : ℕ). n < 2 ^ 32) (number_at w32) number32 b0 _ x t0.rest_fits e0 (λ k b1 t1 s1 e1.
    after (HeadTaken settings bytes x) (λ (b : ℕ). b ∷ []) (λ (b : ℕ). Unit {0}) byte_at single b1 _ x t1.rest_fits e1 (λ i b2 t2 s2 e2.
    after (HeadTaken settings bytes x) (λ (b : ℕ). b ∷ []) (λ (b : ℕ). Unit {0}) byte_at single b2 _ x t2.rest_fits e2 (λ l b3 t3 s3 e3.
    after (HeadTaken settings bytes x) text IsSoundText text_at texts b3 _ x t3.rest_fits e3 (λ p b4 t4 s4 e4.
    let made : Head × List ℕ = (record { version = v; project = p }, b4) in
    let g = if_some (is_sound_head settings v k i l) (Some made) x e4 in
    let c0 = both (nat_le v (2 ^ 60)) (eqb k settings.chunk && (eqb i (flag settings.ignore_ids) && eqb l (flag settings.ignore_lits))) g.0 in
    let c1 = both (eqb k settings.chunk) (eqb i (flag settings.ignore_ids) && eqb l (flag settings.ignore_lits)) c0.1 in
    let c2 = both (eqb i (flag settings.ignore_ids)) (eqb l (flag settings.ignore_lits)) c1.1 in
    let u1 : Takes b0 (to_be_bytes w32 settings.chunk) b1 = subst (λ (n : ℕ). Takes b0 (to_be_bytes w32 n) b1) (eqb-true _ _ c1.0) t1 in
    let u2 : Takes b1 (flag settings.ignore_ids ∷ []) b2 = subst (λ (n : ℕ). Takes b1 (n ∷ []) b2) (eqb-true _ _ c2.0) t2 in
    let u3 : Takes b2 (flag settings.ignore_lits ∷ []) b3 = subst (λ (n : ℕ). Takes b2 (n ∷ []) b3) (eqb-true _ _ c2.1) t3 in
    let w3 = Takes-then b2 (flag settings.ignore_lits ∷ []) b3 (text p) b4 u3 t4 in
    let w2 = Takes-then b1 (flag settings.ignore_ids ∷ []) b2 ((flag settings.ignore_lits ∷ []) ++ text p) b4 u2 w3 in
    let w1 = Takes-then b0 (to_be_bytes w32 settings.chunk) b1 ((flag settings.ignore_ids ∷ []) ++ ((flag settings.ignore_lits ∷ []) ++ text p)) b4 u1 w2 in
    let w0 = Takes-then bytes (to_be_bytes w64 v) b0 (to_be_bytes w32 settings.chunk ++ ((flag settings.ignore_ids ∷ []) ++ ((flag settings.ignore_lits ∷ []) ++ text p))) b4 t0 w1 in
    subst (λ (y : Head × List ℕ). HeadTaken settings bytes y) (some_is made x g.1) (w0, record { chunk = subst (λ (n : ℕ). n < 2 ^ 32) (eqb-true _ _ c1.0) s1; version = leb-true _ _ c0.0; project = s4 }))))))

head_tested : (settings : Settings) (v : ℕ) → v ≤ 2 ^ 60 → is_sound_head settings v settings.chunk (flag settings.ignore_ids) (flag settings.ignore_lits) ≡ true
head_tested settings v le =
    with_both (nat_le v (2 ^ 60)) (eqb settings.chunk settings.chunk && (eqb (flag settings.ignore_ids) (flag settings.ignore_ids) && eqb (flag settings.ignore_lits) (flag settings.ignore_lits))) (le-leb _ _ le)
    (with_both (eqb settings.chunk settings.chunk) (eqb (flag settings.ignore_ids) (flag settings.ignore_ids) && eqb (flag settings.ignore_lits) (flag settings.ignore_lits)) (eq-eqb _ _ refl)
    (with_both (eqb (flag settings.ignore_ids) (flag settings.ignore_ids)) (eqb (flag settings.ignore_lits) (flag settings.ignore_lits)) (eq-eqb _ _ refl) (eq-eqb _ _ refl)))

head_again : (settings : Settings) (h : Head) (rest : List ℕ) → IsSoundHead settings h → head_at settings (head settings h ++ rest) ≡ Some (h, rest)
unfolding head_at
head_again settings h rest sound =
    let version = sound.version in
    let regrouped : head settings h ++ rest ≡ to_be_bytes w64 h.version ++ (to_be_bytes w32 settings.chunk ++ (flag settings.ignore_ids ∷ (flag settings.ignore_lits ∷ (text h.project ++ rest)))) = refl in
    ap (head_at settings) regrouped ∙ rw (number64.again h.version (to_be_bytes w32 settings.chunk ++ (flag settings.ignore_ids ∷ (flag settings.ignore_lits ∷ (text h.project ++ rest)))) (omega (arith, version)), number32.again settings.chunk (flag settings.ignore_ids ∷ (flag settings.ignore_lits ∷ (text h.project ++ rest))) sound.chunk, texts.again h.project rest sound.project, head_tested settings h.version version) refl

pub heads : (settings : Settings) → IsReader (head settings) (IsSoundHead settings) (head_at settings)
heads settings = record { takes = head_takes settings; again = head_again settings }
