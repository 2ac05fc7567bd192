-- What stands at the front of a source, by what was taken of it.
use Rattle.std.proofs.Common.{◌≡◌, ℕ, ◌+◌, ◌<◌, ◌≤◌, List, [], ◌∷◌, ◌++◌, length, take, Option, Some, None, sym, ap, ◌∙◌, subst, append_assoc, arith, length-append, refl}
use Rattle.std.specs.Prelude.{IfSome}
use Rattle.std.specs.Io.KnownBytes.{Consumes}
use Rattle.std.proofs.lemmas.List.{append-nil, take_at}
use Rattle.cq_base.specs.declared.settings.Settings.{Settings}
use Rattle.cq_tokask.specs.Taken.{BeginsOther, HasNoneBehind, IsFramed}
use Rattle.cq_tokfile.specs.declared.snapshot.Snapshot.{Snapshot}
use Rattle.cq_tokform.specs.Reading.{announced, frame_at}
use Rattle.cq_tokfile.specs.Snapshot.{contents_of, IsTokenFile}
use Rattle.cq_tokform.specs.Sound.{IsSoundBody}
use Rattle.cq_tokform.specs.Spelling.{framed, body}
use Rattle.cq_tokform.proofs.Announcing.{front_of, framed_parts, front_length, announces, announced_is}
use Rattle.cq_tokform.proofs.Fields.{IsBytes, one_form}
use Rattle.cq_tokform.proofs.Framed.{frames}

framed_length : (body : List ℕ) → length (framed body) ≡ 16 + length body
framed_length body = ap length (framed_parts body) ∙ length-append (front_of body) body

-- fewer than 16 bytes begin with no frame
pub too_short : (bytes : List ℕ) → length bytes < 16 → BeginsOther bytes
too_short bytes short body rest sound is =
    let all = ap length is in
    let both = length-append (framed body) rest in
    let len = framed_length body in
    omega (arith, short, all, both, len)

-- 16 bytes and what is after them, where a frame begins these
announced_front : (front behind body rest : List ℕ) → length front ≡ 16 → IsSoundBody body → front ++ behind ≡ framed body ++ rest → announced front ≡ Some (length body)
announced_front front behind body rest len sound is =
    let parts : front ++ behind ≡ front_of body ++ (body ++ rest) = is ∙ ap (λ (b : List ℕ). b ++ rest) (framed_parts body) ∙ append_assoc (front_of body) body rest in
    let same : front ≡ front_of body = sym (take_at front behind 16 len) ∙ ap (take 16) parts ∙ take_at (front_of body) (body ++ rest) 16 (front_length body) in
    ap announced same ∙ announces body sound

pub announces_none : (front behind : List ℕ) → length front ≡ 16 → announced front ≡ None → BeginsOther (front ++ behind)
announces_none front behind len none body rest sound is = let found = sym none ∙ announced_front front behind body rest len sound is in absurd cc

-- fewer bytes than announced
pub some_missing : (front behind : List ℕ) (n : ℕ) → length front ≡ 16 → announced front ≡ Some n → length behind < n → BeginsOther (front ++ behind)
some_missing front behind n len told short body rest sound is =
    let found : Some n ≡ Some (length body) = sym told ∙ announced_front front behind body rest len sound is in
    let same : n ≡ length body = cc (found) in
    let all = ap length is in
    let left = length-append front behind in
    let right = length-append (framed body) rest in
    let size = framed_length body in
    omega (arith, short, same, all, left, right, size, len)

pub all_there : (front behind : List ℕ) (n : ℕ) → IsBytes front → length front ≡ 16 → announced front ≡ Some n → length behind ≡ n → IsFramed (front ++ behind)
all_there front behind n fits len told there =
    let is = announced_is front behind fits len (told ∙ ap (λ (k : ℕ). Some k) (sym there)) in
    record { body = behind; sound = is.1; is = ap (λ (b : List ℕ). b ++ behind) is.0 ∙ sym (framed_parts behind) }

-- ---- nothing comes after a body in its frame

no_bytes : (bytes : List ℕ) → length bytes ≡ 0 → bytes ≡ []
no_bytes [] none = refl
no_bytes (b ∷ bytes) none = absurd (omega (arith, none))

-- no more than 16 bytes
pub at_most_head : (bytes : List ℕ) → length bytes ≤ 16 → HasNoneBehind bytes
at_most_head bytes few body rest sound is =
    let all = ap length is in
    let both = length-append (framed body) rest in
    let len = framed_length body in
    no_bytes rest (omega (arith, few, all, both, len))

-- no more than announced
pub at_most_announced : (front behind : List ℕ) (n : ℕ) → length front ≡ 16 → announced front ≡ Some n → length behind ≤ n → HasNoneBehind (front ++ behind)
at_most_announced front behind n len told few body rest sound is =
    let found : Some n ≡ Some (length body) = sym told ∙ announced_front front behind body rest len sound is in
    let same : n ≡ length body = cc (found) in
    let all = ap length is in
    let left = length-append front behind in
    let right = length-append (framed body) rest in
    let size = framed_length body in
    no_bytes rest (omega (arith, few, same, all, left, right, size, len))

-- a body in its frame alone
pub framed_alone : (taken : List ℕ) → IsFramed taken → HasNoneBehind taken
framed_alone taken framed_bytes inside rest sound is =
    let both : framed framed_bytes.body ++ [] ≡ framed inside ++ rest = append-nil (framed framed_bytes.body) ∙ sym framed_bytes.is ∙ is in
    sym (one_form framed IsSoundBody frame_at frames framed_bytes.body inside [] rest framed_bytes.sound sound both).1

-- ---- what a source tells of its front

pub told_of : (P : List ℕ → Type 0) (rest rest_now : Option (List ℕ)) (got : List ℕ) → Consumes rest rest_now got → ((left : List ℕ) → P (got ++ left)) → IfSome rest P
told_of P None rest_now got came each = tt
told_of P (Some xs) None got came each = absurd came
told_of P (Some xs) (Some ys) got came each = subst P (sym came) (each ys)

pub of_known : (rest : Option (List ℕ)) (P Q : List ℕ → Type 0) → ((bytes : List ℕ) → P bytes → Q bytes) → IfSome rest P → IfSome rest Q
of_known None P Q to is = tt
of_known (Some xs) P Q to is = to xs is

-- ---- a token file at the front

pub none_behind_file : {L : Type 0} (set : Settings) (bytes : List ℕ) → HasNoneBehind bytes → (s : Snapshot L) (file behind : List ℕ) → bytes ≡ file ++ behind → IsTokenFile set s file → behind ≡ []
none_behind_file set bytes none s file behind parts of = none (body set (contents_of s)) behind of.fits (parts ∙ ap (λ (b : List ℕ). b ++ behind) of.is)

-- ---- no front is a token file

pub other_is_no_file : {L : Type 0} (set : Settings) (bytes : List ℕ) → BeginsOther bytes → (s : Snapshot L) (file rest : List ℕ) → bytes ≡ file ++ rest → IsTokenFile set s file → ⊥
other_is_no_file set bytes other s file rest parts of = other (body set (contents_of s)) rest of.fits (parts ∙ ap (λ (b : List ℕ). b ++ rest) of.is)

pub framed_is_no_file : {L : Type 0} (set : Settings) (taken left : List ℕ) → IsFramed taken → ((s : Snapshot L) → IsTokenFile set s taken → ⊥) → (s : Snapshot L) (file rest : List ℕ) → taken ++ left ≡ file ++ rest → IsTokenFile set s file → ⊥
framed_is_no_file set taken left framed_bytes none s file rest parts of =
    let inside = body set (contents_of s) in
    let both : framed framed_bytes.body ++ left ≡ framed inside ++ rest = ap (λ (b : List ℕ). b ++ left) (sym framed_bytes.is) ∙ parts ∙ ap (λ (b : List ℕ). b ++ rest) of.is in
    let same = (one_form framed IsSoundBody frame_at frames framed_bytes.body inside left rest framed_bytes.sound of.fits both).0 in
    let file_is : file ≡ taken = of.is ∙ ap framed (sym same) ∙ sym framed_bytes.is in
    none s (subst (IsTokenFile set s) file_is of)
