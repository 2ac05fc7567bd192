-- A bit more is set, and none is cleared.
use Rattle.std.proofs.Common.{w64, ◌≡◌, ℕ, ◌+◌, ◌*◌, ◌<◌, ◌≤◌, ◌%◌, ◌^◌, List, length, take, set, get_or, sym, ap, ◌∙◌, subst, ⊎_elim}
use Rattle.std.specs.Prelude.{All}
use Rattle.std.specs.Int.{bit_at}
use Rattle.std.specs.Int.RustNames.{bit_or}
use Rattle.std.proofs.lemmas.Bool.{cases_eq}
use Rattle.std.proofs.lemmas.List.{take_all, get_or-set_same, get_or-set_other}
use Rattle.std.proofs.lemmas.List.Elements.{All-more}
use Rattle.std.proofs.lemmas.Nat.Bits.{bit_at_set_same, bit_at_set_other}
use Rattle.cq_base.specs.declared.entry.Entry.{Entry}

-- the bit of a word in a list
abbrev bit_in : List ℕ → ℕ → ℕ → ℕ
bit_in words at bit = bit_at (get_or words at 0) bit

-- the list with the bit of that word set
abbrev with_bit : List ℕ → ℕ → ℕ → List ℕ
with_bit words at bit = set words at (bit_or (get_or words at 0) (1 * 2 ^ bit % 2 ^ 64))

pub bit_set : (words : List ℕ) (at bit : ℕ) → at < length words → bit < 64 → bit_in (with_bit words at bit) at bit ≡ 1
bit_set words at bit within low =
    ap (λ w. bit_at w bit) (get_or-set_same words at (bit_or (get_or words at 0) (1 * 2 ^ bit % 2 ^ 64)) 0 within) ∙ bit_at_set_same w64 (get_or words at 0) bit low

pub bit_stays : (words : List ℕ) (at bit other of : ℕ) → at < length words → bit < 64 → bit_in words other of ≡ 1 → bit_in (with_bit words at bit) other of ≡ 1
bit_stays words at bit other of within low is =
    let value = bit_or (get_or words at 0) (1 * 2 ^ bit % 2 ^ 64) in
    ⊎_elim
    (λ (same : other ≡ at).
    let here : bit_at (get_or words at 0) of ≡ 1 = subst (λ n. bit_in words n of ≡ 1) same is in
    ap (λ n. bit_in (with_bit words at bit) n of) same
    ∙ ap (λ w. bit_at w of) (get_or-set_same words at value 0 within)
    ∙ ⊎_elim
    (λ (e : of ≡ bit). ap (bit_at (bit_or (get_or words at 0) (1 * 2 ^ bit % 2 ^ 64))) e ∙ bit_at_set_same w64 (get_or words at 0) bit low)
    (λ differ. bit_at_set_other w64 (get_or words at 0) bit low of differ ∙ here)
    (cases_eq of bit))
    (λ apart. ap (λ w. bit_at w of) (get_or-set_other words at other value 0 apart) ∙ is)
    (cases_eq other at)

-- the same where the place, the bit and the word that was there come from elsewhere
pub marked_set : (words : List ℕ) (at bit word of value : ℕ) → at ≡ word → bit ≡ of → value ≡ get_or words at 0 → at < length words → bit < 64 →
    bit_at (get_or (set words at (bit_or value (1 * 2 ^ bit % 2 ^ 64))) word 0) of ≡ 1
marked_set words at bit word of value w b v within low =
    ap (λ n. bit_at (get_or (set words at (bit_or value (1 * 2 ^ bit % 2 ^ 64))) n 0) of) (sym w)
    ∙ ap (λ n. bit_at (get_or (set words at (bit_or value (1 * 2 ^ bit % 2 ^ 64))) at 0) n) (sym b)
    ∙ ap (λ n. bit_in (set words at (bit_or n (1 * 2 ^ bit % 2 ^ 64))) at bit) v
    ∙ bit_set words at bit within low

pub marked_stays : (words : List ℕ) (at bit other of value : ℕ) → value ≡ get_or words at 0 → at < length words → bit < 64 → bit_in words other of ≡ 1 →
    bit_at (get_or (set words at (bit_or value (1 * 2 ^ bit % 2 ^ 64))) other 0) of ≡ 1
marked_stays words at bit other of value v within low is =
    ap (λ n. bit_in (set words at (bit_or n (1 * 2 ^ bit % 2 ^ 64))) other of) v ∙ bit_stays words at bit other of within low is

pub marked_more : (words : ℕ → Type 0) (more : ℕ → Type 0) (rows : List Entry) (i : ℕ) (d : Entry) → i < length rows → ((key : ℕ) → words key → more key) → All (λ e. words e.key) (take i rows) → more (get_or rows i d).key → All (λ e. more e.key) (take (i + 1) rows)
marked_more words more rows i d within kept all here = All-more (λ (e : Entry). more e.key) rows i d within (λ k z lt. kept (get_or (take i rows) k z).key (all k z lt)) here

pub marked_all : (marked : ℕ → Type 0) (rows : List Entry) (i : ℕ) → length rows ≤ i → All (λ e. marked e.key) (take i rows) → All (λ e. marked e.key) rows
marked_all marked rows i past all = subst (All (λ (e : Entry). marked e.key)) (take_all i rows past) all
