-- The keys of files, as the lists by an index want them.
use Rattle.std.proofs.Common.{◌≡◌, ℕ, zero, suc, ◌+◌, ◌-◌, ◌<◌, ◌≤◌, List, [], ◌∷◌, length, take, drop, map, slice_get, Some, refl, sym, ap, ◌∙◌, ⊎_elim, arith}
use Rattle.std.proofs.lemmas.Bool.{cases_lt}
use Rattle.std.proofs.lemmas.List.{length-map, drop-map}
use Rattle.std.specs.List.{take-map}
use Rattle.cq_base.specs.declared.settings.Settings.{Settings}
use Rattle.cq_base.specs.declared.norm.Norm.{Norm}
use Rattle.cq_base.specs.declared.group.Place.{Place}
use Rattle.cq_clones.specs.Groups.{file_at, word_at}
use Rattle.cq_clones.specs.Windows.{key_at, AreKeyed}
use Rattle.cq_work.specs.Keys.{code_of, key_of, keys_of, window_keys}
use Rattle.cq_work.proofs.Windows.{keys_short, keys_first}

-- a key for each window
keys_number : (s : Settings) (codes : List ℕ) → 1 ≤ s.chunk → length (keys_of s codes) ≡ length codes + 1 - s.chunk
keys_number s [] some = omega (arith, some)
keys_number s (c ∷ codes) some =
    ⊎_elim
    (λ (short : length (c ∷ codes) < s.chunk). let e = ap length (keys_short s (c ∷ codes) short) in omega (arith, e, short))
    (λ (long : s.chunk ≤ length (c ∷ codes)). let e = ap length (keys_first s (c ∷ codes) some long) in let rest = keys_number s codes some in omega (arith, e, rest, long))
    (cases_lt (length (c ∷ codes)) s.chunk)

-- the key of the window at a place
key_there : (s : Settings) (codes : List ℕ) (at : ℕ) → 1 ≤ s.chunk → at + s.chunk ≤ length codes → slice_get (keys_of s codes) at ≡ Some (key_of s (take s.chunk (drop at codes)))
key_there s [] at some within = absurd (omega (arith, some, within))
key_there s (c ∷ codes) zero some within = ap (λ ks. slice_get ks 0) (keys_first s (c ∷ codes) some (omega (arith, within)))
key_there s (c ∷ codes) (suc at) some within =
    ap (λ ks. slice_get ks (suc at)) (keys_first s (c ∷ codes) some (omega (arith, within)))
    ∙ key_there s codes at some (omega (arith, within))

keys_at : (s : Settings) (corpus : List (List Norm)) (file : ℕ) → file_at (map (window_keys s) corpus) file ≡ window_keys s (file_at corpus file)
keys_at s [] file = refl
keys_at s (norms ∷ corpus) zero = refl
keys_at s (norms ∷ corpus) (suc file) = keys_at s corpus file

-- it goes by the window alone
key_of_word : (s : Settings) (corpus : List (List Norm)) (p : Place) → 1 ≤ s.chunk → p.at + s.chunk ≤ length (file_at corpus p.file) → key_at (map (window_keys s) corpus) p ≡ Some (key_of s (map code_of (word_at corpus p s.chunk)))
key_of_word s corpus p some within =
    let norms = file_at corpus p.file in
    ap (λ ks. slice_get ks p.at) (keys_at s corpus p.file)
    ∙ key_there s (map code_of norms) p.at some (omega (arith, length-map norms code_of, within))
    ∙ ap (λ codes. Some (key_of s codes)) (ap (take s.chunk) (drop-map code_of p.at norms) ∙ take-map code_of s.chunk (drop p.at norms))

pub keyed_by_windows : (s : Settings) (corpus : List (List Norm)) → 1 ≤ s.chunk → AreKeyed s.chunk corpus (map (window_keys s) corpus)
keyed_by_windows s corpus some = record {
  windows = λ file.
      let norms = file_at corpus file in
      ap length (keys_at s corpus file) ∙ keys_number s (map code_of norms) some ∙ ap (λ n. n + 1 - s.chunk) (length-map norms code_of);
  equal = λ p q p_in q_in same. key_of_word s corpus p some p_in ∙ ap (λ word. Some (key_of s (map code_of word))) same ∙ sym (key_of_word s corpus q some q_in);
}
