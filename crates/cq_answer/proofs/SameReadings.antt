-- All readings of one list of files show the same tokens.
use Rattle.std.proofs.Common.{◌≡◌, ℕ, List, [], ◌∷◌, map, refl, ap, ap₂, ◌∙◌, subst}
use Rattle.cq_base.specs.declared.norm.Norm.{Norm}
use Rattle.cq_base.specs.declared.settings.Settings.{Settings}
use Rattle.cq_history.specs.Files.{Source}
use Rattle.cq_work.specs.Keys.{window_keys}
use Rattle.cq_normal.specs.Normal.{normal}
use Rattle.cq_work.specs.Lexing.{LexesTo, kept_in}
use Rattle.cq_work.specs.Shown.{same_kept}
use Rattle.cq_answer.specs.Readings.{Reading, paths_read, norms_read, corpus_read, keys_read}

norms_same : (set : Settings) (r s : Reading) → r.file ≡ s.file → norms_read set r ≡ norms_read set s
norms_same set r s same =
    let lexes : LexesTo s.file.lang s.file.body r.answer = subst (λ (f : Source). LexesTo f.lang f.body r.answer) same r.lexes in
    ap (λ (f : Source). normal set f.lang (kept_in r.answer)) same ∙ ap (normal set s.file.lang) (same_kept s.file.lang s.file.body r.answer s.answer lexes s.lexes)

pub same_paths : (rs ss : List Reading) → map (λ (r : Reading). r.file) rs ≡ map (λ (r : Reading). r.file) ss → paths_read rs ≡ paths_read ss
same_paths [] [] same = refl
same_paths [] (s ∷ ss) same = absurd (cc)
same_paths (r ∷ rs) [] same = absurd (cc)
same_paths (r ∷ rs) (s ∷ ss) same =
    let first : r.file ≡ s.file = cc in
    let later : map (λ (x : Reading). x.file) rs ≡ map (λ (x : Reading). x.file) ss = cc in
    ap₂ (λ (p : List ℕ) (ps : List (List ℕ)). p ∷ ps) (ap (λ (f : Source). f.path) first) (same_paths rs ss later)

pub same_corpus : (set : Settings) (rs ss : List Reading) → map (λ (r : Reading). r.file) rs ≡ map (λ (r : Reading). r.file) ss → corpus_read set rs ≡ corpus_read set ss
same_corpus set [] [] same = refl
same_corpus set [] (s ∷ ss) same = absurd (cc)
same_corpus set (r ∷ rs) [] same = absurd (cc)
same_corpus set (r ∷ rs) (s ∷ ss) same =
    let first : r.file ≡ s.file = cc in
    let later : map (λ (x : Reading). x.file) rs ≡ map (λ (x : Reading). x.file) ss = cc in
    ap₂ (λ (n : List Norm) (ns : List (List Norm)). n ∷ ns) (norms_same set r s first) (same_corpus set rs ss later)

pub same_keys : (set : Settings) (rs ss : List Reading) → map (λ (r : Reading). r.file) rs ≡ map (λ (r : Reading). r.file) ss → keys_read set rs ≡ keys_read set ss
same_keys set rs ss same = ap (map (window_keys set)) (same_corpus set rs ss same)
