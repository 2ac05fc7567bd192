-- What is read is spelled so, and what is spelled so is read: files.
use Rattle.std.proofs.Common.{◌≡◌, ℕ, zero, suc, ◌^◌, ◌<◌, Bool, true, false, ◌&&◌, ◌||◌, eqb, nat_le, List, [], ◌∷◌, ◌++◌, length, Some, refl, ap, subst, ◌∙◌, append_assoc, arith}
use Rattle.std.specs.Int.{w32, w64, to_be_bytes}
use Rattle.std.proofs.lemmas.Bool.{eqb-true, leb-true, le-leb}
use Rattle.std.proofs.lemmas.List.{nil_from_length}
use Rattle.cq_base.specs.declared.settings.Settings.{Settings}
use Rattle.cq_base.specs.declared.lang.Lang.{Lang}
use Rattle.cq_base.specs.declared.measures.FileCounts.{FileCounts}
use Rattle.cq_base.specs.Tables.{lang_coded}
use Rattle.cq_base.proofs.Tables.{read_back}
use Rattle.cq_work.specs.declared.work.State.{State}
use Rattle.cq_work.specs.declared.work.State.TheVariants as states
use Rattle.cq_tokform.specs.Spelling.{text, counted, token, function, language, outcome, Recorded, file}
use Rattle.cq_tokform.specs.Spelling.{counts as counts_bytes}
use Rattle.cq_tokform.specs.Sound.{IsSoundText, IsSoundToken, IsSoundFunction, AreCounted, IsSoundState, IsSoundFile, is_sound_file}
use Rattle.cq_work.specs.Bounds.{has_tokens}
use Rattle.cq_tokform.specs.Reading.{◌>>=◌, byte_at, number_at, text_at, token_at, function_at, counted_at, lang_at, state_at, counts_at, file_at}
use Rattle.cq_tokform.proofs.Fields.{IsBytes, IsReader, Takes, Takes-then, after, bind_some, if_some, some_is, byte_takes, number32, number64, texts}
use Rattle.cq_tokform.proofs.Records.{both, with_both}
use Rattle.cq_tokform.proofs.Records.{tokens as tokens_reader, functions as functions_reader}
use Rattle.cq_tokform.proofs.Counted.{lists}

-- ---- languages

language_takes : (bytes : List ℕ) (x : Lang × List ℕ) → IsBytes bytes → lang_at bytes ≡ Some x → Takes bytes (language x.0) x.1 × Unit {0}
unfolding lang_at
language_takes bytes x fits e =
    let b = bind_some (byte_at bytes) (λ b. lang_coded b.0 >>= λ l. Some (l, b.1)) x e in
    let l = bind_some (lang_coded b.0.0) (λ l. Some (l, b.0.1)) x b.2 in
    let whole : Takes bytes (language l.0) b.0.1 = subst (λ (n : ℕ). Takes bytes (n ∷ []) b.0.1) (read_back.lang_codes.only b.0.0 l.0 l.1) (byte_takes bytes b.0 fits b.1) in
    subst (λ (y : Lang × List ℕ). Takes bytes (language y.0) y.1 × Unit {0}) (some_is (l.0, b.0.1) x l.2) (whole, tt)

language_again : (l : Lang) (rest : List ℕ) → Unit {0} → lang_at (language l ++ rest) ≡ Some (l, rest)
unfolding lang_at
language_again l rest any = rw (read_back.lang_codes.found l) refl

languages : IsReader language (λ (l : Lang). Unit {0}) lang_at
languages = record { takes = language_takes; again = language_again }

-- ---- what the reading gave

outcome_takes : (bytes : List ℕ) (x : State × List ℕ) → IsBytes bytes → state_at bytes ≡ Some x → Takes bytes (outcome x.0) x.1 × IsSoundState x.0
unfolding state_at
outcome_takes [] x fits e = absurd cc
outcome_takes (zero ∷ rest) x fits e =
    subst (λ (y : State × List ℕ). Takes (0 ∷ rest) (outcome y.0) y.1 × IsSoundState y.0) (some_is (states.Ok, rest) x e) (record { parts = refl; rest_fits = λ i. fits (suc i) }, tt)
outcome_takes (suc zero ∷ rest) x fits e =
    let at = bind_some (number_at w32 rest) (λ at. Some (states.Fault at.0, at.1)) x e in
    let t = number32.takes rest at.0 (λ i. fits (suc i)) at.1 in
    subst (λ (y : State × List ℕ). Takes (1 ∷ rest) (outcome y.0) y.1 × IsSoundState y.0) (some_is (states.Fault at.0.0, at.0.1) x at.2) (record { parts = ap (λ (w : List ℕ). 1 ∷ w) t.0.parts; rest_fits = t.0.rest_fits }, t.1)
outcome_takes (suc (suc zero) ∷ rest) x fits e =
    subst (λ (y : State × List ℕ). Takes (2 ∷ rest) (outcome y.0) y.1 × IsSoundState y.0) (some_is (states.Large, rest) x e) (record { parts = refl; rest_fits = λ i. fits (suc i) }, tt)
outcome_takes (suc (suc (suc b)) ∷ rest) x fits e = absurd cc

outcome_again : (s : State) (rest : List ℕ) → IsSoundState s → state_at (outcome s ++ rest) ≡ Some (s, rest)
unfolding state_at
outcome_again states.Ok rest sound = refl
outcome_again (states.Fault at) rest sound = rw (number32.again at rest sound) refl
outcome_again states.Large rest sound = refl

outcomes : IsReader outcome IsSoundState state_at
outcomes = record { takes = outcome_takes; again = outcome_again }

-- ---- counts

record AreWide (c : FileCounts) : Type 0 where
  lines : c.lines < 2 ^ 64
  ncloc : c.ncloc < 2 ^ 64
  complexity : c.complexity < 2 ^ 64

counts_takes : (bytes : List ℕ) (x : FileCounts × List ℕ) → IsBytes bytes → counts_at bytes ≡ Some x → Takes bytes (counts_bytes x.0) x.1 × AreWide x.0
unfolding counts_at
counts_takes bytes x fits e =
    let lines = bind_some (number_at w64 bytes) (λ lines. number_at w64 lines.1 >>= λ ncloc. number_at w64 ncloc.1 >>= λ complexity. Some (record { lines = lines.0; ncloc = ncloc.0; complexity = complexity.0 }, complexity.1)) x e in
    let ncloc = bind_some (number_at w64 lines.0.1) (λ ncloc. number_at w64 ncloc.1 >>= λ complexity. Some (record { lines = lines.0.0; ncloc = ncloc.0; complexity = complexity.0 }, complexity.1)) x lines.2 in
    let complexity = bind_some (number_at w64 ncloc.0.1) (λ complexity. Some (record { lines = lines.0.0; ncloc = ncloc.0.0; complexity = complexity.0 }, complexity.1)) x ncloc.2 in
    let t0 = number64.takes bytes lines.0 fits lines.1 in
    let t1 = number64.takes lines.0.1 ncloc.0 t0.0.rest_fits ncloc.1 in
    let t2 = number64.takes ncloc.0.1 complexity.0 t1.0.rest_fits complexity.1 in
    let w1 = Takes-then lines.0.1 (to_be_bytes w64 ncloc.0.0) ncloc.0.1 (to_be_bytes w64 complexity.0.0) complexity.0.1 t1.0 t2.0 in
    let w0 = Takes-then bytes (to_be_bytes w64 lines.0.0) lines.0.1 (to_be_bytes w64 ncloc.0.0 ++ to_be_bytes w64 complexity.0.0) complexity.0.1 t0.0 w1 in
    let made : FileCounts × List ℕ = (record { lines = lines.0.0; ncloc = ncloc.0.0; complexity = complexity.0.0 }, complexity.0.1) in
    subst (λ (y : FileCounts × List ℕ). Takes bytes (counts_bytes y.0) y.1 × AreWide y.0) (some_is made x complexity.2) (w0, record { lines = t0.1; ncloc = t1.1; complexity = t2.1 })

counts_again : (c : FileCounts) (rest : List ℕ) → AreWide c → counts_at (counts_bytes c ++ rest) ≡ Some (c, rest)
unfolding counts_at
counts_again c rest fits =
    let regrouped : counts_bytes c ++ rest ≡ to_be_bytes w64 c.lines ++ (to_be_bytes w64 c.ncloc ++ (to_be_bytes w64 c.complexity ++ rest)) = append_assoc (to_be_bytes w64 c.lines) (to_be_bytes w64 c.ncloc ++ to_be_bytes w64 c.complexity) rest ∙ ap (λ (y : List ℕ). to_be_bytes w64 c.lines ++ y) (append_assoc (to_be_bytes w64 c.ncloc) (to_be_bytes w64 c.complexity) rest) in
    ap counts_at regrouped ∙ rw (number64.again c.lines (to_be_bytes w64 c.ncloc ++ (to_be_bytes w64 c.complexity ++ rest)) fits.lines, number64.again c.ncloc (to_be_bytes w64 c.complexity ++ rest) fits.ncloc, number64.again c.complexity rest fits.complexity) refl

counted_files : IsReader counts_bytes AreWide counts_at
counted_files = record { takes = counts_takes; again = counts_again }

-- ---- files

unless : {A : Type 0} (a : Bool) (xs : List A) → (a || eqb (length xs) 0) ≡ true → a ≡ false → xs ≡ []
unless true xs e h = absurd cc
unless false xs e h = nil_from_length xs (eqb-true _ _ e)

if_unless : {A : Type 0} (a : Bool) (xs : List A) → (a ≡ false → xs ≡ []) → (a || eqb (length xs) 0) ≡ true
if_unless true xs h = refl
if_unless {A = A} false xs h = ap (λ (ys : List A). eqb (length ys) 0) (h refl)

abbrev FileTaken : Settings → ℕ → List ℕ → Recorded × List ℕ → Type 0
FileTaken settings version bytes x = Takes bytes (file x.0) x.1 × IsSoundFile settings version x.0

file_told : (settings : Settings) (version : ℕ) (f : Recorded) → IsSoundText f.path → IsSoundState f.state → AreCounted (IsSoundToken settings f.counts.lines) f.tokens → AreCounted (IsSoundFunction f.counts.lines) f.functions
    → is_sound_file version f ≡ true → IsSoundFile settings version f
file_told settings version f path state tokens functions e =
    let b0 = both (nat_le 1 f.change) (nat_le f.change version && (nat_le f.counts.lines 1048576 && (nat_le f.counts.ncloc f.counts.lines && (nat_le f.counts.complexity 262145 && (nat_le (length f.tokens) 262144 && ((has_tokens f.state || eqb (length f.tokens) 0) && ((has_tokens f.state || eqb (length f.functions) 0)))))))) e in
    let b1 = both (nat_le f.change version) (nat_le f.counts.lines 1048576 && (nat_le f.counts.ncloc f.counts.lines && (nat_le f.counts.complexity 262145 && (nat_le (length f.tokens) 262144 && ((has_tokens f.state || eqb (length f.tokens) 0) && ((has_tokens f.state || eqb (length f.functions) 0))))))) b0.1 in
    let b2 = both (nat_le f.counts.lines 1048576) (nat_le f.counts.ncloc f.counts.lines && (nat_le f.counts.complexity 262145 && (nat_le (length f.tokens) 262144 && ((has_tokens f.state || eqb (length f.tokens) 0) && ((has_tokens f.state || eqb (length f.functions) 0)))))) b1.1 in
    let b3 = both (nat_le f.counts.ncloc f.counts.lines) (nat_le f.counts.complexity 262145 && (nat_le (length f.tokens) 262144 && ((has_tokens f.state || eqb (length f.tokens) 0) && ((has_tokens f.state || eqb (length f.functions) 0))))) b2.1 in
    let b4 = both (nat_le f.counts.complexity 262145) (nat_le (length f.tokens) 262144 && ((has_tokens f.state || eqb (length f.tokens) 0) && ((has_tokens f.state || eqb (length f.functions) 0)))) b3.1 in
    let b5 = both (nat_le (length f.tokens) 262144) ((has_tokens f.state || eqb (length f.tokens) 0) && ((has_tokens f.state || eqb (length f.functions) 0))) b4.1 in
    let b6 = both ((has_tokens f.state || eqb (length f.tokens) 0)) ((has_tokens f.state || eqb (length f.functions) 0)) b5.1 in
    record {
      path = path;
      first_change = leb-true _ _ b0.0;
      last_change = leb-true _ _ b1.0;
      state = state;
      lines = leb-true _ _ b2.0;
      ncloc = leb-true _ _ b3.0;
      complexity = leb-true _ _ b4.0;
      few = leb-true _ _ b5.0;
      tokens = tokens.each;
      functions = functions;
      no_tokens = unless (has_tokens f.state) f.tokens b6.0;
      no_functions = unless (has_tokens f.state) f.functions b6.1;
    }

file_takes : (settings : Settings) (version : ℕ) (bytes : List ℕ) (x : Recorded × List ℕ) → IsBytes bytes → file_at settings version bytes ≡ Some x → FileTaken settings version bytes x
unfolding file_at
file_takes settings version bytes x fits e =
    after (FileTaken settings version bytes x) text IsSoundText text_at texts bytes _ x fits e (λ p b0 t0 s0 e0.
    after (FileTaken settings version bytes x) (λ (n : ℕ). to_be_bytes w64 n) (λ (n : ℕ). n < 2 ^ 64) (number_at w64) number64 b0 _ x t0.rest_fits e0 (λ r b1 t1 s1 e1.
    after (FileTaken settings version bytes x) language (λ (l : Lang). Unit {0}) lang_at languages b1 _ x t1.rest_fits e1 (λ l b2 t2 s2 e2.
    after (FileTaken settings version bytes x) outcome IsSoundState state_at outcomes b2 _ x t2.rest_fits e2 (λ s b3 t3 s3 e3.
    after (FileTaken settings version bytes x) counts_bytes AreWide counts_at counted_files b3 _ x t3.rest_fits e3 (λ n b4 t4 s4 e4.
    after (FileTaken settings version bytes x) (counted token) (AreCounted (IsSoundToken settings n.lines)) (counted_at (token_at settings n.lines)) (lists token (IsSoundToken settings n.lines) (token_at settings n.lines) (tokens_reader settings n.lines)) b4 _ x t4.rest_fits e4 (λ ts b5 t5 s5 e5.
    after (FileTaken settings version bytes x) (counted function) (AreCounted (IsSoundFunction n.lines)) (counted_at (function_at n.lines)) (lists function (IsSoundFunction n.lines) (function_at n.lines) (functions_reader n.lines)) b5 _ x t5.rest_fits e5 (λ fs b6 t6 s6 e6.
    let made : Recorded × List ℕ = (record { path = p; change = r; lang = l; state = s; counts = n; tokens = ts; functions = fs }, b6) in
    let g = if_some (is_sound_file version made.0) (Some made) x e6 in
    let w5 = Takes-then b4 (counted token ts) b5 (counted function fs) b6 t5 t6 in
    let w4 = Takes-then b3 (counts_bytes n) b4 (counted token ts ++ (counted function fs)) b6 t4 w5 in
    let w3 = Takes-then b2 (outcome s) b3 (counts_bytes n ++ (counted token ts ++ (counted function fs))) b6 t3 w4 in
    let w2 = Takes-then b1 (language l) b2 (outcome s ++ (counts_bytes n ++ (counted token ts ++ (counted function fs)))) b6 t2 w3 in
    let w1 = Takes-then b0 (to_be_bytes w64 r) b1 (language l ++ (outcome s ++ (counts_bytes n ++ (counted token ts ++ (counted function fs))))) b6 t1 w2 in
    let w0 = Takes-then bytes (text p) b0 (to_be_bytes w64 r ++ (language l ++ (outcome s ++ (counts_bytes n ++ (counted token ts ++ (counted function fs)))))) b6 t0 w1 in
    subst (λ (y : Recorded × List ℕ). FileTaken settings version bytes y) (some_is made x g.1) (w0, file_told settings version made.0 s0 s3 s5 s6 g.0))))))))

file_tested : (settings : Settings) (version : ℕ) (f : Recorded) → IsSoundFile settings version f → is_sound_file version f ≡ true
file_tested settings version f sound = with_both (nat_le 1 f.change) (nat_le f.change version && (nat_le f.counts.lines 1048576 && (nat_le f.counts.ncloc f.counts.lines && (nat_le f.counts.complexity 262145 && (nat_le (length f.tokens) 262144 && ((has_tokens f.state || eqb (length f.tokens) 0) && ((has_tokens f.state || eqb (length f.functions) 0)))))))) (le-leb _ _ sound.first_change) (with_both (nat_le f.change version) (nat_le f.counts.lines 1048576 && (nat_le f.counts.ncloc f.counts.lines && (nat_le f.counts.complexity 262145 && (nat_le (length f.tokens) 262144 && ((has_tokens f.state || eqb (length f.tokens) 0) && ((has_tokens f.state || eqb (length f.functions) 0))))))) (le-leb _ _ sound.last_change) (with_both (nat_le f.counts.lines 1048576) (nat_le f.counts.ncloc f.counts.lines && (nat_le f.counts.complexity 262145 && (nat_le (length f.tokens) 262144 && ((has_tokens f.state || eqb (length f.tokens) 0) && ((has_tokens f.state || eqb (length f.functions) 0)))))) (le-leb _ _ sound.lines) (with_both (nat_le f.counts.ncloc f.counts.lines) (nat_le f.counts.complexity 262145 && (nat_le (length f.tokens) 262144 && ((has_tokens f.state || eqb (length f.tokens) 0) && ((has_tokens f.state || eqb (length f.functions) 0))))) (le-leb _ _ sound.ncloc) (with_both (nat_le f.counts.complexity 262145) (nat_le (length f.tokens) 262144 && ((has_tokens f.state || eqb (length f.tokens) 0) && ((has_tokens f.state || eqb (length f.functions) 0)))) (le-leb _ _ sound.complexity) (with_both (nat_le (length f.tokens) 262144) ((has_tokens f.state || eqb (length f.tokens) 0) && ((has_tokens f.state || eqb (length f.functions) 0))) (le-leb _ _ sound.few) (with_both ((has_tokens f.state || eqb (length f.tokens) 0)) ((has_tokens f.state || eqb (length f.functions) 0)) (if_unless (has_tokens f.state) f.tokens sound.no_tokens) (if_unless (has_tokens f.state) f.functions sound.no_functions)))))))

file_again : (settings : Settings) (version : ℕ) → version < 2 ^ 64 → (f : Recorded) (rest : List ℕ) → IsSoundFile settings version f → file_at settings version (file f ++ rest) ≡ Some (f, rest)
unfolding file_at
file_again settings version short f rest sound =
    let last_change = sound.last_change in
    let lines = sound.lines in
    let ncloc = sound.ncloc in
    let complexity = sound.complexity in
    let few = sound.few in
    let counts_fit : AreWide f.counts = record { lines = omega (arith, lines); ncloc = omega (arith, lines, ncloc); complexity = omega (arith, complexity) } in
    let tokens_fit : AreCounted (IsSoundToken settings f.counts.lines) f.tokens = record { few = omega (arith, few); each = sound.tokens } in
    let regrouped : file f ++ rest ≡ text f.path ++ (to_be_bytes w64 f.change ++ (language f.lang ++ (outcome f.state ++ (counts_bytes f.counts ++ (counted token f.tokens ++ (counted function f.functions ++ rest)))))) = append_assoc (text f.path) (to_be_bytes w64 f.change ++ (language f.lang ++ (outcome f.state ++ (counts_bytes f.counts ++ (counted token f.tokens ++ (counted function f.functions)))))) rest ∙ ap (λ (y : List ℕ). text f.path ++ y) (append_assoc (to_be_bytes w64 f.change) (language f.lang ++ (outcome f.state ++ (counts_bytes f.counts ++ (counted token f.tokens ++ (counted function f.functions))))) rest ∙ ap (λ (y : List ℕ). to_be_bytes w64 f.change ++ y) (append_assoc (language f.lang) (outcome f.state ++ (counts_bytes f.counts ++ (counted token f.tokens ++ (counted function f.functions)))) rest ∙ ap (λ (y : List ℕ). language f.lang ++ y) (append_assoc (outcome f.state) (counts_bytes f.counts ++ (counted token f.tokens ++ (counted function f.functions))) rest ∙ ap (λ (y : List ℕ). outcome f.state ++ y) (append_assoc (counts_bytes f.counts) (counted token f.tokens ++ (counted function f.functions)) rest ∙ ap (λ (y : List ℕ). counts_bytes f.counts ++ y) (append_assoc (counted token f.tokens) (counted function f.functions) rest))))) in
    ap (file_at settings version) regrouped ∙ rw (texts.again f.path (to_be_bytes w64 f.change ++ (language f.lang ++ (outcome f.state ++ (counts_bytes f.counts ++ (counted token f.tokens ++ (counted function f.functions ++ rest)))))) sound.path, number64.again f.change (language f.lang ++ (outcome f.state ++ (counts_bytes f.counts ++ (counted token f.tokens ++ (counted function f.functions ++ rest))))) (omega (arith, last_change, short)), languages.again f.lang (outcome f.state ++ (counts_bytes f.counts ++ (counted token f.tokens ++ (counted function f.functions ++ rest)))) tt, outcomes.again f.state (counts_bytes f.counts ++ (counted token f.tokens ++ (counted function f.functions ++ rest))) sound.state, counted_files.again f.counts (counted token f.tokens ++ (counted function f.functions ++ rest)) counts_fit, (lists token (IsSoundToken settings f.counts.lines) (token_at settings f.counts.lines) (tokens_reader settings f.counts.lines)).again f.tokens (counted function f.functions ++ rest) tokens_fit, (lists function (IsSoundFunction f.counts.lines) (function_at f.counts.lines) (functions_reader f.counts.lines)).again f.functions rest sound.functions, file_tested settings version f sound) refl

pub files : (settings : Settings) (version : ℕ) → version < 2 ^ 64 → IsReader file (IsSoundFile settings version) (file_at settings version)
files settings version short = record { takes = file_takes settings version; again = file_again settings version short }
