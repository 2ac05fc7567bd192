-- The work of a text is within its bounds.
use Rattle.std.proofs.Common.{◌≡◌, ℕ, ◌+◌, ◌≤◌, Bool, true, false, not, if◌then◌else◌, IsUtf8, List, [], ◌∷◌, length, map, refl, sym, ap, subst, ◌∙◌, arith}
use Rattle.std.specs.Arc.{arc_value}
use Rattle.std.specs.List.{AllByRecursion}
use Rattle.std.proofs.lemmas.List.{length-map}
use Rattle.std.proofs.lemmas.List.Elements.{All-filter, All-from_recursion, recursion_from_All}
use Rattle.std.proofs.lemmas.List.Filters.{length-filter_both}
use Rattle.cq_base.specs.Lines.{lines_of}
use Rattle.cq_base.specs.declared.lang.Lang.{Lang}
use Rattle.cq_base.specs.declared.measures.FileCounts.{FileCounts}
use Rattle.cq_base.specs.declared.norm.Norm.{Norm}
use Rattle.cq_base.specs.declared.settings.Settings.{Settings}
use Rattle.cq_base.specs.declared.token.Mark.{Mark}
use Rattle.cq_base.specs.declared.token.Spelled.{Spelled}
use Rattle.cq_base.specs.declared.token.Token.{Token}
use Rattle.cq_func.specs.declared.function.Function.{Function}
use Rattle.cq_func.specs.Functions.{functions}
use Rattle.cq_work.specs.Keys.{window_keys}
use Rattle.cq_measures.specs.Decisions.{decisions_after, is_decision}
use Rattle.cq_munch.specs.declared.munching.Lexed.{Lexed}
use Rattle.cq_munch.specs.declared.munching.Lexed.TheVariants as lexed
use Rattle.cq_normal.specs.Kept.{is_on, kept, spans_of}
use Rattle.cq_normal.specs.Normal.{normal}
use Rattle.cq_work.specs.declared.work.Work.{Work}
use Rattle.cq_work.specs.Bounds.{has_tokens, IsFaultWithin, IsWithin, IsCompared, IsFunctionWithin, IsBounded}
use Rattle.cq_work.specs.Counts.{counts_of}
use Rattle.cq_work.specs.Lexing.{LexesTo, kept_in, marks_in, state_of, tokens_in}
use Rattle.cq_work.specs.Work.{Shows, IsWorkOf}
use Rattle.cq_work.proofs.Compared.{compared, places, same_classes}
use Rattle.cq_work.proofs.Covered.{few_code_lines}
use Rattle.cq_work.proofs.Described.{functions_within}
use Rattle.cq_work.proofs.FunctionLists.{few_functions}
use Rattle.cq_work.proofs.Placed.{IsPlacedIn, lexes-placed}
use Rattle.cq_work.proofs.Standing.{IsPlaced, Stand, each_placed, stand_wider}
use Rattle.cq_work.proofs.TextLines.{few_lines}

-- ---- what a text is lexed to

-- its tokens, within 1,048,576 bytes; none where it has a fault, or too many
answer_stands : (text : List ℕ) (a : Lexed) → length text ≤ 1048576 → IsPlacedIn text a → Stand 1048576 (lines_of text) 0 (tokens_in a)
answer_stands text (lexed.Tokens v marks) short placed = stand_wider (length text) 1048576 (lines_of text) 0 v.items short placed
answer_stands text (lexed.Fault at) short placed = tt
answer_stands text lexed.Large short placed = tt

answer_fault : (text : List ℕ) (a : Lexed) → length text ≤ 1048576 → IsPlacedIn text a → IsFaultWithin 1048576 (state_of a)
answer_fault text (lexed.Tokens v marks) short placed = tt
answer_fault text (lexed.Fault at) short placed = omega (arith, short, placed)
answer_fault text lexed.Large short placed = tt

none_kept : (a : Lexed) → has_tokens (state_of a) ≡ false → spans_of (kept_in a) ≡ []
none_kept (lexed.Tokens v marks) none = absurd (cc)
none_kept (lexed.Fault at) none = refl
none_kept lexed.Large none = refl

none_found : (l : Lang) (a : Lexed) → has_tokens (state_of a) ≡ false → functions l (tokens_in a) ≡ []
none_found l (lexed.Tokens v marks) none = absurd (cc)
none_found l (lexed.Fault at) none = refl
none_found l lexed.Large none = refl

kept_placed : (most lines : ℕ) (marks : List Mark) (tokens : List Spelled) → AllByRecursion (IsPlaced most lines) tokens → AllByRecursion (IsPlaced most lines) (kept marks tokens)
kept_placed most lines marks tokens placed =
    recursion_from_All (IsPlaced most lines) (kept marks tokens)
    (All-filter (λ (s : Spelled). is_on true marks s.token.start) (IsPlaced most lines) tokens (All-from_recursion (IsPlaced most lines) tokens placed))

kept_few : (marks : List Mark) (tokens : List Spelled) → length (spans_of (kept marks tokens)) ≤ length tokens
kept_few marks tokens =
    let both = length-filter_both (λ (s : Spelled). is_on true marks s.token.start) (λ (s : Spelled). not (is_on true marks s.token.start)) (λ _. refl) tokens in
    let many = length-map (kept marks tokens) (λ (s : Spelled). s.token) in
    omega (arith, both, many)

-- ---- what is counted

decision_most : (b : Bool) (n many : ℕ) → n ≤ many → (if b then 1 else 0) + n ≤ many + 1
decision_most true n many le = omega arith
decision_most false n many le = omega arith

few_decisions : (l : Lang) (before : List ℕ) (tokens : List Spelled) → decisions_after l before tokens ≤ length tokens
few_decisions l before [] = omega arith
few_decisions l before (s ∷ tokens) =
    let most = decision_most (is_decision l before s) (decisions_after l s.text tokens) (length tokens) (few_decisions l s.text tokens) in
    omega (arith, most)

-- lines as in the text, lines of code among them, and no more decisions than tokens
record AreCountsOf (text : List ℕ) (c : FileCounts) : Type 0 where
  lines : c.lines ≡ lines_of text
  ncloc : c.ncloc ≤ lines_of text
  complexity : c.complexity ≤ 262145

counts_within : (l : Lang) (text : List ℕ) (a : Lexed) → length (tokens_in a) ≤ 262144 → AllByRecursion (IsWithin 1048576 (lines_of text)) (spans_of (tokens_in a)) → AreCountsOf text (counts_of l text (state_of a) (tokens_in a))
counts_within l text (lexed.Tokens v marks) few each = record {
  lines = refl;
  ncloc = few_code_lines 1048576 (lines_of text) (spans_of v.items) each;
  complexity = let most = few_decisions l [] v.items in omega (arith, most, few);
}
counts_within l text (lexed.Fault at) few each = record { lines = refl; ncloc = omega arith; complexity = omega arith }
counts_within l text lexed.Large few each = record { lines = refl; ncloc = omega arith; complexity = omega arith }

-- ---- all of it

module _ {L : Type 0} (settings : Settings) (l : Lang) (text : List ℕ) (a : Lexed) (work : Work L) (utf8 : IsUtf8 text) (short : length text ≤ 1048576) (lexes : LexesTo l text a) (shows : Shows settings l text a work) where
  placed : IsPlacedIn text a
  placed = lexes-placed l text a utf8 short lexes

  stands : Stand 1048576 (lines_of text) 0 (tokens_in a)
  stands = answer_stands text a short placed

  each : AllByRecursion (IsPlaced 1048576 (lines_of text)) (tokens_in a)
  each = each_placed 1048576 (lines_of text) 0 (tokens_in a) stands

  listed : AllByRecursion (IsPlaced 1048576 (lines_of text)) (kept_in a)
  listed = kept_placed 1048576 (lines_of text) (marks_in a) (tokens_in a) each

  counted : AreCountsOf text work.counts
  counted = subst (AreCountsOf text) (sym shows.counts_are) (counts_within l text a shows.few (places 1048576 (lines_of text) (tokens_in a) each))

  spans_within : AllByRecursion (IsWithin 1048576 work.counts.lines) work.spans.items
  spans_within =
      subst (λ (ts : List Token). AllByRecursion (IsWithin 1048576 work.counts.lines) ts) (sym shows.spans_are)
      (subst (λ (n : ℕ). AllByRecursion (IsWithin 1048576 n) (spans_of (kept_in a))) (sym counted.lines) (places 1048576 (lines_of text) (kept_in a) listed))

  tokens_compared : AllByRecursion (IsCompared settings work.lang) (arc_value work.tokens)
  tokens_compared =
      subst (λ (ns : List Norm). AllByRecursion (IsCompared settings work.lang) ns) (sym shows.tokens_are)
      (subst (λ (m : Lang). AllByRecursion (IsCompared settings m) (normal settings l (kept_in a))) (sym shows.lang_is) (compared settings l 1048576 (lines_of text) (kept_in a) listed))

  named : AllByRecursion (IsFunctionWithin work.counts.lines) work.functions.items
  named =
      subst (λ (fs : List Function). AllByRecursion (IsFunctionWithin work.counts.lines) fs) (sym shows.functions_are)
      (subst (λ (n : ℕ). AllByRecursion (IsFunctionWithin n) (functions l (tokens_in a))) (sym counted.lines) (functions_within 1048576 (lines_of text) 0 (tokens_in a) stands shows.few l))

  all_bounded : IsBounded settings work
  all_bounded = record {
    fault = subst (IsFaultWithin 1048576) (sym shows.state_is) (answer_fault text a short placed);
    lines = let same = counted.lines in let most = few_lines text in omega (arith, same, most, short);
    ncloc = let same = counted.lines in let most = counted.ncloc in omega (arith, same, most);
    complexity = counted.complexity;
    few =
        let same = ap length shows.spans_are in
        let most = kept_few (marks_in a) (tokens_in a) in
        let few = shows.few in
        omega (arith, same, most, few);
    spans = spans_within;
    tokens = tokens_compared;
    classes = ap (map (λ (t : Token). t.class)) shows.spans_are ∙ same_classes settings l (kept_in a) ∙ ap (map (λ (n : Norm). n.class)) (sym shows.tokens_are);
    keys = shows.keys_are ∙ ap (window_keys settings) (sym shows.tokens_are);
    few_functions =
        let same = ap length shows.functions_are in
        let most = few_functions l (tokens_in a) in
        let few = shows.few in
        omega (arith, same, most, few);
    functions = named;
    no_tokens = λ none. shows.spans_are ∙ none_kept a (ap has_tokens (sym shows.state_is) ∙ none);
    no_functions = λ none. shows.functions_are ∙ none_found l a (ap has_tokens (sym shows.state_is) ∙ none);
  }

pub bounded : {L : Type 0} (settings : Settings) (l : Lang) (text : List ℕ) (work : Work L) → IsUtf8 text → length text ≤ 1048576 → IsWorkOf settings l text work → IsBounded settings work
bounded settings l text work utf8 short is = all_bounded settings l text is.answer work utf8 short is.lexes is.shows
