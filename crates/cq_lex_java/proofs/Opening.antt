-- The opening of a text block, one character after the other.
use Rattle.std.proofs.Common.{◌≡◌, ℕ, ◌+◌, ◌<◌, ◌≤◌, true, false, ◌&&◌, ◌||◌, List, ◌∷◌, length, get_or, drop, sym, ap, ◌∙◌}
use Rattle.std.proofs.lemmas.List.{drop_more, drop_all}
use Rattle.cq_lex_java.specs.Blocks.{is_line_end, is_space, opening}

module _ (text : List ℕ) (i : ℕ) (c : ℕ) (inside : i < length text) (c_is : get_or text i 0 ≡ c) (so_far : opening (drop i text) ≡ opening text) where
  cut : drop i text ≡ c ∷ drop (i + 1) text
  cut = drop_more text i 0 inside ∙ ap (λ d. d ∷ drop (i + 1) text) c_is

  here : (is_line_end c || (is_space c && opening (drop (i + 1) text))) ≡ opening text
  here = ap opening (sym cut) ∙ so_far

  pub ended : is_line_end c ≡ true → true ≡ opening text
  ended is = sym (ap (λ b. b || (is_space c && opening (drop (i + 1) text))) is) ∙ here

  pub refused : is_line_end c ≡ false → is_space c ≡ false → false ≡ opening text
  refused no_end no_space = sym (ap (λ b. b || (is_space c && opening (drop (i + 1) text))) no_end ∙ ap (λ b. b && opening (drop (i + 1) text)) no_space) ∙ here

  pub went_on : is_line_end c ≡ false → is_space c ≡ true → opening (drop (i + 1) text) ≡ opening text
  went_on no_end space = sym (ap (λ b. b || (is_space c && opening (drop (i + 1) text))) no_end ∙ ap (λ b. b && opening (drop (i + 1) text)) space) ∙ here

pub all_blank : (text : List ℕ) (i : ℕ) → length text ≤ i → opening (drop i text) ≡ opening text → false ≡ opening text
all_blank text i end so_far = sym (ap opening (drop_all i text end)) ∙ so_far
