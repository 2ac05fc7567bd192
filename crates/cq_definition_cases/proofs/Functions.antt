-- Functions that are none, and wrong lines and complexities.
use Rattle.std.specs.Prelude.{◌≡◌, ℕ, List, [], ◌∷◌, map, codes}
use Rattle.std.proofs.Common.{refl, sym, ap, ◌∙◌, subst}
use Rattle.cq_definition_cases.proofs.Different.{differ}
use Rattle.cq_base.specs.declared.lang.Lang.TheVariants as lang
use Rattle.cq_base.specs.declared.settings.Settings.{Settings}
use Rattle.cq_base.specs.declared.token.Class.{Class}
use Rattle.cq_base.specs.declared.token.Class.TheVariants as class
use Rattle.cq_base.specs.declared.token.Spelled.{Spelled}
use Rattle.cq_func.specs.Brackets.{partner}
use Rattle.cq_func.specs.Functions.{functions}
use Rattle.cq_func.specs.Names.{go_func, go_end, go_open}
use Rattle.cq_func.specs.declared.function.Function.{Function}
use Rattle.cq_munch.specs.declared.munching.Lexed.{Lexed}
use Rattle.cq_work.specs.Lexing.{tokens_in}
use Rattle.cq_work.specs.Work.{Shows}
use Rattle.cq_work.specs.declared.work.Work.{Work}

-- a token on a line of its own
abbrev token : Class → ℕ → List ℕ → Spelled
token c line text = record { token = record { class = c; start = line; len = 1; first_line = line; last_line = line }; text = text }

abbrev name : ℕ → List ℕ → Spelled
name line text = token class.Ident line text

abbrev word : ℕ → List ℕ → Spelled
word line text = token class.Word line text

abbrev mark : ℕ → List ℕ → Spelled
mark line text = token class.Punct line text

-- `f ( ) { if }`
abbrev with_if : List Spelled
with_if = name 1 (codes "f") ∷ mark 2 (codes "(") ∷ mark 3 (codes ")") ∷ mark 4 (codes "{") ∷ word 5 (codes "if") ∷ mark 6 (codes "}") ∷ []

pub a_decision_of_the_body_counts : map (λ f. f.complexity) (functions lang.Java with_if) ≡ 1 ∷ [] → ⊥
unfolding partner
a_decision_of_the_body_counts e = differ e refl

pub the_last_line_is_that_of_the_brace : map (λ f. f.last) (functions lang.C with_if) ≡ 1 ∷ [] → ⊥
unfolding partner
the_last_line_is_that_of_the_brace e = differ e refl

-- `new f ( ) { if }`
pub a_constructor_call_is_none : map (λ f. f.complexity) (functions lang.Java (word 0 (codes "new") ∷ with_if)) ≡ 2 ∷ [] → ⊥
unfolding partner
a_constructor_call_is_none e = differ e refl

-- `extends f ( ) { if }`
pub what_a_class_extends_is_none : map (λ f. f.complexity) (functions lang.Js (word 0 (codes "extends") ∷ with_if)) ≡ 2 ∷ [] → ⊥
unfolding partner
what_a_class_extends_is_none e = differ e refl

-- `. f ( ) { if }`
pub a_call_behind_a_dot_is_none : map (λ f. f.complexity) (functions lang.Java (mark 0 (codes ".") ∷ with_if)) ≡ 2 ∷ [] → ⊥
unfolding partner
a_call_behind_a_dot_is_none e = differ e refl

-- `f ( ) { g ( ) { if } }`
abbrev nested : List Spelled
nested = name 1 (codes "f") ∷ mark 1 (codes "(") ∷ mark 1 (codes ")") ∷ mark 1 (codes "{")
    ∷ name 2 (codes "g") ∷ mark 2 (codes "(") ∷ mark 2 (codes ")") ∷ mark 2 (codes "{") ∷ word 3 (codes "if") ∷ mark 4 (codes "}") ∷ mark 5 (codes "}") ∷ []

pub a_decision_counts_in_one_function : map (λ f. f.complexity) (functions lang.Java nested) ≡ 2 ∷ 2 ∷ [] → ⊥
unfolding partner
a_decision_counts_in_one_function e = differ e refl

pub in_c_a_function_stands_outside_of_braces : map (λ f. f.complexity) (functions lang.C nested) ≡ 2 ∷ 2 ∷ [] → ⊥
unfolding partner
in_c_a_function_stands_outside_of_braces e = differ e refl

-- `func f ( ) struct { } ;`
pub the_braces_of_a_type_are_no_body :
    map (λ f. f.complexity) (functions lang.Go (word 1 (codes "func") ∷ name 1 (codes "f") ∷ mark 1 (codes "(") ∷ mark 1 (codes ")") ∷ word 1 (codes "struct") ∷ mark 1 (codes "{") ∷ mark 1 (codes "}") ∷ mark 1 (codes ";") ∷ [])) ≡ 1 ∷ [] → ⊥
unfolding partner go_func go_end go_open
the_braces_of_a_type_are_no_body e = differ e refl

-- whichever of the tokens are listed
pub a_work_has_the_functions_of_all_tokens : {L : Type 0} (set : Settings) (text : List ℕ) (answer : Lexed) (w : Work L) → tokens_in answer ≡ with_if → w.functions.items ≡ [] → Shows set lang.C text answer w → ⊥
unfolding partner
a_work_has_the_functions_of_all_tokens set text answer w all none shows =
    let is : functions lang.C with_if ≡ [] = subst (λ (ts : List Spelled). functions lang.C ts ≡ []) all (sym shows.functions_are ∙ none) in
    differ (ap (λ (fs : List Function). map (λ (f : Function). f.last) fs) is) refl
