-- Tokens that tie in their order.
use Rattle.std.proofs.Common.{◌≡◌, ◌↔◌, true, refl, ap, ◌∙◌, subst}
use Rattle.std.specs.Ordering.{is_eq, nat_cmp, ordering_then}
use Rattle.std.specs.declared.cmp.Ordering.TheVariants.{Equal}
use Rattle.std.specs.Cmp.{Equal-is}
use Rattle.std.specs.Cmp.Lexicographic.{slice_cmp}
use Rattle.std.proofs.lemmas.Map.Lookups.{exact_bytes}
use Rattle.cq_base.specs.declared.lang.Lang.{Lang}
use Rattle.cq_base.specs.declared.lang.Lang.TheVariants.{Any, Go, C, Java, Js, Ts}
use Rattle.cq_base.specs.declared.token.Class.{Class}
use Rattle.cq_base.specs.declared.token.Class.TheVariants.{Ident, Word, Literal, Punct}
use Rattle.cq_base.specs.contracts.lang.LangOrd.TheImpl as lang_order
use Rattle.cq_base.specs.contracts.token.ClassOrd.TheImpl as class_order
use Rattle.cq_base.specs.declared.norm.Norm.{Norm}
use Rattle.cq_base.proofs.Orderings.{then-parts, bytes-tie}
use Rattle.cq_clones.proofs.Decided.{norm_from_fields}
use Rattle.cq_tokens.specs.declared.seen.Seen.{Seen}
use Rattle.cq_tokens.specs.Packed.{norm_in, seen_cmp}

lang_exact : (a b : Lang) → lang_order.ghosts.cmp a b ≡ Equal → a ≡ b
lang_exact Any Any e = refl
lang_exact Any Go e = absurd (cc)
lang_exact Any C e = absurd (cc)
lang_exact Any Java e = absurd (cc)
lang_exact Any Js e = absurd (cc)
lang_exact Any Ts e = absurd (cc)
lang_exact Go Any e = absurd (cc)
lang_exact Go Go e = refl
lang_exact Go C e = absurd (cc)
lang_exact Go Java e = absurd (cc)
lang_exact Go Js e = absurd (cc)
lang_exact Go Ts e = absurd (cc)
lang_exact C Any e = absurd (cc)
lang_exact C Go e = absurd (cc)
lang_exact C C e = refl
lang_exact C Java e = absurd (cc)
lang_exact C Js e = absurd (cc)
lang_exact C Ts e = absurd (cc)
lang_exact Java Any e = absurd (cc)
lang_exact Java Go e = absurd (cc)
lang_exact Java C e = absurd (cc)
lang_exact Java Java e = refl
lang_exact Java Js e = absurd (cc)
lang_exact Java Ts e = absurd (cc)
lang_exact Js Any e = absurd (cc)
lang_exact Js Go e = absurd (cc)
lang_exact Js C e = absurd (cc)
lang_exact Js Java e = absurd (cc)
lang_exact Js Js e = refl
lang_exact Js Ts e = absurd (cc)
lang_exact Ts Any e = absurd (cc)
lang_exact Ts Go e = absurd (cc)
lang_exact Ts C e = absurd (cc)
lang_exact Ts Java e = absurd (cc)
lang_exact Ts Js e = absurd (cc)
lang_exact Ts Ts e = refl

lang_ties : (a : Lang) → lang_order.ghosts.cmp a a ≡ Equal
lang_ties Any = refl
lang_ties Go = refl
lang_ties C = refl
lang_ties Java = refl
lang_ties Js = refl
lang_ties Ts = refl

class_exact : (a b : Class) → class_order.ghosts.cmp a b ≡ Equal → a ≡ b
class_exact Ident Ident e = refl
class_exact Ident Word e = absurd (cc)
class_exact Ident Literal e = absurd (cc)
class_exact Ident Punct e = absurd (cc)
class_exact Word Ident e = absurd (cc)
class_exact Word Word e = refl
class_exact Word Literal e = absurd (cc)
class_exact Word Punct e = absurd (cc)
class_exact Literal Ident e = absurd (cc)
class_exact Literal Word e = absurd (cc)
class_exact Literal Literal e = refl
class_exact Literal Punct e = absurd (cc)
class_exact Punct Ident e = absurd (cc)
class_exact Punct Word e = absurd (cc)
class_exact Punct Literal e = absurd (cc)
class_exact Punct Punct e = refl

class_ties : (a : Class) → class_order.ghosts.cmp a a ≡ Equal
class_ties Ident = refl
class_ties Word = refl
class_ties Literal = refl
class_ties Punct = refl

exact : (a b : Seen) → seen_cmp a b ≡ Equal → norm_in a ≡ norm_in b
exact a b e =
    let first = then-parts (lang_order.ghosts.cmp a.lang b.lang) (ordering_then (class_order.ghosts.cmp a.class b.class) (slice_cmp nat_cmp a.text.now b.text.now)) e in
    let rest = then-parts (class_order.ghosts.cmp a.class b.class) (slice_cmp nat_cmp a.text.now b.text.now) first.1 in
    norm_from_fields (norm_in a) (norm_in b) (lang_exact a.lang b.lang first.0) (class_exact a.class b.class rest.0) (exact_bytes a.text.now b.text.now rest.1)

ties : (a b : Seen) → norm_in a ≡ norm_in b → seen_cmp a b ≡ Equal
ties a b e =
    subst (λ (n : Norm). ordering_then (lang_order.ghosts.cmp a.lang n.lang) (ordering_then (class_order.ghosts.cmp a.class n.class) (slice_cmp nat_cmp a.text.now n.text)) ≡ Equal) e
    (ap (λ r. ordering_then r (ordering_then (class_order.ghosts.cmp a.class a.class) (slice_cmp nat_cmp a.text.now a.text.now))) (lang_ties a.lang)
    ∙ ap (λ r. ordering_then r (slice_cmp nat_cmp a.text.now a.text.now)) (class_ties a.class)
    ∙ bytes-tie a.text.now)

pub equal_tie : (a b : Seen) → (is_eq (seen_cmp a b) ≡ true) ↔ (norm_in a ≡ norm_in b)
equal_tie a b = (λ e. exact a b ((Equal-is (seen_cmp a b)).0 e), λ e. (Equal-is (seen_cmp a b)).1 (ties a b e))
