-- One element more.
use Rattle.std.proofs.Common.{◌≡◌, ℕ, ◌+◌, ◌<◌, ◌≤◌, Option, Some, None, List, [], ◌∷◌, ◌++◌, length, take, drop, refl, sym, ap, subst, ◌∙◌, append_assoc, zero-le, ◌-◌, arith, length-append, length-drop, length-take-le}
use Rattle.std.proofs.lemmas.List.{append-nil, length-map, drop-drop}
use Rattle.std.specs.List.{cons_option}
use Rattle.cq_base.specs.declared.token.Class.{Class}
use Rattle.cq_base.specs.declared.token.Mark.{Mark}
use Rattle.cq_base.specs.declared.token.Spelled.{Spelled}
use Rattle.cq_munch.specs.declared.unit.Unit.{Unit}
use Rattle.cq_munch.specs.declared.element.Found.{Found}
use Rattle.cq_munch.specs.declared.cutting.Cut.TheVariants as cuts
use Rattle.cq_munch.specs.declared.element.Spell.{Spell}
use Rattle.cq_munch.specs.declared.element.Spell.TheVariants.{Token as TokenOf}
use Rattle.cq_munch.specs.Language.{Language, Takes}
use Rattle.cq_munch.specs.Characters.{characters}
use Rattle.cq_munch.specs.Lexed.{Follow, EndsAt, StopsFrom, GoesToEnd, IsCut, InOrder, TokensFollow, spelled_of, token_of, tokens_of, mark_of, marks_of, unit_at, end_of}
use Rattle.cq_munch.proofs.Orders.{InOrder-drop, InOrder-behind, InOrder-ends, InOrder-take}

Follow-push : (lang : Language) (text : List ℕ) (a m : ℕ) (fs : List Found) (at mode : ℕ) (f : Found) → Follow lang text a m fs at mode → Takes lang at mode (drop at text) (Some f)
    → Follow lang text a m (fs ++ f ∷ []) (at + f.units) f.mode
Follow-push lang text a m [] at mode f follow takes =
    (subst (λ v. Takes lang v m (drop v text) (Some f)) (sym follow.0) (subst (λ v. Takes lang at v (drop at text) (Some f)) (sym follow.1) takes), (ap (λ v. v + f.units) follow.0, refl))
Follow-push lang text a m (g ∷ fs) at mode f follow takes =
    (follow.0, Follow-push lang text (a + g.units) g.mode fs at mode f follow.1 takes)

tokens-push : (lang : Language) (text bytes : List ℕ) (units : List Unit) (a m : ℕ) (fs : List Found) (at mode : ℕ) (f : Found) → Follow lang text a m fs at mode
    → tokens_of bytes units a (fs ++ f ∷ []) ≡ tokens_of bytes units a fs ++ token_of bytes f.spell (take f.units (drop at units))
tokens-push lang text bytes units a m [] at mode f follow =
    append-nil (token_of bytes f.spell (take f.units (drop a units))) ∙ ap (λ v. token_of bytes f.spell (take f.units (drop v units))) follow.0
tokens-push lang text bytes units a m (g ∷ fs) at mode f follow =
    ap (λ v. token_of bytes g.spell (take g.units (drop a units)) ++ v) (tokens-push lang text bytes units (a + g.units) g.mode fs at mode f follow.1)
    ∙ sym (append_assoc (token_of bytes g.spell (take g.units (drop a units))) (tokens_of bytes units (a + g.units) fs) (token_of bytes f.spell (take f.units (drop at units))))

cons-append : {A : Type 0} (x : Option A) (xs ys : List A) → cons_option x (xs ++ ys) ≡ cons_option x xs ++ ys
cons-append None xs ys = refl
cons-append (Some x) xs ys = refl

marks-push : (lang : Language) (text : List ℕ) (units : List Unit) (a m : ℕ) (fs : List Found) (at mode : ℕ) (f : Found) → Follow lang text a m fs at mode
    → marks_of units a (fs ++ f ∷ []) ≡ marks_of units a fs ++ cons_option (mark_of f.spell (take f.units (drop at units))) []
marks-push lang text units a m [] at mode f follow = ap (λ v. cons_option (mark_of f.spell (take f.units (drop v units))) []) follow.0
marks-push lang text units a m (g ∷ fs) at mode f follow =
    ap (cons_option (mark_of g.spell (take g.units (drop a units)))) (marks-push lang text units (a + g.units) g.mode fs at mode f follow.1)
    ∙ cons-append (mark_of g.spell (take g.units (drop a units))) (marks_of units (a + g.units) fs) (cons_option (mark_of f.spell (take f.units (drop at units))) [])

-- `&units[at..at + n]` is the element that was found
marks-more : (lang : Language) (text : List ℕ) (units : List Unit) (fs : List Found) (at mode : ℕ) (f : Found) (old new : List Mark) → Follow lang text 0 0 fs at mode → old ≡ marks_of units 0 fs
    → new ≡ old ++ cons_option (mark_of f.spell (take (at + f.units - at) (drop at units))) [] → new ≡ marks_of units 0 (fs ++ f ∷ [])
marks-more lang text units fs at mode f old new follow old_is new_is =
    let n : at + f.units - at ≡ f.units = omega arith in
    new_is ∙ ap (λ v. v ++ cons_option (mark_of f.spell (take (at + f.units - at) (drop at units))) []) old_is
    ∙ ap (λ k. marks_of units 0 fs ++ cons_option (mark_of f.spell (take k (drop at units))) []) n
    ∙ sym (marks-push lang text units 0 0 fs at mode f follow)

TokensFollow-push : (from : ℕ) (ts : List Spelled) (mid to : ℕ) (t : Spelled) → TokensFollow from ts mid → mid ≤ t.token.start → 0 < t.token.len → t.token.start + t.token.len ≡ to → TokensFollow from (ts ++ t ∷ []) to
TokensFollow-push from [] mid to t follow le some ends = (omega arith, some, omega arith)
TokensFollow-push from (s ∷ ts) mid to t follow le some ends = (follow.0, follow.1, TokensFollow-push (s.token.start + s.token.len) ts mid to t follow.2 le some ends)

pub TokensFollow-to : (from : ℕ) (ts : List Spelled) (to more : ℕ) → to ≤ more → TokensFollow from ts to → TokensFollow from ts more
TokensFollow-to from [] to more le follow = omega arith
TokensFollow-to from (s ∷ ts) to more le follow = (follow.0, follow.1, TokensFollow-to (s.token.start + s.token.len) ts to more le follow.2)

-- The elements so far, and their marks and tokens, of which the last ends at a byte.
pub record SoFar (lang : Language) (bytes : List ℕ) (units : List Unit) (tokens : List Spelled) (marks : List Mark) (at mode end : ℕ) : Type 0 where
  pub elements : List Found
  pub follow : Follow lang (characters units) 0 0 elements at mode
  pub tokens_are : tokens ≡ tokens_of bytes units 0 elements
  pub marks_are : marks ≡ marks_of units 0 elements
  pub inside : at ≤ length units
  pub behind : InOrder end (drop at units) (length bytes)
  pub ordered : TokensFollow 0 tokens end

pub none_so_far : (lang : Language) (bytes : List ℕ) (units : List Unit) → InOrder 0 units (length bytes) → SoFar lang bytes units [] [] 0 0 0
none_so_far lang bytes units order = record { elements = []; follow = (refl, refl); tokens_are = refl; marks_are = refl; inside = zero-le; behind = order; ordered = zero-le }

-- elements after elements
Follow-append : (lang : Language) (text : List ℕ) (a m : ℕ) (fs : List Found) (at mode : ℕ) (gs : List Found) (end last : ℕ) → Follow lang text a m fs at mode → Follow lang text at mode gs end last
    → Follow lang text a m (fs ++ gs) end last
Follow-append lang text a m [] at mode gs end last h k = subst (λ v. Follow lang text v m gs end last) (sym h.0) (subst (λ v. Follow lang text at v gs end last) (sym h.1) k)
Follow-append lang text a m (f ∷ fs) at mode gs end last h k = (h.0, Follow-append lang text (a + f.units) f.mode fs at mode gs end last h.1 k)

tokens-more : (bytes : List ℕ) (units : List Unit) (a : ℕ) (fs gs : List Found) → length (tokens_of bytes units a fs) ≤ length (tokens_of bytes units a (fs ++ gs))
tokens-more bytes units a [] gs = zero-le
tokens-more bytes units a (f ∷ fs) gs =
    let own = token_of bytes f.spell (take f.units (drop a units)) in
    let few = length-append own (tokens_of bytes units (a + f.units) fs) in
    let many = length-append own (tokens_of bytes units (a + f.units) (fs ++ gs)) in
    let rest = tokens-more bytes units (a + f.units) fs gs in
    omega arith

-- from a unit and a mode on, elements stand up to here
pub record Gone (lang : Language) (units : List Unit) (from there at mode : ℕ) : Type 0 where
  pub elements : List Found
  pub follow : Follow lang (characters units) from there elements at mode
  pub inside : at ≤ length units

pub none_gone : (lang : Language) (units : List Unit) (at mode : ℕ) → at ≤ length units → Gone lang units at mode at mode
none_gone lang units at mode inside = record { elements = []; follow = (refl, refl); inside = inside }

pub one_gone : {lang : Language} {units : List Unit} {from there at mode : ℕ} → Gone lang units from there at mode → (f : Found) → Takes lang at mode (drop at (characters units)) (Some f) → at + f.units ≤ length units
    → Gone lang units from there (at + f.units) f.mode
one_gone {lang} {units} {from} {there} {at} {mode} gone f takes inside = record {
  elements = gone.elements ++ f ∷ [];
  follow = Follow-push lang (characters units) from there gone.elements at mode f gone.follow takes;
  inside = inside;
}

-- all the text
pub all_gone : {lang : Language} {units : List Unit} {from there at mode : ℕ} → Gone lang units from there at mode → length units ≤ at → GoesToEnd lang units from there
all_gone {lang} {units} {from} {there} {at} {mode} gone end =
    let whole : at ≡ length units = omega (arith, gone.inside) in
    (gone.elements, mode, subst (λ v. Follow lang (characters units) from there gone.elements v mode) whole gone.follow)

-- a text with a fault after its first tokens, or with too many
pub faulty : {lang : Language} {bytes : List ℕ} {units : List Unit} {tokens : List Spelled} {marks : List Mark} {at mode end : ℕ} → SoFar lang bytes units tokens marks at mode end → (byte : ℕ) → StopsFrom lang units at mode byte → EndsAt lang units byte
faulty {lang} {bytes} {units} {tokens} {marks} {at} {mode} {end} so_far byte stops = record {
  elements = so_far.elements ++ stops.elements;
  at = stops.at;
  mode = stops.mode;
  before = Follow-append lang (characters units) 0 0 so_far.elements at mode stops.elements stops.at stops.mode so_far.follow stops.before;
  inside = stops.inside;
  nothing = stops.nothing;
  byte_is = stops.byte_is;
}

pub too_many : {lang : Language} {bytes : List ℕ} {units : List Unit} {tokens : List Spelled} {marks : List Mark} {at mode end : ℕ} → SoFar lang bytes units tokens marks at mode end → 262144 < length tokens → GoesToEnd lang units at mode → IsCut lang bytes units cuts.Large
too_many {lang} {bytes} {units} {tokens} {marks} {at} {mode} {end} so_far many rest = (
  so_far.elements ++ rest.0,
  (rest.1, Follow-append lang (characters units) 0 0 so_far.elements at mode rest.0 (length units) rest.1 so_far.follow rest.2),
  let is = ap length so_far.tokens_are in let more = tokens-more bytes units 0 so_far.elements rest.0 in omega arith,
)

pub further : (at n : ℕ) (units : List Unit) → drop n (drop at units) ≡ drop (at + n) units
further at n units = drop-drop n at units ∙ ap (λ k. drop k units) (omega arith)

-- an element that is no token
pub one_blank : {lang : Language} {bytes : List ℕ} {units : List Unit} {tokens : List Spelled} {marks : List Mark} {at mode end : ℕ} → SoFar lang bytes units tokens marks at mode end → (f : Found) → Takes lang at mode (drop at (characters units)) (Some f)
    → at + f.units ≤ length units → tokens ≡ tokens ++ token_of bytes f.spell (take f.units (drop at units)) → (marked : List Mark) → marked ≡ marks ++ cons_option (mark_of f.spell (take (at + f.units - at) (drop at units))) []
    → SoFar lang bytes units tokens marked (at + f.units) f.mode end
one_blank {lang} {bytes} {units} {tokens} {marks} {at} {mode} {end} so_far f takes inside none marked marked_is = record {
  elements = so_far.elements ++ f ∷ [];
  follow = Follow-push lang (characters units) 0 0 so_far.elements at mode f so_far.follow takes;
  tokens_are = none ∙ ap (λ v. v ++ token_of bytes f.spell (take f.units (drop at units))) so_far.tokens_are ∙ sym (tokens-push lang (characters units) bytes units 0 0 so_far.elements at mode f so_far.follow);
  marks_are = marks-more lang (characters units) units so_far.elements at mode f marks marked so_far.follow so_far.marks_are marked_is;
  inside = inside;
  behind = subst (λ us. InOrder end us (length bytes)) (further at f.units units) (InOrder-drop f.units end (drop at units) (length bytes) so_far.behind);
  ordered = so_far.ordered;
}

-- an element that is a token
pub one_token : {lang : Language} {bytes : List ℕ} {units : List Unit} {tokens : List Spelled} {marks : List Mark} {at mode end : ℕ} → SoFar lang bytes units tokens marks at mode end → (f : Found) → Takes lang at mode (drop at (characters units)) (Some f)
    → at + f.units ≤ length units → (class : Class) (s : Spelled) (more : List Spelled) → f.spell ≡ TokenOf class → s ≡ spelled_of bytes class (take (at + f.units - at) (drop at units)) → more ≡ tokens ++ s ∷ [] → (marked : List Mark) → marked ≡ marks ++ cons_option (mark_of f.spell (take (at + f.units - at) (drop at units))) []
    → SoFar lang bytes units more marked (at + f.units) f.mode (s.token.start + s.token.len)
one_token {lang} {bytes} {units} {tokens} {marks} {at} {mode} {end} so_far f takes inside class s more spell s_is more_is marked marked_is =
    let n : at + f.units - at ≡ f.units = omega arith in
    let here : List Unit = take f.units (drop at units) in
    let is : s ≡ spelled_of bytes class here = s_is ∙ ap (λ k. spelled_of bytes class (take k (drop at units))) n in
    let some : 0 < f.units = takes.0.some in
    let left : f.units ≤ length (drop at units) = omega (arith, length-drop at units) in
    let many : 0 < length here = taken_some f.units (drop at units) some left in
    let order : InOrder end here (length bytes) = InOrder-take f.units end (drop at units) (length bytes) so_far.behind in
    let ends = InOrder-ends end here (length bytes) order many in
    let start_is : s.token.start ≡ (unit_at here 0).start = ap (λ (v : Spelled). v.token.start) is in
    let len_is : s.token.len ≡ end_of here - (unit_at here 0).start = ap (λ (v : Spelled). v.token.len) is in
    let reaches : s.token.start + s.token.len ≡ end_of here = omega (arith, start_is, len_is, ends.1) in
    record {
      elements = so_far.elements ++ f ∷ [];
      follow = Follow-push lang (characters units) 0 0 so_far.elements at mode f so_far.follow takes;
      tokens_are = more_is ∙ ap (λ v. tokens ++ v ∷ []) is ∙ ap (λ v. tokens ++ token_of bytes v here) (sym spell)
          ∙ ap (λ v. v ++ token_of bytes f.spell here) so_far.tokens_are ∙ sym (tokens-push lang (characters units) bytes units 0 0 so_far.elements at mode f so_far.follow);
      marks_are = marks-more lang (characters units) units so_far.elements at mode f marks marked so_far.follow so_far.marks_are marked_is;
      inside = inside;
      behind = subst (λ us. InOrder (s.token.start + s.token.len) us (length bytes)) (further at f.units units)
          (subst (λ e. InOrder e (drop f.units (drop at units)) (length bytes)) (sym reaches) (InOrder-behind f.units end (drop at units) (length bytes) some left so_far.behind));
      ordered = subst (λ ts. TokensFollow 0 ts (s.token.start + s.token.len)) (sym more_is) (TokensFollow-push 0 tokens end (s.token.start + s.token.len) s so_far.ordered (omega (arith, start_is, ends.0)) (omega (arith, len_is, ends.1)) refl);
    }
  where
    taken_some : (n : ℕ) (xs : List Unit) → 0 < n → n ≤ length xs → 0 < length (take n xs)
    taken_some n xs some within = omega (arith, length-take-le n xs within)

-- an element stays inside the units
pub stays_inside : (units : List Unit) (at n : ℕ) → at < length units → n ≤ length (drop at (characters units)) → at + n ≤ length units
stays_inside units at n inside within =
    let as_many = length-map units (λ (u : Unit). u.ch) in
    let left = length-drop at (characters units) in
    omega arith

-- an element of a kind that has no token, no mark, or the mark of that kind
pub unspelled : (bytes : List ℕ) (old : List Spelled) (spell kind : Spell) (units : List Unit) → spell ≡ kind → token_of bytes kind units ≡ [] → old ≡ old ++ token_of bytes spell units
unspelled bytes old spell kind units is none = sym (ap (λ k. old ++ token_of bytes k units) is ∙ ap (λ ts. old ++ ts) none ∙ append-nil old)

pub unmarked : (old : List Mark) (spell kind : Spell) (units : List Unit) → spell ≡ kind → mark_of kind units ≡ None → old ≡ old ++ cons_option (mark_of spell units) []
unmarked old spell kind units is none = sym (ap (λ k. old ++ cons_option (mark_of k units) []) is ∙ ap (λ m. old ++ cons_option m []) none ∙ append-nil old)

pub marked : (old new : List Mark) (spell kind : Spell) (units : List Unit) → spell ≡ kind → new ≡ old ++ cons_option (mark_of kind units) [] → new ≡ old ++ cons_option (mark_of spell units) []
marked old new spell kind units is new_is = new_is ∙ ap (λ k. old ++ cons_option (mark_of k units) []) (sym is)
