-- The splices that the translation leaves out are those that the characters around them tell.
use Rattle.std.proofs.Common.{◌≡◌, ℕ, ◌-◌, Bool, true, false, ◌&&◌, ◌||◌, ◌==◌, List, [], ◌∷◌, refl, sym, ap, ◌∙◌}
use Rattle.std.specs.Prelude.{if◌then◌else◌}
use Rattle.std.proofs.lemmas.Bool.{eqb-true, and_from, and_right, or_left, or_right}
use Rattle.cq_munch.specs.declared.unit.Unit.{Unit}
use Rattle.cq_lex_c.specs.Splices.{begins_with_lf, splice_len, kept, spliced}
use Rattle.cq_lex_c.specs.Staying.{begins_with_line_end, is_in_splice, staying, OnlySplicesAreLeftOut}
use Rattle.cq_lex_c.proofs.Leaving.{spliced_keep}

-- ---- tests

then_taken : {A : Type 0} (b : Bool) (x y : A) → b ≡ true → (if b then x else y) ≡ x
then_taken true x y h = refl
then_taken false x y h = absurd (cc)

else_taken : {A : Type 0} (b : Bool) (x y : A) → b ≡ false → (if b then x else y) ≡ y
else_taken true x y h = absurd (cc)
else_taken false x y h = refl

no_three : (a b c : Bool) → a ≡ false → b ≡ false → c ≡ false → (a || (b || c)) ≡ false
no_three true b c h k l = absurd (cc)
no_three false true c h k l = absurd (cc)
no_three false false c h k l = l

neither : (a f g : Bool) → (a && f) ≡ false → (a && g) ≡ false → (a && (f || g)) ≡ false
neither true true g h k = absurd (cc)
neither true false g h k = k
neither false f g h k = refl

not_second : (a f g : Bool) → (a && (f || g)) ≡ false → (a && g) ≡ false
not_second true true g h = absurd (cc)
not_second true false g h = h
not_second false f g h = refl

both_or_not : {A : Type 0} (a b : Bool) → (a ≡ true → b ≡ true → A) → ((a && b) ≡ false → A) → A
both_or_not true true both none = both refl refl
both_or_not true false both none = none refl
both_or_not false b both none = none refl

all_or_not : {A : Type 0} (a b c : Bool) → (a ≡ true → b ≡ true → c ≡ true → A) → ((a && (b && c)) ≡ false → A) → A
all_or_not true true true all none = all refl refl refl
all_or_not true true false all none = none refl
all_or_not true false c all none = none refl
all_or_not false b c all none = none refl

-- ---- how long a splice is

none_by : (slash feed return more : Bool) (two three none : ℕ) → (slash && (feed || (return && more))) ≡ false → (if slash && feed then two else (if slash && (return && more) then three else none)) ≡ none
none_by false feed return more two three none h = refl
none_by true true return more two three none h = absurd (cc)
none_by true false true true two three none h = absurd (cc)
none_by true false true false two three none h = refl
none_by true false false more two three none h = refl

len_none : (u : Unit) (us : List Unit) → ((u.ch == 92) && begins_with_line_end us) ≡ false → splice_len (u ∷ us) ≡ 0
len_none u [] h = refl
len_none u (v ∷ us) h = none_by (u.ch == 92) (v.ch == 10) (v.ch == 13) (begins_with_lf us) 2 3 0 h

two_by : (slash feed other : Bool) (two three none : ℕ) → slash ≡ true → feed ≡ true → (if slash && feed then two else (if slash && other then three else none)) ≡ two
two_by slash feed other two three none s f = then_taken (slash && feed) two (if slash && other then three else none) (and_from _ _ s f)

three_by : (slash feed other : Bool) (two three none : ℕ) → slash ≡ true → feed ≡ false → other ≡ true → (if slash && feed then two else (if slash && other then three else none)) ≡ three
three_by slash feed other two three none s f o =
    else_taken (slash && feed) two (if slash && other then three else none) (and_right slash feed f) ∙ then_taken (slash && other) three none (and_from _ _ s o)

two_gone : (u v : Unit) (us : List Unit) → splice_len (u ∷ v ∷ us) ≡ 2 → spliced 0 (u ∷ v ∷ us) ≡ spliced 0 us
unfolding spliced
two_gone u v us h = ap (λ n. kept n u (spliced 0 (v ∷ us)) (spliced (n - 1) (v ∷ us))) h

three_gone : (u v w : Unit) (us : List Unit) → splice_len (u ∷ v ∷ w ∷ us) ≡ 3 → spliced 0 (u ∷ v ∷ w ∷ us) ≡ spliced 0 us
unfolding spliced
three_gone u v w us h = ap (λ n. kept n u (spliced 0 (v ∷ w ∷ us)) (spliced (n - 1) (v ∷ w ∷ us))) h

-- ---- one unit or one splice more

-- no splice reaches in from before
record Free (two one : ℕ) (us : List Unit) : Type 0 where
  line : ((one == 92) && begins_with_line_end us) ≡ false
  feed : ((two == 92) && ((one == 13) && begins_with_lf us)) ≡ false

kept_step : (two one : ℕ) (u : Unit) (us : List Unit) → Free two one (u ∷ us) → ((u.ch == 92) && begins_with_line_end us) ≡ false → (Free one u.ch us → spliced 0 us ≡ staying one u.ch us) → spliced 0 (u ∷ us) ≡ staying two one (u ∷ us)
kept_step two one u us free none rest =
    let next : Free one u.ch us = record { line = none; feed = not_second (one == 92) (u.ch == 10) ((u.ch == 13) && begins_with_lf us) free.line } in
    spliced_keep u us (len_none u us none) ∙ ap (λ v. u ∷ v) (rest next)
    ∙ sym (else_taken (is_in_splice two one (u ∷ us)) (staying one u.ch us) (u ∷ staying one u.ch us) (no_three _ _ _ none free.line free.feed))

two_step : (two one : ℕ) (u v : Unit) (us : List Unit) → (u.ch == 92) ≡ true → (v.ch == 10) ≡ true → (Free u.ch v.ch us → spliced 0 us ≡ staying u.ch v.ch us) → spliced 0 (u ∷ v ∷ us) ≡ staying two one (u ∷ v ∷ us)
two_step two one u v us slash feed rest =
    let is : v.ch ≡ 10 = eqb-true v.ch 10 feed in
    let next : Free u.ch v.ch us = record {
      line = ap (λ c. (c == 92) && begins_with_line_end us) is;
      feed = and_right (u.ch == 92) ((v.ch == 13) && begins_with_lf us) (ap (λ c. (c == 13) && begins_with_lf us) is);
    } in
    let both = and_from _ _ slash (or_left (v.ch == 10) ((v.ch == 13) && begins_with_lf us) feed) in
    two_gone u v us (two_by (u.ch == 92) (v.ch == 10) ((v.ch == 13) && begins_with_lf us) 2 3 0 slash feed) ∙ rest next
    ∙ sym (then_taken (is_in_splice one u.ch (v ∷ us)) (staying u.ch v.ch us) (v ∷ staying u.ch v.ch us) (or_right _ _ (or_left _ _ both)))
    ∙ sym (then_taken (is_in_splice two one (u ∷ v ∷ us)) (staying one u.ch (v ∷ us)) (u ∷ staying one u.ch (v ∷ us)) (or_left _ _ both))

three_step : (two one : ℕ) (u v w : Unit) (us : List Unit) → (u.ch == 92) ≡ true → (v.ch == 13) ≡ true → (w.ch == 10) ≡ true → (Free v.ch w.ch us → spliced 0 us ≡ staying v.ch w.ch us)
    → spliced 0 (u ∷ v ∷ w ∷ us) ≡ staying two one (u ∷ v ∷ w ∷ us)
three_step two one u v w us slash return feed rest =
    let is : v.ch ≡ 13 = eqb-true v.ch 13 return in
    let feed_is : w.ch ≡ 10 = eqb-true w.ch 10 feed in
    let next : Free v.ch w.ch us = record {
      line = ap (λ c. (c == 92) && begins_with_line_end us) feed_is;
      feed = ap (λ c. (c == 92) && ((w.ch == 13) && begins_with_lf us)) is;
    } in
    let line = and_from _ _ return feed in
    let both = and_from _ _ slash (or_right (v.ch == 10) ((v.ch == 13) && (w.ch == 10)) line) in
    three_gone u v w us (three_by (u.ch == 92) (v.ch == 10) ((v.ch == 13) && (w.ch == 10)) 2 3 0 slash (ap (λ c. c == 10) is) line) ∙ rest next
    ∙ sym (then_taken (is_in_splice u.ch v.ch (w ∷ us)) (staying v.ch w.ch us) (w ∷ staying v.ch w.ch us) (or_right _ _ (or_right _ _ (and_from _ _ slash line))))
    ∙ sym (then_taken (is_in_splice one u.ch (v ∷ w ∷ us)) (staying u.ch v.ch (w ∷ us)) (v ∷ staying u.ch v.ch (w ∷ us)) (or_right _ _ (or_left _ _ both)))
    ∙ sym (then_taken (is_in_splice two one (u ∷ v ∷ w ∷ us)) (staying one u.ch (v ∷ w ∷ us)) (u ∷ staying one u.ch (v ∷ w ∷ us)) (or_left _ _ both))

stays : (two one : ℕ) (us : List Unit) → Free two one us → spliced 0 us ≡ staying two one us
unfolding spliced
stays two one [] free = refl
stays two one (u ∷ []) free = kept_step two one u [] free (and_right (u.ch == 92) false refl) (λ h. stays one u.ch [] h)
stays two one (u ∷ v ∷ []) free =
    both_or_not (u.ch == 92) (v.ch == 10)
    (λ slash feed. two_step two one u v [] slash feed (λ h. stays u.ch v.ch [] h))
    (λ none. kept_step two one u (v ∷ []) free (neither (u.ch == 92) (v.ch == 10) ((v.ch == 13) && false) none (and_right (u.ch == 92) ((v.ch == 13) && false) (and_right (v.ch == 13) false refl))) (λ h. stays one u.ch (v ∷ []) h))
stays two one (u ∷ v ∷ w ∷ us) free =
    both_or_not (u.ch == 92) (v.ch == 10)
    (λ slash feed. two_step two one u v (w ∷ us) slash feed (λ h. stays u.ch v.ch (w ∷ us) h))
    (λ none.
    all_or_not (u.ch == 92) (v.ch == 13) (w.ch == 10)
    (λ slash return feed. three_step two one u v w us slash return feed (λ h. stays v.ch w.ch us h))
    (λ no_return. kept_step two one u (v ∷ w ∷ us) free (neither (u.ch == 92) (v.ch == 10) ((v.ch == 13) && (w.ch == 10)) none no_return) (λ h. stays one u.ch (v ∷ w ∷ us) h)))

pub only_splices : OnlySplicesAreLeftOut
only_splices units = stays 0 0 units (record { line = refl; feed = refl })
