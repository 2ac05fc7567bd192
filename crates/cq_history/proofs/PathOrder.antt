-- Files in path order, as they are taken out and put in.
use Rattle.std.proofs.Common.{◌≡◌, ◌⊎◌, ℕ, zero, suc, ◌+◌, Bool, true, false, cond, List, [], ◌∷◌, filter, insert, refl, sym, subst, ap, ◌∙◌, ⊎_elim, inl, inr, arith}
use Rattle.std.specs.Prelude.{not}
use Rattle.std.specs.List.{AllByRecursion}
use Rattle.std.specs.Str.{bytes_eq}
use Rattle.std.specs.declared.cmp.Ordering.{Ordering}
use Rattle.std.specs.declared.cmp.Ordering.TheVariants.{Less, Equal, Greater}
use Rattle.std.specs.Ordering.{nat_cmp, is_lt, ordering_reverse}
use Rattle.std.specs.Cmp.Lexicographic.{slice_cmp}
use Rattle.std.proofs.lemmas.Cmp.{nat_list_cmp_total}
use Rattle.std.proofs.lemmas.Map.Lookups.{exact_bytes}
use Rattle.std.proofs.lemmas.Slice.Eq.{bytes_eq-Decides}
use Rattle.std.proofs.lemmas.Bool.{false_from_ne_true}
use Rattle.cq_base.proofs.Orderings.{Less-from_is_lt, Equal-from_reverse}
use Rattle.cq_history.specs.Files.{Source, is_before, place_of, without_file}
use Rattle.cq_history.specs.Standing.{Has, AreInPathOrder}

pub before_chain : (p q r : List ℕ) → is_before p q ≡ true → is_before q r ≡ true → is_before p r ≡ true
before_chain p q r a b = ap is_lt (nat_list_cmp_total.trans p q r (Less-from_is_lt _ a) (Less-from_is_lt _ b))

turned : (r s : Ordering) → s ≡ ordering_reverse r → is_lt r ≡ false → (r ≡ Equal → ⊥) → is_lt s ≡ true
turned Less s e h n = absurd (cc)
turned Equal s e h n = absurd (n refl)
turned Greater s e h n = ap is_lt e

-- of two different paths one is before the other
pub before_other : (p q : List ℕ) → is_before p q ≡ false → bytes_eq p q ≡ false → is_before q p ≡ true
before_other p q h apart =
    turned (slice_cmp nat_cmp p q) (slice_cmp nat_cmp q p) (nat_list_cmp_total.antisymm q p) h
    (λ same. let equal : bytes_eq p q ≡ true = (bytes_eq-Decides p q).1 (exact_bytes p q same) in absurd (cc))

not_less : (r : Ordering) → is_lt r ≡ true → r ≡ Equal → ⊥
not_less Less h e = absurd (cc)
not_less Equal h e = absurd (cc)
not_less Greater h e = absurd (cc)

-- a path before another is not that one
pub before_apart : (p q : List ℕ) → is_before p q ≡ true → p ≡ q → ⊥
before_apart p q h same = not_less (slice_cmp nat_cmp p q) h (ap (slice_cmp nat_cmp p) (sym same) ∙ Equal-from_reverse (slice_cmp nat_cmp p p) (nat_list_cmp_total.antisymm p p))

pub below_apart : (p q : List ℕ) → is_before q p ≡ true → bytes_eq p q ≡ false
below_apart p q h = false_from_ne_true (bytes_eq p q) (λ e. before_apart q p h (sym ((bytes_eq-Decides p q).0 e)))

-- ---- taken out

pub has_filter : (test : Source → Bool) (files : List Source) (f : Source) → Has (filter test files) f → Has files f × (test f ≡ true)
has_filter test [] f h = absurd h
has_filter test (g ∷ files) f h = go (test g) refl h (has_filter test files f)
  where
    go : (b : Bool) → test g ≡ b → Has (cond b (g ∷ filter test files) (filter test files)) f → (Has (filter test files) f → Has files f × (test f ≡ true)) → Has (g ∷ files) f × (test f ≡ true)
    go true e h rest = ⊎_elim (λ same. (inl same, ap test (sym same) ∙ e)) (λ later. (inr (rest later).0, (rest later).1)) h
    go false e h rest = (inr (rest h).0, (rest h).1)

pub filter_has : (test : Source → Bool) (files : List Source) (f : Source) → Has files f → test f ≡ true → Has (filter test files) f
filter_has test [] f h t = absurd h
filter_has test (g ∷ files) f h t = go (test g) refl h (λ later. filter_has test files f later t)
  where
    go : (b : Bool) → test g ≡ b → Has (g ∷ files) f → (Has files f → Has (filter test files) f) → Has (cond b (g ∷ filter test files) (filter test files)) f
    go true e h rest = ⊎_elim (λ same. inl same) (λ later. inr (rest later)) h
    go false e h rest = ⊎_elim (λ same. let clash : test f ≡ false = ap test (sym same) ∙ e in absurd (cc)) rest h

pub all_filter : (P : Source → Type 0) (test : Source → Bool) (files : List Source) → AllByRecursion P files → AllByRecursion P (filter test files)
all_filter P test [] all = tt
all_filter P test (g ∷ files) all = go (test g) (all_filter P test files all.1)
  where
    go : (b : Bool) → AllByRecursion P (filter test files) → AllByRecursion P (cond b (g ∷ filter test files) (filter test files))
    go true rest = (all.0, rest)
    go false rest = rest

pub order_filter : (test : Source → Bool) (files : List Source) → AreInPathOrder files → AreInPathOrder (filter test files)
order_filter test [] o = tt
order_filter test (g ∷ files) o = go (test g) (order_filter test files o.1)
  where
    go : (b : Bool) → AreInPathOrder (filter test files) → AreInPathOrder (cond b (g ∷ filter test files) (filter test files))
    go true rest = (all_filter (λ (f : Source). is_before g.path f.path ≡ true) test files o.0, rest)
    go false rest = rest

-- ---- put in

pub has_insert : (files : List Source) (n : ℕ) (g f : Source) → Has (insert files n g) f → (g ≡ f) ⊎ Has files f
has_insert files zero g f h = h
has_insert [] (suc n) g f h = h
has_insert (x ∷ files) (suc n) g f h = ⊎_elim (λ same. inr (inl same)) (λ later. ⊎_elim (λ same. inl same) (λ there. inr (inr there)) (has_insert files n g f later)) h

pub insert_has : (files : List Source) (n : ℕ) (g f : Source) → (g ≡ f) ⊎ Has files f → Has (insert files n g) f
insert_has files zero g f h = h
insert_has [] (suc n) g f h = h
insert_has (x ∷ files) (suc n) g f h = ⊎_elim (λ same. inr (insert_has files n g f (inl same))) (λ there. ⊎_elim (λ here. inl here) (λ later. inr (insert_has files n g f (inr later))) there) h

all_insert : (P : Source → Type 0) (files : List Source) (n : ℕ) (g : Source) → AllByRecursion P files → P g → AllByRecursion P (insert files n g)
all_insert P files zero g all here = (here, all)
all_insert P [] (suc n) g all here = (here, tt)
all_insert P (x ∷ files) (suc n) g all here = (all.0, all_insert P files n g all.1 here)

pub all_behind : (p q : List ℕ) (files : List Source) → is_before p q ≡ true → AllByRecursion (λ (g : Source). is_before q g.path ≡ true) files → AllByRecursion (λ (g : Source). is_before p g.path ≡ true) files
all_behind p q [] before all = tt
all_behind p q (g ∷ files) before all = (before_chain p q g.path before all.0, all_behind p q files before all.1)

-- none of the files is at the path
abbrev pub AreElsewhere : List ℕ → List Source → Type 0
AreElsewhere p files = AllByRecursion (λ (g : Source). bytes_eq p g.path ≡ false) files

pub one_more : (n : ℕ) → suc n ≡ 1 + n
one_more n = omega arith

pub order_insert : (files : List Source) (f : Source) → AreInPathOrder files → AreElsewhere f.path files → AreInPathOrder (insert files (place_of f.path files) f)
order_insert [] f o apart = (tt, tt)
order_insert (x ∷ files) f o apart = go (is_before f.path x.path) refl (order_insert files f o.1 apart.1)
  where
    go : (b : Bool) → is_before f.path x.path ≡ b → AreInPathOrder (insert files (place_of f.path files) f) → AreInPathOrder (insert (x ∷ files) (cond (not b) (1 + place_of f.path files) 0) f)
    go true e rest = ((e, all_behind f.path x.path files e o.0), o)
    go false e rest =
        subst (λ n. AreInPathOrder (insert (x ∷ files) n f)) (one_more (place_of f.path files))
        (all_insert (λ (g : Source). is_before x.path g.path ≡ true) files (place_of f.path files) f o.0 (before_other f.path x.path e apart.0), rest)

pub elsewhere : (p : List ℕ) (files : List Source) → AreElsewhere p (without_file p files)
elsewhere p [] = tt
elsewhere p (g ∷ files) = go (bytes_eq p g.path) refl (elsewhere p files)
  where
    go : (b : Bool) → bytes_eq p g.path ≡ b → AreElsewhere p (without_file p files) → AreElsewhere p (cond (not b) (g ∷ without_file p files) (without_file p files))
    go true e rest = rest
    go false e rest = (e, rest)
