-- Files in path order that are cut at a path.
use Rattle.std.proofs.Common.{Global, ◌≡◌, ℕ, zero, suc, ◌+◌, ◌-◌, ◌≤◌, true, false, true≢false, length-drop, List, [], ◌∷◌, ◌++◌, length, map, take, drop, Option, refl, sym, ap, ap₂, ◌∙◌, subst, arith}
use Rattle.std.specs.Arc.{arc_value}
use Rattle.std.specs.declared.sync.Arc.{Arc}
use Rattle.std.specs.List.{AllByRecursion}
use Rattle.std.proofs.lemmas.Bool.{false_from_ne_true}
use Rattle.std.proofs.lemmas.List.{append_assoc, length-append, length-map, map-append}
use Rattle.cq_history.specs.Files.{File, is_before}
use Rattle.cq_projects.specs.declared.merging.Named.{Named}
use Rattle.cq_projects.specs.Drafts.{one_or_none, files_at, IsCut, AreCut, Merges}
use Rattle.cq_projects.specs.Projects.{path_in, path_of}
use Rattle.cq_projects.specs.Ordered.{IsAt, IsGap, AreBelow, AreAbove}
use Rattle.cq_history.proofs.PathOrder.{before_apart}
use Rattle.cq_projects.proofs.Putting.{all_below, all_above, below_not_above}
use Rattle.cq_projects.proofs.OneWalk.{AreLater, below_both, below_later, at_later}

take_seam : {X : Type 0} (a b : List X) → take (length a) (a ++ b) ≡ a
take_seam [] b = refl
take_seam (x ∷ a) b = ap (λ r. x ∷ r) (take_seam a b)

drop_seam : {X : Type 0} (a b : List X) → drop (length a) (a ++ b) ≡ b
drop_seam [] b = refl
drop_seam (x ∷ a) b = drop_seam a b

take_map : {X Y : Type 0} (f : X → Y) (n : ℕ) (xs : List X) → map f (take n xs) ≡ take n (map f xs)
take_map f zero xs = refl
take_map f (suc n) [] = refl
take_map f (suc n) (x ∷ xs) = ap (λ r. f x ∷ r) (take_map f n xs)

pub drop_map : {X Y : Type 0} (f : X → Y) (n : ℕ) (xs : List X) → map f (drop n xs) ≡ drop n (map f xs)
drop_map f zero xs = refl
drop_map f (suc n) [] = refl
drop_map f (suc n) (x ∷ xs) = drop_map f n xs

drop_front : {X : Type 0} (n : ℕ) (a b : List X) → n ≤ length a → drop n (a ++ b) ≡ drop n a ++ b
drop_front zero a b le = refl
drop_front (suc n) [] b le = absurd (omega (arith, le))
drop_front (suc n) (x ∷ a) b le = drop_front n a b (omega (arith, le))

all_drop : {X : Type 0} (P : X → Type 0) (n : ℕ) (xs : List X) → AllByRecursion P xs → AllByRecursion P (drop n xs)
all_drop P zero xs all = all
all_drop P (suc n) [] all = tt
all_drop P (suc n) (x ∷ xs) all = all_drop P n xs all.1

-- ---- a later path is cut no earlier

head_is : {X : Type 0} (x : X) (xs : List X) (y : X) (ys : List X) → x ∷ xs ≡ y ∷ ys → x ≡ y
head_is x xs y ys e = cc e

tail_is : {X : Type 0} (x : X) (xs : List X) (y : X) (ys : List X) → x ∷ xs ≡ y ∷ ys → xs ≡ ys
tail_is x xs y ys e = cc e

at_not_before : (p q : List ℕ) → p ≡ q → is_before p q ≡ false
at_not_before p q same = false_from_ne_true (is_before p q) (λ h. before_apart p q h same)

module _ {X : Type 0} (q : List ℕ) where
  not_before : (a : List (File X)) (rest low front : List (File X)) → a ++ rest ≡ low ++ front → AreBelow path_of q a → AllByRecursion (λ (f : File X). is_before f.path q ≡ false) front → length a ≤ length low
  not_before [] rest low front same below none = omega arith
  not_before (f ∷ a) rest [] [] same below none = absurd (cc)
  not_before (f ∷ a) rest [] (g ∷ front) same below none = let e : f ≡ g = head_is f (a ++ rest) g front same in let clash : is_before f.path q ≡ false = subst (λ (h : File X). is_before h.path q ≡ false) (sym e) none.0 in absurd (true≢false (sym below.0 ∙ clash))
  not_before (f ∷ a) rest (g ∷ low) front same below none = let le = not_before a rest low front (tail_is f (a ++ rest) g (low ++ front) same) below.1 none in omega (arith, le)

  none_at : (same high : List (File X)) → AllByRecursion (λ (f : File X). f.path ≡ q) same → AreAbove path_of q high → AllByRecursion (λ (f : File X). is_before f.path q ≡ false) (same ++ high)
  none_at [] [] at above = tt
  none_at [] (f ∷ high) at above = (below_not_above f.path q above.0, none_at [] high tt above.1)
  none_at (f ∷ same) high at above = (at_not_before f.path q at.0, none_at same high at.1 above)

pub cut_later : {W : Type 0} (files : List (File W)) (p q : List ℕ) (before behind from to : ℕ) → is_before p q ≡ true → IsCut p files before behind → IsCut q files from to → behind ≤ from
cut_later files p q before behind from to first here there =
    let below = below_both q here.low here.same (below_later p q here.low first here.low_below) (at_later p q here.same first here.same_at) in
    let le = not_before q (here.low ++ here.same) here.high there.low (there.same ++ there.high) (append_assoc here.low here.same here.high ∙ sym here.is ∙ there.is) below (none_at q there.same there.high there.same_at there.high_above) in
    omega (arith, le, length-append here.low here.same, here.behind_is, there.before_is)

module _ {W : Type 0} (hs : List (Arc (File W) Global)) (p : List ℕ) where
  pub cut_at : (i : ℕ) → IsAt path_in p hs i → IsCut p (map arc_value hs) i (i + 1)
  cut_at i at = record {
    low = map arc_value at.before;
    same = arc_value at.item ∷ [];
    high = map arc_value at.after;
    is = ap (λ (xs : List (Arc (File W) Global)). map arc_value xs) at.is ∙ map-append arc_value at.before (at.item ∷ at.after);
    before_is = length-map at.before (arc_value {X = File W} {Z = Global}) ∙ at.index;
    behind_is = (let e = length-map at.before (arc_value {X = File W} {Z = Global}) in omega (arith, e, at.index));
    low_below = all_below p at.before at.low;
    same_at = (at.same, tt);
    high_above = all_above p at.after at.high;
  }

  pub cut_gap : (i : ℕ) → IsGap path_in p hs i → IsCut p (map arc_value hs) i i
  cut_gap i gap = record {
    low = map arc_value gap.before;
    same = [];
    high = map arc_value gap.after;
    is = ap (λ (xs : List (Arc (File W) Global)). map arc_value xs) gap.is ∙ map-append arc_value gap.before gap.after;
    before_is = length-map gap.before (arc_value {X = File W} {Z = Global}) ∙ gap.index;
    behind_is = (let e = length-map gap.before (arc_value {X = File W} {Z = Global}) in omega (arith, e, gap.index));
    low_below = all_below p gap.before gap.low;
    same_at = tt;
    high_above = all_above p gap.after gap.high;
  }

  module _ (before behind : ℕ) (cut : IsCut p (map arc_value hs) before behind) where
    whole : length hs ≡ length cut.low + (length cut.same + length cut.high)
    whole = sym (length-map hs (arc_value {X = File W} {Z = Global})) ∙ ap length cut.is ∙ length-append cut.low (cut.same ++ cut.high) ∙ ap (λ n. length cut.low + n) (length-append cut.same cut.high)

    pub behind_within : behind ≤ length hs
    behind_within = omega (arith, whole, cut.behind_is)

    pub cut_order : before ≤ behind
    cut_order = omega (arith, cut.before_is, cut.behind_is)

    rest_is : (from : ℕ) → from ≤ before → drop from (map arc_value hs) ≡ drop from cut.low ++ (cut.same ++ cut.high)
    rest_is from le = ap (drop from) cut.is ∙ drop_front from cut.low (cut.same ++ cut.high) (omega (arith, le, cut.before_is))

    left_is : map arc_value (drop behind hs) ≡ cut.high
    left_is =
        drop_map (arc_value {X = File W} {Z = Global}) behind hs
        ∙ ap₂ (λ n xs. drop n xs) (sym cut.behind_is ∙ sym (length-append cut.low cut.same)) (cut.is ∙ sym (append_assoc cut.low cut.same cut.high))
        ∙ drop_seam (cut.low ++ cut.same) cut.high

    front_same : (from : ℕ) → from ≤ before → map arc_value (take (before - from) (drop from hs)) ≡ drop from cut.low
    front_same from le =
        take_map (arc_value {X = File W} {Z = Global}) (before - from) (drop from hs) ∙ ap (take (before - from)) (drop_map (arc_value {X = File W} {Z = Global}) from hs ∙ rest_is from le)
        ∙ ap (λ n. take n (drop from cut.low ++ (cut.same ++ cut.high))) (let e = length-drop from cut.low in omega (arith, e, cut.before_is)) ∙ take_seam (drop from cut.low) (cut.same ++ cut.high)

    -- of the files from an index on, those before the path come after the ones that are done, and then what stands there
    pub merges : (from : ℕ) → from ≤ before → (file : Option (Arc (File W) Global)) (done now : List (File W)) → now ≡ done ++ (map arc_value (take (before - from) (drop from hs)) ++ one_or_none file) →
        Merges p file done now (map arc_value (drop from hs)) (map arc_value (drop behind hs))
    merges from le file done now is = record {
      low = drop from cut.low;
      same = cut.same;
      is = drop_map (arc_value {X = File W} {Z = Global}) from hs ∙ rest_is from le ∙ ap (λ r. drop from cut.low ++ (cut.same ++ r)) (sym left_is);
      now_is = is ∙ ap (λ r. done ++ (r ++ one_or_none file)) (front_same from le);
      low_below = all_drop (λ (f : File W). is_before f.path p ≡ true) from cut.low cut.low_below;
      same_at = cut.same_at;
      left_above = subst (λ xs. AreAbove path_of p xs) (sym left_is) cut.high_above;
    }

-- ---- the paths that are left are cut no earlier

module _ {W : Type 0} where
  abbrev pub AreFrom : ℕ → List (Arc (List ℕ) Global × Named W) → Type 0
  AreFrom from es = AllByRecursion (λ (e : Arc (List ℕ) Global × Named W). from ≤ e.1.before) es

  pub from_first : (es : List (Arc (List ℕ) Global × Named W)) → AreFrom 0 es
  from_first [] = tt
  from_first (e ∷ es) = (omega arith, from_first es)

  pub from_next : (files : List (File W)) (p : List ℕ) (before behind : ℕ) (es : List (Arc (List ℕ) Global × Named W)) → IsCut p files before behind → AreLater p (files_at es) → AreCut files es → AreFrom behind es
  from_next files p before behind [] cut later cuts = tt
  from_next files p before behind (e ∷ es) cut later cuts = (cut_later files p (arc_value e.0) before behind e.1.before e.1.behind later.0 cut cuts.0, from_next files p before behind es cut later.1 cuts.1)
