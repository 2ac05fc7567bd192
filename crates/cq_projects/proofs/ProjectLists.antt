-- The projects of a listing.
use Rattle.std.proofs.Common.{◌≡◌, ℕ, zero, suc, ◌+◌, ◌<◌, Bool, true, false, cond, not, List, [], ◌∷◌, ◌++◌, length, get_or, set, refl, sym, ap, ◌∙◌, subst, arith, ⊎_elim}
use Rattle.std.specs.List.{AllByRecursion, position_or_len}
use Rattle.std.specs.Str.{bytes_eq}
use Rattle.std.proofs.lemmas.Slice.Eq.{bytes_eq-Decides}
use Rattle.std.proofs.lemmas.Bool.{cases_Bool}
use Rattle.cq_base.specs.declared.change.Condition.{Condition}
use Rattle.cq_history.specs.Files.{File}
use Rattle.cq_projects.specs.Projects.{files_in, conditions_in, position_of, ListedProject}

-- a: q is the first project's; b: q is the name; c: the name is the first project's
swap_case : {A : Type 0} (a b c : Bool) (x y z : A) → c ≡ false → (a ≡ true → b ≡ true → c ≡ true) → cond a x (cond b y z) ≡ cond b y (cond a x z)
swap_case true true c x y z e both = let no : true ≡ false = sym (both refl refl) ∙ e in absurd (cc)
swap_case true false c x y z e both = refl
swap_case false b c x y z e both = refl

-- both hold of the same text
same_name : (q r s : List ℕ) → bytes_eq q r ≡ true → bytes_eq q s ≡ true → bytes_eq s r ≡ true
same_name q r s a b = subst (λ t. bytes_eq t r ≡ true) ((bytes_eq-Decides q s).0 b) a

-- a change of what is found at a name, said of the old look-up at any text
pub changed_at_name : {A : Type 0} (q name : List ℕ) (change : A → A) (old : List ℕ → A) → cond (bytes_eq q name) (change (old name)) (old q) ≡ cond (bytes_eq q name) (change (old q)) (old q)
changed_at_name q name change old =
    ⊎_elim
    (λ (same : bytes_eq q name ≡ true). ap (λ r. cond (bytes_eq q name) (change (old r)) (old q)) (sym ((bytes_eq-Decides q name).0 same)))
    (λ (other : bytes_eq q name ≡ false). ap (λ b. cond b (change (old name)) (old q)) other ∙ ap (λ b. cond b (change (old q)) (old q)) (sym other))
    (cases_Bool (bytes_eq q name))

pub position-push : {X : Type 0} (p : X → Bool) (xs : List X) (y : X) → length xs ≡ position_or_len p xs → p y ≡ true → length xs ≡ position_or_len p (xs ++ y ∷ [])
position-push p [] y none passes = ap (λ b. cond (not b) 1 0) (sym passes)
position-push p (x ∷ xs) y none passes =
    ⊎_elim
    (λ (here : p x ≡ true). let no : length (x ∷ xs) ≡ 0 = none ∙ ap (λ b. cond (not b) (1 + position_or_len p xs) 0) here in absurd (omega (arith, no)))
    (λ (other : p x ≡ false).
    let deeper : length (x ∷ xs) ≡ 1 + position_or_len p xs = none ∙ ap (λ b. cond (not b) (1 + position_or_len p xs) 0) other in
    let rest : length xs ≡ position_or_len p (xs ++ y ∷ []) = position-push p xs y (omega (arith, deeper)) passes in
    let end : length (x ∷ xs) ≡ 1 + position_or_len p (xs ++ y ∷ []) = omega (arith, rest) in
    end ∙ ap (λ b. cond (not b) (1 + position_or_len p (xs ++ y ∷ [])) 0) (sym other))
    (cases_Bool (p x))

module _ {W V : Type 0} (part : ListedProject W → V) (none : V) where
  -- what a look-up by name finds of a project
  look : List (ListedProject W) → List ℕ → V
  look [] q = none
  look (p ∷ ps) q = cond (bytes_eq q p.name) (part p) (look ps q)

  look-set : (name : List ℕ) (ps : List (ListedProject W)) (i : ℕ) (n : ListedProject W) → i ≡ position_of name ps → i < length ps → n.name ≡ name → (q : List ℕ) → look (set ps i n) q ≡ cond (bytes_eq q name) (part n) (look ps q)
  unfolding look
  look-set name [] i n at within is q = absurd (omega arith)
  look-set name (p ∷ ps) zero n at within is q =
      ⊎_elim
      (λ (here : bytes_eq name p.name ≡ true).
      let same : name ≡ p.name = (bytes_eq-Decides name p.name).0 here in
      ap (λ m. cond (bytes_eq q m) (part n) (look ps q)) is
      ∙ elim (bytes_eq q name) as (λ b. cond b (part n) (look ps q) ≡ cond b (part n) (cond b (part p) (look ps q))) [ true ↦ refl | false ↦ refl ]
      ∙ ap (λ m. cond (bytes_eq q name) (part n) (cond (bytes_eq q m) (part p) (look ps q))) same)
      (λ (other : bytes_eq name p.name ≡ false).
      let no : zero ≡ 1 + position_of name ps = at ∙ ap (λ b. cond (not b) (1 + position_of name ps) 0) other in absurd (omega (arith, no)))
      (cases_Bool (bytes_eq name p.name))
  look-set name (p ∷ ps) (suc i) n at within is q =
      ⊎_elim
      (λ (here : bytes_eq name p.name ≡ true).
      let no : suc i ≡ 0 = at ∙ ap (λ b. cond (not b) (1 + position_of name ps) 0) here in absurd (omega (arith, no)))
      (λ (other : bytes_eq name p.name ≡ false).
      let deeper : suc i ≡ 1 + position_of name ps = at ∙ ap (λ b. cond (not b) (1 + position_of name ps) 0) other in
      ap (cond (bytes_eq q p.name) (part p)) (look-set name ps i n (omega (arith, deeper)) (omega (arith, within)) is q)
      ∙ swap_case (bytes_eq q p.name) (bytes_eq q name) (bytes_eq name p.name) (part p) (part n) (look ps q) other (λ a b. same_name q p.name name a b))
      (cases_Bool (bytes_eq name p.name))

  look-push : (ps : List (ListedProject W)) (n : ListedProject W) → part n ≡ none → (q : List ℕ) → look (ps ++ n ∷ []) q ≡ look ps q
  unfolding look
  look-push [] n is q = elim (bytes_eq q n.name) as (λ b. cond b (part n) none ≡ none) [ true ↦ is | false ↦ refl ]
  look-push (p ∷ ps) n is q = ap (cond (bytes_eq q p.name) (part p)) (look-push ps n is q)

  look-none : (ps : List (ListedProject W)) (name q : List ℕ) → q ≡ name → AllByRecursion (λ p. bytes_eq name p.name ≡ false) ps → look ps q ≡ none
  unfolding look
  look-none [] name q same apart = refl
  look-none (p ∷ ps) name q same apart = ap (λ b. cond b (part p) (look ps q)) (ap (λ t. bytes_eq t p.name) same ∙ apart.0) ∙ look-none ps name q same apart.1

  look-seam : (a b : List (ListedProject W)) (n : ListedProject W) → part n ≡ none → AllByRecursion (λ p. bytes_eq n.name p.name ≡ false) a → AllByRecursion (λ p. bytes_eq n.name p.name ≡ false) b → (q : List ℕ) → look (a ++ n ∷ b) q ≡ look (a ++ b) q
  unfolding look
  look-seam [] b n is low high q =
      ⊎_elim
      (λ (here : bytes_eq q n.name ≡ true). ap (λ t. cond t (part n) (look b q)) here ∙ is ∙ sym (look-none b n.name q ((bytes_eq-Decides q n.name).0 here) high))
      (λ (other : bytes_eq q n.name ≡ false). ap (λ t. cond t (part n) (look b q)) other)
      (cases_Bool (bytes_eq q n.name))
  look-seam (p ∷ a) b n is low high q = ap (cond (bytes_eq q p.name) (part p)) (look-seam a b n is low.1 high q)

  look-at : (name : List ℕ) (ps : List (ListedProject W)) (i : ℕ) (p : ListedProject W) → i ≡ position_of name ps → i < length ps → p ≡ get_or ps i p → (p.name ≡ name) × (look ps name ≡ part p)
  unfolding look
  look-at name [] i p at within read = absurd (omega arith)
  look-at name (r ∷ ps) zero p at within read =
      ⊎_elim
      (λ (here : bytes_eq name r.name ≡ true).
      (ap (λ (x : ListedProject W). x.name) read ∙ sym ((bytes_eq-Decides name r.name).0 here), ap (λ b. cond b (part r) (look ps name)) here ∙ ap part (sym read)))
      (λ (other : bytes_eq name r.name ≡ false).
      let no : zero ≡ 1 + position_of name ps = at ∙ ap (λ b. cond (not b) (1 + position_of name ps) 0) other in absurd (omega (arith, no)))
      (cases_Bool (bytes_eq name r.name))
  look-at name (r ∷ ps) (suc i) p at within read =
      ⊎_elim
      (λ (here : bytes_eq name r.name ≡ true).
      let no : suc i ≡ 0 = at ∙ ap (λ b. cond (not b) (1 + position_of name ps) 0) here in absurd (omega (arith, no)))
      (λ (other : bytes_eq name r.name ≡ false).
      let deeper : suc i ≡ 1 + position_of name ps = at ∙ ap (λ b. cond (not b) (1 + position_of name ps) 0) other in
      let rest = look-at name ps i p (omega (arith, deeper)) (omega (arith, within)) read in
      (rest.0, ap (λ b. cond b (part r) (look ps name)) other ∙ rest.1))
      (cases_Bool (bytes_eq name r.name))

module _ {W : Type 0} where
  files_look : (ps : List (ListedProject W)) (q : List ℕ) → files_in ps q ≡ look (λ (p : ListedProject W). p.files) [] ps q
  unfolding look
  files_look [] q = refl
  files_look (p ∷ ps) q = ap (cond (bytes_eq q p.name) (p.files)) (files_look ps q)

  conditions_look : (ps : List (ListedProject W)) (q : List ℕ) → conditions_in ps q ≡ look (λ (p : ListedProject W). p.conditions) [] ps q
  unfolding look
  conditions_look [] q = refl
  conditions_look (p ∷ ps) q = ap (cond (bytes_eq q p.name) p.conditions) (conditions_look ps q)

  pub files_in-set : (name : List ℕ) (ps : List (ListedProject W)) (i : ℕ) (n : ListedProject W) → i ≡ position_of name ps → i < length ps → n.name ≡ name → (q : List ℕ) → files_in (set ps i n) q ≡ cond (bytes_eq q name) (n.files) (files_in ps q)
  files_in-set name ps i n at within is q = files_look (set ps i n) q ∙ look-set _ [] name ps i n at within is q ∙ ap (cond (bytes_eq q name) (n.files)) (sym (files_look ps q))

  pub conditions_in-set : (name : List ℕ) (ps : List (ListedProject W)) (i : ℕ) (n : ListedProject W) → i ≡ position_of name ps → i < length ps → n.name ≡ name → (q : List ℕ) → conditions_in (set ps i n) q ≡ cond (bytes_eq q name) n.conditions (conditions_in ps q)
  conditions_in-set name ps i n at within is q = conditions_look (set ps i n) q ∙ look-set _ [] name ps i n at within is q ∙ ap (cond (bytes_eq q name) n.conditions) (sym (conditions_look ps q))

  pub files_in-seam : (a b : List (ListedProject W)) (n : ListedProject W) → n.files ≡ [] → AllByRecursion (λ p. bytes_eq n.name p.name ≡ false) a → AllByRecursion (λ p. bytes_eq n.name p.name ≡ false) b → (q : List ℕ) → files_in (a ++ n ∷ b) q ≡ files_in (a ++ b) q
  files_in-seam a b n is low high q = files_look (a ++ n ∷ b) q ∙ look-seam (λ (p : ListedProject W). p.files) [] a b n is low high q ∙ sym (files_look (a ++ b) q)

  pub conditions_in-seam : (a b : List (ListedProject W)) (n : ListedProject W) → n.conditions ≡ [] → AllByRecursion (λ p. bytes_eq n.name p.name ≡ false) a → AllByRecursion (λ p. bytes_eq n.name p.name ≡ false) b → (q : List ℕ) → conditions_in (a ++ n ∷ b) q ≡ conditions_in (a ++ b) q
  conditions_in-seam a b n is low high q = conditions_look (a ++ n ∷ b) q ∙ look-seam (λ (p : ListedProject W). p.conditions) [] a b n is low high q ∙ sym (conditions_look (a ++ b) q)

  -- what the look-up finds at the project's own name
  pub files_at-position : (name : List ℕ) (ps : List (ListedProject W)) (i : ℕ) (p : ListedProject W) → i ≡ position_of name ps → i < length ps → p ≡ get_or ps i p → (p.name ≡ name) × (files_in ps name ≡ p.files) × (conditions_in ps name ≡ p.conditions)
  files_at-position name ps i p at within read =
      let files = look-at (λ (x : ListedProject W). x.files) [] name ps i p at within read in
      let conditions = look-at (λ (x : ListedProject W). x.conditions) [] name ps i p at within read in
      (files.0, files_look ps name ∙ files.1, conditions_look ps name ∙ conditions.1)

  -- a file is put into the project at its place
  pub put_at : (name : List ℕ) (ps : List (ListedProject W)) (i : ℕ) (p n : ListedProject W) (change : List (File W) → List (File W)) → i ≡ position_of name ps → i < length ps → p ≡ get_or ps i p → n.name ≡ p.name → n.files ≡ change (p.files) →
      (q : List ℕ) → files_in (set ps i n) q ≡ cond (bytes_eq q name) (change (files_in ps q)) (files_in ps q)
  put_at name ps i p n change at within read named done q =
      let here = files_at-position name ps i p at within read in
      files_in-set name ps i n at within (named ∙ here.0) q ∙ ap (λ fs. cond (bytes_eq q name) fs (files_in ps q)) (done ∙ ap change (sym here.1)) ∙ changed_at_name q name change (files_in ps)

  pub gate_at : (name : List ℕ) (ps : List (ListedProject W)) (i : ℕ) (p n : ListedProject W) (change : List Condition → List Condition) → i ≡ position_of name ps → i < length ps → p ≡ get_or ps i p → n.name ≡ p.name → n.conditions ≡ change p.conditions →
      (q : List ℕ) → conditions_in (set ps i n) q ≡ cond (bytes_eq q name) (change (conditions_in ps q)) (conditions_in ps q)
  gate_at name ps i p n change at within read named done q =
      let here = files_at-position name ps i p at within read in
      conditions_in-set name ps i n at within (named ∙ here.0) q ∙ ap (λ cs. cond (bytes_eq q name) cs (conditions_in ps q)) (done ∙ ap change (sym here.2)) ∙ changed_at_name q name change (conditions_in ps)
