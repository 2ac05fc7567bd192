-- What is kept of an object's members as they come, and that it is the gist of them.
use Rattle.std.proofs.Common.{◌≡◌, ℕ, List, Option, Some, None, Bool, true, false, ◌&&◌, not, refl, sym, ap, ◌∙◌, subst}
use Rattle.std.specs.Prelude.{is_some}
use Rattle.std.specs.Str.{bytes_eq}
use Rattle.std.proofs.lemmas.Slice.Eq.{bytes_eq-Decides}
use Rattle.serde_json.specs.Data.{Data, null, Members, no_members, put}
use Rattle.serde_json.specs.Find.{get_member}
use Rattle.serde_json.proofs.Views.{get_member-put, get_member-put_other}
use Rattle.cq_request.specs.declared.form.Form.{Form}
use Rattle.cq_request.specs.Members.{least_key, lesser}
use Rattle.cq_request.specs.Gist.{form_of, is_other, IsAlike, AreAlike, HaveAlike, IsGist}
use Rattle.cq_request.specs.Valued.{with_other, AreSeen}
use Rattle.cq_request.proofs.Least.{least_of, least_of_none, least_of_turned, put_passing, put_failing, least_on_sides, least_passes}

-- ---- forms

one_form : (forms : List ℕ → Option Form) (k l : List ℕ) (f g : Form) → k ≡ l → forms k ≡ Some f → forms l ≡ Some g → f ≡ g
one_form forms k l f g same here there = let both : Some f ≡ Some g = sym here ∙ ap forms same ∙ there in cc

no_other : (key : List ℕ) (f : Form) → form_of key ≡ Some f → is_other key ≡ false
no_other key f is = ap (λ o. not (is_some o)) is

other_is_none : (o : Option Form) (f : Form) → not (is_some o) ≡ true → o ≡ Some f → ⊥
other_is_none o f other is = let bad : false ≡ true = sym (ap (λ x. not (is_some x)) is) ∙ other in absurd (cc)

not_same : (k l : List ℕ) (f : Form) → form_of k ≡ Some f → is_other l ≡ true → k ≡ l → ⊥
not_same k l f known other same = other_is_none (form_of l) f other (ap form_of (sym same) ∙ known)

-- ---- members that are alike

pub are_alike : (f : Form) (a b c d : Option Data) → a ≡ c → b ≡ d → AreAlike f c d → AreAlike f a b
are_alike f a b c d left right are = subst (λ x. AreAlike f x b) (sym left) (subst (λ y. AreAlike f c y) (sym right) are)

-- a member more on both sides
more_alike_at : (forms : List ℕ → Option Form) (ms gs : Members) (k key : List ℕ) (f g : Form) (d v : Data) (b : Bool) → bytes_eq key k ≡ b
    → AreAlike g (get_member key ms) (get_member key gs) → forms k ≡ Some f → forms key ≡ Some g → IsAlike f d v → AreAlike g (get_member key (put k d ms)) (get_member key (put k v gs))
more_alike_at forms ms gs k key f g d v true is were known of alike =
    let same : key ≡ k = (bytes_eq-Decides key k).0 is in
    let here : AreAlike g (Some d) (Some v) = subst (λ (x : Form). IsAlike x d v) (one_form forms k key f g (sym same) known of) alike in
    are_alike g (get_member key (put k d ms)) (get_member key (put k v gs)) (Some d) (Some v) (ap (λ x. get_member x (put k d ms)) same ∙ get_member-put k d ms) (ap (λ x. get_member x (put k v gs)) same ∙ get_member-put k v gs) here
more_alike_at forms ms gs k key f g d v false is were known of alike =
    let other = λ (same : key ≡ k). let bad : false ≡ true = sym is ∙ (bytes_eq-Decides key k).1 same in absurd (cc) in
    are_alike g (get_member key (put k d ms)) (get_member key (put k v gs)) (get_member key ms) (get_member key gs) (get_member-put_other key k d ms other) (get_member-put_other key k v gs other) were

pub more_alike : (forms : List ℕ → Option Form) (ms gs : Members) (k : List ℕ) (f : Form) (d v : Data) → HaveAlike forms ms gs → forms k ≡ Some f → IsAlike f d v → HaveAlike forms (put k d ms) (put k v gs)
more_alike forms ms gs k f d v have known alike = λ key g of. more_alike_at forms ms gs k key f g d v (bytes_eq key k) refl (have key g of) known of alike

-- ---- one member more

pub seen_none : AreSeen no_members no_members None
seen_none = record { known = λ key f of. tt; least = λ passes none. refl; only = refl; rest = refl }

pub seen_known : (ms gs : Members) (other : Option (List ℕ)) (k : List ℕ) (f : Form) (d v : Data) → AreSeen ms gs other → form_of k ≡ Some f → IsAlike f d v → AreSeen (put k d ms) (put k v gs) other
seen_known ms gs other k f d v seen known alike = record {
  known = more_alike form_of ms gs k f d v seen.known known alike;
  least = λ passes none. by_test passes none (passes k) refl;
  only = put_failing is_other k v gs (no_other k f known) ∙ seen.only;
  rest = seen.rest ∙ sym (put_failing is_other k d ms (no_other k f known));
}
  where
    by_test : (passes : List ℕ → Bool) → ((key : List ℕ) → is_other key ≡ true → passes key ≡ false) → (b : Bool) → passes k ≡ b → least_key passes (put k v gs) ≡ least_key passes (put k d ms)
    by_test passes none true is = put_passing passes k v gs is ∙ ap (λ o. Some (lesser k o)) (seen.least passes none) ∙ sym (put_passing passes k d ms is)
    by_test passes none false is = put_failing passes k v gs is ∙ seen.least passes none ∙ sym (put_failing passes k d ms is)

other_test : (o : Option Form) → o ≡ None → not (is_some o) ≡ true
other_test o is = ap (λ x. not (is_some x)) is

pub seen_other : (ms gs : Members) (other : Option (List ℕ)) (k : List ℕ) (d : Data) → AreSeen ms gs other → form_of k ≡ None → AreSeen (put k d ms) gs (Some (lesser k other))
seen_other ms gs other k d seen none =
    let of : is_other k ≡ true = other_test (form_of k) none in
    record {
      known = λ key f known. are_alike f (get_member key (put k d ms)) (get_member key gs) (get_member key ms) (get_member key gs) (get_member-put_other key k d ms (not_same key k f known of)) refl (seen.known key f known);
      least = λ passes fail. seen.least passes fail ∙ sym (put_failing passes k d ms (fail k of));
      only = seen.only;
      rest = ap (λ o. Some (lesser k o)) seen.rest ∙ sym (put_passing is_other k d ms of);
    }

-- ---- the gist

none_else : (key : List ℕ) (b c : Bool) → (c ≡ true → (b && not c) ≡ false)
none_else key true c is = ap not is
none_else key false c is = refl

module _ (ms gs : Members) (passes : List ℕ → Bool) (all : (key : List ℕ) → is_other key ≡ true → passes key ≡ true) where
  abbrev kept_passes : List ℕ → Bool
  kept_passes key = passes key && not (is_other key)

  least_kept : (other : Option (List ℕ)) → AreSeen ms gs other → least_key passes gs ≡ least_key kept_passes ms
  least_kept other seen =
      least_on_sides passes is_other all gs
      ∙ ap (least_of (least_key kept_passes gs)) seen.only
      ∙ least_of_none (least_key kept_passes gs)
      ∙ seen.least kept_passes (λ key of. none_else key (passes key) (is_other key) of)

  least_all : (other : Option (List ℕ)) → AreSeen ms gs other → least_key passes ms ≡ least_of (least_key kept_passes ms) other
  least_all other seen = least_on_sides passes is_other all ms ∙ ap (least_of (least_key kept_passes ms)) (sym seen.rest)

  least_same : (other : Option (List ℕ)) → AreSeen ms gs other → least_key passes (with_other gs other) ≡ least_key passes ms
  least_same None seen = least_kept None seen ∙ sym (least_of_none (least_key kept_passes ms)) ∙ sym (least_all None seen)
  least_same (Some k) seen =
      put_passing passes k null gs (all k (least_passes is_other ms k (sym seen.rest)))
      ∙ ap (λ o. Some (lesser k o)) (least_kept (Some k) seen)
      ∙ least_of_turned (Some k) (least_key kept_passes ms)
      ∙ sym (least_all (Some k) seen)

pub seen_gist : (ms gs : Members) (other : Option (List ℕ)) → AreSeen ms gs other → IsGist ms (with_other gs other)
seen_gist ms gs other seen = record { members = members other seen; least = λ passes all. least_same ms gs passes all other seen }
  where
    members : (other : Option (List ℕ)) → AreSeen ms gs other → HaveAlike form_of ms (with_other gs other)
    members None seen = seen.known
    members (Some k) seen = λ key f known.
        are_alike f (get_member key ms) (get_member key (put k null gs)) (get_member key ms) (get_member key gs) refl (get_member-put_other key k null gs (not_same key k f known (least_passes is_other ms k (sym seen.rest)))) (seen.known key f known)
