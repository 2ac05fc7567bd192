-- Where the bodies end, written down one by one.
use Rattle.std.proofs.Common.{◌≡◌, ℕ, ◌+◌, ◌<◌, List, length, get_or, set, replicate, sym, ap, ◌∙◌, ⊎_elim, arith}
use Rattle.std.specs.Prelude.{Contains}
use Rattle.std.proofs.lemmas.Bool.{cases_eq}
use Rattle.std.proofs.lemmas.List.{length-set, length-replicate, get_or-replicate, get_or-set_same, get_or-set_other, get_or_default}
use Rattle.cq_func.specs.declared.found.Found.{Found}
use Rattle.cq_func.specs.Walks.{AreBodies, AreCloses}

-- those of the first `far` functions
pub record AreClosed (fs : List Found) (far many : ℕ) (closes : List ℕ) : Type 0 where
  pub long : length closes ≡ many
  pub each : (k : ℕ) (f : Found) → k < far → k < length fs → get_or fs k f ≡ f → get_or closes f.brace 0 ≡ f.close
  pub only : (at : ℕ) → at < many → get_or closes at 0 < many → (f : Found) × Contains fs f × (f.brace ≡ at)

pub closed_none : (fs : List Found) (far many n : ℕ) → far ≡ 0 → n ≡ many → AreClosed fs far many (replicate many n)
closed_none fs far many n begins whole = record {
  long = length-replicate many n;
  each = λ k f before inside is. absurd (omega arith);
  only = λ at below small. let e = get_or-replicate many at n 0 below in absurd (omega (arith, e));
}

pub closed_more : (fs : List Found) (far many : ℕ) (closes : List ℕ) (f : Found) → far < length fs → get_or fs far f ≡ f → AreBodies many fs → AreClosed fs far many closes → AreClosed fs (far + 1) many (set closes f.brace f.close)
closed_more fs far many closes f inside is bodies before =
    let among : Contains fs f = (far, inside, is) in
    let low = (bodies.within f among).1 in
    let long = before.long in
    record {
      long = length-set closes f.brace f.close ∙ before.long;
      each = λ k g far_enough within at.
          let there : Contains fs g = (k, within, at) in
          ⊎_elim
          (λ (e : g.brace ≡ f.brace). ap (λ i. get_or (set closes f.brace f.close) i 0) e ∙ get_or-set_same closes f.brace f.close 0 (omega (arith, low, long)) ∙ bodies.same f g among there (sym e))
          (λ (ne : g.brace ≡ f.brace → ⊥).
          let other : k ≡ far → ⊥ = λ (e : k ≡ far). ne (ap (λ (h : Found). h.brace) (sym at ∙ same_read fs k far g f e within ∙ is)) in
          get_or-set_other closes f.brace g.brace f.close 0 ne ∙ before.each k g (omega (arith, far_enough, other)) within at)
          (cases_eq g.brace f.brace);
      only = λ at below small.
          ⊎_elim
          (λ (e : at ≡ f.brace). (f, among, sym e))
          (λ (ne : at ≡ f.brace → ⊥). let read = get_or-set_other closes f.brace at f.close 0 ne in before.only at below (omega (arith, read, small)))
          (cases_eq at f.brace);
    }
  where
    same_read : (xs : List Found) (k far : ℕ) (g f : Found) → k ≡ far → k < length xs → get_or xs k g ≡ get_or xs far f
    same_read xs k far g f e within = get_or_default xs k g f within ∙ ap (λ i. get_or xs i f) e

pub closed_all : (fs : List Found) (far many : ℕ) (closes : List ℕ) → far ≡ length fs → AreClosed fs far many closes → AreCloses fs many closes
closed_all fs far many closes whole all = record {
  long = all.long;
  each = λ f among. all.each among.0 f (let w = among.1 in omega (arith, w)) among.1 among.2;
  only = all.only;
}
