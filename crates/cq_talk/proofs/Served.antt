-- What a question, and a query that is served, add to a history.
use Rattle.std.proofs.Common.{◌≡◌, ◌⊎◌, ℕ, ◌≤◌, Bool, true, false, cond, fold, List, [], ◌∷◌, ◌++◌, length, map, Option, Some, None, refl, sym, ap, ap₂, ◌∙◌, subst, inl, inr, ⊎_elim, arith, append-nil, append_assoc}
use Rattle.std.specs.Prelude.{All}
use Rattle.std.specs.List.{AllByRecursion}
use Rattle.std.proofs.lemmas.Bool.{cases_lt, cases_eq, eq-eqb, ne_eqb}
use Rattle.std.proofs.lemmas.List.{get_or_default}
use Rattle.std.proofs.lemmas.List.Elements.{All-head, All-tail}
use Rattle.std.proofs.lemmas.List.Sums.{fold_push}
use lib.ListN.{get_or-eq_default}
use Rattle.cq_base.specs.declared.settings.Settings.{Settings}
use Rattle.cq_history.specs.declared.event.Event.{Event}
use Rattle.cq_history.specs.declared.event.Event.TheVariants.{Ask, Done, Open, Shut}
use Rattle.cq_history.specs.Lasts.{view_in, view_after}
use Rattle.cq_history.specs.State.{state, accepted, own, maker, is_by, view_of}
use Rattle.cq_history.specs.Lawful.{Lawful}
use Rattle.cq_board.specs.Answers.{lower}
use Rattle.cq_history.proofs.States.{Lawful-prefix, Lawful_last}
use Rattle.cq_history.proofs.Openings.{view_is, view_own}
use Rattle.cq_history.proofs.Prefixes.{accepted-append, own-append}
use Rattle.cq_history.proofs.Falling.{never_falls}
use Rattle.cq_request.specs.declared.request.Query.{Query}
use Rattle.cq_hub.specs.Hubs.{Grows, IsPublication, Never}
use Rattle.cq_hub.proofs.Growing.{grows_as, grows_event, grows_may, grows_then}
use Rattle.cq_talk.specs.Talk.{Asks, IsServed, MayFollow, viewed}
use Rattle.cq_talk.proofs.Unmade.{IsUnmade, published_unmade, following_unmade, grows_unmade}

pub asks_grow : (alone : Type 0) (c : ℕ) (h later : List Event) → Asks alone c h later → Grows alone Never c h later (Ask c ∷ [])
asks_grow alone c h later asks = subst (λ g. Grows alone Never c h g (Ask c ∷ [])) (sym asks.asks) (grows_event alone c Never h asks.mid (Ask c) refl asks.waits)

-- ---- the caller's own events after its question

abbrev pub works_and_view : ℕ → List ℕ → Option ℕ → List Event
works_and_view c rs view = map (λ r. Done c r) rs ++ viewed c view

works_accept_none : (c : ℕ) (rs : List ℕ) → accepted (map (λ r. Done c r) rs) ≡ []
works_accept_none c [] = refl
works_accept_none c (r ∷ rs) = works_accept_none c rs

view_accepts_none : (c : ℕ) (view : Option ℕ) → accepted (viewed c view) ≡ []
view_accepts_none c None = refl
view_accepts_none c (Some v) = refl

-- with its question
pub served_accept_none : (c : ℕ) (rs : List ℕ) (view : Option ℕ) → accepted (Ask c ∷ works_and_view c rs view) ≡ []
served_accept_none c rs view = accepted-append (map (λ r. Done c r) rs) (viewed c view) ∙ ap₂ (λ xs ys. xs ++ ys) (works_accept_none c rs) (view_accepts_none c view)

module _ (set : Settings) (callers : ℕ) (alone : Type 0) (c seen : ℕ) (q : Query) (h later : List Event) (view : Option ℕ) (is : IsServed set callers alone c seen q h later view) where
  -- after the question
  pub asked_grows : Grows alone IsUnmade c is.asked later (works_and_view c is.finished view)
  asked_grows =
      grows_as alone c IsUnmade is.asked later _ _ (ap (λ es. map (λ r. Done c r) is.finished ++ es) (append-nil (viewed c view)))
      (grows_then alone c IsUnmade is.asked is.helped later (map (λ r. Done c r) is.finished) (viewed c view ++ []) (grows_unmade alone c IsPublication is.asked is.helped _ published_unmade is.helps)
      (grows_then alone c IsUnmade is.helped is.shut later (viewed c view) [] (grows_may alone c IsUnmade is.helped is.shut _ is.views) (grows_unmade alone c (MayFollow view) is.shut later [] (following_unmade view) is.sweeps)))

  pub served_grows : Grows alone IsUnmade c h later (Ask c ∷ works_and_view c is.finished view)
  served_grows = grows_then alone c IsUnmade h is.asked later (Ask c ∷ []) _ (grows_may alone c IsUnmade h is.asked _ (asks_grow alone c h is.asked is.asks)) asked_grows

-- ---- where the caller's first event stands

pub record Split (more : List Event) (e : Event) : Type 0 where
  pub before : List Event
  pub behind : List Event
  pub is : more ≡ before ++ e ∷ behind

split_step : (c : ℕ) (x e : Event) (xs es : List Event) (b : Bool) → (own c xs ≡ e ∷ es → Split xs e) → cond b (x ∷ own c xs) (own c xs) ≡ e ∷ es → Split (x ∷ xs) e
split_step c x e xs es true so is = let same : x ≡ e = cc (is) in record { before = []; behind = xs; is = ap (λ y. y ∷ xs) same }
split_step c x e xs es false so is = let rest = so is in record { before = x ∷ rest.before; behind = rest.behind; is = ap (λ ys. x ∷ ys) rest.is }

split_own : (c : ℕ) (more : List Event) (e : Event) (es : List Event) → own c more ≡ e ∷ es → Split more e
split_own c [] e es is = absurd (cc (is))
split_own c (x ∷ xs) e es is = split_step c x e xs es (is_by c (maker x)) (split_own c xs e es) is

-- the version of its view was published, and is not taken back
pub served_published : (set : Settings) (callers : ℕ) (alone : Type 0) (c seen : ℕ) (q : Query) (h later : List Event) (v : ℕ) → IsServed set callers alone c seen q h later (Some v) → Lawful set callers later → v ≤ (state callers later).published
served_published set callers alone c seen q h later v is law =
    let split = split_own c is.views.more (Open c v) (Shut c ∷ []) is.views.own_is in
    let before = is.helped ++ split.before in
    let rest = split.behind ++ is.sweeps.more in
    let shut : is.shut ≡ before ++ Open c v ∷ split.behind = is.views.after_is ∙ (ap (λ more. is.helped ++ more) split.is ∙ sym (append_assoc is.helped split.before (Open c v ∷ split.behind))) in
    let to : later ≡ before ++ Open c v ∷ rest = is.sweeps.after_is ∙ (ap (λ g. g ++ is.sweeps.more) shut ∙ append_assoc before (Open c v ∷ split.behind) is.sweeps.more) in
    let to_open : later ≡ (before ++ Open c v ∷ []) ++ rest = to ∙ sym (append_assoc before (Open c v ∷ []) rest) in
    let opened = Lawful_last set callers before (Open c v) (Lawful-prefix set callers (before ++ Open c v ∷ []) rest (subst (Lawful set callers) to_open law)) in
    let at_open = opened.1.0 in
    let same : (state callers later).published ≡ (state callers (before ++ Open c v ∷ rest)).published = ap (λ g. (state callers g).published) to in
    let rises = (never_falls set callers before (Open c v ∷ rest) (subst (Lawful set callers) to law)).1 in
    omega (arith, at_open, rises, same)

-- ---- who has a view open

-- where nobody has one, the greatest floor is the published version
pub none_open : (views : List (Option ℕ)) (n : ℕ) → All (λ view. view ≡ None) views → fold lower n views ≡ n
none_open [] n shut = refl
none_open (view ∷ views) n shut = ap (λ v. fold lower (lower n v) views) (All-head (λ view. view ≡ None) view views shut) ∙ none_open views n (All-tail (λ view. view ≡ None) view views shut)

-- the last of the caller's own events shuts its view
pub shut_last : (c : ℕ) (before : List Event) (rs : List ℕ) (v : ℕ) → view_in c (before ++ Ask c ∷ works_and_view c rs (Some v)) ≡ None
shut_last c before rs v =
    let front : List Event = before ++ (Ask c ∷ (map (λ r. Done c r) rs ++ Open c v ∷ [])) in
    let is : before ++ Ask c ∷ works_and_view c rs (Some v) ≡ front ++ Shut c ∷ [] =
    ap (λ es. before ++ (Ask c ∷ es)) (sym (append_assoc (map (λ r. Done c r) rs) (Open c v ∷ []) (Shut c ∷ []))) ∙ sym (append_assoc before (Ask c ∷ (map (λ r. Done c r) rs ++ Open c v ∷ [])) (Shut c ∷ [])) in
    ap (view_in c) is ∙ fold_push (view_after c) None front (Shut c) ∙ ap (λ b. cond b None (fold (view_after c) None front)) (eq-eqb c c refl)

-- another caller's own events are what they were
others_same : (c w : ℕ) (more : List Event) → (w ≡ c → ⊥) → AllByRecursion (λ (e : Event). (maker e ≡ Some c) ⊎ IsUnmade e) more → own w more ≡ []
others_same c w [] other all = refl
others_same c w (e ∷ more) other all =
    ap (λ b. cond b (e ∷ own w more) (own w more)) (not_of c w e other all.0) ∙ others_same c w more other all.1
  where
    not_of : (c w : ℕ) (e : Event) → (w ≡ c → ⊥) → (maker e ≡ Some c) ⊎ IsUnmade e → is_by w (maker e) ≡ false
    not_of c w e other (inl mine) = ap (is_by w) mine ∙ ne_eqb w c other
    not_of c w e other (inr none) = ap (is_by w) none

pub served_shut : (set : Settings) (callers c seen : ℕ) (q : Query) (h later : List Event) (v : ℕ) → Lawful set callers later → IsServed set callers (Unit {0}) c seen q h later (Some v) → All (λ view. view ≡ None) (state callers h).views → All (λ view. view ≡ None) (state callers later).views
served_shut set callers c seen q h later v law is shut k d within =
    get_or_default (state callers later).views k d None within ∙ view_is set callers later k law ∙ closed k
  where
    grows : Grows (Unit {0}) IsUnmade c h later (Ask c ∷ works_and_view c is.finished (Some v))
    grows = served_grows set callers (Unit {0}) c seen q h later (Some v) is

    before : Lawful set callers h
    before = Lawful-prefix set callers h grows.more (subst (Lawful set callers) grows.after_is law)

    own_then : (w : ℕ) → own w later ≡ own w h ++ own w grows.more
    own_then w = ap (own w) grows.after_is ∙ own-append w h grows.more

    was : (w : ℕ) → view_in w (own w h) ≡ None
    was w = sym (view_own w h) ∙ sym (view_is set callers h w before) ∙ all_shut w
      where
        all_shut : (w : ℕ) → view_of (state callers h) w ≡ None
        all_shut w = ⊎_elim (λ lt. shut w None lt) (λ past. get_or-eq_default (state callers h).views None past) (cases_lt w (length (state callers h).views))

    closed : (w : ℕ) → view_in w later ≡ None
    closed w = ⊎_elim
        (λ (same : w ≡ c).
        view_own w later ∙ ap (view_in w) (own_then w) ∙ subst (λ n. view_in n (own n h ++ own n grows.more) ≡ None) (sym same) (ap (λ es. view_in c (own c h ++ es)) grows.own_is ∙ shut_last c (own c h) is.finished v))
        (λ other. view_own w later ∙ ap (view_in w) (own_then w ∙ ap (λ es. own w h ++ es) (others_same c w grows.more other (grows.alone_is tt)) ∙ append-nil (own w h)) ∙ was w)
        (cases_eq w c)
