-- The live numbers of a version are the puts that the floor keeps there.
use Rattle.std.proofs.Common.{◌≡◌, ℕ, ◌-◌, ◌≤◌, min, true, List, length, get_or, take, Some, refl, sym, ap, ◌∙◌, subst, arith}
use Rattle.std.proofs.lemmas.Bool.{false≢true}
use Rattle.std.proofs.lemmas.List.{length-take}
use Rattle.std.proofs.lemmas.Option.{slice_get_within, get_or_from_slice_get}
use Rattle.cq_base.specs.declared.change.Change.{Change}
use Rattle.cq_base.specs.declared.change.Change.TheVariants.{Put, Drop, Gate}
use Rattle.cq_history.specs.Changes.{is_put, is_of_file, change_at, no_change, IsNumber}
use Rattle.cq_history.specs.Files.{Source}
use Rattle.cq_history.specs.Gone.{IsGone, IsKept, IsPutAt, AreKeptPuts}
use Rattle.cq_history.specs.Standing.{IsLastPut}
use Rattle.cq_history.proofs.FewFiles.{change_in_front, files_kept}
use Rattle.cq_history.proofs.Forgetting.{change_there}
use Rattle.cq_kept.proofs.PutNumbers.{last_of, has_of}
use Rattle.cq_board.specs.Listings.{IsLive, AreLive}

module _ (changes : List Change) (v : ℕ) where
  in_front : (r : ℕ) → r ≤ length (take v changes) → r ≤ v
  in_front r le =
      let many = length-take v changes in
      let low : r ≤ min v (length changes) = omega (arith, le, many) in
      grind (arith, low)

  front_has : (r : ℕ) → r ≤ v → r ≤ length changes → r ≤ length (take v changes)
  front_has r low within =
      let many = length-take v changes in
      let least : r ≤ min v (length changes) = grind (arith, low, within) in
      omega (arith, least, many)

  -- a put that is kept is the last of its file
  last_put : (q path : List ℕ) (r : ℕ) (f : Source) → f.number ≡ r → f.path ≡ path → IsNumber changes r → r ≤ v → change_at changes r ≡ Some (Put q path f.lang f.body) → (IsGone changes v r → ⊥) → IsLastPut (take v changes) q f
  last_put q path r f number at is low put kept =
      let there : IsNumber (take v changes) f.number = (omega (arith, is.0, number), omega (arith, front_has r low is.1, number)) in
      record {
        accepted = there;
        put = sym (change_in_front changes v f.number there) ∙ ap (change_at changes) number ∙ put ∙ ap (λ p. Some (Put q p f.lang f.body)) (sym at);
        last = λ k c behind next names.
            let inside = slice_get_within (take v changes) (k - 1) c next in
            let later : IsNumber (take v changes) k = (omega (arith, behind), omega (arith, inside, behind)) in
            kept (record {
              change = Put q path f.lang f.body;
              accepted = is;
              within = low;
              is = put;
              over = record {
                later = k;
                change = c;
                behind = omega (arith, behind, number);
                within = in_front k later.1;
                next = change_in_front changes v k later ∙ next;
                passes = ap (λ p. is_of_file q p c) (sym at) ∙ names;
              };
            });
      }

  kept_lives : (r : ℕ) (c : Change) → IsNumber changes r → r ≤ v → change_at changes r ≡ Some c → is_put c ≡ true → (IsGone changes v r → ⊥) → IsLive (take v changes) r
  kept_lives r (Put q path lang text) is low at put kept =
      let f : Source = record { path = path; number = r; lang = lang; body = text } in
      (q, f, has_of (take v changes) q f (last_put q path r f refl refl is low at kept), refl)
  kept_lives r (Drop project path) is low at put kept = absurd (false≢true put)
  kept_lives r (Gate project conditions) is low at put kept = absurd (false≢true put)

  live_kept : (r : ℕ) → IsLive (take v changes) r → IsKept changes v r × (r ≤ v) × IsPutAt changes r
  live_kept r (q, f, has, is) =
      let last = last_of (take v changes) q f has in
      let low : f.number ≤ v = in_front f.number last.accepted.1 in
      let put : change_at changes f.number ≡ Some (Put q f.path f.lang f.body) = change_in_front changes v f.number last.accepted ∙ last.put in (
        subst (IsKept changes v) is (files_kept changes v v q f (omega arith) has),
        omega (arith, low, is),
        subst (IsPutAt changes) is (ap is_put (get_or_from_slice_get changes (f.number - 1) (Put q f.path f.lang f.body) no_change put)),
      )

  pub live_are_kept : (live : List ℕ) → AreLive (take v changes) live → AreKeptPuts changes v live
  live_are_kept live are = record {
    rising = are.rising;
    each = λ r. (
      λ here. live_kept r ((are.each r).0 here),
      λ is. (are.each r).1 (kept_lives r (get_or changes (r - 1) no_change) is.0.0 is.1 (change_there changes r is.0.0) is.2 is.0.1),
    );
  }
