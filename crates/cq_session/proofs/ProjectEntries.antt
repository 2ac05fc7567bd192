-- Which of a version's entries are those of one project's files.
use Rattle.std.proofs.Common.{◌≡◌, ℕ, zero, suc, List, [], ◌∷◌, map, take, get_or, filter, Option, Some, None, is_some, refl, sym, ap, ◌∙◌, subst, subst₂, inl, inr, ⊎_elim, nat_eq}
use Rattle.std.specs.Prelude.{Contains, slice_get}
use Rattle.std.specs.List.{list_any}
use Rattle.std.proofs.lemmas.Bool.{eqb-true, false_from_ne_true}
use Rattle.std.proofs.lemmas.Option.{slice_get_within, get_or_from_slice_get, slice_get-get_or}
use Rattle.cq_order.specs.Spots.{IsPositionOf}
use Rattle.std.proofs.lemmas.Map.Views.{Contains-from_any}
use Rattle.std.proofs.lemmas.List.Kept.{AllPairs-filter}
use Rattle.cq_base.proofs.Lists.{Contains-here, Contains-there, Contains-cases, Contains-nil, Contains-filter, Contains-from_filter}
use Rattle.cq_base.specs.declared.lang.Lang.{Lang}
use Rattle.cq_base.specs.declared.settings.Settings.{Settings}
use Rattle.cq_base.specs.declared.entry.Entry.{Entry}
use Rattle.cq_base.specs.declared.change.Change.{Change}
use Rattle.cq_clones.specs.Lists.{AreAllInOrder}
use Rattle.cq_clones.specs.Windows.{EntryBefore, IsEntryOf, IsBucket}
use Rattle.cq_history.specs.Changes.{change_at}
use Rattle.cq_history.specs.Files.{File, Source, files_at}
use Rattle.cq_history.specs.Standing.{Has}
use Rattle.cq_history.proofs.Standing.{files_stand}
use Rattle.cq_shard.specs.Shard.{HasWindow}
use Rattle.cq_shard.proofs.Entries.{any_of}
use Rattle.cq_board.specs.Related.{IsSameFile, AreSameFiles}
use Rattle.cq_board.specs.Entries.{IsEntryAt}

-- ---- a file, by its change and by its place

module _ {W : Type 0} (keys_in : W → List ℕ) (IsWork : Lang → List ℕ → W → Type 0) where
  -- the file of this number stands there, in both lists
  record IsThere (sources : List Source) (files : List (File W)) (number i : ℕ) : Type 0 where
    source : Source
    has : Has sources source
    file : File W
    same : IsSameFile IsWork source file
    number_is : file.number ≡ number
    number_at : slice_get (map (λ (f : File W). f.number) files) i ≡ Some number
    keys_at : get_or (map (λ (f : File W). keys_in f.body) files) i [] ≡ keys_in file.body

  first_there : (x : Source) (xs : List Source) (y : File W) (ys : List (File W)) → IsSameFile IsWork x y → IsThere (x ∷ xs) (y ∷ ys) y.number 0
  first_there x xs y ys same = record { source = x; has = inl refl; file = y; same = same; number_is = refl; number_at = refl; keys_at = refl }

  later_there : (x : Source) (xs : List Source) (y : File W) (ys : List (File W)) (number i : ℕ) → IsThere xs ys number i → IsThere (x ∷ xs) (y ∷ ys) number (suc i)
  later_there x xs y ys number i there = record { source = there.source; has = inr there.has; file = there.file; same = there.same; number_is = there.number_is; number_at = there.number_at; keys_at = there.keys_at }

  -- a number of one of the files
  by_number : (xs : List Source) (ys : List (File W)) (number : ℕ) → AreSameFiles IsWork xs ys → Contains (map (λ (f : File W). f.number) ys) number → (i : ℕ) × IsThere xs ys number i
  by_number [] [] number same is = absurd (Contains-nil number is)
  by_number [] (y ∷ ys) number same is = absurd same
  by_number (x ∷ xs) [] number same is = absurd same
  by_number (x ∷ xs) (y ∷ ys) number same is =
      ⊎_elim
      (λ (here : y.number ≡ number). (0, subst (λ n. IsThere (x ∷ xs) (y ∷ ys) n 0) here (first_there x xs y ys same.0)))
      (λ later. let (i, there) = by_number xs ys number same.1 later in (suc i, later_there x xs y ys number i there))
      (Contains-cases y.number number (map (λ (f : File W). f.number) ys) is)

  -- a place in the list
  by_place : (xs : List Source) (ys : List (File W)) (number i : ℕ) → AreSameFiles IsWork xs ys → slice_get (map (λ (f : File W). f.number) ys) i ≡ Some number → IsThere xs ys number i × Contains (map (λ (f : File W). f.number) ys) number
  by_place [] [] number i same is = absurd (cc)
  by_place [] (y ∷ ys) number i same is = absurd same
  by_place (x ∷ xs) [] number i same is = absurd same
  by_place (x ∷ xs) (y ∷ ys) number zero same is =
      let here : y.number ≡ number = cc in
      (subst (λ n. IsThere (x ∷ xs) (y ∷ ys) n 0) here (first_there x xs y ys same.0), subst (Contains (map (λ (f : File W). f.number) (y ∷ ys))) here (Contains-here y.number (map (λ (f : File W). f.number) ys)))
  by_place (x ∷ xs) (y ∷ ys) number (suc i) same is =
      let later = by_place xs ys number i same.1 is in
      (later_there x xs y ys number i later.0, Contains-there y.number number (map (λ (f : File W). f.number) ys) later.1)

-- ---- the entries

module _ {W : Type 0} (keys_in : W → List ℕ) (IsWorkOf : Settings → Lang → List ℕ → W → Type 0) (determined : (set : Settings) (lang : Lang) (text : List ℕ) (work other : W) → IsWorkOf set lang text work → IsWorkOf set lang text other → keys_in work ≡ keys_in other)
    (set : Settings) (changes : List Change) (version : ℕ) (project : List ℕ) (files : List (File W)) (same : AreSameFiles (IsWorkOf set) (files_at changes version project) files) (key : ℕ) where
  -- an entry of the version whose change is that of one of the files
  entry_of : (e : Entry) → IsEntryAt (HasWindow keys_in IsWorkOf set) changes version key e → Contains (map (λ (f : File W). f.number) files) e.change → IsEntryOf (map (λ (f : File W). f.number) files) (map (λ (f : File W). keys_in f.body) files) e
  entry_of e at is =
      let (i, there) = by_number keys_in (IsWorkOf set) (files_at changes version project) files e.change same is in
      let one = ((files_stand (take version changes) at.project).each at.file).0 at.there in
      let other = ((files_stand (take version changes) project).each there.source).0 there.has in
      let number : at.file.number ≡ there.source.number = at.number ∙ sym there.number_is ∙ sym there.same.number in
      let put = sym one.put ∙ ap (change_at (take version changes)) number ∙ other.put in
      let text : (at.file.lang ≡ there.source.lang) × (at.file.body ≡ there.source.body) = (cc put, cc put) in
      let (work, is_work, key_at) = at.window in
      let also : IsWorkOf set there.source.lang there.source.body work = subst₂ (λ l t. IsWorkOf set l t work) text.0 text.1 is_work in
      let keys_are = there.keys_at ∙ sym (determined set there.source.lang there.source.body work there.file.body also there.same.body) in
      record { file = i; put = there.number_at; window = ap (λ ks. slice_get ks e.at) keys_are ∙ key_at ∙ ap Some (sym at.same_key) }

  -- an entry of one of the files
  entry_at : (e : Entry) → e.key ≡ key → IsEntryOf (map (λ (f : File W). f.number) files) (map (λ (f : File W). keys_in f.body) files) e → IsEntryAt (HasWindow keys_in IsWorkOf set) changes version key e × Contains (map (λ (f : File W). f.number) files) e.change
  entry_at e same_key entry =
      let (there, is) = by_place keys_in (IsWorkOf set) (files_at changes version project) files e.change entry.file same entry.put in (
        record {
          project = project;
          file = there.source;
          there = there.has;
          number = there.same.number ∙ there.number_is;
          window = (there.file.body, there.same.body, ap (λ ks. slice_get ks e.at) (sym there.keys_at) ∙ entry.window ∙ ap Some same_key);
          same_key = same_key;
        },
        is,
      )

  abbrev numbers : List ℕ
  numbers = map (λ (f : File W). f.number) files

  -- those of the version with the key, with the entries of other changes taken out
  pub project_bucket : (entries : List Entry) → AreAllInOrder EntryBefore (IsEntryAt (HasWindow keys_in IsWorkOf set) changes version key) entries →
      IsBucket (map (λ (f : File W). f.number) files) (map (λ (f : File W). keys_in f.body) files) key (filter (λ e. list_any (nat_eq e.change) (map (λ (f : File W). f.number) files)) entries)
  project_bucket entries are = record {
    ordered = AllPairs-filter EntryBefore (λ e. list_any (nat_eq e.change) numbers) entries are.ordered;
    each = λ e. (
      λ h.
          let (there, kept) = Contains-from_filter (λ d. list_any (nat_eq d.change) numbers) entries e h in
          let at = (are.each e).0 there in
          (at.same_key, entry_of e at (Contains-from_any eqb-true e.change numbers kept)),
      λ h.
          let (at, is) = entry_at e h.0 h.1 in
          Contains-filter (λ d. list_any (nat_eq d.change) numbers) entries e ((are.each e).1 at) (any_of e.change numbers is),
    );
  }

-- whether a number has a position
pub among_positions : (xs : List ℕ) (n : ℕ) (r : Option ℕ) → IsPositionOf xs n r → is_some r ≡ list_any (nat_eq n) xs
among_positions xs n (Some i) is =
    let put = (is i).0 refl in
    sym (any_of n xs (i, slice_get_within xs i n put, get_or_from_slice_get xs i n n put))
among_positions xs n None is = sym (false_from_ne_true (list_any (nat_eq n) xs) (λ h.
    let (k, within, here) = Contains-from_any eqb-true n xs h in
    let found : None ≡ Some k = (is k).1 (slice_get-get_or xs k n within ∙ ap Some here) in
    absurd (cc)))
