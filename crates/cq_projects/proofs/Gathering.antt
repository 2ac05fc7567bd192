-- The files of a draft, where one path more is set.
use Rattle.std.proofs.Common.{Global, ◌≡◌, ℕ, Bool, true, false, cond, List, [], ◌∷◌, ◌++◌, map, Option, Some, None, refl, sym, ap, ◌∙◌, subst}
use Rattle.std.specs.Prelude.{option_map}
use Rattle.std.specs.Arc.{arc_value}
use Rattle.std.specs.declared.sync.Arc.{Arc}
use Rattle.std.specs.List.{AllByRecursion}
use Rattle.std.specs.Map.{lookup, keys_of}
use Rattle.std.specs.BTreeMap.{insert_entry, is_at}
use Rattle.std.specs.Str.{bytes_eq}
use Rattle.std.specs.Ordering.{nat_cmp, match_ordering}
use Rattle.std.specs.declared.cmp.Ordering.{Ordering}
use Rattle.std.specs.declared.cmp.Ordering.TheVariants.{Less, Equal, Greater}
use Rattle.std.specs.Cmp.Lexicographic.{slice_cmp}
use Rattle.std.proofs.lemmas.List.{append_assoc, map-append}
use Rattle.std.proofs.lemmas.Map.Lookups.{exact_bytes}
use Rattle.std.proofs.lemmas.Map.Text.{is_eq-slice_cmp}
use Rattle.std.proofs.lemmas.Slice.Eq.{bytes_eq-Decides}
use Rattle.cq_history.specs.Files.{File, number_at}
use Rattle.cq_projects.specs.declared.merging.Named.{Named}
use Rattle.cq_projects.specs.Drafts.{edited_at, edited_all, files_at, number_in, IsCut, IsOwn, AreOwn, AreCut}
use Rattle.cq_projects.specs.Projects.{path_of}
use Rattle.cq_projects.specs.Ordered.{AreRising}
use Rattle.cq_projects.proofs.FileAt.{file_at, number_file, file_at-with, file_at-without, same_files}
use Rattle.cq_projects.proofs.PathOrders.{rising_with, rising_without}

abbrev pub text_cmp : Arc (List ℕ) Global → Arc (List ℕ) Global → Ordering
text_cmp a b = slice_cmp nat_cmp (arc_value a) (arc_value b)

not_equal : (r : Ordering) → r ≡ Greater → r ≡ Equal → ⊥
not_equal r g e = let clash : Greater ≡ Equal = sym g ∙ e in absurd (cc)

equal_itself : (p q : List ℕ) → p ≡ q → slice_cmp nat_cmp p q ≡ Equal
equal_itself p q e = ordering_eq (slice_cmp nat_cmp p q) (is_eq-slice_cmp p q ∙ (bytes_eq-Decides p q).1 e)
  where
    ordering_eq : (r : Ordering) → Rattle.std.specs.Ordering.is_eq r ≡ true → r ≡ Equal
    ordering_eq Less h = absurd (cc)
    ordering_eq Equal h = refl
    ordering_eq Greater h = absurd (cc)

each_insert : {V : Type 0} (P : List ℕ → V → Type 0) (es : List (Arc (List ℕ) Global × V)) (p : Arc (List ℕ) Global) (v : V) → P (arc_value p) v →
    AllByRecursion (λ (e : Arc (List ℕ) Global × V). P (arc_value e.0) e.1) es → AllByRecursion (λ (e : Arc (List ℕ) Global × V). P (arc_value e.0) e.1) (insert_entry text_cmp es p v)
each_insert P [] p v here all = (here, tt)
each_insert {V} P (e ∷ es) p v here all = go (text_cmp p e.0) refl (each_insert P es p v here all.1)
  where
    go : (o : Ordering) → text_cmp p e.0 ≡ o → AllByRecursion (λ (e : Arc (List ℕ) Global × V). P (arc_value e.0) e.1) (insert_entry text_cmp es p v) →
        AllByRecursion (λ (e : Arc (List ℕ) Global × V). P (arc_value e.0) e.1) (match_ordering o ((p, v) ∷ e ∷ es) ((e.0, v) ∷ es) (e ∷ insert_entry text_cmp es p v))
    go Less h rest = (here, all)
    go Equal h rest = (subst (λ q. P q v) (exact_bytes (arc_value p) (arc_value e.0) h) here, all.1)
    go Greater h rest = (all.0, rest)

module _ {W : Type 0} where
  abbrev value_of : Option (Arc (File W) Global) → Option (File W)
  value_of file = option_map arc_value file

  -- what stands at a path after the edits
  abbrev look : List ℕ → List (Arc (List ℕ) Global × Option (Arc (File W) Global)) → Option (File W) → Option (File W)
  look r [] before = before
  look r (e ∷ es) before = cond (bytes_eq r (arc_value e.0)) (value_of e.1) (look r es before)

  edited_file : (r p : List ℕ) (file : Option (Arc (File W) Global)) (files : List (File W)) → IsOwn p file → file_at r (edited_at p file files) ≡ cond (bytes_eq r p) (value_of file) (file_at r files)
  edited_file r p None files own = file_at-without r p files
  edited_file r p (Some held) files own = file_at-with r (arc_value held) files ∙ ap (λ q. cond (bytes_eq r q) (Some (arc_value held)) (file_at r files)) own

  all_files : (r : List ℕ) (es : List (Arc (List ℕ) Global × Option (Arc (File W) Global))) (files : List (File W)) → AreOwn es → file_at r (edited_all es files) ≡ look r es (file_at r files)
  all_files r [] files own = refl
  all_files r (e ∷ es) files own = edited_file r (arc_value e.0) e.1 (edited_all es files) own.0 ∙ ap (cond (bytes_eq r (arc_value e.0)) (value_of e.1)) (all_files r es files own.1)

  edited_rises : (p : List ℕ) (file : Option (Arc (File W) Global)) (files : List (File W)) → AreRising path_of files → AreRising path_of (edited_at p file files)
  edited_rises p None files rising = rising_without p files rising
  edited_rises p (Some held) files rising = rising_with (arc_value held) files rising

  pub all_rise : (es : List (Arc (List ℕ) Global × Option (Arc (File W) Global))) (files : List (File W)) → AreRising path_of files → AreRising path_of (edited_all es files)
  all_rise [] files rising = rising
  all_rise (e ∷ es) files rising = edited_rises (arc_value e.0) e.1 (edited_all es files) (all_rise es files rising)

  -- ---- one path more

  overwritten : (a : Bool) (x y z : Option (File W)) → cond a x z ≡ cond a x (cond a y z)
  overwritten true x y z = refl
  overwritten false x y z = refl

  passed : (a b : Bool) (x y z : Option (File W)) → (a ≡ true → b ≡ true → ⊥) → cond b x (cond a y z) ≡ cond a y (cond b x z)
  passed true true x y z apart = absurd (apart refl refl)
  passed true false x y z apart = refl
  passed false b x y z apart = refl

  look_insert : (r : List ℕ) (es : List (Arc (List ℕ) Global × Option (Arc (File W) Global))) (p : Arc (List ℕ) Global) (file : Option (Arc (File W) Global)) (before : Option (File W)) →
      look r (insert_entry text_cmp es p file) before ≡ cond (bytes_eq r (arc_value p)) (value_of file) (look r es before)
  look_insert r [] p file before = refl
  look_insert r (e ∷ es) p file before = go (text_cmp p e.0) refl (look_insert r es p file before)
    where
      go : (o : Ordering) → text_cmp p e.0 ≡ o → look r (insert_entry text_cmp es p file) before ≡ cond (bytes_eq r (arc_value p)) (value_of file) (look r es before) →
          look r (match_ordering o ((p, file) ∷ e ∷ es) ((e.0, file) ∷ es) (e ∷ insert_entry text_cmp es p file)) before ≡ cond (bytes_eq r (arc_value p)) (value_of file) (look r (e ∷ es) before)
      go Less h rest = refl
      go Equal h rest =
          overwritten (bytes_eq r (arc_value e.0)) (value_of file) (value_of e.1) (look r es before)
          ∙ ap (λ q. cond (bytes_eq r q) (value_of file) (look r (e ∷ es) before)) (sym (exact_bytes (arc_value p) (arc_value e.0) h))
      go Greater h rest =
          ap (cond (bytes_eq r (arc_value e.0)) (value_of e.1)) rest
          ∙ passed (bytes_eq r (arc_value p)) (bytes_eq r (arc_value e.0)) (value_of e.1) (value_of file) (look r es before)
          (λ here there. not_equal (text_cmp p e.0) h (equal_itself (arc_value p) (arc_value e.0) (sym ((bytes_eq-Decides r (arc_value p)).0 here) ∙ (bytes_eq-Decides r (arc_value e.0)).0 there)))

  pub own_insert : (es : List (Arc (List ℕ) Global × Option (Arc (File W) Global))) (p : Arc (List ℕ) Global) (file : Option (Arc (File W) Global)) → IsOwn (arc_value p) file → AreOwn es → AreOwn (insert_entry text_cmp es p file)
  own_insert es p file own all = each_insert IsOwn es p file own all

  pub cut_insert : (files : List (File W)) (es : List (Arc (List ℕ) Global × Named W)) (p : Arc (List ℕ) Global) (named : Named W) → IsCut (arc_value p) files named.before named.behind → AreCut files es → AreCut files (insert_entry text_cmp es p named)
  cut_insert files es p named cut all = each_insert (λ q (n : Named W). IsCut q files n.before n.behind) es p named cut all

  -- ---- the files alone

  pub files_insert : (es : List (Arc (List ℕ) Global × Named W)) (p : Arc (List ℕ) Global) (named : Named W) → files_at (insert_entry text_cmp es p named) ≡ insert_entry text_cmp (files_at es) p named.file
  files_insert [] p named = refl
  files_insert (e ∷ es) p named = go (text_cmp p e.0) (files_insert es p named)
    where
      go : (o : Ordering) → files_at (insert_entry text_cmp es p named) ≡ insert_entry text_cmp (files_at es) p named.file →
          files_at (match_ordering o ((p, named) ∷ e ∷ es) ((e.0, named) ∷ es) (e ∷ insert_entry text_cmp es p named))
          ≡ match_ordering o ((p, named.file) ∷ (e.0, e.1.file) ∷ files_at es) ((e.0, named.file) ∷ files_at es) ((e.0, e.1.file) ∷ insert_entry text_cmp (files_at es) p named.file)
      go Less rest = refl
      go Equal rest = refl
      go Greater rest = ap (λ (xs : List (Arc (List ℕ) Global × Option (Arc (File W) Global))). (e.0, e.1.file) ∷ xs) rest

  pub files_lookup : (p : Arc (List ℕ) Global) (es : List (Arc (List ℕ) Global × Named W)) → lookup (is_at (text_cmp p)) (files_at es) ≡ option_map (λ (n : Named W). n.file) (lookup (is_at (text_cmp p)) es)
  files_lookup p [] = refl
  files_lookup p (e ∷ es) =
      elim (is_at (text_cmp p) e.0) as (λ b. cond b (Some e.1.file) (lookup (is_at (text_cmp p)) (files_at es)) ≡ option_map (λ (n : Named W). n.file) (cond b (Some e.1) (lookup (is_at (text_cmp p)) es)))
      [ true ↦ refl | false ↦ files_lookup p es ]

  pub keys_at : (es : List (Arc (List ℕ) Global × Named W)) → keys_of (files_at es) ≡ keys_of es
  keys_at [] = refl
  keys_at (e ∷ es) = ap (λ ks. e.0 ∷ ks) (keys_at es)

  pub set_files : (es : List (Arc (List ℕ) Global × Option (Arc (File W) Global))) (p : Arc (List ℕ) Global) (file : Option (Arc (File W) Global)) (files : List (File W)) → IsOwn (arc_value p) file → AreOwn es → AreRising path_of files →
      edited_all (insert_entry text_cmp es p file) files ≡ edited_at (arc_value p) file (edited_all es files)
  set_files es p file files own all rising =
      same_files (edited_all (insert_entry text_cmp es p file) files) (edited_at (arc_value p) file (edited_all es files))
      (all_rise (insert_entry text_cmp es p file) files rising) (edited_rises (arc_value p) file (edited_all es files) (all_rise es files rising))
      (λ r. all_files r (insert_entry text_cmp es p file) files (own_insert es p file own all) ∙ look_insert r es p file (file_at r files)
      ∙ ap (cond (bytes_eq r (arc_value p)) (value_of file)) (sym (all_files r es files all)) ∙ sym (edited_file r (arc_value p) file (edited_all es files) own))

  -- ---- the number of the file that is replaced

  pick : Option (Option (Arc (File W) Global)) → Option (File W) → Option (File W)
  pick None before = before
  pick (Some file) before = value_of file

  look_found : (p : Arc (List ℕ) Global) (es : List (Arc (List ℕ) Global × Option (Arc (File W) Global))) (before : Option (File W)) → look (arc_value p) es before ≡ pick (lookup (is_at (text_cmp p)) es) before
  unfolding pick
  look_found p [] before = refl
  look_found p (e ∷ es) before =
      ap (λ b. cond b (value_of e.1) (look (arc_value p) es before)) (sym (is_eq-slice_cmp (arc_value p) (arc_value e.0)))
      ∙ elim (is_at (text_cmp p) e.0) as (λ b. cond b (value_of e.1) (look (arc_value p) es before) ≡ pick (cond b (Some e.1) (lookup (is_at (text_cmp p)) es)) before)
      [ true ↦ refl | false ↦ look_found p es before ]

  module _ (es : List (Arc (List ℕ) Global × Option (Arc (File W) Global))) (p : Arc (List ℕ) Global) (files : List (File W)) (own : AreOwn es) where
    number_then : (old : Option (Option (Arc (File W) Global))) → old ≡ lookup (is_at (text_cmp p)) es → number_at (arc_value p) (edited_all es files) ≡ option_map (λ (f : File W). f.number) (pick old (file_at (arc_value p) files))
    number_then old is =
        number_file (arc_value p) (edited_all es files) ∙ ap (option_map (λ (f : File W). f.number)) (all_files (arc_value p) es files own ∙ look_found p es (file_at (arc_value p) files))
        ∙ ap (λ o. option_map (λ (f : File W). f.number) (pick o (file_at (arc_value p) files))) (sym is)

    pub number_put : (held : Arc (File W) Global) → Some (Some held) ≡ lookup (is_at (text_cmp p)) es → Some (arc_value held).number ≡ number_at (arc_value p) (edited_all es files)
    unfolding pick
    number_put held is = sym (number_then (Some (Some held)) is)

    pub number_dropped : Some None ≡ lookup (is_at (text_cmp p)) es → None ≡ number_at (arc_value p) (edited_all es files)
    unfolding pick
    number_dropped is = sym (number_then (Some None) is)

    pub number_before : None ≡ lookup (is_at (text_cmp p)) es → number_at (arc_value p) files ≡ number_at (arc_value p) (edited_all es files)
    unfolding pick
    number_before is = number_file (arc_value p) files ∙ sym (number_then None is)

    pub number_replaced : (file : Option (Arc (File W) Global)) → Some file ≡ lookup (is_at (text_cmp p)) es → option_map number_in file ≡ number_at (arc_value p) (edited_all es files)
    number_replaced None is = number_dropped is
    number_replaced (Some held) is = number_put held is

-- ---- the drafts that are finished

pub finished_more : {X : Type 0} (done now : List (Arc X Global)) (p : Arc X Global) (d : X) (rest left all : List X) → now ≡ done ++ p ∷ [] → arc_value p ≡ d → left ≡ d ∷ rest → map arc_value done ++ left ≡ all → map arc_value now ++ rest ≡ all
finished_more done now p d rest left all pushed is next was =
    ap (λ ps. map arc_value ps ++ rest) pushed ∙ ap (λ xs. xs ++ rest) (map-append arc_value done (p ∷ [])) ∙ append_assoc (map arc_value done) (arc_value p ∷ []) rest
    ∙ ap (λ e. map arc_value done ++ e ∷ rest) is ∙ ap (λ xs. map arc_value done ++ xs) (sym next) ∙ was

-- ---- the drafts that are begun

pub drafted_more : {X : Type 0} (done now : List X) (d : X) (p : Arc X Global) (rest left : List (Arc X Global)) (all : List X) → now ≡ done ++ d ∷ [] → d ≡ arc_value p → left ≡ p ∷ rest → done ++ map arc_value left ≡ all → now ++ map arc_value rest ≡ all
drafted_more done now d p rest left all pushed is next was =
    ap (λ xs. xs ++ map arc_value rest) pushed ∙ append_assoc done (d ∷ []) (map arc_value rest) ∙ ap (λ e. done ++ e ∷ map arc_value rest) is ∙ ap (λ ps. done ++ map arc_value ps) (sym next) ∙ was
