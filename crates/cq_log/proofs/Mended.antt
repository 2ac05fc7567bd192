-- What a log holds with its mending, byte by byte, and with further lines.
use Rattle.std.proofs.Common.{◌≡◌, ◌⊎◌, ℕ, Bool, true, false, if◌then◌else◌, List, [], ◌∷◌, ◌++◌, flat_map, Option, Some, None, Ok, inl, inr, refl, sym, ap, ap₂, ◌∙◌, subst, append_assoc, append-nil}
use Rattle.cq_base.specs.declared.change.Change.{Change}
use Rattle.cq_base.specs.declared.settings.Settings.{Settings}
use Rattle.cq_lines.specs.Pieces.{HasNoFeed, ended, all_lines}
use Rattle.cq_log.proofs.Feeds.{feed_closes, feed_adds, fed_is_closed, line_adds, line_is_closed}
use Rattle.cq_log.proofs.Growing.{held_push}
use Rattle.cq_log.specs.Laws.{HoldsJust, IsMended, ContinueWith}
use Rattle.cq_log.specs.Logs.{Front, front_of, is_accepted, after_whole, onto, held_in, held_by}
use Rattle.cq_log.specs.Mending.{is_unclosed, mending}
use Rattle.cq_request.specs.declared.request.Request.TheVariants as request
use Rattle.cq_talk.specs.Said.{Read, said}

module _ (set : Settings) where
  -- an empty line after a line that was cut off
  torn_mended : (bytes : List ℕ) (own : List (List ℕ)) (changes : List Change) → is_unclosed bytes ≡ false → held_by set bytes ≡ Some (front_of own changes true) → IsMended set (bytes ++ 10 ∷ []) own changes
  torn_mended bytes own changes closed held = record {
    held = ap (held_in set) (feed_adds bytes closed) ∙ held_push set (all_lines bytes) [] ∙ ap (λ (o : Option Front). onto set o []) held;
    closed = fed_is_closed bytes;
  }

  pub mended : (bytes : List ℕ) (own : List (List ℕ)) (changes : List Change) (unclosed torn : Bool) → is_unclosed bytes ≡ unclosed → held_by set bytes ≡ Some (front_of own changes torn) → IsMended set (bytes ++ mending unclosed torn) own changes
  mended bytes own changes false false is held = subst (λ (bs : List ℕ). IsMended set bs own changes) (sym (append-nil bytes)) (record { held = held; closed = is })
  mended bytes own changes true false is held = record { held = ap (held_in set) (feed_closes bytes is) ∙ held; closed = fed_is_closed bytes }
  mended bytes own changes false true is held = torn_mended bytes own changes is held
  mended bytes own changes true true is held =
      subst (λ (bs : List ℕ). IsMended set bs own changes) (append_assoc bytes (10 ∷ []) (10 ∷ [])) (torn_mended (bytes ++ 10 ∷ []) own changes (fed_is_closed bytes) (ap (held_in set) (feed_closes bytes is) ∙ held))

  -- ---- after some bytes of it

  no_front : (some more : List ℕ) → some ++ more ≡ [] → some ≡ []
  no_front [] more is = refl
  no_front (b ∷ some) more is = absurd (cc)

  one_front : (some more : List ℕ) → some ++ more ≡ 10 ∷ [] → (some ≡ []) ⊎ (some ≡ 10 ∷ [])
  one_front [] more is = inl refl
  one_front (b ∷ some) more is =
      let first : b ≡ 10 = cc in
      let rest : some ++ more ≡ [] = cc in
      inr (ap₂ (λ (x : ℕ) (xs : List ℕ). x ∷ xs) first (no_front some more rest))

  two_front : (some more : List ℕ) → some ++ more ≡ 10 ∷ 10 ∷ [] → (some ≡ []) ⊎ ((some ≡ 10 ∷ []) ⊎ (some ≡ 10 ∷ 10 ∷ []))
  two_front [] more is = inl refl
  two_front (b ∷ some) more is =
      let first : b ≡ 10 = cc in
      let rest : some ++ more ≡ 10 ∷ [] = cc in
      elim (one_front some more rest) [
        | inl none ↦ inr (inl (ap₂ (λ (x : ℕ) (xs : List ℕ). x ∷ xs) first none))
        | inr one ↦ inr (inr (ap₂ (λ (x : ℕ) (xs : List ℕ). x ∷ xs) first one))
      ]

  module _ (bytes : List ℕ) (own : List (List ℕ)) (changes : List Change) where
    at_first : (torn : Bool) (some : List ℕ) → some ≡ [] → held_by set bytes ≡ Some (front_of own changes torn) → HoldsJust set (bytes ++ some) own changes
    at_first torn some none held = record { torn = torn; held = ap (held_by set) (ap (λ (bs : List ℕ). bytes ++ bs) none ∙ append-nil bytes) ∙ held }

    at_last : (some all : List ℕ) → some ≡ all → IsMended set (bytes ++ all) own changes → HoldsJust set (bytes ++ some) own changes
    at_last some all is mended_now = record { torn = false; held = ap (held_by set) (ap (λ (bs : List ℕ). bytes ++ bs) is) ∙ mended_now.held }

    pub nothing_changes : (some more : List ℕ) (unclosed torn : Bool) → is_unclosed bytes ≡ unclosed → held_by set bytes ≡ Some (front_of own changes torn) → some ++ more ≡ mending unclosed torn → HoldsJust set (bytes ++ some) own changes
    nothing_changes some more false false is held front = at_first false some (no_front some more front) held
    nothing_changes some more true false is held front =
        elim (one_front some more front) [
          | inl none ↦ at_first false some none held
          | inr all ↦ at_last some (10 ∷ []) all (mended bytes own changes true false is held)
        ]
    nothing_changes some more false true is held front =
        elim (one_front some more front) [
          | inl none ↦ at_first true some none held
          | inr all ↦ at_last some (10 ∷ []) all (mended bytes own changes false true is held)
        ]
    nothing_changes some more true true is held front =
        elim (two_front some more front) [
          | inl none ↦ at_first true some none held
          | inr rest ↦
              elim rest [
                | inl one ↦ record { torn = true; held = ap (held_by set) (ap (λ (bs : List ℕ). bytes ++ bs) one) ∙ (ap (held_in set) (feed_closes bytes is) ∙ held) }
                | inr all ↦ at_last some (10 ∷ 10 ∷ []) all (mended bytes own changes true true is held)
              ]
        ]

  -- ---- with further lines

  moved : (bytes other : List ℕ) (own owned : List (List ℕ)) (changes changed : List Change) → bytes ≡ other → own ≡ owned → changes ≡ changed → IsMended set bytes own changes → IsMended set other owned changed
  moved bytes other own owned changes changed b o c is =
      subst (λ (cs : List Change). IsMended set other owned cs) c (subst (λ (ls : List (List ℕ)). IsMended set other ls changes) o (subst (λ (bs : List ℕ). IsMended set bs own changes) b is))

  one_line : (bytes : List ℕ) (own : List (List ℕ)) (changes : List Change) (line : List ℕ) (change : Change) → IsMended set bytes own changes → said set.chunk line ≡ Read (Ok (request.Change change)) → HasNoFeed line → is_accepted set changes change ≡ true
      → IsMended set (bytes ++ ended line) (own ++ line ∷ []) (changes ++ change ∷ [])
  one_line bytes own changes line change is says clean accepted = record {
    held =
        ap (held_in set) (line_adds bytes line is.closed clean) ∙ held_push set (all_lines bytes) line ∙ ap (λ (o : Option Front). onto set o line) is.held
        ∙ ap (after_whole set (front_of own changes false) line) says ∙ ap (λ (b : Bool). if b then Some (front_of (own ++ line ∷ []) (changes ++ change ∷ []) false) else None) accepted;
    closed = line_is_closed bytes line;
  }

  pub continued : (lines : List (List ℕ)) (changes : List Change) (bytes : List ℕ) (own : List (List ℕ)) (before : List Change) → IsMended set bytes own before → ContinueWith set before lines changes
      → IsMended set (bytes ++ flat_map ended lines) (own ++ lines) (before ++ changes)
  continued [] [] bytes own before is with_them = moved bytes (bytes ++ []) own (own ++ []) before (before ++ []) (sym (append-nil bytes)) (sym (append-nil own)) (sym (append-nil before)) is
  continued [] (change ∷ changes) bytes own before is with_them = absurd with_them
  continued (line ∷ lines) [] bytes own before is with_them = absurd with_them
  continued (line ∷ lines) (change ∷ changes) bytes own before is with_them =
      moved _ _ _ _ _ _ (append_assoc bytes (ended line) (flat_map ended lines)) (append_assoc own (line ∷ []) lines) (append_assoc before (change ∷ []) changes)
      (continued lines changes (bytes ++ ended line) (own ++ line ∷ []) (before ++ change ∷ []) (one_line bytes own before line change is with_them.0 with_them.1 with_them.2) with_them.3)
