-- The longest spelling of a table's rows, as the scan reads one character more.
use Rattle.std.proofs.Common.{◌≡◌, ℕ, suc, ◌+◌, ◌-◌, ◌<◌, ◌≤◌, Option, Some, None, List, [], ◌∷◌, ◌++◌, ◌↔◌, length, take, get_or, append_assoc, refl, sym, ap, subst, ◌∙◌, arith}
use Rattle.std.proofs.lemmas.List.{take_more, append-nil}
use Rattle.std.specs.Option.{option_map, IfSome}
use Rattle.cq_munch.specs.Automata.{Tables, class_at, entry_at, row_from, row_of, HasRow, RowAt}
use Rattle.cq_munch.specs.Longest.{LongestAt}
use Rattle.cq_munch.specs.Scans.{Scanned}
use Rattle.cq_munch.proofs.Front.{scanned_won, scanned_kept, scanned_stopped, scanned_all}

-- how many characters the found spelling has
abbrev pub length_found : Option (ℕ × ℕ) → Option ℕ
length_found found = option_map (λ (f : ℕ × ℕ). f.0) found

-- i characters are read, and they lead to the state; the longest spelling among them is of this row
pub record Rowed (t : Tables) (text : List ℕ) (i state : ℕ) (found : Option (ℕ × ℕ)) : Type 0 where
  pub leads : (s : List ℕ) → row_of t (take i text ++ s) ≡ row_from t (suc state) s
  pub best : LongestAt (HasRow t) (take i text) (length_found found)
  pub row : IfSome found (λ f. row_of t (take f.0 text) ≡ suc f.1)

pub rowed_none : (t : Tables) (text : List ℕ) → Rowed t text 0 0 None
rowed_none t text = record { leads = λ s. refl; best = λ m some within. absurd (omega arith); row = tt }

with_row : (t : Tables) (text : List ℕ) (found : Option (ℕ × ℕ)) → LongestAt (HasRow t) text (length_found found) → IfSome found (λ f. row_of t (take f.0 text) ≡ suc f.1) → RowAt t text found
with_row t text None h row = h
with_row t text (Some f) h row = (h, row)

module _ (t : Tables) (text : List ℕ) (i state : ℕ) (found : Option (ℕ × ℕ)) (so_far : Rowed t text i state found) where
  scanned : Scanned (HasRow t) (λ s. 0 < row_from t (suc state) s) text i (length_found found)
  scanned = record {
    goes = λ s. (λ h. subst (λ n. 0 < n) (so_far.leads s) h, λ h. subst (λ n. 0 < n) (sym (so_far.leads s)) h);
    best = so_far.best;
  }

  pub rowed_all : length text ≤ i → RowAt t text found
  rowed_all end = with_row t text found (scanned_all _ _ text i (length_found found) scanned end) so_far.row

  module _ (c : ℕ) (inside : i < length text) (c_is : get_or text i 0 ≡ c) where
    -- no step from the state
    pub rowed_stopped : entry_at t state c ≡ 0 → RowAt t text found
    rowed_stopped stops =
        with_row t text found
        (scanned_stopped scanned c inside c_is (λ s h. let none : 0 < row_from t 0 s = subst (λ e. 0 < row_from t e s) stops h in omega (arith, none))) so_far.row

    module _ (next : ℕ) (steps : entry_at t state c ≡ suc next) where
      leads_on : (s : List ℕ) → row_of t (take (i + 1) text ++ s) ≡ row_from t (suc next) s
      leads_on s =
          ap (λ v. row_of t (v ++ s)) (take_more text i 0 inside ∙ ap (λ v. take i text ++ v ∷ []) c_is)
          ∙ ap (row_of t) (append_assoc (take i text) (c ∷ []) s)
          ∙ so_far.leads (c ∷ s)
          ∙ ap (λ e. row_from t e s) steps

      goes_on : (s : List ℕ) → (0 < row_from t (suc state) (c ∷ s)) ↔ (0 < row_from t (suc next) s)
      goes_on s = (λ h. subst (λ e. 0 < row_from t e s) steps h, λ h. subst (λ e. 0 < row_from t e s) (sym steps) h)

      -- a spelling of a row ends there
      pub rowed_won : (row : ℕ) → get_or t.ends next 0 ≡ suc row → Rowed t text (i + 1) next (Some (i + 1, row))
      rowed_won row is = record {
        leads = leads_on;
        best = (scanned_won scanned c inside c_is (λ s. 0 < row_from t (suc next) s) goes_on (omega (arith, is))).best;
        row = ap (row_of t) (sym (append-nil (take (i + 1) text))) ∙ leads_on [] ∙ is;
      }

      -- none ends there
      pub rowed_kept : get_or t.ends next 0 ≡ 0 → Rowed t text (i + 1) next found
      rowed_kept is = record {
        leads = leads_on;
        best = (scanned_kept scanned c inside c_is (λ s. 0 < row_from t (suc next) s) goes_on (λ h. omega (arith, is, h))).best;
        row = so_far.row;
      }

-- the entry at a character, by its class
pub entry_is : (t : Tables) (state c class : ℕ) → class ≡ class_at t.classes c → (e : ℕ) → get_or (get_or t.steps state []) class 0 - 48 ≡ e → entry_at t state c ≡ e
entry_is t state c class is e entry = ap (λ k. get_or (get_or t.steps state []) k 0 - 48) (sym is) ∙ entry
