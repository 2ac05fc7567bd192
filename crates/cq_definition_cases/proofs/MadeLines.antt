-- What the line of a made project may not say.
use Rattle.std.specs.Prelude.{◌≡◌, ℕ, Bool, true, false, List, [], ◌∷◌, ◌++◌, length, drop, slice_index, codes, decimal, Some, Result, Ok, Err}
use Rattle.std.specs.Fmt.{digits}
use Rattle.std.proofs.Common.{arith, ap, refl, sym, ◌∙◌, subst, append_assoc, drop_at, length-append}
use Rattle.json.specs.Print.{quoted}
use Rattle.serde_json.specs.Data.{Data, Members, boolean, member, no_members}
use Rattle.serde_json.specs.Written.{comma_if, compact_text, members_text}
use Rattle.cq_base.specs.declared.measures.Measures.{Measures}
use Rattle.cq_io.specs.declared.source.Failed.{Failed}
use Rattle.cq_make.specs.Made.{Makes}
use Rattle.cq_make.specs.Summary.{IsSummary, summary_line, token_count}
use Rattle.cq_program.specs.Statuses.{end_of, status_of}
use Rattle.cq_program.specs.Top.{IsMade}
use Rattle.cq_program.specs.declared.status.Status.TheVariants as ended
use Rattle.cq_reply.specs.Written.{count, measures_members}
use Rattle.cq_words.specs.Command.{default_settings}

-- ---- how bytes end

abbrev IsEnd : List ℕ → List ℕ → Type 0
IsEnd end bytes = (front : List ℕ) × (bytes ≡ front ++ end)

end_behind : (more bytes end : List ℕ) → IsEnd end bytes → IsEnd end (more ++ bytes)
end_behind more bytes end ends = (more ++ ends.0, ap (λ (bs : List ℕ). more ++ bs) ends.1 ∙ sym (append_assoc more ends.0 end))

-- two ends of the same length are one
one_end : (front other end its : List ℕ) → length end ≡ length its → front ++ end ≡ other ++ its → end ≡ its
one_end front other end its long same =
    let lengths = ap (λ (bs : List ℕ). length bs) same in
    sym (drop_at front end (length front) refl) ∙ (ap (λ (bs : List ℕ). drop (length front) bs) same ∙ drop_at other its (length front) (omega (arith, lengths, long, length-append front end, length-append other its)))

-- an object ends as its first member's value with what follows, and a line feed
end_of_value : (later : Bool) (key : List ℕ) (d : Data) (ms : Members) (end : List ℕ) → IsEnd end (compact_text d ++ (members_text true ms ++ 10 ∷ [])) → IsEnd end (members_text later (member key d ms) ++ 10 ∷ [])
end_of_value later key d ms end ends =
    let brackets : members_text later (member key d ms) ++ 10 ∷ [] ≡ comma_if later ++ (quoted key ++ 58 ∷ (compact_text d ++ (members_text true ms ++ 10 ∷ []))) =
    append_assoc (comma_if later) (quoted key ++ 58 ∷ (compact_text d ++ members_text true ms)) (10 ∷ [])
    ∙ ap (λ (bs : List ℕ). comma_if later ++ bs)
    (append_assoc (quoted key) (58 ∷ (compact_text d ++ members_text true ms)) (10 ∷ [])
    ∙ ap (λ (bs : List ℕ). quoted key ++ 58 ∷ bs) (append_assoc (compact_text d) (members_text true ms) (10 ∷ []))) in
    subst (IsEnd end) (sym brackets)
    (end_behind (comma_if later) (quoted key ++ 58 ∷ (compact_text d ++ (members_text true ms ++ 10 ∷ []))) end
    (end_behind (quoted key) (58 ∷ (compact_text d ++ (members_text true ms ++ 10 ∷ []))) end (end_behind (58 ∷ []) (compact_text d ++ (members_text true ms ++ 10 ∷ [])) end ends)))

-- and so as what follows
end_of_members : (later : Bool) (key : List ℕ) (d : Data) (ms : Members) (end : List ℕ) → IsEnd end (members_text true ms ++ 10 ∷ []) → IsEnd end (members_text later (member key d ms) ++ 10 ∷ [])
end_of_members later key d ms end ends = end_of_value later key d ms end (end_behind (compact_text d) (members_text true ms ++ 10 ∷ []) end ends)

-- ---- the line of two files, and that of four

module _ (groups : ℕ) (measures : Measures) (tokens version : ℕ) (end : List ℕ) (last : IsEnd end (decimal version ++ 125 ∷ 10 ∷ [])) where
  abbrev from_version : Members
  from_version = member (codes "version") (count version) no_members

  abbrev from_tokens : Members
  from_tokens = member (codes "tokens") (count tokens) from_version

  abbrev from_ok : Members
  from_ok = member (codes "ok") (boolean true) from_tokens

  abbrev from_measures : Members
  from_measures = member (codes "measures") (measures_members measures) from_ok

  end_of_line : IsEnd end (summary_line groups measures tokens version)
  end_of_line =
      let of_version = end_of_value true (codes "version") (count version) no_members end last in
      let of_tokens = end_of_members true (codes "tokens") (count tokens) from_version end of_version in
      let of_ok = end_of_members true (codes "ok") (boolean true) from_tokens end of_tokens in
      let of_measures = end_of_members true (codes "measures") (measures_members measures) from_ok end of_ok in
      let of_groups = end_of_members false (codes "groups") (count groups) from_measures end of_measures in
      end_behind (123 ∷ []) (members_text false (member (codes "groups") (count groups) from_measures) ++ 10 ∷ []) end of_groups

two_is_written : decimal 2 ≡ 50 ∷ []
unfolding digits
two_is_written = refl

four_is_written : decimal 4 ≡ 52 ∷ []
unfolding digits
four_is_written = refl

end_of_two : IsEnd (50 ∷ 125 ∷ 10 ∷ []) (decimal 2 ++ 125 ∷ 10 ∷ [])
end_of_two = ([], ap (λ (bs : List ℕ). bs ++ 125 ∷ 10 ∷ []) two_is_written)

end_of_four : IsEnd (52 ∷ 125 ∷ 10 ∷ []) (decimal 4 ++ 125 ∷ 10 ∷ [])
end_of_four = ([], ap (λ (bs : List ℕ). bs ++ 125 ∷ 10 ∷ []) four_is_written)

apart : (groups its : ℕ) (measures others : Measures) (tokens more : ℕ) → summary_line groups measures tokens 2 ≡ summary_line its others more 4 → ⊥
apart groups its measures others tokens more same =
    let two = end_of_line groups measures tokens 2 (50 ∷ 125 ∷ 10 ∷ []) end_of_two in
    let four = end_of_line its others more 4 (52 ∷ 125 ∷ 10 ∷ []) end_of_four in
    let ends = one_end two.0 four.0 (50 ∷ 125 ∷ 10 ∷ []) (52 ∷ 125 ∷ 10 ∷ []) refl (sym two.1 ∙ (same ∙ four.1)) in
    let digit : 50 ≡ 52 = ap (λ (bs : List ℕ). slice_index bs 0) ends in omega (arith, digit)

-- four files are asked for
of_four : (number : ℕ) (line : List ℕ) (by : Result (Unit {0}) Failed)
    → IsSummary default_settings number 2 line → ended.Done ≡ status_of (end_of by) → Makes default_settings number 4 (Some []) (Some line) by → ⊥
of_four number line (Ok sent) is status makes =
    let whole : line ≡ makes.line = makes.sends in
    apart (length is.groups) (length makes.is_summary.groups) is.measures makes.is_summary.measures (token_count is.rows) (token_count makes.is_summary.rows) (sym is.line_is ∙ (whole ∙ makes.is_summary.line_is))
of_four number line (Err failed) is status makes = grind (arith, status)

pub a_made_line_is_of_all_files_that_are_asked_for : (number : ℕ) (line : List ℕ) → IsSummary default_settings number 2 line → IsMade number 4 (Some []) (Some line) 0 0 ended.Done → ⊥
a_made_line_is_of_all_files_that_are_asked_for number line is made = of_four number line made.by is made.status_is made.makes
