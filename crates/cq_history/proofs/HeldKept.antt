-- What a shard holds at a higher floor: of what it holds, the rows of later changes and of the puts that the floor keeps.
use Rattle.std.proofs.Common.{◌≡◌, ◌⊎◌, ℕ, ◌-◌, ◌<◌, ◌≤◌, List, Some, Contains, sym, subst, ap, ◌∙◌, inl, inr, ⊎_elim, arith}
use Rattle.std.specs.Prelude.{◌↔◌}
use Rattle.std.proofs.lemmas.Bool.{cases_lt}
use Rattle.std.proofs.lemmas.Option.{get_or_from_slice_get}
use Rattle.cq_base.specs.declared.lang.Lang.{Lang}
use Rattle.cq_base.specs.declared.change.Change.{Change}
use Rattle.cq_base.specs.declared.change.Change.TheVariants.{Put}
use Rattle.cq_history.specs.Changes.{is_put, change_at, no_change}
use Rattle.cq_history.specs.Gone.{IsGone, IsOver, AreKeptPuts}
use Rattle.cq_history.specs.Shards.{Row, IsLastOfFile, ShardHolds}

-- a put that no change of its file up to the floor follows is not gone
last_not_gone : (changes : List Change) (floor r : ℕ) (q p : List ℕ) (lang : Lang) (text : List ℕ) → change_at changes r ≡ Some (Put q p lang text) → IsLastOfFile changes q p r floor → IsGone changes floor r → ⊥
last_not_gone changes floor r q p lang text put last g =
    let over = subst (IsOver changes floor r) (same (sym g.is ∙ put)) g.over in
    last over.later over.change over.behind over.within over.next over.passes
  where
    same : {c d : Change} → Some c ≡ Some d → c ≡ d
    same e = cc e

module _ (IsWindow : Lang → List ℕ → ℕ → ℕ → Type 0) (shards : ℕ) (changes : List Change) (shard applied floor higher : ℕ) (row : Row) where
  at_floor : floor ≤ higher → ShardHolds IsWindow shards changes shard applied higher row → ShardHolds IsWindow shards changes shard applied floor row
  at_floor low h = record {
    project = h.project;
    path = h.path;
    lang = h.lang;
    text = h.text;
    accepted = h.accepted;
    put = h.put;
    applies = h.applies;
    window = h.window;
    mine = h.mine;
    lives = λ k c above below is of_file. h.lives k c above (omega (arith, below, low)) is of_file;
  }

  at_higher : (held : ShardHolds IsWindow shards changes shard applied floor row) → IsLastOfFile changes held.project held.path row.number higher → ShardHolds IsWindow shards changes shard applied higher row
  at_higher h last = record {
    project = h.project;
    path = h.path;
    lang = h.lang;
    text = h.text;
    accepted = h.accepted;
    put = h.put;
    applies = h.applies;
    window = h.window;
    mine = h.mine;
    lives = last;
  }

  pub held_kept : (keep : List ℕ) → floor ≤ higher → AreKeptPuts changes higher keep →
      ShardHolds IsWindow shards changes shard applied higher row ↔ (ShardHolds IsWindow shards changes shard applied floor row × ((higher < row.number) ⊎ Contains keep row.number))
  held_kept keep low are = (
    λ h. (
      at_floor low h,
      ⊎_elim
          (λ (above : higher < row.number). inl above)
          (λ (within : row.number ≤ higher). inr ((are.each row.number).1 (
            (h.accepted, last_not_gone changes higher row.number h.project h.path h.lang h.text h.put h.lives),
            within,
            ap is_put (get_or_from_slice_get changes (row.number - 1) (Put h.project h.path h.lang h.text) no_change h.put),
          )))
          (cases_lt higher row.number),
    ),
    λ both.
        let h = both.0 in
        at_higher h (λ k c above below is of_file.
        ⊎_elim
        (λ (past : higher < row.number). absurd (omega (arith, past, above, below)))
        (λ there.
        ((are.each row.number).0 there).0.1 (record {
          change = Put h.project h.path h.lang h.text;
          accepted = h.accepted;
          within = omega (arith, above, below);
          is = h.put;
          over = record { later = k; change = c; behind = above; within = below; next = is; passes = of_file };
        }))
        both.1),
  )
