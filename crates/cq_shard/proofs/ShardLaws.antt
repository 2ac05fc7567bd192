-- What a shard holds, as changes are accepted and as it applies them.
use Rattle.std.proofs.Common.{◌≡◌, ◌↔◌, ℕ, ◌+◌, ◌<◌, ◌≤◌, ◌%◌, List, ◌++◌, length, Some, sym, ◌∙◌, subst, arith, ◌⊎◌, inl, inr, ⊎_elim}
use Rattle.std.proofs.lemmas.Bool.{cases_lt}
use Rattle.std.proofs.lemmas.List.{length-append}
use Rattle.cq_base.specs.declared.lang.Lang.{Lang}
use Rattle.cq_base.specs.declared.change.Change.{Change}
use Rattle.cq_base.specs.declared.change.Change.TheVariants.{Put}
use Rattle.cq_history.specs.declared.event.Event.{Event}
use Rattle.cq_history.specs.State.{accepted}
use Rattle.cq_history.specs.Changes.{change_at, IsNumber}
use Rattle.cq_history.specs.Shards.{Row, IsLastOfFile, ShardHolds}
use Rattle.cq_shard.specs.Laws.{ApplyingAddsItsRows, SweepingTakesOutAlone}
use Rattle.cq_history.proofs.Numbers.{change_at-append}
use Rattle.cq_history.proofs.Prefixes.{accepted-append}

module _ (IsWindow : Lang → List ℕ → ℕ → ℕ → Type 0) (shards : ℕ) where
  -- what is accepted later changes nothing of what a shard holds
  pub ShardHolds-append : (cs ds : List Change) (shard applied floor : ℕ) (row : Row) → applied ≤ length cs → floor ≤ length cs → ShardHolds IsWindow shards cs shard applied floor row → ShardHolds IsWindow shards (cs ++ ds) shard applied floor row
  ShardHolds-append cs ds shard applied floor row le_a le_f h = record {
    project = h.project;
    path = h.path;
    lang = h.lang;
    text = h.text;
    accepted = (h.accepted.0, omega (arith, h.accepted.1, length-append cs ds));
    put = change_at-append cs ds row.number h.accepted ∙ h.put;
    applies = h.applies;
    window = h.window;
    mine = h.mine;
    lives = λ k c above below is of_file. h.lives k c above below (sym (change_at-append cs ds k (omega (arith, above), omega (arith, below, le_f))) ∙ is) of_file;
  }

  pub ShardHolds-prefix : (cs ds : List Change) (shard applied floor : ℕ) (row : Row) → applied ≤ length cs → floor ≤ length cs → ShardHolds IsWindow shards (cs ++ ds) shard applied floor row → ShardHolds IsWindow shards cs shard applied floor row
  ShardHolds-prefix cs ds shard applied floor row le_a le_f h =
      let here : IsNumber cs row.number = (h.accepted.0, omega (arith, h.applies, le_a)) in
      record {
        project = h.project;
        path = h.path;
        lang = h.lang;
        text = h.text;
        accepted = here;
        put = sym (change_at-append cs ds row.number here) ∙ h.put;
        applies = h.applies;
        window = h.window;
        mine = h.mine;
        lives = λ k c above below is of_file. h.lives k c above below (change_at-append cs ds k (omega (arith, above), omega (arith, below, le_f)) ∙ is) of_file;
      }

  -- applying one more change keeps each row, and adds only rows of that change
  pub applied_keeps : (cs : List Change) (shard applied floor : ℕ) (row : Row) → ShardHolds IsWindow shards cs shard applied floor row → ShardHolds IsWindow shards cs shard (applied + 1) floor row
  applied_keeps cs shard applied floor row h = record { project = h.project; path = h.path; lang = h.lang; text = h.text; accepted = h.accepted; put = h.put; applies = omega (arith, h.applies); window = h.window; mine = h.mine; lives = h.lives }

  pub applied_cases : (cs : List Change) (shard applied floor : ℕ) (row : Row) → ShardHolds IsWindow shards cs shard (applied + 1) floor row → ShardHolds IsWindow shards cs shard applied floor row ⊎ (row.number ≡ applied + 1)
  applied_cases cs shard applied floor row h =
      ⊎_elim
      (λ (lt : applied < row.number). inr (omega (arith, lt, h.applies)))
      (λ (le : row.number ≤ applied). inl (record { project = h.project; path = h.path; lang = h.lang; text = h.text; accepted = h.accepted; put = h.put; applies = le; window = h.window; mine = h.mine; lives = h.lives }))
      (cases_lt applied row.number)

  -- the rows of the change that is applied
  pub applied_adds : (cs : List Change) (shard applied floor : ℕ) (row : Row) (q p : List ℕ) (lang : Lang) (text : List ℕ) → floor ≤ applied → row.number ≡ applied + 1 → IsNumber cs row.number → change_at cs row.number ≡ Some (Put q p lang text) → IsWindow lang text row.place row.key → row.key % shards ≡ shard → ShardHolds IsWindow shards cs shard (applied + 1) floor row
  applied_adds cs shard applied floor row q p lang text le number accepted put window mine = record {
    project = q;
    path = p;
    lang = lang;
    text = text;
    accepted = accepted;
    put = put;
    applies = omega (arith, number);
    window = window;
    mine = mine;
    lives = λ k c above below is of_file. absurd (omega (arith, above, below, le, number));
  }

  -- a higher floor leaves less
  pub swept_alone : (cs : List Change) (shard applied floor later : ℕ) → floor ≤ later → (row : Row) → ShardHolds IsWindow shards cs shard applied later row → ShardHolds IsWindow shards cs shard applied floor row
  swept_alone cs shard applied floor later low row h = record { project = h.project; path = h.path; lang = h.lang; text = h.text; accepted = h.accepted; put = h.put; applies = h.applies; window = h.window; mine = h.mine; lives = λ k c above below. h.lives k c above (omega (arith, below, low)) }

  pub swept_leaves : (cs : List Change) (shard applied floor later : ℕ) (row : Row) (held : ShardHolds IsWindow shards cs shard applied floor row) → IsLastOfFile cs held.project held.path row.number later → ShardHolds IsWindow shards cs shard applied later row
  swept_leaves cs shard applied floor later row h last = record { project = h.project; path = h.path; lang = h.lang; text = h.text; accepted = h.accepted; put = h.put; applies = h.applies; window = h.window; mine = h.mine; lives = last }

  -- and so of what it holds after a history
  pub shard_stays : (h later : List Event) (shard applied floor : ℕ) (row : Row) → applied ≤ length (accepted h) → floor ≤ length (accepted h) → ShardHolds IsWindow shards (accepted (h ++ later)) shard applied floor row ↔ ShardHolds IsWindow shards (accepted h) shard applied floor row
  shard_stays h later shard applied floor row low_a low_f =
      let grown = accepted-append h later in (
        λ holds. ShardHolds-prefix (accepted h) (accepted later) shard applied floor row low_a low_f (subst (λ (cs : List Change). ShardHolds IsWindow shards cs shard applied floor row) grown holds),
        λ holds. subst (λ (cs : List Change). ShardHolds IsWindow shards cs shard applied floor row) (sym grown) (ShardHolds-append (accepted h) (accepted later) shard applied floor row low_a low_f holds),
      )

-- as the laws say it
pub applied_adds_rows : (IsWindow : Lang → List ℕ → ℕ → ℕ → Type 0) → ApplyingAddsItsRows IsWindow
applied_adds_rows IsWindow shards changes shard applied floor low = record {
  keeps = applied_keeps IsWindow shards changes shard applied floor;
  alone = applied_cases IsWindow shards changes shard applied floor;
  adds = λ row project path lang text. applied_adds IsWindow shards changes shard applied floor row project path lang text low;
}

pub swept_takes_out : (IsWindow : Lang → List ℕ → ℕ → ℕ → Type 0) → SweepingTakesOutAlone IsWindow
swept_takes_out IsWindow shards changes shard applied floor later low = record {
  alone = swept_alone IsWindow shards changes shard applied floor later low;
  leaves = swept_leaves IsWindow shards changes shard applied floor later;
}
