-- The entries that a shard has for a version are those of its files' windows.
use Rattle.std.proofs.Common.{◌≡◌, ℕ, ◌<◌, ◌≤◌, ◌%◌, List, length, take, Some, sym, ap, ◌∙◌, subst, subst₂, arith}
use Rattle.std.specs.Prelude.{Contains}
use Rattle.std.proofs.lemmas.List.{length-take-le, take-append-drop}
use Rattle.cq_base.specs.declared.lang.Lang.{Lang}
use Rattle.cq_base.specs.declared.entry.Entry.{Entry}
use Rattle.cq_base.specs.declared.change.Change.{Change}
use Rattle.cq_base.specs.declared.change.Change.TheVariants.{Put}
use Rattle.cq_clones.proofs.InOrder.{in_order_same}
use Rattle.cq_clones.specs.Windows.{EntryBefore}
use Rattle.cq_history.specs.Changes.{change_at}
use Rattle.cq_history.proofs.Standing.{files_stand}
use Rattle.cq_history.proofs.Numbers.{change_at-append}
use Rattle.cq_shard.specs.Shard.{Contents, Holds}
use Rattle.cq_shard.specs.Laws.{AnswersWhatItHolds}
use Rattle.cq_board.specs.Listings.{AreLive}
use Rattle.cq_board.specs.Entries.{IsEntryAt, ShardsHaveTheEntries}

-- the changes up to a version, and the rest
front : (changes : List Change) (v r : ℕ) → 0 < r → r ≤ v → v ≤ length changes → change_at changes r ≡ change_at (take v changes) r
front changes v r some low within =
    ap (λ cs. change_at cs r) (sym (take-append-drop v changes))
    ∙ change_at-append (take v changes) _ r (some, omega (arith, low, length-take-le v changes within))

same_put : (q r p s : List ℕ) (a b : Lang) (x y : List ℕ) → Some (Put q p a x) ≡ Some (Put r s b y) → (q ≡ r) × (p ≡ s) × (a ≡ b) × (x ≡ y)
same_put q r p s a b x y e = (cc e, cc e, cc e, cc e)

module _ (IsWindow : Lang → List ℕ → ℕ → ℕ → Type 0) (changes : List Change) (c : Contents) (version key : ℕ) (live : List ℕ) (lives : AreLive (take version changes) live) (within : version ≤ length changes) (applied : version ≤ c.applied) (floor : c.floor ≤ version) where
  pub read_from : (e : Entry) → (e.key ≡ key) × Contains live e.change × Holds IsWindow changes c e → (key % c.shards ≡ c.shard) × IsEntryAt IsWindow changes version key e
  read_from e (same, there, holds) =
      let (q, f, has, is) = (lives.each e.change).0 there in
      let last = ((files_stand (take version changes) q).each f).0 has in
      let low : f.number ≤ version = omega (arith, last.accepted.1, length-take-le version changes within) in
      let put : change_at changes f.number ≡ Some (Put q f.path f.lang f.body) = front changes version f.number last.accepted.0 low within ∙ last.put in
      let texts = same_put holds.project q holds.path f.path holds.lang f.lang holds.text f.body (sym holds.put ∙ ap (change_at changes) (sym is) ∙ put) in (
        ap (λ k. k % c.shards) (sym same) ∙ holds.mine,
        record {
          project = q;
          file = f;
          there = has;
          number = is;
          window = subst₂ (λ l t. IsWindow l t e.at key) texts.2 texts.3 (subst (IsWindow holds.lang holds.text e.at) same holds.window);
          same_key = same;
        },
      )

  pub read_to : (e : Entry) → (key % c.shards ≡ c.shard) × IsEntryAt IsWindow changes version key e → (e.key ≡ key) × Contains live e.change × Holds IsWindow changes c e
  read_to e (mine, r) =
      let f = r.file in
      let q = r.project in
      let last = ((files_stand (take version changes) q).each f).0 r.there in
      let low : f.number ≤ version = omega (arith, last.accepted.1, length-take-le version changes within) in
      let put : change_at changes f.number ≡ Some (Put q f.path f.lang f.body) = front changes version f.number last.accepted.0 low within ∙ last.put in (
        r.same_key,
        (lives.each e.change).1 (q, f, r.there, r.number),
        record {
          project = q;
          path = f.path;
          lang = f.lang;
          text = f.body;
          accepted = (omega (arith, last.accepted.0, r.number), omega (arith, low, within, r.number));
          put = ap (change_at changes) (sym r.number) ∙ put;
          applies = omega (arith, low, applied, r.number);
          window = subst (IsWindow f.lang f.body e.at) (sym r.same_key) r.window;
          mine = ap (λ k. k % c.shards) r.same_key ∙ mine;
          lives = λ k d behind upto at names.
              last.last k d (omega (arith, behind, r.number)) (sym (front changes version k (omega (arith, behind)) (omega (arith, upto, floor)) within) ∙ at) names;
        },
      )

pub have_the_entries : (IsWindow : Lang → List ℕ → ℕ → ℕ → Type 0) → AnswersWhatItHolds IsWindow → ShardsHaveTheEntries IsWindow
have_the_entries IsWindow answers changes c version key live bucket stands within applied floor lives asked =
    in_order_same EntryBefore (λ e. (e.key ≡ key) × Contains live e.change × Holds IsWindow changes c e) (λ e. (key % c.shards ≡ c.shard) × IsEntryAt IsWindow changes version key e) bucket
    (read_from IsWindow changes c version key live lives within applied floor)
    (read_to IsWindow changes c version key live lives within applied floor)
    (answers changes c key live bucket stands asked)
