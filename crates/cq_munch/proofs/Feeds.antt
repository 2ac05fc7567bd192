-- Lines, counted from line feed to line feed.
use Rattle.std.proofs.Common.{◌≡◌, ℕ, zero, suc, ◌+◌, ◌-◌, ◌<◌, ◌≤◌, Bool, false, eqb, Some, None, List, length, take, drop, get_or, sym, ap, ◌∙◌, arith, length-drop, length-take}
use Rattle.std.proofs.lemmas.Bool.{false_from_ne_true}
use Rattle.std.proofs.lemmas.List.{get_or-drop}
use Rattle.std.proofs.lemmas.List.Sums.{count_by-le-length, count_by_more_no, count_by_more_yes}
use Rattle.memchr.specs.Find.{IsFirstByte, Nowhere, Passes, is_byte}
use Rattle.cq_base.specs.Lines.{line_at, line_feed}
use Rattle.cq_munch.specs.Feeds.{IsFeed}

abbrev is_feed : ℕ → Bool
is_feed b = eqb b line_feed

-- ---- the first line feed of what is left

module _ (text : List ℕ) (from : ℕ) (within : from ≤ length text) where
  there : (k : ℕ) → from ≤ k → get_or (drop from text) (k - from) 0 ≡ get_or text k 0
  there k low = let same : from + (k - from) ≡ k = omega (arith, low) in get_or-drop from text (k - from) 0 ∙ ap (λ i. get_or text i 0) same

  pub feed_found : (len : ℕ) → IsFirstByte (is_byte line_feed) (drop from text) (Some len) → IsFeed text from (from + len)
  feed_found len found =
      let left = length-drop from text in
      let high = found.0.high in
      record {
        ahead = omega arith;
        within = omega (arith, left, high, within);
        none = λ k low less feeds. found.0.before (k - from) (omega arith) (omega (arith, low, less)) (ap is_feed (there k low) ∙ feeds);
        feeds = λ inside. ap is_feed (sym (get_or-drop from text len 0)) ∙ found.1;
      }

  pub feed_none : IsFirstByte (is_byte line_feed) (drop from text) None → IsFeed text from (length text)
  feed_none none =
      let left = length-drop from text in
      record {
        ahead = within;
        within = omega arith;
        none = λ k low less feeds. none (k - from) (omega arith) (omega (arith, left, low, less)) (ap is_feed (there k low) ∙ feeds);
        feeds = λ inside. absurd (omega (arith, inside));
      }

-- ---- lines

-- no more line feeds than bytes
pub few_lines : (text : List ℕ) (at : ℕ) → line_at text at ≤ 1 + length text
few_lines text at =
    let few = count_by-le-length is_feed (take at text) in
    let front = length-take at text in
    omega (arith, few, front)

-- the same line up to a line feed
same_line : (text : List ℕ) (from n : ℕ) → from + n ≤ length text → Nowhere (Passes (is_byte line_feed) text) from (from + n) → line_at text (from + n) ≡ line_at text from
same_line text from zero within none = let same : from + 0 ≡ from = omega arith in ap (line_at text) same
same_line text from (suc n) within none =
    let next : from + suc n ≡ from + n + 1 = omega arith in
    let other : is_feed (get_or text (from + n) 0) ≡ false = false_from_ne_true (is_feed (get_or text (from + n) 0)) (none (from + n) (omega arith) (omega arith)) in
    let one = count_by_more_no is_feed text (from + n) 0 (omega (arith, within)) other in
    let rest = same_line text from n (omega (arith, within)) (λ k low less. none k low (omega (arith, less))) in
    ap (line_at text) next ∙ ap (λ m. 1 + m) one ∙ rest

pub line_up_to : (text : List ℕ) (from feed : ℕ) → IsFeed text from feed → (to : ℕ) → from ≤ to → to ≤ feed → line_at text to ≡ line_at text feed
line_up_to text from feed is to low high =
    let within = is.within in
    let all : to + (feed - to) ≡ feed = omega (arith, high) in
    sym (same_line text to (feed - to) (omega (arith, high, within)) (λ k after before. is.none k (omega (arith, low, after)) (omega (arith, high, before)))) ∙ ap (line_at text) all

pub feed_later : (text : List ℕ) (from feed : ℕ) → IsFeed text from feed → (to : ℕ) → from ≤ to → to ≤ feed → IsFeed text to feed
feed_later text from feed is to low high = record { ahead = high; within = is.within; none = λ k after before. is.none k (omega (arith, low, after)) before; feeds = is.feeds }

-- the next line feed is one line further
pub next_line : (text : List ℕ) (from feed next : ℕ) → IsFeed text from feed → feed < length text → IsFeed text (feed + 1) next → line_at text next ≡ line_at text feed + 1
next_line text from feed next is inside later =
    let one = count_by_more_yes is_feed text feed 0 inside (is.feeds inside) in
    let same = line_up_to text (feed + 1) next later (feed + 1) (omega arith) later.ahead in
    omega (arith, one, same)
