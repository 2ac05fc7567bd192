-- Tokens whose texts are stored one after the other.
use Rattle.std.specs.Prelude.{ℕ, zero, suc, ◌-◌, ◌≤◌, List, [], ◌∷◌, length, sum_by, take, drop}
use Rattle.cq_base.specs.declared.norm.Norm.{Norm}
use Rattle.cq_tokens.specs.declared.seen.Seen.{Seen}
use Rattle.cq_tokens.specs.declared.packed.Mark.{Mark}
use Rattle.std.specs.declared.cmp.Ordering.{Ordering}
use Rattle.cq_tokens.specs.contracts.seen.SeenOrd.TheImpl as seen_order

-- the token that is seen
abbrev pub norm_in : Seen → Norm
norm_in s = record { lang = s.lang; class = s.class; text = s.text.now }

-- how many bytes the spellings of tokens have together
abbrev pub spelling_bytes : List Norm → ℕ
spelling_bytes norms = sum_by (λ n. length n.text) norms

-- the order of tokens, as it is derived: by language, class and text
abbrev pub seen_cmp : Seen → Seen → Ordering
seen_cmp = seen_order.ghosts.cmp

-- the bytes from one place to another
abbrev pub bytes_between : ℕ → ℕ → List ℕ → List ℕ
bytes_between start end bytes = take (end - start) (drop start bytes)

-- the tokens of the marks, where the first text begins at `start` and each ends where the next begins
abbrev pub norms_from : ℕ → List Mark → List ℕ → List Norm
norms_from start [] bytes = []
norms_from start (m ∷ marks) bytes = record { lang = m.lang; class = m.class; text = bytes_between start m.end bytes } ∷ norms_from m.end marks bytes

-- no text ends before it begins, or after the last byte
abbrev pub AreEnds : ℕ → List Mark → ℕ → Type 0
AreEnds start [] last = start ≤ last
AreEnds start (m ∷ marks) last = (start ≤ m.end) × AreEnds m.end marks last

-- where the text of the token at a position begins
abbrev pub start_at : ℕ → List Mark → ℕ → ℕ
start_at start marks zero = start
start_at start [] (suc i) = start
start_at start (m ∷ marks) (suc i) = start_at m.end marks i

-- the end of the last text
abbrev pub last_end : ℕ → List Mark → ℕ
last_end start [] = start
last_end start (m ∷ marks) = last_end m.end marks
