-- What is read is spelled so, and what is spelled so is read: conditions, tokens and functions.
use Rattle.std.proofs.Common.{◌≡◌, ℕ, ◌+◌, ◌^◌, ◌<◌, Bool, true, false, ◌&&◌, ◌||◌, not, cond, eqb, nat_le, List, [], ◌∷◌, ◌++◌, length, Some, None, refl, ap, subst, ◌∙◌, append_assoc, arith}
use Rattle.std.specs.Int.{w32, w64, to_be_bytes}
use Rattle.std.proofs.lemmas.Bool.{eqb-true, leb-true, le-leb}
use Rattle.std.proofs.lemmas.List.{nil_from_length}
use Rattle.cq_base.specs.declared.settings.Settings.{Settings}
use Rattle.cq_base.specs.declared.change.Condition.{Condition}
use Rattle.cq_base.specs.declared.token.Spelled.{Spelled}
use Rattle.cq_base.specs.declared.token.Token.{Token}
use Rattle.cq_func.specs.declared.function.Function.{Function}
use Rattle.cq_base.specs.Tables.{class_code, class_coded, metric_code, metric_coded, compare_code, compare_coded}
use Rattle.cq_base.proofs.Tables.{read_back}
use Rattle.cq_tokform.specs.Spelling.{text, condition, place, token, function}
use Rattle.cq_tokform.specs.Sound.{IsSoundText, IsSoundCondition, IsSoundToken, IsSoundFunction, is_sound_token, is_sound_function}
use Rattle.cq_work.specs.Bounds.{is_ignored}
use Rattle.cq_tokform.specs.Reading.{◌>>=◌, byte_at, number_at, text_at, condition_at, place_at, token_at, function_at}
use Rattle.cq_tokform.proofs.Fields.{IsBytes, IsReader, Takes, Takes-then, bind_some, if_some, some_is, byte_takes, number32, number64, texts}

-- ---- conditions

condition_takes : (bytes : List ℕ) (x : Condition × List ℕ) → IsBytes bytes → condition_at bytes ≡ Some x → Takes bytes (condition x.0) x.1 × IsSoundCondition x.0
unfolding condition_at
condition_takes bytes x fits e =
    let m = bind_some (byte_at bytes) (λ m. metric_coded m.0 >>= λ metric. byte_at m.1 >>= λ o. compare_coded o.0 >>= λ op. number_at w64 o.1 >>= λ error. Some (record { metric = metric; op = op; error = error.0 }, error.1)) x e in
    let metric = bind_some (metric_coded m.0.0) (λ metric. byte_at m.0.1 >>= λ o. compare_coded o.0 >>= λ op. number_at w64 o.1 >>= λ error. Some (record { metric = metric; op = op; error = error.0 }, error.1)) x m.2 in
    let o = bind_some (byte_at m.0.1) (λ o. compare_coded o.0 >>= λ op. number_at w64 o.1 >>= λ error. Some (record { metric = metric.0; op = op; error = error.0 }, error.1)) x metric.2 in
    let op = bind_some (compare_coded o.0.0) (λ op. number_at w64 o.0.1 >>= λ error. Some (record { metric = metric.0; op = op; error = error.0 }, error.1)) x o.2 in
    let error = bind_some (number_at w64 o.0.1) (λ error. Some (record { metric = metric.0; op = op.0; error = error.0 }, error.1)) x op.2 in
    let t0 = byte_takes bytes m.0 fits m.1 in
    let t1 = byte_takes m.0.1 o.0 t0.rest_fits o.1 in
    let t2 = number64.takes o.0.1 error.0 t1.rest_fits error.1 in
    let e12 = Takes-then m.0.1 (o.0.0 ∷ []) o.0.1 (to_be_bytes w64 error.0.0) error.0.1 t1 t2.0 in
    let whole = Takes-then bytes (m.0.0 ∷ []) m.0.1 (o.0.0 ∷ to_be_bytes w64 error.0.0) error.0.1 t0 e12 in
    let named : Takes bytes (metric_code metric.0 ∷ compare_code op.0 ∷ to_be_bytes w64 error.0.0) error.0.1 = rw (← read_back.metric_codes.only m.0.0 metric.0 metric.1, ← read_back.compare_codes.only o.0.0 op.0 op.1) whole in
    let made : Condition × List ℕ = (record { metric = metric.0; op = op.0; error = error.0.0 }, error.0.1) in
    subst (λ (y : Condition × List ℕ). Takes bytes (condition y.0) y.1 × IsSoundCondition y.0) (some_is made x error.2) (named, record { error = t2.1 })

condition_again : (c : Condition) (rest : List ℕ) → IsSoundCondition c → condition_at (condition c ++ rest) ≡ Some (c, rest)
unfolding condition_at
condition_again c rest sound = rw (read_back.metric_codes.found c.metric, read_back.compare_codes.found c.op, number64.again c.error rest sound.error) refl

pub conditions : IsReader condition IsSoundCondition condition_at
conditions = record { takes = condition_takes; again = condition_again }

-- ---- tokens

-- each number of a place has four bytes
record AreShort (t : Token) : Type 0 where
  start : t.start < 2 ^ 32
  len : t.len < 2 ^ 32
  first : t.first_line < 2 ^ 32
  last : t.last_line < 2 ^ 32

place_takes : (bytes : List ℕ) (x : Token × List ℕ) → IsBytes bytes → place_at bytes ≡ Some x → Takes bytes (place x.0) x.1 × AreShort x.0
unfolding place_at
place_takes bytes x fits e =
    let c = bind_some (byte_at bytes) (λ c. class_coded c.0 >>= λ class. number_at w32 c.1 >>= λ start. number_at w32 start.1 >>= λ len. number_at w32 len.1 >>= λ first. number_at w32 first.1 >>= λ last. Some (record { class = class; start = start.0; len = len.0; first_line = first.0; last_line = last.0 }, last.1)) x e in
    let k = bind_some (class_coded c.0.0) (λ class. number_at w32 c.0.1 >>= λ start. number_at w32 start.1 >>= λ len. number_at w32 len.1 >>= λ first. number_at w32 first.1 >>= λ last. Some (record { class = class; start = start.0; len = len.0; first_line = first.0; last_line = last.0 }, last.1)) x c.2 in
    let start = bind_some (number_at w32 c.0.1) (λ start. number_at w32 start.1 >>= λ len. number_at w32 len.1 >>= λ first. number_at w32 first.1 >>= λ last. Some (record { class = k.0; start = start.0; len = len.0; first_line = first.0; last_line = last.0 }, last.1)) x k.2 in
    let len = bind_some (number_at w32 start.0.1) (λ len. number_at w32 len.1 >>= λ first. number_at w32 first.1 >>= λ last. Some (record { class = k.0; start = start.0.0; len = len.0; first_line = first.0; last_line = last.0 }, last.1)) x start.2 in
    let first = bind_some (number_at w32 len.0.1) (λ first. number_at w32 first.1 >>= λ last. Some (record { class = k.0; start = start.0.0; len = len.0.0; first_line = first.0; last_line = last.0 }, last.1)) x len.2 in
    let last = bind_some (number_at w32 first.0.1) (λ last. Some (record { class = k.0; start = start.0.0; len = len.0.0; first_line = first.0.0; last_line = last.0 }, last.1)) x first.2 in
    let t0 = byte_takes bytes c.0 fits c.1 in
    let t1 = number32.takes c.0.1 start.0 t0.rest_fits start.1 in
    let t2 = number32.takes start.0.1 len.0 t1.0.rest_fits len.1 in
    let t3 = number32.takes len.0.1 first.0 t2.0.rest_fits first.1 in
    let t4 = number32.takes first.0.1 last.0 t3.0.rest_fits last.1 in
    let e34 = Takes-then len.0.1 (to_be_bytes w32 first.0.0) first.0.1 (to_be_bytes w32 last.0.0) last.0.1 t3.0 t4.0 in
    let e24 = Takes-then start.0.1 (to_be_bytes w32 len.0.0) len.0.1 (to_be_bytes w32 first.0.0 ++ to_be_bytes w32 last.0.0) last.0.1 t2.0 e34 in
    let e14 = Takes-then c.0.1 (to_be_bytes w32 start.0.0) start.0.1 (to_be_bytes w32 len.0.0 ++ (to_be_bytes w32 first.0.0 ++ to_be_bytes w32 last.0.0)) last.0.1 t1.0 e24 in
    let whole = Takes-then bytes (c.0.0 ∷ []) c.0.1 (to_be_bytes w32 start.0.0 ++ (to_be_bytes w32 len.0.0 ++ (to_be_bytes w32 first.0.0 ++ to_be_bytes w32 last.0.0))) last.0.1 t0 e14 in
    let made : Token × List ℕ = (record { class = k.0; start = start.0.0; len = len.0.0; first_line = first.0.0; last_line = last.0.0 }, last.0.1) in
    let named : Takes bytes (place made.0) made.1 = subst (λ (b : ℕ). Takes bytes (b ∷ (to_be_bytes w32 start.0.0 ++ (to_be_bytes w32 len.0.0 ++ (to_be_bytes w32 first.0.0 ++ to_be_bytes w32 last.0.0)))) last.0.1) (read_back.class_codes.only c.0.0 k.0 k.1) whole in
    subst (λ (y : Token × List ℕ). Takes bytes (place y.0) y.1 × AreShort y.0) (some_is made x last.2) (named, record { start = t1.1; len = t2.1; first = t3.1; last = t4.1 })

place_again : (t : Token) (rest : List ℕ) → AreShort t → place_at (place t ++ rest) ≡ Some (t, rest)
unfolding place_at
place_again t rest short =
    let regrouped : place t ++ rest ≡ class_code t.class ∷ (to_be_bytes w32 t.start ++ (to_be_bytes w32 t.len ++ (to_be_bytes w32 t.first_line ++ (to_be_bytes w32 t.last_line ++ rest)))) = refl in
    ap place_at regrouped ∙ rw (read_back.class_codes.found t.class, number32.again t.start (to_be_bytes w32 t.len ++ (to_be_bytes w32 t.first_line ++ (to_be_bytes w32 t.last_line ++ rest))) short.start, number32.again t.len (to_be_bytes w32 t.first_line ++ (to_be_bytes w32 t.last_line ++ rest)) short.len, number32.again t.first_line (to_be_bytes w32 t.last_line ++ rest) short.first, number32.again t.last_line rest short.last) refl

pub both : (a b : Bool) → (a && b) ≡ true → (a ≡ true) × (b ≡ true)
both true b e = (refl, e)
both false b e = absurd cc

pub with_both : (a b : Bool) → a ≡ true → b ≡ true → (a && b) ≡ true
with_both true b e f = f
with_both false b e f = absurd cc

only_if : (a : Bool) (xs : List ℕ) → (not a || eqb (length xs) 0) ≡ true → a ≡ true → xs ≡ []
only_if true xs e h = nil_from_length xs (eqb-true _ _ e)
only_if false xs e h = absurd cc

if_only : (a : Bool) (xs : List ℕ) → (a ≡ true → xs ≡ []) → (not a || eqb (length xs) 0) ≡ true
if_only true xs h = ap (λ (ys : List ℕ). eqb (length ys) 0) (h refl)
if_only false xs h = refl

sound_token : (settings : Settings) (lines : ℕ) (s : Spelled) → AreShort s.token → IsSoundText s.text → is_sound_token settings lines s ≡ true → IsSoundToken settings lines s
sound_token settings lines s short text e =
    let a = both (nat_le (s.token.start + s.token.len) 1048576) (nat_le 1 s.token.first_line && (nat_le s.token.first_line s.token.last_line && (nat_le s.token.last_line lines && (not (is_ignored settings s.token.class) || eqb (length s.text) 0)))) e in
    let b = both (nat_le 1 s.token.first_line) (nat_le s.token.first_line s.token.last_line && (nat_le s.token.last_line lines && (not (is_ignored settings s.token.class) || eqb (length s.text) 0))) a.1 in
    let c = both (nat_le s.token.first_line s.token.last_line) (nat_le s.token.last_line lines && (not (is_ignored settings s.token.class) || eqb (length s.text) 0)) b.1 in
    let d = both (nat_le s.token.last_line lines) (not (is_ignored settings s.token.class) || eqb (length s.text) 0) c.1 in
    record {
      within = leb-true _ _ a.0;
      first = leb-true _ _ b.0;
      in_order = leb-true _ _ c.0;
      last = leb-true _ _ d.0;
      last_short = short.last;
      text = text;
      ignored = only_if (is_ignored settings s.token.class) s.text d.1;
    }

token_tested : (settings : Settings) (lines : ℕ) (s : Spelled) → IsSoundToken settings lines s → is_sound_token settings lines s ≡ true
token_tested settings lines s sound =
    with_both (nat_le (s.token.start + s.token.len) 1048576) _ (le-leb _ _ sound.within)
    (with_both (nat_le 1 s.token.first_line) _ (le-leb _ _ sound.first)
    (with_both (nat_le s.token.first_line s.token.last_line) _ (le-leb _ _ sound.in_order)
    (with_both (nat_le s.token.last_line lines) _ (le-leb _ _ sound.last)
    (if_only (is_ignored settings s.token.class) s.text sound.ignored))))

token_takes : (settings : Settings) (lines : ℕ) (bytes : List ℕ) (x : Spelled × List ℕ) → IsBytes bytes → token_at settings lines bytes ≡ Some x → Takes bytes (token x.0) x.1 × IsSoundToken settings lines x.0
unfolding token_at
token_takes settings lines bytes x fits e =
    let p = bind_some (place_at bytes) (λ place. text_at place.1 >>= λ text. cond (is_sound_token settings lines (record { token = place.0; text = text.0 })) (Some (record { token = place.0; text = text.0 }, text.1)) None) x e in
    let t = bind_some (text_at p.0.1) (λ text. cond (is_sound_token settings lines (record { token = p.0.0; text = text.0 })) (Some (record { token = p.0.0; text = text.0 }, text.1)) None) x p.2 in
    let made : Spelled × List ℕ = (record { token = p.0.0; text = t.0.0 }, t.0.1) in
    let g = if_some (is_sound_token settings lines made.0) (Some made) x t.2 in
    let t0 = place_takes bytes p.0 fits p.1 in
    let t1 = texts.takes p.0.1 t.0 t0.0.rest_fits t.1 in
    let whole = Takes-then bytes (place p.0.0) p.0.1 (text t.0.0) t.0.1 t0.0 t1.0 in
    subst (λ (y : Spelled × List ℕ). Takes bytes (token y.0) y.1 × IsSoundToken settings lines y.0) (some_is made x g.1) (whole, sound_token settings lines made.0 t0.1 t1.1 g.0)

token_again : (settings : Settings) (lines : ℕ) (s : Spelled) (rest : List ℕ) → IsSoundToken settings lines s → token_at settings lines (token s ++ rest) ≡ Some (s, rest)
unfolding token_at
token_again settings lines s rest sound =
    let within = sound.within in
    let first = sound.in_order in
    let last = sound.last_short in
    let short : AreShort s.token = record { start = omega (arith, within); len = omega (arith, within); first = omega (arith, first, last); last = last } in
    let regrouped : token s ++ rest ≡ place s.token ++ (text s.text ++ rest) = append_assoc (place s.token) (text s.text) rest in
    ap (token_at settings lines) regrouped ∙ rw (place_again s.token (text s.text ++ rest) short, texts.again s.text rest sound.text, token_tested settings lines s sound) refl

pub tokens : (settings : Settings) (lines : ℕ) → IsReader token (IsSoundToken settings lines) (token_at settings lines)
tokens settings lines = record { takes = token_takes settings lines; again = token_again settings lines }

-- ---- functions

function_tested : (lines : ℕ) (f : Function) → IsSoundFunction lines f → is_sound_function lines f ≡ true
function_tested lines f sound =
    with_both (nat_le 1 f.first) _ (le-leb _ _ sound.first)
    (with_both (nat_le f.first f.last) (nat_le f.last lines) (le-leb _ _ sound.in_order) (le-leb _ _ sound.last))

function_takes : (lines : ℕ) (bytes : List ℕ) (x : Function × List ℕ) → IsBytes bytes → function_at lines bytes ≡ Some x → Takes bytes (function x.0) x.1 × IsSoundFunction lines x.0
unfolding function_at
function_takes lines bytes x fits e =
    let name = bind_some (text_at bytes) (λ name. number_at w32 name.1 >>= λ first. number_at w32 first.1 >>= λ last. number_at w32 last.1 >>= λ complexity. cond (is_sound_function lines (record { name = name.0; first = first.0; last = last.0; complexity = complexity.0 })) (Some (record { name = name.0; first = first.0; last = last.0; complexity = complexity.0 }, complexity.1)) None) x e in
    let first = bind_some (number_at w32 name.0.1) (λ first. number_at w32 first.1 >>= λ last. number_at w32 last.1 >>= λ complexity. cond (is_sound_function lines (record { name = name.0.0; first = first.0; last = last.0; complexity = complexity.0 })) (Some (record { name = name.0.0; first = first.0; last = last.0; complexity = complexity.0 }, complexity.1)) None) x name.2 in
    let last = bind_some (number_at w32 first.0.1) (λ last. number_at w32 last.1 >>= λ complexity. cond (is_sound_function lines (record { name = name.0.0; first = first.0.0; last = last.0; complexity = complexity.0 })) (Some (record { name = name.0.0; first = first.0.0; last = last.0; complexity = complexity.0 }, complexity.1)) None) x first.2 in
    let complexity = bind_some (number_at w32 last.0.1) (λ complexity. cond (is_sound_function lines (record { name = name.0.0; first = first.0.0; last = last.0.0; complexity = complexity.0 })) (Some (record { name = name.0.0; first = first.0.0; last = last.0.0; complexity = complexity.0 }, complexity.1)) None) x last.2 in
    let made : Function × List ℕ = (record { name = name.0.0; first = first.0.0; last = last.0.0; complexity = complexity.0.0 }, complexity.0.1) in
    let g = if_some (is_sound_function lines made.0) (Some made) x complexity.2 in
    let t0 = texts.takes bytes name.0 fits name.1 in
    let t1 = number32.takes name.0.1 first.0 t0.0.rest_fits first.1 in
    let t2 = number32.takes first.0.1 last.0 t1.0.rest_fits last.1 in
    let t3 = number32.takes last.0.1 complexity.0 t2.0.rest_fits complexity.1 in
    let e23 = Takes-then first.0.1 (to_be_bytes w32 last.0.0) last.0.1 (to_be_bytes w32 complexity.0.0) complexity.0.1 t2.0 t3.0 in
    let e13 = Takes-then name.0.1 (to_be_bytes w32 first.0.0) first.0.1 (to_be_bytes w32 last.0.0 ++ to_be_bytes w32 complexity.0.0) complexity.0.1 t1.0 e23 in
    let whole = Takes-then bytes (text name.0.0) name.0.1 (to_be_bytes w32 first.0.0 ++ (to_be_bytes w32 last.0.0 ++ to_be_bytes w32 complexity.0.0)) complexity.0.1 t0.0 e13 in
    let a = both (nat_le 1 first.0.0) (nat_le first.0.0 last.0.0 && nat_le last.0.0 lines) g.0 in
    let b = both (nat_le first.0.0 last.0.0) (nat_le last.0.0 lines) a.1 in
    subst (λ (y : Function × List ℕ). Takes bytes (function y.0) y.1 × IsSoundFunction lines y.0) (some_is made x g.1)
    (whole, record { name = t0.1; first = leb-true _ _ a.0; in_order = leb-true _ _ b.0; last = leb-true _ _ b.1; last_short = t2.1; complexity = t3.1 })

function_again : (lines : ℕ) (f : Function) (rest : List ℕ) → IsSoundFunction lines f → function_at lines (function f ++ rest) ≡ Some (f, rest)
unfolding function_at
function_again lines f rest sound =
    let in_order = sound.in_order in
    let last = sound.last_short in
    let regrouped : function f ++ rest ≡ text f.name ++ (to_be_bytes w32 f.first ++ (to_be_bytes w32 f.last ++ (to_be_bytes w32 f.complexity ++ rest))) = append_assoc (text f.name) (to_be_bytes w32 f.first ++ (to_be_bytes w32 f.last ++ to_be_bytes w32 f.complexity)) rest in
    ap (function_at lines) regrouped ∙ rw (texts.again f.name (to_be_bytes w32 f.first ++ (to_be_bytes w32 f.last ++ (to_be_bytes w32 f.complexity ++ rest))) sound.name, number32.again f.first (to_be_bytes w32 f.last ++ (to_be_bytes w32 f.complexity ++ rest)) (omega (arith, in_order, last)), number32.again f.last (to_be_bytes w32 f.complexity ++ rest) last, number32.again f.complexity rest sound.complexity, function_tested lines f sound) refl

pub functions : (lines : ℕ) → IsReader function (IsSoundFunction lines) (function_at lines)
functions lines = record { takes = function_takes lines; again = function_again lines }
