-- The work of a text.
use Rattle.std.specs.Prelude.{◌≡◌, ◌≤◌, ℕ, List, length}
use Rattle.std.specs.Arc.{arc_value}
use Rattle.cq_base.specs.declared.settings.Settings.{Settings}
use Rattle.cq_base.specs.declared.lang.Lang.{Lang}
use Rattle.cq_func.specs.Functions.{functions}
use Rattle.cq_work.specs.Keys.{window_keys}
use Rattle.cq_measures.specs.Measures.{AreSmall}
use Rattle.cq_munch.specs.declared.munching.Lexed.{Lexed}
use Rattle.cq_normal.specs.Kept.{spans_of}
use Rattle.cq_normal.specs.Normal.{normal}
use Rattle.cq_work.specs.declared.work.Work.{Work}
use Rattle.cq_work.specs.Counts.{counts_of}
use Rattle.cq_work.specs.Lexing.{LexesTo, tokens_in, kept_in, state_of}

-- The work shows the tokens that are listed of what the text is lexed to, one for one, what is counted of all its
-- tokens, and the functions of all its tokens. Of a fault, or of too many, there are none.
pub record Shows {L : Type 0} (settings : Settings) (lang : Lang) (text : List ℕ) (answer : Lexed) (w : Work L) : Type 0 where
  pub lang_is : w.lang ≡ lang
  pub state_is : w.state ≡ state_of answer
  pub spans_are : w.spans.items ≡ spans_of (kept_in answer)
  pub tokens_are : arc_value w.tokens ≡ normal settings lang (kept_in answer)
  pub keys_are : arc_value w.keys ≡ window_keys settings (normal settings lang (kept_in answer))
  pub counts_are : w.counts ≡ counts_of lang text (state_of answer) (tokens_in answer)
  pub functions_are : w.functions.items ≡ functions lang (tokens_in answer)
  pub small : AreSmall w.counts
  pub few : length (tokens_in answer) ≤ 262144

-- the work of this language and text under these settings
pub record IsWorkOf {L : Type 0} (settings : Settings) (lang : Lang) (text : List ℕ) (w : Work L) : Type 0 where
  pub answer : Lexed
  pub lexes : LexesTo lang text answer
  pub shows : Shows settings lang text answer w
