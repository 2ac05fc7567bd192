-- A text is lexed to one list of tokens and one state.
use Rattle.std.proofs.Common.{◌≡◌, refl, ap}
use Rattle.cq_munch.specs.Lexed.{Alike}
use Rattle.cq_munch.specs.declared.munching.Lexed.{Lexed}
use Rattle.cq_munch.specs.declared.munching.Lexed.TheVariants as lexed
use Rattle.cq_work.specs.Lexing.{tokens_in, state_of}
use Rattle.cq_work.specs.declared.work.State.TheVariants as states

pub same_tokens : (a b : Lexed) → Alike a b → tokens_in a ≡ tokens_in b
same_tokens (lexed.Tokens v marks) (lexed.Tokens w others) h = h.0
same_tokens (lexed.Tokens v marks) (lexed.Fault at) h = absurd h
same_tokens (lexed.Tokens v marks) lexed.Large h = absurd h
same_tokens (lexed.Fault at) (lexed.Tokens w others) h = absurd h
same_tokens (lexed.Fault at) (lexed.Fault to) h = refl
same_tokens (lexed.Fault at) lexed.Large h = absurd h
same_tokens lexed.Large (lexed.Tokens w others) h = absurd h
same_tokens lexed.Large (lexed.Fault at) h = absurd h
same_tokens lexed.Large lexed.Large h = refl

pub same_state : (a b : Lexed) → Alike a b → state_of a ≡ state_of b
same_state (lexed.Tokens v marks) (lexed.Tokens w others) h = refl
same_state (lexed.Tokens v marks) (lexed.Fault at) h = absurd h
same_state (lexed.Tokens v marks) lexed.Large h = absurd h
same_state (lexed.Fault at) (lexed.Tokens w others) h = absurd h
same_state (lexed.Fault at) (lexed.Fault to) h = ap states.Fault h
same_state (lexed.Fault at) lexed.Large h = absurd h
same_state lexed.Large (lexed.Tokens w others) h = absurd h
same_state lexed.Large (lexed.Fault at) h = absurd h
same_state lexed.Large lexed.Large h = refl
