-- Where nothing of a source was taken, no line was.
use Rattle.std.proofs.Common.{◌≡◌, ℕ, List, [], ◌∷◌, ◌++◌, sym}
use Rattle.std.proofs.KnownBytes.{Consumes-nil}
use Rattle.cq_base.specs.declared.settings.Settings.{Settings}
use Rattle.cq_io.specs.declared.source.Source as source
use Rattle.cq_tokask.specs.Kept.{TakesNoLine}

-- after nothing that was taken there is nothing
nothing_behind : (file behind : List ℕ) → [] ≡ file ++ behind → behind ≡ []
nothing_behind [] behind is = sym is
nothing_behind (x ∷ file) behind is = cc

-- where nothing was taken, no line was
pub no_line_taken : (L : Type 0) {S : Type 0} (from : source.Ghosts S) (set : Settings) (read : S) → TakesNoLine L from set read read
no_line_taken L from set read = record { got = []; taken = Consumes-nil (from.rest read); none_behind = λ s file behind is of. nothing_behind file behind is }
