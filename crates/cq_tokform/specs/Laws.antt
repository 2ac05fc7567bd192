-- What holds of the forms themselves.
use Rattle.std.specs.Prelude.{◌≡◌, ◌<◌, ◌^◌, ℕ, List, [], ◌++◌}
use Rattle.cq_base.specs.declared.settings.Settings.{Settings}
use Rattle.cq_tokform.specs.Spelling.{Contents, head, condition, token, function, counted, file, framed, whole}
use Rattle.cq_tokform.specs.Sound.{IsSoundCondition, IsSoundToken, IsSoundFunction, AreCounted, IsSoundFile, IsSoundBody, IsSoundHead, IsSoundWhole}

-- Each sound value has one form, and no form begins another's, whatever follows.
abbrev pub HasOneForm : {A : Type 0} → (A → List ℕ) → (A → Type 0) → Type 0
HasOneForm {A = A} spell IsSound = (a b : A) (x y : List ℕ) → IsSound a → IsSound b → spell a ++ x ≡ spell b ++ y → (a ≡ b) × (x ≡ y)

abbrev pub ConditionsHaveOneForm : Type 0
ConditionsHaveOneForm = HasOneForm condition IsSoundCondition

abbrev pub TokensHaveOneForm : Type 0
TokensHaveOneForm = (settings : Settings) (lines : ℕ) → HasOneForm (counted token) (AreCounted (IsSoundToken settings lines))

abbrev pub FunctionsHaveOneForm : Type 0
FunctionsHaveOneForm = (lines : ℕ) → HasOneForm (counted function) (AreCounted (IsSoundFunction lines))

-- of a version that eight bytes hold
abbrev pub FilesHaveOneForm : Type 0
FilesHaveOneForm = (settings : Settings) (version : ℕ) → version < 2 ^ 64 → HasOneForm file (IsSoundFile settings version)

abbrev pub FramesHaveOneForm : Type 0
FramesHaveOneForm = HasOneForm framed IsSoundBody

abbrev pub HeadsHaveOneForm : Type 0
HeadsHaveOneForm = (settings : Settings) → HasOneForm (head settings) (IsSoundHead settings)

abbrev pub WholesHaveOneForm : Type 0
WholesHaveOneForm = (settings : Settings) → HasOneForm (whole settings) (IsSoundWhole settings)

-- a file that begins with another one, of whatever settings, is that one
abbrev pub NoWholeBeginsAnother : Type 0
NoWholeBeginsAnother = (settings others : Settings) (a b : Contents) (rest : List ℕ) → IsSoundWhole settings a → IsSoundWhole others b → whole settings a ++ rest ≡ whole others b → rest ≡ []
