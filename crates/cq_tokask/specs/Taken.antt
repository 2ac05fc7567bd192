-- What is taken of a source, up to the end of the body in its frame at the front.
use Rattle.std.specs.Prelude.{◌≡◌, ◌≤◌, ◌<◌, ℕ, List, [], ◌++◌, length, get_or, Option, IfSome, MatchResult, Result}
use Rattle.std.specs.Io.KnownBytes.{Consumes, IsAtEnd}
use Rattle.cq_io.specs.Causes.{Rose}
use Rattle.cq_io.specs.declared.source.Source as source
use Rattle.cq_tokask.specs.declared.taking.Front.{Front}
use Rattle.cq_tokask.specs.declared.taking.Front.TheVariants as front
use Rattle.cq_tokask.specs.declared.taking.Taken.{Taken}
use Rattle.cq_tokask.specs.declared.taking.Taken.TheVariants as taken
use Rattle.cq_tokform.specs.Spelling.{framed}
use Rattle.cq_tokform.specs.Sound.{IsSoundBody}

-- each is a byte
abbrev pub AreBytes : List ℕ → Type 0
AreBytes bytes = (i : ℕ) → get_or bytes i 0 < 256

-- no body in its frame is a front of the bytes
abbrev pub BeginsOther : List ℕ → Type 0
BeginsOther bytes = (body rest : List ℕ) → IsSoundBody body → bytes ≡ framed body ++ rest → ⊥

-- if a body in its frame is a front of the bytes, nothing comes after it
abbrev pub HasNoneBehind : List ℕ → Type 0
HasNoneBehind bytes = (body rest : List ℕ) → IsSoundBody body → bytes ≡ framed body ++ rest → rest ≡ []

-- a body in its frame
pub record IsFramed (bytes : List ℕ) : Type 0 where
  pub body : List ℕ
  pub sound : IsSoundBody body
  pub is : bytes ≡ framed body

-- the next bytes came after others
pub record CameBehind (rest rest_now : Option (List ℕ)) (old new got : List ℕ) : Type 0 where
  pub consumed : Consumes rest rest_now got
  pub behind : new ≡ old ++ got

module _ {S : Type 0} (from : source.Ghosts S) (before now : S) where
  -- the next bytes were taken, of which this holds
  abbrev pub TakesSuch : (List ℕ → Type 0) → Type 0
  TakesSuch Is = (got : List ℕ) × Consumes (from.rest before) (from.rest now) got × Is got

  -- no more than this many were
  abbrev pub TakesUpTo : ℕ → Type 0
  TakesUpTo count = TakesSuch (λ got. length got ≤ count)

  -- some of the wanted bytes came, and none if none are left; or a read failed, and none came
  abbrev pub TakesSome : {E : Type 0} → List ℕ → List ℕ → ℕ → Result ℕ E → Type 0
  TakesSome old new want result =
      MatchResult result
      (λ n. (n ≤ want) × ((got : List ℕ) × CameBehind (from.rest before) (from.rest now) old new got × (length got ≡ n)) × (n ≡ 0 → IsAtEnd (from.rest now)) × (from.faults now ≡ from.faults before))
      (λ _. CameBehind (from.rest before) (from.rest now) old new [] × Rose (from.faults before) (from.faults now))

  -- this many bytes came, or fewer if none are left or a read failed
  abbrev pub EndsTaking : ℕ → List ℕ → Taken → Type 0
  EndsTaking count got taken.All = (length got ≡ count) × (from.faults now ≡ from.faults before)
  EndsTaking count got taken.Ended = (length got < count) × IsAtEnd (from.rest now) × (from.faults now ≡ from.faults before)
  EndsTaking count got taken.Failed = (length got < count) × Rose (from.faults before) (from.faults now)

  pub record TakesBytes (old new : List ℕ) (count : ℕ) (by : Taken) : Type 0 where
    pub got : List ℕ
    pub came : CameBehind (from.rest before) (from.rest now) old new got
    pub ends : EndsTaking count got by

  -- the framed bytes at the front were taken; or other bytes are there; or a read failed before a framed body was whole
  abbrev pub TakesFile : Front → Type 0
  TakesFile (front.Framed bytes) = IsFramed bytes.items × Consumes (from.rest before) (from.rest now) bytes.items × (from.faults now ≡ from.faults before)
  TakesFile front.Other = IfSome (from.rest before) BeginsOther × (from.faults now ≡ from.faults before)
  TakesFile front.Failed = TakesSuch BeginsOther × Rose (from.faults before) (from.faults now)
