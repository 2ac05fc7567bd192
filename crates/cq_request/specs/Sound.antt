-- What a request that was read has: a sound change, or texts that are UTF-8, a least length no shorter than a window, a
-- path only if a part of a project is shown, and one if the functions of a file are; a scope that is a path, and only if
-- there is no path.
use Rattle.std.specs.Prelude.{◌≡◌, ◌≤◌, ℕ, List, Option, None, IfSome, IsSome, IsTrue, ⊤}
use Rattle.std.specs.Str.{IsUtf8}
use Rattle.cq_base.specs.Changes.{IsSoundChange}
use Rattle.cq_base.specs.Refusals.{IsSoundRefusal}
use Rattle.cq_request.specs.declared.request.Kind.{Kind}
use Rattle.cq_request.specs.declared.request.Kind.TheVariants as kind
use Rattle.cq_request.specs.declared.request.Query.{Query}
use Rattle.cq_request.specs.declared.request.Request.{Request}
use Rattle.cq_request.specs.declared.request.Request.TheVariants as request
use Rattle.cq_request.specs.declared.request.ReadError.{ReadError}
use Rattle.cq_request.specs.declared.request.ReadError.TheVariants as error
use Rattle.cq_names.specs.Names.{is_path_text}

-- the list of files and the verdict are of a whole project, functions of one file
abbrev pub IsPathOf : Kind → Option (List ℕ) → Type 0
IsPathOf kind.Files path = path ≡ None
IsPathOf kind.Groups path = ⊤
IsPathOf kind.Measures path = ⊤
IsPathOf kind.Verdict path = path ≡ None
IsPathOf kind.Functions path = IsSome path

-- a scope is a path in UTF-8, and comes without a path
abbrev pub IsScopeBeside : Option (List ℕ) → List ℕ → Type 0
IsScopeBeside path scope = IsUtf8 scope × IsTrue (is_path_text scope) × (path ≡ None)

abbrev pub IsSoundQuery : ℕ → Query → Type 0
IsSoundQuery chunk q = IsUtf8 q.project × IfSome q.path IsUtf8 × (chunk ≤ q.min) × IsPathOf q.kind q.path × IfSome q.scope (IsScopeBeside q.path)

abbrev pub IsSound : ℕ → Request → Type 0
IsSound chunk (request.Change c) = IsSoundChange c
IsSound chunk (request.Query q) = IsSoundQuery chunk q
IsSound chunk request.State = ⊤

-- the member that a refusal names is UTF-8
abbrev pub IsSoundError : ReadError → Type 0
IsSoundError (error.Refused why) = IsSoundRefusal why
IsSoundError error.Memory = ⊤
