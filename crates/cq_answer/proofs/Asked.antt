-- A query that was read has the path that it needs, and a scope that is one.
use Rattle.std.proofs.Common.{ℕ, ◌&&◌, Option, Some, None, List, ap, ◌∙◌}
use Rattle.std.specs.Prelude.{IfSome}
use Rattle.std.proofs.lemmas.Str.{is_utf8-from_IsUtf8}
use Rattle.cq_answer.specs.Parts.{HasPath, HasScope}
use Rattle.cq_request.specs.Sound.{IsPathOf, IsScopeBeside}
use Rattle.cq_names.specs.Names.{is_path_text}
use Rattle.cq_request.specs.declared.request.Kind.{Kind}
use Rattle.cq_request.specs.declared.request.Kind.TheVariants as kind

pub path_asked : (k : Kind) (path : Option (List ℕ)) → IsPathOf k path → HasPath k path
path_asked kind.Files path is = tt
path_asked kind.Groups path is = tt
path_asked kind.Measures path is = tt
path_asked kind.Verdict path is = tt
path_asked kind.Functions path is = is

pub scope_asked : (path scope : Option (List ℕ)) → IfSome scope (IsScopeBeside path) → HasScope path scope
scope_asked path None is = (tt, tt)
scope_asked path (Some s) is = (ap (λ b. b && is_path_text s) (is_utf8-from_IsUtf8 s is.0) ∙ is.1, is.2)
