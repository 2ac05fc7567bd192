use Rattle.std.proofs.Common.{List, ℕ, Option, sym, subst, subst₂}
use Rattle.std.specs.Prelude.{IfSome}
use Rattle.std.specs.Str.{IsUtf8}
use Rattle.serde_json.specs.View.{view}
use Rattle.cq_request.specs.Sound.{IsPathOf, IsScopeBeside}
use Rattle.cq_request.specs.Reading.{op_asking}
use Rattle.cq_request.proofs.Passing.{min_passed, scope_is_sound}
use Rattle.cq_request.proofs.Lacking.{path_of_kind}
use Rattle.cq_request.proofs.reading.query_of.Goals as goal

pub min_or-requires : goal.min_or-requires
min_or-requires c = record { passes = min_passed c.args.settings.now.chunk (op_asking c.args.kind) (view c.args.value.now) c.requires.accepted }

pub returns-clause-sound : goal.returns-clause-sound
returns-clause-sound c =
    let path = path_of_kind c.args.settings.now.chunk c.args.kind (view c.args.value.now) c.requires.accepted in
    let utf8 = subst (λ (scope : Option (List ℕ)). IfSome scope IsUtf8) c.in_ok-scope.ensures.text c.in_ok-scope.ensures.utf8 in
    let scope = scope_is_sound c.args.settings.now.chunk (op_asking c.args.kind) (view c.args.value.now) c.requires.accepted utf8 in (
      c.in_ok-text_or.ensures.utf8,
      c.in_ok-path.ensures.utf8,
      c.min_or.ensures.window,
      subst (IsPathOf c.args.kind) (sym c.in_ok-path.ensures.text) path,
      subst₂ (λ (beside scope : Option (List ℕ)). IfSome scope (IsScopeBeside beside)) (sym c.in_ok-path.ensures.text) (sym c.in_ok-scope.ensures.text) scope,
    )
