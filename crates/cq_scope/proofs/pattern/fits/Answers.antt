use Rattle.std.proofs.Common.{◌≡◌, ◌<◌, length, IsUtf8, sym, subst, rules}
use Rattle.cq_names.specs.Names.{parts}
use Rattle.cq_scope.proofs.Counts.{path_utf8, few_in_path}
use Rattle.cq_scope.proofs.pattern.fits.Goals as goal

pub unwrap-pattern-requires : goal.unwrap-pattern-requires
unwrap-pattern-requires c =
    let utf8 : IsUtf8 c.as_bytes.result.now = subst IsUtf8 (sym c.as_bytes.ensures) (path_utf8 c.pattern.inside.text c.pattern.invariant) in
    search rules

pub unwrap-path-requires : goal.unwrap-path-requires
unwrap-path-requires c =
    let utf8 : IsUtf8 c.as_bytes-2.result.now = subst IsUtf8 (sym c.as_bytes-2.ensures) (path_utf8 c.args.path.now c.requires) in
    search rules

pub parts_fit-requires-clause-room : goal.parts_fit-requires-clause-room
parts_fit-requires-clause-room c =
    let is : c.unwrap-path.result.now ≡ c.args.path.now = search rules in
    subst (λ path. length (parts path) < 513) (sym is) (few_in_path c.args.path.now c.requires)
