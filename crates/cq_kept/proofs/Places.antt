-- The places at which files stand, the last gates and what is over, after one change more.
use Rattle.std.proofs.Common.{◌≡◌, ◌⊎◌, ◌↔◌, ℕ, ◌+◌, ◌<◌, ◌≤◌, cond, ◌&&◌, true, List, [], ◌∷◌, ◌++◌, length, Option, Some, None, refl, sym, ap, ap₂, ◌∙◌, subst, inl, inr, ⊎_elim, append-nil, arith, true≢false}
use Rattle.std.specs.Arc.{arc_value}
use Rattle.std.specs.Prelude.{is_some}
use Rattle.std.specs.Str.{bytes_eq}
use Rattle.std.specs.BTreeMap.{get, is_at}
use Rattle.std.specs.Map.{lookup}
use Rattle.std.specs.Ordering.{is_eq, nat_cmp, ordering_then}
use Rattle.std.specs.declared.cmp.Ordering.{Ordering}
use Rattle.std.specs.declared.cmp.Ordering.TheVariants.{Less, Equal, Greater}
use Rattle.std.specs.Cmp.Lexicographic.{slice_cmp}
use Rattle.std.proofs.lemmas.Bool.{and_parts, and_from}
use Rattle.std.proofs.lemmas.List.{append_assoc}
use Rattle.std.proofs.lemmas.Map.Text.{is_eq-slice_cmp}
use Rattle.std.proofs.lemmas.Option.{none-some}
use Rattle.std.proofs.lemmas.Slice.Eq.{bytes_eq-Decides}
use Rattle.cq_base.specs.declared.change.Change.{Change}
use Rattle.cq_base.specs.declared.change.Change.TheVariants.{Put, Drop, Gate}
use Rattle.cq_base.specs.declared.lang.Lang.{Lang}
use Rattle.cq_base.specs.declared.change.Condition.{Condition}
use Rattle.cq_history.specs.Changes.{change_at, is_of_file, is_gate_of, IsNumber}
use Rattle.cq_history.specs.Files.{Source, files_of, has_file, number_at}
use Rattle.cq_history.specs.Standing.{IsLastPut}
use Rattle.cq_history.proofs.Presence.{bytes_eq-sym}
use Rattle.cq_history.proofs.Standing.{files_stand}
use Rattle.cq_kept.specs.declared.kept.FileKey.{FileKey}
use Rattle.cq_kept.specs.declared.kept.ProjectKey.{ProjectKey}
use Rattle.cq_kept.specs.declared.presence.Presence.{Presence}
use Rattle.cq_kept.specs.Over.{noted, AreNoted}
use Rattle.cq_kept.specs.Presence.{key_cmp, project_cmp, gate_at, IsPresence}
use Rattle.cq_kept.proofs.FileNumbers.{numbered, number_put, number_dropped, number_gated}
use Rattle.cq_kept.proofs.Gates.{gate_more, gate_is}
use Rattle.cq_kept.proofs.PutNumbers.{number_found, number_of, last_of, has_of}
use Rattle.cq_kept.proofs.Noting.{IsEndedPut, IsEndedGate, IsEnded, noted_more, none_noted}

is_eq-then : (r s : Ordering) → is_eq (ordering_then r s) ≡ (is_eq r && is_eq s)
is_eq-then Less s = refl
is_eq-then Equal s = refl
is_eq-then Greater s = refl

-- places tie where both texts are the same
ties : (a b : FileKey) → is_eq (key_cmp a b) ≡ (bytes_eq (arc_value a.project) (arc_value b.project) && bytes_eq (arc_value a.path) (arc_value b.path))
ties a b =
    is_eq-then (slice_cmp nat_cmp (arc_value a.project) (arc_value b.project)) (slice_cmp nat_cmp (arc_value a.path) (arc_value b.path))
    ∙ ap₂ (λ x y. x && y) (is_eq-slice_cmp (arc_value a.project) (arc_value b.project)) (is_eq-slice_cmp (arc_value a.path) (arc_value b.path))

-- a place and the texts of a change
named : (a k : FileKey) (project path : List ℕ) → arc_value a.project ≡ project → arc_value a.path ≡ path → is_eq (key_cmp a k) ≡ (bytes_eq (arc_value k.project) project && bytes_eq (arc_value k.path) path)
named a k project path p q =
    ties a k ∙ ap₂ (λ x y. x && y) (bytes_eq-sym (arc_value a.project) (arc_value k.project) ∙ ap (bytes_eq (arc_value k.project)) p) (bytes_eq-sym (arc_value a.path) (arc_value k.path) ∙ ap (bytes_eq (arc_value k.path)) q)

-- a project and that of a change
named_project : (a k : ProjectKey) (project : List ℕ) → arc_value a.project ≡ project → is_eq (project_cmp a k) ≡ bytes_eq (arc_value k.project) project
named_project a k project p = is_eq-slice_cmp (arc_value a.project) (arc_value k.project) ∙ bytes_eq-sym (arc_value a.project) (arc_value k.project) ∙ ap (bytes_eq (arc_value k.project)) p

-- ---- what the change ends

-- the put that stands at the place
module _ (changes : List Change) (c : Change) (project path : List ℕ) (names : (q p : List ℕ) → is_of_file q p c ≡ (bytes_eq q project && bytes_eq p path)) (o : Option ℕ) (which : o ≡ number_at path (files_of project changes)) where
  file_ended : (r : ℕ) → (o ≡ Some r) ↔ IsEndedPut changes c r
  file_ended r = (
    λ e.
        let (f, has, at, number) = number_found path (files_of project changes) r (sym which ∙ e) in
        let last = last_of changes project f has in
        record {
          project = project;
          path = f.path;
          lang = f.lang;
          text = f.body;
          number = (omega (arith, last.accepted.0, number), omega (arith, last.accepted.1, number));
          is = ap (change_at changes) (sym number) ∙ last.put;
          names = ap (λ x. is_of_file project x c) at ∙ names project path ∙ and_from (bytes_eq project project) (bytes_eq path path) ((bytes_eq-Decides project project).1 refl) ((bytes_eq-Decides path path).1 refl);
          none = λ k d behind. last.last k d (omega (arith, number, behind));
        },
    λ e.
        let both = and_parts (bytes_eq e.project project) (bytes_eq e.path path) (sym (names e.project e.path) ∙ e.names) in
        let f : Source = record { path = e.path; number = r; lang = e.lang; body = e.text } in
        let last : IsLastPut changes e.project f = record { accepted = e.number; put = e.is; last = e.none } in
        which
        ∙ sym (ap₂ (λ x y. number_at y (files_of x changes)) ((bytes_eq-Decides e.project project).0 both.0) ((bytes_eq-Decides e.path path).0 both.1))
        ∙ number_of (files_of e.project changes) f (files_stand changes e.project).ordered (has_of changes e.project f last),
  )

put_ends : (changes : List Change) (project path : List ℕ) (lang : Lang) (text : List ℕ) (o : Option ℕ) → o ≡ number_at path (files_of project changes) → (r : ℕ) → ((o ≡ Some r) ⊎ (None ≡ Some r)) ↔ IsEnded changes (Put project path lang text) r
put_ends changes project path lang text o which r =
    let same = file_ended changes (Put project path lang text) project path (λ q p. refl) o which r in (
      λ either. ⊎_elim (λ e. inl (same.0 e)) (λ e. absurd (none-some r e)) either,
      λ ended. ⊎_elim (λ e. inl (same.1 e)) (λ rest. ⊎_elim (λ (g : IsEndedGate changes (Put project path lang text) r). absurd (true≢false (sym g.names))) (λ (at, dropping). absurd dropping) rest) ended,
    )

drop_ends : (changes : List Change) (project path : List ℕ) (o : Option ℕ) → o ≡ number_at path (files_of project changes) → (r : ℕ) → ((o ≡ Some r) ⊎ (Some (length changes + 1) ≡ Some r)) ↔ IsEnded changes (Drop project path) r
drop_ends changes project path o which r =
    let same = file_ended changes (Drop project path) project path (λ q p. refl) o which r in (
      λ either. ⊎_elim (λ e. inl (same.0 e)) (λ e. inr (inr (sym (of_some e), tt))) either,
      λ ended. ⊎_elim (λ e. inl (same.1 e)) (λ rest. ⊎_elim (λ (g : IsEndedGate changes (Drop project path) r). absurd (true≢false (sym g.names))) (λ (at, dropping). inr (ap (λ m. Some m) (sym at))) rest) ended,
    )
  where
    of_some : Some (length changes + 1) ≡ Some r → length changes + 1 ≡ r
    of_some e = cc e

-- the project's last gate
module _ (changes : List Change) (project : List ℕ) (conditions : List Condition) (o : Option ℕ) (which : o ≡ gate_at project changes) where
  gate_found : (r : ℕ) (d : Change) → IsNumber changes r → change_at changes r ≡ Some d → is_gate_of project d ≡ true → ((k : ℕ) (e : Change) → r < k → change_at changes k ≡ Some e → is_gate_of project e ≡ true → ⊥) → IsEndedGate changes (Gate project conditions) r
  gate_found r (Put q p lang text) number is gate none = absurd (true≢false (sym gate))
  gate_found r (Drop q p) number is gate none = absurd (true≢false (sym gate))
  gate_found r (Gate q given) number is gate none =
      let same : project ≡ q = (bytes_eq-Decides project q).0 gate in
      record {
        project = q;
        conditions = given;
        number = number;
        is = is;
        names = (bytes_eq-Decides q project).1 (sym same);
        none = λ k d behind at passes. none k d behind at (ap (λ x. is_gate_of x d) same ∙ passes);
      }

  gate_ended : (r : ℕ) → (o ≡ Some r) ↔ IsEndedGate changes (Gate project conditions) r
  gate_ended r = (
    λ e. let g = (gate_is changes project r).0 (sym which ∙ e) in gate_found r g.change g.number g.is g.gate g.none,
    λ e.
        let same : e.project ≡ project = (bytes_eq-Decides e.project project).0 e.names in
        which
        ∙ (gate_is changes project r).1 (record {
          change = Gate e.project e.conditions;
          number = e.number;
          is = e.is;
          gate = (bytes_eq-Decides project e.project).1 (sym same);
          none = λ k d behind at passes. e.none k d behind at (ap (λ x. is_gate_of x d) same ∙ passes);
        }),
  )

  gate_ends : (r : ℕ) → ((o ≡ Some r) ⊎ (None ≡ Some r)) ↔ IsEnded changes (Gate project conditions) r
  gate_ends r = (
    λ either. ⊎_elim (λ e. inr (inl ((gate_ended r).0 e))) (λ e. absurd (none-some r e)) either,
    λ ended.
        ⊎_elim (λ (e : IsEndedPut changes (Gate project conditions) r). absurd (true≢false (sym e.names))) (λ rest. ⊎_elim (λ g. inl ((gate_ended r).1 g)) (λ (at, dropping). absurd dropping) rest) ended,
  )

-- ---- one change more

module _ (changes : List Change) (floor n : ℕ) (next : length changes + 1 ≡ n) (low : floor ≤ length changes) (old new : Presence) (was : IsPresence changes floor old) where
  -- one note
  one_noted : (c : Change) (o : Option ℕ) → ((r : ℕ) → ((o ≡ Some r) ⊎ (None ≡ Some r)) ↔ IsEnded changes c r) → new.over.items ≡ old.over.items ++ noted n o → AreNoted (changes ++ c ∷ []) floor new.over.items
  one_noted c o ends more =
      subst (AreNoted (changes ++ c ∷ []) floor)
      (sym (more ∙ ap (λ m. old.over.items ++ noted m o) (sym next) ∙ ap (λ xs. old.over.items ++ xs) (sym (append-nil (noted (length changes + 1) o)))))
      (noted_more changes c o None ends (λ r e f. none-some r f) floor old.over.items low was.over)

  module _ (key : FileKey) (project path : List ℕ) (p : arc_value key.project ≡ project) (q : arc_value key.path ≡ path) (o : Option ℕ) (which : o ≡ get key_cmp old.puts key) where
    here : o ≡ number_at path (files_of project changes)
    here = which ∙ was.puts key ∙ ap₂ (λ x y. number_at y (files_of x changes)) p q

    pub put_noted : (lang : Lang) (text : List ℕ) (c : Change) → c ≡ Put project path lang text → new.over.items ≡ old.over.items ++ noted n o → ((k : FileKey) → get key_cmp new.puts k ≡ cond (is_eq (key_cmp key k)) (Some n) (get key_cmp old.puts k)) → new.gates ≡ old.gates → IsPresence (changes ++ c ∷ []) floor new
    put_noted lang text c is more updates gates = subst (λ (d : Change). IsPresence (changes ++ d ∷ []) floor new) (sym is) (record {
      puts = λ k.
          updates k ∙ ap₂ (λ b w. cond b (Some n) w) (named key k project path p q) (was.puts k)
          ∙ ap (λ w. cond (bytes_eq (arc_value k.project) project && bytes_eq (arc_value k.path) path) w (number_at (arc_value k.path) (files_of (arc_value k.project) changes))) (ap (λ m. Some m) (sym next))
          ∙ sym (number_put changes (arc_value k.project) (arc_value k.path) project path lang text);
      gates = λ k. ap (λ m. get project_cmp m k) gates ∙ was.gates k ∙ sym (gate_more changes (Put project path lang text) (arc_value k.project));
      over = one_noted (Put project path lang text) o (put_ends changes project path lang text o here) more;
    })

    pub drop_noted : (c : Change) → c ≡ Drop project path → new.over.items ≡ (old.over.items ++ noted n o) ++ noted n (Some n) → ((k : FileKey) → get key_cmp new.puts k ≡ cond (is_eq (key_cmp key k)) None (get key_cmp old.puts k)) → new.gates ≡ old.gates → IsPresence (changes ++ c ∷ []) floor new
    drop_noted c is more updates gates = subst (λ (d : Change). IsPresence (changes ++ d ∷ []) floor new) (sym is) (record {
      puts = λ k.
          updates k ∙ ap₂ (λ b w. cond b None w) (named key k project path p q) (was.puts k)
          ∙ sym (number_dropped changes (arc_value k.project) (arc_value k.path) project path);
      gates = λ k. ap (λ m. get project_cmp m k) gates ∙ was.gates k ∙ sym (gate_more changes (Drop project path) (arc_value k.project));
      over = subst (AreNoted (changes ++ Drop project path ∷ []) floor)
          (sym (more ∙ append_assoc old.over.items (noted n o) (noted n (Some n)) ∙ ap (λ m. old.over.items ++ (noted m o ++ noted m (Some m))) (sym next)))
          (noted_more changes (Drop project path) o (Some (length changes + 1)) (drop_ends changes project path o here) apart floor old.over.items low was.over);
    })
      where
        apart : (r : ℕ) → o ≡ Some r → Some (length changes + 1) ≡ Some r → ⊥
        apart r e f =
            let ended = (file_ended changes (Drop project path) project path (λ a b. refl) o here r).0 e in
            let at : length changes + 1 ≡ r = of_some r f in
            omega (arith, ended.number.1, at)
          where
            of_some : (m : ℕ) → Some (length changes + 1) ≡ Some m → length changes + 1 ≡ m
            of_some m h = cc h

  pub gate_noted : (key : ProjectKey) (project : List ℕ) (conditions : List Condition) (p : arc_value key.project ≡ project) (o : Option ℕ) → o ≡ get project_cmp old.gates key → (c : Change) → c ≡ Gate project conditions → new.over.items ≡ old.over.items ++ noted n o →
      ((k : ProjectKey) → get project_cmp new.gates k ≡ cond (is_eq (project_cmp key k)) (Some n) (get project_cmp old.gates k)) → new.puts ≡ old.puts → IsPresence (changes ++ c ∷ []) floor new
  gate_noted key project conditions p o which c is more updates puts = subst (λ (d : Change). IsPresence (changes ++ d ∷ []) floor new) (sym is) (record {
    puts = λ k. ap (λ m. get key_cmp m k) puts ∙ was.puts k ∙ sym (number_gated changes (arc_value k.project) (arc_value k.path) project conditions);
    gates = λ k.
        updates k ∙ ap₂ (λ b w. cond b (Some n) w) (named_project key k project p) (was.gates k)
        ∙ ap (λ w. cond (bytes_eq (arc_value k.project) project) w (gate_at (arc_value k.project) changes)) (ap (λ m. Some m) (sym next))
        ∙ sym (gate_more changes (Gate project conditions) (arc_value k.project));
    over = one_noted (Gate project conditions) o (gate_ends changes project conditions o (which ∙ was.gates key ∙ ap (λ x. gate_at x changes) p)) more;
  })

-- with the same entries it is the same
pub presence_same : (changes : List Change) (floor : ℕ) (old new : Presence) → new.puts.entries ≡ old.puts.entries → new.gates.entries ≡ old.gates.entries → new.over.items ≡ old.over.items → IsPresence changes floor old → IsPresence changes floor new
presence_same changes floor old new puts gates over was = record {
  puts = λ k. ap (lookup (is_at (key_cmp k))) puts ∙ was.puts k;
  gates = λ k. ap (lookup (is_at (project_cmp k))) gates ∙ was.gates k;
  over = subst (AreNoted changes floor) (sym over) was.over;
}

pub none_there : (there : Presence) → there.puts.entries ≡ [] → there.gates.entries ≡ [] → there.over.items ≡ [] → IsPresence [] 0 there
none_there there none ungated fresh = record {
  puts = λ k. ap (lookup (is_at (key_cmp k))) none;
  gates = λ k. ap (lookup (is_at (project_cmp k))) ungated;
  over = subst (AreNoted [] 0) (sym fresh) none_noted;
}

-- where a file stands there is an entry
pub there_is : (changes : List Change) (floor : ℕ) (there : Presence) → IsPresence changes floor there → (k : FileKey) → is_some (get key_cmp there.puts k) ≡ has_file (arc_value k.path) (files_of (arc_value k.project) changes)
there_is changes floor there is k = ap is_some (is.puts k) ∙ numbered (arc_value k.path) (files_of (arc_value k.project) changes)
