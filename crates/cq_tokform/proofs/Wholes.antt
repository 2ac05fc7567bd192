-- What is read is spelled so, and what is spelled so is read: all contents of a body, and a whole file.
use Rattle.std.proofs.Common.{◌≡◌, ℕ, ◌^◌, ◌<◌, true, ◌&&◌, cond, eqb, nat_le, List, [], ◌++◌, length, take, drop, Some, None, refl, sym, ap, subst, ◌∙◌, append_assoc, arith}
use Rattle.std.specs.Int.{w64, to_be_bytes}
use Rattle.std.specs.List.{list_all}
use Rattle.std.proofs.lemmas.Bool.{eqb-true, leb-true, le-leb}
use Rattle.std.proofs.lemmas.List.{append-nil, nil_from_length, take_at, drop_at}
use Rattle.std.proofs.lemmas.List.Elements.{All-from_recursion, recursion_from_All}
use Rattle.std.proofs.lemmas.List.Sums.{AllPass-from_list_all, list_all-from_AllPass}
use Rattle.cq_base.specs.declared.settings.Settings.{Settings}
use Rattle.cq_names.specs.Names.{is_path, is_project}
use Rattle.cq_tokform.specs.Spelling.{Recorded, Contents, head, condition, counted, file, mark, framed, body, whole}
use Rattle.cq_tokform.specs.Sound.{IsSoundCondition, IsSoundHead, IsSoundFile, IsSoundBody, IsSoundContents, IsSoundWhole, AreCounted, changes_in, rise, is_path_before, are_apart, have_form, has_form, is_sound_contents}
use Rattle.cq_tokform.specs.Reading.{◌>>=◌, head_at, condition_at, file_at, counted_at, frame_at, contents_at, whole_at}
use Rattle.cq_tokform.proofs.Fields.{IsBytes, IsBytes-take, IsBytes-drop, IsReader, Takes, Takes-then, after, bind_some, if_some, some_is, one_form}
use Rattle.cq_tokform.proofs.Records.{both, with_both, conditions}
use Rattle.cq_tokform.proofs.Counted.{lists}
use Rattle.cq_tokform.proofs.FileForms.{files}
use Rattle.cq_tokform.proofs.Heads.{heads}
use Rattle.cq_tokform.proofs.Framed.{frames}
use Rattle.cq_tokform.proofs.InOrder.{paths_rising, rising_paths, apart_pairs, pairs_apart}

conditions_reader : IsReader (counted condition) (AreCounted IsSoundCondition) (counted_at condition_at)
conditions_reader = lists condition IsSoundCondition condition_at conditions

-- eight bytes hold the version of a head
version_fits : (settings : Settings) (c : Contents) → IsSoundHead settings c.head → c.head.version < 2 ^ 64
version_fits settings c sound = let version = sound.version in omega (arith, version)

files_reader : (settings : Settings) (version : ℕ) → version < 2 ^ 64 → IsReader (counted file) (AreCounted (IsSoundFile settings version)) (counted_at (file_at settings version))
files_reader settings version short = lists file (IsSoundFile settings version) (file_at settings version) (files settings version short)

-- ---- what is tested of contents

contents_told : (settings : Settings) (c : Contents) → IsSoundHead settings c.head → AreCounted IsSoundCondition c.conditions → AreCounted (IsSoundFile settings c.head.version) c.files → is_sound_contents c ≡ true → IsSoundContents settings c
contents_told settings c of_head of_conditions of_files e =
    let a = both (has_form c) (are_apart (changes_in c.files)) e in
    let p = both (is_project c.head.project) (nat_le (length c.conditions) 32 && (have_form c.files && rise is_path_before c.files)) a.0 in
    let q = both (nat_le (length c.conditions) 32) (have_form c.files && rise is_path_before c.files) p.1 in
    let r = both (have_form c.files) (rise is_path_before c.files) q.1 in
    let s = both (nat_le (length c.files) 262144) (list_all (λ (f : Recorded). is_path f.path) c.files) r.0 in
    record {
      head = of_head;
      project = p.0;
      few_conditions = leb-true _ _ q.0;
      conditions = of_conditions.each;
      few_files = leb-true _ _ s.0;
      files = of_files.each;
      paths = recursion_from_All (λ (f : Recorded). is_path f.path ≡ true) c.files (AllPass-from_list_all (λ (f : Recorded). is_path f.path) c.files s.1);
      rising = paths_rising c.files r.1;
      apart = apart_pairs (changes_in c.files) a.1;
    }

contents_tested : (settings : Settings) (c : Contents) → IsSoundContents settings c → is_sound_contents c ≡ true
contents_tested settings c sound =
    with_both (has_form c) (are_apart (changes_in c.files))
    (with_both (is_project c.head.project) (nat_le (length c.conditions) 32 && (have_form c.files && rise is_path_before c.files)) sound.project
    (with_both (nat_le (length c.conditions) 32) (have_form c.files && rise is_path_before c.files) (le-leb _ _ sound.few_conditions)
    (with_both (have_form c.files) (rise is_path_before c.files)
    (with_both (nat_le (length c.files) 262144) (list_all (λ (f : Recorded). is_path f.path) c.files) (le-leb _ _ sound.few_files)
    (list_all-from_AllPass (λ (f : Recorded). is_path f.path) c.files (All-from_recursion (λ (f : Recorded). is_path f.path ≡ true) c.files sound.paths)))
    (rising_paths c.files sound.rising))))
    (pairs_apart (changes_in c.files) sound.apart)

-- ---- contents

abbrev ContentsTaken : Settings → List ℕ → Contents × List ℕ → Type 0
ContentsTaken settings bytes x = Takes bytes (body settings x.0) x.1 × IsSoundContents settings x.0

contents_takes : (settings : Settings) (bytes : List ℕ) (x : Contents × List ℕ) → IsBytes bytes → contents_at settings bytes ≡ Some x → ContentsTaken settings bytes x
unfolding contents_at
contents_takes settings bytes x fits e =
    after (ContentsTaken settings bytes x) (head settings) (IsSoundHead settings) (head_at settings) (heads settings) bytes _ x fits e (λ h b0 t0 s0 e0.
    after (ContentsTaken settings bytes x) (counted condition) (AreCounted IsSoundCondition) (counted_at condition_at) conditions_reader b0 _ x t0.rest_fits e0 (λ cs b1 t1 s1 e1.
    let version = s0.version in
    after (ContentsTaken settings bytes x) (counted file) (AreCounted (IsSoundFile settings h.version)) (counted_at (file_at settings h.version)) (files_reader settings h.version (omega (arith, version))) b1 _ x t1.rest_fits e1 (λ fs b2 t2 s2 e2.
    let c : Contents = record { head = h; conditions = cs; files = fs } in
    let g = if_some (is_sound_contents c) (Some (c, b2)) x e2 in
    let w1 = Takes-then b0 (counted condition cs) b1 (counted file fs) b2 t1 t2 in
    let w0 = Takes-then bytes (head settings h) b0 (counted condition cs ++ counted file fs) b2 t0 w1 in
    subst (λ (y : Contents × List ℕ). ContentsTaken settings bytes y) (some_is (c, b2) x g.1) (w0, contents_told settings c s0 s1 s2 g.0))))

contents_again : (settings : Settings) (c : Contents) (rest : List ℕ) → IsSoundContents settings c → contents_at settings (body settings c ++ rest) ≡ Some (c, rest)
unfolding contents_at
contents_again settings c rest sound =
    let few_conditions = sound.few_conditions in
    let few_files = sound.few_files in
    let of_conditions : AreCounted IsSoundCondition c.conditions = record { few = omega (arith, few_conditions); each = sound.conditions } in
    let of_files : AreCounted (IsSoundFile settings c.head.version) c.files = record { few = omega (arith, few_files); each = sound.files } in
    let regrouped : body settings c ++ rest ≡ head settings c.head ++ (counted condition c.conditions ++ (counted file c.files ++ rest)) = append_assoc (head settings c.head) (counted condition c.conditions ++ counted file c.files) rest ∙ ap (λ (y : List ℕ). head settings c.head ++ y) (append_assoc (counted condition c.conditions) (counted file c.files) rest) in
    ap (contents_at settings) regrouped ∙ rw ((heads settings).again c.head (counted condition c.conditions ++ (counted file c.files ++ rest)) sound.head, conditions_reader.again c.conditions (counted file c.files ++ rest) of_conditions, (files_reader settings c.head.version (version_fits settings c sound.head)).again c.files rest of_files, contents_tested settings c sound) refl

-- ---- whole files

-- the parts of bytes are bytes
parts_fit : (bytes front behind : List ℕ) → bytes ≡ front ++ behind → IsBytes bytes → IsBytes front × IsBytes behind
parts_fit bytes front behind is fits = (
  subst IsBytes (ap (λ (b : List ℕ). take (length front) b) is ∙ take_at front behind (length front) refl) (IsBytes-take (length front) bytes fits),
  subst IsBytes (ap (λ (b : List ℕ). drop (length front) b) is ∙ drop_at front behind (length front) refl) (IsBytes-drop (length front) bytes fits),
)

body_fits : (bytes inside rest : List ℕ) → bytes ≡ framed inside ++ rest → IsBytes bytes → IsBytes inside
body_fits bytes inside rest is fits =
    let frame = (parts_fit bytes (framed inside) rest is fits).0 in
    let behind = (parts_fit (framed inside) mark (to_be_bytes w64 (length inside) ++ inside) refl frame).1 in
    (parts_fit (to_be_bytes w64 (length inside) ++ inside) (to_be_bytes w64 (length inside)) inside refl behind).1

abbrev WholeTaken : Settings → List ℕ → Contents × List ℕ → Type 0
WholeTaken settings bytes x = Takes bytes (whole settings x.0) x.1 × IsSoundWhole settings x.0

whole_takes : (settings : Settings) (bytes : List ℕ) (x : Contents × List ℕ) → IsBytes bytes → whole_at settings bytes ≡ Some x → WholeTaken settings bytes x
unfolding whole_at
whole_takes settings bytes x fits e =
    let f = bind_some (frame_at bytes) (λ frame. contents_at settings frame.0 >>= λ contents. cond (eqb (length contents.1) 0) (Some (contents.0, frame.1)) None) x e in
    let c = bind_some (contents_at settings f.0.0) (λ contents. cond (eqb (length contents.1) 0) (Some (contents.0, f.0.1)) None) x f.2 in
    let g = if_some (eqb (length c.0.1) 0) (Some (c.0.0, f.0.1)) x c.2 in
    let t = frames.takes bytes f.0 fits f.1 in
    let s = contents_takes settings f.0.0 c.0 (body_fits bytes f.0.0 f.0.1 t.0.parts fits) c.1 in
    let none : c.0.1 ≡ [] = nil_from_length c.0.1 (eqb-true _ _ g.0) in
    let all : f.0.0 ≡ body settings c.0.0 = s.0.parts ∙ ap (λ (y : List ℕ). body settings c.0.0 ++ y) none ∙ append-nil (body settings c.0.0) in
    let taken : Takes bytes (whole settings c.0.0) f.0.1 = subst (λ (b : List ℕ). Takes bytes (framed b) f.0.1) all t.0 in
    let small : IsSoundBody (body settings c.0.0) = subst (λ (b : List ℕ). IsSoundBody b) all t.1 in
    subst (λ (y : Contents × List ℕ). WholeTaken settings bytes y) (some_is (c.0.0, f.0.1) x g.1) (taken, record { contents = s.1; fits = small })

whole_again : (settings : Settings) (c : Contents) (rest : List ℕ) → IsSoundWhole settings c → whole_at settings (whole settings c ++ rest) ≡ Some (c, rest)
unfolding whole_at
whole_again settings c rest sound =
    let all : contents_at settings (body settings c) ≡ Some (c, []) = ap (contents_at settings) (sym (append-nil (body settings c))) ∙ contents_again settings c [] sound.contents in
    rw (frames.again (body settings c) rest sound.fits, all) refl

pub wholes : (settings : Settings) → IsReader (whole settings) (IsSoundWhole settings) (whole_at settings)
wholes settings = record { takes = whole_takes settings; again = whole_again settings }

-- a file that begins with another one is that one
pub none_begins_another : (settings others : Settings) (a b : Contents) (rest : List ℕ) → IsSoundWhole settings a → IsSoundWhole others b → whole settings a ++ rest ≡ whole others b → rest ≡ []
none_begins_another settings others a b rest of also e =
    (one_form framed IsSoundBody frame_at frames (body settings a) (body others b) rest [] of.fits also.fits (e ∙ sym (append-nil (whole others b)))).1
