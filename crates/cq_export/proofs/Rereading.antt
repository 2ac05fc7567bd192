-- What is read of the token file of a version of some changes is the version of these changes.
use Rattle.std.proofs.Common.{◌≡◌, ℕ, List, [], ◌∷◌, ◌++◌, length, map, refl, sym, ap, ap₂, ◌∙◌, subst}
use Rattle.std.specs.Prelude.{All}
use Rattle.std.specs.Arc.{arc_value}
use Rattle.std.proofs.lemmas.List.Elements.{All-head, All-tail}
use Rattle.cq_base.specs.declared.change.Change.{Change}
use Rattle.cq_base.specs.declared.lang.Lang.{Lang}
use Rattle.cq_base.specs.declared.norm.Norm.{Norm}
use Rattle.cq_base.specs.declared.settings.Settings.{Settings}
use Rattle.cq_base.specs.declared.token.Class.{Class}
use Rattle.cq_base.specs.declared.token.Spelled.{Spelled}
use Rattle.cq_base.specs.declared.token.Token.{Token}
use Rattle.cq_board.specs.Related.{AreSameFiles}
use Rattle.cq_history.specs.Files.{File, Source, files_at}
use Rattle.cq_measures.specs.Measures.{AreSmall}
use Rattle.cq_work.specs.Keys.{window_keys}
use Rattle.cq_tokask.specs.Exported.{IsOfChanges}
use Rattle.cq_tokform.proofs.Fields.{one_form}
use Rattle.cq_tokform.proofs.Wholes.{wholes}
use Rattle.cq_tokform.specs.Reading.{whole_at}
use Rattle.cq_tokfile.specs.Snapshot.{spelled_of, record_of, contents_of, IsOneFile, IsTokenFile}
use Rattle.cq_tokform.specs.Sound.{IsSoundWhole}
use Rattle.cq_tokform.specs.Spelling.{Contents, Recorded, whole}
use Rattle.cq_tokfile.specs.declared.snapshot.Snapshot.{Snapshot}
use Rattle.cq_work.specs.Work.{IsWorkOf}
use Rattle.cq_work.specs.declared.work.Work.{Work}

-- ---- the tokens of one file

abbrev classes_of : List Token → List Class
classes_of spans = map (λ (t : Token). t.class) spans

abbrev classes_in : List Norm → List Class
classes_in norms = map (λ (n : Norm). n.class) norms

abbrev with_text : Token → List ℕ → Spelled
with_text t text = record { token = t; text = text }

-- where there is a token for each place, both places and texts are told
record SameTokens (spans others : List Token) (norms also : List Norm) : Type 0 where
  spans_are : others ≡ spans
  texts_are : map (λ (n : Norm). n.text) also ≡ map (λ (n : Norm). n.text) norms

same_spelled : (spans others : List Token) (norms also : List Norm) → classes_of spans ≡ classes_in norms → classes_of others ≡ classes_in also → spelled_of others also ≡ spelled_of spans norms → SameTokens spans others norms also
same_spelled [] [] [] [] one two same = record { spans_are = refl; texts_are = refl }
same_spelled [] [] (n ∷ norms) also one two same = absurd (cc)
same_spelled [] [] [] (m ∷ also) one two same = absurd (cc)
same_spelled [] (u ∷ others) norms [] one two same = absurd (cc)
same_spelled [] (u ∷ others) norms (m ∷ also) one two same = absurd (cc)
same_spelled (t ∷ spans) others [] also one two same = absurd (cc)
same_spelled (t ∷ spans) [] (n ∷ norms) also one two same = absurd (cc)
same_spelled (t ∷ spans) (u ∷ others) (n ∷ norms) [] one two same = absurd (cc)
same_spelled (t ∷ spans) (u ∷ others) (n ∷ norms) (m ∷ also) one two same =
    let first : classes_of spans ≡ classes_in norms = cc in
    let second : classes_of others ≡ classes_in also = cc in
    let both : with_text u m.text ≡ with_text t n.text = cc in
    let head : u ≡ t = ap (λ (s : Spelled). s.token) both in
    let text : m.text ≡ n.text = ap (λ (s : Spelled). s.text) both in
    let later : spelled_of others also ≡ spelled_of spans norms = cc in
    let rest = same_spelled spans others norms also first second later in
    record {
      spans_are = ap₂ (λ (x : Token) (xs : List Token). x ∷ xs) head rest.spans_are;
      texts_are = ap₂ (λ (x : List ℕ) (xs : List (List ℕ)). x ∷ xs) text rest.texts_are;
    }

-- and in one language, with the classes, the tokens
same_norms : (l : Lang) (norms also : List Norm) → All (λ (n : Norm). n.lang ≡ l) norms → All (λ (n : Norm). n.lang ≡ l) also → classes_in also ≡ classes_in norms → map (λ (n : Norm). n.text) also ≡ map (λ (n : Norm). n.text) norms → also ≡ norms
same_norms l [] [] one two classes texts = refl
same_norms l [] (m ∷ also) one two classes texts = absurd (cc)
same_norms l (n ∷ norms) [] one two classes texts = absurd (cc)
same_norms l (n ∷ norms) (m ∷ also) one two classes texts =
    let lang : m.lang ≡ n.lang = All-head (λ (n : Norm). n.lang ≡ l) m also two ∙ sym (All-head (λ (n : Norm). n.lang ≡ l) n norms one) in
    let class : m.class ≡ n.class = cc in
    let text : m.text ≡ n.text = cc in
    let more : classes_in also ≡ classes_in norms = cc in
    let less : map (λ (n : Norm). n.text) also ≡ map (λ (n : Norm). n.text) norms = cc in
    let first : m ≡ n = λ i. record { lang = lang i; class = class i; text = text i } in
    ap₂ (λ (x : Norm) (xs : List Norm). x ∷ xs) first
    (same_norms l norms also (All-tail (λ (n : Norm). n.lang ≡ l) n norms one) (All-tail (λ (n : Norm). n.lang ≡ l) m also two) more less)

-- ---- one file

module _ {L : Type 0} (set : Settings) (f g : File (Work L)) (one : IsOneFile set f) (two : IsOneFile set g) (same : record_of g ≡ record_of f) where
  langs_same : g.lang ≡ f.lang
  langs_same = ap (λ (r : Recorded). r.lang) same

  tokens_told : SameTokens f.body.spans.items g.body.spans.items (arc_value f.body.tokens) (arc_value g.body.tokens)
  tokens_told = same_spelled f.body.spans.items g.body.spans.items (arc_value f.body.tokens) (arc_value g.body.tokens) one.classes two.classes (ap (λ (r : Recorded). r.tokens) same)

  norms_same : arc_value g.body.tokens ≡ arc_value f.body.tokens
  norms_same =
      same_norms f.lang (arc_value f.body.tokens) (arc_value g.body.tokens) one.langs
      (subst (λ (l : Lang). All (λ (n : Norm). n.lang ≡ l) (arc_value g.body.tokens)) langs_same two.langs)
      (sym two.classes ∙ ap classes_of tokens_told.spans_are ∙ one.classes)
      tokens_told.texts_are

  pub same_work : (l : Lang) (text : List ℕ) → IsWorkOf set l text f.body → IsWorkOf set l text g.body
  same_work l text is = record {
    answer = is.answer;
    lexes = is.lexes;
    shows = record {
      lang_is = two.lang ∙ langs_same ∙ sym one.lang ∙ is.shows.lang_is;
      state_is = ap (λ (r : Recorded). r.state) same ∙ is.shows.state_is;
      spans_are = tokens_told.spans_are ∙ is.shows.spans_are;
      tokens_are = norms_same ∙ is.shows.tokens_are;
      keys_are = two.keys ∙ ap (window_keys set) norms_same ∙ sym one.keys ∙ is.shows.keys_are;
      counts_are = ap (λ (r : Recorded). r.counts) same ∙ is.shows.counts_are;
      functions_are = ap (λ (r : Recorded). r.functions) same ∙ is.shows.functions_are;
      small = subst AreSmall (sym (ap (λ (r : Recorded). r.counts) same)) is.shows.small;
      few = is.shows.few;
    };
  }

-- ---- all files

same_files : {L : Type 0} (set : Settings) (sources : List Source) (files others : List (File (Work L))) → All (IsOneFile set) files → All (IsOneFile set) others → map record_of others ≡ map record_of files
    → AreSameFiles (IsWorkOf set) sources files → AreSameFiles (IsWorkOf set) sources others
same_files set [] [] [] one two same are = tt
same_files set [] [] (g ∷ others) one two same are = absurd (cc)
same_files set [] (f ∷ files) others one two same are = absurd are
same_files set (x ∷ sources) [] others one two same are = absurd are
same_files set (x ∷ sources) (f ∷ files) [] one two same are = absurd (cc)
same_files set (x ∷ sources) (f ∷ files) (g ∷ others) one two same are =
    let first : record_of g ≡ record_of f = cc in
    let later : map record_of others ≡ map record_of files = cc in
    let is = are.0 in (
      record {
        path = is.path ∙ sym (ap (λ (r : Recorded). r.path) first);
        number = is.number ∙ sym (ap (λ (r : Recorded). r.change) first);
        lang = is.lang ∙ sym (ap (λ (r : Recorded). r.lang) first);
        body = same_work set f g (All-head (IsOneFile set) f files one) (All-head (IsOneFile set) g others two) first x.lang x.body is.body;
      },
      same_files set sources files others (All-tail (IsOneFile set) f files one) (All-tail (IsOneFile set) g others two) later are.1,
    )

-- ---- the version

-- bytes that begin with a token file of these settings begin with no other
pub one_front : {L : Type 0} (set : Settings) (s t : Snapshot L) (file other rest behind : List ℕ) → IsTokenFile set s file → IsTokenFile set t other → file ++ rest ≡ other ++ behind
    → (contents_of t ≡ contents_of s) × (other ≡ file) × (behind ≡ rest)
one_front set s t file other rest behind is also same =
    let both =
    one_form (whole set) (IsSoundWhole set) (whole_at set) (wholes set) (contents_of t) (contents_of s) behind rest
    (record { contents = also.sound.contents; fits = also.fits })
    (record { contents = is.sound.contents; fits = is.fits })
    (ap (λ (f : List ℕ). f ++ behind) (sym also.is) ∙ sym same ∙ ap (λ (f : List ℕ). f ++ rest) is.is) in
    (both.0, also.is ∙ ap (whole set) both.0 ∙ sym is.is, both.1)

module _ {L : Type 0} (set : Settings) (written read : Snapshot L) (file : List ℕ) (is : IsTokenFile set written file) (also : IsTokenFile set read file) where
  same_contents : contents_of read ≡ contents_of written
  same_contents = (one_front set written read file file [] [] is also refl).0

  pub read_again : (changes : List Change) (project : List ℕ) → IsOfChanges set changes project written → IsOfChanges set changes project read
  read_again changes project of = record {
    version_is = ap (λ (c : Contents). c.head.version) same_contents ∙ of.version_is;
    project_is = ap (λ (c : Contents). c.head.project) same_contents ∙ of.project_is;
    are = record {
      files_are = same_files set (files_at changes (length changes) project) written.files read.files is.sound.parts also.sound.parts (ap (λ (c : Contents). c.files) same_contents) of.are.files_are;
      conditions_are = ap (λ (c : Contents). c.conditions) same_contents ∙ of.are.conditions_are;
    };
  }
