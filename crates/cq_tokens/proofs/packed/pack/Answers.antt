use Rattle.std.proofs.Common.{◌≡◌, ◌+◌, ◌∙◌, ℕ, List, [], ◌∷◌, ◌++◌, take, ap, ap₂, sym, subst₂, length, length-append}
use Rattle.std.proofs.lemmas.List.{take_more}
use Rattle.cq_base.specs.declared.norm.Norm.{Norm}
use Rattle.cq_tokens.specs.declared.packed.Mark.{Mark}
use Rattle.cq_tokens.specs.Packed.{norms_from, AreEnds, last_end, spelling_bytes}
use Rattle.cq_tokens.proofs.Texts.{norms_more, ends_more, last_more}
use Rattle.cq_tokens.proofs.Sizes.{bytes_more}
use Rattle.cq_tokens.proofs.packed.pack.Goals as goal

pub loop-norm-preserved : goal.loop-norm-preserved
loop-norm-preserved c =
    let before = c.loop-norm.invariant in
    let marks = c.loop-norm.marks.items in
    let bytes = c.loop-norm.bytes.items in
    let norm = c.norm-item.result in
    let text = c.as_bytes.result.now in
    let longer = c.in_ok-extend_from_slice.ensures.items in
    let long : length c.extend_from_slice.new.self.items ≡ length bytes + length text = ap length longer ∙ length-append bytes text in
    let end : c.len.result ≡ length bytes + length text = c.len.ensures ∙ c.extend_from_slice.new.self.ok.0 ∙ long in
    let mark : Mark = record { lang = norm.lang; class = norm.class; end = length bytes + length text } in
    let added : c.push.new.self.items ≡ marks ++ mark ∷ [] =
    c.in_ok-push.ensures.items ∙ ap (λ (e : ℕ). let m : Mark = record { lang = norm.lang; class = norm.class; end = e } in marks ++ m ∷ []) end in
    let same : norms_from 0 (marks ++ mark ∷ []) (bytes ++ text) ≡ take (c.loop-norm.norm-index + 1) c.args.norms.now =
    norms_more 0 marks bytes text norm.lang norm.class before.ends before.last
    ∙ ap₂ (λ (a : List Norm) (t : List ℕ). let n : Norm = record { lang = norm.lang; class = norm.class; text = t } in a ++ n ∷ []) before.tokens c.as_bytes.ensures
    ∙ ap (λ (n : Norm). take c.loop-norm.norm-index c.args.norms.now ++ n ∷ []) c.norm-item.is
    ∙ sym (take_more c.args.norms.now c.loop-norm.norm-index norm c.loop-norm-test.true) in
    record {
      tokens = ap₂ (norms_from 0) added longer ∙ same;
      ends = subst₂ (AreEnds 0) (sym added) (sym long) (ends_more 0 marks (length bytes) (length text) norm.lang norm.class before.ends);
      last = ap (last_end 0) added ∙ last_more 0 marks mark ∙ sym long;
      many = ap length added ∙ length-append marks (mark ∷ []) ∙ ap (λ n. n + 1) before.many;
      size =
          long ∙ ap (λ n. n + length text) before.size ∙ ap (λ (t : List ℕ). spelling_bytes (take c.loop-norm.norm-index c.args.norms.now) + length t) c.as_bytes.ensures
          ∙ sym (bytes_more c.args.norms.now c.loop-norm.norm-index norm c.loop-norm-test.true c.norm-item.is);
    }
