-- A refusal that is written by what it reports besides its code and its word.
use Rattle.std.proofs.Common.{◌≡◌, ℕ, List, Option, Some, None, ap, ap₂, ◌∙◌}
use Rattle.cq_base.specs.Refusals.{refusal_code, refusal_word, refusal_name, refusal_count}
use Rattle.cq_base.specs.declared.refusal.Refusal.{Refusal}
use Rattle.cq_reply.specs.Written.{refusal, named_refusal, counted_refusal, refusal_data, refused_data}

pub named_is : {code : ℕ} {word : List ℕ} (why : Refusal) (name : List ℕ) → Some name ≡ refusal_name why → code ≡ refusal_code why → word ≡ refusal_word why → named_refusal code word name ≡ refused_data why
named_is why name names code_is word_is =
    ap₂ (λ (n : ℕ) (w : List ℕ). named_refusal n w name) code_is word_is ∙ ap (λ (o : Option (List ℕ)). refusal_data (refusal_code why) (refusal_word why) o (refusal_count why)) names

pub counted_is : {code : ℕ} {word : List ℕ} (why : Refusal) (n : ℕ) → None ≡ refusal_name why → Some n ≡ refusal_count why → code ≡ refusal_code why → word ≡ refusal_word why → counted_refusal code word n ≡ refused_data why
counted_is why n names counts code_is word_is =
    ap₂ (λ (k : ℕ) (w : List ℕ). counted_refusal k w n) code_is word_is ∙ ap₂ (λ (o : Option (List ℕ)) (m : Option ℕ). refusal_data (refusal_code why) (refusal_word why) o m) names counts

pub plain_is : {code : ℕ} {word : List ℕ} (why : Refusal) → None ≡ refusal_name why → None ≡ refusal_count why → code ≡ refusal_code why → word ≡ refusal_word why → refusal code word ≡ refused_data why
plain_is why names counts code_is word_is =
    ap₂ (λ (k : ℕ) (w : List ℕ). refusal k w) code_is word_is ∙ ap₂ (λ (o : Option (List ℕ)) (m : Option ℕ). refusal_data (refusal_code why) (refusal_word why) o m) names counts
