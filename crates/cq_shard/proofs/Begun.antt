-- The entries of changes, parted among the shards.
use Rattle.std.proofs.Common.{◌≡◌, ℕ, ◌+◌, ◌<◌, ◌%◌, cond, List, [], ◌∷◌, ◌++◌, length, replicate, get_or, set, sym, ap, ◌∙◌, subst, ⊎_elim, arith, append_assoc}
use Rattle.std.proofs.lemmas.Bool.{cases_eq, eq-eqb, ne_eqb}
use Rattle.std.proofs.lemmas.List.{length-set, length-replicate, get_or-replicate, get_or-set_same, get_or-set_other}
use Rattle.cq_base.specs.declared.entry.Entry.{Entry}
use Rattle.cq_shard.specs.Shard.{entries_of}
use Rattle.cq_shard.specs.Parts.{AreBegun}

module _ (shards : ℕ) (all : ℕ → List Entry) where
  pub none_begun : AreBegun shards all all (replicate shards [])
  none_begun = record {
    number_is = length-replicate shards [];
    each = λ n d lt. ap (λ (es : List Entry). es ++ all n) (get_or-replicate shards n [] d lt);
  }

  -- the entry of a key comes to the part of its shard
  pub begun_more : (change at key : ℕ) (keys : List ℕ) (rest : ℕ → List Entry) (parts more : List (List Entry)) → 0 < shards →
      (let e : Entry = record { key = key; change = change; at = at } in more ≡ set parts (key % shards) (get_or parts (key % shards) [] ++ e ∷ [])) →
      AreBegun shards (λ n. entries_of change n shards at (key ∷ keys) ++ rest n) all parts → AreBegun shards (λ n. entries_of change n shards (at + 1) keys ++ rest n) all more
  begun_more change at key keys rest parts more some is are =
      let e : Entry = record { key = key; change = change; at = at } in
      let mine = key % shards in
      let longer = get_or parts mine [] ++ e ∷ [] in
      record {
        number_is = ap length is ∙ length-set parts mine longer ∙ are.number_is;
        each = λ n d lt.
            let later = entries_of change n shards (at + 1) keys ++ rest n in
            let number = are.number_is in
            ap (λ ps. get_or ps n d ++ later) is ∙ ⊎_elim
            (λ (same : n ≡ mine).
            ap (λ k. get_or (set parts k (get_or parts k [] ++ e ∷ [])) n d ++ later) (sym same)
            ∙ ap (λ es. es ++ later) (get_or-set_same parts n (get_or parts n [] ++ e ∷ []) d (omega (arith, lt, number)))
            ∙ append_assoc (get_or parts n []) (e ∷ []) later
            ∙ subst (λ b. get_or parts n [] ++ ((cond b (e ∷ []) [] ++ entries_of change n shards (at + 1) keys) ++ rest n) ≡ all n) (eq-eqb mine n (sym same)) (are.each n [] lt))
            (λ other.
            ap (λ es. es ++ later) (get_or-set_other parts mine n longer d other)
            ∙ subst (λ b. get_or parts n d ++ ((cond b (e ∷ []) [] ++ entries_of change n shards (at + 1) keys) ++ rest n) ≡ all n) (ne_eqb mine n (λ same. other (sym same))) (are.each n d lt))
            (cases_eq n mine);
      }
