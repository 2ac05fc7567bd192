-- A core before any step.
use Rattle.std.proofs.Common.{◌≡◌, ℕ, zero, suc, ◌<◌, List, [], ◌∷◌, length, map, get_or, replicate, Option, None, refl, sym, ap, ◌∙◌, arith, true≢false}
use Rattle.std.specs.Prelude.{is_some, option_map}
use Rattle.std.proofs.lemmas.List.{length-map, get_or-map, get_or-replicate, length-replicate, same_lists}
use Rattle.cq_base.specs.declared.lang.Lang.{Lang}
use Rattle.cq_history.specs.State.{State, changes_in}
use Rattle.cq_history.specs.Core.{first_core}
use Rattle.cq_history.proofs.Cores.{first_is_sound}
use Rattle.cq_shard.specs.Shard.{Contents}
use Rattle.cq_shard.specs.Laws.{StandsAtFirst}
use Rattle.cq_board.specs.Stands as board
use Rattle.cq_board.specs.declared.listing.View.{View}
use Rattle.cq_core.specs.Cores.{StandsFor, AreFresh, applied_of, floor_of}
use Rattle.cq_core.specs.Views.{AreViews, version_in}
use Rattle.cq_core.proofs.Stepping.{core}

fresh : ℕ → ℕ → Contents
fresh i n = record { shard = i; shards = n; applied = 0; floor = 0; puts = []; entries = [] }

module _ (n : ℕ) (shards : List Contents) (are : AreFresh n shards) where
  zeros : (f : Contents → ℕ) → ((i : ℕ) → f (fresh i n) ≡ 0) → map f shards ≡ replicate n 0
  unfolding fresh
  zeros f none =
      same_lists (map f shards) (replicate n 0) (length-map shards f ∙ are.number_is ∙ sym (length-replicate n 0))
      (λ k d lt.
      let within : k < length shards = omega (arith, lt, length-map shards f) in
      let many : k < n = omega (arith, within, are.number_is) in
      get_or-map f shards k (fresh k n) d within ∙ ap f (are.each k (fresh k n) within) ∙ none k ∙ sym (get_or-replicate n k 0 d many))

  pub fresh_core : (IsWindow : Lang → List ℕ → ℕ → ℕ → Type 0) → StandsAtFirst IsWindow → (b : board.BoardState) → b.settings.shards ≡ n → board.StandsFor [] b → StandsFor IsWindow (first_core n) (core b shards)
  unfolding fresh
  fresh_core IsWindow law b number stands = record {
    past = stands;
    applied = zeros applied_of (λ i. refl);
    floors = zeros floor_of (λ i. refl);
    sound = first_is_sound b.settings (length b.state.views) n;
    shards = λ i d lt. law (changes_in b.state) (get_or shards i d) (ap applied_of (are.each i d lt)) (ap (λ (c : Contents). c.puts) (are.each i d lt)) (ap (λ (c : Contents). c.entries) (are.each i d lt));
    numbered = record {
      number_is = are.number_is ∙ sym number;
      each = λ i d lt. (ap (λ (c : Contents). c.shard) (are.each i d lt), ap (λ (c : Contents). c.shards) (are.each i d lt) ∙ sym number);
      passed = λ i d lt. let a = ap floor_of (are.each i d lt) in omega (arith, a);
    };
  }

module _ {W : Type 0} (IsWork : Lang → List ℕ → W → Type 0) where
  none_mapped : (n : ℕ) → map (option_map version_in) (replicate {A = Option (View W)} n None) ≡ replicate n None
  none_mapped zero = refl
  none_mapped (suc n) = ap (λ vs. None ∷ vs) (none_mapped n)

  pub no_views_yet : (b : board.BoardState) (n : ℕ) (views : List (Option (View W))) → board.StandsFor [] b → length b.state.views ≡ n → views ≡ replicate n None → AreViews IsWork b.state views
  no_views_yet b n views stands callers none = record {
    versions = ap (map (option_map version_in)) none ∙ none_mapped n ∙ ap (λ k. replicate k None) (sym callers) ∙ ap (λ (s : State). s.views) (sym stands.is);
    each = λ i v lt here.
        let within : i < n = omega (arith, lt, ap length none, length-replicate {A = Option (View W)} n None) in
        absurd (true≢false (sym (ap is_some (sym (get_or-replicate n i None None within) ∙ ap (λ vs. get_or vs i None) (sym none) ∙ here None))));
  }
