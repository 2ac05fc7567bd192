-- What a server has written that mended the end of its log first.
use Rattle.std.proofs.Common.{◌≡◌, ℕ, List, [], ◌++◌, sym, ap, ◌∙◌, subst, append-nil, append_assoc}
use Rattle.std.proofs.KnownBytes.{Appends-trans}
use Rattle.std.specs.Io.KnownBytes.{Appends}
use Rattle.cq_base.specs.declared.change.Change.{Change}
use Rattle.cq_base.specs.declared.settings.Settings.{Settings}
use Rattle.cq_cells.specs.Passes.{by_of}
use Rattle.cq_chain.specs.Passes.{BoardPass}
use Rattle.cq_history.specs.Lawful.{Lawful}
use Rattle.cq_io.specs.Causes.{Rose}
use Rattle.cq_io.specs.declared.sink.Sink as sink
use Rattle.cq_keeper.specs.Firsts.{IsFirst}
use Rattle.cq_shared.specs.SharedPasses.{IsPassOf, callers_of}
use Rattle.cq_shared.specs.declared.shared.Shared.{Shared}
use Rattle.cq_serve_kept.specs.Continued.{Continues, ContinuesBroken, ContinuesWhole}
use Rattle.cq_serve_kept.specs.Reloads.{HasTaken}
use Rattle.cq_serve_kept.proofs.FirstPass.{lawful_seen}

module _ {K : Type 0} (onto : sink.Ghosts K) (set : Settings) (before : List Change) (old mid now : K) (mended : List ℕ) (sent : Appends (onto.written old) (onto.written mid) mended) where
  abbrev continues_mended : Continues onto set [] before mid now → Continues onto set mended before old now
  continues_mended is = record {
    lines = is.lines;
    changes = is.changes;
    continues = is.continues;
    some = mended ++ is.some;
    more = is.more;
    parts = append_assoc mended is.some is.more ∙ ap (λ (bytes : List ℕ). mended ++ bytes) is.parts;
    written_is = Appends-trans (onto.written old) (onto.written mid) (onto.written now) mended is.some sent is.written_is;
    callers = is.callers;
    history = is.history;
    lawful = is.lawful;
    accepts = is.accepts;
  }

  pub whole_mended : ContinuesWhole onto set [] before mid now → ContinuesWhole onto set mended before old now
  whole_mended (is, all) = (continues_mended is, all)

  pub broken_mended : onto.faults mid ≡ onto.faults old → ContinuesBroken onto set [] before mid now → ContinuesBroken onto set mended before old now
  broken_mended same (is, rose) = (continues_mended is, subst (λ (n : ℕ). Rose n (onto.faults now)) same rose)

module _ {W R : Type 0} (hub : Shared W R) (set : Settings) (changes : List Change) (p : BoardPass) (is : HasTaken hub p set changes) where
  -- it could not be mended
  pub mends_front : {K : Type 0} (onto : sink.Ghosts K) (old now : K) (mended front more : List ℕ) → front ++ more ≡ mended → Appends (onto.written old) (onto.written now) front → Rose (onto.faults old) (onto.faults now)
      → ContinuesBroken onto set mended changes old now
  mends_front onto old now mended front more parts sent rose = (
    record {
      lines = [];
      changes = [];
      continues = tt;
      some = front;
      more = more;
      parts = parts ∙ sym (append-nil mended);
      written_is = sent;
      callers = callers_of hub;
      history = p.seen;
      lawful = subst (λ (s : Settings). Lawful s (callers_of hub) p.seen) is.settings (lawful_seen hub p is.of);
      accepts = is.accepts ∙ sym (append-nil changes);
    },
    rose,
  )

  -- the pass is the first caller's, also after it made further callers
  pub first_taken : (q : BoardPass) → IsPassOf hub q → by_of q ≡ by_of p → IsFirst hub q
  first_taken q of caller = record { of = of; caller = caller ∙ is.caller; only = is.only }
