-- What a board keeps of itself in each of its steps.
use Rattle.std.proofs.Common.{◌≡◌, ◌⊎◌, ℕ, ◌-◌, ◌≤◌, ◌^◌, nat_le, List, [], ◌∷◌, ◌++◌, length, take, set, Option, None, refl, sym, ap, ◌∙◌, subst, inl, inr, ⊎_elim, length-append, arith}
use Rattle.std.specs.Prelude.{All}
use Rattle.std.specs.BTreeSet.{BTreeSet}
use Rattle.std.specs.List.{prefix_len}
use Rattle.std.proofs.Math.Seq.{map-set_same}
use Rattle.std.proofs.lemmas.List.{map-append, length-map, length-set, take-append-le}
use Rattle.std.proofs.lemmas.List.Elements.{All-push}
use Rattle.std.proofs.lemmas.List.Sums.{prefix_len-le-length}
use Rattle.cq_base.specs.Changes.{IsSoundChange}
use Rattle.cq_base.specs.declared.change.Change.{Change}
use Rattle.cq_base.specs.declared.lang.Lang.{Lang}
use Rattle.cq_base.specs.declared.settings.Settings.{Settings}
use Rattle.cq_history.specs.declared.event.Event.TheVariants.{Accept}
use Rattle.cq_history.specs.Gone.{kept_count}
use Rattle.cq_history.specs.Lawful.{Permits}
use Rattle.cq_history.specs.State.{State, Slot, no_slot, new_slot, is_done}
use Rattle.cq_history.proofs.Bounds.{prefix_len-append-le}
use Rattle.cq_history.proofs.Keeping.{one_more, kept_falls, above_kept}
use Rattle.cq_board.specs.declared.free.FreeChanges.{FreeChanges}
use Rattle.cq_kept.specs.Accepted.{accepted_from}
use Rattle.cq_board.specs.Answers.{refusal_of}
use Rattle.cq_board.specs.Boards.{BoardOk}
use Rattle.cq_board.specs.Free.{AreFree, room_of}
use Rattle.cq_board.specs.Listings.{Listed, IsListing}
use Rattle.cq_kept.specs.Slots.{slot_at, changes_of, state_from}
use Rattle.cq_board.specs.Undone.{AreUndone}
use Rattle.cq_kept.proofs.Changing.{or_false, lt-from-le_false}
use Rattle.cq_board.proofs.Causes.{causes}
use Rattle.cq_board.proofs.Freeing.{one_more_free}

-- what is not refused is allowed
pub allowed_accept : (settings : Settings) (s : State) (by : ℕ) (change : Change) → refusal_of settings s change ≡ None → Permits settings s (Accept by change)
allowed_accept settings s by change e = causes settings s change e

module _ {W : Type 0} (IsWork : Lang → List ℕ → W → Type 0) (settings : Settings) (slots : List Slot) (floor : ℕ) (undone : BTreeSet ℕ) (free : FreeChanges) (published listed : ℕ) (l : Listed W) (views : List (Option ℕ)) (ok : BoardOk IsWork (accepted_from settings slots floor) undone free published listed l views) where
  many_changes : length (changes_of slots) ≡ length slots
  many_changes = length-map slots (λ (s : Slot). s.change)

  published_within : published ≤ length slots
  published_within = omega (arith, ok.in_order.1, prefix_len-le-length is_done slots)

  listed_within : listed ≤ length slots
  listed_within = ⊎_elim (λ same. omega (arith, same, published_within)) (λ none. omega (arith, none)) ok.listed_is

  -- each change above the floor may be given back
  pub room_enough : length slots - floor ≤ room_of free
  room_enough =
      let above = above_kept (changes_of slots) floor (omega (arith, ok.in_order.0, published_within, many_changes)) in
      omega (arith, above, many_changes, ok.few_kept, ok.room)

  -- what the listing is advanced from
  pub listed_low : (version : ℕ) → published ≤ version → listed ≤ version
  listed_low version up = ⊎_elim (λ same. omega (arith, same, up)) (λ none. omega (arith, none)) ok.listed_is

  pub listed_from : (floor ≤ listed) ⊎ (listed ≡ 0)
  listed_from = ⊎_elim (λ same. inl (omega (arith, same, ok.in_order.0))) (λ none. inr none) ok.listed_is

  pub listed_back : (at : ℕ) → (at ≡ listed) ⊎ (at ≡ 0) → (at ≡ published) ⊎ (at ≡ 0)
  listed_back at back = ⊎_elim (λ same. ⊎_elim (λ h. inl (same ∙ h)) (λ none. inr (same ∙ none)) ok.listed_is) (λ none. inr none) back

  -- one change more
  pub board_accepted : (c : Change) (now : BTreeSet ℕ) → IsSoundChange c → refusal_of settings (state_from slots 0 floor []) c ≡ None → AreUndone (slots ++ new_slot c ∷ []) now → BoardOk IsWork (accepted_from settings (slots ++ new_slot c ∷ []) floor) now free published listed l views
  board_accepted c now sound allowed not_done =
      let none = causes settings (state_from slots 0 floor []) c allowed in
      let room = or_false (nat_le settings.change_limit (kept_count (changes_of slots) floor)) (nat_le (2 ^ 60) (length slots)) none.1 in
      let below = lt-from-le_false settings.change_limit (kept_count (changes_of slots) floor) room.0 in
      let fewer = lt-from-le_false (2 ^ 60) (length slots) room.1 in
      let more : changes_of (slots ++ new_slot c ∷ []) ≡ changes_of slots ++ c ∷ [] = map-append (λ (s : Slot). s.change) slots (new_slot c ∷ []) in
      let count = (one_more (changes_of slots) floor c (omega (arith, ok.in_order.0, published_within, many_changes))).1 in
      let longer = length-append slots (new_slot c ∷ []) in
      record {
        sound = subst (All IsSoundChange) (sym more) (All-push IsSoundChange (changes_of slots) c ok.sound sound);
        few_accepted = omega (arith, fewer, longer);
        few_kept = subst (λ cs. kept_count cs floor ≤ settings.change_limit) (sym more) (omega (arith, count, below));
        not_done = not_done;
        may_take = one_more_free slots floor free ok.may_take (new_slot c) refl;
        room = ok.room;
        in_order = (ok.in_order.0, omega (arith, ok.in_order.1, prefix_len-append-le slots (new_slot c ∷ [])));
        listed_is = ok.listed_is;
        listing = subst (λ cs. IsListing IsWork cs l) (sym (ap (take listed) more ∙ take-append-le listed (changes_of slots) (c ∷ []) (omega (arith, listed_within, many_changes)))) ok.listing;
        few_views = ok.few_views;
      }

  -- another slot of the same change, which is done where the old one was
  pub board_with : (number : ℕ) (slot : Slot) (now : BTreeSet ℕ) (new : FreeChanges) → slot.change ≡ (slot_at slots number).change → AreUndone (set slots (number - 1) slot) now → AreFree (set slots (number - 1) slot) floor new → room_of free ≤ room_of new →
      prefix_len is_done slots ≤ prefix_len is_done (set slots (number - 1) slot) → BoardOk IsWork (accepted_from settings (set slots (number - 1) slot) floor) now new published listed l views
  board_with number slot now new same not_done may_take room grows =
      let alike : changes_of (set slots (number - 1) slot) ≡ changes_of slots = map-set_same (λ (s : Slot). s.change) slots (number - 1) slot no_slot same in
      record {
        sound = subst (All IsSoundChange) (sym alike) ok.sound;
        few_accepted = omega (arith, ok.few_accepted, length-set slots (number - 1) slot);
        few_kept = subst (λ cs. kept_count cs floor ≤ settings.change_limit) (sym alike) ok.few_kept;
        not_done = not_done;
        may_take = may_take;
        room = omega (arith, ok.room, room);
        in_order = (ok.in_order.0, omega (arith, ok.in_order.1, grows));
        listed_is = ok.listed_is;
        listing = subst (λ cs. IsListing IsWork (take listed cs) l) (sym alike) ok.listing;
        few_views = ok.few_views;
      }

  -- it looked for a free change among others
  pub board_free : (new : FreeChanges) → AreFree slots floor new → room_of free ≤ room_of new → BoardOk IsWork (accepted_from settings slots floor) undone new published listed l views
  board_free new may_take room = record {
    sound = ok.sound;
    few_accepted = ok.few_accepted;
    few_kept = ok.few_kept;
    not_done = ok.not_done;
    may_take = may_take;
    room = omega (arith, ok.room, room);
    in_order = ok.in_order;
    listed_is = ok.listed_is;
    listing = ok.listing;
    few_views = ok.few_views;
  }

  -- where memory is refused, the same changes are undone
  pub board_undone : (now : BTreeSet ℕ) → AreUndone slots now → BoardOk IsWork (accepted_from settings slots floor) now free published listed l views
  board_undone now not_done = record {
    sound = ok.sound;
    few_accepted = ok.few_accepted;
    few_kept = ok.few_kept;
    not_done = not_done;
    may_take = ok.may_take;
    room = ok.room;
    in_order = ok.in_order;
    listed_is = ok.listed_is;
    listing = ok.listing;
    few_views = ok.few_views;
  }

  -- another listing, of a version that is published from here on
  pub board_published : (version at : ℕ) (m : Listed W) → published ≤ version → version ≤ prefix_len is_done slots → (at ≡ version) ⊎ (at ≡ 0) → IsListing IsWork (take at (changes_of slots)) m → BoardOk IsWork (accepted_from settings slots floor) undone free version at m views
  board_published version at m up done which listing = record {
    sound = ok.sound;
    few_accepted = ok.few_accepted;
    few_kept = ok.few_kept;
    not_done = ok.not_done;
    may_take = ok.may_take;
    room = ok.room;
    in_order = (omega (arith, ok.in_order.0, up), done);
    listed_is = which;
    listing = listing;
    few_views = ok.few_views;
  }

  -- other views
  pub board_views : (now : List (Option ℕ)) → length now ≡ length views → BoardOk IsWork (accepted_from settings slots floor) undone free published listed l now
  board_views now same = record {
    sound = ok.sound;
    few_accepted = ok.few_accepted;
    few_kept = ok.few_kept;
    not_done = ok.not_done;
    may_take = ok.may_take;
    room = ok.room;
    in_order = ok.in_order;
    listed_is = ok.listed_is;
    listing = ok.listing;
    few_views = omega (arith, same, ok.few_views);
  }

  -- a higher floor, at most the published version
  pub board_floor : (higher : ℕ) (new : FreeChanges) → floor ≤ higher → higher ≤ published → AreFree slots higher new → room_of free ≤ room_of new → BoardOk IsWork (accepted_from settings slots higher) undone new published listed l views
  board_floor higher new up within may_take room = record {
    sound = ok.sound;
    few_accepted = ok.few_accepted;
    few_kept = omega (arith, ok.few_kept, (kept_falls (changes_of slots) floor higher up).0);
    not_done = ok.not_done;
    may_take = may_take;
    room = omega (arith, ok.room, room);
    in_order = (within, ok.in_order.1);
    listed_is = ok.listed_is;
    listing = ok.listing;
    few_views = ok.few_views;
  }
