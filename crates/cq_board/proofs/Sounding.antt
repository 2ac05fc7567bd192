-- What is handed out of sound changes.
use Rattle.std.proofs.Common.{ℕ, ◌-◌, ◌≤◌, true, false, cond, List, [], ◌∷◌, length, sym, subst, arith}
use Rattle.std.specs.Prelude.{All}
use Rattle.std.specs.Str.{IsUtf8, bytes_eq}
use Rattle.std.proofs.Math.ListN.{get_or-map}
use Rattle.std.proofs.lemmas.List.{length-map}
use Rattle.std.proofs.lemmas.List.Elements.{All-head, All-tail}
use Rattle.cq_base.specs.declared.lang.Lang.{Lang}
use Rattle.cq_base.specs.declared.change.Condition.{Condition}
use Rattle.cq_base.specs.declared.change.Change.{Change}
use Rattle.cq_base.specs.declared.change.Change.TheVariants.{Put, Drop, Gate}
use Rattle.cq_base.specs.Changes.{IsSoundChange}
use Rattle.cq_history.specs.Files.{conditions_after, conditions_from}
use Rattle.cq_history.specs.Changes.{IsNumber}
use Rattle.cq_history.specs.State.{Slot, no_slot}
use Rattle.cq_board.specs.declared.answers.Job.{Job}
use Rattle.cq_kept.specs.Slots.{slot_at, changes_of}
use Rattle.cq_board.specs.Answers.{IsJobOf}
use Rattle.cq_board.specs.Listings.{Listed, IsListing}
use Rattle.cq_board.specs.Sound.{HasSoundText, HaveFewConditions}

-- the text of a sound change's job
pub job_text : (c : Change) (job : Job) → IsSoundChange c → IsJobOf c job → HasSoundText job
job_text (Put project path lang text) job sound is = subst (λ t. IsUtf8 t × (length t ≤ 1048576)) (sym is.1) (sound.2, sound.3)
job_text (Drop project path) job sound is = absurd is
job_text (Gate project conditions) job sound is = absurd is

-- the change of a slot is one of the changes
pub slot_sound : (slots : List Slot) (r : ℕ) → All IsSoundChange (changes_of slots) → IsNumber slots r → IsSoundChange (slot_at slots r).change
slot_sound slots r sound number =
    subst IsSoundChange (get_or-map (λ (s : Slot). s.change) slots (r - 1) no_slot) (sound (r - 1) no_slot.change (omega (arith, number.0, number.1, length-map slots (λ (s : Slot). s.change))))

few_after : (q : List ℕ) (old : List Condition) (c : Change) → length old ≤ 32 → IsSoundChange c → length (conditions_after q old c) ≤ 32
few_after q old (Put project path lang text) few sound = few
few_after q old (Drop project path) few sound = few
few_after q old (Gate project conditions) few sound = elim (bytes_eq q project) as (λ b. length (cond b conditions old) ≤ 32) [ true ↦ sound.1 | false ↦ few ]

few_from : (q : List ℕ) (old : List Condition) (changes : List Change) → length old ≤ 32 → All IsSoundChange changes → length (conditions_from q old changes) ≤ 32
few_from q old [] few sound = few
few_from q old (c ∷ changes) few sound = few_from q (conditions_after q old c) changes (few_after q old c few (All-head IsSoundChange c changes sound)) (All-tail IsSoundChange c changes sound)

pub few_conditions : {W : Type 0} (IsWork : Lang → List ℕ → W → Type 0) (changes : List Change) (l : Listed W) → All IsSoundChange changes → IsListing IsWork changes l → HaveFewConditions l.projects
few_conditions IsWork changes l sound is q = subst (λ cs. length cs ≤ 32) (sym (is.conditions q)) (few_from q [] changes (omega arith) sound)
