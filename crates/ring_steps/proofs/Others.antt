-- How everyone but a stopped actor comes to have no call left, one actor after the other.
use Rattle.std.proofs.Common.{◌≡◌, ◌≢◌, ℕ, zero, suc, ◌+◌, ◌⊎◌, inl, inr, List, [], ◌∷◌, ◌++◌, length, replicate, refl, sym, ◌∙◌, ap, subst, arith}
use Rattle.std.specs.Prelude.{slice_index_or}
use Rattle.std.proofs.lemmas.Bool.Decides.{eqb_tells}
use Rattle.std.proofs.lemmas.List.{append-nil, length-append}
use Rattle.std.proofs.lemmas.Option.{slice_get_within}
use Rattle.ring_steps.specs.declared.calls.Actor.{Actor}
use Rattle.ring_steps.specs.declared.calls.Actor.TheVariants.{P, Seat}
use Rattle.ring_steps.specs.Faults.{HasCall}
use Rattle.ring_steps.specs.Making.{FinishesOthers, Goes, GoesAlone, SoFar, in_turn, turns_by}
use Rattle.ring_steps.specs.Runs.{Calls}
use Rattle.ring_steps.specs.Traces.{IsOneOf}
use Rattle.ring_steps.proofs.RunningOut.{goes_nowhere, goes_on, in_turn_more, others_stay}

-- the publisher and so many seats have no call left, but for the stopped actor
pub record OthersSoFar (calls : Calls) (stopped : Actor) (k : ℕ) (old new : SoFar) : Type 0 where
  pub publisher : ℕ
  pub seats : List ℕ
  pub width : length seats ≡ k
  pub goes : Goes calls (in_turn publisher seats) old new
  pub stays : turns_by publisher seats stopped ≡ 0
  pub answered : (actor : Actor) → IsOneOf k actor → actor ≢ stopped → ¬ HasCall calls new.at actor

none_first : (calls : Calls) (stopped : Actor) (new : SoFar) → (P ≢ stopped → ¬ HasCall calls new.at P) → (actor : Actor) → IsOneOf 0 actor → actor ≢ stopped → ¬ HasCall calls new.at actor
none_first calls stopped new publisher P one other = publisher other
none_first calls stopped new publisher (Seat s) one other = absurd (omega arith)

no_turns : (n : ℕ) (stopped : Actor) → P ≢ stopped → turns_by n [] stopped ≡ 0
no_turns n P other = absurd (other refl)
no_turns n (Seat s) other = refl

-- the publisher is the stopped actor
pub others_without : (calls : Calls) (so : SoFar) → OthersSoFar calls P 0 so so
others_without calls so = record {
  publisher = 0;
  seats = [];
  width = refl;
  goes = goes_nowhere calls so;
  stays = refl;
  answered = none_first calls P so (λ other. absurd (other refl));
}

-- or it has no call left
pub others_first : (calls : Calls) (stopped : Actor) (old new : SoFar) → P ≢ stopped → GoesAlone calls P old new → ¬ HasCall calls new.at P → OthersSoFar calls stopped 0 old new
others_first calls stopped old new other alone none = record {
  publisher = alone.count;
  seats = [];
  width = refl;
  goes = subst (λ (list : List Actor). Goes calls list old new) (sym (append-nil (replicate alone.count P))) alone.goes;
  stays = no_turns alone.count stopped other;
  answered = none_first calls stopped new (λ _. none);
}

-- the number at a place of a list with one more
last_or_none : (ns : List ℕ) (m s : ℕ) → (slice_index_or (ns ++ m ∷ []) s 0 ≡ slice_index_or ns s 0) ⊎ ((s ≡ length ns) × (slice_index_or (ns ++ m ∷ []) s 0 ≡ m))
last_or_none [] m zero = inr (refl, refl)
last_or_none [] m (suc s) = inl refl
last_or_none (n ∷ ns) m zero = inl refl
last_or_none (n ∷ ns) m (suc s) = elim (last_or_none ns m s) [ inl e ↦ inl e | inr e ↦ inr (ap suc e.0, e.1) ]

stays_more : (p : ℕ) (ns : List ℕ) (m : ℕ) (stopped : Actor) → turns_by p ns stopped ≡ 0 → (Seat (length ns) ≡ stopped → m ≡ 0) → turns_by p (ns ++ m ∷ []) stopped ≡ 0
stays_more p ns m P stays last = stays
stays_more p ns m (Seat s) stays last = elim (last_or_none ns m s) [ inl e ↦ e ∙ stays | inr e ↦ e.1 ∙ last (ap Seat (sym e.0)) ]

answered_more : (calls : Calls) (stopped : Actor) (k : ℕ) (new : SoFar) → ((actor : Actor) → IsOneOf k actor → actor ≢ stopped → ¬ HasCall calls new.at actor)
    → (Seat k ≢ stopped → ¬ HasCall calls new.at (Seat k)) → (actor : Actor) → IsOneOf (k + 1) actor → actor ≢ stopped → ¬ HasCall calls new.at actor
answered_more calls stopped k new before last P one other = before P tt other
answered_more calls stopped k new before last (Seat s) one other = elim (eqb_tells s k) [
  | inl e ↦ subst (λ j. Seat j ≢ stopped → ¬ HasCall calls new.at (Seat j)) (sym e.1) last other
  | inr e ↦ let apart = e.1 in before (Seat s) (omega arith) other
]

-- the next seat is the stopped actor
pub others_past : (calls : Calls) (stopped : Actor) (k : ℕ) (old new : SoFar) → Seat k ≡ stopped → OthersSoFar calls stopped k old new → OthersSoFar calls stopped (k + 1) old new
others_past calls stopped k old new is so = record {
  publisher = so.publisher;
  seats = so.seats ++ 0 ∷ [];
  width = let width = so.width in length-append so.seats (0 ∷ []) ∙ omega arith;
  goes = subst (λ (list : List Actor). Goes calls list old new) (sym (in_turn_more so.publisher so.seats 0 ∙ append-nil (in_turn so.publisher so.seats))) so.goes;
  stays = stays_more so.publisher so.seats 0 stopped so.stays (λ _. refl);
  answered = answered_more calls stopped k new so.answered (λ other. absurd (other is));
}

not_below : (k : ℕ) → ¬ IsOneOf k (Seat k)
not_below k = λ below. (omega arith)

-- or it has no call left
pub others_more : (calls : Calls) (stopped : Actor) (k : ℕ) (old mid new : SoFar) → Seat k ≢ stopped → OthersSoFar calls stopped k old mid → GoesAlone calls (Seat k) mid new
    → ¬ HasCall calls new.at (Seat k) → OthersSoFar calls stopped (k + 1) old new
others_more calls stopped k old mid new other so alone none =
    let own : Seat (length so.seats) ≡ Seat k = ap Seat so.width in
    let apart : (actor : Actor) → IsOneOf k actor → actor ≢ Seat k = λ actor one e. not_below k (subst (λ (a : Actor). IsOneOf k a) e one) in
    record {
      publisher = so.publisher;
      seats = so.seats ++ alone.count ∷ [];
      width = let width = so.width in length-append so.seats (alone.count ∷ []) ∙ omega arith;
      goes = subst (λ (list : List Actor). Goes calls list old new)
          (sym (in_turn_more so.publisher so.seats alone.count ∙ ap (λ (a : Actor). in_turn so.publisher so.seats ++ replicate alone.count a) own))
          (goes_on calls (in_turn so.publisher so.seats) (replicate alone.count (Seat k)) old mid new so.goes alone.goes);
      stays = stays_more so.publisher so.seats alone.count stopped so.stays (λ e. absurd (other (sym own ∙ e)));
      answered = answered_more calls stopped k new
          (λ actor one differs. others_stay calls (Seat k) actor mid new (apart actor one) alone (so.answered actor one differs))
          (λ _. none);
    }

none_there : (calls : Calls) (stopped : Actor) (new : SoFar) → ((actor : Actor) → IsOneOf (length calls.seats) actor → actor ≢ stopped → ¬ HasCall calls new.at actor)
    → (actor : Actor) → actor ≢ stopped → ¬ HasCall calls new.at actor
none_there calls stopped new before P other = before P tt other
none_there calls stopped new before (Seat s) other = λ has. before (Seat s) (slice_get_within calls.seats s has.own has.script_has) other has

-- so all others have none
pub others_finish : (calls : Calls) (stopped : Actor) (k : ℕ) (old new : SoFar) → k ≡ length calls.seats → OthersSoFar calls stopped k old new → FinishesOthers calls stopped old new
others_finish calls stopped k old new all so = record {
  publisher = so.publisher;
  seats = so.seats;
  goes = so.goes;
  stays = so.stays;
  answered = none_there calls stopped new (subst (λ n. (actor : Actor) → IsOneOf n actor → actor ≢ stopped → ¬ HasCall calls new.at actor) all so.answered);
}
