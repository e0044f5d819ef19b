-- The players of a writer as they come and leave, and which of them a sweep passes over.
use Rattle.std.proofs.Common.{◌≡◌, ◌≢◌, ◌≤◌, ◌∙◌, ◌+◌, ap, arith, rules, subst, sym, inl, inr, ℕ, None, Some, List, All, length, slice_get}
use Rattle.std.proofs.lemmas.Bool.Decides.{eqb_tells}
use Rattle.std.proofs.lemmas.Option.{slice_get_cases, slice_get_within}
use Rattle.relay_fanout.specs.declared.sending.player_list.Listed.{Listed}
use Rattle.relay_fanout.specs.PlayerLists.{ArePassed, CameBefore, HasTurn, IsPassed}

-- who came before one change came before each later one
pub CameBefore-later : {P : Type 0} (sooner later : ℕ) (listed : List (Listed P)) → sooner ≤ later → All (CameBefore sooner) listed → All (CameBefore later) listed
CameBefore-later sooner later listed order came k d inside = omega (arith, came k d inside, order)

-- where each has another turn, nobody has this one
pub nobody-has : {P : Type 0} (turn : ℕ) (listed : List (Listed P)) → All (λ entry. entry.turn ≢ turn) listed → HasTurn listed turn → ⊥
nobody-has turn listed others somebody = others somebody.0 somebody.1 somebody.2 (ap (λ entry. entry.turn) somebody.3 ∙ somebody.4)

-- nobody is passed over yet
pub ArePassed-none : {P : Type 0} (were_woken : P → ℕ → Type 0) (from : ℕ) (listed : List (Listed P)) → ArePassed were_woken from from listed
ArePassed-none were_woken from listed place entry after before is = absurd (omega (arith, after, before))

-- one more is passed over
pub ArePassed-and : {P : Type 0} (were_woken : P → ℕ → Type 0) (from to : ℕ) (listed : List (Listed P)) (next : Listed P) → slice_get listed to ≡ Some next
    → IsPassed were_woken next → ArePassed were_woken from to listed → ArePassed were_woken from (to + 1) listed
ArePassed-and {P} were_woken from to listed next is passed so_far place entry after before inside =
    elim (eqb_tells place to) [
      | inl here ↦
          let both : Some next ≡ Some entry = sym is ∙ ap (slice_get listed) (sym here.1) ∙ inside in
          let same : next ≡ entry = search (rules, both) in
          subst (IsPassed were_woken) same passed
      | inr elsewhere ↦ so_far place entry after (omega (arith, before, elsewhere.1)) inside
    ]

-- all are passed over from there on where the list has no more
pub ArePassed-all : {P : Type 0} (were_woken : P → ℕ → Type 0) (from to last : ℕ) (listed : List (Listed P)) → length listed ≤ to → ArePassed were_woken from to listed
    → ArePassed were_woken from last listed
ArePassed-all were_woken from to last listed far so_far place entry after before inside = so_far place entry after (omega (arith, slice_get_within listed place entry inside, far)) inside

-- all to the list's end are passed over where it has nobody at the next place
pub ArePassed-to_end : {P : Type 0} (were_woken : P → ℕ → Type 0) (from to : ℕ) (listed : List (Listed P)) → slice_get listed to ≡ None → ArePassed were_woken from to listed
    → ArePassed were_woken from (length listed) listed
ArePassed-to_end were_woken from to listed nobody so_far =
    elim (slice_get_cases listed to).1 [
      | inl somebody ↦ absurd (search (rules, sym nobody ∙ somebody.2))
      | inr past ↦ ArePassed-all were_woken from to (length listed) listed past.0 so_far
    ]
