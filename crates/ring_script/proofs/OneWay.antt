-- The turns behind a schedule in which everyone but a stopped actor finishes are the same in each run.
use Rattle.std.proofs.Common.{◌≡◌, ◌≢◌, ℕ, zero, suc, ◌+◌, ◌<◌, ◌≤◌, ◌⊎◌, inl, inr, Some, List, [], ◌∷◌, ◌++◌, length, map, replicate, refl, sym, ◌∙◌, ap, subst, arith, slice_get}
use Rattle.std.specs.Prelude.{slice_index_or}
use Rattle.std.proofs.lemmas.Bool.Decides.{eqb_tells, leb_tells}
use Rattle.std.proofs.lemmas.Option.{slice_get_within}
use Rattle.cursor.proofs.Attachments.{read_other}
use Rattle.ring_steps.specs.declared.calls.Actor.{Actor}
use Rattle.ring_steps.specs.declared.calls.Actor.TheVariants.{P, Seat}
use Rattle.ring_steps.specs.declared.config.Config.{Config}
use Rattle.ring_steps.specs.declared.trace.Trace.{Trace}
use Rattle.ring_steps.specs.Faults.{HasCall, actors}
use Rattle.ring_steps.specs.Making.{in_turn, seats_in_turn, turns_by}
use Rattle.ring_steps.specs.RunningOut.{RunsOut}
use Rattle.ring_steps.specs.Runs.{At, Calls, MoveBy, Ran, Turn, answered, start}
use Rattle.ring_steps.proofs.Choices.{SameRun, runs_alike}
use Rattle.base_syntax.proofs.Lists.{same_cons}

-- an actor's place in the order of turns
abbrev rank : Actor → ℕ
rank P = 0
rank (Seat s) = suc s

one_rank : (a b : Actor) → rank a ≡ rank b → a ≡ b
one_rank P P e = refl
one_rank P (Seat t) e = absurd (omega (arith, e))
one_rank (Seat s) P e = absurd (omega (arith, e))
one_rank (Seat s) (Seat t) e = let same : s ≡ t = omega (arith, e) in ap Seat same

-- none of these stands before this place
abbrev AllFrom : ℕ → List Actor → Type 0
AllFrom n [] = Unit {0}
AllFrom n (a ∷ whose) = (n ≤ rank a) × AllFrom n whose

-- each stands where those before it do, or behind
abbrev InOrder : List Actor → Type 0
InOrder [] = Unit {0}
InOrder (a ∷ whose) = AllFrom (rank a) whose × InOrder whose

-- none of these is that actor
abbrev AllNot : Actor → List Actor → Type 0
AllNot actor [] = Unit {0}
AllNot actor (a ∷ whose) = (a ≢ actor) × AllNot actor whose

from_less : (m n : ℕ) (whose : List Actor) → m ≤ n → AllFrom n whose → AllFrom m whose
from_less m n [] less from = tt
from_less m n (a ∷ whose) less from = let high = from.0 in (omega (arith, less, high), from_less m n whose less from.1)

from_not : (n : ℕ) (actor : Actor) (whose : List Actor) → rank actor < n → AllFrom n whose → AllNot actor whose
from_not n actor [] low from = tt
from_not n actor (a ∷ whose) low from = ((λ e. let same = ap rank e in let high = from.0 in omega (arith, low, same, high)), from_not n actor whose low from.1)

block_from : (n : ℕ) (a : Actor) (whose : List Actor) → AllFrom (rank a) whose → AllFrom (rank a) (replicate n a ++ whose)
block_from zero a whose from = from
block_from (suc n) a whose from = (omega arith, block_from n a whose from)

block_in_order : (n : ℕ) (a : Actor) (whose : List Actor) → AllFrom (rank a) whose → InOrder whose → InOrder (replicate n a ++ whose)
block_in_order zero a whose from order = order
block_in_order (suc n) a whose from order = (block_from n a whose from, block_in_order n a whose from order)

block_not : (n : ℕ) (a actor : Actor) (whose : List Actor) → a ≢ actor → AllNot actor whose → AllNot actor (replicate n a ++ whose)
block_not zero a actor whose other rest = rest
block_not (suc n) a actor whose other rest = (other, block_not n a actor whose other rest)

seats_from : (i : ℕ) (ns : List ℕ) → AllFrom (suc i) (seats_in_turn i ns)
seats_from i [] = tt
seats_from i (n ∷ ns) = block_from n (Seat i) (seats_in_turn (i + 1) ns) (from_less (suc i) (suc (i + 1)) (seats_in_turn (i + 1) ns) (omega arith) (seats_from (i + 1) ns))

seats_in_order : (i : ℕ) (ns : List ℕ) → InOrder (seats_in_turn i ns)
seats_in_order i [] = tt
seats_in_order i (n ∷ ns) =
    block_in_order n (Seat i) (seats_in_turn (i + 1) ns) (from_less (suc i) (suc (i + 1)) (seats_in_turn (i + 1) ns) (omega arith) (seats_from (i + 1) ns)) (seats_in_order (i + 1) ns)

turns_in_order : (n : ℕ) (ns : List ℕ) → InOrder (in_turn n ns)
turns_in_order n ns = block_in_order n P (seats_in_turn 0 ns) (from_less 0 1 (seats_in_turn 0 ns) (omega arith) (seats_from 0 ns)) (seats_in_order 0 ns)

-- a seat that has no turns among these
seats_not : (i : ℕ) (ns : List ℕ) (k : ℕ) → slice_index_or ns k 0 ≡ 0 → AllNot (Seat (i + k)) (seats_in_turn i ns)
seats_not i [] k none = tt
seats_not i (n ∷ ns) zero none =
    let rest = from_not (suc (i + 1)) (Seat (i + 0)) (seats_in_turn (i + 1) ns) (omega arith) (seats_from (i + 1) ns) in
    subst (λ m. AllNot (Seat (i + 0)) (replicate m (Seat i) ++ seats_in_turn (i + 1) ns)) (sym none) rest
seats_not i (n ∷ ns) (suc k) none =
    let further : (i + 1) + k ≡ i + suc k = omega arith in
    let rest = subst (λ s. AllNot (Seat s) (seats_in_turn (i + 1) ns)) further (seats_not (i + 1) ns k none) in
    block_not n (Seat i) (Seat (i + suc k)) (seats_in_turn (i + 1) ns) (λ e. let same = ap rank e in omega (arith, same)) rest

stopped_not : (n : ℕ) (ns : List ℕ) (stopped : Actor) → turns_by n ns stopped ≡ 0 → AllNot stopped (in_turn n ns)
stopped_not n ns P none = subst (λ m. AllNot P (replicate m P ++ seats_in_turn 0 ns)) (sym none) (from_not 1 P (seats_in_turn 0 ns) (omega arith) (seats_from 0 ns))
stopped_not n ns (Seat s) none =
    let same : 0 + s ≡ s = omega arith in
    block_not n P (Seat s) (seats_in_turn 0 ns) (λ e. let ranks = ap rank e in omega (arith, ranks)) (subst (λ t. AllNot (Seat t) (seats_in_turn 0 ns)) same (seats_not 0 ns s none))

-- who makes a turn had a call left
had_call : (actor : Actor) (calls : Calls) (old : At) (t : Turn) (new : At) → MoveBy actor calls old t new → HasCall calls old actor
had_call P calls old t new move = slice_get_within calls.publisher old.publisher move.call move.next
had_call (Seat i) calls old t new move =
    record { own = move.calls; script_has = move.script_has; count = move.count; counted = move.counted; left = slice_get_within move.calls move.count move.call move.next }

-- and the others have still what they had
others_keep : (mover actor : Actor) (calls : Calls) (old : At) (t : Turn) (new : At) → MoveBy mover calls old t new → mover ≢ actor → HasCall calls old actor → HasCall calls new actor
others_keep P P calls old t new move other has = absurd (other refl)
others_keep P (Seat j) calls old t new move other has =
    record { own = has.own; script_has = has.script_has; count = has.count; counted = ap (λ (xs : List ℕ). slice_get xs j) move.seats ∙ has.counted; left = has.left }
others_keep (Seat i) P calls old t new move other has = let same = move.publisher in omega (arith, same, has)
others_keep (Seat i) (Seat j) calls old t new move other has =
    let apart : i ≢ j = λ e. other (ap Seat e) in
    let counted : slice_get new.seats j ≡ Some has.count = ap (λ (xs : List ℕ). slice_get xs j) move.seats ∙ read_other old.seats i j (answered move.count t.answer) apart ∙ has.counted in
    record { own = has.own; script_has = has.script_has; count = has.count; counted = counted; left = has.left }

run_keeps : (calls : Calls) (actor : Actor) (old : At) (ts : List Turn) (end : At) → Ran calls old ts end → AllNot actor (actors ts) → HasCall calls old actor → HasCall calls end actor
run_keeps calls actor old [] end ran none has = subst (λ (a : At). HasCall calls a actor) (sym ran) has
run_keeps calls actor old (t ∷ ts) end ran none has =
    run_keeps calls actor ran.0 ts end ran.2 none.1 (others_keep t.actor actor calls old t ran.0 ran.1 none.0 has)

-- everyone but the stopped actor has no call left
abbrev AllDone : Calls → (stopped : Actor) → At → Type 0
AllDone calls stopped at = (actor : Actor) → actor ≢ stopped → ¬ HasCall calls at actor

-- one turn of the same actor leads to the same
same_turn : (calls : Calls) (old : At) (t u : Turn) (mid other : At) → t.actor ≡ u.actor → MoveBy t.actor calls old t mid → MoveBy u.actor calls old u other → mid ≡ other
same_turn calls old t u mid other by a b = (runs_alike calls old (t ∷ []) (u ∷ []) mid other (mid, a, refl) (other, b, refl) (ap (λ (x : Actor). x ∷ []) by)).ends_same

-- who would go first in one run goes in the other too
early : (calls : Calls) (stopped : Actor) (old : At) (t u : Turn) (us : List Turn) (mid end : At) → MoveBy t.actor calls old t mid → rank t.actor < rank u.actor → t.actor ≢ stopped
    → Ran calls old (u ∷ us) end → AllFrom (rank u.actor) (actors us) → AllDone calls stopped end → ⊥
early calls stopped old t u us mid end move less other ran from done =
    let none : AllNot t.actor (actors (u ∷ us)) = ((λ e. let same = ap rank e in omega (arith, less, same)), from_not (rank u.actor) t.actor (actors us) less from) in
    done t.actor other (run_keeps calls t.actor old (u ∷ us) end ran none (had_call t.actor calls old t mid move))

one_way : (calls : Calls) (stopped : Actor) (old : At) (ts us : List Turn) (end other : At) → Ran calls old ts end → Ran calls old us other → InOrder (actors ts) → InOrder (actors us)
    → AllNot stopped (actors ts) → AllNot stopped (actors us) → AllDone calls stopped end → AllDone calls stopped other → actors ts ≡ actors us
one_way calls stopped old [] [] end other a b order orders none nones done dones = refl
one_way calls stopped old [] (u ∷ us) end other a b order orders none nones done dones =
    absurd (done u.actor nones.0 (subst (λ (at : At). HasCall calls at u.actor) (sym a) (had_call u.actor calls old u b.0 b.1)))
one_way calls stopped old (t ∷ ts) [] end other a b order orders none nones done dones =
    absurd (dones t.actor none.0 (subst (λ (at : At). HasCall calls at t.actor) (sym b) (had_call t.actor calls old t a.0 a.1)))
one_way calls stopped old (t ∷ ts) (u ∷ us) end other a b order orders none nones done dones = elim (leb_tells (rank t.actor) (rank u.actor)) [
  | inl below ↦ elim (leb_tells (rank u.actor) (rank t.actor)) [
    | inl above ↦
        let low = below.1 in
        let high = above.1 in
        let same = one_rank t.actor u.actor (omega (arith, low, high)) in
        let mids = same_turn calls old t u a.0 b.0 same a.1 b.1 in
        let run = subst (λ (mid : At). Ran calls mid us other) (sym mids) b.2 in
        same_cons same (one_way calls stopped a.0 ts us end other a.2 run order.1 orders.1 none.1 nones.1 done dones)
    | inr less ↦ absurd (early calls stopped old t u us a.0 other a.1 less.1 none.0 b orders.0 dones)
  ]
  | inr less ↦ absurd (early calls stopped old u t ts b.0 end b.1 less.1 nones.0 a order.0 done)
]

-- and so behind a schedule
one_way_behind : (calls : Calls) (stopped : Actor) (schedule xs ys : List Actor) (old : At) (ts us : List Turn) (end other : At) → Ran calls old ts end → Ran calls old us other
    → actors ts ≡ schedule ++ xs → actors us ≡ schedule ++ ys → InOrder xs → InOrder ys → AllNot stopped xs → AllNot stopped ys → AllDone calls stopped end → AllDone calls stopped other → xs ≡ ys
one_way_behind calls stopped [] xs ys old ts us end other a b by bys order orders none nones done dones =
    sym by ∙ one_way calls stopped old ts us end other a b (subst InOrder (sym by) order) (subst InOrder (sym bys) orders) (subst (AllNot stopped) (sym by) none) (subst (AllNot stopped) (sym bys) nones) done dones ∙ bys
one_way_behind calls stopped (s ∷ schedule) xs ys old [] us end other a b by bys order orders none nones done dones = absurd (cc)
one_way_behind calls stopped (s ∷ schedule) xs ys old (t ∷ ts) [] end other a b by bys order orders none nones done dones = absurd (cc)
one_way_behind calls stopped (s ∷ schedule) xs ys old (t ∷ ts) (u ∷ us) end other a b by bys order orders none nones done dones =
    let mine : t.actor ≡ s = cc in
    let yours : u.actor ≡ s = cc in
    let rest : actors ts ≡ schedule ++ xs = cc in
    let rests : actors us ≡ schedule ++ ys = cc in
    let mids = same_turn calls old t u a.0 b.0 (mine ∙ sym yours) a.1 b.1 in
    let run = subst (λ (mid : At). Ran calls mid us other) (sym mids) b.2 in
    one_way_behind calls stopped schedule xs ys a.0 ts us end other a.2 run rest rests order orders none nones done dones

pub same_turns_out : (config : Config) (calls : Calls) (schedule : List Actor) (stopped : Actor) (t u : Trace) (a : RunsOut config calls schedule stopped t) (b : RunsOut config calls schedule stopped u)
    → schedule ++ in_turn a.publisher a.seats ≡ schedule ++ in_turn b.publisher b.seats
same_turns_out config calls schedule stopped t u a b =
    let told = a.told in
    let tolds = b.told in
    ap (λ (list : List Actor). schedule ++ list)
    (one_way_behind calls stopped schedule (in_turn a.publisher a.seats) (in_turn b.publisher b.seats) (start config.keep config.seats) told.turns tolds.turns told.end tolds.end told.ran tolds.ran told.by tolds.by
    (turns_in_order a.publisher a.seats) (turns_in_order b.publisher b.seats) (stopped_not a.publisher a.seats stopped a.stays) (stopped_not b.publisher b.seats stopped b.stays) a.answered b.answered)
