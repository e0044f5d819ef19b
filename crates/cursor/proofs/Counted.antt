-- Answers counted into an account, one after another: so the account of a tap after a run of takes has all their answers counted.
use Rattle.std.proofs.Common.{◌≡◌, ℕ, ◌+◌, List, [], ◌∷◌, ◌++◌, length, refl, ◌∙◌, ap, arith, length-append}
use Rattle.cursor.specs.declared.packets.Packet.{Packet}
use Rattle.cursor.specs.declared.takes.Account.{Account}
use Rattle.cursor.specs.declared.takes.Delivery.{Delivery}
use Rattle.cursor.specs.declared.takes.Delivery.TheVariants.{Got, Lost, Empty, Ended}
use Rattle.cursor.specs.Account.{counted, lost, received, with_answers}
use Rattle.cursor.specs.Taps.{Counts, IsUpTo, Takes}
use Rattle.cursor.proofs.Answered.{received-append}

-- accounts with equal counts
pub same_account : (start taken taken' lost lost' : ℕ) → taken ≡ taken' → lost ≡ lost'
    → (let a : Account = record { start = start; taken = taken; lost = lost } in a) ≡ (let b : Account = record { start = start; taken = taken'; lost = lost' } in b)
same_account start taken taken' lost lost' t l =
    ap (λ (n : ℕ). let a : Account = record { start = start; taken = n; lost = lost } in a) t
    ∙ ap (λ (n : ℕ). let a : Account = record { start = start; taken = taken'; lost = n } in a) l

pub lost-append : (ds es : List Delivery) → lost (ds ++ es) ≡ lost ds + lost es
lost-append [] es = omega arith
lost-append (Got n p ∷ ds) es = lost-append ds es
lost-append (Lost k ∷ ds) es = omega (arith, lost-append ds es)
lost-append (Empty ∷ ds) es = lost-append ds es
lost-append (Ended ∷ ds) es = lost-append ds es

pub with_answers-none : (a : Account) → a ≡ with_answers a []
with_answers-none a = same_account a.start a.taken (a.taken + 0) a.lost (a.lost + 0) (omega arith) (omega arith)

pub with_answers-one : (a : Account) (d : Delivery) → counted d a ≡ with_answers a (d ∷ [])
with_answers-one a (Got n p) = same_account a.start (a.taken + 1) (a.taken + 1) a.lost (a.lost + 0) refl (omega arith)
with_answers-one a (Lost k) = same_account a.start a.taken (a.taken + 0) (a.lost + k) (a.lost + (k + 0)) (omega arith) (omega arith)
with_answers-one a Empty = with_answers-none a
with_answers-one a Ended = with_answers-none a

pub with_answers-append : (a : Account) (ds es : List Delivery) → with_answers (with_answers a ds) es ≡ with_answers a (ds ++ es)
with_answers-append a ds es =
    same_account a.start (a.taken + length (received ds) + length (received es)) (a.taken + length (received (ds ++ es))) (a.lost + lost ds + lost es) (a.lost + lost (ds ++ es))
    (rw (received-append ds es) (omega (arith, length-append (received ds) (received es)))) (omega (arith, lost-append ds es))

-- an account that goes on by an answer has it counted
pub Counts-counted : (old : Account) (d : Delivery) (new : Account) → Counts old d new → new ≡ counted d old
Counts-counted old (Got n p) new h = h.1
Counts-counted old (Lost k) new h = h
Counts-counted old Empty new h = h
Counts-counted old Ended new h = h

-- where each take counts its answer, a run of takes counts them all
pub Takes-counts : {S : Type 0} (gives : S → Delivery → S → Type 0) (account : S → Account)
    → ((old : S) (d : Delivery) (new : S) → gives old d new → Counts (account old) d (account new))
    → (old : S) (ds : List Delivery) (new : S) → Takes gives old ds new → account new ≡ with_answers (account old) ds
Takes-counts gives account counts old [] new h = ap account h ∙ with_answers-none (account old)
Takes-counts gives account counts old (d ∷ ds) new h =
    let first = Counts-counted (account old) d (account h.0) (counts old d h.0 h.1) ∙ with_answers-one (account old) d in
    Takes-counts gives account counts h.0 ds new h.2 ∙ ap (λ a. with_answers a ds) first ∙ with_answers-append (account old) (d ∷ []) ds

-- the account of a tap after a run of takes has their answers counted
pub counted_run : {S : Type 0} (gives : S → Delivery → S → Type 0) (account : S → Account)
    → ((old : S) (d : Delivery) (new : S) → gives old d new → Counts (account old) d (account new))
    → (old new : S) (before out : List Packet) (n : ℕ) (result : Account) → result ≡ account new
    → ((answers : List Delivery) × Takes gives old answers new × IsUpTo n answers × (out ≡ before ++ received answers))
    → (answers : List Delivery) × Takes gives old answers new × IsUpTo n answers × (out ≡ before ++ received answers) × (result ≡ with_answers (account old) answers)
counted_run gives account counts old new before out n result e h = (h.0, h.1, h.2, h.3, e ∙ Takes-counts gives account counts old h.0 new h.1)
