-- Takes one after another: what they were answered and what was received, after one more that goes on or after one that stops.
use Rattle.std.proofs.Common.{◌≡◌, ℕ, ◌+◌, ◌<◌, ◌≤◌, List, [], ◌∷◌, ◌++◌, length, refl, sym, ◌∙◌, ap, subst, arith, append_assoc, length-append, append-nil, inr}
use Rattle.cursor.specs.declared.packets.Packet.{Packet}
use Rattle.cursor.specs.declared.takes.Delivery.{Delivery}
use Rattle.cursor.specs.declared.takes.Delivery.TheVariants.{Got, Lost, Empty, Ended}
use Rattle.cursor.specs.Account.{received}
use Rattle.cursor.specs.Taps.{Takes, GoesOn, AllGoOn, Stops, IsUpTo}

-- one more take
pub Takes-push : {S : Type 0} (Step : S → Delivery → S → Type 0) (old : S) (ds : List Delivery) (mid : S) (d : Delivery) (new : S)
    → Takes Step old ds mid → Step mid d new → Takes Step old (ds ++ d ∷ []) new
Takes-push {S} Step old [] mid d new run step =
    let P : S → Type 0 = λ s. Step s d new in
    (new, subst P run step, refl)
Takes-push Step old (e ∷ ds) mid d new run step = (run.0, run.1, Takes-push Step run.0 ds mid d new run.2 step)

-- what is received by two lists of answers, one after the other
pub received-append : (ds es : List Delivery) → received (ds ++ es) ≡ received ds ++ received es
received-append [] es = refl
received-append (Got n p ∷ ds) es = ap (λ ps. p ∷ ps) (received-append ds es)
received-append (Lost k ∷ ds) es = received-append ds es
received-append (Empty ∷ ds) es = received-append ds es
received-append (Ended ∷ ds) es = received-append ds es

pub AllGoOn-push : (ds : List Delivery) (d : Delivery) → AllGoOn ds → GoesOn d → AllGoOn (ds ++ d ∷ [])
AllGoOn-push [] d all goes = (goes, tt)
AllGoOn-push (e ∷ ds) d all goes = (all.0, AllGoOn-push ds d all.1 goes)

-- after one more answer that goes on
pub one_more : {S : Type 0} (Step : S → Delivery → S → Type 0) (old mid new : S) (before out out' : List Packet) (n : ℕ) (d : Delivery)
    → ((answers : List Delivery) × Takes Step old answers mid × (length answers ≡ n) × AllGoOn answers × (out ≡ before ++ received answers))
    → Step mid d new → GoesOn d → out' ≡ out ++ received (d ∷ [])
    → (answers : List Delivery) × Takes Step old answers new × (length answers ≡ n + 1) × AllGoOn answers × (out' ≡ before ++ received answers)
one_more Step old mid new before out out' n d h step goes more = (
  h.0 ++ d ∷ [],
  Takes-push Step old h.0 mid d new h.1 step,
  length-append h.0 (d ∷ []) ∙ ap (λ k. k + 1) h.2,
  AllGoOn-push h.0 d h.3 goes,
  more ∙ ap (λ ps. ps ++ received (d ∷ [])) h.4 ∙ append_assoc before (received h.0) (received (d ∷ []))
      ∙ ap (λ ps. before ++ ps) (sym (received-append h.0 (d ∷ []))),
)

-- after the answer that stops
pub last_one : {S : Type 0} (Step : S → Delivery → S → Type 0) (old mid new : S) (before out : List Packet) (n m : ℕ) (d : Delivery)
    → ((answers : List Delivery) × Takes Step old answers mid × (length answers ≡ n) × AllGoOn answers × (out ≡ before ++ received answers))
    → Step mid d new → Stops d → received (d ∷ []) ≡ [] → n < m
    → (answers : List Delivery) × Takes Step old answers new × IsUpTo m answers × (out ≡ before ++ received answers)
last_one Step old mid new before out n m d h step stops none below =
    let long : length (h.0 ++ d ∷ []) ≤ m = rw (length-append h.0 (d ∷ []), h.2) (omega arith) in (
      h.0 ++ d ∷ [],
      Takes-push Step old h.0 mid d new h.1 step,
      inr (h.0, d, refl, h.3, stops, long),
      h.4 ∙ ap (λ ps. before ++ ps) (sym (received-append h.0 (d ∷ []) ∙ ap (λ ps. received h.0 ++ ps) none ∙ append-nil (received h.0))),
    )
