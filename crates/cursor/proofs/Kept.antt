-- What a seat received is the log from its start to its cursor, without the numbers that lie in its losses.
use Rattle.std.proofs.Common.{◌≡◌, ℕ, ◌+◌, ◌-◌, ◌<◌, ◌≤◌, true, false, Some, List, [], ◌∷◌, zero, suc, length, drop, refl, sym, ◌∙◌, ap, arith, slice_get, slice_range, inl, inr}
use Rattle.std.specs.List.{list_any}
use Rattle.std.proofs.lemmas.List.{drop_more}
use Rattle.std.proofs.lemmas.Option.{slice_get_cases}
use Rattle.cursor.specs.declared.packets.Packet.{Packet}
use Rattle.cursor.specs.declared.takes.Delivery.{Delivery}
use Rattle.cursor.specs.declared.takes.Delivery.TheVariants.{Got, Lost, Empty, Ended}
use Rattle.cursor.specs.Account.{Loss, lies_in, losses, lost, received, without}
use Rattle.cursor.proofs.Attachments.{Settles, Settles-adds, Settles-within}
use Rattle.cursor.proofs.Positions.{lies_below, lies_past, lies_within}

-- a number below the cursor lies in no later loss
pub lost_below : (packets : List Packet) (c : ℕ) (ds : List Delivery) (e n : ℕ) → Settles packets c ds e → n < c → list_any (lies_in n) (losses c ds) ≡ false
lost_below packets c [] e n h below = refl
lost_below packets c (Got m p ∷ ds) e n h below = lost_below packets (c + 1) ds e n h.2 (omega arith)
lost_below packets c (Lost k ∷ ds) e n h below = rw (lies_below n c k below) (lost_below packets (c + k) ds e n h (omega arith))
lost_below packets c (Empty ∷ ds) e n h below = lost_below packets c ds e n h below
lost_below packets c (Ended ∷ ds) e n h below = lost_below packets c ds e n h below

-- the first packet of a range, and the others
pub range_more : (packets : List Packet) (c e : ℕ) → c < e → e ≤ length packets
    → (p : Packet) × (slice_get packets c ≡ Some p) × (slice_range packets c e ≡ p ∷ slice_range packets (c + 1) e)
range_more packets c e below within =
    elim (slice_get_cases packets c).1 [
      | inl h ↦
          let more : drop c packets ≡ h.0 ∷ drop (c + 1) packets = drop_more packets c h.0 h.1 ∙ ap (λ p. p ∷ drop (c + 1) packets) h.3 in
          let count : e - c ≡ suc (e - (c + 1)) = omega arith in
          (h.0, h.2, rw (more, count) refl)
      | inr h ↦ let past = h.0 in absurd (omega arith)
    ]

-- a packet whose number is lost, and one whose number isn't
pub without-lost : (ls : List Loss) (n : ℕ) (p : Packet) (ps : List Packet) → list_any (lies_in n) ls ≡ true → without ls n (p ∷ ps) ≡ without ls (n + 1) ps
without-lost ls n p ps h = rw h refl

pub without-kept : (ls : List Loss) (n : ℕ) (p : Packet) (ps : List Packet) → list_any (lies_in n) ls ≡ false → without ls n (p ∷ ps) ≡ p ∷ without ls (n + 1) ps
without-kept ls n p ps h = rw h refl

-- a range that begins with k lost numbers
pub without-skip : (ls : List Loss) (packets : List Packet) (k c e : ℕ) → ((n : ℕ) → c ≤ n → n < c + k → list_any (lies_in n) ls ≡ true)
    → c + k ≤ e → e ≤ length packets → without ls c (slice_range packets c e) ≡ without ls (c + k) (slice_range packets (c + k) e)
without-skip ls packets zero c e all below within =
    let same : c + 0 ≡ c = omega arith in
    rw same refl
without-skip ls packets (suc k) c e all below within =
    let first = range_more packets c e (omega arith) within in
    let same : c + suc k ≡ (c + 1) + k = omega arith in
    let others = without-skip ls packets k (c + 1) e (λ n above under. all n (omega arith) (omega arith)) (omega arith) within in
    ap (λ ps. without ls c ps) first.2 ∙ without-lost ls c first.0 (slice_range packets (c + 1) e) (all c (omega arith) (omega arith))
    ∙ others ∙ ap (λ m. without ls m (slice_range packets m e)) (sym same)

-- what was received is the range without the lost numbers, for losses that agree with the later ones from the cursor on
pub received-without : (packets : List Packet) (c : ℕ) (ds : List Delivery) (e : ℕ) → Settles packets c ds e
    → (ls : List Loss) → ((n : ℕ) → c ≤ n → list_any (lies_in n) ls ≡ list_any (lies_in n) (losses c ds))
    → received ds ≡ without ls c (slice_range packets c e)
received-without packets c [] e h ls agree =
    let none : e - c ≡ 0 = let at = h.0 in omega arith in
    rw none refl
received-without packets c (Got n p ∷ ds) e h ls agree =
    let more : e ≡ c + 1 + length (received ds) + lost ds = Settles-adds packets (c + 1) ds e h.2 in
    let first = range_more packets c e (omega arith) (Settles-within packets (c + 1) ds e h.2) in
    let same : first.0 ≡ p = let was = h.1 in let is = first.1 in cc in
    let kept : list_any (lies_in c) ls ≡ false = agree c (omega arith) ∙ lost_below packets (c + 1) ds e c h.2 (omega arith) in
    let others = received-without packets (c + 1) ds e h.2 ls (λ m above. agree m (omega arith)) in
    sym (ap (λ ps. without ls c ps) first.2 ∙ without-kept ls c first.0 (slice_range packets (c + 1) e) kept
    ∙ ap (λ q. q ∷ without ls (c + 1) (slice_range packets (c + 1) e)) same ∙ ap (λ ps. p ∷ ps) (sym others))
received-without packets c (Lost k ∷ ds) e h ls agree =
    let more : e ≡ c + k + length (received ds) + lost ds = Settles-adds packets (c + k) ds e h in
    let skipped = without-skip ls packets k c e (λ n above below. agree n above ∙ rw (lies_within n c k above below) refl) (omega arith) (Settles-within packets (c + k) ds e h) in
    let later : (n : ℕ) → c + k ≤ n → list_any (lies_in n) ls ≡ list_any (lies_in n) (losses (c + k) ds) =
    λ n above. agree n (omega arith) ∙ rw (lies_past n c k above) refl in
    received-without packets (c + k) ds e h ls later ∙ sym skipped
received-without packets c (Empty ∷ ds) e h ls agree = received-without packets c ds e h ls agree
received-without packets c (Ended ∷ ds) e h ls agree = received-without packets c ds e h ls agree
