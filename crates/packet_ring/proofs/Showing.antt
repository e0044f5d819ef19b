-- The packet in a unit is its tag and the first of its bytes.
use Rattle.std.proofs.Common.{◌≡◌, ℕ, suc, ◌+◌, ◌-◌, ◌%◌, ◌≤◌, List, ◌∷◌, length, get_or, take, drop, ap, ◌∙◌, arith, length-take, length-drop}
use Rattle.packet_ring.specs.Rule.{bytes_of}
use Rattle.packet_ring.specs.Steps.{HasPacket}

module _ (x p : List ℕ) (has : HasPacket x p) (some : 1 ≤ length p) where
  pub shown_packet : get_or x 1 0 % 256 ∷ take (get_or x 0 0 - 1) (drop 7 x) ≡ p
  shown_packet = let n : ℕ = get_or x 0 0 - 1 in let size = has.size in let e : suc n ≡ length p = omega arith in ap (λ (k : ℕ). take k (bytes_of x)) e ∙ has.bytes

  pub shown_within : 7 ≤ length x → 7 + (get_or x 0 0 - 1) ≤ length x
  shown_within wide = let size = has.size in let l = length-take (length p) (bytes_of x) in let d = length-drop 7 x in let e : length (take (length p) (bytes_of x)) ≡ length p = ap length has.bytes in omega arith
