-- A ring's words lie in lines of their own.
use Rattle.std.proofs.Common.{mul-le-mul, ◌≡◌, ℕ, suc, ◌+◌, ◌*◌, ◌%◌, ◌≤◌, suc-mul, arith}
use Rattle.std.proofs.Math.Nat.{mul-le-mul_right}
use Rattle.packet_ring.specs.Lent.{stride}
use Rattle.packet_ring.specs.Views.{HasOwnLines, RingId, block_bytes}

-- units that are a whole number of 64 bytes wide
pub own_lines : (z : RingId) → 8 * (z.width + 1) % 64 ≡ 0 → HasOwnLines z
own_lines z whole address i j before = let d : ℕ = stride z in let x : ℕ = i * d in let y : ℕ = j * d in
    let wide : 64 ≤ d = omega arith in let next : suc i * d ≡ x + d = suc-mul i d in let far : suc i * d ≤ y = mul-le-mul_right d before in
    let apart : address + (x + z.offset) + 64 ≤ address + (y + z.offset) = omega arith in omega arith

-- so many units, each of so many bytes at most
pub few_bytes : (z : RingId) → {n m : ℕ} → z.units ≡ n → 8 * (z.width + 1 + z.room) ≤ m → block_bytes z ≤ n * m
few_bytes z {n} {m} many narrow = let few : z.units ≤ n = omega arith in mul-le-mul few narrow
