-- Where a unit's word, its cells and its bytes lie, as the code reaches them.
use Rattle.std.proofs.Common.{◌≡◌, ℕ, suc, ◌+◌, ◌*◌, ◌^◌, ◌<◌, ◌≤◌, sym, ap, ◌∙◌, subst, arith, suc-mul, mul-le-mul_right, one-mul, refl}
use denote.RawPtr.{Ptr, block_ptr, block_of, count_of, InBlock}
use Rattle.packet_ring.proofs.Contents.{widths}
use Rattle.packet_ring.specs.Lent.{BlockId, unit_at, bytes_at, bytes_from, stride, Placed}

-- the pointer is within a block
pub in_block : (p : Ptr) (z : BlockId) → Placed p z → InBlock p
in_block p z at = subst InBlock (sym at.0) tt

pub reached : (p : Ptr) (z : BlockId) (i at : ℕ) → Placed p z → at ≡ i * (z.width + 1) → block_ptr (block_of p) (at * 8 + count_of p) ≡ block_ptr z.block (unit_at z i)
reached p z i at so is = let bytes : at * 8 ≡ i * stride z = ap (λ (k : ℕ). k * 8) is ∙ sym (widths i z.width) in
    ap (λ (q : Ptr). block_ptr (block_of q) (at * 8 + count_of q)) so.0 ∙ ap (λ (k : ℕ). block_ptr z.block (k + z.offset)) bytes

pub in_reach : (p : Ptr) (z : BlockId) (i at : ℕ) → Placed p z → at ≡ i * (z.width + 1) → i < z.units → at * 8 < 2 ^ 64
in_reach p z i at so is near = let bytes : at * 8 ≡ i * stride z = ap (λ (k : ℕ). k * 8) is ∙ sym (widths i z.width) in let more : ℕ = z.units * (z.room * 8) in let both : z.units * stride z + more < 2 ^ 63 = so.1 in let all : z.units * stride z < 2 ^ 63 = omega arith in
    let m : suc i * stride z ≤ z.units * stride z = mul-le-mul_right (stride z) (let r : suc i ≤ z.units = omega arith in r) in let n : suc i * stride z ≡ i * stride z + stride z = suc-mul i (stride z) in
    let x : ℕ = i * stride z in let y : ℕ = z.units * stride z in let b : at * 8 ≡ x = bytes in let c : x + stride z ≤ y = subst (λ (k : ℕ). k ≤ y) n m in omega arith

pub reached_cell : (p : Ptr) (z : BlockId) (i j at : ℕ) → Placed p z → at ≡ i * (z.width + 1) + 1 + j → block_ptr (block_of p) (at * 8 + count_of p) ≡ block_ptr z.block (j * 8 + (unit_at z i + 8))
reached_cell p z i j at so is = let y : ℕ = i * (z.width + 1) in let x : ℕ = i * stride z in let o : ℕ = z.offset in let bytes : y * 8 ≡ x = sym (widths i z.width) in
    let there : at * 8 + o ≡ j * 8 + (x + o + 8) = (let e : at ≡ y + 1 + j = is in omega arith) in
    ap (λ (q : Ptr). block_ptr (block_of q) (at * 8 + count_of q)) so.0 ∙ ap (λ (k : ℕ). block_ptr z.block k) there

pub cell_in_reach : (p : Ptr) (z : BlockId) (i j at : ℕ) → Placed p z → at ≡ i * (z.width + 1) + 1 + j → j < z.width → i < z.units → at * 8 < 2 ^ 64
cell_in_reach p z i j at so is inside near = let y : ℕ = i * (z.width + 1) in let x : ℕ = i * stride z in let u : ℕ = z.units * stride z in let d : ℕ = stride z in
    let bytes : y * 8 ≡ x = sym (widths i z.width) in let more : ℕ = z.units * (z.room * 8) in let both : u + more < 2 ^ 63 = so.1 in let all : u < 2 ^ 63 = omega arith in let m : suc i * d ≤ u = mul-le-mul_right d (let r : suc i ≤ z.units = omega arith in r) in
    let c : x + d ≤ u = subst (λ (k : ℕ). k ≤ u) (suc-mul i d) m in let e : at ≡ y + 1 + j = is in let w : d ≡ z.width * 8 + 8 = refl in omega arith

pub reached_byte : (p : Ptr) (z : BlockId) (i j at : ℕ) → Placed p z → at ≡ bytes_from z i + j → block_ptr (block_of p) (at + count_of p) ≡ block_ptr z.block (bytes_at z i + j)
reached_byte p z i j at so is = let x : ℕ = i * (z.room * 8) in let y : ℕ = z.units * stride z in let o : ℕ = z.offset in let there : at + o ≡ x + (y + o) + j = (let e : at ≡ x + y + j = is in omega arith) in
    ap (λ (q : Ptr). block_ptr (block_of q) (at + count_of q)) so.0 ∙ ap (λ (k : ℕ). block_ptr z.block k) there

pub reached_start : (p : Ptr) (z : BlockId) (i at : ℕ) → Placed p z → at ≡ bytes_from z i → block_ptr (block_of p) (at + count_of p) ≡ block_ptr z.block (bytes_at z i)
reached_start p z i at so is = let x : ℕ = i * (z.room * 8) in let y : ℕ = z.units * stride z in let o : ℕ = z.offset in let there : at + o ≡ x + (y + o) = (let e : at ≡ x + y = is in omega arith) in
    ap (λ (q : Ptr). block_ptr (block_of q) (at + count_of q)) so.0 ∙ ap (λ (k : ℕ). block_ptr z.block k) there

-- a unit's bytes are fewer than 2 ^ 63
pub bytes_fit : (p : Ptr) (z : BlockId) (i n m : ℕ) → Placed p z → i < z.units → n ≤ z.room * 8 → m ≡ n → m * 1 < 2 ^ 63
bytes_fit p z i n m so near le is = let r : ℕ = z.room * 8 in let y : ℕ = z.units * stride z in let u : ℕ = z.units * r in let both : y + u < 2 ^ 63 = so.1 in let some : 1 * r ≤ u = mul-le-mul_right r (let l : 1 ≤ z.units = omega arith in l) in
    let one : 1 * r ≡ r = one-mul r in omega arith
