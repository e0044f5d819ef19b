-- Addresses and ports at the front of a body.
use Rattle.std.proofs.Common.{◌≡◌, ℕ, suc, ◌+◌, ◌*◌, ◌<◌, ◌≤◌, List, ◌∷◌, ◌++◌, length, take, drop, get_or, sym, ap, ◌∙◌, arith, append_assoc, length-drop, take-append-drop}
use Rattle.std.proofs.Math.Seq.{drop-cons}
use Rattle.std.proofs.lemmas.List.{length-take-le}
use Rattle.proxy_header.specs.Blocks.{HasAddresses}

-- a list from its place of two elements
two_at : (bytes : List ℕ) (i : ℕ) → i + 2 ≤ length bytes → bytes ≡ take i bytes ++ get_or bytes i 0 ∷ get_or bytes (i + 1) 0 ∷ drop (suc (suc i)) bytes
two_at bytes i fits =
    let first : i < length bytes = omega arith in
    let other : suc i < length bytes = omega arith in
    let next : suc i ≡ i + 1 = omega arith in
    sym (take-append-drop i bytes)
    ∙ ap (λ (l : List ℕ). take i bytes ++ l) (drop-cons bytes i 0 first ∙ ap (λ (l : List ℕ). get_or bytes i 0 ∷ l) (drop-cons bytes (suc i) 0 other ∙ ap (λ (n : ℕ). get_or bytes n 0 ∷ drop (suc (suc i)) bytes) next))

pub has_addresses : (width : ℕ) (body address : List ℕ) (port : ℕ) → width + width + 4 ≤ length body → address ≡ take width body
    → port ≡ 256 * get_or (drop width body) width 0 + get_or (drop width body) (width + 1) 0 → HasAddresses width body address port
has_addresses width body address port fits is port_is =
    let rest : List ℕ = drop width body in
    let behind : List ℕ = drop (suc (suc width)) rest in
    let rest_len : width + 4 ≤ length rest = omega (arith, length-drop width body) in
    let whole : body ≡ address ++ (take width rest ++ get_or rest width 0 ∷ get_or rest (width + 1) 0 ∷ (take 2 behind ++ drop 2 behind)) =
    sym (take-append-drop width body)
    ∙ ap (λ (l : List ℕ). take width body ++ l) (two_at rest width (omega arith))
    ∙ ap (λ (l : List ℕ). take width body ++ (take width rest ++ get_or rest width 0 ∷ get_or rest (width + 1) 0 ∷ l)) (sym (take-append-drop 2 behind))
    ∙ ap (λ (l : List ℕ). l ++ (take width rest ++ get_or rest width 0 ∷ get_or rest (width + 1) 0 ∷ (take 2 behind ++ drop 2 behind))) (sym is) in
    record {
      destination = take width rest;
      high = get_or rest width 0;
      low = get_or rest (width + 1) 0;
      own_port = take 2 behind;
      more = drop 2 behind;
      whole = simp append_assoc whole;
      address_len = ap length is ∙ length-take-le width body (omega arith);
      destination_len = length-take-le width rest (omega arith);
      own_port_len = length-take-le 2 behind (omega (arith, length-drop (suc (suc width)) rest));
      port_is = port_is;
    }
