use Rattle.std.proofs.Common.{◌≡◌, ℕ, ◌+◌, ◌-◌, ◌%◌, ◌≤◌, List, ◌∷◌, length, get_or, take, drop, sym, ap, ◌∙◌, arith, length-take, length-drop}
use Rattle.packet_ring.specs.declared.block.Token.{Token}
use Rattle.packet_ring.specs.Table.{cells_of}
use Rattle.packet_ring.specs.Steps.{HasPacket, next_packet}
use Rattle.packet_ring.proofs.Showing.{shown_packet, shown_within}
use Rattle.packet_ring.proofs.packets.show.Goals as goal

pub lend-bytes-requires-clause-bytes : goal.lend-bytes-requires-clause-bytes
lend-bytes-requires-clause-bytes g c = let x : List ℕ = cells_of c.args.token.now.me.right in let p : List ℕ = next_packet c.args.token.now.me in let has : HasPacket x p = c.requires.packet in let r = c.read.ensures in
    let same : c.read-2.new.token ≡ c.args.token.now = c.read-2.ensures.0 ∙ r.0 in let wide = r.1 in let len : c.read.result ≡ get_or x 0 0 = r.2 in let size = has.size in let seven = c.requires.first.3 in let room = c.requires.room in
    let all : 7 + (get_or x 0 0 - 1) ≤ length x = shown_within x p has room.0 (omega arith) in
    let long : length (cells_of c.read-2.new.token.me.right) ≡ length x = ap (λ (t : Token). length (cells_of t.me.right)) same in let fits = room.1 in (
      c.requires.right.2,
      omega arith,
      c.requires.first.2,
      omega arith,
    )

pub returns-clause-packet : goal.returns-clause-packet
returns-clause-packet g c = let x : List ℕ = cells_of c.args.token.now.me.right in let p : List ℕ = next_packet c.args.token.now.me in let has : HasPacket x p = c.requires.packet in let r = c.read.ensures in let n : ℕ = c.read.result - 1 in
    let same : c.read-2.new.token ≡ c.args.token.now = c.read-2.ensures.0 ∙ r.0 in let wide = r.1 in let len : c.read.result ≡ get_or x 0 0 = r.2 in let size = has.size in let seven = c.requires.first.3 in let room = c.requires.room in
    let second : c.read-2.result ≡ get_or x 1 0 = c.read-2.ensures.2 ∙ ap (λ (t : Token). get_or (cells_of t.me.right) 1 0) r.0 in
    let bs : List ℕ = c.lend-bytes.result.now in let e : bs ≡ take n (drop 7 x) = c.lend-bytes.ensures ∙ (λ i. take n (drop (seven i) (cells_of (same i).me.right))) in
    let all : 7 + (get_or x 0 0 - 1) ≤ length x = shown_within x p has room.0 (omega arith) in
    let long : length bs ≡ n = ap length e ∙ (let l = length-take n (drop 7 x) in let d = length-drop 7 x in omega arith) in (
      bs,
      (λ i. second i % 256 ∷ (e ∙ ap (λ (k : ℕ). take (k - 1) (drop 7 x)) len) i) ∙ shown_packet x p has room.0,
      sym long,
      c.see.ensures.gives,
    )
