-- A block may be shared, and a token may go to another thread.
use Rattle.std.proofs.Common.{ℕ, zero, suc, ◌+◌, List, [], ◌∷◌, take, drop}
use base.Fraction.{full_share}
use base.Growing.{latest, at_least, prefixes}
use base.Stored.{Gv, Coded}
use base.Fml.{Lft, Share}
use base.Shift.{Keyless}
use denote.RawPtr.{Ptr}
use denote.Builtin.{u8, u64}
use denote.Memory.{mem}
use denote.Slice.{elements_shared}
use types.SemTy.{cells}
use denote.Param.Send.{IsSend, IsSync, sendable, part_keyless, array_send, array_sync}
use types.Keyed.{entry_keyless}
use Rattle.atomic_table.specs.Seated.{halved}
use Rattle.atomic_table.proofs.Sent.{roster_keyless}
use Rattle.packet_ring.specs.Table.{Access, exclusive, readable, Right, no_right, may_read, may_end, may_write, State, Me}
use Rattle.packet_ring.specs.Lent.{BlockId, Spot, spot, row, cells_row, held, shown, lasting, access_at, accesses_row, carried, owed, mine, waiting, inner, block_owns, block_shares}

row_Keyless : (d b o : ℕ) (ns : List ℕ) → Keyless (row d b o ns)
row_Keyless d b o [] = tt
row_Keyless d b o (n ∷ ns) = (tt, row_Keyless d b (o + d) ns)

byte_sent : IsSend u8
byte_sent = search sendable depth 20

byte_seen : IsSync u8
byte_seen = search sendable depth 20

bytes_keyless : (bs : List ℕ) (b o : ℕ) → Keyless (cells (mem u8) bs b o)
bytes_keyless [] b o = tt
bytes_keyless (x ∷ bs) b o = (part_keyless u8 byte_sent full_share x b o, bytes_keyless bs b (o + 1))

shares_keyless : (bs : List ℕ) (b o : ℕ) (κ : Lft) → Keyless (elements_shared u8 bs b o κ)
shares_keyless [] b o κ = tt
shares_keyless (x ∷ bs) b o κ = (byte_seen.shared x b o κ, shares_keyless bs b (o + 1) κ)

module _ (t : Spot) where
  sent : IsSend (cells_row t)
  sent = array_send u64 t.width (search sendable depth 20)

  seen : IsSync (cells_row t)
  seen = array_sync u64 t.width (search sendable depth 20)

  held_keyless : Keyless (held t)
  held_keyless = λ x. ((part_keyless (cells_row t) sent full_share (take t.width x) t.block t.offset, (bytes_keyless (drop t.width x) t.block t.bytes, (tt, λ _. tt))), tt)

  shown_keyless : (a : ℕ) (x : List ℕ) → Keyless (shown t a x)
  shown_keyless a x = (seen.shared (take t.width x) t.block t.offset (a ∷ t.life), shares_keyless (drop t.width x) t.block t.bytes (a ∷ t.life))

  lasting_keyless : (a : ℕ) (x : List ℕ) → Keyless (lasting t a x)
  lasting_keyless a x = (shown_keyless a x, (held_keyless, tt))

  access_keyless : (h : Access) → Keyless (access_at t h)
  access_keyless exclusive = λ c. tt
  access_keyless (readable m x) = λ a. ((λ e c. (tt, tt)), lasting_keyless a x)

module _ (z : BlockId) where
  accesses_row_keyless : (k : ℕ) (hs : List Access) → Keyless (accesses_row z k hs)
  accesses_row_keyless k [] = tt
  accesses_row_keyless k (h ∷ hs) = (access_keyless (spot z k) h, accesses_row_keyless (suc k) hs)

  owed_keyless : (k n : ℕ) → Keyless (owed z k n)
  owed_keyless k zero = tt
  owed_keyless k (suc n) = (held_keyless (spot z k), owed_keyless (suc k) n)

  carried_keyless : (r : Right) → Keyless (carried z r)
  carried_keyless no_right = tt
  carried_keyless (may_read k x) = ((λ _. tt), λ a. ((λ e c. (tt, tt)), shown_keyless (spot z k) a x))
  carried_keyless (may_end k x) = ((λ _. tt), λ a. (tt, lasting_keyless (spot z k) a x))
  carried_keyless (may_write k x) = ((λ _. tt), (tt, held_keyless (spot z k)))

  module _ {V E : Type 0} (c : V → Gv) (e : Coded E) where
    latest_keyless : (q : Share) (l : List E) → Keyless (latest (prefixes e) q z.log_name l)
    unfolding latest
    latest_keyless q l = tt

    past_keyless : (l : List E) → Keyless (at_least (prefixes e) z.log_name l)
    unfolding at_least
    past_keyless l = tt

    pub mine_keyless : (id : ℕ) (me : Me V E) → Keyless (mine c e z id me)
    mine_keyless id me = (entry_keyless halved z.views_name id _, (past_keyless me.seen, carried_keyless me.right))

    pub waiting_keyless : (k : ℕ) (vs : List V) → Keyless (waiting c e z k vs)
    waiting_keyless k [] = tt
    waiting_keyless k (v ∷ vs) = (mine_keyless k (record { view = v; right = no_right; seen = [] }), waiting_keyless (suc k) vs)

    module _ (holds : State V E → Type 0) (p : Ptr) where
      inner_keyless : Keyless (inner c e holds p z)
      inner_keyless = λ s. (row_Keyless _ _ _ s.words, ((accesses_row_keyless 0 s.accesses, (roster_keyless c z.views_name 0 s.views, latest_keyless full_share s.log)), λ _. tt))

      pub owns_keyless : Keyless (block_owns c e holds p z)
      unfolding Rattle.packet_ring.specs.Lent.seal
      owns_keyless = (tt, (((λ _. tt), inner_keyless), (inner_keyless, (owed_keyless 0 z.units, (tt, tt)))))

      pub block_keyless : (ν : Lft) → Keyless (block_shares c e holds p z ν)
      unfolding Rattle.packet_ring.specs.Lent.seal
      block_keyless ν = ((λ _. tt), ((λ _. tt), inner_keyless))
