-- What the ring's block and its tokens own. The block lends its memory for a lifetime of its own, whose
-- token it keeps, and a `&` to it shows that the lifetime lasts. An invariant holds the borrow of the
-- words, the readable cells and bytes, a quarter of each token's view, and the log. While a unit's cells
-- and bytes are readable they are shared for a further lifetime, a round, of whose token each reader has
-- one part in 2 ^ 63.
use Rattle.std.specs.Prelude.{◌≡◌, ℕ, zero, suc, ◌+◌, ◌-◌, ◌*◌, ◌^◌, ◌<◌, ◌≤◌, List, [], ◌∷◌, length, take, drop, slice_index_or}
use base.Share.{three_quarters}
use base.Stored.{Gv, Coded, coded×, coded_ℕ, coded_list, coded_via}
use base.Fml.{Lft, Fml, ftrue, fsep, fex, fwand, froom, fbor, flent, flft, fshr_bor, finv, fobs}
use base.Growing.{prefixes, latest, at_least}
use mir.Syntax.{w8, w64, ty_int, ty_array}
use types.SemTy.{SemTy, Body, cells}
use denote.RattleType.{RattleType}
use denote.Array.{Array}
use denote.Builtin.{u8, u64}
use denote.Memory.{mem, part_at, shared_of}
use base.Fraction.{full_share}
use denote.RawPtr.{Ptr, block_ptr}
use denote.Sharing.{nothing, beside, within}
use denote.Slice.{elements_shared}
use Rattle.atomic_table.specs.Seated.{word, fact, seen, roster}
use Rattle.counted_slot.specs.Counting.{parts, idle}
use Rattle.packet_ring.specs.Table.{Access, exclusive, readable, Right, no_right, may_read, may_end, may_write, State, Me}

-- which block it is: how many units it has, how many cells a unit and places for bytes, in eights, how many
-- seats the ring and bytes a packet at most, and what no other block shares with it; `names` has the names of each
-- unit's rounds and of its contents
pub record BlockId : Type 0 where
  pub units : ℕ
  pub width : ℕ
  pub room : ℕ
  pub limits : ℕ × ℕ
  pub views_name : ℕ
  pub log_name : ℕ
  pub atom : ℕ
  pub block : ℕ
  pub offset : ℕ
  pub names : List (ℕ × ℕ)

abbrev pub block_id_coded : Coded BlockId
block_id_coded = coded_via (coded× coded_ℕ (coded× coded_ℕ (coded× coded_ℕ (coded× (coded× coded_ℕ coded_ℕ) (coded× coded_ℕ (coded× coded_ℕ (coded× coded_ℕ (coded× coded_ℕ (coded× coded_ℕ (coded_list (coded× coded_ℕ coded_ℕ)))))))))))
    (λ (z : BlockId). (z.units, (z.width, (z.room, (z.limits, (z.views_name, (z.log_name, (z.atom, (z.block, (z.offset, z.names))))))))))
    (λ x y e i. record { units = (e i).0; width = (e i).1.0; room = (e i).1.1.0; limits = (e i).1.1.1.0; views_name = (e i).1.1.1.1.0; log_name = (e i).1.1.1.1.1.0; atom = (e i).1.1.1.1.1.1.0; block = (e i).1.1.1.1.1.1.1.0; offset = (e i).1.1.1.1.1.1.1.1.0; names = (e i).1.1.1.1.1.1.1.1.1 })

-- the lifetime for which the block lends its memory
abbrev pub block_life : BlockId → Lft
block_life z = z.atom ∷ []

abbrev pub start : BlockId → Ptr
start z = block_ptr z.block z.offset

-- the bytes from one unit to the next: its word and its cells, eight bytes each
abbrev pub stride : BlockId → ℕ
stride z = z.width * 8 + 8

abbrev pub unit_at : BlockId → ℕ → ℕ
unit_at z k = k * stride z + z.offset

-- the places for bytes lie behind all the units, those of one unit behind those of another
abbrev pub bytes_at : BlockId → ℕ → ℕ
bytes_at z k = k * (z.room * 8) + (z.units * stride z + z.offset)

-- how many bytes from the block's start a unit's places for bytes lie
abbrev pub bytes_from : BlockId → ℕ → ℕ
bytes_from z k = k * (z.room * 8) + z.units * stride z

-- words that lie d bytes apart
abbrev pub row : ℕ → ℕ → ℕ → List ℕ → Fml
row d b o [] = ftrue
row d b o (n ∷ ns) = fsep (word b o n) (row d b (o + d) ns)

-- where a unit's cells and its places for bytes lie, how many they are, the lifetime for which they are lent, and the
-- names of their rounds and of their contents
pub record Spot : Type 0 where
  pub life : Lft
  pub width : ℕ
  pub room : ℕ
  pub block : ℕ
  pub offset : ℕ
  pub bytes : ℕ
  pub round_name : ℕ
  pub value_name : ℕ

abbrev pub spot : BlockId → ℕ → Spot
spot z k = record {
  life = block_life z;
  width = z.width;
  room = z.room * 8;
  block = z.block;
  offset = unit_at z k + 8;
  bytes = bytes_at z k;
  round_name = (slice_index_or z.names k (0, 0)).0;
  value_name = (slice_index_or z.names k (0, 0)).1;
}

abbrev pub cells_row : Spot → RattleType
cells_row t = Array u64 t.width

-- so many places for bytes, empty or not
abbrev pub blank : (count block offset : ℕ) → Fml
blank n b o = froom (ty_array (ty_int w8) n) b o

-- a unit's places for bytes, of which the first hold these
abbrev pub bytes_lie : Spot → List ℕ → Fml
bytes_lie t bs = fsep (cells (mem u8) bs t.block t.bytes) (fsep (blank (t.room - length bs) t.block (t.bytes + length bs)) (fact (length bs ≤ t.room)))

-- a unit's contents are its cells, and then the bytes that were written to it
abbrev pub contents : Spot → SemTy
contents t = record {
  rep = List ℕ;
  coded = coded_list coded_ℕ;
  size = t.width * 8;
  own_at = λ x b o. fsep (part_at (cells_row t) full_share (take t.width x) b o) (bytes_lie t (drop t.width x));
}

-- the memory of the cells and bytes, under the name of their contents
abbrev pub held : Spot → Fml
held t = Body (contents t) t.block t.offset t.value_name

-- what a `&mut` to the contents owns, at x
abbrev pub tracked : Spot → List ℕ → Fml
tracked t x = fsep (fobs t.value_name ((contents t).coded.code x)) (fbor t.life (held t))

-- what a `&` to the contents owns, at x
abbrev pub sight : Spot → List ℕ → Lft → Fml
sight t x = beside (shared_of (cells_row t) (take t.width x) t.block t.offset) (elements_shared u8 (drop t.width x) t.block t.bytes)

-- and in the round a
abbrev pub shown : Spot → ℕ → List ℕ → Fml
shown t a x = sight t x (a ∷ t.life)

-- the right to the contents once the round is over
abbrev pub waits : Spot → ℕ → Fml
waits t a = flent (a ∷ t.life) (fbor t.life (held t))

-- a round at the contents x, but for its token
abbrev pub lasting : Spot → ℕ → List ℕ → Fml
lasting t a x = fsep (shown t a x) (fsep (waits t a) (fobs t.value_name ((contents t).coded.code x)))

-- a round with the whole of its token
abbrev pub round : Spot → List ℕ → Fml
round t x = fex ℕ (λ a. fsep (flft (a ∷ []) full_share) (lasting t a x))

-- what a reader has: one part of the token
abbrev pub reader : Spot → List ℕ → Fml
reader t x = fex ℕ (λ a. fsep (parts t.round_name a 1) (shown t a x))

abbrev pub access_at : Spot → Access → Fml
access_at t exclusive = idle t.round_name
access_at t (readable m x) = fex ℕ (λ a. fsep (parts t.round_name a (2 ^ 63 - m)) (lasting t a x))

module _ (z : BlockId) where
  abbrev pub accesses_row : ℕ → List Access → Fml
  accesses_row k [] = ftrue
  accesses_row k (h ∷ hs) = fsep (access_at (spot z k) h) (accesses_row (suc k) hs)

  abbrev pub carried : Right → Fml
  carried no_right = ftrue
  carried (may_read k x) = fsep (fact (k < z.units)) (reader (spot z k) x)
  carried (may_end k x) = fsep (fact (k < z.units)) (round (spot z k) x)
  carried (may_write k x) = fsep (fact (k < z.units)) (tracked (spot z k) x)

  -- what a `&` to the right shows: while one lasts, its holder reads
  abbrev pub carried_shows : Right → Lft → Fml
  carried_shows no_right = nothing
  carried_shows (may_read k x) = within (block_life z) (sight (spot z k) x)
  carried_shows (may_end k x) = nothing
  carried_shows (may_write k x) = nothing

  -- the rights to have the contents of n units back, from the k-th on
  abbrev pub owed : ℕ → ℕ → Fml
  owed k zero = ftrue
  owed k (suc n) = fsep (flent (block_life z) (held (spot z k))) (owed (suc k) n)

-- room for so many bytes, where room for words was
abbrev pub restores : BlockId → Fml
restores z = let n : ℕ = z.units * z.room in let o : ℕ = z.units * stride z + z.offset in fwand (blank (n * 8) z.block o) (froom (ty_array (ty_int w64) n) z.block o)

abbrev pub Placed : Ptr → BlockId → Type 0
Placed p z = (p ≡ start z) × (z.units * stride z + z.units * (z.room * 8) < 2 ^ 63)

-- the log has reached this: it begins with it from then on
abbrev pub reached : {E : Type 0} → Coded E → BlockId → List E → Fml
reached e z l = at_least (prefixes e) z.log_name l

module _ {V E : Type 0} (c : V → Gv) (e : Coded E) where
  abbrev pub mine : BlockId → ℕ → Me V E → Fml
  mine z id me = fsep (seen c z.views_name id three_quarters me.view) (fsep (reached e z me.seen) (carried z me.right))

  -- the tokens from the k-th on, which nobody has taken yet
  abbrev pub waiting : BlockId → ℕ → List V → Fml
  waiting z k [] = ftrue
  waiting z k (v ∷ vs) = fsep (mine z k (record { view = v; right = no_right; seen = [] })) (waiting z (suc k) vs)

  module _ (holds : State V E → Type 0) (p : Ptr) (z : BlockId) where
    abbrev pub Keeps : State V E → Type 0
    Keeps s = holds s × (length s.words ≡ z.units) × (length s.accesses ≡ z.units)

    abbrev pub standing : State V E → Fml
    standing s = fsep (row (stride z) z.block z.offset s.words) (fsep (fsep (accesses_row z 0 s.accesses) (fsep (roster c z.views_name 0 s.views) (latest (prefixes e) full_share z.log_name s.log))) (fact (Keeps s)))

    abbrev pub inner : Fml
    inner = fex (State V E) standing

    abbrev pub common : Fml
    common = fsep (fact (Placed p z)) (finv (fbor (block_life z) inner))

    -- the places for bytes come back as room for words, since they were asked for as such
    abbrev pub rights : Fml
    rights = fsep (flent (block_life z) inner) (fsep (owed z 0 z.units) (restores z))

-- It keeps `holds` in sight as an argument, where `search` can match it
unfoldable pub seal : (X : Type 1) → X → (X → Fml) → Fml
seal X x F = F x

abbrev pub lasts : BlockId → Lft → Fml
lasts z κ = fshr_bor κ (λ q. flft (block_life z) q)

module _ {V E : Type 0} (c : V → Gv) (e : Coded E) (holds : State V E → Type 0) (p : Ptr) (z : BlockId) where
  abbrev pub block_owns : Fml
  block_owns = seal (State V E → Type 0) holds (λ h. fsep (flft (block_life z) full_share) (fsep (common c e h p z) (rights c e h p z)))

  abbrev pub block_shares : Lft → Fml
  block_shares κ = seal (State V E → Type 0) holds (λ h. fsep (lasts z κ) (common c e h p z))
