-- The block as plain data, and what one atomic step does to it. A block has units, each with a word,
-- which changes in single steps, and cells, which many may read or one may write; tokens, each with a view, which
-- its own steps alone change; and a log, which only grows.
use Rattle.std.specs.Prelude.{◌≡◌, ℕ, suc, ◌<◌, ◌^◌, List, [], ◌∷◌, ◌++◌, map, length, take, slice_index, slice_set}
use mathlib.Core.Option.{some}
use mathlib.Core.List.{IsPrefix}
use lib.ListN.{get_elem?}
use mathlib.Core.Path.{refl, ap}
use native.Mathlib.Omega.{arith}
use base.Stored.{Coded, coded×, coded_ℕ, coded_list, coded_via}

-- the access to a unit's cells: they are readable, with so many parts of the right to read them out with tokens, or
-- one token alone may write them
pub data Access : Type 0 where
  exclusive : Access
  readable : (parts : ℕ) → (cells : List ℕ) → Access

-- the right that a token has to a unit's cells: none, to read them, to write them, or to write them once
-- the time for which they were shared has ended
pub data Right : Type 0 where
  no_right : Right
  may_read : (unit : ℕ) → (cells : List ℕ) → Right
  may_end : (unit : ℕ) → (cells : List ℕ) → Right
  may_write : (unit : ℕ) → (cells : List ℕ) → Right

-- what a step does to cells: nothing, takes one part of the right to read, gives it back, takes the
-- right to write, or gives it back
pub data Act : Type 0 where
  keeps : Act
  pins : (unit parts : ℕ) → (cells : List ℕ) → Act
  unpins : (parts : ℕ) → (cells : List ℕ) → Act
  begins : (unit : ℕ) → (cells : List ℕ) → Act
  finishes : Act

pub record State (V E : Type 0) : Type 0 where
  pub words : List ℕ
  pub accesses : List Access
  pub views : List V
  pub log : List E

-- a token's view, its right, and a beginning of the log that it has seen
pub record Me (V E : Type 0) : Type 0 where
  pub view : V
  pub right : Right
  pub seen : List E

abbrev pub right_after : Right → Act → Right
right_after r keeps = r
right_after r (pins k m x) = may_read k x
right_after r (unpins m x) = no_right
right_after r (begins k x) = may_end k x
right_after r finishes = no_right

abbrev pub accesses_after : List Access → Right → Act → List Access
accesses_after hs r keeps = hs
accesses_after hs r (pins k m x) = slice_set hs k (readable (suc m) x)
accesses_after hs (may_read k x) (unpins m y) = slice_set hs k (readable m y)
accesses_after hs r (unpins m x) = hs
accesses_after hs r (begins k x) = slice_set hs k exclusive
accesses_after hs (may_end k x) finishes = slice_set hs k (readable 0 x)
accesses_after hs r finishes = hs

-- the act can be done
abbrev pub Valid : List Access → Right → Act → Type 0
Valid hs r keeps = Unit {0}
Valid hs no_right (pins k m x) = (get_elem? hs k ≡ some (readable m x)) × (suc m < 2 ^ 63)
Valid hs (may_read k x) (unpins m y) = (get_elem? hs k ≡ some (readable (suc m) y)) × (suc m < 2 ^ 63)
Valid hs no_right (begins k x) = get_elem? hs k ≡ some (readable 0 x)
Valid hs (may_end k x) finishes = get_elem? hs k ≡ some exclusive
Valid hs r a = ⊥

module _ {V E : Type 0} where
  -- the block after a step of the token `id`: the word i is n, and the token's view is w
  abbrev pub stepped : State V E → (i n id : ℕ) → Right → V → Act → List E → State V E
  stepped s i n id r w a log = record { words = slice_set s.words i n; accesses = accesses_after s.accesses r a; views = slice_set s.views id w; log = log }

  -- Where the word i becomes f of what it was, the token has a new view, an act and a longer log that keep
  -- the rule, `does` holds of the token, of the block before and of the block after, and `then` of the number
  -- found and of the token after
  abbrev pub Goes : (State V E → Type 0) → (ℕ → State V E → State V E → Type 0) → State V E → (id : ℕ) → Me V E → (word : ℕ) → (ℕ → ℕ) → (ℕ → Me V E → Type 0) → Type 0
  Goes holds does s id me i f then =
      (w : V) × (a : Act) × (log : List E) × (seen : List E) × Valid s.accesses me.right a × IsPrefix s.log log × IsPrefix seen log
      × holds (stepped s i (f (slice_index s.words i)) id me.right w a log)
      × does id s (stepped s i (f (slice_index s.words i)) id me.right w a log) × then (slice_index s.words i) (record { view = w; right = right_after me.right a; seen = seen })

  -- So it is whatever the block is
  abbrev pub Allows : (State V E → Type 0) → (ℕ → State V E → State V E → Type 0) → (units : ℕ) → (id : ℕ) → Me V E → (word : ℕ) → (ℕ → ℕ) → (ℕ → Me V E → Type 0) → Type 0
  Allows holds does units id me i f then = (s : State V E) → holds s → length s.words ≡ units → length s.accesses ≡ units → get_elem? s.views id ≡ some me.view → IsPrefix me.seen s.log → slice_index s.words i < 18446744073709551616
      → Goes holds does s id me i f then

  -- So it is whatever the block is in which another token has this view
  abbrev pub AllowsBeside : (State V E → Type 0) → (ℕ → State V E → State V E → Type 0) → (units : ℕ) → (id : ℕ) → Me V E → (other : ℕ) → (view : V) → (word : ℕ) → (ℕ → ℕ) → (ℕ → Me V E → Type 0) → Type 0
  AllowsBeside holds does units id me other view i f then = (s : State V E) → holds s → length s.words ≡ units → length s.accesses ≡ units → get_elem? s.views id ≡ some me.view → get_elem? s.views other ≡ some view → IsPrefix me.seen s.log
      → slice_index s.words i < 18446744073709551616 → Goes holds does s id me i f then

-- a block that keeps the rule, in which the token with this number has this view, and whose log begins with this
pub record IsSighted {V E : Type 0} (holds : State V E → Type 0) (number : ℕ) (view : V) (told : List E) : Type 0 where
  pub block : State V E
  pub kept : holds block
  pub at : get_elem? block.views number ≡ some view
  pub begins : IsPrefix told block.log

-- a unit's word and cells, side by side, one unit after another
abbrev pub flat : List (ℕ × List ℕ) → List ℕ
flat [] = []
flat (u ∷ us) = u.0 ∷ (u.1 ++ flat us)

-- each unit has so many cells
abbrev pub AreWide : (width : ℕ) → List (ℕ × List ℕ) → Type 0
AreWide w [] = Unit {0}
AreWide w (u ∷ us) = (length u.1 ≡ w) × AreWide w us

-- the block at the start
abbrev pub opening : {V E : Type 0} → List (ℕ × List ℕ) → List V → State V E
opening us vs = record { words = map (λ u. u.0) us; accesses = map (λ u. readable 0 u.1) us; views = vs; log = [] }

-- the right to end a round becomes the right to write, once the round is over
abbrev pub settled_right : Right → Right
settled_right (may_end k x) = may_write k x
settled_right r = r

abbrev pub settled : {V E : Type 0} → Me V E → Me V E
settled me = record me { right = settled_right me.right }

-- and the right to write becomes that to end a round, once a new one began
abbrev pub renewed_right : Right → Right
renewed_right (may_write k x) = may_end k x
renewed_right r = r

abbrev pub renewed : {V E : Type 0} → Me V E → Me V E
renewed me = record me { right = renewed_right me.right }

-- the contents that a right is to, as they stand
abbrev pub cells_of : Right → List ℕ
cells_of no_right = []
cells_of (may_read k x) = x
cells_of (may_end k x) = x
cells_of (may_write k x) = x

-- the right to write, once the cell i holds n
abbrev pub written_right : Right → (i n : ℕ) → Right
written_right (may_write k x) i n = may_write k (slice_set x i n)
written_right r i n = r

abbrev pub written : {V E : Type 0} → Me V E → (i n : ℕ) → Me V E
written me i n = record me { right = written_right me.right i n }

-- the right to write, once the contents end with n at the place i
abbrev pub grown_right : Right → (i n : ℕ) → Right
grown_right (may_write k x) i n = may_write k (take i x ++ n ∷ [])
grown_right r i n = r

abbrev pub grown : {V E : Type 0} → Me V E → (i n : ℕ) → Me V E
grown me i n = record me { right = grown_right me.right i n }

-- rights as numbers
abbrev pub right_code : Right → ℕ × (ℕ × List ℕ)
right_code no_right = (0, (0, []))
right_code (may_read k x) = (1, (k, x))
right_code (may_end k x) = (2, (k, x))
right_code (may_write k x) = (3, (k, x))

pub one_right : (r s : Right) → right_code r ≡ right_code s → r ≡ s
one_right no_right no_right e = refl
one_right (may_read k x) (may_read l y) e = λ i. may_read (e i).1.0 (e i).1.1
one_right (may_end k x) (may_end l y) e = λ i. may_end (e i).1.0 (e i).1.1
one_right (may_write k x) (may_write l y) e = λ i. may_write (e i).1.0 (e i).1.1
one_right r s e = let h = ap (λ (u : ℕ × (ℕ × List ℕ)). u.0) e in absurd (omega arith)

abbrev pub right_coded : Coded Right
right_coded = coded_via (coded× coded_ℕ (coded× coded_ℕ (coded_list coded_ℕ))) right_code one_right
