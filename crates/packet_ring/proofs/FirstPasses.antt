-- The passes of a new ring.
use Rattle.std.proofs.Common.{◌≡◌, ℕ, suc, ◌+◌, ◌-◌, ◌<◌, List, [], ◌∷◌, ◌++◌, replicate, sym, ap, ◌∙◌, arith}
use Rattle.std.proofs.lemmas.List.{replicate_more}
use mathlib.Core.Logic.{inr}
use Rattle.ring_steps.specs.Ring.{new_seat}
use Rattle.packet_ring.specs.Rule.{View, seat_views}
use Rattle.packet_ring.specs.Steps.{ends_at, seat_of}
use Rattle.packet_ring.specs.Views.{RingId, Passing, new_pass, passing_of}
use Rattle.packet_ring.specs.declared.block.Token.{Token}

abbrev or_first : View → List View → View
or_first v [] = v
or_first v (w ∷ ws) = w

abbrev rest_of : List View → List View
rest_of [] = []
rest_of (w ∷ ws) = ws

one_less : (n k : ℕ) → k < n → seat_views (n - k) ≡ inr new_seat ∷ seat_views (n - (k + 1))
one_less n k lt = let e : n - k ≡ suc (n - (k + 1)) = omega arith in ap seat_views e

-- one of the seats' views, and the rest
pub first_view : (n k : ℕ) → k < n → (vs : List View) (v : View) (ws : List View) → vs ≡ seat_views (n - k) → vs ≡ v ∷ ws → v ≡ inr new_seat
first_view n k lt vs v ws all cut = ap (or_first v) (sym cut ∙ all ∙ one_less n k lt)

pub rest_views : (n k : ℕ) → k < n → (vs : List View) (v : View) (ws : List View) → vs ≡ seat_views (n - k) → vs ≡ v ∷ ws → ws ≡ seat_views (n - (k + 1))
rest_views n k lt vs v ws all cut = ap rest_of (sym cut ∙ all ∙ one_less n k lt)

pub pass_of : (z : RingId) (t : Token) → t.id ≡ z → t.me.view ≡ inr new_seat → t.me.seen ≡ [] → passing_of t 0 ≡ new_pass z
pass_of z t same new none i = record { ring = same i; seen = []; closed = ends_at (none i) 0; loads = (seat_of (new i)).loads; misses = (seat_of (new i)).misses; found = record { length = (seat_of (new i)).seen; closed = (seat_of (new i)).saw_closed } }

pub one_more : (z : RingId) (ps : List Passing) (k : ℕ) (p : Passing) → ps ≡ replicate k (new_pass z) → p ≡ new_pass z → ps ++ p ∷ [] ≡ replicate (k + 1) (new_pass z)
one_more z ps k p are is = ap (λ (u : List Passing × Passing). u.0 ++ u.1 ∷ []) {x = (ps, p)} {y = (replicate k (new_pass z), new_pass z)} (λ i. (are i, is i)) ∙ replicate_more k (new_pass z)
