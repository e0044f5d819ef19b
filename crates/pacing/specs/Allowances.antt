-- For how long a publisher may wait, in microseconds. Time is cut into windows of 50 milliseconds, counted from 5.
use Rattle.std.specs.Prelude.{ℕ, List, [], ◌∷◌, ◌≤◌, ◌+◌, ◌-◌, ◌/◌, ◌^◌, max, min, nat_le, slice_index, if◌then◌else◌}
use Rattle.pacing.specs.declared.allowance.Allowance.{Allowance}

-- the window of a moment
abbrev pub window_of : (moment : ℕ) → ℕ
window_of moment = moment / 50000 + 5

-- what was waited in a window: it is known of the last one in which a wait ended, and of the four before; after it nothing was
abbrev pub waited_in : Allowance → (window : ℕ) → ℕ
waited_in allowance window = if nat_le window allowance.window then slice_index allowance.waited (allowance.window - window) else 0

-- the window that a wait counts in: that of its end, or the last one that is known, where a clock went back
abbrev pub counted_in : Allowance → (ended : ℕ) → ℕ
counted_in allowance ended = max allowance.window (window_of ended)

-- what was waited in this window and in the four before
abbrev pub waited_up_to : Allowance → (window : ℕ) → ℕ
waited_up_to allowance window = waited_in allowance window + waited_in allowance (window - 1) + waited_in allowance (window - 2) + waited_in allowance (window - 3) + waited_in allowance (window - 4)

-- 20 milliseconds less what was waited in this moment's window, or the last one that is known, and in the four before; so no
-- more is waited in any 200 milliseconds, which lie in five windows
abbrev pub left_at : Allowance → (now : ℕ) → ℕ
left_at allowance now = 20000 - waited_up_to allowance (counted_in allowance now)

-- what is known of the windows once a wait of such a length counted in this one, the last window first
abbrev pub spent : Allowance → (window length : ℕ) → List ℕ
spent allowance window length = min (waited_in allowance window + length) (2 ^ 64 - 1) ∷ waited_in allowance (window - 1) ∷ waited_in allowance (window - 2) ∷ waited_in allowance (window - 3) ∷ waited_in allowance (window - 4) ∷ []

-- in the last window that is known and the four before no more was waited than 20 milliseconds
abbrev pub IsWithin : Allowance → Type 0
IsWithin allowance = waited_up_to allowance allowance.window ≤ 20000
