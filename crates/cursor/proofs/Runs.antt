-- The answered calls of a plain log are a run of it, and such a run is one of the broadcast log that it is.
use Rattle.std.proofs.Common.{◌≡◌, ℕ, ◌+◌, ◌<◌, Option, Some, None, List, [], ◌∷◌, ◌++◌, length, take, replicate, map, zero, suc, refl, ap, subst, slice_index_or}
use Rattle.std.specs.Prelude.{option_map}
use Rattle.std.proofs.lemmas.List.{take_more}
use Rattle.cursor.specs.declared.calls.Call.{Call}
use Rattle.cursor.specs.declared.calls.Answer.{Answer}
use Rattle.cursor.specs.Log.{Log, Event, Run}
use Rattle.cursor.specs.Account.{cursor_of}
use Rattle.cursor.specs.Plain.{Plain, PlainRun, Replied, Replies, log_of, made}

-- one more call and its reply
pub Replies-push : (old : Plain) (calls : List Call) (replies : List (Option Answer)) (mid : Plain) (call : Call) (reply : Option Answer) (new : Plain)
    → Replies old calls replies mid → Replied mid call reply new → Replies old (calls ++ call ∷ []) (replies ++ reply ∷ []) new
Replies-push old [] [] mid call reply new h last =
    let P : Plain → Type 0 = λ p. Replied p call reply new in
    (new, subst P h last, refl)
Replies-push old [] (r ∷ rs) mid call reply new h last = absurd h
Replies-push old (c ∷ cs) [] mid call reply new h last = absurd h
Replies-push old (c ∷ cs) (r ∷ rs) mid call reply new h last = (h.0, h.1, Replies-push h.0 cs rs mid call reply new h.2 last)

-- the calls up to one more
pub Replies-more : (old : Plain) (calls : List Call) (n : ℕ) (replies : List (Option Answer)) (mid : Plain) (call : Call) (reply : Option Answer) (new : Plain)
    → n < length calls → call ≡ slice_index_or calls n call
    → Replies old (take n calls) replies mid → Replied mid call reply new → Replies old (take (n + 1) calls) (replies ++ reply ∷ []) new
Replies-more old calls n replies mid call reply new below read h last =
    rw (take_more calls n call below, ← read) (Replies-push old (take n calls) replies mid call reply new h last)

-- what was answered is a run of the plain log
pub PlainRun-made : (old : Plain) (calls : List Call) (replies : List (Option Answer)) (new : Plain) → Replies old calls replies new → PlainRun old (made calls replies) new
PlainRun-made old [] [] new h = h
PlainRun-made old [] (r ∷ rs) new h = absurd h
PlainRun-made old (c ∷ cs) [] new h = absurd h
PlainRun-made old (c ∷ cs) (Some answer ∷ rs) new h = (h.0, h.1.1, PlainRun-made h.0 cs rs new h.2)
PlainRun-made old (c ∷ cs) (None ∷ rs) new h =
    let P : Plain → Type 0 = λ p. PlainRun p (made cs rs) new in
    subst P h.1.1 (PlainRun-made h.0 cs rs new h.2)

-- a run of a plain log is one of the broadcast log that it is
pub Run-log_of : (old : Plain) (events : List Event) (new : Plain) → PlainRun old events new → Run old.keep (log_of old) events (log_of new)
Run-log_of old [] new h = ap log_of h
Run-log_of old (e ∷ es) new h =
    let P : ℕ → Type 0 = λ k. Run k (log_of h.0) es (log_of new) in
    (log_of h.0, h.1.event, subst P h.1.keep (Run-log_of h.0 es new h.2))

-- one run after another
pub Run-append : (keep : ℕ) (old : Log) (xs : List Event) (mid : Log) (ys : List Event) (new : Log)
    → Run keep old xs mid → Run keep mid ys new → Run keep old (xs ++ ys) new
Run-append keep old [] mid ys new run more = let P : Log → Type 0 = λ l. Run keep l ys new in subst P run more
Run-append keep old (x ∷ xs) mid ys new run more = (run.0, run.1, Run-append keep run.0 xs mid ys new run.2 more)

-- free seats have no cursors
pub map-replicate : (n : ℕ) → map (option_map cursor_of) (replicate n None) ≡ replicate n None
map-replicate zero = refl
map-replicate (suc n) = ap (λ cs. None ∷ cs) (map-replicate n)
