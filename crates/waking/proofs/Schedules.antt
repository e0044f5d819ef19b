-- Each step of the machine keeps the invariant for each player, and so does each schedule.
use Rattle.std.proofs.Common.{◌≡◌, ◌≢◌, ℕ, ◌⊎◌, List, [], ◌∷◌, ap, sym, subst, ◌∙◌, inl, inr, arith}
use Rattle.std.proofs.lemmas.Bool.Decides.{eqb_tells}
use Rattle.waking.specs.Machine.{Act, LookStep, May, MaySweep, Mount, MountStep, Player, PlayerStep, Ran, SweepStep, State, Words, Writer, after, asleep, at_mount, at_player, begins, calls, clears, ends, ends_sweep, sweeps_again, in_sweep, looks_at, mount_after, player_after, player_after_look, player_after_sweep, put, raises_once, returns, sleeps, start, words_after_mount, words_after_player, writer_after_look, writer_after_player, writer_after_sweep}
use Rattle.waking.specs.Laws.{IsRemembered, View, view_of}
use Rattle.waking.proofs.Invariant.{AllSound, Sound}
use Rattle.waking.proofs.Keeping.{fellow_keeps, look_beside_keeps, look_keeps, mount_keeps, other_mount_keeps, other_player_keeps, player_keeps}
use Rattle.waking.proofs.Players.{again_keeps, begin_keeps, call_keeps, clear_keeps, end_keeps, raise_once_keeps, return_keeps, sleep_keeps}

-- what holds of the one that changed, and of another one as it was, holds of each
put_keeps : {A : Type 0} (P : A → Type 0) (all : ℕ → A) (number : ℕ) (it : A) (other : ℕ)
    → (number ≡ other → P it) → (number ≢ other → P (all other)) → P (put all number it other)
put_keeps P all number it other same apart =
    elim (eqb_tells number other) [
      | inl it_is ↦ rw it_is.0 (same it_is.1)
      | inr it_isnt ↦ rw it_isnt.0 (apart it_isnt.1)
    ]

mount_step : (mount : ℕ) (step : MountStep) (s : State) → AllSound s → May (at_mount mount step) s → AllSound (after (at_mount mount step) s)
mount_step mount step s h may p =
    let words = words_after_mount step s.words in
    put_keeps (λ (m : Mount). Sound (record { number = p; words = words; mount = m; player = s.players p; writer = s.writers (s.writer_of p) }))
    s.mounts mount (mount_after step (s.mounts mount)) (s.mount_of p)
    (λ same.
    let v : View = record { number = p; words = s.words; mount = s.mounts mount; player = s.players p; writer = s.writers (s.writer_of p) } in
    mount_keeps step v
    (subst (λ (k : ℕ). Sound (record { number = p; words = s.words; mount = s.mounts k; player = s.players p; writer = s.writers (s.writer_of p) })) (sym same) (h p))
    may)
    (λ apart. other_mount_keeps step (view_of s p) (h p))

-- the same for a player and its writer, where the step at them is known to keep it
both_keep : (s : State) (q p : ℕ) (words : Words) (player : Player) (writer : Writer)
    → Sound (record { number = q; words = words; mount = s.mounts (s.mount_of q); player = player; writer = writer })
    → (q ≢ p → s.writer_of q ≡ s.writer_of p → Sound (record { number = p; words = words; mount = s.mounts (s.mount_of p); player = s.players p; writer = writer }))
    → Sound (record { number = p; words = words; mount = s.mounts (s.mount_of p); player = s.players p; writer = s.writers (s.writer_of p) })
    → Sound (record {
      number = p;
      words = words;
      mount = s.mounts (s.mount_of p);
      player = put s.players q player p;
      writer = put s.writers (s.writer_of q) writer (s.writer_of p);
    })
both_keep s q p words player writer own fellow other =
    put_keeps (λ (x : Player). Sound (record { number = p; words = words; mount = s.mounts (s.mount_of p); player = x; writer = put s.writers (s.writer_of q) writer (s.writer_of p) }))
    s.players q player p
    (λ same.
    put_keeps (λ (y : Writer). Sound (record { number = p; words = words; mount = s.mounts (s.mount_of p); player = player; writer = y }))
    s.writers (s.writer_of q) writer (s.writer_of p)
    (λ too. subst (λ (k : ℕ). Sound (record { number = k; words = words; mount = s.mounts (s.mount_of k); player = player; writer = writer })) same own)
    (λ apart. absurd (apart (ap s.writer_of same))))
    (λ differs.
    put_keeps (λ (y : Writer). Sound (record { number = p; words = words; mount = s.mounts (s.mount_of p); player = s.players p; writer = y }))
    s.writers (s.writer_of q) writer (s.writer_of p)
    (fellow differs)
    (λ apart. other))

player_step : (q : ℕ) (step : PlayerStep) (s : State) → AllSound s → May (at_player q step) s → AllSound (after (at_player q step) s)
player_step q step s h may p =
    both_keep s q p (words_after_player step s.words) (player_after step (s.players q)) (writer_after_player step (s.writers (s.writer_of q)))
    (player_keeps step (view_of s q) (h q) may)
    (λ differs same.
    let v : View = record { number = p; words = s.words; mount = s.mounts (s.mount_of p); player = s.players p; writer = s.writers (s.writer_of q) } in
    fellow_keeps step v
    (subst (λ (k : ℕ). Sound (record { number = p; words = s.words; mount = s.mounts (s.mount_of p); player = s.players p; writer = s.writers k })) (sym same) (h p)))
    (other_player_keeps step (view_of s p) (h p))

look_step : (q : ℕ) (step : LookStep) (s : State) → AllSound s → May (looks_at q step) s → AllSound (after (looks_at q step) s)
look_step q step s h may p =
    both_keep s q p s.words (player_after_look step (s.mounts (s.mount_of q)) (s.players q)) (writer_after_look step q (s.writers (s.writer_of q)))
    (look_keeps step (view_of s q) (h q) may)
    (λ differs same.
    let v : View = record { number = p; words = s.words; mount = s.mounts (s.mount_of p); player = s.players p; writer = s.writers (s.writer_of q) } in
    look_beside_keeps step v q (s.players q) differs
    (subst (λ (k : ℕ). Sound (record { number = p; words = s.words; mount = s.mounts (s.mount_of p); player = s.players p; writer = s.writers k })) (sym same) (h p))
    may)
    (h p)

-- at a player of this writer
own_sweep : (w : ℕ) (step : SweepStep) (s : State) → AllSound s → MaySweep step s w → (p : ℕ) → w ≡ s.writer_of p
    → Sound (record {
      number = p;
      words = s.words;
      mount = s.mounts (s.mount_of p);
      player = player_after_sweep step (s.players p);
      writer = writer_after_sweep step s.words (s.writers (s.writer_of p));
    })
own_sweep w begins s h may p same = begin_keeps (view_of s p) (h p) (ap (λ (k : ℕ). (s.writers k).place) (sym same) ∙ may)
own_sweep w sweeps_again s h may p same = again_keeps (view_of s p) (h p) (ap (λ (k : ℕ). (s.writers k).place) (sym same) ∙ may)
own_sweep w ends_sweep s h may p same =
    end_keeps (view_of s p) (h p)
    (ap (λ (k : ℕ). (s.writers k).place) (sym same) ∙ may.0)
    (ap (λ (k : ℕ). (s.writers k).sweep.again) (sym same) ∙ may.1)
    (may.3 p same)
own_sweep w sleeps s h may p same =
    sleep_keeps (view_of s p) (h p)
    (ap (λ (k : ℕ). (s.writers k).place) (sym same) ∙ may.0)
    (may.1 ∙ ap (λ (k : ℕ). (s.writers k).read) same)
own_sweep w returns s h may p same =
    return_keeps (view_of s p) (h p) (subst (λ (k : ℕ). ((s.writers k).place ≡ ends) ⊎ ((s.writers k).place ≡ asleep)) same may)

sweep_step : (w : ℕ) (step : SweepStep) (s : State) → AllSound s → May (in_sweep w step) s → AllSound (after (in_sweep w step) s)
sweep_step w step s h may p =
    elim (eqb_tells w (s.writer_of p)) [
      | inl it_is ↦
          rw it_is.0
          (subst (λ (k : ℕ). Sound (record {
            number = p;
            words = s.words;
            mount = s.mounts (s.mount_of p);
            player = player_after_sweep step (s.players p);
            writer = writer_after_sweep step s.words (s.writers k);
          })) (sym it_is.1) (own_sweep w step s h may p it_is.1))
      | inr it_isnt ↦ rw it_isnt.0 (h p)
    ]

-- each step, for each player
step_keeps : (act : Act) (s : State) → AllSound s → May act s → AllSound (after act s)
step_keeps (at_mount mount step) s h may = mount_step mount step s h may
step_keeps (at_player player step) s h may = player_step player step s h may
step_keeps (looks_at player step) s h may = look_step player step s h may
step_keeps (in_sweep writer step) s h may = sweep_step writer step s h may
step_keeps clears s h may = λ p. clear_keeps (view_of s p) (h p)
step_keeps raises_once s h may = λ p. raise_once_keeps (view_of s p) (h p)
step_keeps calls s h may = λ p. call_keeps (view_of s p) (h p) may

-- it holds before all
pub start_is_sound : (mount_of writer_of : ℕ → ℕ) → AllSound (start mount_of writer_of)
start_is_sound mount_of writer_of p = search arith

-- and after any steps
pub ran_keeps : (acts : List Act) (old new : State) → Ran old acts new → AllSound old → AllSound new
ran_keeps [] old new ran h = rw ran h
ran_keeps (act ∷ acts) old new ran h = ran_keeps acts (after act old) new ran.1 (step_keeps act old h ran.0)

-- so a player that is to be looked at isn't forgotten
pub remembers : (v : View) → Sound v → IsRemembered v
remembers v h quiet here needs = grind arith
