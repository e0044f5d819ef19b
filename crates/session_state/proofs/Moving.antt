-- What taking a seat, or giving one back, leaves of the mounts.
use Rattle.std.proofs.Common.{◌≡◌, ℕ, zero, suc, ◌==◌, ◌&&◌, Bool, true, false, cond, List, [], ◌∷◌, map, Some, slice_get, slice_set, refl, ap, sym, ◌∙◌, subst, length-set}
use Rattle.std.specs.List.{AllByRecursion}
use Rattle.std.specs.Option.{option_map, option_map_or}
use Rattle.std.proofs.lemmas.Bool.{eqb-true, eq-eqb}
use Rattle.mounts.specs.declared.mount.Mount.{Mount}
use Rattle.mounts.specs.Different.{AreDifferent}
use Rattle.mounts.specs.Mounts.{numbered, with_seat}
use Rattle.mounts.proofs.Differing.{same_keys, unequal}
use Rattle.mounts.proofs.Lookups.{changed, numbered-with_seat}
use Rattle.mounts.proofs.Places.{read_other}
use Rattle.session_state.specs.declared.entry.Entry.{Entry}
use Rattle.session_state.specs.Methods.{is_announce}
use Rattle.session_state.specs.History.{History, accepts, act_of, is_play_of, last_of}
use Rattle.session_state.specs.Streams.{AreLive, IsLive, IsLiveMount, ends_mount_of, is_out, takes_or_gives_back}
use Rattle.session_state.proofs.Living.{has_lived, lives_on}

-- An entry that takes or gives back this seat and no other, and neither makes a mount nor ends one.
pub record MovesSeat (entry : Entry) (number seat : ℕ) (out : Bool) : Type 0 where
  pub plain : accepts is_announce entry ≡ false
  pub on : (owner : ℕ) → ends_mount_of owner entry ≡ false
  pub moves : (of given : ℕ) → takes_or_gives_back of given entry ≡ (number == of && seat == given)
  pub leaves : is_play_of number seat (act_of entry) ≡ out

-- what is read where a value was written is that value
written_at : (xs : List Bool) (i : ℕ) (value out : Bool) → slice_get (slice_set xs i value) i ≡ Some out → out ≡ value
written_at [] i value out there = absurd (cc)
written_at (x ∷ xs) zero value out there = cc
written_at (x ∷ xs) (suc i) value out there = written_at xs i value out there

module _ (seats : ℕ) (history : History) (entry : Entry) (number seat : ℕ) (out : Bool) (moved : MovesSeat entry number seat out) where
  out_after : (mount given : ℕ) → is_out mount given (entry ∷ history) ≡ cond (number == mount && seat == given) out (is_out mount given history)
  out_after mount given = ap after (moved.moves mount given) ∙ by (number == mount) refl (seat == given) refl
    where
      after : Bool → Bool
      after is = option_map_or (λ one. is_play_of mount given (act_of one)) (cond is (Some entry) (last_of (takes_or_gives_back mount given) history)) false

      by : (same : Bool) → (number == mount) ≡ same → (also : Bool) → (seat == given) ≡ also → after (same && also) ≡ cond (same && also) out (is_out mount given history)
      by true same true also =
          let mount_is = eqb-true number mount same in
          let seat_is = eqb-true seat given also in
          ap (λ m. is_play_of m given (act_of entry)) (sym mount_is) ∙ ap (λ s. is_play_of number s (act_of entry)) (sym seat_is)
          ∙ moved.leaves
      by true same false also = refl
      by false same also given_is = refl

  mount_after : (mount : Mount) → IsLiveMount seats history mount → IsLiveMount seats (entry ∷ history) (changed number seat out mount)
  unfolding lives_on
  mount_after mount is = by (mount.number == number) refl
    where
      still : (other : ℕ) (was : Bool) → (number == mount.number && seat == other) ≡ false → was ≡ is_out mount.number other history → was ≡ is_out mount.number other (entry ∷ history)
      still other was apart before = before ∙ sym (out_after mount.number other ∙ ap (λ b. cond b out (is_out mount.number other history)) apart)

      by : (same : Bool) → (mount.number == number) ≡ same → IsLiveMount seats (entry ∷ history) (cond same (with_seat seat out mount) mount)
      by true same = record {
        live = lives_on history entry mount.number mount.owner is.live (moved.on mount.owner);
        announced = is.announced;
        seats_are = length-set mount.seats seat out ∙ is.seats_are;
        out = λ other was there. at other was there (seat == other) refl;
      }
        where
          mine : (number == mount.number) ≡ true
          mine = eq-eqb number mount.number (sym (eqb-true mount.number number same))

          written : (other : ℕ) (was : Bool) → slice_get (slice_set mount.seats seat out) other ≡ Some was → seat ≡ other → was ≡ out
          written other was there same = written_at mount.seats other out was (subst (λ s. slice_get (slice_set mount.seats s out) other ≡ Some was) same there)

          at : (other : ℕ) (was : Bool) → slice_get (slice_set mount.seats seat out) other ≡ Some was → (given : Bool) → (seat == other) ≡ given → was ≡ is_out mount.number other (entry ∷ history)
          at other was there true given =
              written other was there (eqb-true seat other given)
              ∙ sym (out_after mount.number other ∙ ap (λ b. cond b out (is_out mount.number other history)) (ap (λ b. b && seat == other) mine ∙ given))
          at other was there false given =
              still other was (ap (λ b. b && seat == other) mine ∙ given)
              (is.out other was (sym (read_other mount.seats seat other out (λ e. apart (sym e))) ∙ there))
            where
              apart : seat ≡ other → ⊥
              apart e = let is = eq-eqb seat other e in absurd (cc)
      by false apart = record {
        live = lives_on history entry mount.number mount.owner is.live (moved.on mount.owner);
        announced = is.announced;
        seats_are = is.seats_are;
        out = λ other was there. still other was (ap (λ b. b && seat == other) (unequal number mount.number (λ e. differ (sym e)))) (is.out other was there);
      }
        where
          differ : mount.number ≡ number → ⊥
          differ e = let is = eq-eqb mount.number number e in absurd (cc)

  each_after : (mounts : List Mount) → AllByRecursion (IsLiveMount seats history) mounts → AllByRecursion (IsLiveMount seats (entry ∷ history)) (map (changed number seat out) mounts)
  each_after [] each = tt
  each_after (mount ∷ mounts) each = (mount_after mount each.0, each_after mounts each.1)

  -- what a seat leaves alone
  same_key : (key : Mount → ℕ) → ((mount : Mount) → key (with_seat seat out mount) ≡ key mount) → (mount : Mount) → key (changed number seat out mount) ≡ key mount
  same_key key same mount = by (mount.number == number)
    where
      by : (is : Bool) → key (cond is (with_seat seat out mount) mount) ≡ key mount
      by true = same mount
      by false = refl

  pub seat_moves : (mounts : List Mount) → AreLive seats history mounts → AreLive seats (entry ∷ history) (map (changed number seat out) mounts)
  seat_moves mounts are = record {
    each = each_after mounts are.each;
    all = still;
    once = subst AreDifferent (sym (same_keys (λ one. one.number) (changed number seat out) (same_key (λ one. one.number) (λ one. refl)) mounts)) are.once;
  }
    where
      still : (live_number owner : ℕ) → IsLive (entry ∷ history) live_number owner
          → (one : Mount) × (numbered live_number (map (changed number seat out) mounts) ≡ Some one) × (one.owner ≡ owner)
      still live_number owner live =
          let found = are.all live_number owner (has_lived history entry live_number owner live moved.plain).live in (
            changed number seat out found.0,
            numbered-with_seat mounts live_number number seat out ∙ ap (option_map (changed number seat out)) found.1,
            same_key (λ one. one.owner) (λ one. refl) found.0 ∙ found.2,
          )
