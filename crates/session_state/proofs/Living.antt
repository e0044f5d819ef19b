-- Which mounts live after one entry more.
use Rattle.std.proofs.Common.{◌≡◌, ℕ, ◌==◌, Bool, true, false, not, cond, List, [], ◌∷◌, ◌++◌, Some, refl, ap, sym, ◌∙◌, subst}
use Rattle.std.specs.List.{AllByRecursion, filter}
use Rattle.std.specs.Option.{option_map_or}
use Rattle.std.proofs.lemmas.Bool.{eqb-true, eq-eqb}
use Rattle.mounts.specs.declared.mount.Mount.{Mount}
use Rattle.mounts.specs.Mounts.{numbered}
use Rattle.mounts.proofs.Differing.{different_filter}
use Rattle.mounts.proofs.Lookups.{numbered-ended_other}
use Rattle.mounts.proofs.Places.{all_both}
use Rattle.session_state.specs.declared.entry.Entry.{Entry}
use Rattle.session_state.specs.Methods.{is_announce}
use Rattle.session_state.specs.History.{History, accepts, act_of, is_play_of, last_of}
use Rattle.session_state.specs.Streams.{AreLive, IsLive, IsLiveMount, ends_mount_of, is_out, takes_or_gives_back}

pub false_true : {A : Type 0} → false ≡ true → A
false_true e = absurd (cc)

-- a mount lives on where the entry doesn't end it
unfoldable pub lives_on : (history : History) (entry : Entry) (number owner : ℕ) → IsLive history number owner → ends_mount_of owner entry ≡ false → IsLive (entry ∷ history) number owner
lives_on history entry number owner live on = record {
  later = entry ∷ live.later;
  moment = live.moment;
  nth = record { cut = ap (λ h. entry ∷ h) live.nth.cut; is = live.nth.is; counted = live.nth.counted };
  owned = live.owned;
  unended = (on, live.unended);
}

-- A mount that lives after an entry that announced none lived before it, and the entry doesn't end it.
pub record HasLived (history : History) (entry : Entry) (number owner : ℕ) : Type 0 where
  pub live : IsLive history number owner
  pub on : ends_mount_of owner entry ≡ false

pub has_lived : (history : History) (entry : Entry) (number owner : ℕ) → IsLive (entry ∷ history) number owner → accepts is_announce entry ≡ false → HasLived history entry number owner
has_lived history entry number owner live plain = by live.later live.nth.cut live.unended
  where
    by : (later : History) → entry ∷ history ≡ later ++ live.moment.entry ∷ live.moment.before → AllByRecursion (λ e. ends_mount_of owner e ≡ false) later → HasLived history entry number owner
    by [] cut none =
        let same : entry ≡ live.moment.entry = cc in
        let is = live.nth.is in
        let other : accepts is_announce live.moment.entry ≡ false = subst (λ e. accepts is_announce e ≡ false) same plain in
        absurd (cc)
    by (x ∷ later) cut none =
        let same : x ≡ entry = cc in
        let rest : history ≡ later ++ live.moment.entry ∷ live.moment.before = cc in
        record {
          live = record { later = later; moment = live.moment; nth = record { cut = rest; is = live.nth.is; counted = live.nth.counted }; owned = live.owned; unended = none.1 };
          on = subst (λ e. ends_mount_of owner e ≡ false) same none.0;
        }

-- An entry that announces no mount and moves no seat.
pub record LeavesMounts (entry : Entry) : Type 0 where
  pub plain : accepts is_announce entry ≡ false
  pub seats : (mount seat : ℕ) → takes_or_gives_back mount seat entry ≡ false

pub out_still : (history : History) (entry : Entry) (mount seat : ℕ) → takes_or_gives_back mount seat entry ≡ false → is_out mount seat (entry ∷ history) ≡ is_out mount seat history
out_still history entry mount seat still =
    ap (λ is. option_map_or (λ one. is_play_of mount seat (act_of one)) (cond is (Some entry) (last_of (takes_or_gives_back mount seat) history)) false) still

mount_still : (seats : ℕ) (history : History) (entry : Entry) (mount : Mount) → LeavesMounts entry → IsLiveMount seats history mount → ends_mount_of mount.owner entry ≡ false → IsLiveMount seats (entry ∷ history) mount
unfolding lives_on
mount_still seats history entry mount leaves is on = record {
  live = lives_on history entry mount.number mount.owner is.live on;
  announced = is.announced;
  seats_are = is.seats_are;
  out = λ seat out there. is.out seat out there ∙ sym (out_still history entry mount.number seat (leaves.seats mount.number seat));
}

-- what holds of every element holds of each
pub each_of : {X : Type 0} (P : X → Type 0) (xs : List X) → ((x : X) → P x) → AllByRecursion P xs
each_of P [] h = tt
each_of P (x ∷ xs) h = (h x, each_of P xs h)

-- the mounts are as they were where none of them ends
pub mounts_still : (seats : ℕ) (history : History) (entry : Entry) (mounts : List Mount) → LeavesMounts entry → AllByRecursion (λ mount. ends_mount_of mount.owner entry ≡ false) mounts
    → AreLive seats history mounts → AreLive seats (entry ∷ history) mounts
mounts_still seats history entry mounts leaves on are = record {
  each = all_both (IsLiveMount seats history) (λ mount. ends_mount_of mount.owner entry ≡ false) (IsLiveMount seats (entry ∷ history)) mounts
      (λ mount is lives. mount_still seats history entry mount leaves is lives) are.each on;
  all = λ number owner live. are.all number owner (has_lived history entry number owner live leaves.plain).live;
  once = are.once;
}

-- The entry ends the mount of this number and no other.
pub record EndsAlone (entry : Entry) (gone : Mount) (mounts : List Mount) : Type 0 where
  pub owner : ends_mount_of gone.owner entry ≡ true
  pub there : numbered gone.number mounts ≡ Some gone
  pub others : AllByRecursion (λ mount. (mount.number == gone.number) ≡ false → ends_mount_of mount.owner entry ≡ false) mounts

others_live : (seats : ℕ) (history : History) (entry : Entry) (gone : ℕ) (mounts : List Mount) → LeavesMounts entry
    → AllByRecursion (λ mount. (mount.number == gone) ≡ false → ends_mount_of mount.owner entry ≡ false) mounts → AllByRecursion (IsLiveMount seats history) mounts
    → AllByRecursion (IsLiveMount seats (entry ∷ history)) (filter (λ mount. not (mount.number == gone)) mounts)
others_live seats history entry gone [] leaves others each = tt
others_live seats history entry gone (mount ∷ mounts) leaves others each = by (mount.number == gone) refl (others_live seats history entry gone mounts leaves others.1 each.1)
  where
    left : List Mount
    left = filter (λ one. not (one.number == gone)) mounts

    by : (is : Bool) → (mount.number == gone) ≡ is → AllByRecursion (IsLiveMount seats (entry ∷ history)) left → AllByRecursion (IsLiveMount seats (entry ∷ history)) (cond (not is) (mount ∷ left) left)
    by true is rest = rest
    by false apart rest = (mount_still seats history entry mount leaves each.0 (others.0 apart), rest)

-- without the mount that ends, the mounts are as they were
pub mount_ends : (seats : ℕ) (history : History) (entry : Entry) (gone : Mount) (mounts : List Mount) → LeavesMounts entry → EndsAlone entry gone mounts
    → AreLive seats history mounts → AreLive seats (entry ∷ history) (filter (λ mount. not (mount.number == gone.number)) mounts)
mount_ends seats history entry gone mounts leaves ends are = record {
  each = others_live seats history entry gone.number mounts leaves ends.others are.each;
  all = λ number owner live. still number owner (has_lived history entry number owner live leaves.plain);
  once = different_filter (λ mount. mount.number) (λ mount. not (mount.number == gone.number)) mounts are.once;
}
  where
    left : List Mount
    left = filter (λ mount. not (mount.number == gone.number)) mounts

    still : (number owner : ℕ) → HasLived history entry number owner → (mount : Mount) × (numbered number left ≡ Some mount) × (mount.owner ≡ owner)
    still number owner lived = by (number == gone.number) refl
      where
        found : (mount : Mount) × (numbered number mounts ≡ Some mount) × (mount.owner ≡ owner)
        found = are.all number owner lived.live

        by : (is : Bool) → (number == gone.number) ≡ is → (mount : Mount) × (numbered number left ≡ Some mount) × (mount.owner ≡ owner)
        by true same =
            let there : numbered number mounts ≡ Some gone = ap (λ n. numbered n mounts) (eqb-true number gone.number same) ∙ ends.there in
            let at = found.1 in
            let is_gone : found.0 ≡ gone = cc in
            let ended : ends_mount_of owner entry ≡ true = ap (λ o. ends_mount_of o entry) (sym found.2 ∙ ap (λ m. m.owner) is_gone) ∙ ends.owner in
            let on = lived.on in
            absurd (cc)
        by false apart = (found.0, numbered-ended_other mounts number gone.number (λ e. false_true (sym apart ∙ eq-eqb number gone.number e)) ∙ found.1, found.2)
