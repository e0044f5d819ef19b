-- The spare passes after one entry more.
use Rattle.std.proofs.Common.{◌≡◌, ◌≢◌, ℕ, zero, suc, ◌+◌, ◌≤◌, ◌==◌, ◌&&◌, Bool, true, false, not, cond, List, [], ◌∷◌, ◌++◌, ◌⊎◌, inl, inr, length, map, is_none, slice_get, slice_set, Option, None, Some, refl, ap, sym, ◌∙◌, subst, arith, length-set}
use Rattle.std.specs.List.{AllByRecursion, filter, find}
use Rattle.std.specs.Option.{option_or}
use Rattle.std.proofs.lemmas.Bool.{eqb-true, eq-eqb}
use Rattle.std.proofs.lemmas.List.{length-map, map-append}
use Rattle.std.proofs.lemmas.List.Folds.{find-append}
use Rattle.sdp.proofs.Goods.{push_all}
use Rattle.mounts.specs.Different.{AreDifferent}
use Rattle.mounts.proofs.Differing.{different_filter, different_push, same_keys, unequal}
use Rattle.mounts.proofs.Places.{all_both, read_other}
use Rattle.session_state.specs.declared.entry.Entry.{Entry}
use Rattle.session_state.specs.Methods.{is_announce}
use Rattle.session_state.specs.History.{History, accepts, accepts_from, how_many}
use Rattle.session_state.specs.Streams.{IsLive, ends_mount_of, is_out, takes_or_gives_back}
use Rattle.session_state.proofs.Living.{HasLived, has_lived, lives_on, out_still}
use Rattle.session_state.proofs.Owners.{IsNewest}
use Rattle.session_lock.specs.declared.spares.MountPasses.{MountPasses}
use Rattle.session_lock.specs.Spares.{AreSpare, IsSpareOf, of_number, unended, with_pass, with_place}

-- what is found is found among those that pass another test, where it passes that
pub find_filter : {X : Type 0} (p q : X → Bool) (xs : List X) (x : X) → find p xs ≡ Some x → q x ≡ true → find p (filter q xs) ≡ Some x
find_filter p q [] x at is = absurd (cc)
find_filter p q (y ∷ xs) x at is = by (p y) refl (q y) refl at (find_filter p q xs x)
  where
    by : (a : Bool) → p y ≡ a → (b : Bool) → q y ≡ b → cond a (Some y) (find p xs) ≡ Some x → (find p xs ≡ Some x → q x ≡ true → find p (filter q xs) ≡ Some x)
        → find p (cond b (y ∷ filter q xs) (filter q xs)) ≡ Some x
    by true py true qy at rest = ap (λ v. cond v (Some y) (find p (filter q xs))) py ∙ at
    by true py false qy at rest = let same : y ≡ x = cc in let other : q x ≡ false = ap q (sym same) ∙ qy in absurd (cc)
    by false py true qy at rest = ap (λ v. cond v (Some y) (find p (filter q xs))) py ∙ rest at is
    by false py false qy at rest = rest at is

-- A mount that lives after an entry is the one that it announces, or lived before and isn't ended.
pub newest_or_lived : (history : History) (entry : Entry) (number owner : ℕ) → IsLive (entry ∷ history) number owner → IsNewest history entry number owner ⊎ HasLived history entry number owner
newest_or_lived history entry number owner live = by live.later live.nth.cut live.unended
  where
    by : (later : History) → entry ∷ history ≡ later ++ live.moment.entry ∷ live.moment.before → AllByRecursion (λ e. ends_mount_of owner e ≡ false) later → IsNewest history entry number owner ⊎ HasLived history entry number owner
    by [] cut none =
        let same : live.moment.entry ≡ entry = cc in
        let rest : live.moment.before ≡ history = cc in
        inl (record { owned = subst (λ e. accepts_from owner is_announce e ≡ true) same live.owned; counted = live.nth.counted ∙ ap (λ h. how_many (accepts is_announce) h + 1) rest })
    by (x ∷ later) cut none =
        let same : x ≡ entry = cc in
        let rest : history ≡ later ++ live.moment.entry ∷ live.moment.before = cc in
        inr (record {
          live = record { later = later; moment = live.moment; nth = record { cut = rest; is = live.nth.is; counted = live.nth.counted }; owned = live.owned; unended = none.1 };
          on = subst (λ e. ends_mount_of owner e ≡ false) same none.0;
        })

-- a mount that lives is one of those that were announced
pub live_counted : (history : History) (number owner : ℕ) → IsLive history number owner → number ≤ how_many (accepts is_announce) history
live_counted history number owner live =
    let least = within live.later in
    let all = ap (how_many (accepts is_announce)) live.nth.cut in
    let one = ap (λ is. cond is (suc (how_many (accepts is_announce) live.moment.before)) (how_many (accepts is_announce) live.moment.before)) live.nth.is in
    let counted = live.nth.counted in
    omega (arith, least, all, one, counted)
  where
    within : (later : History) → how_many (accepts is_announce) (live.moment.entry ∷ live.moment.before) ≤ how_many (accepts is_announce) (later ++ live.moment.entry ∷ live.moment.before)
    within [] = omega arith
    within (x ∷ later) = by (accepts is_announce x) (within later)
      where
        by : (is : Bool) → how_many (accepts is_announce) (live.moment.entry ∷ live.moment.before) ≤ how_many (accepts is_announce) (later ++ live.moment.entry ∷ live.moment.before)
            → how_many (accepts is_announce) (live.moment.entry ∷ live.moment.before)
            ≤ cond is (suc (how_many (accepts is_announce) (later ++ live.moment.entry ∷ live.moment.before))) (how_many (accepts is_announce) (later ++ live.moment.entry ∷ live.moment.before))
        by true so = omega (arith, so)
        by false so = so

module _ {P : Type 0} (seats : ℕ) (history : History) (entry : Entry) where
  spare_still : (one : MountPasses P) → ((mount seat : ℕ) → takes_or_gives_back mount seat entry ≡ false) → IsSpareOf seats history one → ends_mount_of one.owner entry ≡ false → IsSpareOf seats (entry ∷ history) one
  spare_still one still is on = record {
    live = lives_on history entry one.number one.owner is.live on;
    seats_are = is.seats_are;
    out = λ seat place there. is.out seat place there ∙ sym (out_still history entry one.number seat (still one.number seat));
  }

  -- after an entry that announces no mount and moves no seat
  pub ended_so : (mounts : List (MountPasses P)) → accepts is_announce entry ≡ false → ((mount seat : ℕ) → takes_or_gives_back mount seat entry ≡ false) → AreSpare seats history mounts
      → AreSpare seats (entry ∷ history) (unended entry mounts)
  ended_so mounts plain still are = record {
    each = kept mounts are.each;
    all = λ number owner live. there number owner (has_lived history entry number owner live plain);
    once = different_filter (λ (one : MountPasses P). one.number) (λ one. not (ends_mount_of one.owner entry)) mounts are.once;
  }
    where
      kept : (ms : List (MountPasses P)) → AllByRecursion (IsSpareOf seats history) ms → AllByRecursion (IsSpareOf seats (entry ∷ history)) (unended entry ms)
      kept [] each = tt
      kept (one ∷ ms) each = by (ends_mount_of one.owner entry) refl (kept ms each.1)
        where
          by : (is : Bool) → ends_mount_of one.owner entry ≡ is → AllByRecursion (IsSpareOf seats (entry ∷ history)) (unended entry ms)
              → AllByRecursion (IsSpareOf seats (entry ∷ history)) (cond (not is) (one ∷ unended entry ms) (unended entry ms))
          by true is rest = rest
          by false on rest = (spare_still one still each.0 on, rest)

      there : (number owner : ℕ) → HasLived history entry number owner → (one : MountPasses P) × (of_number number (unended entry mounts) ≡ Some one) × (one.owner ≡ owner)
      there number owner lived =
          let found = are.all number owner lived.live in
          (found.0, find_filter (λ (one : MountPasses P). one.number == number) (λ one. not (ends_mount_of one.owner entry)) mounts found.0 found.1 (ap (λ o. not (ends_mount_of o entry)) found.2 ∙ ap not lived.on), found.2)

  -- after an entry that announces a mount
  module _ (conn : ℕ) (passes : List P) (mounts : List (MountPasses P)) where
    abbrev pub next : ℕ
    next = how_many (accepts is_announce) history + 1

    abbrev pub fresh : MountPasses P
    fresh = record { number = next; owner = conn; passes = map (λ pass. Some pass) passes }

    others : (ms : List (MountPasses P)) → AllByRecursion (IsSpareOf seats history) ms → AllByRecursion (λ number. number ≢ next) (map (λ one. one.number) ms)
    others [] each = tt
    others (one ∷ ms) each = ((λ e. let most = live_counted history one.number one.owner each.0.live in absurd (omega (arith, most, e))), others ms each.1)

    none_numbered : (ms : List (MountPasses P)) → AllByRecursion (λ number. number ≢ next) (map (λ one. one.number) ms) → of_number next ms ≡ None
    none_numbered [] apart = refl
    none_numbered (one ∷ ms) apart = ap (λ is. cond is (Some one) (of_number next ms)) (unequal one.number next apart.0) ∙ none_numbered ms apart.1

    pub unnumbered : AreSpare seats history mounts → of_number next mounts ≡ None
    unnumbered are = none_numbered mounts (others mounts are.each)

    all_here : (ps : List P) (seat : ℕ) (place : Option P) → slice_get (map (λ pass. Some pass) ps) seat ≡ Some place → is_none place ≡ false
    all_here [] seat place there = absurd (cc)
    all_here (p ∷ ps) zero place there = let same : place ≡ Some p = cc in ap is_none same
    all_here (p ∷ ps) (suc seat) place there = all_here ps seat place there

    pub begun_so : accepts is_announce entry ≡ true → ((owner : ℕ) → accepts_from owner is_announce entry ≡ (conn == owner)) → ((owner : ℕ) → ends_mount_of owner entry ≡ false)
        → ((mount seat : ℕ) → takes_or_gives_back mount seat entry ≡ false) → ((seat : ℕ) → is_out next seat history ≡ false) → length passes ≡ seats → AreSpare seats history mounts
        → AreSpare seats (entry ∷ history) (mounts ++ fresh ∷ [])
    begun_so announces by_conn on still free count are = record {
      each = push_all (IsSpareOf seats (entry ∷ history)) mounts fresh (all_both (IsSpareOf seats history) (IsSpareOf seats history) (IsSpareOf seats (entry ∷ history)) mounts
          (λ one is again. spare_still one still is (on one.owner)) are.each are.each) (record {
            live = record {
              later = [];
              moment = record { entry = entry; before = history };
              nth = record { cut = refl; is = announces; counted = refl };
              owned = by_conn conn ∙ eq-eqb conn conn refl;
              unended = tt;
            };
            seats_are = length-map passes (λ pass. Some pass) ∙ count;
            out = λ seat place there. all_here passes seat place there ∙ sym (out_still history entry next seat (still next seat) ∙ free seat);
          });
      all = λ number owner live. there number owner (newest_or_lived history entry number owner live);
      once = subst AreDifferent (sym (map-append (λ (m : MountPasses P). m.number) mounts (fresh ∷ []))) (different_push (map (λ m. m.number) mounts) next are.once (others mounts are.each));
    }
      where
        there : (number owner : ℕ) → IsNewest history entry number owner ⊎ HasLived history entry number owner
            → (one : MountPasses P) × (of_number number (mounts ++ fresh ∷ []) ≡ Some one) × (one.owner ≡ owner)
        there number owner (inl newest) = (
          fresh,
          ap (λ n. of_number n (mounts ++ fresh ∷ [])) newest.counted
              ∙ find-append (λ (one : MountPasses P). one.number == next) mounts (fresh ∷ [])
              ∙ ap (λ found. option_or found (cond (next == next) (Some fresh) None)) (unnumbered are)
              ∙ ap (λ is. cond is (Some fresh) None) (eq-eqb next next refl),
          eqb-true conn owner (sym (by_conn owner) ∙ newest.owned),
        )
        there number owner (inr lived) =
            let found = are.all number owner lived.live in
            (found.0, find-append (λ (one : MountPasses P). one.number == number) mounts (fresh ∷ []) ∙ ap (λ f. option_or f (cond (next == number) (Some fresh) None)) found.1, found.2)

  -- after an entry that moves one seat
  module _ (number seat : ℕ) (pass : Option P) where
    abbrev pub moved : MountPasses P → MountPasses P
    moved one = cond (one.number == number) (with_place seat pass one) one

    same_number : (one : MountPasses P) → (moved one).number ≡ one.number
    same_number one = by (one.number == number)
      where
        by : (is : Bool) → (cond is (with_place seat pass one) one).number ≡ one.number
        by true = refl
        by false = refl

    same_owner : (one : MountPasses P) → (moved one).owner ≡ one.owner
    same_owner one = by (one.number == number)
      where
        by : (is : Bool) → (cond is (with_place seat pass one) one).owner ≡ one.owner
        by true = refl
        by false = refl

    written_at : (xs : List (Option P)) (i : ℕ) (place : Option P) → slice_get (slice_set xs i pass) i ≡ Some place → place ≡ pass
    written_at [] i place there = absurd (cc)
    written_at (x ∷ xs) zero place there = cc
    written_at (x ∷ xs) (suc i) place there = written_at xs i place there

    pub moved_so : (mounts : List (MountPasses P)) → accepts is_announce entry ≡ false → ((owner : ℕ) → ends_mount_of owner entry ≡ false)
        → ((mount other : ℕ) → is_out mount other (entry ∷ history) ≡ cond (number == mount && seat == other) (is_none pass) (is_out mount other history))
        → AreSpare seats history mounts → AreSpare seats (entry ∷ history) (with_pass number seat pass mounts)
    moved_so mounts plain on out are = record {
      each = each mounts are.each;
      all = λ of owner live. let found = are.all of owner (has_lived history entry of owner live plain).live in (moved found.0, found_moved mounts of found.0 found.1, same_owner found.0 ∙ found.2);
      once = subst AreDifferent (sym (same_keys (λ (one : MountPasses P). one.number) moved same_number mounts)) are.once;
    }
      where
        after : (one : MountPasses P) → IsSpareOf seats history one → IsSpareOf seats (entry ∷ history) (moved one)
        after one is = by (one.number == number) refl
          where
            by : (same : Bool) → (one.number == number) ≡ same → IsSpareOf seats (entry ∷ history) (cond same (with_place seat pass one) one)
            by true same = record {
              live = lives_on history entry one.number one.owner is.live (on one.owner);
              seats_are = length-set one.passes seat pass ∙ is.seats_are;
              out = λ other place there. at other place there (seat == other) refl;
            }
              where
                mine : (number == one.number) ≡ true
                mine = eq-eqb number one.number (sym (eqb-true one.number number same))

                at : (other : ℕ) (place : Option P) → slice_get (slice_set one.passes seat pass) other ≡ Some place → (this : Bool) → (seat == other) ≡ this → is_none place ≡ is_out one.number other (entry ∷ history)
                at other place there true this =
                    ap is_none (written_at one.passes seat place (ap (slice_get (slice_set one.passes seat pass)) (eqb-true seat other this) ∙ there))
                    ∙ sym (out one.number other ∙ ap (λ b. cond b (is_none pass) (is_out one.number other history)) (ap (λ b. b && seat == other) mine ∙ this))
                at other place there false this =
                    is.out other place (sym (read_other one.passes seat other pass (λ e. apart (sym e))) ∙ there)
                    ∙ sym (out one.number other ∙ ap (λ b. cond b (is_none pass) (is_out one.number other history)) (ap (λ b. b && seat == other) mine ∙ this))
                  where
                    apart : seat ≡ other → ⊥
                    apart e = let is = eq-eqb seat other e in absurd (cc)
            by false apart = record {
              live = lives_on history entry one.number one.owner is.live (on one.owner);
              seats_are = is.seats_are;
              out = λ other place there.
                  is.out other place there
                  ∙ sym (out one.number other ∙ ap (λ b. cond (b && seat == other) (is_none pass) (is_out one.number other history)) (unequal number one.number (λ e. differ (sym e))));
            }
              where
                differ : one.number ≡ number → ⊥
                differ e = let is = eq-eqb one.number number e in absurd (cc)

        each : (ms : List (MountPasses P)) → AllByRecursion (IsSpareOf seats history) ms → AllByRecursion (IsSpareOf seats (entry ∷ history)) (map moved ms)
        each [] all = tt
        each (one ∷ ms) all = (after one all.0, each ms all.1)

        found_moved : (ms : List (MountPasses P)) (of : ℕ) (one : MountPasses P) → of_number of ms ≡ Some one → of_number of (map moved ms) ≡ Some (moved one)
        found_moved [] of one at = absurd (cc)
        found_moved (m ∷ ms) of one at = ap (λ n. cond (n == of) (Some (moved m)) (of_number of (map moved ms))) (same_number m) ∙ by (m.number == of) at (found_moved ms of one)
          where
            by : (is : Bool) → cond is (Some m) (of_number of ms) ≡ Some one → (of_number of ms ≡ Some one → of_number of (map moved ms) ≡ Some (moved one))
                → cond is (Some (moved m)) (of_number of (map moved ms)) ≡ Some (moved one)
            by true at rest = let same : m ≡ one = cc in ap (λ x. Some (moved x)) same
            by false at rest = rest at
