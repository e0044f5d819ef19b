-- Each change of a table keeps it sound.
use Rattle.std.proofs.Common.{◌≡◌, ◌≢◌, ℕ, ◌+◌, ◌==◌, Bool, true, false, not, cond, None, Some, List, [], ◌∷◌, map, refl, sym, subst, ◌∙◌, arith, length-append, length-set}
use Rattle.std.specs.List.{AllByRecursion, filter}
use Rattle.std.specs.Str.{bytes_eq}
use Rattle.std.specs.Cmp.Lexicographic.{bytes_decides}
use Rattle.std.proofs.lemmas.List.{length-map, length-replicate, map-append}
use Rattle.std.proofs.lemmas.List.Sums.{length-filter, count_by-le-length}
use Rattle.sdp.specs.declared.sections.Sections.{Sections}
use Rattle.sdp.proofs.Goods.{push_all}
use Rattle.mounts.specs.declared.mount.Mount.{Mount}
use Rattle.mounts.specs.Different.{AreDifferent}
use Rattle.mounts.specs.Names.{EndsInTrack, IsName}
use Rattle.mounts.specs.Mounts.{Table, HasRoom, IsMountOf, IsSound, announced, ended, named, new_mount, owned_by, with_seat, with_seat_of}
use Rattle.mounts.proofs.Differing.{different_filter, different_push, none_has, same_keys}
use Rattle.mounts.proofs.Firsts.{find_none_fails}

filter_each : {X : Type 0} (P : X → Type 0) (p : X → Bool) (xs : List X) → AllByRecursion P xs → AllByRecursion P (filter p xs)
filter_each P p [] h = tt
filter_each P p (x ∷ xs) h = by (p x) (filter_each P p xs h.1)
  where
    by : (v : Bool) → AllByRecursion P (filter p xs) → AllByRecursion P (cond v (x ∷ filter p xs) (filter p xs))
    by true rest = (h.0, rest)
    by false rest = rest

change_each : {X : Type 0} (P : X → Type 0) (f : X → X) (xs : List X) → ((x : X) → P x → P (f x)) → AllByRecursion P xs → AllByRecursion P (map f xs)
change_each P f [] k h = tt
change_each P f (x ∷ xs) k h = (k x h.0, change_each P f xs k h.1)

weaker_each : {X : Type 0} (P Q : X → Type 0) (xs : List X) → ((x : X) → P x → Q x) → AllByRecursion P xs → AllByRecursion Q xs
weaker_each P Q [] k h = tt
weaker_each P Q (x ∷ xs) k h = (k x h.0, weaker_each P Q xs k h.1)

-- without one mount
pub sound_ended : (number : ℕ) (table : Table) → IsSound table → IsSound (ended number table)
sound_ended number table h =
    let p : Mount → Bool = λ mount. not (mount.number == number) in
    let few = h.few in
    record {
      numbers = different_filter (λ mount. mount.number) p table.mounts h.numbers;
      names = different_filter (λ mount. mount.name) p table.mounts h.names;
      owners = different_filter (λ mount. mount.owner) p table.mounts h.owners;
      each = filter_each (IsMountOf table.next table.seats) p table.mounts h.each;
      few = omega (arith, few, length-filter p table.mounts, count_by-le-length p table.mounts);
      next_from = h.next_from;
      next_to = h.next_to;
    }

-- a change of one mount that leaves the others alone
abbrev changed : ℕ → ℕ → Bool → Mount → Mount
changed number seat out mount = cond (mount.number == number) (with_seat seat out mount) mount

same_field : {A : Type 0} (field : Mount → A) (number seat : ℕ) (out : Bool) → ((mount : Mount) → field (with_seat seat out mount) ≡ field mount)
    → (mount : Mount) → field (changed number seat out mount) ≡ field mount
same_field field number seat out h mount = by (mount.number == number)
  where
    by : (v : Bool) → field (cond v (with_seat seat out mount) mount) ≡ field mount
    by true = h mount
    by false = refl

changed_is_mount : (next seats number seat : ℕ) (out : Bool) (mount : Mount) → IsMountOf next seats mount → IsMountOf next seats (changed number seat out mount)
changed_is_mount next seats number seat out mount h = by (mount.number == number)
  where
    by : (v : Bool) → IsMountOf next seats (cond v (with_seat seat out mount) mount)
    by true = record { from_one = h.from_one; below_next = h.below_next; name = h.name; no_track = h.no_track; seats_are = length-set mount.seats seat out ∙ h.seats_are }
    by false = h

-- with a seat out or free
pub sound_seat : (number seat : ℕ) (out : Bool) (table : Table) → IsSound table → IsSound (with_seat_of number seat out table)
sound_seat number seat out table h =
    let f : Mount → Mount = changed number seat out in
    let few = h.few in
    record {
      numbers = subst AreDifferent (sym (same_keys (λ mount. mount.number) f (same_field (λ mount. mount.number) number seat out (λ mount. refl)) table.mounts)) h.numbers;
      names = subst AreDifferent (sym (same_keys (λ mount. mount.name) f (same_field (λ mount. mount.name) number seat out (λ mount. refl)) table.mounts)) h.names;
      owners = subst AreDifferent (sym (same_keys (λ mount. mount.owner) f (same_field (λ mount. mount.owner) number seat out (λ mount. refl)) table.mounts)) h.owners;
      each = change_each (IsMountOf table.next table.seats) f table.mounts (changed_is_mount table.next table.seats number seat out) h.each;
      few = omega (arith, few, length-map table.mounts f);
      next_from = h.next_from;
      next_to = h.next_to;
    }

-- the number of a new mount is none that was there
numbers_below : (next seats : ℕ) (mounts : List Mount) → AllByRecursion (IsMountOf next seats) mounts → AllByRecursion (λ n. n ≢ next) (map (λ mount. mount.number) mounts)
numbers_below next seats [] h = tt
numbers_below next seats (m ∷ mounts) h = let below = h.0.below_next in ((λ e. omega (arith, below, e)), numbers_below next seats mounts h.1)

-- a name that names no mount is none that was there
pub names_apart : (name : List ℕ) (mounts : List Mount) → named name mounts ≡ None → AllByRecursion (λ n. n ≢ name) (map (λ mount. mount.name) mounts)
names_apart name [] none = tt
names_apart name (m ∷ mounts) none =
    let first = find_none_fails (λ mount. bytes_eq name mount.name) m mounts none in
    ((λ e. let same : bytes_eq name m.name ≡ true = (bytes_decides name m.name).1 (sym e) in let other = first.0 in absurd (cc)), names_apart name mounts first.1)

later : (next seats : ℕ) (mount : Mount) → IsMountOf next seats mount → IsMountOf (next + 1) seats mount
later next seats mount h =
    let below = h.below_next in
    record { from_one = h.from_one; below_next = omega (arith, below); name = h.name; no_track = h.no_track; seats_are = h.seats_are }

-- with one mount more
pub sound_announced : (table : Table) (owner : ℕ) (name : List ℕ) (description : Sections) → IsSound table → HasRoom table → IsName name → (EndsInTrack name → ⊥) → named name table.mounts ≡ None
    → owned_by owner table.mounts ≡ None → IsSound (announced table owner name description)
sound_announced table owner name description h room is_name no_track free first =
    let mount = new_mount table owner name description in
    let from = h.next_from in
    let few = room.few in
    let left = room.left in
    record {
      numbers = subst AreDifferent (sym (map-append (λ m. m.number) table.mounts (mount ∷ [])))
          (different_push (map (λ m. m.number) table.mounts) table.next h.numbers (numbers_below table.next table.seats table.mounts h.each));
      names = subst AreDifferent (sym (map-append (λ m. m.name) table.mounts (mount ∷ [])))
          (different_push (map (λ m. m.name) table.mounts) name h.names (names_apart name table.mounts free));
      owners = subst AreDifferent (sym (map-append (λ m. m.owner) table.mounts (mount ∷ [])))
          (different_push (map (λ m. m.owner) table.mounts) owner h.owners (none_has (λ m. m.owner) owner table.mounts first));
      each = push_all (IsMountOf (table.next + 1) table.seats) table.mounts mount
          (weaker_each (IsMountOf table.next table.seats) (IsMountOf (table.next + 1) table.seats) table.mounts (later table.next table.seats) h.each)
          (record { from_one = from; below_next = omega arith; name = is_name; no_track = no_track; seats_are = length-replicate table.seats false });
      few = omega (arith, few, length-append table.mounts (mount ∷ []));
      next_from = omega (arith, from);
      next_to = omega (arith, left);
    }

-- what is no name names no mount
pub names_nothing : (next seats : ℕ) (mounts : List Mount) (name : List ℕ) → AllByRecursion (IsMountOf next seats) mounts → (IsName name → ⊥) → named name mounts ≡ None
names_nothing next seats [] name h none = refl
names_nothing next seats (m ∷ mounts) name h none = by (bytes_eq name m.name) refl (names_nothing next seats mounts name h.1 none)
  where
    by : (v : Bool) → bytes_eq name m.name ≡ v → named name mounts ≡ None → cond v (Some m) (named name mounts) ≡ None
    by true is rest = absurd (none (subst IsName (sym ((bytes_decides name m.name).0 is)) h.0.name))
    by false is rest = rest
