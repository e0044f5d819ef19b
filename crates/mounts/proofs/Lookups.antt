-- The mount of a number after each change.
use Rattle.std.proofs.Common.{◌≡◌, ◌≢◌, ℕ, ◌==◌, Bool, true, false, not, cond, Option, None, Some, List, [], ◌∷◌, map, refl, sym, ap, subst, ◌∙◌, arith, slice_get}
use Rattle.std.specs.List.{AllByRecursion, filter, find, position_or_len}
use Rattle.std.specs.Str.{bytes_eq}
use Rattle.std.specs.Cmp.Lexicographic.{bytes_decides}
use Rattle.std.specs.Option.{option_map, option_or}
use Rattle.std.proofs.lemmas.Bool.{eq-eqb, eqb-true}
use Rattle.std.proofs.lemmas.List.Folds.{find-append, find_at}
use Rattle.sdp.specs.declared.sections.Sections.{Sections}
use Rattle.mounts.specs.declared.mount.Mount.{Mount}
use Rattle.mounts.specs.Different.{AreDifferent}
use Rattle.mounts.specs.Find.{IsFoundIn}
use Rattle.mounts.specs.Mounts.{Table, IsMountOf, IsOnlyOne, IsSound, announced, named, new_mount, numbered, owned_by, with_seat}
use Rattle.mounts.specs.Names.{GoesOn}
use Rattle.mounts.proofs.Differing.{find_one, one_place, unequal}
use Rattle.mounts.proofs.Firsts.{found_passes}
use Rattle.mounts.proofs.Indexed.{unequal_bytes}

-- another number than the new one
pub numbered-announced : (table : Table) (owner : ℕ) (name : List ℕ) (description : Sections) (number : ℕ) → number ≢ table.next
    → numbered number (announced table owner name description).mounts ≡ numbered number table.mounts
numbered-announced table owner name description number ne =
    find-append (λ m. m.number == number) table.mounts (new_mount table owner name description ∷ [])
    ∙ ap (λ b. option_or (numbered number table.mounts) (cond b (Some (new_mount table owner name description)) None)) (unequal table.next number (λ e. ne (sym e)))
    ∙ by (numbered number table.mounts)
  where
    by : (o : Option Mount) → option_or o None ≡ o
    by None = refl
    by (Some m) = refl

-- the number that ended
pub numbered-ended_same : (mounts : List Mount) (number : ℕ) → numbered number (filter (λ m. not (m.number == number)) mounts) ≡ None
numbered-ended_same [] number = refl
numbered-ended_same (m ∷ mounts) number = by (m.number == number) refl (numbered-ended_same mounts number)
  where
    by : (v : Bool) → (m.number == number) ≡ v → numbered number (filter (λ m. not (m.number == number)) mounts) ≡ None
        → numbered number (cond (not v) (m ∷ filter (λ m. not (m.number == number)) mounts) (filter (λ m. not (m.number == number)) mounts)) ≡ None
    by true is rest = rest
    by false is rest = ap (λ b. cond b (Some m) (numbered number (filter (λ m. not (m.number == number)) mounts))) is ∙ rest

-- another number than the one that ended
pub numbered-ended_other : (mounts : List Mount) (number gone : ℕ) → number ≢ gone → numbered number (filter (λ m. not (m.number == gone)) mounts) ≡ numbered number mounts
numbered-ended_other [] number gone ne = refl
numbered-ended_other (m ∷ mounts) number gone ne = by (m.number == gone) refl (numbered-ended_other mounts number gone ne)
  where
    by : (v : Bool) → (m.number == gone) ≡ v → numbered number (filter (λ m. not (m.number == gone)) mounts) ≡ numbered number mounts
        → numbered number (cond (not v) (m ∷ filter (λ m. not (m.number == gone)) mounts) (filter (λ m. not (m.number == gone)) mounts)) ≡ cond (m.number == number) (Some m) (numbered number mounts)
    by true is rest =
        rest ∙ sym (ap (λ b. cond b (Some m) (numbered number mounts)) (unequal m.number number (λ e. ne (sym e ∙ eqb-true m.number gone is))))
    by false is rest = ap (λ o. cond (m.number == number) (Some m) o) rest

-- a mount after one of its seats changed, if it is the one
abbrev pub changed : ℕ → ℕ → Bool → Mount → Mount
changed number seat out mount = cond (mount.number == number) (with_seat seat out mount) mount

pub numbered-with_seat : (mounts : List Mount) (number of seat : ℕ) (out : Bool) → numbered number (map (changed of seat out) mounts) ≡ option_map (changed of seat out) (numbered number mounts)
numbered-with_seat [] number of seat out = refl
numbered-with_seat (m ∷ mounts) number of seat out =
    ap (λ n. cond (n == number) (Some (changed of seat out m)) (numbered number (map (changed of seat out) mounts))) (kept (m.number == of))
    ∙ by (m.number == number) (numbered-with_seat mounts number of seat out)
  where
    kept : (v : Bool) → (cond v (with_seat seat out m) m).number ≡ m.number
    kept true = refl
    kept false = refl

    by : (v : Bool) → numbered number (map (changed of seat out) mounts) ≡ option_map (changed of seat out) (numbered number mounts)
        → cond v (Some (changed of seat out m)) (numbered number (map (changed of seat out) mounts)) ≡ option_map (changed of seat out) (cond v (Some m) (numbered number mounts))
    by true rest = refl
    by false rest = rest

-- the new number
none_of_next : (next seats : ℕ) (mounts : List Mount) → AllByRecursion (IsMountOf next seats) mounts → numbered next mounts ≡ None
none_of_next next seats [] h = refl
none_of_next next seats (m ∷ mounts) h =
    let below = h.0.below_next in
    ap (λ b. cond b (Some m) (numbered next mounts)) (unequal m.number next (λ e. omega (arith, below, e))) ∙ none_of_next next seats mounts h.1

pub numbered-announced_next : (table : Table) (owner : ℕ) (name : List ℕ) (description : Sections) (number : ℕ) → IsSound table → number ≡ table.next
    → numbered number (announced table owner name description).mounts ≡ Some (new_mount table owner name description)
numbered-announced_next table owner name description number sound e =
    find-append (λ m. m.number == number) table.mounts (new_mount table owner name description ∷ [])
    ∙ ap (λ o. option_or o (cond (table.next == number) (Some (new_mount table owner name description)) None)) (ap (λ n. numbered n table.mounts) e ∙ none_of_next table.next table.seats table.mounts sound.each)
    ∙ ap (λ b. cond b (Some (new_mount table owner name description)) None) (eq-eqb table.next number (sym e))

-- the mount at a place is the one of its number, of its name and of its owner
pub looked_up : (table : Table) → IsSound table → (i : ℕ) (mount : Mount) → slice_get table.mounts i ≡ Some mount
    → (numbered mount.number table.mounts ≡ Some mount) × (named mount.name table.mounts ≡ Some mount) × (owned_by mount.owner table.mounts ≡ Some mount)
looked_up table sound i mount at = (
  find_one (λ m. m.number) (λ m. m.number == mount.number) table.mounts i mount sound.numbers at (eq-eqb mount.number mount.number refl) (λ y ne. unequal y.number mount.number ne),
  find_one (λ m. m.name) (λ m. bytes_eq mount.name m.name) table.mounts i mount sound.names at ((bytes_decides mount.name mount.name).1 refl) (λ y ne. unequal_bytes mount.name y.name (λ e. ne (sym e))),
  find_one (λ m. m.owner) (λ m. m.owner == mount.owner) table.mounts i mount sound.owners at (eq-eqb mount.owner mount.owner refl) (λ y ne. unequal y.owner mount.owner ne),
)

-- what is the first to pass a test that goes by a key is the only mount with that key
only_one : {A : Type 0} (key : Mount → A) (is : A) (p : Mount → Bool) (mounts : List Mount) (mount : Mount) → AreDifferent (map key mounts) → find p mounts ≡ Some mount → key mount ≡ is
    → IsOnlyOne key mounts is mount
only_one key is p mounts mount apart at has =
    let live : slice_get mounts (position_or_len p mounts) ≡ Some mount = sym (find_at p mounts) ∙ at in
    record {
      place = position_or_len p mounts;
      live = live;
      key_is = has;
      only = λ elsewhere other there same. one_place key mounts elsewhere (position_or_len p mounts) other mount apart there live (same ∙ sym has);
    }

pub only_number : (table : Table) (number : ℕ) (mount : Mount) → IsSound table → numbered number table.mounts ≡ Some mount → IsOnlyOne (λ m. m.number) table.mounts number mount
only_number table number mount sound at =
    only_one (λ m. m.number) number (λ m. m.number == number) table.mounts mount sound.numbers at (eqb-true mount.number number (found_passes (λ m. m.number == number) table.mounts mount at))

pub only_name : (table : Table) (name : List ℕ) (mount : Mount) → IsSound table → named name table.mounts ≡ Some mount → IsOnlyOne (λ m. m.name) table.mounts name mount
only_name table name mount sound at =
    only_one (λ m. m.name) name (λ m. bytes_eq name m.name) table.mounts mount sound.names at (sym ((bytes_decides name mount.name).0 (found_passes (λ m. bytes_eq name m.name) table.mounts mount at)))

pub only_owner : (table : Table) (owner : ℕ) (mount : Mount) → IsSound table → owned_by owner table.mounts ≡ Some mount → IsOnlyOne (λ m. m.owner) table.mounts owner mount
only_owner table owner mount sound at =
    only_one (λ m. m.owner) owner (λ m. m.owner == owner) table.mounts mount sound.owners at (eqb-true mount.owner owner (found_passes (λ m. m.owner == owner) table.mounts mount at))

-- what a path finds is live under its number, and the path goes on after its name
pub found_is_numbered : (table : Table) (path : List ℕ) (number : ℕ) (rest : Option (List ℕ)) → IsSound table → IsFoundIn table.mounts path number rest
    → (mount : Mount) × (numbered number table.mounts ≡ Some mount) × GoesOn path mount.name rest
found_is_numbered table path number rest sound h =
    let one = only_name table h.name h.mount sound h.live in
    let each = looked_up table sound one.place h.mount one.live in
    (h.mount, subst (λ n. numbered n table.mounts ≡ Some h.mount) h.number_is each.0, subst (λ name. GoesOn path name rest) (sym one.key_is) h.goes_on)
