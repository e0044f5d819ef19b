-- The first parameter of a name is found where one has the name, and nowhere else.
use Rattle.std.proofs.Common.{◌≡◌, ℕ, Bool, true, false, cond, List, [], ◌∷◌, ◌++◌, Option, None, Some, inl, inr, refl, ap, sym, subst, ◌∙◌}
use Rattle.std.specs.Prelude.{find, unwrap_or}
use Rattle.std.specs.Option.{option_map}
use Rattle.std.proofs.lemmas.Bool.{false_from_ne_true, true≢false}
use Rattle.base_syntax.specs.Cuts.{IsCut, behind_first}
use Rattle.base_syntax.specs.Names.{same_name}
use Rattle.base_syntax.proofs.Cuts.{is_cut, cut_behind, uncut}
use Rattle.transport_header.specs.Parameter.{IsParameter, HasName, NoneHasName, IsFirstNamed}
use Rattle.transport_header.specs.Transport.{name_of, value_of, value_named}

-- a part that has the name, by its form and by test
is_parameter : (part name : List ℕ) → same_name (name_of part) name ≡ true → IsParameter part name (value_of part)
is_parameter part name same = go (behind_first 61 part) (is_cut 61 part)
  where
    go : (rest : Option (List ℕ)) → IsCut 61 part (name_of part) rest → IsParameter part name (unwrap_or rest [])
    go None cut = record { spelled = name_of part; unbroken = cut.1; same = same; whole = inr (cut.0, refl) }
    go (Some value) cut = record { spelled = name_of part; unbroken = cut.1; same = same; whole = inl cut.0 }

parameter_is : {part name value : List ℕ} → IsParameter part name value → (same_name (name_of part) name ≡ true) × (value_of part ≡ value)
parameter_is {part} {name} {value} p = elim p.whole [
  | inl whole ↦
      let halves = cut_behind 61 p.spelled value p.unbroken in
      (ap (λ t. same_name (name_of t) name) whole ∙ ap (λ n. same_name n name) halves.0 ∙ p.same, ap value_of whole ∙ ap (λ r. unwrap_or r []) halves.1)
  | inr whole ↦
      let halves = uncut 61 p.spelled p.unbroken in
      (ap (λ t. same_name (name_of t) name) whole.0 ∙ ap (λ n. same_name n name) halves.0 ∙ p.same, ap value_of whole.0 ∙ ap (λ r. unwrap_or r []) halves.1 ∙ sym whole.1)
]

other_name : {part name : List ℕ} → ¬ HasName name part → same_name (name_of part) name ≡ false
other_name {part} {name} none = false_from_ne_true _ (λ same. none (value_of part, is_parameter part name same))

no_name : {part name : List ℕ} → same_name (name_of part) name ≡ false → ¬ HasName name part
no_name other has = true≢false (sym (parameter_is has.1).0 ∙ other)

-- a look-up by the test of the first part
abbrev look : (test : Bool) → List ℕ → Option (List ℕ) → Option (List ℕ)
look test part rest = option_map value_of (cond test (Some part) rest)

abbrev found_in : List ℕ → List (List ℕ) → Option (List ℕ)
found_in name parts = find (λ part. same_name (name_of part) name) parts

found : (name value : List ℕ) (before : List (List ℕ)) (part : List ℕ) (after : List (List ℕ)) → NoneHasName name before → IsParameter part name value → value_named name (before ++ part ∷ after) ≡ Some value
found name value [] part after none p = ap (λ t. look t part (found_in name after)) (parameter_is p).0 ∙ ap (λ v. Some v) (parameter_is p).1
found name value (b ∷ before) part after none p = ap (λ t. look t b (found_in name (before ++ part ∷ after))) (other_name none.0) ∙ found name value before part after none.1 p

pub first_found : (parts : List (List ℕ)) (name value : List ℕ) → IsFirstNamed parts name value → value_named name parts ≡ Some value
first_found parts name value p = ap (value_named name) p.whole ∙ found name value p.before p.part p.after p.none_before p.is

pub found_first : (parts : List (List ℕ)) (name value : List ℕ) → value_named name parts ≡ Some value → IsFirstNamed parts name value
found_first [] name value h = absurd (cc)
found_first (part ∷ parts) name value h = go (same_name (name_of part) name) refl (found_first parts name value) h
  where
    go : (test : Bool) → same_name (name_of part) name ≡ test → (value_named name parts ≡ Some value → IsFirstNamed parts name value) → look test part (found_in name parts) ≡ Some value → IsFirstNamed (part ∷ parts) name value
    go true e later h = let same : value_of part ≡ value = cc in record { before = []; part = part; after = parts; whole = refl; none_before = tt; is = subst (IsParameter part name) same (is_parameter part name e) }
    go false e later h =
        let rest = later h in
        record { before = part ∷ rest.before; part = rest.part; after = rest.after; whole = ap (λ ps. part ∷ ps) rest.whole; none_before = (no_name e, rest.none_before); is = rest.is }

-- nothing is found where no part has the name, and nowhere else
pub nothing_named : (parts : List (List ℕ)) (name : List ℕ) → NoneHasName name parts → value_named name parts ≡ None
nothing_named [] name none = refl
nothing_named (part ∷ parts) name none = ap (λ t. look t part (found_in name parts)) (other_name none.0) ∙ nothing_named parts name none.1

pub none_has_name : (parts : List (List ℕ)) (name : List ℕ) → value_named name parts ≡ None → NoneHasName name parts
none_has_name [] name h = tt
none_has_name (part ∷ parts) name h = go (same_name (name_of part) name) refl (none_has_name parts name) h
  where
    go : (test : Bool) → same_name (name_of part) name ≡ test → (value_named name parts ≡ None → NoneHasName name parts) → look test part (found_in name parts) ≡ None → NoneHasName name (part ∷ parts)
    go true e later h = absurd (cc)
    go false e later h = (no_name e, later h)
