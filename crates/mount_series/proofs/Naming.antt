-- Names, each of which is once in a list.
use Rattle.std.proofs.Common.{◌≡◌, ◌≢◌, ◌∙◌, sym, inl, inr, ℕ, ◌<◌, List, [], ◌∷◌, ◌++◌, length, length-set, get_or, set, AllPairs, None, arith, true≢false}
use Rattle.std.proofs.lemmas.Bool.{cases_eq}
use Rattle.std.proofs.lemmas.Grind.{common_steps}
use Rattle.std.proofs.lemmas.List.{get_or-set_other, get_or-set_same}
use Rattle.std.proofs.lemmas.List.Quantifiers.{all_pairs_push}
use Rattle.std.proofs.lemmas.List.Sums.{fails_before_first}
use Rattle.std.proofs.lemmas.Slice.Eq.{bytes_eq-Decides}
use Rattle.mount_series.specs.declared.named_sums.NamedSums.{NamedSums}
use Rattle.mount_series.specs.Series.{HaveOtherNames, is_of, place_of}

set_at : {X : Type 0} (xs : List X) (n k : ℕ) (y d : X) → k ≡ n → n < length xs → get_or (set xs n y) k d ≡ y
set_at xs n k y d same here = rw same (get_or-set_same xs n y d here)

-- each of two holds still, if what is put at a place does with those before it and those behind it
pub all_pairs_set : {X : Type 0} (R : X → X → Type 0) (xs : List X) (n : ℕ) (y : X) → n < length xs → AllPairs R xs
    → ((k : ℕ) (d : X) → k < n → R (get_or xs k d) y) → ((k : ℕ) (d : X) → n < k → k < length xs → R y (get_or xs k d)) → AllPairs R (set xs n y)
all_pairs_set R xs n y here pairs before behind i j d lt within =
    let long = length-set xs n y in
    elim (cases_eq i n) [
      | inl first ↦
          let other : j ≢ n = λ e. omega arith in
          rw (set_at xs n i y d first here, get_or-set_other xs n j y d other) (behind j d (omega arith) (omega arith))
      | inr unlike ↦ elim (cases_eq j n) [
        | inl last ↦ rw (get_or-set_other xs n i y d unlike, set_at xs n j y d last here) (before i d (omega arith))
        | inr neither ↦ rw (get_or-set_other xs n i y d unlike, get_or-set_other xs n j y d neither) (pairs i j d lt (omega arith))
      ]
    ]

-- none has a name that isn't found
pub is_new : (name : List ℕ) (named : List NamedSums) → place_of name named ≡ None → (k : ℕ) (d : NamedSums) → k < length named → (get_or named k d).name ≢ name
is_new name named none k d within same =
    let found = (bytes_eq-Decides (get_or named k d).name name).1 same in
    let missed = fails_before_first (is_of name) named k d (grind (arith, common_steps)) in
    true≢false (sym found ∙ missed)

-- a name that isn't found may be added
pub added : (named : List NamedSums) (sums : NamedSums) → place_of sums.name named ≡ None → AllPairs HaveOtherNames named → AllPairs HaveOtherNames (named ++ sums ∷ [])
added named sums none pairs = all_pairs_push HaveOtherNames named sums pairs (is_new sums.name named none)

-- a name that isn't found may take a place
pub replaced : (named : List NamedSums) (place : ℕ) (sums : NamedSums) → place < length named → place_of sums.name named ≡ None → AllPairs HaveOtherNames named → AllPairs HaveOtherNames (set named place sums)
replaced named place sums here none pairs =
    all_pairs_set HaveOtherNames named place sums here pairs
    (λ k d before. is_new sums.name named none k d (omega arith))
    (λ k d behind within same. is_new sums.name named none k d within (sym same))

-- the sums of a name may change
pub kept : (named : List NamedSums) (place : ℕ) (sums : NamedSums) → place < length named → ((d : NamedSums) → (get_or named place d).name ≡ sums.name) → AllPairs HaveOtherNames named → AllPairs HaveOtherNames (set named place sums)
kept named place sums here name pairs =
    all_pairs_set HaveOtherNames named place sums here pairs
    (λ k d before same. pairs k place d before here (same ∙ sym (name d)))
    (λ k d behind within same. pairs place k d behind within (name d ∙ same))
