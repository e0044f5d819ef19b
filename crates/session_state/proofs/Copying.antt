-- A copy of a sorted list, one entry after another.
use Rattle.std.proofs.Common.{◌≡◌, ℕ, List, [], ◌∷◌, ◌++◌, refl, ap, sym, ◌∙◌, subst}
use Rattle.std.specs.Ordering.{nat_cmp, match_ordering, ordering_reverse}
use Rattle.std.specs.declared.cmp.Ordering.TheVariants.{Less}
use Rattle.std.specs.List.{AllByRecursion}
use Rattle.std.specs.List.Sorted.{IsStrictlySortedBy}
use Rattle.std.specs.BTreeMap.{insert_entry}
use Rattle.std.specs.Map.{keys_of}
use Rattle.std.proofs.lemmas.Cmp.{nat_cmp_total}
use Rattle.std.proofs.lemmas.Map.Keys.{sorted_head, sorted_tail}

module _ {X : Type 0} where
  below : (k number : ℕ) (v : X) (done rest : List (ℕ × X)) → AllByRecursion (λ y. nat_cmp k y ≡ Less) (keys_of (done ++ (number, v) ∷ rest)) → nat_cmp k number ≡ Less
  below k number v [] rest all = all.0
  below k number v (e ∷ done) rest all = below k number v done rest all.1

  -- an entry above all others comes last
  placed : (number : ℕ) (v w : X) (done rest : List (ℕ × X)) → IsStrictlySortedBy nat_cmp (keys_of (done ++ (number, v) ∷ rest)) → insert_entry nat_cmp done number w ≡ done ++ (number, w) ∷ []
  placed number v w [] rest sorted = refl
  placed number v w (e ∷ done) rest sorted =
      let less = below e.0 number v done rest (sorted_head nat_cmp e.0 (keys_of (done ++ (number, v) ∷ rest)) sorted) in
      let greater = nat_cmp_total.antisymm number e.0 ∙ ap ordering_reverse less in
      let others = placed number v w done rest (sorted_tail nat_cmp e.0 (keys_of (done ++ (number, v) ∷ rest)) sorted) in
      ap (λ r. match_ordering r ((number, w) ∷ e ∷ done) ((e.0, w) ∷ done) (e ∷ insert_entry nat_cmp done number w)) greater ∙ ap (λ es. e ∷ es) others

  joined : (done rest : List (ℕ × X)) (e : ℕ × X) → (done ++ e ∷ []) ++ rest ≡ done ++ e ∷ rest
  joined [] rest e = refl
  joined (d ∷ done) rest e = ap (λ es. d ∷ es) (joined done rest e)

  -- one entry more of a sorted list is copied
  pub goes_on : (number : ℕ) (v w : X) (done rest more all : List (ℕ × X)) → w ≡ v → done ++ (number, v) ∷ rest ≡ all → IsStrictlySortedBy nat_cmp (keys_of all) → more ≡ insert_entry nat_cmp done number w → more ++ rest ≡ all
  goes_on number v w done rest more all same whole sorted is =
      ap (λ es. es ++ rest) (is ∙ placed number v w done rest (subst (λ es. IsStrictlySortedBy nat_cmp (keys_of es)) (sym whole) sorted))
      ∙ joined done rest (number, w) ∙ ap (λ x. done ++ (number, x) ∷ rest) same ∙ whole
