-- Cutting a text from its front.
use Rattle.std.proofs.Common.{◌≡◌, ◌<◌, ◌≤◌, ◌+◌, ℕ, Bool, true, false, cond, List, [], ◌∷◌, ◌++◌, length, take, drop, get_or, refl, ap, sym, ◌∙◌, append_assoc, append-nil}
use Rattle.std.specs.List.{onto_first}
use Rattle.std.proofs.lemmas.Bool.{cond-true, cond-false}
use Rattle.std.proofs.lemmas.List.{at_drop_more, at_drop_all, take_more, take_all}
use Rattle.base_syntax.specs.Quotes.{cuts, quoted_after, parts_from, parts}

-- the parts, with a text before the first of them
abbrev pub onto : List ℕ → List (List ℕ) → List (List ℕ)
onto front [] = front ∷ []
onto front (part ∷ others) = (front ++ part) ∷ others

onto-onto_first : (front : List ℕ) (b : ℕ) (ps : List (List ℕ)) → onto front (onto_first b ps) ≡ onto (front ++ b ∷ []) ps
onto-onto_first front b [] = refl
onto-onto_first front b (p ∷ ps) = ap (λ part. part ∷ ps) (sym (append_assoc front (b ∷ []) p))

-- what is left of a text at i, in or outside of quotes, has the text's parts after the front
pub record PartsAt (separator : ℕ) (text : List ℕ) (i : ℕ) (quoted : Bool) : Type 0 where
  pub so_far : parts separator text ≡ onto (take i text) (parts_from separator quoted (drop i text))

begins_cond : (test : Bool) (b : ℕ) (ps qs : List (List ℕ)) → onto [] (cond test ([] ∷ ps) (onto_first b qs)) ≡ cond test ([] ∷ ps) (onto_first b qs)
begins_cond true b ps qs = refl
begins_cond false b ps [] = refl
begins_cond false b ps (q ∷ qs) = refl

begins_from : (separator : ℕ) (quoted : Bool) (text : List ℕ) → onto [] (parts_from separator quoted text) ≡ parts_from separator quoted text
begins_from separator quoted [] = refl
begins_from separator quoted (b ∷ bs) = begins_cond (cuts separator quoted b) b (parts_from separator false bs) (parts_from separator (quoted_after quoted b) bs)

pub begins : (separator : ℕ) (text : List ℕ) → PartsAt separator text 0 false
begins separator text = record { so_far = sym (begins_from separator false text) }

pub goes_on : (separator : ℕ) (text : List ℕ) (i : ℕ) (quoted : Bool) → i < length text → PartsAt separator text i quoted → cuts separator quoted (get_or text i 0) ≡ false → PartsAt separator text (i + 1) (quoted_after quoted (get_or text i 0))
goes_on separator text i quoted below before within =
    let b : ℕ = get_or text i 0 in
    let others : List (List ℕ) = parts_from separator (quoted_after quoted b) (drop (i + 1) text) in
    let front : List ℕ = take i text in
    record {
      so_far = before.so_far
          ∙ ap (onto front) (at_drop_more (parts_from separator quoted) text i 0 below ∙ cond-false _ _ _ within)
          ∙ onto-onto_first front b others
          ∙ ap (λ t. onto t others) (sym (take_more text i 0 below));
    }

pub cut_at : (separator : ℕ) (text : List ℕ) (i : ℕ) (quoted : Bool) → i < length text → PartsAt separator text i quoted → cuts separator quoted (get_or text i 0) ≡ true → parts separator text ≡ take i text ∷ parts separator (drop (i + 1) text)
cut_at separator text i quoted below before here =
    before.so_far
    ∙ ap (onto (take i text)) (at_drop_more (parts_from separator quoted) text i 0 below ∙ cond-true _ _ _ here)
    ∙ ap (λ t. t ∷ parts separator (drop (i + 1) text)) (append-nil (take i text))

pub ends : (separator : ℕ) (text : List ℕ) (i : ℕ) (quoted : Bool) → length text ≤ i → PartsAt separator text i quoted → parts separator text ≡ text ∷ []
ends separator text i quoted over before =
    before.so_far
    ∙ ap (onto (take i text)) (at_drop_all (parts_from separator quoted) text i over)
    ∙ ap (λ t. t ∷ []) (append-nil (take i text) ∙ take_all i text over)
