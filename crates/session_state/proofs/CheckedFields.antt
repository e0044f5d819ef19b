-- Cutting a text at its commas from the front.
use Rattle.std.proofs.Common.{◌≡◌, ◌==◌, ◌||◌, ◌++◌, ℕ, List, [], ◌∷◌, Option, None, Some, refl, ap, ◌∙◌}
use Rattle.std.specs.List.{before_first, list_any, onto_first}
use Rattle.std.proofs.lemmas.Bool.{cond-false}
use Rattle.base_syntax.specs.Cuts.{HasNone, IsCut, behind_first}
use Rattle.base_syntax.proofs.Cuts.{cut_as}
use Rattle.session_state.specs.Fields.{has_sdp, parts_at_commas}

-- the parts of what is left of a text, where something is
abbrev pub parts_left : Option (List ℕ) → List (List ℕ)
parts_left None = []
parts_left (Some text) = parts_at_commas text

uncut : (front : List ℕ) → HasNone 44 front → parts_at_commas front ≡ front ∷ []
uncut [] none = refl
uncut (b ∷ bs) none = cond-false _ _ _ none.0 ∙ ap (onto_first b) (uncut bs none.1)

cut_behind : (front rest : List ℕ) → HasNone 44 front → parts_at_commas (front ++ 44 ∷ rest) ≡ front ∷ parts_at_commas rest
cut_behind [] rest none = refl
cut_behind (b ∷ bs) rest none = cond-false _ _ _ none.0 ∙ ap (onto_first b) (cut_behind bs rest none.1)

pub parts_cut : (text front : List ℕ) (behind : Option (List ℕ)) → IsCut 44 text front behind → parts_at_commas text ≡ front ∷ parts_left behind
parts_cut text front None is = ap parts_at_commas is.0 ∙ uncut front is.1
parts_cut text front (Some rest) is = ap parts_at_commas is.0 ∙ cut_behind front rest is.1

-- descriptions are among the ranges that are left where they are in the first or among the others
pub first_or_others : (left : Option (List ℕ)) (ranges front : List ℕ) (behind : Option (List ℕ)) → left ≡ Some ranges → front ≡ before_first (λ b. b == 44) ranges → behind ≡ behind_first 44 ranges
    → list_any has_sdp (parts_left left) ≡ (has_sdp front || list_any has_sdp (parts_left behind))
first_or_others left ranges front behind is before after =
    ap (λ o. list_any has_sdp (parts_left o)) is ∙ ap (list_any has_sdp) (parts_cut ranges front behind (cut_as 44 ranges front behind before after))
