-- Cutting a field from its front.
use Rattle.std.proofs.Common.{◌≡◌, ◌<◌, ◌≤◌, ◌+◌, ℕ, Bool, true, false, cond, List, [], ◌∷◌, ◌++◌, length, take, drop, get_or, refl, ap, sym, ◌∙◌, append_assoc, append-nil}
use Rattle.std.specs.List.{onto_first}
use Rattle.std.proofs.lemmas.Bool.{cond-true, cond-false}
use Rattle.std.proofs.lemmas.List.{at_drop_more, at_drop_all, take_more, take_all}
use Rattle.rtsp_auth.specs.declared.place.Place.{Place}
use Rattle.rtsp_auth.specs.declared.place.Place.TheVariants as places
use Rattle.rtsp_auth.specs.Pieces.{cuts, place_after, pieces_from, pieces}

-- the pieces, with a text before the first of them
abbrev pub onto : List ℕ → List (List ℕ) → List (List ℕ)
onto front [] = front ∷ []
onto front (piece ∷ others) = (front ++ piece) ∷ others

onto-onto_first : (front : List ℕ) (b : ℕ) (ps : List (List ℕ)) → onto front (onto_first b ps) ≡ onto (front ++ b ∷ []) ps
onto-onto_first front b [] = refl
onto-onto_first front b (p ∷ ps) = ap (λ piece. piece ∷ ps) (sym (append_assoc front (b ∷ []) p))

-- what is left of a text at i has the text's pieces after the front
pub record PiecesAt (text : List ℕ) (i : ℕ) (place : Place) : Type 0 where
  pub so_far : pieces text ≡ onto (take i text) (pieces_from place (drop i text))

begins_cond : (test : Bool) (b : ℕ) (ps qs : List (List ℕ)) → onto [] (cond test ([] ∷ ps) (onto_first b qs)) ≡ cond test ([] ∷ ps) (onto_first b qs)
begins_cond true b ps qs = refl
begins_cond false b ps [] = refl
begins_cond false b ps (q ∷ qs) = refl

begins_from : (place : Place) (text : List ℕ) → onto [] (pieces_from place text) ≡ pieces_from place text
begins_from place [] = refl
begins_from place (b ∷ bs) = begins_cond (cuts place b) b (pieces_from places.Outside bs) (pieces_from (place_after place b) bs)

pub begins : (text : List ℕ) → PiecesAt text 0 places.Outside
begins text = record { so_far = sym (begins_from places.Outside text) }

pub goes_on : (text : List ℕ) (i : ℕ) (place : Place) → i < length text → PiecesAt text i place → cuts place (get_or text i 0) ≡ false → PiecesAt text (i + 1) (place_after place (get_or text i 0))
goes_on text i place below before within =
    let b : ℕ = get_or text i 0 in
    let others : List (List ℕ) = pieces_from (place_after place b) (drop (i + 1) text) in
    let front : List ℕ = take i text in
    record {
      so_far = before.so_far
          ∙ ap (onto front) (at_drop_more (pieces_from place) text i 0 below ∙ cond-false _ _ _ within)
          ∙ onto-onto_first front b others
          ∙ ap (λ t. onto t others) (sym (take_more text i 0 below));
    }

pub cut_at : (text : List ℕ) (i : ℕ) (place : Place) → i < length text → PiecesAt text i place → cuts place (get_or text i 0) ≡ true → pieces text ≡ take i text ∷ pieces (drop (i + 1) text)
cut_at text i place below before here =
    before.so_far
    ∙ ap (onto (take i text)) (at_drop_more (pieces_from place) text i 0 below ∙ cond-true _ _ _ here)
    ∙ ap (λ t. t ∷ pieces (drop (i + 1) text)) (append-nil (take i text))

pub ends : (text : List ℕ) (i : ℕ) (place : Place) → length text ≤ i → PiecesAt text i place → pieces text ≡ text ∷ []
ends text i place over before =
    before.so_far
    ∙ ap (onto (take i text)) (at_drop_all (pieces_from place) text i over)
    ∙ ap (λ t. t ∷ []) (append-nil (take i text) ∙ take_all i text over)
