use Rattle.std.proofs.Common.{◌≡◌, ℕ, List, [], ◌∷◌, Option, None, Some, Bor, refl, sym, ap, ◌∙◌}
use Rattle.std.specs.Prelude.{unwrap_or}
use Rattle.std.specs.Option.{option_copied}
use Rattle.sdp.specs.Media.{words}
use Rattle.sdp.proofs.Cuts.{next_word_is}
use Rattle.source_sdp.proofs.words.next_word.Goals as goal

rest_is : (rest : Option (Bor (List ℕ))) (none : Bor (List ℕ)) → none.now ≡ [] → (unwrap_or rest none).now ≡ unwrap_or (option_copied rest) []
rest_is None none h = h
rest_is (Some text) none h = refl

pub returns-clause-some : goal.returns-clause-some
returns-clause-some c =
    next_word_is c.args.text.now c.split_at.result.1.now c.cut.result.0.now (option_copied c.cut.result.1) c.leading_spaces.result
    c.leading_spaces.ensures.within c.split_at.ensures.back c.leading_spaces.ensures.same c.leading_spaces.ensures.stops
    (sym c.is_empty.ensures ∙ c.if-is_empty.false) c.cut.ensures.before c.cut.ensures.behind
    ∙ ap (λ (rest : List ℕ). c.cut.result.0.now ∷ words rest) (sym (ap (λ (r : Bor (List ℕ)). r.now) c.unwrap_or.ensures ∙ rest_is c.cut.result.1 c.as_slice.result c.as_slice.ensures))
