-- The URI of a relative control begins with the base and ends with the control.
use Rattle.std.proofs.Common.{◌≡◌, ℕ, Bool, true, false, cond, List, [], ◌∷◌, ◌++◌, refl, sym, ◌∙◌}
use Rattle.std.proofs.lemmas.List.{append_cancel_left}
use Rattle.source_urls.specs.Control.{IsBehind, IsRelative, controlled, joined}
use Rattle.source_urls.specs.UriText.{is_slash_last, slash}

between_whole : (b : Bool) (base control : List ℕ) → cond b (base ++ control) (base ++ slash ∷ control) ≡ base ++ (cond b [] (slash ∷ []) ++ control)
between_whole true base control = refl
between_whole false base control = refl

controlled-relative : (base control : List ℕ) → IsRelative control → controlled base control ≡ joined base control
unfolding controlled
controlled-relative base control r = rw (r.no_scheme, r.no_star) refl

whole : (base control : List ℕ) → IsRelative control → controlled base control ≡ base ++ (cond (is_slash_last base) [] (slash ∷ []) ++ control)
whole base control r = controlled-relative base control r ∙ between_whole (is_slash_last base) base control

pub behind : (base control : List ℕ) → IsRelative control → IsBehind base control (controlled base control)
behind base control r = record {
  between = cond (is_slash_last base) [] (slash ∷ []);
  whole = whole base control r;
  one_slash = refl;
}

pub apart : (base one other : List ℕ) → IsRelative one → IsRelative other → controlled base one ≡ controlled base other → one ≡ other
apart base one other r s e =
    let between : List ℕ = cond (is_slash_last base) [] (slash ∷ []) in
    let same : base ++ (between ++ one) ≡ base ++ (between ++ other) = sym (whole base one r) ∙ (e ∙ whole base other s) in
    append_cancel_left between one other (append_cancel_left base (between ++ one) (between ++ other) same)
