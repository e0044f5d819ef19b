-- A quoted string is read as what was written.
use Rattle.std.proofs.Common.{◌≡◌, ℕ, false, List, [], ◌∷◌, ◌++◌, Some, refl, ap, sym, subst, ◌∙◌, ⊎_elim, append_assoc}
use Rattle.std.specs.Char.{is_ascii_control}
use Rattle.std.specs.List.{flat_map}
use Rattle.std.specs.Option.{option_map}
use Rattle.std.proofs.lemmas.Bool.Decides.{eqb_tells}
use Rattle.rtsp_auth.specs.Written.{HasNoControl}
use Rattle.rtsp_auth.specs.Answers.{quoted_byte}
use Rattle.rtsp_auth.specs.Values.{unquoted_from, unquoted}

one_byte : (byte : ℕ) (rest : List ℕ) → is_ascii_control byte ≡ false → unquoted_from false (quoted_byte byte ++ rest) ≡ option_map (λ value. byte ∷ value) (unquoted_from false rest)
one_byte byte rest plain =
    let Reads : ℕ → Type 0 = λ b. unquoted_from false (quoted_byte b ++ rest) ≡ option_map (λ value. b ∷ value) (unquoted_from false rest) in
    ⊎_elim
    (λ quote. subst Reads (sym quote.1) refl)
    (λ no_quote. ⊎_elim
    (λ slash. subst Reads (sym slash.1) refl)
    (λ no_slash. simp (no_quote.0, no_slash.0, plain) refl)
    (eqb_tells byte 92))
    (eqb_tells byte 34)

pub read_again : (value : List ℕ) → HasNoControl value → unquoted (flat_map quoted_byte value ++ 34 ∷ []) ≡ Some value
read_again [] h = refl
read_again (byte ∷ bytes) h =
    ap unquoted (append_assoc (quoted_byte byte) (flat_map quoted_byte bytes) (34 ∷ []))
    ∙ one_byte byte (flat_map quoted_byte bytes ++ 34 ∷ []) h.0
    ∙ ap (option_map (λ value. byte ∷ value)) (read_again bytes h.1)
