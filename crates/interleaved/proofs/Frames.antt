-- Lemmas on frames.
use Rattle.std.proofs.Common.{◌≡◌, ℕ, ◌+◌, ◌*◌, ◌≤◌, List, [], ◌∷◌, ◌++◌, length, take, drop, get_or, sym, ap, ◌∙◌, arith}
use Rattle.std.proofs.lemmas.List.{length-take-le, take-append-drop}
use Rattle.std.proofs.Math.Seq.{take-append_seam, take-add}
use Rattle.interleaved.specs.Frame.{IsFrame, FrameBegins, MayBeginFrame, NoFrameBeginsAnother}

-- two beginnings of one list that are equally long are the same
pub same_front : (xs ys after after' : List ℕ) → length xs ≡ length ys → xs ++ after ≡ ys ++ after' → xs ≡ ys
same_front xs ys after after' len e =
    sym (take-append_seam xs after) ∙ ap (take (length xs)) e ∙ ap (λ n. take n (ys ++ after')) len ∙ take-append_seam ys after'

pub no_frame_begins_another : NoFrameBeginsAnother
no_frame_begins_another one other after after' channel channel' payload payload' f g e =
    let joined : 36 ∷ channel ∷ f.0 ∷ f.1 ∷ (payload ++ after) ≡ 36 ∷ channel' ∷ g.0 ∷ g.1 ∷ (payload' ++ after') =
    sym (ap (λ l. l ++ after) f.2) ∙ e ∙ ap (λ l. l ++ after') g.2 in
    let rests : payload ++ after ≡ payload' ++ after' = cc in
    let high : f.0 ≡ g.0 = cc in
    let low : f.1 ≡ g.1 = cc in
    let channels : channel ≡ channel' = cc in
    let lengths : length payload ≡ length payload' = omega (arith, f.3, g.3, high, low) in
    let payloads = same_front payload payload' after after' lengths rests in
    (cc, channels, payloads)

-- the first bytes past a head of four
take-head : (a b c d m : ℕ) (rest : List ℕ) → take (4 + m) (a ∷ b ∷ c ∷ d ∷ rest) ≡ a ∷ b ∷ c ∷ d ∷ take m rest
take-head a b c d m rest = take-add 4 m (a ∷ b ∷ c ∷ d ∷ rest)

-- where all the announced bytes are there, they are a frame
pub FrameBegins-announced : (bytes : List ℕ) (len : ℕ) → MayBeginFrame bytes → 4 ≤ length bytes → len ≡ 4 + (256 * get_or bytes 2 0 + get_or bytes 3 0) → len ≤ length bytes → FrameBegins bytes len
FrameBegins-announced [] len dollar four is fits = absurd (omega arith)
FrameBegins-announced (a ∷ []) len dollar four is fits = absurd (omega arith)
FrameBegins-announced (a ∷ b ∷ []) len dollar four is fits = absurd (omega arith)
FrameBegins-announced (a ∷ b ∷ c ∷ []) len dollar four is fits = absurd (omega arith)
FrameBegins-announced (a ∷ b ∷ c ∷ d ∷ rest) len dollar four is fits =
    let room : 256 * c + d ≤ length rest = omega arith in (
      fits,
      b,
      take (256 * c + d) rest,
      (
        c,
        d,
        ap (λ n. take n (a ∷ b ∷ c ∷ d ∷ rest)) is ∙ take-head a b c d (256 * c + d) rest ∙ ap (λ x. x ∷ b ∷ c ∷ d ∷ take (256 * c + d) rest) (dollar (omega arith)),
        length-take-le (256 * c + d) rest room,
      ),
    )

-- a frame in front is as long as announced
pub FrameBegins-length : (bytes : List ℕ) (len : ℕ) → FrameBegins bytes len → len ≡ 4 + (256 * get_or bytes 2 0 + get_or bytes 3 0)
FrameBegins-length bytes len begins =
    let frame = begins.3 in
    let whole : bytes ≡ 36 ∷ begins.1 ∷ frame.0 ∷ frame.1 ∷ (begins.2 ++ drop len bytes) =
    sym (take-append-drop len bytes) ∙ ap (λ l. l ++ drop len bytes) frame.2 in
    omega (arith, length-take-le len bytes begins.0, ap length frame.2, frame.3, ap (λ s. get_or s 2 0) whole, ap (λ s. get_or s 3 0) whole)

-- a frame is as long as its first four bytes say
pub IsFrame-length : (bytes head : List ℕ) (channel : ℕ) (payload : List ℕ) → take 4 bytes ≡ head → IsFrame bytes channel payload → length bytes ≡ 4 + (256 * get_or head 2 0 + get_or head 3 0)
IsFrame-length bytes head channel payload front frame =
    let four : 36 ∷ channel ∷ frame.0 ∷ frame.1 ∷ [] ≡ head = sym (ap (take 4) frame.2) ∙ front in
    omega (arith, ap length frame.2, frame.3, ap (λ s. get_or s 2 0) four, ap (λ s. get_or s 3 0) four)
