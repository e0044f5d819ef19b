-- The frames among what a client sends are those that its reader reads.
use Rattle.std.proofs.Common.{◌≡◌, List, [], ◌∷◌, map, refl, ap}
use Rattle.interleaved.specs.declared.frame.Frame.{Frame as Block}
use Rattle.request_text.specs.Sending.{Asking, Framed, Sent, sent_unit}
use Rattle.relay_pass.specs.Came.{frames_among}
use Rattle.client_laws.specs.Sent.{frames_sent}

-- the frames among the units are those that were sent
pub same_frames : (items : List Sent) → frames_among (map sent_unit items) ≡ frames_sent items
same_frames [] = refl
same_frames (Asking request ∷ items) = same_frames items
same_frames (Framed frame ∷ items) = ap (λ (l : List Block). frame ∷ l) (same_frames items)
