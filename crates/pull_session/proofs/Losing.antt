-- A frame for which there is no memory.
use Rattle.std.proofs.Common.{◌≡◌, ℕ, sym, ap, subst, ◌∙◌}
use Rattle.std.specs.Prelude.{IsSome}
use Rattle.interleaved.specs.declared.frame.Frame.{Frame as Block}
use Rattle.rtsp_client.specs.Clients.{State}
use Rattle.rtsp_client.specs.declared.frame_account.FrameFate.TheVariants.{Waits}
use Rattle.rtsp_client.specs.declared.passage.Passage.{Passage}
use Rattle.pull_session.specs.Passing.{CountsFrame, LosesFrame, PassState, heard_by}

-- it is counted, and then the client ends
pub loses : (frame : Block) (now channel : ℕ) (old new : PassState) (counted : State) → CountsFrame frame (Waits channel) old.client counted.passage
    → counted ≡ record old.client { passage = counted.passage } → new.client ≡ record counted { end = new.client.end } → IsSome new.client.end
    → new.waiting ≡ old.waiting → new.watch ≡ heard_by (Waits channel) now old.watch → LosesFrame frame now old new
loses frame now channel old new counted counts others client ends same heard =
    let passage : counted.passage ≡ new.client.passage = sym (ap (λ (state : State). state.passage) client) in
    record {
      channel = channel;
      counts = subst (λ (passage : Passage). CountsFrame frame (Waits channel) old.client passage) passage counts;
      others = client ∙ ap (λ (state : State). record state { end = new.client.end }) others
          ∙ ap (λ (passage : Passage). record old.client { passage = passage; end = new.client.end }) passage;
      same = same;
      heard = heard;
      ends = ends;
    }
