use Rattle.std.proofs.Common.{◌-◌, ℕ, List, [], ◌∷◌, ◌++◌, Option, None, Some, length, sym, ap, subst, ◌∙◌, arith, length-append}
use Rattle.rtsp_message.specs.declared.peer.Peer.{Peer}
use Rattle.rtsp_message.specs.declared.fault.Fault.{Fault}
use Rattle.rtsp_message.specs.declared.known.Known.TheVariants as knows
use Rattle.rtsp_message.specs.Knowns.{IsKnown}
use Rattle.rtsp_message.specs.ReaderStates.{PeerReaderState, ending_from, KeepsBeginning, NeedsMoreFrom}
use Rattle.rtsp_message.proofs.Keeping.{known_grows}
use Rattle.rtsp_message.proofs.Looking.{dollar_waits, frame_waits}
use Rattle.rtsp_message.proofs.peer_reader.PeerReader.missing.Goals.{in-Dollar, in-Frame}
use Rattle.rtsp_message.proofs.peer_reader.PeerReader.missing.Goals as goal

-- a dollar sign waits for the rest of its head
dollar_needs : (peer : Peer) (rest : List ℕ) (fault : Option Fault) → KeepsBeginning peer rest fault → IsKnown peer rest knows.Dollar → NeedsMoreFrom peer (ending_from rest fault) (4 - length rest)
dollar_needs peer rest None keeps known = λ more short.
    (dollar_waits peer (rest ++ more) (known_grows peer rest more knows.Dollar known) (omega (arith, short, length-append rest more))).0
dollar_needs peer [] (Some fault) keeps known = known
dollar_needs peer (b ∷ rest) (Some fault) keeps known = absurd (omega (arith, keeps))

-- and a frame's head for its data
frame_needs : (peer : Peer) (rest : List ℕ) (len : ℕ) (fault : Option Fault) → KeepsBeginning peer rest fault → IsKnown peer rest (knows.Frame len) → NeedsMoreFrom peer (ending_from rest fault) (len - length rest)
frame_needs peer rest len None keeps known = λ more short.
    (frame_waits peer (rest ++ more) len (known_grows peer rest more (knows.Frame len) known) (omega (arith, short, length-append rest more))).0
frame_needs peer rest len (Some fault) keeps known = absurd (omega (arith, keeps, known.has_head))

pub returns : goal.returns
returns c =
    let i = c.self.inside in
    let bytes = i.store.bytes in
    let needs : NeedsMoreFrom i.peer (ending_from bytes i.fault) (c.match-self.len - length bytes) = elim c.match-self.branch [
      | in-Dollar w ↦
          subst (λ (n : ℕ). NeedsMoreFrom i.peer (ending_from bytes i.fault) (n - length bytes)) (sym w.len-is)
          (dollar_needs i.peer bytes i.fault c.self.invariant.keeps (subst (IsKnown i.peer bytes) w.in-Dollar.is c.self.invariant.knows))
      | in-Frame w ↦
          subst (λ (n : ℕ). NeedsMoreFrom i.peer (ending_from bytes i.fault) (n - length bytes)) (sym w.len-is)
          (frame_needs i.peer bytes w.in-Frame.len i.fault c.self.invariant.keeps (subst (IsKnown i.peer bytes) w.in-Frame.is c.self.invariant.knows))
    ] in
    subst (NeedsMoreFrom c.args.self.now.peer c.args.self.now.state.reading) (sym (c.saturating_sub.ensures ∙ ap (λ (n : ℕ). c.match-self.len - n) c.len.ensures))
    (subst (λ (s : PeerReaderState). NeedsMoreFrom s.peer s.state.reading (c.match-self.len - length bytes)) c.self.view_is needs)
