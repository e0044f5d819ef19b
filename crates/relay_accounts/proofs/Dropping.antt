-- The frames that come before a message, and are dropped.
use Rattle.std.proofs.Common.{◌≡◌, ℕ, ◌+◌, ◌-◌, ◌^◌, ◌∙◌, List, [], ◌∷◌, ◌++◌, Option, refl, sym, ap, subst, arith, length, length-append}
use Prim.Native.Nat.{min}
use Rattle.interleaved.specs.declared.frame.Frame.{Frame}
use Rattle.rtsp_message.specs.declared.unit.Unit.{Unit as StreamUnit}
use Rattle.rtsp_message.specs.declared.unit.Unit.TheVariants as content
use Rattle.rtsp_message.specs.Intakes.{IntakeState, HandsOut}
use Rattle.rtsp_message.proofs.HandingOut.{HandsOut-trans}
use Rattle.relay_accounts.specs.declared.counts.Counts.{Counts}
use Rattle.relay_accounts.specs.Counting.{with_strangers}
use Rattle.relay_accounts.specs.Incoming.{units_of}

-- one frame more, before what comes then
units_of-push : (frames : List Frame) (frame : Frame) (us : List StreamUnit) → units_of frames ++ content.Frame frame ∷ us ≡ units_of (frames ++ frame ∷ []) ++ us
units_of-push [] frame us = refl
units_of-push (one ∷ frames) frame us = ap (λ (l : List StreamUnit). content.Frame one ∷ l) (units_of-push frames frame us)

-- a count that stays at its end is there after each step
capped_twice : (count frames : ℕ) → min (min (count + frames) (2 ^ 64 - 1) + 1) (2 ^ 64 - 1) ≡ min (count + (frames + 1)) (2 ^ 64 - 1)
capped_twice count frames = omega arith

strangers_twice : (before : Counts) (frames : ℕ) → with_strangers (with_strangers before frames) 1 ≡ with_strangers before (frames + 1)
strangers_twice before frames = ap (λ (s : ℕ). record before { strangers = s }) (capped_twice before.strangers frames)

module _ {S : Type 0} (incoming : S → Option (List ℕ)) where
  -- Frames were handed out and counted as strangers: what comes then comes after them.
  pub record Drops (old now : IntakeState S) (before after : Counts) : Type 0 where
    pub frames : List Frame
    pub then : (new : IntakeState S) (us : List StreamUnit) → HandsOut incoming now new us → HandsOut incoming old new (units_of frames ++ us)
    pub counted : after ≡ with_strangers before (length frames)

  pub drops_more : (old now next : IntakeState S) (before mid after : Counts) (frame : Frame) → Drops old now before mid → HandsOut incoming now next (content.Frame frame ∷ []) → after ≡ with_strangers mid 1 → Drops old next before after
  drops_more old now next before mid after frame p out adds = record {
    frames = p.frames ++ frame ∷ [];
    then = λ new us rest. subst (HandsOut incoming old new) (units_of-push p.frames frame us) (p.then new (content.Frame frame ∷ us) (HandsOut-trans incoming now next new (content.Frame frame ∷ []) us out rest));
    counted = adds ∙ rw p.counted (strangers_twice before (length p.frames) ∙ ap (with_strangers before) (sym (length-append p.frames (frame ∷ []))));
  }
