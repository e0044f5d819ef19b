use Rattle.std.proofs.Common.{◌≡◌, ◌≢◌, ℕ, List, IsSome, IfSome, Option, None, Some, refl, subst}
use Rattle.transport_header.specs.declared.chosen.Chosen.{Chosen}
use Rattle.transport_header.specs.declared.spec.Spec.{Spec}
use Rattle.transport_header.specs.Chosen.{AreUnused, IsChosen, IsFirstAcceptable}
use Rattle.transport_header.proofs.OneChoice.{none_with_first}
use Rattle.transport_header.proofs.OtherTracks.{may_have_unused}
use Rattle.session_state.specs.Judged.{pair_of}
use Rattle.session_state.proofs.replies.setup.chosen_among.Goals as goal

is_found : (specs : List Spec) (used : List ℕ) (spec : Spec) (found : Option Chosen) → IsFirstAcceptable specs spec → IsChosen specs used found → IsSome found
is_found specs used spec None first chosen = absurd (none_with_first specs spec chosen first)
is_found specs used spec (Some found) first chosen = refl

pub unwrap-requires : goal.unwrap-requires
unwrap-requires c = is_found c.args.specs.now c.others-used.result c.requires.0 c.choose.result c.requires.1 c.choose.ensures.chosen

pub returns : goal.returns
returns c =
    let is : c.choose.result ≡ Some c.unwrap.result = c.unwrap.ensures in
    record {
      used = c.others-used.result;
      others = c.others-used.ensures;
      is_chosen = subst (IsChosen c.args.specs.now c.others-used.result) is c.choose.ensures.chosen;
      may_have = may_have_unused c.args.channels.now c.args.track c.others-used.result (pair_of c.unwrap.result) c.others-used.ensures
          (subst (λ (found : Option Chosen). IfSome found (λ chosen. chosen.rtp ≢ chosen.rtcp)) is c.choose.ensures.apart)
          (subst (λ (found : Option Chosen). IfSome found (λ chosen. AreUnused c.others-used.result chosen.rtp chosen.rtcp)) is c.choose.ensures.unused);
    }
