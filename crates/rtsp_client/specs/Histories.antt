-- What came of a client's requests.
use Rattle.std.specs.Prelude.{◌≡◌, ℕ, List, [], ◌∷◌, Some}
use Rattle.rtsp_client.specs.declared.asked.Asked.{Asked}
use Rattle.rtsp_client.specs.declared.asked.Asked.TheVariants.{Describe as description}
use Rattle.rtsp_client.specs.declared.step.Step.TheVariants.{Describe}
use Rattle.rtsp_client.specs.Steps.{IsSetUp, Place, asked_in, described_from, done_from, left_out_from, start}

-- what came of a request
pub data Answer : Type 0 where
  -- what was asked for is done
  is_done : Asked → Answer
  -- the description came, and has so many tracks that can be used
  is_described : (tracks : ℕ) → Answer
  -- the track that was asked for is left out
  is_left_out : Answer

-- how far a client has come with an answer
abbrev pub Comes : Answer → (old new : Place) → Type 0
Comes (is_done asked) old new = (asked_in old.step ≡ Some asked) × (asked ≡ description → ⊥) × (new ≡ done_from old)
Comes (is_described tracks) old new = (old.step ≡ Describe) × (new ≡ described_from tracks old)
Comes is_left_out old new = IsSetUp old.step × (new ≡ left_out_from old)

-- how far it has come with these answers, of which the last one is the first of the list
abbrev pub HasCome : List Answer → Place → Type 0
HasCome [] place = place ≡ start
HasCome (answer ∷ before) place = (earlier : Place) × HasCome before earlier × Comes answer earlier place
