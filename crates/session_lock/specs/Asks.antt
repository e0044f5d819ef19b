-- Why a request isn't answered.
use Rattle.std.specs.Prelude.{◌≡◌, ℕ, true, false, List, Vec, Option}
use Rattle.std.specs.Global.{Global}
use Rattle.std.specs.Option.{option_map}
use Rattle.session_state.specs.History.{History}
use Rattle.session_state.specs.Lookups.{is_open}
use Rattle.session_lock.specs.declared.answer.AskFault.{AskFault}
use Rattle.session_lock.specs.declared.answer.AskFault.TheVariants.{NotOpen, BadOffer, NoMemory}
use Rattle.session_lock.specs.Books.{IsOffer}

abbrev pub fault_number : {P : Type 0} → AskFault P → ℕ
fault_number (NotOpen back) = 1
fault_number (BadOffer back) = 2
fault_number (NoMemory back) = 3

-- the first that is wrong is told, and the offer comes back
abbrev pub IsFaultOf : {P : Type 0} → (seats : ℕ) → History → (conn : ℕ) → (method : List ℕ) → (offer : Option (Vec P Global)) → AskFault P → Type 0
IsFaultOf seats history conn method offer (NotOpen back) = (is_open conn history ≡ false) × (back ≡ offer)
IsFaultOf seats history conn method offer (BadOffer back) =
    (is_open conn history ≡ true) × (IsOffer seats method (option_map (λ passes. passes.items) offer) → ⊥) × (back ≡ offer)
IsFaultOf seats history conn method offer (NoMemory back) =
    (is_open conn history ≡ true) × IsOffer seats method (option_map (λ passes. passes.items) offer) × (back ≡ offer)
