-- Addresses that are counted together.
use Rattle.std.proofs.Common.{◌≡◌, ◌↔◌, ◌++◌, ℕ, List, ap, sym, ◌∙◌, arith, replicate}
use Rattle.std.proofs.lemmas.List.{append_cancel_right}
use Rattle.networks.specs.declared.address.Address.{Address}
use Rattle.networks.specs.declared.address.Address.TheVariants.{V4, V6}
use Rattle.networks.specs.Addresses.{bits_of, width_of, number_of, FitsFamily}
use Rattle.networks.specs.Groups.{IsGroupOf, AreCountedTogether}
use Rattle.networks.proofs.Addresses.{address_unique}

pub same_group : (a b g h : Address) → FitsFamily g → FitsFamily h → IsGroupOf a g → IsGroupOf b h → (g ≡ h) ↔ AreCountedTogether a b
same_group (V4 m) (V4 n) g h lg lh ga hb = (λ e. ap number_of (sym ga ∙ e ∙ hb), λ e. ga ∙ ap V4 e ∙ sym hb)
same_group (V6 m) (V6 n) g h lg lh ga hb = (
  λ e. append_cancel_right _ _ (replicate 64 0) (sym ga.1 ∙ ap bits_of e ∙ hb.1),
  λ e. address_unique g h lg lh (ga.0 ∙ sym hb.0) (ga.1 ∙ ap (λ (xs : List ℕ). xs ++ replicate 64 0) e ∙ sym hb.1),
)
same_group (V4 m) (V6 n) g h lg lh ga hb = (λ e. let w = ap width_of (sym ga ∙ e) ∙ hb.0 in absurd (omega (arith, w)), λ none. absurd none)
same_group (V6 m) (V4 n) g h lg lh ga hb = (λ e. let w = ap width_of (e ∙ hb) in absurd (omega (arith, w, ga.0)), λ none. absurd none)
