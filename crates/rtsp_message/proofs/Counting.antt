-- Looks that add up.
use Rattle.std.proofs.Common.{◌≡◌, ℕ, ◌+◌, ◌≤◌, ap, ◌∙◌, arith}
use Rattle.rtsp_message.specs.Stores.{StoreState, looked_more, LooksOnly}

-- looks, more looks, and so many in the end
pub looks_add : (a b c d : StoreState) (x y u v n x' y' : ℕ) → LooksOnly a b x y → LooksOnly b c u v → d ≡ looked_more c n → y + v + n + x' ≤ y' + x + u → LooksOnly a d x' y'
looks_add a b c d x y u v n x' y' p q last within = record {
  bytes = ap (λ (s : StoreState). s.bytes) last ∙ q.bytes ∙ p.bytes;
  room = ap (λ (s : StoreState). s.room) last ∙ q.room ∙ p.room;
  at_most = let e = ap (λ (s : StoreState). s.looked) last in omega (arith, e, p.at_most, q.at_most);
  grows = let e = ap (λ (s : StoreState). s.looked) last in λ h. let first = p.grows h in let second = q.grows (p.fits h) in let few = q.fits (p.fits h) in omega (arith, e, first, second, few);
  fits = let e = ap (λ (s : StoreState). s.looked) last in λ h. omega arith;
}

-- looks, and more looks
pub looks_then : (a b c : StoreState) (x y u v x' y' : ℕ) → LooksOnly a b x y → LooksOnly b c u v → y + v + x' ≤ y' + x + u → LooksOnly a c x' y'
looks_then a b c x y u v x' y' p q within = record {
  bytes = q.bytes ∙ p.bytes;
  room = q.room ∙ p.room;
  at_most = omega (arith, p.at_most, q.at_most);
  grows = λ h. let first = p.grows h in let second = q.grows (p.fits h) in omega (arith, first, second);
  fits = λ h. q.fits (p.fits h);
}
