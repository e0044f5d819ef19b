use Rattle.std.proofs.Common.{◌≡◌, ℕ, suc, ◌+◌, ◌<◌, List, length, get_or, ap, ◌∙◌, subst, arith}
use Rattle.packet_ring.specs.Table.{grown}
use Rattle.packet_ring.specs.Rule.{Knows}
use Rattle.packet_ring.proofs.Putting.{Put, may_on, started, one_more}
use Rattle.packet_ring.proofs.packets.put.Goals as goal

pub write-requires-2 : goal.write-requires-2
write-requires-2 c = let w = c.write.ensures in let seven = c.requires.fits.2 in (
  w.0 ∙ c.requires.right.0,
  may_on c.args.token.now.me c.write.new.token.me c.args.unit (length c.args.bytes.now + 1) c.requires.right.1 w.3,
  omega arith,
  ap (λ (n : ℕ). n + 1) c.requires.first.0,
)

pub loop-copied-init : goal.loop-copied-init
loop-copied-init c = let w = c.write.ensures in let v = c.write-2.ensures in let seven = c.requires.fits.2 in let wide = w.2 in (
  v.0 ∙ w.0,
  v.1 ∙ w.1,
  omega arith,
  started c.args.token.now.me c.args.unit c.args.tag c.args.bytes.now c.requires.right.1 (omega arith) c.write.new.token.me c.write-2.new.token.me w.3 v.3,
)

pub loop-copied-preserved : goal.loop-copied-preserved
loop-copied-preserved c = let old : Knows = c.args.token.now.me in let bs : List ℕ = c.args.bytes.now in let n : ℕ = c.loop-copied.copied in let me : Knows = c.loop-copied.token.me in let next : Knows = c.put.new.token.me in
    let so = c.loop-copied.invariant in let p = c.put.ensures in let near : n < length bs = c.loop-copied-test.true in let seven = c.requires.fits.2 in let e : suc n ≡ n + 1 = omega arith in
    let is : next ≡ grown me (7 + n) (get_or bs n 0) = p.2 ∙ ap (λ (w : ℕ). grown me (w + n) (get_or bs n 0)) seven in (
      p.0 ∙ so.0,
      p.1 ∙ so.1,
      omega arith,
      subst (λ (k : ℕ). Put old c.args.unit c.args.tag bs k next) e (one_more old c.args.unit c.args.tag bs n me next so.3 near is),
    )
