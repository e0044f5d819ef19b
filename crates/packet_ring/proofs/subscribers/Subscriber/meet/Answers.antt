use Rattle.std.proofs.Common.{◌≡◌, ℕ, List, sym, ap, ◌∙◌, subst, arith}
use mathlib.Core.List.{IsPrefix}
use base.Growing.{prefix_trans}
use Rattle.packet_ring.specs.declared.block.Token.{Token}
use Rattle.packet_ring.specs.Calls.{SeesOn}
use Rattle.packet_ring.specs.Steps.{HasSeen, ends_at}
use Rattle.packet_ring.specs.Views.{Subscribing, seen_by}
use Rattle.packet_ring.proofs.Seeing.{sees_on}
use Rattle.packet_ring.proofs.Ends.{seen_on}
use Rattle.packet_ring.proofs.subscribers.Subscriber.meet.Goals as goal

pub returns-then-self-other-clause-own : goal.returns-then-self-other-clause-own
returns-then-self-other-clause-own c = let t = c.self.inside.token in let k : ℕ = c.self.inside.known in let o = c.other.inside.token in let n : ℕ = c.other.inside.known in let mid : Token = c.tell-both.new.self in let new = c.learn-2.new.self in let had = c.self.invariant.seated.has in let had_other = c.other.invariant.seated.has in
    let same : mid ≡ c.learn.new.self = c.tell-both.ensures.0 in let told : c.tell-both.result.log ≡ c.learn.new.self.me.seen = c.tell-both.ensures.2 in
    let there : IsPrefix o.me.seen mid.me.seen = subst (λ (u : Token). IsPrefix o.me.seen u.me.seen) (sym same) c.learn.ensures.more.0 in let told_mine : c.tell-mine.result.log ≡ t.me.seen = c.tell-mine.ensures.2 in
    let here : IsPrefix t.me.seen mid.me.seen = subst (λ (u : Token). IsPrefix t.me.seen u.me.seen) (sym same) (subst (λ (l : List (List ℕ)). IsPrefix l c.learn.new.self.me.seen) told_mine c.learn.ensures.more.1) in
    let on : IsPrefix mid.me.seen new.me.seen = subst (λ (l : List (List ℕ)). IsPrefix l new.me.seen) (told ∙ ap (λ (u : Token). u.me.seen) (sym same)) c.learn-2.ensures.more.1 in
    let here_on = prefix_trans t.me.seen mid.me.seen new.me.seen here on in let there_on = prefix_trans o.me.seen mid.me.seen new.me.seen there on in let test = c.if-self-other.true in
    let has : HasSeen n new.me.seen = seen_on o.me.seen new.me.seen n there_on had_other in
    (subst (λ (p : Subscribing). SeesOn p.seen p.closed (seen_by new n) (ends_at new.me.seen n)) c.self.view_is (sees_on t.me.seen new.me.seen k n here_on had has (omega arith)), subst (λ (p : Subscribing). SeesOn p.seen p.closed (seen_by new n) (ends_at new.me.seen n)) c.other.view_is (sees_on o.me.seen new.me.seen n n there_on had_other has (omega arith)))

pub returns-then-self-other-clause-others : goal.returns-then-self-other-clause-others
returns-then-self-other-clause-others c = let t = c.self.inside.token in let k : ℕ = c.self.inside.known in let o = c.other.inside.token in let n : ℕ = c.other.inside.known in let mid : Token = c.tell-both.new.self in let new = c.learn-2.new.self in let had = c.self.invariant.seated.has in let had_other = c.other.invariant.seated.has in
    let same : mid ≡ c.learn.new.self = c.tell-both.ensures.0 in let told : c.tell-both.result.log ≡ c.learn.new.self.me.seen = c.tell-both.ensures.2 in
    let there : IsPrefix o.me.seen mid.me.seen = subst (λ (u : Token). IsPrefix o.me.seen u.me.seen) (sym same) c.learn.ensures.more.0 in let told_mine : c.tell-mine.result.log ≡ t.me.seen = c.tell-mine.ensures.2 in
    let here : IsPrefix t.me.seen mid.me.seen = subst (λ (u : Token). IsPrefix t.me.seen u.me.seen) (sym same) (subst (λ (l : List (List ℕ)). IsPrefix l c.learn.new.self.me.seen) told_mine c.learn.ensures.more.1) in
    let on : IsPrefix mid.me.seen new.me.seen = subst (λ (l : List (List ℕ)). IsPrefix l new.me.seen) (told ∙ ap (λ (u : Token). u.me.seen) (sym same)) c.learn-2.ensures.more.1 in
    let here_on = prefix_trans t.me.seen mid.me.seen new.me.seen here on in let there_on = prefix_trans o.me.seen mid.me.seen new.me.seen there on in let test = c.if-self-other.true in
    let has : HasSeen n mid.me.seen = seen_on o.me.seen mid.me.seen n there had_other in
    (subst (λ (p : Subscribing). SeesOn p.seen p.closed (seen_by mid n) (ends_at mid.me.seen n)) c.self.view_is (sees_on t.me.seen mid.me.seen k n here had has (omega arith)), subst (λ (p : Subscribing). SeesOn p.seen p.closed (seen_by mid n) (ends_at mid.me.seen n)) c.other.view_is (sees_on o.me.seen mid.me.seen n n there had_other has (omega arith)))

pub returns-clause-own : goal.returns-clause-own
returns-clause-own c = let t = c.self.inside.token in let k : ℕ = c.self.inside.known in let o = c.other.inside.token in let n : ℕ = c.other.inside.known in let mid : Token = c.tell-both.new.self in let new = c.learn-2.new.self in let had = c.self.invariant.seated.has in let had_other = c.other.invariant.seated.has in
    let same : mid ≡ c.learn.new.self = c.tell-both.ensures.0 in let told : c.tell-both.result.log ≡ c.learn.new.self.me.seen = c.tell-both.ensures.2 in
    let there : IsPrefix o.me.seen mid.me.seen = subst (λ (u : Token). IsPrefix o.me.seen u.me.seen) (sym same) c.learn.ensures.more.0 in let told_mine : c.tell-mine.result.log ≡ t.me.seen = c.tell-mine.ensures.2 in
    let here : IsPrefix t.me.seen mid.me.seen = subst (λ (u : Token). IsPrefix t.me.seen u.me.seen) (sym same) (subst (λ (l : List (List ℕ)). IsPrefix l c.learn.new.self.me.seen) told_mine c.learn.ensures.more.1) in
    let on : IsPrefix mid.me.seen new.me.seen = subst (λ (l : List (List ℕ)). IsPrefix l new.me.seen) (told ∙ ap (λ (u : Token). u.me.seen) (sym same)) c.learn-2.ensures.more.1 in
    let here_on = prefix_trans t.me.seen mid.me.seen new.me.seen here on in let there_on = prefix_trans o.me.seen mid.me.seen new.me.seen there on in let test = c.if-self-other.false in
    let has : HasSeen k new.me.seen = seen_on t.me.seen new.me.seen k here_on had in
    (subst (λ (p : Subscribing). SeesOn p.seen p.closed (seen_by new k) (ends_at new.me.seen k)) c.self.view_is (sees_on t.me.seen new.me.seen k k here_on had has (omega arith)), subst (λ (p : Subscribing). SeesOn p.seen p.closed (seen_by new k) (ends_at new.me.seen k)) c.other.view_is (sees_on o.me.seen new.me.seen n k there_on had_other has (omega arith)))

pub returns-clause-others : goal.returns-clause-others
returns-clause-others c = let t = c.self.inside.token in let k : ℕ = c.self.inside.known in let o = c.other.inside.token in let n : ℕ = c.other.inside.known in let mid : Token = c.tell-both.new.self in let new = c.learn-2.new.self in let had = c.self.invariant.seated.has in let had_other = c.other.invariant.seated.has in
    let same : mid ≡ c.learn.new.self = c.tell-both.ensures.0 in let told : c.tell-both.result.log ≡ c.learn.new.self.me.seen = c.tell-both.ensures.2 in
    let there : IsPrefix o.me.seen mid.me.seen = subst (λ (u : Token). IsPrefix o.me.seen u.me.seen) (sym same) c.learn.ensures.more.0 in let told_mine : c.tell-mine.result.log ≡ t.me.seen = c.tell-mine.ensures.2 in
    let here : IsPrefix t.me.seen mid.me.seen = subst (λ (u : Token). IsPrefix t.me.seen u.me.seen) (sym same) (subst (λ (l : List (List ℕ)). IsPrefix l c.learn.new.self.me.seen) told_mine c.learn.ensures.more.1) in
    let on : IsPrefix mid.me.seen new.me.seen = subst (λ (l : List (List ℕ)). IsPrefix l new.me.seen) (told ∙ ap (λ (u : Token). u.me.seen) (sym same)) c.learn-2.ensures.more.1 in
    let here_on = prefix_trans t.me.seen mid.me.seen new.me.seen here on in let there_on = prefix_trans o.me.seen mid.me.seen new.me.seen there on in let test = c.if-self-other.false in
    let has : HasSeen k mid.me.seen = seen_on t.me.seen mid.me.seen k here had in
    (subst (λ (p : Subscribing). SeesOn p.seen p.closed (seen_by mid k) (ends_at mid.me.seen k)) c.self.view_is (sees_on t.me.seen mid.me.seen k k here had has (omega arith)), subst (λ (p : Subscribing). SeesOn p.seen p.closed (seen_by mid k) (ends_at mid.me.seen k)) c.other.view_is (sees_on o.me.seen mid.me.seen n k there had_other has (omega arith)))
