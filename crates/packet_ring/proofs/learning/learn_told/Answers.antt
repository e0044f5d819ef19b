use Rattle.std.proofs.Common.{arith}
use Rattle.packet_ring.proofs.Seeing.{sees_on}
use Rattle.packet_ring.proofs.Ends.{seen_on}
use Rattle.packet_ring.proofs.learning.learn_told.Goals as goal

pub returns-then-known-length-clause-own : goal.returns-then-known-length-clause-own
returns-then-known-length-clause-own c = let seen = c.args.token.now.me.seen in let told = c.args.told.now.log in let new = c.learn.new.self.me.seen in let more = c.learn.ensures.more in let test = c.if-known-length.true in
    sees_on seen new c.args.known c.args.length more.0 c.requires.had (seen_on told new c.args.length more.1 c.requires.has) (omega arith)

pub returns-then-known-length-clause-told : goal.returns-then-known-length-clause-told
returns-then-known-length-clause-told c = let told = c.args.told.now.log in let new = c.learn.new.self.me.seen in let more = c.learn.ensures.more in
    sees_on told new c.args.length c.args.length more.1 c.requires.has (seen_on told new c.args.length more.1 c.requires.has) (omega arith)

pub returns-else-known-length-clause-own : goal.returns-else-known-length-clause-own
returns-else-known-length-clause-own c = let seen = c.args.token.now.me.seen in let new = c.learn.new.self.me.seen in let more = c.learn.ensures.more in
    sees_on seen new c.args.known c.args.known more.0 c.requires.had (seen_on seen new c.args.known more.0 c.requires.had) (omega arith)

pub returns-else-known-length-clause-told : goal.returns-else-known-length-clause-told
returns-else-known-length-clause-told c = let seen = c.args.token.now.me.seen in let told = c.args.told.now.log in let new = c.learn.new.self.me.seen in let more = c.learn.ensures.more in let test = c.if-known-length.false in
    sees_on told new c.args.length c.args.known more.1 c.requires.has (seen_on seen new c.args.known more.0 c.requires.had) (omega arith)
