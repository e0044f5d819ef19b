use Rattle.std.proofs.Common.{◌≡◌, ◌∷◌, ◌++◌, ap, sym, ◌∙◌}
use Rattle.std.specs.Map.Iter.{deref_pair}
use Rattle.std.proofs.lemmas.Map.Iter.{rest_more}
use Rattle.session_state.proofs.Copying.{goes_on}
use Rattle.session_state.proofs.world.copy_connections.Goals as goal

pub loop-conn-preserved-in_ok-insert : goal.loop-conn-preserved-in_ok-insert
loop-conn-preserved-in_ok-insert c =
    let rest = rest_more deref_pair c.loop-conn.conn-iterator c.next.new.self c.next.result (c.in-Some.conn, c.in-Some.connection) c.in-Some.is c.next.ensures.steps in
    let whole : c.loop-conn.copied.entries ++ (c.in-Some.conn.now, c.in-Some.connection.now) ∷ c.next.new.self ≡ c.args.connections.now.entries = ap (λ r. c.loop-conn.copied.entries ++ r) (sym rest) ∙ c.loop-conn.invariant in
    goes_on c.in-Some.conn.now c.in-Some.connection.now c.in_ok-copy.field-0 c.loop-conn.copied.entries c.next.new.self c.insert.new.self.entries c.args.connections.now.entries
    c.in_ok-copy.ensures whole c.into_iter-conn-iterator.ensures.into_iter_gives.5 c.in_ok-insert.ensures.entries

pub loop-conn-preserved-in_ok-insert-2 : goal.loop-conn-preserved-in_ok-insert-2
loop-conn-preserved-in_ok-insert-2 c =
    let rest = rest_more deref_pair c.loop-conn.conn-iterator c.next.new.self c.next.result (c.in-Some.conn, c.in-Some.connection) c.in-Some.is c.next.ensures.steps in
    let whole : c.loop-conn.copied.entries ++ (c.in-Some.conn.now, c.in-Some.connection.now) ∷ c.next.new.self ≡ c.args.connections.now.entries = ap (λ r. c.loop-conn.copied.entries ++ r) (sym rest) ∙ c.loop-conn.invariant in
    goes_on c.in-Some.conn.now c.in-Some.connection.now c.in_ok-copy.field-0 c.loop-conn.copied.entries c.next.new.self c.insert.new.self.entries c.args.connections.now.entries
    c.in_ok-copy.ensures whole c.into_iter-conn-iterator.ensures.into_iter_gives.5 c.in_ok-insert.ensures.entries

pub loop-conn-preserved : goal.loop-conn-preserved
loop-conn-preserved c =
    let rest = rest_more deref_pair c.loop-conn.conn-iterator c.next.new.self c.next.result (c.in-Some.conn, c.in-Some.connection) c.in-Some.is c.next.ensures.steps in
    let whole : c.loop-conn.copied.entries ++ (c.in-Some.conn.now, c.in-Some.connection.now) ∷ c.next.new.self ≡ c.args.connections.now.entries = ap (λ r. c.loop-conn.copied.entries ++ r) (sym rest) ∙ c.loop-conn.invariant in
    goes_on c.in-Some.conn.now c.in-Some.connection.now c.in_ok-copy.field-0 c.loop-conn.copied.entries c.next.new.self c.insert.new.self.entries c.args.connections.now.entries
    c.in_ok-copy.ensures whole c.into_iter-conn-iterator.ensures.into_iter_gives.5 c.in_ok-insert.ensures.entries
