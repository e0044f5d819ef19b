use Rattle.std.proofs.Common.{◌∷◌, nat_le, if◌then◌else◌, is_some, None, Some, refl, ap, sym, subst, ◌∙◌, arith}
use Rattle.std.specs.Option.{option_map}
use Rattle.session_state.specs.declared.entry.Entry.TheVariants.{Request}
use Rattle.session_state.specs.Legal.{IsLegal, IsReplyOf}
use Rattle.session_lock.specs.Books.{IsKept, IsOffer}
use Rattle.session_lock.specs.Entries.{Adds, Written, base_in}
use Rattle.session_lock.specs.Requests.{CanBegin}
use Rattle.session_lock.specs.Spares.{AreSpare, handed_out}
use Rattle.session_lock.proofs.Requested.{can_begin, entered, pass_comes, pass_so, requested, settled_so}
use Rattle.session_lock.proofs.Standing.{cut_to, roomier, roomier_too}
use Rattle.session_lock.proofs.book.Book.call_copied.Goals as goal

pub settle-pass-requires-clause-begins : goal.settle-pass-requires-clause-begins
settle-pass-requires-clause-begins g c named =
    let decided = c.in-Ok-decide_and_copy.decision in
    let written = c.self.inside.entries in
    let kept = c.self.invariant in
    let legal = subst (λ n. IsLegal n written.history) (sym kept.seats_are) kept.legal in
    let replied = c.in-Ok-decide_and_copy.ensures.ok written.history legal kept.stands in
    let follows = subst (λ n. IsReplyOf n written.history c.args.conn c.args.copies.request c.args.copies.given decided.reply decided.act) kept.seats_are replied.0 in
    let spare = subst (AreSpare c.self.inside.seats written.history) (sym c.make_room.ensures.mounts) kept.spare in
    subst (CanBegin c.make_room.new.spares c.args.conn) (sym (c.next_mount-number.ensures written.history kept.stands))
    (can_begin c.args.conn c.args.copies.request c.args.copies.given decided.reply decided.act c.self.inside.seats written.history follows c.make_room.new.spares spare c.in-Ok-make_room.ensures.spares
    (sym c.accepted_method-method.ensures ∙ named))

-- where there is no room for the passes, or no memory to decide
pub invariant_of-self : goal.invariant_of-self
invariant_of-self g c =
    roomier_too c.self.inside.seats c.self.inside.world c.make_room.new.entries c.self.inside.spares c.make_room.new.spares
    (roomier c.self.inside.seats c.self.inside.world c.self.inside.entries c.make_room.new.entries c.self.inside.spares c.self.invariant c.make_room.ensures.same c.make_room.ensures.kept) c.make_room.ensures.mounts

pub invariant_of-self-in_default-decide_and_copy : goal.invariant_of-self-in_default-decide_and_copy
invariant_of-self-in_default-decide_and_copy g c =
    subst (λ tables. IsKept c.self.inside.seats tables c.make_room.new.entries c.make_room.new.spares) (sym c.in_default-decide_and_copy.ensures.err)
    (roomier_too c.self.inside.seats c.self.inside.world c.make_room.new.entries c.self.inside.spares c.make_room.new.spares
    (roomier c.self.inside.seats c.self.inside.world c.self.inside.entries c.make_room.new.entries c.self.inside.spares c.self.invariant c.make_room.ensures.same c.make_room.ensures.kept) c.make_room.ensures.mounts)

pub invariant_of-self-2 : goal.invariant_of-self-2
invariant_of-self-2 g c =
    let decided = c.in-Ok-decide_and_copy.decision in
    let tables = c.self.inside.world in
    let written = c.self.inside.entries in
    let roomy = c.make_room.new.entries in
    let held = c.self.inside.spares in
    let kept = c.self.invariant in
    let more = roomier c.self.inside.seats tables written roomy held kept c.make_room.ensures.same c.make_room.ensures.kept in
    let due = c.in-Ok-next_base.ensures.base ∙ ap (λ (w : Written). if nat_le w.cut w.kept then Some tables else None) c.make_room.ensures.same in
    let same = ap (λ (w : Written). w.history) c.make_room.ensures.same in
    let legal = subst (λ n. IsLegal n written.history) (sym kept.seats_are) kept.legal in
    let legal_now = subst (λ n. IsLegal n roomy.history) (sym more.seats_are) more.legal in
    let replied = c.in-Ok-decide_and_copy.ensures.ok roomy.history legal_now more.stands in
    let is = entered c.into_entry.result c.args.conn c.args.copies.request c.args.copies.request c.args.copies.given c.args.copies.given decided.copy decided.reply decided.act
    c.into_entry.ensures refl refl c.in-Ok-decide_and_copy.ensures.copy in
    let adds = subst (λ entry. Adds (base_in c.in-Ok-next_base.next) entry roomy c.add.new.self) is c.add.ensures in
    let offered = subst (λ now. IsOffer now.seats c.args.copies.request.method (option_map (λ passes. passes.items) c.args.offer)) (sym c.self.view_is) c.requires.offer in
    let number = c.next_mount-number.ensures roomy.history more.stands in
    let settled = settled_so c.settle-pass.new.self.mounts c.make_room.new.spares.mounts held.mounts c.next_mount-number.result c.accepted_method-method.result c.args.conn c.args.copies.request decided.reply
    decided.act (option_map (λ passes. passes.items) c.args.offer) roomy.history c.settle-pass.ensures.mounts number c.accepted_method-method.ensures c.make_room.ensures.mounts in
    let promised = c.in-Ok-make_room.ensures.entries in
    let there_are = c.count_open-opened.ensures roomy.history more.stands in
    let out = c.settle-pass.ensures.out in
    let room = adds.room in
    requested c.self.inside.seats tables c.decide_and_copy.new.self roomy c.add.new.self held c.settle-pass.new.self more c.decide_and_copy.ensures.seats (nat_le written.cut written.kept) (base_in c.in-Ok-next_base.next) c.args.conn c.args.copies.request
    c.args.copies.given decided.reply decided.act (option_map (λ passes. passes.items) c.args.offer) due offered replied adds settled
    (cut_to written roomy c.add.new.self (base_in c.in-Ok-next_base.next) tables kept.some c.make_room.ensures.same due c.add.ensures) (omega (arith, promised, there_are, out, room))

pub returns-clause-reply : goal.returns-clause-reply
returns-clause-reply g c =
    let decided = c.in-Ok-decide_and_copy.decision in
    let written = c.self.inside.entries in
    let kept = c.self.invariant in
    let legal = subst (λ n. IsLegal n written.history) (sym kept.seats_are) kept.legal in
    let replied = c.in-Ok-decide_and_copy.ensures.ok written.history legal kept.stands in
    let follows = subst (λ n. IsReplyOf n written.history c.args.conn c.args.copies.request c.args.copies.given decided.reply decided.act) kept.seats_are replied.0 in
    subst (λ now. IsReplyOf now.seats now.history c.args.conn c.args.copies.request c.args.copies.given decided.reply decided.act) c.self.view_is follows

pub returns-clause-history : goal.returns-clause-history
returns-clause-history g c =
    let decided = c.in-Ok-decide_and_copy.decision in
    let is = entered c.into_entry.result c.args.conn c.args.copies.request c.args.copies.request c.args.copies.given c.args.copies.given decided.copy decided.reply decided.act
    c.into_entry.ensures refl refl c.in-Ok-decide_and_copy.ensures.copy in
    c.add.ensures.history ∙ ap (λ entry. entry ∷ c.make_room.new.entries.history) is
    ∙ ap (λ (w : Written). Request c.args.conn c.args.copies.request c.args.copies.given decided.reply decided.act ∷ w.history) c.make_room.ensures.same
    ∙ ap (λ now. Request c.args.conn c.args.copies.request c.args.copies.given decided.reply decided.act ∷ now.history) c.self.view_is

pub returns-clause-pass : goal.returns-clause-pass
returns-clause-pass g c =
    let decided = c.in-Ok-decide_and_copy.decision in
    let written = c.self.inside.entries in
    let kept = c.self.invariant in
    let legal = subst (λ n. IsLegal n written.history) (sym kept.seats_are) kept.legal in
    let replied = c.in-Ok-decide_and_copy.ensures.ok written.history legal kept.stands in
    let follows = subst (λ n. IsReplyOf n written.history c.args.conn c.args.copies.request c.args.copies.given decided.reply decided.act) kept.seats_are replied.0 in
    c.settle-pass.ensures.pass
    ∙ pass_so c.args.conn c.args.copies.request c.args.copies.given decided.reply decided.act c.self.inside.seats written.history follows c.make_room.new.spares.mounts c.accepted_method-method.result
    (sym c.accepted_method-method.ensures) ∙ ap (handed_out decided.act) c.make_room.ensures.mounts ∙ ap (λ now. handed_out decided.act now.spares) c.self.view_is

pub returns-clause-play : goal.returns-clause-play
returns-clause-play g c mount seat plays =
    let decided = c.in-Ok-decide_and_copy.decision in
    let written = c.self.inside.entries in
    let held = c.self.inside.spares in
    let kept = c.self.invariant in
    let legal = subst (λ n. IsLegal n written.history) (sym kept.seats_are) kept.legal in
    let replied = c.in-Ok-decide_and_copy.ensures.ok written.history legal kept.stands in
    let follows = subst (λ n. IsReplyOf n written.history c.args.conn c.args.copies.request c.args.copies.given decided.reply decided.act) kept.seats_are replied.0 in
    ap is_some (c.settle-pass.ensures.pass
    ∙ pass_so c.args.conn c.args.copies.request c.args.copies.given decided.reply decided.act c.self.inside.seats written.history follows c.make_room.new.spares.mounts c.accepted_method-method.result
    (sym c.accepted_method-method.ensures) ∙ ap (handed_out decided.act) c.make_room.ensures.mounts ∙ ap (λ act. handed_out act held.mounts) plays)
    ∙ pass_comes c.args.conn c.args.copies.request c.args.copies.given decided.reply decided.act c.self.inside.seats written.history follows held.mounts mount seat kept.spare plays
