use Rattle.std.proofs.Common.{◌≡◌, ◌==◌, ℕ, List, Some, refl, ap, sym, subst, ◌∙◌}
use Rattle.std.specs.List.{position_or_len}
use Rattle.std.specs.Str.{bytes_eq}
use Rattle.std.proofs.lemmas.Bool.{eq-eqb}
use Rattle.std.proofs.lemmas.List.Folds.{find_at}
use Rattle.mounts.specs.declared.mount.Mount.{Mount}
use Rattle.mounts.specs.Mounts.{IsSound, Table, named, numbered}
use Rattle.mounts.proofs.Differing.{find_one, unequal}
use Rattle.session_state.specs.declared.checks.accepted.Accepted.{Accepted}
use Rattle.session_state.specs.declared.checks.accepted.Accepted.TheVariants as found
use Rattle.session_state.specs.declared.world.change.Change.TheVariants as changes
use Rattle.session_state.specs.Judged.{Finds, IsAcceptedWith, asked_of, method_in}
use Rattle.session_state.proofs.world.World.accept.Goals as goal

-- the mount of a name is that of its number
named_is_numbered : (table : Table) (name : List ℕ) (mount : Mount) → IsSound table → named name table.mounts ≡ Some mount → numbered mount.number table.mounts ≡ Some mount
named_is_numbered table name mount sound at =
    find_one (λ m. m.number) (λ m. m.number == mount.number) table.mounts (position_or_len (λ m. bytes_eq name m.name) table.mounts) mount sound.numbers
    (sym (find_at (λ m. bytes_eq name m.name) table.mounts) ∙ at) (eq-eqb mount.number mount.number refl) (λ other apart. unequal other.number mount.number apart)

pub returns-in_ok-reply-in-Describe-clause-ok : goal.returns-in_ok-reply-in-Describe-clause-ok
returns-in_ok-reply-in-Describe-clause-ok c history stands finds =
    let is : c.args.accepted ≡ found.Describe c.in-Describe.target c.in-Describe.mount = c.in-Describe.is in
    let what = subst (Finds (asked_of c.args.self.now history c.args.conn c.args.request.now)) is finds in
    let there = named_is_numbered c.args.self.now.mounts c.in-Describe.target.path what.0 stands.recalls.sound what.1.is in
    let reply = c.in_ok-reply-in-Describe.ensures what.0 (ap (λ n. numbered n c.args.self.now.mounts.mounts) (sym what.2) ∙ there) in
    subst (λ (accepted : Accepted). IsAcceptedWith (asked_of c.args.self.now history c.args.conn c.args.request.now) (method_in accepted) c.args.given.now c.in_ok-reply-in-Describe.reply changes.Nothing) (sym is)
    (((c.in-Describe.target, what.0, what.1, reply), refl), refl)
