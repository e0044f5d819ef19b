use Rattle.std.proofs.Common.{◌≡◌, ◌+◌, ◌-◌, List, ℕ, None, drop, refl, sym, ap, subst, ◌∙◌, arith, length-drop}
use Rattle.rtsp_message.specs.Stores.{StoreState, between}
use Rattle.rtsp_message.specs.Knowns.{IsFieldsStart, IsLook}
use Rattle.rtsp_message.proofs.Looking.{NextLine, next_line, first_start, first_fault, first_line_looked}
use Rattle.rtsp_message.proofs.look.look_first_line.Goals.{After-read_start_line}
use Rattle.rtsp_message.proofs.look.look_first_line.Goals as goal

next : (c : After-read_start_line) → NextLine (drop c.args.from c.args.store.now.bytes) 0 c.in-Some.end c.without_cr.result.now
next c =
    let start : c.args.from ≡ c.args.from + 0 = omega arith in
    let shown = c.line.ensures.bytes ∙ ap (λ (n : ℕ). between c.line_end.new.store.bytes n (c.args.from + c.in-Some.end)) start in
    next_line c.args.store.now.bytes c.args.store.now.bytes c.line_end.new.store.bytes c.args.from 0 c.args.searched c.in-Some.end c.line.result.now c.without_cr.result.now
    (omega arith) c.requires.known.none_found refl c.line_end.ensures.counts.bytes c.in-Some.ensures.some.0 shown c.without_cr.ensures

same_bytes : (c : After-read_start_line) → c.line.follows.lender-at-none.bytes ≡ c.args.store.now.bytes
same_bytes c = ap (λ (s : StoreState). s.bytes) c.line.follows.holds-at-none ∙ c.line_end.ensures.counts.bytes

pub returns-in_default-clause-found : goal.returns-in_default-clause-found
returns-in_default-clause-found c =
    first_line_looked c.args.peer (drop c.args.from c.args.store.now.bytes) c.args.searched (c.len.result - c.args.from) c.unended.result c.requires.known c.in_default.ensures.none
    (omega (arith, length-drop c.args.from c.args.store.now.bytes)) c.unended.ensures.long c.unended.ensures.short

pub returns-in-None-clause-found : goal.returns-in-None-clause-found
returns-in-None-clause-found c =
    first_fault c.args.peer (drop c.args.from c.args.store.now.bytes) c.in-Some.end c.without_cr.result.now c.requires.known.begins c.in-Some.ensures.some.1
    (next (goal.at.returns-in-None-clause-found c).After-read_start_line) c.in-None.ensures.none

pub look_fields-requires-clause-known : goal.look_fields-requires-clause-known
look_fields-requires-clause-known c =
    let at = (goal.at.look_fields-requires-clause-known c).After-read_start_line in
    subst (λ (l : List ℕ). IsFieldsStart c.args.peer (drop c.args.from l) (c.in-Some.end + 1) (c.in-Some.end + 1) None) (sym (same_bytes at))
    (first_start c.args.peer (drop c.args.from c.args.store.now.bytes) c.in-Some.end c.without_cr.result.now _ _ _ c.requires.known.begins c.in-Some.ensures.some.1 (next at) c.in-Some-read_start_line.ensures.some)

pub returns-in-Some-read_start_line-clause-found : goal.returns-in-Some-read_start_line-clause-found
returns-in-Some-read_start_line-clause-found c =
    subst (λ (l : List ℕ). IsLook c.args.peer (drop c.args.from l) c.look_fields.result) (same_bytes (goal.at.returns-in-Some-read_start_line-clause-found c).After-read_start_line) c.look_fields.ensures.found
