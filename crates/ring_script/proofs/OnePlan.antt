-- A text is one plan, or has one bad line, and never both; a plan has one text of its trace.
use Rattle.std.proofs.Common.{◌≡◌, ℕ, ◌<◌, true, List, [], ◌∷◌, ◌++◌, Option, None, Some, map, filter, inl, inr, length, refl, sym, ap, subst, ◌∙◌, arith, append_assoc, append-nil, length-append}
use Rattle.std.proofs.lemmas.Bool.Decides.{leb_tells}
use Rattle.ring_steps.specs.declared.calls.Actor.{Actor}
use Rattle.ring_steps.specs.declared.config.Config.{Config}
use Rattle.ring_steps.specs.declared.trace.Trace.{Trace}
use Rattle.ring_steps.specs.declared.trace.TraceStep.{TraceStep}
use Rattle.ring_steps.specs.declared.trace.TraceEvent.{TraceEvent}
use Rattle.ring_steps.specs.Acting.{acted, event_of}
use Rattle.ring_steps.specs.Runs.{Calls, Turn, start}
use Rattle.ring_steps.specs.Traces.{IsTrace, step_of}
use Rattle.ring_steps.proofs.Choices.{runs_alike}
use Rattle.base_syntax.proofs.LineEnds.{same_line, no_whole_line}
use Rattle.base_syntax.proofs.Lists.{same_cons}
use Rattle.ring_script.specs.declared.call_line.CallLine.{CallLine}
use Rattle.ring_script.specs.declared.line.Line.{Line}
use Rattle.ring_script.specs.declared.line.Line.TheVariants.{Call, Go}
use Rattle.ring_script.specs.declared.plan.Plan.{Plan}
use Rattle.base_syntax.specs.Lines.{has_bytes}
use Rattle.ring_script.specs.Lines.{IsFirstLine, AreLines}
use Rattle.ring_script.specs.LineForms.{line_of}
use Rattle.ring_script.specs.Plans.{said_by, Says, Reads, Begins, IsWrong, IsBadLine}
use Rattle.ring_script.specs.Scripts.{script_of}
use Rattle.ring_script.specs.Steps.{IsTraceOf}
use Rattle.ring_script.specs.TraceText.{trace_text, step_lines, event_lines}
use Rattle.ring_script.proofs.Forms.{forms_heard}
use Rattle.ring_script.proofs.OneWay.{same_turns_out}

-- a line and its LF
ends_in_lf : (line rest : List ℕ) → line ++ 10 ∷ rest ≡ (line ++ 10 ∷ []) ++ rest
ends_in_lf line rest = sym (append_assoc line (10 ∷ []) rest)

one_first_line : (text l r m s : List ℕ) → IsFirstLine text l r → IsFirstLine text m s → (l ≡ m) × (r ≡ s)
one_first_line text l r m s p q = elim p.whole [
  | inl a ↦ elim q.whole [
    | inl b ↦ same_line l r m s p.unbroken q.unbroken (sym (ends_in_lf l r) ∙ sym a ∙ b ∙ ends_in_lf m s)
    | inr b ↦ absurd (no_whole_line m l r q.unbroken (sym b.0 ∙ a ∙ ends_in_lf l r))
  ]
  | inr a ↦ elim q.whole [
    | inl b ↦ absurd (no_whole_line l m s p.unbroken (sym a.0 ∙ b ∙ ends_in_lf m s))
    | inr b ↦ (sym a.0 ∙ b.0, a.1 ∙ sym b.1)
  ]
]

no_first_line : (text l r : List ℕ) → text ≡ [] → IsFirstLine text l r → ⊥
no_first_line text l r e p = elim p.whole [
  | inl a ↦ omega (arith, ap length (sym e ∙ a), length-append l (10 ∷ r))
  | inr a ↦ let some : has_bytes [] ≡ true = ap has_bytes (sym e ∙ a.0) ∙ a.2 in cc
]

one_lines : (text : List ℕ) (ls ms : List (List ℕ)) → AreLines text ls → AreLines text ms → ls ≡ ms
one_lines text [] [] p q = refl
one_lines text [] (m ∷ ms) p q = absurd (no_first_line text m q.0 p q.1)
one_lines text (l ∷ ls) [] p q = absurd (no_first_line text l p.0 q p.1)
one_lines text (l ∷ ls) (m ∷ ms) p q =
    let first = one_first_line text l p.0 m q.0 p.1 q.1 in
    let others = one_lines p.0 ls ms p.2 (subst (λ (t : List ℕ). AreLines t ms) (sym first.1) q.2) in
    ap (λ (x : List ℕ). x ∷ ls) first.0 ∙ ap (λ (xs : List (List ℕ)). m ∷ xs) others

same_somes : (xs ys : List Line) → map Some xs ≡ map Some ys → xs ≡ ys
same_somes [] [] e = refl
same_somes [] (y ∷ ys) e = absurd (cc)
same_somes (x ∷ xs) [] e = absurd (cc)
same_somes (x ∷ xs) (y ∷ ys) e =
    let head : x ≡ y = cc in
    let tail : map Some xs ≡ map Some ys = cc in
    ap (λ (z : Line). z ∷ xs) head ∙ ap (λ (zs : List Line). y ∷ zs) (same_somes xs ys tail)

same_calls : (cs ds : List CallLine) (s t : List Actor) → map Call cs ++ Go s ∷ [] ≡ map Call ds ++ Go t ∷ [] → (cs ≡ ds) × (s ≡ t)
same_calls [] [] s t e = (refl, (cc))
same_calls [] (d ∷ ds) s t e = absurd (cc)
same_calls (c ∷ cs) [] s t e = absurd (cc)
same_calls (c ∷ cs) (d ∷ ds) s t e =
    let head : c ≡ d = cc in
    let tail : map Call cs ++ Go s ∷ [] ≡ map Call ds ++ Go t ∷ [] = cc in
    let rest = same_calls cs ds s t tail in
    (ap (λ (x : CallLine). x ∷ cs) head ∙ ap (λ (xs : List CallLine). d ∷ xs) rest.0, rest.1)

same_plan : (p q : Plan) → p.config.keep ≡ q.config.keep → p.config.seats ≡ q.config.seats → p.calls ≡ q.calls → p.schedule ≡ q.schedule → p ≡ q
same_plan p q keep seats calls schedule = rw (keep, seats, calls, schedule) refl

same_said : (p q : Plan) → said_by p ≡ said_by q → p ≡ q
same_said p q e =
    let keep : p.config.keep ≡ q.config.keep = cc in
    let seats : p.config.seats ≡ q.config.seats = cc in
    let tails : map Call p.calls ++ Go p.schedule ∷ [] ≡ map Call q.calls ++ Go q.schedule ∷ [] = cc in
    let rest = same_calls p.calls q.calls p.schedule q.schedule tails in
    same_plan p q keep seats rest.0 rest.1

pub one_plan : (text : List ℕ) (p q : Plan) → Reads text p → Reads text q → p ≡ q
one_plan text p q a b =
    let lines = one_lines text a.lines b.lines a.are b.are in
    same_said p q (same_somes (said_by p) (said_by q) (sym (forms_heard _ _ a.says.said) ∙ ap (λ (ls : List (List ℕ)). map line_of (filter has_bytes ls)) lines ∙ forms_heard _ _ b.says.said))

-- an input has no bad line
says_no_wrong : (before after : List (List ℕ)) (plan : Plan) → Says (before ++ after) plan → IsWrong before after → ⊥
says_no_wrong before [] plan says wrong = wrong plan (subst (λ (ls : List (List ℕ)). Says ls plan) (append-nil before) says)
says_no_wrong before (line ∷ after) plan says wrong = wrong (after, plan, subst (λ (ls : List (List ℕ)). Says ls plan) (sym (append_assoc before (line ∷ []) after)) says)

pub plan_or_bad_line : (text : List ℕ) (plan : Plan) (number : ℕ) → Reads text plan → IsBadLine text number → ⊥
plan_or_bad_line text plan number a b =
    let lines = one_lines text a.lines (b.before ++ b.after) a.are b.lines in
    says_no_wrong b.before b.after plan (subst (λ (ls : List (List ℕ)). Says ls plan) lines a.says) b.wrong

-- of two cuts of one list the longer front goes on from the shorter one
longer_front : (xs ys zs ws : List (List ℕ)) → xs ++ ys ≡ zs ++ ws → length xs < length zs → (line : List ℕ) × (mid : List (List ℕ)) × (zs ≡ xs ++ line ∷ mid) × (ys ≡ line ∷ (mid ++ ws))
longer_front [] ys [] ws e h = absurd (omega (arith, h))
longer_front [] ys (z ∷ zs) ws e h = (z, zs, refl, e)
longer_front (x ∷ xs) ys [] ws e h = absurd (omega (arith, h))
longer_front (x ∷ xs) ys (z ∷ zs) ws e h =
    let head : x ≡ z = cc in
    let tail : xs ++ ys ≡ zs ++ ws = cc in
    let rest = longer_front xs ys zs ws tail (omega (arith, h)) in
    (rest.0, rest.1, same_cons (sym head) rest.2, rest.3)

-- a bad line is no line of what begins an input
no_earlier : (before after longer others : List (List ℕ)) → before ++ after ≡ longer ++ others → length before < length longer → IsWrong before after → Begins longer → ⊥
no_earlier before after longer others e h wrong begins =
    let cut = longer_front before after longer others e h in
    let there : IsWrong before (cut.0 ∷ (cut.1 ++ others)) = subst (IsWrong before) cut.3 wrong in
    let whole : longer ++ begins.0 ≡ (before ++ cut.0 ∷ []) ++ (cut.1 ++ begins.0) =
    ap (λ (ls : List (List ℕ)). ls ++ begins.0) cut.2 ∙ append_assoc before (cut.0 ∷ cut.1) begins.0 ∙ sym (append_assoc before (cut.0 ∷ []) (cut.1 ++ begins.0)) in
    there (cut.1 ++ begins.0, begins.1, subst (λ (ls : List (List ℕ)). Says ls begins.1) whole begins.2)

pub one_bad_line : (text : List ℕ) (m n : ℕ) → IsBadLine text m → IsBadLine text n → m ≡ n
one_bad_line text m n a b =
    let lines = one_lines text (a.before ++ a.after) (b.before ++ b.after) a.lines b.lines in
    elim (leb_tells (length a.before) (length b.before)) [
      | inl below ↦ elim (leb_tells (length b.before) (length a.before)) [
        | inl above ↦ omega (arith, below.1, above.1, a.counted, b.counted)
        | inr less ↦ absurd (no_earlier a.before a.after b.before b.after lines less.1 a.wrong b.begins)
      ]
      | inr less ↦ absurd (no_earlier b.before b.after a.before a.after (sym lines) less.1 b.wrong a.begins)
    ]

-- all traces of a schedule have the same text
same_text : (config : Config) (calls : Calls) (first then : List Actor) (t u : Trace) → IsTrace config calls first t → IsTrace config calls then u → first ≡ then → trace_text t ≡ trace_text u
same_text config calls first then t u a b same =
    let turns = (runs_alike calls (start config.keep config.seats) a.turns b.turns a.end b.end a.ran b.ran (a.by ∙ same ∙ sym b.by)).turns_same in
    let steps : t.steps.items ≡ u.steps.items = a.steps ∙ ap (λ (ts : List Turn). map step_of ts) turns ∙ sym b.steps in
    let events : t.events.items ≡ u.events.items = a.events ∙ ap (λ (ts : List Turn). map event_of (acted 0 ts)) turns ∙ sym b.events in
    ap (λ (s : List TraceStep). step_lines 0 s ++ event_lines s t.events.items) steps ∙ ap (λ (e : List TraceEvent). step_lines 0 u.steps.items ++ event_lines u.steps.items e) events

pub one_text : (stopped : Option Actor) (plan : Plan) (t u : Trace) → IsTraceOf stopped plan t → IsTraceOf stopped plan u → trace_text t ≡ trace_text u
one_text None plan t u p q = same_text plan.config (script_of plan) plan.schedule plan.schedule t u p.is_trace q.is_trace refl
one_text (Some actor) plan t u p q =
    let a = p.is_trace in
    let b = q.is_trace in
    same_text plan.config (script_of plan) _ _ t u a.told b.told (same_turns_out plan.config (script_of plan) plan.schedule actor t u a b)
