-- There is one n-th entry.
use Rattle.std.proofs.Common.{◌≡◌, ℕ, suc, ◌+◌, ◌≤◌, Bool, true, false, cond, [], ◌∷◌, ◌++◌, refl, ap, sym, ◌∙◌, arith}
use Rattle.session_state.specs.declared.entry.Entry.{Entry}
use Rattle.session_state.specs.History.{History, IsNth, Moment, how_many}

pub record AreSame (one two : Moment) : Type 0 where
  pub entry : one.entry ≡ two.entry
  pub before : one.before ≡ two.before

-- of a count that no entry lowers
module _ (count : History → ℕ) (more : (entry : Entry) (before : History) → count before ≤ count (entry ∷ before)) where
  -- A moment at which the count rises by one, to n.
  pub record RisesTo (n : ℕ) (history later : History) (moment : Moment) : Type 0 where
    pub cut : history ≡ later ++ moment.entry ∷ moment.before
    pub rises : count (moment.entry ∷ moment.before) ≡ count moment.before + 1
    pub counted : n ≡ count (moment.entry ∷ moment.before)

  pub within : (later history : History) → count history ≤ count (later ++ history)
  within [] history = omega arith
  within (x ∷ later) history = let so = within later history in let more = more x (later ++ history) in omega (arith, so, more)

  -- there is one such moment
  pub one_rise : (n : ℕ) (history later other : History) (one two : Moment) → RisesTo n history later one → RisesTo n history other two → AreSame one two
  one_rise n history [] [] one two a b =
      let cut = sym a.cut ∙ b.cut in
      record { entry = cc; before = cc }
  one_rise n history [] (y ∷ other) one two a b =
      let cut = sym a.cut ∙ b.cut in
      let rest : one.before ≡ other ++ two.entry ∷ two.before = cc in
      let so = within other (two.entry ∷ two.before) in
      let mine = ap count rest in
      let rises = a.rises in let counted = a.counted in let other_counted = b.counted in
      absurd (omega (arith, so, mine, rises, counted, other_counted))
  one_rise n history (x ∷ later) [] one two a b =
      let cut = sym b.cut ∙ a.cut in
      let rest : two.before ≡ later ++ one.entry ∷ one.before = cc in
      let so = within later (one.entry ∷ one.before) in
      let mine = ap count rest in
      let rises = b.rises in let counted = b.counted in let other_counted = a.counted in
      absurd (omega (arith, so, mine, rises, counted, other_counted))
  one_rise n history (x ∷ later) (y ∷ other) one two a b =
      let cut = sym a.cut ∙ b.cut in
      let rest : later ++ one.entry ∷ one.before ≡ other ++ two.entry ∷ two.before = cc in
      one_rise n (later ++ one.entry ∷ one.before) later other one two (record { cut = refl; rises = a.rises; counted = a.counted }) (record { cut = rest; rises = b.rises; counted = b.counted })

module _ (that : Entry → Bool) where
  pub counts_more : (entry : Entry) (before : History) → how_many that before ≤ how_many that (entry ∷ before)
  counts_more entry before = by (that entry)
    where
      by : (is : Bool) → how_many that before ≤ cond is (suc (how_many that before)) (how_many that before)
      by true = omega arith
      by false = omega arith

  rises : (n : ℕ) (history later : History) (moment : Moment) → IsNth that n history later moment → RisesTo (how_many that) counts_more n history later moment
  rises n history later moment nth =
      let one : how_many that (moment.entry ∷ moment.before) ≡ suc (how_many that moment.before) = ap (λ b. cond b (suc (how_many that moment.before)) (how_many that moment.before)) nth.is in
      let counted = nth.counted in
      record { cut = nth.cut; rises = omega (arith, one); counted = omega (arith, one, counted) }

  pub one_nth : (n : ℕ) (history later other : History) (one two : Moment) → IsNth that n history later one → IsNth that n history other two → AreSame one two
  one_nth n history later other one two a b = one_rise (how_many that) counts_more n history later other one two (rises n history later one a) (rises n history other two b)
