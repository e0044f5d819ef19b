-- Runs of bytes of one class: how a text is cut into them in one way only.
use Rattle.std.proofs.Common.{◌≡◌, ℕ, ◌<◌, ◌≤◌, true, false, List, [], ◌∷◌, ◌++◌, length, take, drop, get_or, refl, sym, ap, subst, ◌∙◌, arith}
use Rattle.std.proofs.lemmas.Bool.{eqb-true, ne_eqb}
use Rattle.std.proofs.lemmas.Bool.Decides.{nat_tests}
use Rattle.std.proofs.Math.Seq.{drop-append_seam}
use Rattle.std.proofs.lemmas.List.{take_all}
use Rattle.std.proofs.lemmas.List.Elements.{All-get_or, All-from_recursion}
use Rattle.rtsp_message.specs.declared.byte_class.ByteClass.{ByteClass}
use Rattle.rtsp_message.specs.declared.byte_class.ByteClass.TheVariants.{Token, Visible, Space, Blank}
use Rattle.rtsp_message.specs.Lines.{is_in, is_visible, Each, OneOrMore, BeginsOutside, IsFrontRun}

-- bytes after the same bytes
pub cancel : (a b x y : List ℕ) → a ≡ b → a ++ x ≡ b ++ y → x ≡ y
cancel a b x y same e = sym (drop-append_seam a x) ∙ ap (drop (length a)) e ∙ ap (λ (l : List ℕ). drop (length l) (b ++ y)) same ∙ drop-append_seam b y

pub false_is_true : false ≡ true → ⊥
false_is_true e = cc

-- a run ends where a byte of another class begins, so there is one way to cut it off
pub same_run : (class : ByteClass) (a b c d : List ℕ) → Each class a → BeginsOutside class b → Each class c → BeginsOutside class d → a ++ b ≡ c ++ d → (a ≡ c) × (b ≡ d)
same_run class [] b [] d p q r s e = (refl, e)
same_run class [] (x ∷ b) (y ∷ c) d p q r s e = let same : x ≡ y = cc in absurd (false_is_true (sym q ∙ ap (is_in class) same ∙ r.0))
same_run class [] [] (y ∷ c) d p q r s e = absurd (cc)
same_run class (x ∷ a) b [] (y ∷ d) p q r s e = let same : x ≡ y = cc in absurd (false_is_true (sym s ∙ ap (is_in class) (sym same) ∙ p.0))
same_run class (x ∷ a) b [] [] p q r s e = absurd (cc)
same_run class (x ∷ a) b (y ∷ c) d p q r s e =
    let heads : x ≡ y = cc in
    let tails : a ++ b ≡ c ++ d = cc in
    let rest = same_run class a b c d p.1 q r.1 s tails in
    (ap (λ (z : ℕ). z ∷ a) heads ∙ ap (λ (l : List ℕ). y ∷ l) rest.0, rest.1)

-- after a byte of one class, where no byte of it is of the other, the other has ended
pub outside : (here there : ByteClass) → ((b : ℕ) → is_in here b ≡ true → is_in there b ≡ false) → (run more : List ℕ) → OneOrMore here run → BeginsOutside there (run ++ more)
outside here there apart [] more p = absurd (omega (arith, p.0))
outside here there apart (b ∷ run) more p = apart b p.1.0

pub space_in_no_token : (b : ℕ) → is_in Space b ≡ true → is_in Token b ≡ false
space_in_no_token b h = let e : b ≡ 32 = eqb-true b 32 h in rw e refl

pub space_not_visible : (b : ℕ) → is_in Space b ≡ true → is_in Visible b ≡ false
space_not_visible b h = let e : b ≡ 32 = eqb-true b 32 h in rw e refl

pub visible_no_space : (b : ℕ) → is_in Visible b ≡ true → is_in Space b ≡ false
visible_no_space b h = ne_eqb b 32 (λ e. false_is_true (subst (λ (n : ℕ). is_visible n ≡ true) e h))

pub blank_not_visible : (b : ℕ) → is_in Blank b ≡ true → is_in Visible b ≡ false
blank_not_visible b h = grind (arith, nat_tests)

-- bytes that begin outside a class begin with no run of it
pub no_run : (class : ByteClass) (bytes run more : List ℕ) → BeginsOutside class bytes → OneOrMore class run → bytes ≡ run ++ more → ⊥
no_run class bytes [] more p q e = omega (arith, q.0)
no_run class [] (b ∷ run) more p q e = cc
no_run class (x ∷ bytes) (b ∷ run) more p q e = let same : x ≡ b = cc in false_is_true (sym p ∙ ap (is_in class) same ∙ q.1.0)

-- what is cut off as a run is the run that is there
pub cut_same : {class : ByteClass} {bytes a b : List ℕ} → IsFrontRun class bytes a b → (run more : List ℕ) → OneOrMore class run → BeginsOutside class more → bytes ≡ run ++ more → (run ≡ a) × (more ≡ b)
cut_same {class} {bytes} {a} {b} cut run more p q e = same_run class run more a b p.1 q cut.run_bytes.1 cut.stops (sym e ∙ cut.whole)

pub Each-at : (class : ByteClass) (bytes : List ℕ) (i : ℕ) → Each class bytes → i < length bytes → is_in class (get_or bytes i 0) ≡ true
Each-at class bytes i p h = All-get_or (λ b. is_in class b ≡ true) bytes i 0 h (All-from_recursion _ bytes p)

-- a byte of another class is not among them
pub not_each : (class : ByteClass) (bytes : List ℕ) (i : ℕ) → i < length bytes → is_in class (get_or bytes i 0) ≡ false → Each class bytes → ⊥
not_each class bytes i h p q = false_is_true (sym p ∙ Each-at class bytes i q h)

pub Each-outside : (here there : ByteClass) → ((b : ℕ) → is_in here b ≡ true → is_in there b ≡ false) → (bytes : List ℕ) → Each here bytes → BeginsOutside there bytes
Each-outside here there apart [] p = tt
Each-outside here there apart (b ∷ bytes) p = apart b p.0

-- a run that is no shorter than the bytes is all of them
pub all_leading : (class : ByteClass) (bytes : List ℕ) (n : ℕ) → Each class (take n bytes) → length bytes ≤ n → Each class bytes
all_leading class bytes n run all = subst (Each class) (take_all n bytes all) run
