-- Request Q-13 over C calls: what the host reads behind two checks of one reader, against ordered texts, is ordered, as the call of `below` tells
-- it. Assumes nothing.
use Rattle.std.specs.Prelude.{ℕ, ◌≤◌, ◌≡◌, Bool, ltb, length}
use native.Mathlib.Omega.{arith}
use Rattle.std.proofs.Math.Path.{refl, ap, subst}
use Rattle.std.proofs.Common.{sym, ◌∙◌, lit<}
use Rattle.std.proofs.Math.Bool.{true, false}
use Rattle.std.proofs.Math.ListN.{take}
use Rattle.definitions.specs.declared.Limits.{Limits}
use Rattle.definitions.specs.declared.Answer.{Answer}
use Rattle.definitions.specs.Limits.{in_range}
use Rattle.definitions.specs.Bytes.{Bytes}
use Rattle.definitions.specs.Operations.{passed, said, below_judged, check_operation}
use Rattle.definitions.specs.Calls.{as_word, answered, call, quiet, buffer_published, buffer_lent, below_call, check_call}
use Rattle.laws.specs.Judging.{prelude_passed}
use Rattle.laws.proofs.ChainReaders.{check_passed}
use Rattle.laws.specs.AnswerWords.{word_at}
use Rattle.laws.specs.AnswerWordsRead.{words_read_back}
use Rattle.laws.specs.CallLaws.{lent_as, lent_long, long_lent}
use Rattle.laws.specs.HostChain.{handed_on}
use Rattle.laws.proofs.HostDemand3.{check_length}
use Rattle.laws.specs.Statements.{wrote}
use Rattle.laws.specs.NewSamples.{CallsBelow, NumberAbove}
use Rattle.laws.proofs.WidensOperations.{Ordered, ordered_as, judged, said_below, passed_ordered, judged_said, answer_of, checked, checks_ordered}
use Rattle.laws.proofs.WidensOperations.{check_above}

-- ---- what `below` tells a host

-- the fifth word of its answer
word_said : (buffer : Bytes) (y : Bool) → 40 ≤ length buffer → word_at 4 (answered buffer (said y)) ≡ as_word y
unfolding said
word_said buffer y long = (words_read_back buffer (said y) long (lit< tt) (lit< tt) (lit< tt) (lit< tt)).yes_word

module _ (l : Limits) (first second : Bytes) where
  called_below : in_range l ≡ true → Ordered l first second → (buffer : Bytes) → 40 ≤ length buffer → CallsBelow l first second buffer
  unfolding below_call call quiet said as_word
  called_below range o buffer long =
      let e = said_below buffer_published (buffer_lent buffer) l first second range (lent_long buffer long) o in (
        ap (λ (a : Answer). a.number) e,
        ap (λ (a : Answer). word_at 4 (answered buffer a)) e
            ∙ word_said buffer true long,
      )

  -- what the host reads there
  yes_told
      : (buffer : Bytes) (y : Bool) → judged buffer_published (buffer_lent buffer) l first second ≡ passed y
      → word_at 4 (below_call l first second buffer).answer ≡ as_word y
  unfolding below_call call quiet
  yes_told buffer y e =
      let (r, w, f) = prelude_passed l buffer_published (buffer_lent buffer) (below_judged l first second) y e in
      ap (λ (a : Answer). word_at 4 (answered buffer a)) (answer_of buffer_published (buffer_lent buffer) l first second e)
      ∙ word_said buffer y (long_lent buffer w)

  pub calls_ordered : (buffer : Bytes) → CallsBelow l first second buffer → Ordered l first second
  unfolding below_call call quiet as_word
  calls_ordered buffer (z, w) =
      let (y, e) = judged_said buffer_published (buffer_lent buffer) l first second z in
      passed_ordered buffer_published (buffer_lent buffer) l first second (e ∙ ap passed (told y (sym (yes_told buffer y e) ∙ w)))
    where
      told : (y : Bool) → as_word y ≡ 1 → y ≡ true
      told true h = refl
      told false h = absurd (let n : ⊥ = omega arith in n)

-- ---- two checks

module _ (l : Limits) (reader : Bytes) where
  -- what the host reads behind a check that returned 0 is what the check wrote
  handed_wrote
      : (text output answer : Bytes) → (check_call l reader text output answer).number ≡ 0 → in_range l ≡ true
      → handed_on (check_call l reader text output answer) ≡ wrote (checked buffer_published l reader text output (buffer_lent answer))
  unfolding check_call call handed_on
  handed_wrote text output answer e range =
      let (r, s, u, p) = check_passed buffer_published (buffer_lent answer) l reader text output e in
      ap (λ (k : ℕ). take k (check_operation buffer_published (buffer_lent answer) l reader text output).output)
      (check_length l range reader text output answer r s u p)

  module _ {first second : Bytes} (o : Ordered l first second) (output output' answer answer' : Bytes) where
    check_calls_ordered
        : (check_call l reader first output answer).number ≡ 0 → (check_call l reader second output' answer').number ≡ 0
        → (in_range l ≡ true)
        × Ordered l (handed_on (check_call l reader first output answer)) (handed_on (check_call l reader second output' answer'))
    unfolding check_call call
    check_calls_ordered e f =
        let (range, w) = checks_ordered buffer_published l reader o output output' (buffer_lent answer) (buffer_lent answer') e f in (
          range,
          ordered_as (sym (handed_wrote first output answer e range)) (sym (handed_wrote second output' answer' f range)) w,
        )

    pub check_calls_say
        : (check_call l reader first output answer).number ≡ 0 → (check_call l reader second output' answer').number ≡ 0
        → (buffer : Bytes) → 40 ≤ length buffer
        → CallsBelow l (handed_on (check_call l reader first output answer)) (handed_on (check_call l reader second output' answer')) buffer
    check_calls_say e f = let (range, w) = check_calls_ordered e f in called_below l _ _ range w

    pub check_call_above
        : (check_call l reader first output answer).number ≡ 0
        → NumberAbove (ltb (length answer') 40) l output' (check_call l reader second output' answer').number
    unfolding check_call call
    check_call_above e =
        subst (λ (b : Bool). NumberAbove b l output' (check_call l reader second output' answer').number) (lent_as answer')
        (check_above buffer_published l reader o output output' (buffer_lent answer) (buffer_lent answer') e)
