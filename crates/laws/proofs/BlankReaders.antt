-- Request Q-7: a reader of white space alone means `(none)`, in whatever operation or call it stands. Assumes nothing.
use Rattle.std.specs.Prelude.{ℕ, ◌≤◌, ◌≡◌, refl, ◌↔◌, Bool, true, false, List, [], length}
use Rattle.std.proofs.Common.{arith, ◌∙◌, subst}
use Rattle.std.proofs.Math.Path.{sym, ap}
use Rattle.definitions.specs.declared.Limits.{Limits}
use Rattle.definitions.specs.Evaluate.{evaluate}
use Rattle.definitions.specs.Limits.{in_range}
use Rattle.definitions.specs.Bytes.{Bytes, bytes}
use Rattle.definitions.specs.Outcome.{ok}
use Rattle.definitions.specs.Value.{Value}
use Rattle.definitions.specs.Shape.{Shape, only_null}
use Rattle.definitions.specs.ShapeText.{read_shape}
use Rattle.definitions.specs.Tokens.{tokens}
use Rattle.definitions.specs.Reader.{Result, read_reader}
use Rattle.definitions.specs.Checking.{check_reader}
use Rattle.definitions.specs.Running.{run_reader}
use Rattle.definitions.specs.Operations.{Source, Reading, Judged, passed, ◌>>=◌, judge_text, judge_both, prelude, finish, check_judged, run_judged}
use Rattle.definitions.specs.Operations.{check_operation, run_operation}
use Rattle.definitions.specs.Calls.{call, buffer_published, buffer_lent, check_call, run_call}
use Rattle.laws.specs.Rfc8259.{ws, ws_none, ws_more}
use Rattle.laws.specs.TokenGrammar.{TokensOf, no_tokens, white_space}
use Rattle.laws.proofs.TokenLaws.{tokens_are_derived}
use Rattle.laws.specs.FormGrammar.{ReaderWithin, one_form, no_token, none_form, head, result_forms, result_levels}
use Rattle.laws.proofs.ReaderForms.{reader_accepted_from}
use Rattle.laws.specs.RunRules.{runs_literal}
use Rattle.laws.specs.RunRulesHold.{runs_exactly}
use Rattle.laws.specs.LimitRanges.{bounds_of}
use Rattle.laws.specs.Judging.{text_reads, prelude_out}

-- ---- the texts without a token

pub no_token_blank : (s : Bytes) → (tokens s ≡ []) ↔ ws s []
no_token_blank s = (λ e. blank ((tokens_are_derived s []).0 e), λ w. (tokens_are_derived s []).1 (tokenless w))
  where
    blank : {p : ℕ} {s : Bytes} → TokensOf p s [] → ws s []
    blank no_tokens = ws_none
    blank (white_space x g) = ws_more x (blank g)

    tokenless : {p : ℕ} {s : Bytes} → ws s [] → TokensOf p s []
    tokenless ws_none = no_tokens
    tokenless (ws_more x w) = white_space x (tokenless w)

-- each is a reader that means `(none)`, whatever the limits
pub blank_reads : (l : Limits) (s : Bytes) → ws s [] → read_reader l s ≡ ok (Result.literal 0 Value.null)
blank_reads l s w =
    reader_accepted_from l s (Result.literal 0 Value.null)
    (subst (λ ts. ReaderWithin l ts (Result.literal 0 Value.null)) (sym ((no_token_blank s).1 w)) no_token)

-- so does `(none)` itself, where there is a form and a nesting
none_reads : (l : Limits) → 1 ≤ l.values → 1 ≤ l.nesting → read_reader l (bytes "(none)") ≡ ok (Result.literal 0 Value.null)
unfolding evaluate result_forms result_levels
none_reads l h g = reader_accepted_from l (bytes "(none)") (Result.literal 0 Value.null) (one_form (none_form head) h g)

-- ---- what it comes to

pub none_runs
    : (l : Limits) (v : Value) → 1 ≤ l.steps → run_reader (Result.literal 0 Value.null) l v ≡ ok (record { result = Value.null; steps = 1 })
none_runs l v h = (runs_exactly (Result.literal 0 Value.null) l v (record { result = Value.null; steps = 1 })).1 (runs_literal (omega arith))

pub none_checks : (s : Shape) → check_reader (Result.literal 0 Value.null) s ≡ ok only_null
unfolding evaluate
none_checks s = refl

-- ---- in operations and calls

-- out of range nothing is judged of a text
before_alike
    : {A : Type 0} (l : Limits) (published lent : List ℕ) {j k : Judged A} → (in_range l ≡ true → j ≡ k)
    → prelude l published lent j ≡ prelude l published lent k
before_alike l published lent {j} {k} alike = by_range (in_range l) refl
  where
    by_range : (b : Bool) → in_range l ≡ b → prelude l published lent j ≡ prelude l published lent k
    by_range true e = ap (λ x. prelude l published lent x) (alike e)
    by_range false e = prelude_out l published lent j e ∙ sym (prelude_out l published lent k e)

module _ (l : Limits) (reader : Bytes) (blank : ws reader []) (short : length reader ≤ l.bytes) where
  -- within the text limit both first texts pass alike
  first_alike : in_range l ≡ true → judge_text 1 l read_reader reader ≡ judge_text 1 l read_reader (bytes "(none)")
  unfolding evaluate
  first_alike range =
      let b = bounds_of {l = l} range in
      text_reads 1 l read_reader reader (Result.literal 0 Value.null) short (blank_reads l reader blank)
      ∙ sym (text_reads 1 l read_reader (bytes "(none)") (Result.literal 0 Value.null) (omega (arith, b.bytes.0))
      (none_reads l (omega (arith, b.values.0)) (omega (arith, b.nesting.0))))

  -- and so does what is judged behind them
  both_alike
      : {A B : Type 0} (read : Reading A) (t : Bytes) (f : Result × A → Judged B) → in_range l ≡ true
      → (judge_both l read_reader reader read t >>= f) ≡ (judge_both l read_reader (bytes "(none)") read t >>= f)
  unfolding judge_both
  both_alike read t f range = ap (λ x. (x >>= λ a. judge_text 2 l read t >>= λ b. passed (a, b)) >>= f) (first_alike range)

  pub check_alike
      : (published lent : List ℕ) (shape output : Bytes)
      → check_operation published lent l reader shape output ≡ check_operation published lent l (bytes "(none)") shape output
  unfolding check_operation check_judged
  check_alike published lent shape output =
      ap (finish output) (before_alike l published lent λ e. both_alike read_shape shape _ e)

  pub run_alike
      : (source : Source) (published lent : List ℕ) (document output : Bytes)
      → run_operation source published lent l reader document output ≡ run_operation source published lent l (bytes "(none)") document output
  unfolding run_operation run_judged
  run_alike source published lent document output =
      ap (finish output) (before_alike l published lent λ e. both_alike source document _ e)

  pub check_call_alike
      : (shape output buffer : Bytes) → check_call l reader shape output buffer ≡ check_call l (bytes "(none)") shape output buffer
  unfolding check_call
  check_call_alike shape output buffer = ap (call buffer) (check_alike buffer_published (buffer_lent buffer) shape output)

  pub run_call_alike
      : (source : Source) (document output buffer : Bytes)
      → run_call source l reader document output buffer ≡ run_call source l (bytes "(none)") document output buffer
  unfolding run_call
  run_call_alike source document output buffer = ap (call buffer) (run_alike source buffer_published (buffer_lent buffer) document output)
