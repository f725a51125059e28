-- Request Q-2: check and run as operations and C calls come to what they came to, unless null was met at a `field`. Assumes nothing.
use Rattle.std.specs.Prelude.{ℕ, ◌≡◌, List}
use Rattle.std.proofs.Math.Path.{refl}
use Rattle.std.proofs.Common.{ap}
use Rattle.std.proofs.Math.Logic.{inl, inr}
use Rattle.definitions.specs.declared.Limits.{Limits}
use Rattle.definitions.specs.Bytes.{Bytes}
use Rattle.definitions.specs.Outcome.{Outcome, ok, refused}
use Rattle.definitions.specs.ShapeText.{read_shape}
use Rattle.definitions.specs.Reader.{read_reader}
use Rattle.definitions.specs.Operations.{Done, Source, Judged, passed, stopped, ◌>>=◌, refusal, Reading, in_text, judge_text, judge_both}
use Rattle.definitions.specs.Operations.{judge_limits, judge_work, prelude, TextOut, finish, check_judged, run_judged, check_operation, run_operation}
use Rattle.definitions.specs.Calls.{call, buffer_published, buffer_lent, check_call, run_call}
use Rattle.laws.specs.Judging.{text_passed}
use Rattle.laws.specs.OldOperations.{old_check_judged, old_run_judged, old_check_operation, old_run_operation, old_check_call, old_run_call}
use Rattle.laws.specs.OldOperations.{MeetsNullChecked, MeetsNull, UnlessMet, UnlessMetCalled}
use Rattle.laws.specs.ThroughNull.{Goes_on, gave, halted, met, reader_checks, reader_goes}

module _ (k : ℕ) (Met : ℕ → Type 0) where
  -- the same is judged, or null was met, and stopped with k there
  data JudgedOn {A : Type 0} : (before now : Judged A) → Type 0 where
    as_before : {j : Judged A} → JudgedOn j j
    stopped_there : {p : ℕ} {j : Judged A} → Met p → JudgedOn (stopped (refusal k 1 p)) j

  -- behind what is judged alike
  on_bind
      : {A B : Type 0} (m : Judged A) (f g : A → Judged B) → ((a : A) → JudgedOn (f a) (g a)) → JudgedOn (m >>= f) (m >>= g)
  unfolding ◌>>=◌
  on_bind (passed a) f g h = h a
  on_bind (stopped r) f g h = as_before

  -- behind any prelude
  on_prelude
      : {A : Type 0} (l : Limits) (published lent : List ℕ) {j i : Judged A} → JudgedOn j i
      → JudgedOn (prelude l published lent j) (prelude l published lent i)
  unfolding prelude
  on_prelude l published lent h = on_bind (judge_limits l) _ _ λ r. on_bind (judge_work published lent) _ _ λ w. h

  -- behind two texts that were read
  on_both
      : {A B C : Type 0} (l : Limits) (read : Reading A) (s : Bytes) (read' : Reading B) (t : Bytes) (f g : A × B → Judged C)
      → ((a : A) (b : B) → read l s ≡ ok a → read' l t ≡ ok b → JudgedOn (f (a, b)) (g (a, b)))
      → JudgedOn (judge_both l read s read' t >>= f) (judge_both l read s read' t >>= g)
  unfolding judge_both ◌>>=◌
  on_both {A} {B} l read s read' t f g h = first (judge_text 1 l read s) refl
    where
      second
          : (a : A) → read l s ≡ ok a → (m : Judged B) → judge_text 2 l read' t ≡ m
          → JudgedOn ((m >>= λ b. passed (a, b)) >>= f) ((m >>= λ b. passed (a, b)) >>= g)
      second a e (passed b) q = h a b e (text_passed 2 l read' t b q).1
      second a e (stopped r) q = as_before

      first
          : (m : Judged A) → judge_text 1 l read s ≡ m
          → JudgedOn ((m >>= λ a. judge_text 2 l read' t >>= λ b. passed (a, b)) >>= f)
          ((m >>= λ a. judge_text 2 l read' t >>= λ b. passed (a, b)) >>= g)
      first (passed a) q = second a (text_passed 1 l read s a q).1 (judge_text 2 l read' t) refl
      first (stopped r) q = as_before

  -- what a reader came to
  on_reader
      : {A B : Type 0} {o t m : Outcome ℕ A} (f : A → Judged B) → Goes_on k o t m → ((p : ℕ) → t ≡ refused 0 p → Met p)
      → JudgedOn (in_text 1 o >>= f) (in_text 1 m >>= f)
  unfolding in_text ◌>>=◌
  on_reader f gave there = as_before
  on_reader f (halted h) there = as_before
  on_reader f (met {p}) there = stopped_there (there p refl)

  finishes : {j i : Judged TextOut} (output : Bytes) → JudgedOn j i → UnlessMet k Met output (finish output j) (finish output i)
  unfolding finish
  finishes output as_before = inl refl
  finishes output (stopped_there {p} h) = inr (p, h, refl)

  calls : {d e : Done} {output : Bytes} (buffer : Bytes) → UnlessMet k Met output d e → UnlessMetCalled k Met output buffer (call buffer d) (call buffer e)
  calls buffer (inl e) = inl (ap (call buffer) e)
  calls buffer (inr (p, h, e)) = inr (p, h, ap (call buffer) e)

module _ (l : Limits) (reader shape output : Bytes) where
  check_on : JudgedOn 9 (MeetsNullChecked l reader shape) (old_check_judged l reader shape) (check_judged l reader shape)
  unfolding old_check_judged check_judged
  check_on =
      on_both 9 _ l read_reader reader read_shape shape _ _ λ r s e f.
      on_reader 9 _ _ (reader_checks r s) λ p h. (r, s, e, f, h)

  pub check_before
      : (published lent : List ℕ)
      → UnlessMet 9 (MeetsNullChecked l reader shape) output (old_check_operation published lent l reader shape output)
      (check_operation published lent l reader shape output)
  unfolding check_operation old_check_operation
  check_before published lent = finishes 9 _ output (on_prelude 9 _ l published lent check_on)

  pub check_call_before
      : (buffer : Bytes)
      → UnlessMetCalled 9 (MeetsNullChecked l reader shape) output buffer (old_check_call l reader shape output buffer)
      (check_call l reader shape output buffer)
  unfolding check_call old_check_call
  check_call_before buffer = calls 9 _ buffer (check_before buffer_published (buffer_lent buffer))

module _ (source : Source) (l : Limits) (reader document output : Bytes) where
  run_on : JudgedOn 12 (MeetsNull source l reader document) (old_run_judged source l reader document) (run_judged source l reader document)
  unfolding old_run_judged run_judged
  run_on =
      on_both 12 _ l read_reader reader source document _ _ λ r v e f.
      on_reader 12 _ _ (reader_goes r l v) λ p h. (r, v, e, f, h)

  pub run_before
      : (published lent : List ℕ)
      → UnlessMet 12 (MeetsNull source l reader document) output (old_run_operation source published lent l reader document output)
      (run_operation source published lent l reader document output)
  unfolding run_operation old_run_operation
  run_before published lent = finishes 12 _ output (on_prelude 12 _ l published lent run_on)

  pub run_call_before
      : (buffer : Bytes)
      → UnlessMetCalled 12 (MeetsNull source l reader document) output buffer (old_run_call source l reader document output buffer)
      (run_call source l reader document output buffer)
  unfolding run_call old_run_call
  run_call_before buffer = calls 12 _ buffer (run_before buffer_published (buffer_lent buffer))
