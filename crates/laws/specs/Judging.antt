-- How operations are judged: what a pipeline of causes that passed says of each, that every refusal has a number above 0,
-- and what is then written. Assumes nothing.
use Rattle.std.specs.Prelude.{ℕ, ◌≤◌, ◌<◌, ◌≡◌, refl, Bool, true, false, ◌||◌, List, ◌++◌, ltb, length, take, drop}
use Rattle.std.proofs.Common.{arith, sym, ◌∙◌, subst, lit<}
use Rattle.std.proofs.Math.Path.{ap}
use Rattle.std.proofs.Math.Seq.{take-append_seam}
use Rattle.definitions.specs.declared.Limits.{Limits}
use Rattle.definitions.specs.declared.Answer.{Answer}
use Rattle.definitions.specs.Limits.{in_range, over}
use Rattle.definitions.specs.Bytes.{Bytes}
use Rattle.definitions.specs.Outcome.{Outcome, ok, refused}
use Rattle.definitions.specs.Value.{Value, size, nesting}
use Rattle.definitions.specs.Plain.{plain}
use Rattle.definitions.specs.Shape.{Shape, forms, levels}
use Rattle.definitions.specs.ShapeText.{write_shape}
use Rattle.definitions.specs.Running.{Ran}
use Rattle.definitions.specs.Operations.{Done, Judged, passed, stopped, ◌>>=◌, refusal, output_short, written, Reading, in_text, judge_text}
use Rattle.definitions.specs.Operations.{judge_both, slices_short, judge_work, judge_limits, prelude, TextOut, to_write, shape_out}
use Rattle.definitions.specs.Operations.{result_out, deliver, finish, say}
use Rattle.laws.specs.Tests.{ltb_le, le-ltb}
use Rattle.laws.specs.Bools.{or_false_left, or_false_right}

-- ---- every refusal has a number

-- an outcome whose refusal, if it is one, has a number above 0
abbrev pub Numbered : {A : Type 0} → Outcome ℕ A → Type 0
Numbered (ok a) = Unit
Numbered (refused n p) = 0 < n

-- the same of what is judged
abbrev pub Positive : {A : Type 0} → Judged A → Type 0
Positive (passed a) = Unit
Positive (stopped r) = 0 < r.number

pub bind_positive : {A B : Type 0} (m : Judged A) (f : A → Judged B) → Positive m → ((a : A) → Positive (f a)) → Positive (m >>= f)
unfolding ◌>>=◌
bind_positive (passed a) f h k = k a
bind_positive (stopped r) f h k = h

pub in_text_positive : {A : Type 0} (k : ℕ) (o : Outcome ℕ A) → Numbered o → Positive (in_text k o)
unfolding in_text refusal
in_text_positive k (ok a) h = tt
in_text_positive k (refused n p) h = h

pub refusal_positive : (n k p : ℕ) → 0 < n → 0 < (refusal n k p).number
unfolding refusal
refusal_positive n k p h = h

-- ---- each cause, both ways

pub limits_out : (l : Limits) → in_range l ≡ false → judge_limits l ≡ stopped (refusal 18 0 0)
unfolding judge_limits
limits_out l e = rw (e, judge_limits)

pub limits_in : (l : Limits) → in_range l ≡ true → judge_limits l ≡ passed tt
unfolding judge_limits
limits_in l e = rw (e, judge_limits)

pub work_short : (published lent : List ℕ) → slices_short published lent ≡ true → judge_work published lent ≡ stopped (refusal 1 0 0)
unfolding judge_work
work_short published lent e = rw (e, judge_work)

pub work_long : (published lent : List ℕ) → slices_short published lent ≡ false → judge_work published lent ≡ passed tt
unfolding judge_work
work_long published lent e = rw (e, judge_work)

module _ {A : Type 0} (k : ℕ) (l : Limits) (read : Reading A) (s : Bytes) where
  pub text_long : ltb l.bytes (length s) ≡ true → judge_text k l read s ≡ stopped (refusal 2 k 0)
  unfolding judge_text
  text_long e = rw (e, judge_text)

  pub text_short : ltb l.bytes (length s) ≡ false → judge_text k l read s ≡ in_text k (read l s)
  unfolding judge_text
  text_short e = rw (e, judge_text)

  pub text_reads : (a : A) → length s ≤ l.bytes → read l s ≡ ok a → judge_text k l read s ≡ passed a
  unfolding in_text
  text_reads a h e = text_short (le-ltb l.bytes (length s) h) ∙ ap (λ o. in_text k o) e

  pub text_refused : (n p : ℕ) → length s ≤ l.bytes → read l s ≡ refused n p → judge_text k l read s ≡ stopped (refusal n k p)
  unfolding in_text
  text_refused n p h e = text_short (le-ltb l.bytes (length s) h) ∙ ap (λ o. in_text k o) e

-- the shape is too large to be written
abbrev pub shape_over : Limits → Shape → Bool
shape_over l s = over l (forms s) (levels s) || ltb l.bytes (length (write_shape s))

pub shape_out_over : (l : Limits) (s : Shape) → shape_over l s ≡ true → shape_out l s ≡ stopped (refusal 11 0 0)
unfolding shape_out
shape_out_over l s e = rw (e, shape_out)

pub shape_out_fits : (l : Limits) (s : Shape) → shape_over l s ≡ false → shape_out l s ≡ passed (to_write (write_shape s) 0)
unfolding shape_out
shape_out_fits l s e = rw (e, shape_out)

-- the result is too large to be written
abbrev pub result_over : Limits → Value → Bool
result_over l v = over l (size v) (nesting v)

pub result_out_over : (l : Limits) (x : Ran Value) → result_over l x.result ≡ true → result_out l x ≡ stopped (refusal 14 0 0)
unfolding result_out
result_out_over l x e = rw (e, result_out)

pub result_out_fits
    : (l : Limits) (x : Ran Value) → result_over l x.result ≡ false
    → result_out l x ≡ passed (to_write (plain x.result) x.steps)
unfolding result_out
result_out_fits l x e = rw (e, result_out)

pub deliver_short
    : (output : Bytes) (t : TextOut) → ltb (length output) (length t.bytes) ≡ true
    → deliver output t ≡ record { answer = output_short (length t.bytes); output = output }
unfolding deliver
deliver_short output t e = rw (e, deliver)

pub deliver_room
    : (output : Bytes) (t : TextOut) → ltb (length output) (length t.bytes) ≡ false
    → deliver output t
    ≡ record { answer = written (length t.bytes) t.steps t.told; output = t.bytes ++ drop (length t.bytes) output }
unfolding deliver
deliver_room output t e = rw (e, deliver)

-- ---- what passed

-- is a judgement one that passed
abbrev IsPassed : {A : Type 0} → Judged A → Type 0
IsPassed (passed a) = Unit {0}
IsPassed (stopped r) = ⊥

passed_of : {A : Type 0} → A → Judged A → A
passed_of d (passed a) = a
passed_of d (stopped r) = d

pub stopped_not_passed {ℓ} : {X : Type ℓ} {A : Type 0} {r : Answer} {a : A} → stopped r ≡ passed a → X
stopped_not_passed e = absurd (subst IsPassed (sym e) tt)

pub passed_same : {A : Type 0} {a b : A} → passed a ≡ passed b → a ≡ b
unfolding passed_of
passed_same {a = a} e = ap (passed_of a) e

-- a pipeline that passed: its first part passed, and so did the rest
pub bind_passed
    : {A B : Type 0} (m : Judged A) (f : A → Judged B) (b : B) → m >>= f ≡ passed b → (a : A) × (m ≡ passed a) × (f a ≡ passed b)
unfolding ◌>>=◌
bind_passed (passed a) f b e = (a, refl, e)
bind_passed (stopped r) f b e = stopped_not_passed e

pub bind_of : {A B : Type 0} {m : Judged A} {a : A} (f : A → Judged B) → m ≡ passed a → m >>= f ≡ f a
unfolding ◌>>=◌
bind_of f e = ap (λ m. m >>= f) e

pub bind_stopped : {A B : Type 0} {m : Judged A} {r : Answer} (f : A → Judged B) → m ≡ stopped r → m >>= f ≡ stopped r
unfolding ◌>>=◌
bind_stopped f e = ap (λ m. m >>= f) e

-- ---- the prelude, and two texts: what is judged of them passed for these reasons

module _ {A : Type 0} (l : Limits) (published lent : List ℕ) (j : Judged A) where
  pub prelude_out : in_range l ≡ false → prelude l published lent j ≡ stopped (refusal 18 0 0)
  unfolding prelude
  prelude_out r = bind_stopped _ (limits_out l r)

  module _ (r : in_range l ≡ true) where
    pub prelude_short : slices_short published lent ≡ true → prelude l published lent j ≡ stopped (refusal 1 0 0)
    unfolding prelude
    prelude_short e = bind_of _ (limits_in l r) ∙ bind_stopped _ (work_short published lent e)

    pub prelude_long : slices_short published lent ≡ false → prelude l published lent j ≡ j
    unfolding prelude
    prelude_long e = bind_of _ (limits_in l r) ∙ bind_of _ (work_long published lent e)

pub limits_passed : (l : Limits) {u : Unit {0}} → judge_limits l ≡ passed u → in_range l ≡ true
limits_passed l {u} e = go (in_range l) refl
  where
    go : (b : Bool) → in_range l ≡ b → in_range l ≡ true
    go true q = q
    go false q = stopped_not_passed (sym (limits_out l q) ∙ e)

pub work_passed : (published lent : List ℕ) {u : Unit {0}} → judge_work published lent ≡ passed u → slices_short published lent ≡ false
work_passed published lent {u} e = go (slices_short published lent) refl
  where
    go : (b : Bool) → slices_short published lent ≡ b → slices_short published lent ≡ false
    go true q = stopped_not_passed (sym (work_short published lent q) ∙ e)
    go false q = q

pub prelude_passed
    : {A : Type 0} (l : Limits) (published lent : List ℕ) (j : Judged A) (a : A) → prelude l published lent j ≡ passed a
    → (in_range l ≡ true) × (slices_short published lent ≡ false) × (j ≡ passed a)
unfolding prelude
prelude_passed l published lent j a e =
    let (r, d, h) = bind_passed (judge_limits l) (λ r. judge_work published lent >>= λ w. j) a e in
    let (w, f, g) = bind_passed (judge_work published lent) (λ w. j) a h in (limits_passed l d, work_passed published lent f, g)

pub in_text_passed : {A : Type 0} (k : ℕ) (o : Outcome ℕ A) (a : A) → in_text k o ≡ passed a → o ≡ ok a
unfolding in_text
in_text_passed k (ok b) a e = ap ok (passed_same e)
in_text_passed k (refused n p) a e = stopped_not_passed e

pub text_passed
    : {A : Type 0} (k : ℕ) (l : Limits) (read : Reading A) (s : Bytes) (a : A) → judge_text k l read s ≡ passed a
    → (length s ≤ l.bytes) × (read l s ≡ ok a)
text_passed k l read s a e = go (ltb l.bytes (length s)) refl
  where
    go : (b : Bool) → ltb l.bytes (length s) ≡ b → (length s ≤ l.bytes) × (read l s ≡ ok a)
    go true q = stopped_not_passed (sym (text_long k l read s q) ∙ e)
    go false q = (ltb_le l.bytes (length s) q, in_text_passed k (read l s) a (sym (text_short k l read s q) ∙ e))

module _ {A B : Type 0} (l : Limits) (read : Reading A) (s : Bytes) (read' : Reading B) (t : Bytes) where
  pub first_stops : {r : Answer} → judge_text 1 l read s ≡ stopped r → judge_both l read s read' t ≡ stopped r
  unfolding judge_both
  first_stops e = bind_stopped _ e

  pub second_stops
      : {a : A} {r : Answer} → judge_text 1 l read s ≡ passed a → judge_text 2 l read' t ≡ stopped r
      → judge_both l read s read' t ≡ stopped r
  unfolding judge_both
  second_stops e f = bind_of _ e ∙ bind_stopped _ f

  pub both_pass
      : {a : A} {b : B} → judge_text 1 l read s ≡ passed a → judge_text 2 l read' t ≡ passed b
      → judge_both l read s read' t ≡ passed (a, b)
  unfolding judge_both
  both_pass e f = bind_of _ e ∙ bind_of _ f

  pub both_read
      : (a : A) (b : B) → length s ≤ l.bytes → read l s ≡ ok a → length t ≤ l.bytes → read' l t ≡ ok b
      → judge_both l read s read' t ≡ passed (a, b)
  both_read a b h e g f = both_pass (text_reads 1 l read s a h e) (text_reads 2 l read' t b g f)

  -- why both passed
  pub record BothPassed (a : A) (b : B) : Type 0 where
    pub first_short : length s ≤ l.bytes
    pub first_read : read l s ≡ ok a
    pub second_short : length t ≤ l.bytes
    pub second_read : read' l t ≡ ok b

  -- and what came behind
  pub both_passed
      : {C : Type 0} (then : A × B → Judged C) (c : C) → judge_both l read s read' t >>= then ≡ passed c
      → (a : A) × (b : B) × BothPassed a b × (then (a, b) ≡ passed c)
  unfolding judge_both
  both_passed then c e =
      let (ab, f, rest) = bind_passed (judge_both l read s read' t) then c e in
      let (a, g, h) = bind_passed (judge_text 1 l read s) _ ab f in
      let (b, i, k) = bind_passed (judge_text 2 l read' t) _ ab h in
      let (x, y) = text_passed 1 l read s a g in
      let (z, w) = text_passed 2 l read' t b i in (
        a,
        b,
        record { first_short = x; first_read = y; second_short = z; second_read = w },
        ap then (passed_same k) ∙ rest,
      )

pub shape_out_passed
    : (l : Limits) (s : Shape) (t : TextOut) → shape_out l s ≡ passed t
    → (shape_over l s ≡ false) × (t ≡ to_write (write_shape s) 0)
shape_out_passed l s t e = go (shape_over l s) refl
  where
    go : (b : Bool) → shape_over l s ≡ b → (shape_over l s ≡ false) × (t ≡ to_write (write_shape s) 0)
    go true q = stopped_not_passed (sym (shape_out_over l s q) ∙ e)
    go false q = (q, passed_same (sym e ∙ shape_out_fits l s q))

-- the shape is within the limits, in parts
pub shape_fits
    : (l : Limits) (s : Shape) → shape_over l s ≡ false
    → (forms s ≤ l.values) × (levels s ≤ l.nesting) × (length (write_shape s) ≤ l.bytes)
shape_fits l s e =
    let a : over l (forms s) (levels s) ≡ false = or_false_left _ (ltb l.bytes (length (write_shape s))) e in
    let b : ltb l.bytes (length (write_shape s)) ≡ false = or_false_right (over l (forms s) (levels s)) _ e in (
      ltb_le _ _ (or_false_left (ltb l.values (forms s)) (ltb l.nesting (levels s)) a),
      ltb_le _ _ (or_false_right (ltb l.values (forms s)) (ltb l.nesting (levels s)) a),
      ltb_le _ _ b,
    )

pub fits_shape
    : (l : Limits) (s : Shape) → forms s ≤ l.values → levels s ≤ l.nesting → length (write_shape s) ≤ l.bytes → shape_over l s ≡ false
fits_shape l s f d b = rw (le-ltb _ _ f, le-ltb _ _ d, le-ltb _ _ b) refl

-- ---- numbers of refusals

pub work_positive : (published lent : List ℕ) → Positive (judge_work published lent)
work_positive published lent = go (slices_short published lent) refl
  where
    go : (b : Bool) → slices_short published lent ≡ b → Positive (judge_work published lent)
    go true q = rw (work_short published lent q) (refusal_positive 1 0 0 (lit< tt))
    go false q = rw (work_long published lent q) tt

pub text_positive
    : {A : Type 0} (k : ℕ) (l : Limits) (read : Reading A) (s : Bytes) → Numbered (read l s)
    → Positive (judge_text k l read s)
text_positive k l read s h = go (ltb l.bytes (length s)) refl
  where
    go : (b : Bool) → ltb l.bytes (length s) ≡ b → Positive (judge_text k l read s)
    go true q = rw (text_long k l read s q) (refusal_positive 2 k 0 (lit< tt))
    go false q = rw (text_short k l read s q) (in_text_positive k (read l s) h)

limits_positive : (l : Limits) → Positive (judge_limits l)
limits_positive l = go (in_range l) refl
  where
    go : (b : Bool) → in_range l ≡ b → Positive (judge_limits l)
    go true q = rw (limits_in l q) tt
    go false q = rw (limits_out l q) (refusal_positive 18 0 0 (lit< tt))

pub prelude_positive : {A : Type 0} (l : Limits) (published lent : List ℕ) (j : Judged A) → Positive j → Positive (prelude l published lent j)
unfolding prelude
prelude_positive l published lent j h =
    bind_positive _ _ (limits_positive l) λ r. bind_positive _ _ (work_positive published lent) λ w. h

pub both_positive
    : {A B : Type 0} (l : Limits) (read : Reading A) (s : Bytes) (read' : Reading B) (t : Bytes) → Numbered (read l s)
    → Numbered (read' l t) → Positive (judge_both l read s read' t)
unfolding judge_both
both_positive l read s read' t h g =
    bind_positive _ _ (text_positive 1 l read s h) λ a. bind_positive _ _ (text_positive 2 l read' t g) λ b. tt

pub shape_out_positive : (l : Limits) (s : Shape) → Positive (shape_out l s)
shape_out_positive l s = go (shape_over l s) refl
  where
    go : (b : Bool) → shape_over l s ≡ b → Positive (shape_out l s)
    go true q = rw (shape_out_over l s q) (refusal_positive 11 0 0 (lit< tt))
    go false q = rw (shape_out_fits l s q) tt

-- ---- the end of an operation

-- success: what passed was short enough, and is written
pub finish_zero
    : (output : Bytes) (m : Judged TextOut) → Positive m → (finish output m).answer.number ≡ 0
    → (t : TextOut) × (m ≡ passed t) × (length t.bytes ≤ length output)
unfolding finish output_short
finish_zero output (passed t) h e = go (ltb (length output) (length t.bytes)) refl
  where
    go : (b : Bool) → ltb (length output) (length t.bytes) ≡ b
        → (u : TextOut) × (passed t ≡ passed u) × (length u.bytes ≤ length output)
    go true q =
        let z : ◌≡◌ {A = ℕ} 15 0 = sym (ap (λ (d : Done). d.answer.number) (deliver_short output t q)) ∙ e in
        absurd (let w : ⊥ = omega arith in w)
    go false q = (t, refl, ltb_le _ _ q)
finish_zero output (stopped r) h e = absurd (let z : ⊥ = omega arith in z)

-- yes or no: what passed is said
pub say_zero : (m : Judged Bool) → Positive m → (say m).number ≡ 0 → (y : Bool) × (m ≡ passed y)
unfolding say
say_zero (passed y) h e = (y, refl)
say_zero (stopped r) h e = absurd (let z : ⊥ = omega arith in z)

-- the answer and the output of a success
pub finish_written
    : (output : Bytes) {m : Judged TextOut} (t : TextOut) → m ≡ passed t → length t.bytes ≤ length output
    → finish output m
    ≡ record { answer = written (length t.bytes) t.steps t.told; output = t.bytes ++ drop (length t.bytes) output }
unfolding finish
finish_written output t e h = ap (λ m. finish output m) e ∙ deliver_room output t (le-ltb _ _ h)

-- what is written stands at the front of the output
pub front
    : (output : Bytes) (t : TextOut) (d : Done)
    → d ≡ record { answer = written (length t.bytes) t.steps t.told; output = t.bytes ++ drop (length t.bytes) output }
    → (d.answer.number ≡ 0) × (take d.answer.length d.output ≡ t.bytes)
unfolding written
front output t d e = rw e (refl, take-append_seam t.bytes _)
