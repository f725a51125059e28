-- An operation on its texts is refused with the first of its causes, if each of its parts is: the set of limits, the work slices, each text, and what
-- comes behind the texts. Assumes nothing.
use Rattle.std.specs.Prelude.{ℕ, ◌≤◌, ◌<◌, ◌≡◌, Bool, true, false, List, [], ltb, length}
use Rattle.std.proofs.Common.{arith, sym, ap, ◌∙◌, true≢false, lit<}
use Rattle.std.proofs.Math.Path.{refl, subst}
use Rattle.definitions.specs.declared.Limits.{Limits}
use Rattle.definitions.specs.declared.Answer.{Answer}
use Rattle.definitions.specs.Limits.{in_range}
use Rattle.definitions.specs.Bytes.{Bytes}
use Rattle.definitions.specs.Outcome.{Outcome, ok, refused}
use Rattle.definitions.specs.Operations.{Judged, stopped, ◌>>=◌, refusal, Reading, judge_text, judge_both, slices_short, prelude}
use Rattle.laws.specs.Tests.{ltb_lt, ltb_le}
use Rattle.laws.specs.Judging.{Numbered, text_long, text_reads, text_refused, bind_of, bind_stopped, prelude_out, prelude_short, prelude_long}
use Rattle.laws.specs.Judging.{first_stops, second_stops, both_pass}
use Rattle.laws.specs.Causes.{First, same_place, RefusedFirst}
use Rattle.laws.specs.JsonMoves.{ok≢refused}
use Rattle.laws.specs.OperationCauses.{Refusal, at_limits, at_slices, over_long_1, over_long_2, in_text_1, in_text_2, Before}
use Rattle.laws.specs.OperationCauses.{earlier_stage, same_stage, RefusedWithTheFirst, by_cause, by_none}

-- ---- causes of an outcome

-- an outcome is refused for these causes, with the least
pub record Exact {A : Type 0} (o : Outcome ℕ A) (C : ℕ → ℕ → Type 0) : Type 0 where
  pub caused : (n p : ℕ) → o ≡ refused n p → C n p
  pub least : (m q : ℕ) → C m q → RefusedFirst o m q
  pub numbered : Numbered o

module _ {A : Type 0} {o : Outcome ℕ A} {C : ℕ → ℕ → Type 0} (x : Exact o C) where
  pub exact_free : {a : A} {m q : ℕ} → o ≡ ok a → C m q → ⊥
  exact_free {m = m} {q} e c = let (n, p, f, g) = x.least m q c in ok≢refused (sym e ∙ f)

  number_of : Outcome ℕ A → ℕ
  number_of (ok a) = 0
  number_of (refused n p) = n

  place_of : Outcome ℕ A → ℕ
  place_of (ok a) = 0
  place_of (refused n p) = p

  pub exact_first : {n p m q : ℕ} → o ≡ refused n p → C m q → First n p m q
  unfolding number_of place_of
  exact_first {n} {p} {m} {q} e c =
      let (n', p', f, g) = x.least m q c in
      subst (λ (i : ℕ). First i p m q) (ap number_of (sym f ∙ e)) (subst (λ (i : ℕ). First n' i m q) (ap place_of (sym f ∙ e)) g)

  pub exact_number : {n p : ℕ} → o ≡ refused n p → 0 < n
  exact_number e = subst Numbered e x.numbered

-- by other names
pub first_by
    : {C D : Refusal → Type 0} {a : Answer} → ((k : Refusal) → C k → D k) → ((k : Refusal) → D k → C k) → RefusedWithTheFirst C a
    → RefusedWithTheFirst D a
first_by f g (by_cause k c n h) = by_cause k (f k c) n (λ j d. h j (g j d))
first_by f g (by_none z h) = by_none z (λ k d. h k (g k d))

-- ---- causes in the order judged

module _ (published lent : List ℕ) (l : Limits) (C₁ : ℕ → ℕ → Type 0) (s : Bytes) (C₂ : ℕ → ℕ → Type 0) (t : Bytes) (E : Refusal → Type 0) where
  -- the causes of an operation on two texts, where E has those behind the texts
  pub data CauseOf : Refusal → Type 0 where
    limits : in_range l ≡ false → CauseOf at_limits
    slices : slices_short published lent ≡ true → CauseOf at_slices
    long_1 : l.bytes < length s → CauseOf over_long_1
    in_1 : {n p : ℕ} → C₁ n p → CauseOf (in_text_1 n p)
    long_2 : l.bytes < length t → CauseOf over_long_2
    in_2 : {n p : ℕ} → C₂ n p → CauseOf (in_text_2 n p)
    later : {k : Refusal} → E k → CauseOf k

  module _ (late : (k : Refusal) → E k → 6 ≤ k.stage) where
    behind : {i : ℕ} {k : Refusal} → i < 6 → E k → i < k.stage
    behind {i} {k} h e = let n : 6 ≤ k.stage = late k e in omega arith

    limits_first : in_range l ≡ false → RefusedWithTheFirst CauseOf (refusal 18 0 0)
    unfolding refusal
    limits_first r = by_cause at_limits (limits r) (lit< tt) go
      where
        go : (j : Refusal) → CauseOf j → Before at_limits j
        go j (limits e) = same_stage refl (same_place refl (omega arith))
        go j (slices e) = earlier_stage (lit< tt)
        go j (long_1 e) = earlier_stage (lit< tt)
        go j (in_1 e) = earlier_stage (lit< tt)
        go j (long_2 e) = earlier_stage (lit< tt)
        go j (in_2 e) = earlier_stage (lit< tt)
        go j (later e) = earlier_stage (behind (lit< tt) e)

    module _ (range : in_range l ≡ true) where
      not_limits : {X : Type 0} → in_range l ≡ false → X
      not_limits e = absurd (true≢false (sym range ∙ e))

      slices_first : slices_short published lent ≡ true → RefusedWithTheFirst CauseOf (refusal 1 0 0)
      unfolding refusal
      slices_first w = by_cause at_slices (slices w) (lit< tt) go
        where
          go : (j : Refusal) → CauseOf j → Before at_slices j
          go j (limits e) = not_limits e
          go j (slices e) = same_stage refl (same_place refl (omega arith))
          go j (long_1 e) = earlier_stage (lit< tt)
          go j (in_1 e) = earlier_stage (lit< tt)
          go j (long_2 e) = earlier_stage (lit< tt)
          go j (in_2 e) = earlier_stage (lit< tt)
          go j (later e) = earlier_stage (behind (lit< tt) e)

      module _ (work : slices_short published lent ≡ false) where
        not_slices : {X : Type 0} → slices_short published lent ≡ true → X
        not_slices e = absurd (true≢false (sym e ∙ work))

        long_first : l.bytes < length s → RefusedWithTheFirst CauseOf (refusal 2 1 0)
        unfolding refusal
        long_first h = by_cause over_long_1 (long_1 h) (lit< tt) go
          where
            go : (j : Refusal) → CauseOf j → Before over_long_1 j
            go j (limits e) = not_limits e
            go j (slices e) = not_slices e
            go j (long_1 e) = same_stage refl (same_place refl (omega arith))
            go j (in_1 e) = earlier_stage (lit< tt)
            go j (long_2 e) = earlier_stage (lit< tt)
            go j (in_2 e) = earlier_stage (lit< tt)
            go j (later e) = earlier_stage (behind (lit< tt) e)

        module _ {A : Type 0} {o : Outcome ℕ A} (x : Exact o C₁) (short : length s ≤ l.bytes) where
          not_long : {X : Type 0} → l.bytes < length s → X
          not_long e = absurd (let z : ⊥ = omega arith in z)

          in_first : {n p : ℕ} → o ≡ refused n p → RefusedWithTheFirst CauseOf (refusal n 1 p)
          unfolding refusal
          in_first {n} {p} f = by_cause (in_text_1 n p) (in_1 (x.caused n p f)) (exact_number x f) go
            where
              go : (j : Refusal) → CauseOf j → Before (in_text_1 n p) j
              go j (limits e) = not_limits e
              go j (slices e) = not_slices e
              go j (long_1 e) = not_long e
              go j (in_1 e) = same_stage refl (exact_first x f e)
              go j (long_2 e) = earlier_stage (lit< tt)
              go j (in_2 e) = earlier_stage (lit< tt)
              go j (later e) = earlier_stage (behind (lit< tt) e)

          module _ {a : A} (read : o ≡ ok a) where
            long_second : l.bytes < length t → RefusedWithTheFirst CauseOf (refusal 2 2 0)
            unfolding refusal
            long_second h = by_cause over_long_2 (long_2 h) (lit< tt) go
              where
                go : (j : Refusal) → CauseOf j → Before over_long_2 j
                go j (limits e) = not_limits e
                go j (slices e) = not_slices e
                go j (long_1 e) = not_long e
                go j (in_1 e) = absurd (exact_free x read e)
                go j (long_2 e) = same_stage refl (same_place refl (omega arith))
                go j (in_2 e) = earlier_stage (lit< tt)
                go j (later e) = earlier_stage (behind (lit< tt) e)

            module _ {B : Type 0} {o' : Outcome ℕ B} (y : Exact o' C₂) (short' : length t ≤ l.bytes) where
              not_long_2 : {X : Type 0} → l.bytes < length t → X
              not_long_2 e = absurd (let z : ⊥ = omega arith in z)

              in_second : {n p : ℕ} → o' ≡ refused n p → RefusedWithTheFirst CauseOf (refusal n 2 p)
              unfolding refusal
              in_second {n} {p} f = by_cause (in_text_2 n p) (in_2 (y.caused n p f)) (exact_number y f) go
                where
                  go : (j : Refusal) → CauseOf j → Before (in_text_2 n p) j
                  go j (limits e) = not_limits e
                  go j (slices e) = not_slices e
                  go j (long_1 e) = not_long e
                  go j (in_1 e) = absurd (exact_free x read e)
                  go j (long_2 e) = not_long_2 e
                  go j (in_2 e) = same_stage refl (exact_first y f e)
                  go j (later e) = earlier_stage (behind (lit< tt) e)

              later_first : {b : B} {z : Answer} → o' ≡ ok b → RefusedWithTheFirst E z → RefusedWithTheFirst CauseOf z
              later_first {b} {z} read' (by_cause k c n h) = by_cause k (later c) n go
                where
                  go : (j : Refusal) → CauseOf j → Before k j
                  go j (limits e) = not_limits e
                  go j (slices e) = not_slices e
                  go j (long_1 e) = not_long e
                  go j (in_1 e) = absurd (exact_free x read e)
                  go j (long_2 e) = not_long_2 e
                  go j (in_2 e) = absurd (exact_free y read' e)
                  go j (later e) = h j e
              later_first {b} {z} read' (by_none n h) = by_none n go
                where
                  go : (j : Refusal) → CauseOf j → ⊥
                  go j (limits e) = not_limits e
                  go j (slices e) = not_slices e
                  go j (long_1 e) = not_long e
                  go j (in_1 e) = exact_free x read e
                  go j (long_2 e) = not_long_2 e
                  go j (in_2 e) = exact_free y read' e
                  go j (later e) = h j e

-- ---- an operation on two texts, and on one

-- what stands at the end of an operation: a refusal is answered as it is
pub record Ending {X : Type 0} (end : Judged X → Answer) : Type 0 where
  pub stops : (r : Answer) → end (stopped r) ≡ r

module _ (published lent : List ℕ) {X : Type 0} {end : Judged X → Answer} (ending : Ending end) (W : Answer → Type 0) where
  -- behind the prelude
  behind_prelude
      : (l : Limits) (whole : Judged X) → (in_range l ≡ false → W (refusal 18 0 0))
      → (in_range l ≡ true → slices_short published lent ≡ true → W (refusal 1 0 0))
      → (in_range l ≡ true → slices_short published lent ≡ false → W (end whole))
      → W (end (prelude l published lent whole))
  behind_prelude l whole f g h = ranged (in_range l) refl
    where
      lent_as : in_range l ≡ true → (b : Bool) → slices_short published lent ≡ b → W (end (prelude l published lent whole))
      lent_as r true w = subst W (sym (ap end (prelude_short l published lent whole r w) ∙ ending.stops (refusal 1 0 0))) (g r w)
      lent_as r false w = subst W (sym (ap end (prelude_long l published lent whole r w))) (h r w)

      ranged : (b : Bool) → in_range l ≡ b → W (end (prelude l published lent whole))
      ranged true r = lent_as r (slices_short published lent) refl
      ranged false r = subst W (sym (ap end (prelude_out l published lent whole r) ∙ ending.stops (refusal 18 0 0))) (f r)

  -- one text, in the k-th place of an operation
  judged_text
      : {A : Type 0} (k : ℕ) (l : Limits) (read : Reading A) (s : Bytes) (whole : Judged X)
      → ((r : Answer) → judge_text k l read s ≡ stopped r → whole ≡ stopped r)
      → (l.bytes < length s → W (refusal 2 k 0))
      → (length s ≤ l.bytes → (n p : ℕ) → read l s ≡ refused n p → W (refusal n k p))
      → (length s ≤ l.bytes → (a : A) → read l s ≡ ok a → W (end whole))
      → W (end whole)
  judged_text {A} k l read s whole stop f g h = go (ltb l.bytes (length s)) refl
    where
      answered : (r : Answer) → judge_text k l read s ≡ stopped r → W r → W (end whole)
      answered r e w = subst W (sym (ap end (stop r e) ∙ ending.stops r)) w

      by_outcome : length s ≤ l.bytes → (o : Outcome ℕ A) → read l s ≡ o → W (end whole)
      by_outcome short (ok a) e = h short a e
      by_outcome short (refused n p) e = answered (refusal n k p) (text_refused k l read s n p short e) (g short n p e)

      go : (b : Bool) → ltb l.bytes (length s) ≡ b → W (end whole)
      go true q = answered (refusal 2 k 0) (text_long k l read s q) (f (ltb_lt _ _ q))
      go false q = by_outcome (ltb_le _ _ q) (read l s) refl

module _
    {A B X : Type 0} (published lent : List ℕ) (l : Limits) (read : Reading A) (s : Bytes) (read' : Reading B) (t : Bytes)
    {C₁ C₂ : ℕ → ℕ → Type 0} {E : Refusal → Type 0} (late : (k : Refusal) → E k → 6 ≤ k.stage) (x : Exact (read l s) C₁)
    (y : Exact (read' l t) C₂) {end : Judged X → Answer} (ending : Ending end) (then : A × B → Judged X)
  where
    abbrev Whole : Type 0
    Whole = RefusedWithTheFirst (CauseOf published lent l C₁ s C₂ t E) (end (prelude l published lent (judge_both l read s read' t >>= then)))

    pub two_texts
        : ((a : A) (b : B) → read l s ≡ ok a → read' l t ≡ ok b → RefusedWithTheFirst E (end (then (a, b)))) → Whole
    two_texts f =
        let C = CauseOf published lent l C₁ s C₂ t E in
        let F = RefusedWithTheFirst C in
        let whole = judge_both l read s read' t >>= then in
        behind_prelude published lent ending F l whole (λ r. limits_first published lent l C₁ s C₂ t E late r)
        (λ r w. slices_first published lent l C₁ s C₂ t E late r w)
        λ r w.
        judged_text published lent ending F 1 l read s whole (λ a e. bind_stopped then (first_stops l read s read' t e))
        (λ h. long_first published lent l C₁ s C₂ t E late r w h)
        (λ h n p e. in_first published lent l C₁ s C₂ t E late r w x h e)
        λ h a e.
        judged_text published lent ending F 2 l read' t whole
        (λ z g. bind_stopped then (second_stops l read s read' t (text_reads 1 l read s a h e) g))
        (λ h'. long_second published lent l C₁ s C₂ t E late r w x h e h')
        (λ h' n p g. in_second published lent l C₁ s C₂ t E late r w x h e y h' g)
        λ h' b g.
        subst F
        (sym (ap end (bind_of then (both_pass l read s read' t (text_reads 1 l read s a h e) (text_reads 2 l read' t b h' g)))))
        (later_first published lent l C₁ s C₂ t E late r w x h e y h' g (f a b e g))

-- no second text
abbrev pub NoCause : ℕ → ℕ → Type 0
NoCause n p = ⊥

no_text : Exact {A = Unit {0}} (ok tt) NoCause
no_text = record { caused = λ n p e. ok≢refused e; least = λ m q c. absurd c; numbered = tt }

module _
    {A X : Type 0} (published lent : List ℕ) (l : Limits) (read : Reading A) (s : Bytes) {C : ℕ → ℕ → Type 0} {E : Refusal → Type 0}
    (late : (k : Refusal) → E k → 6 ≤ k.stage) (x : Exact (read l s) C) {end : Judged X → Answer} (ending : Ending end) (then : A → Judged X)
  where
    pub one_text
        : ((a : A) → read l s ≡ ok a → RefusedWithTheFirst E (end (then a)))
        → RefusedWithTheFirst (CauseOf published lent l C s NoCause [] E) (end (prelude l published lent (judge_text 1 l read s >>= then)))
    one_text f =
        let F = RefusedWithTheFirst (CauseOf published lent l C s NoCause [] E) in
        let whole = judge_text 1 l read s >>= then in
        behind_prelude published lent ending F l whole (λ r. limits_first published lent l C s NoCause [] E late r)
        (λ r w. slices_first published lent l C s NoCause [] E late r w)
        λ r w.
        judged_text published lent ending F 1 l read s whole (λ a e. bind_stopped then e)
        (λ h. long_first published lent l C s NoCause [] E late r w h)
        (λ h n p e. in_first published lent l C s NoCause [] E late r w x h e)
        λ h a e.
        subst F (sym (ap end (bind_of then (text_reads 1 l read s a h e))))
        (later_first published lent l C s NoCause [] E late r w x h e no_text (let z : 0 ≤ l.bytes = omega arith in z) refl (f a e))
