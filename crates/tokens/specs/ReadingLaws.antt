-- How reading a text of forms goes over one token, by any grammar's steps. Assumes nothing.
use Rattle.std.specs.Prelude.{ℕ, suc, ◌≤◌, ◌≡◌, true, false, length}
use Rattle.std.proofs.Math.Path.{refl, sym, ap}
use Rattle.std.proofs.Common.{◌∙◌, arith}
use mathlib.Core.List.{List, [], ◌∷◌, nil≢cons, head-eq_of_cons-eq}
use Rattle.std.proofs.Math.Option.{Option, none}
use Rattle.definitions.specs.declared.Limits.{Limits}
use Rattle.definitions.specs.Limits.{over}
use Rattle.definitions.specs.Bytes.{Bytes}
use Rattle.definitions.specs.Outcome.{Outcome, refused}
use Rattle.definitions.specs.Tokens.{Token, opening, closing, quoted, word, broken, at_place, Placed, Step, misplaced, go, opens, want_open}
use Rattle.definitions.specs.Tokens.{want_close, want_text, want_word, judge_step, or_end, read_tokens}
use Rattle.reading.specs.declared.Cause.{Cause}
use Rattle.reading.specs.declared.Cause.TheVariants.{FormSyntax}
use Rattle.reading.specs.declared.Refusal.{Refusal}
use Rattle.reading.specs.Refusals.{number_of, refused_as}
use Rattle.tokens.specs.TokenRead.{tokens_from, Found}
use Rattle.tokens.specs.Expecting.{Sort, an_opening, a_closing, a_text, a_word, sort, Lacks, another, none_left, Misses, TextPlaced, MoreAt}

-- ---- refusals

-- one for what may not stand there
pub as_misplaced : {A : Type 0} {r : Refusal} {place : ℕ} → r.place ≡ place → r.cause ≡ FormSyntax → refused 7 place ≡ refused_as {A = A} r
as_misplaced {r} e f = ap (refused 7) (sym e) ∙ ap (λ (c : Cause). refused (number_of c) r.place) (sym f)

-- ---- one token

-- reading from a place on that stands between tokens, where n forms that count have begun
abbrev pub reads
    : {Q A : Type 0} → (Q → Placed → Step Q) → (Q → Option A) → Limits → Bytes → (n : ℕ) → Q → ℕ → Outcome ℕ A
reads step whole l text n q at = read_tokens step whole l n (length text) q (tokens_from text at)

module _ {Q A : Type 0} (step : Q → Placed → Step Q) (whole : Q → Option A) (l : Limits) (n : ℕ) (text : Bytes) (at : ℕ) where
  misplaced_next
      : (q : Q) (place : ℕ) (t : Token) (ts : List Placed) → tokens_from text at ≡ at_place place t ∷ ts
      → step q (at_place place t) ≡ misplaced → reads step whole l text n q at ≡ refused 7 place
  unfolding read_tokens judge_step at_place
  misplaced_next q place t ts e m = ap (λ (us : List Placed). read_tokens step whole l n (length text) q us) e ∙ rw m

  -- no token, where the text may end
  pub whole_text : (q : Q) → tokens_from text at ≡ [] → reads step whole l text n q at ≡ or_end (length text) (whole q)
  unfolding read_tokens
  whole_text q e = ap (λ (us : List Placed). read_tokens step whole l n (length text) q us) e

  -- where it may not
  none_there : (q : Q) {place : ℕ} → tokens_from text at ≡ [] → place ≡ length text → whole q ≡ none → reads step whole l text n q at ≡ refused 7 place
  unfolding read_tokens or_end
  none_there q e i w =
      ap (λ (us : List Placed). read_tokens step whole l n (length text) q us) e
      ∙ ap (or_end (length text)) w
      ∙ ap (refused 7) (sym i)

module _ {Q A : Type 0} (step : Q → Placed → Step Q) (whole : Q → Option A) (l : Limits) (n : ℕ) {text : Bytes} {at : ℕ} where
  found_step
      : (q : Q) {t : Token} {place end : ℕ} → Found text at t place end
      → reads step whole l text n q at ≡ judge_step l n place (step q (at_place place t)) (λ n' q'. reads step whole l text n' q' end)
  unfolding read_tokens at_place
  found_step q f = ap (λ (ts : List Placed). read_tokens step whole l n (length text) q ts) f.run

  -- one that may stand there
  pub goes_on
      : (q : Q) {t : Token} {place end : ℕ} {q' : Q} → Found text at t place end → step q (at_place place t) ≡ go q'
      → reads step whole l text n q at ≡ reads step whole l text n q' end
  unfolding judge_step
  goes_on q f e = found_step q f ∙ rw e

  -- the bracket of a form that counts
  pub opens_on
      : (q : Q) {t : Token} {place end d : ℕ} {q' : Q} → Found text at t place end → step q (at_place place t) ≡ opens d q'
      → over l (suc n) d ≡ false → reads step whole l text n q at ≡ reads step whole l text (suc n) q' end
  unfolding judge_step
  opens_on q f e h = found_step q f ∙ rw e (rw (h, judge_step))

  pub opens_full
      : (q : Q) {t : Token} {place end d : ℕ} {q' : Q} → Found text at t place end → step q (at_place place t) ≡ opens d q'
      → over l (suc n) d ≡ true → reads step whole l text n q at ≡ refused 8 place
  unfolding judge_step
  opens_full q f e h = found_step q f ∙ rw e (rw (h, judge_step))

  -- one that may not
  pub misplaced_found
      : (q : Q) {t : Token} {place end : ℕ} → Found text at t place end → step q (at_place place t) ≡ misplaced
      → reads step whole l text n q at ≡ refused 7 place
  unfolding judge_step
  misplaced_found q f e = found_step q f ∙ rw e

  lacking_at
      : (q : Q) (k : Sort) {place : ℕ} → Lacks k text at place → whole q ≡ none
      → ((t : Token) (p : ℕ) → (sort t ≡ k → ⊥) → step q (at_place p t) ≡ misplaced) → reads step whole l text n q at ≡ refused 7 place
  lacking_at q k {place} (another t ts e h) w m = misplaced_next step whole l n text at q place t ts e (m t place h)
  lacking_at q k (none_left e i) w m = none_there step whole l n text at q e i w

  -- none of the one sort that may
  pub lacking
      : (q : Q) (k : Sort) {r : Refusal} → Misses k text at r → whole q ≡ none
      → ((t : Token) (p : ℕ) → (sort t ≡ k → ⊥) → step q (at_place p t) ≡ misplaced) → reads step whole l text n q at ≡ refused_as r
  lacking q k {r} x w m = lacking_at q k x.lacks w m ∙ as_misplaced refl x.cause

  lacking_both_at
      : (q : Q) {place : ℕ} → Lacks an_opening text at place → Lacks a_closing text at place → whole q ≡ none
      → ((t : Token) (p : ℕ) → (sort t ≡ an_opening → ⊥) → (sort t ≡ a_closing → ⊥) → step q (at_place p t) ≡ misplaced)
      → reads step whole l text n q at ≡ refused 7 place
  unfolding at_place
  lacking_both_at q {place} (another t ts e h) (another u us f i) w m =
      let same : t ≡ u = ap (λ (x : Placed). x.token) (head-eq_of_cons-eq (sym e ∙ f)) in
      misplaced_next step whole l n text at q place t ts e (m t place h (λ j. i (ap sort (sym same) ∙ j)))
  lacking_both_at q (another t ts e h) (none_left f i) w m = absurd (nil≢cons (sym f ∙ e))
  lacking_both_at q (none_left e i) k w m = none_there step whole l n text at q e i w

  -- neither bracket, where both may
  pub lacking_both
      : (q : Q) {r : Refusal} → Misses an_opening text at r → Misses a_closing text at r → whole q ≡ none
      → ((t : Token) (p : ℕ) → (sort t ≡ an_opening → ⊥) → (sort t ≡ a_closing → ⊥) → step q (at_place p t) ≡ misplaced)
      → reads step whole l text n q at ≡ refused_as r
  lacking_both q {r} x y w m = lacking_both_at q x.lacks y.lacks w m ∙ as_misplaced refl x.cause

  -- another token than of one sort, which does the same in two states
  pub same_lacking
      : (q r : Q) (k : Sort) {place : ℕ} → Lacks k text at place → whole q ≡ whole r
      → ((t : Token) (p : ℕ) → (sort t ≡ k → ⊥) → step q (at_place p t) ≡ step r (at_place p t))
      → reads step whole l text n q at ≡ reads step whole l text n r at
  unfolding read_tokens
  same_lacking q r k {place} (another t ts e h) w m =
      ap (λ (us : List Placed). read_tokens step whole l n (length text) q us) e
      ∙ ap (λ (x : Step Q). judge_step l n (at_place place t).at x (λ n' q'. read_tokens step whole l n' (length text) q' ts)) (m t place h)
      ∙ sym (ap (λ (us : List Placed). read_tokens step whole l n (length text) r us) e)
  same_lacking q r k (none_left e i) w m =
      ap (λ (us : List Placed). read_tokens step whole l n (length text) q us) e
      ∙ ap (or_end (length text)) w
      ∙ sym (ap (λ (us : List Placed). read_tokens step whole l n (length text) r us) e)

  -- any, behind the whole text
  pub more_text
      : (q : Q) {r : Refusal} → MoreAt text at r → ((t : Placed) → step q t ≡ misplaced) → reads step whole l text n q at ≡ refused_as r
  more_text q {r} x m =
      misplaced_next step whole l n text at q r.place x.token x.others x.run (m (at_place r.place x.token)) ∙ as_misplaced refl x.cause

-- ---- tokens of another sort

module _ {Q : Type 0} where
  pub no_opening : (t : Token) (s : Step Q) → (sort t ≡ an_opening → ⊥) → want_open t s ≡ misplaced
  unfolding sort want_open
  no_opening opening s h = absurd (h refl)
  no_opening closing s h = refl
  no_opening (quoted u) s h = refl
  no_opening (word w) s h = refl
  no_opening broken s h = refl

  pub no_closing : (t : Token) (s : Step Q) → (sort t ≡ a_closing → ⊥) → want_close t s ≡ misplaced
  unfolding sort want_close
  no_closing opening s h = refl
  no_closing closing s h = absurd (h refl)
  no_closing (quoted u) s h = refl
  no_closing (word w) s h = refl
  no_closing broken s h = refl

  pub no_text : (t : Token) (f : Bytes → Step Q) → (sort t ≡ a_text → ⊥) → want_text t f ≡ misplaced
  unfolding sort want_text
  no_text opening f h = refl
  no_text closing f h = refl
  no_text (quoted u) f h = absurd (h refl)
  no_text (word w) f h = refl
  no_text broken f h = refl

  pub no_word : (t : Token) (f : Bytes → Step Q) → (sort t ≡ a_word → ⊥) → want_word t f ≡ misplaced
  unfolding sort want_word
  no_word opening f h = refl
  no_word closing f h = refl
  no_word (quoted u) f h = refl
  no_word (word w) f h = absurd (h refl)
  no_word broken f h = refl

-- ---- where reading may go on

pub placed_on
    : {text : Bytes} {p : List ℕ} {at at' top : ℕ} → TextPlaced text p at top → at ≤ at' → at' ≤ length text → TextPlaced text p at' top
placed_on r h i = record { short = r.short; within = i; texts = omega (arith, r.texts); small = omega (arith, r.small) }
