-- How reading a reader goes over one token. Assumes nothing.
use Prim.Native.Nat.{ℕ, suc, ◌+◌, ◌-◌, ◌≤◌}
use mathlib.Core.Path.{◌≡◌, refl, sym, ap, ◌∙◌}
use mathlib.Core.Bool.{true, false}
use mathlib.Core.List.{List, [], ◌∷◌}
use mathlib.Core.Option.{none}
use native.Mathlib.Omega.{arith}
use lib.ListN.{length}
use Rattle.definitions.specs.Limits.{over}
use Rattle.definitions.specs.Bytes.{Bytes}
use Rattle.std.specs.Prelude as std
use Rattle.std.specs.Prelude.{Some, None, Err}
use Rattle.std.specs.Option.{ok_or}
use Rattle.reading.specs.declared.Cause.TheVariants.{FormSyntax}
use Rattle.reading.specs.declared.Refusal.{Refusal}
use Rattle.reading.specs.Refusals.{refused_as}
use Rattle.definitions.specs.Outcome.{refused}
use Rattle.definitions.specs.Tokens.{Token, opening, closing, quoted, word, broken, at_place, Step, misplaced, go, opens, want_open, want_close}
use Rattle.definitions.specs.Tokens.{want_text, want_word, judge_step, or_end, read_tokens}
use Rattle.definitions.specs.Tokens as Tokens
use Rattle.definitions.specs.Reader.{Want, State, want, want_step, step, finished_result, finished_place}
use Rattle.pool.specs.Pool.{words}
use Rattle.pool.specs.PoolLaws.{bytes_words}
use Rattle.tokens.specs.TokenRead.{tokens_from, Found}
use Rattle.tokens.specs.Expecting.{an_opening, a_closing, a_text, a_word, sort, Lacks, another, none_left, Misses}
use Rattle.tokens.specs.ReadingLaws as Laws
use Rattle.tokens.specs.Expecting.{TextPlaced}
use Rattle.form_reader.specs.FormParts.{Aim, a_reader, a_place, finished, Job, reading, OpensAt, WantsWord, WantsText}

-- r refuses what no right text has at a place
pub record Misplaced (r : Refusal) (place : ℕ) : Type 0 where
  pub at : r.place ≡ place
  pub cause : r.cause ≡ FormSyntax

-- so it does where `ok_or` makes a refusal of nothing
pub unfound
    : {A : Type 0} (o : std.Option A) {r m : Refusal} {place : ℕ} → Err r ≡ ok_or o m → m.place ≡ place → m.cause ≡ FormSyntax
    → (o ≡ None) × Misplaced r place
unfound None {r} {m} h e f =
    let same : r ≡ m = cc in
    (refl, record { at = ap (λ (q : Refusal). q.place) same ∙ e; cause = ap (λ (q : Refusal). q.cause) same ∙ f })
unfound (Some a) h e f = absurd (cc)

-- the pool has room for every token
pub next_room
    : {text : Bytes} {pool : List ℕ} {at top : ℕ} → TextPlaced text pool at top
    → (at ≤ length text) × (top + words (length text - at - 1) ≤ length pool)
next_room {text} {pool} {at} {top} r = (
  r.within,
  bytes_words top (length text - at - 1) (length pool) (omega (arith, r.within, r.texts)),
)

-- a form may end here; q comes behind
pub record ClosesAt (w : Want) (q : State) : Type 0 where
  pub does : (t : Tokens.Placed) → want_step w t ≡ want_close t.token (go q)

-- where something must come, the text may not end
unfinished : (a : Aim) (w : Want) → finished a (want w) ≡ none
unfolding finished finished_result finished_place
unfinished a_reader w = refl
unfinished a_place w = refl

module _ (x : Job) (n : ℕ) {text : Bytes} {at : ℕ} (w : Want) where
  pub goes_on
      : {t : Token} {place end : ℕ} {q : State} → Found text at t place end → want_step w (at_place place t) ≡ go q
      → reading x n text (want w) at ≡ reading x n text q end
  unfolding reading step
  goes_on f e = Laws.goes_on step (finished x.aim) x.limits n (want w) f e

  pub misplaced_found
      : {t : Token} {place end : ℕ} {r : Refusal} → Found text at t place end → want_step w (at_place place t) ≡ misplaced
      → Misplaced r place → reading x n text (want w) at ≡ refused_as r
  unfolding reading step
  misplaced_found f e m = Laws.misplaced_found step (finished x.aim) x.limits n (want w) f e ∙ Laws.as_misplaced m.at m.cause

  -- an opening bracket
  module _ {d : ℕ} {f : ℕ → Want} (o : OpensAt w d f) where
    pub opens_on
        : {place end : ℕ} → Found text at opening place end → over x.limits (suc n) (suc d) ≡ false
        → reading x n text (want w) at ≡ reading x (suc n) text (want (f place)) end
    unfolding reading step at_place want_open
    opens_on {place} g h =
        Laws.opens_on step (finished x.aim) x.limits n (want w) g (o.does (at_place place opening)) h

    pub opens_full
        : {place end : ℕ} → Found text at opening place end → over x.limits (suc n) (suc d) ≡ true
        → reading x n text (want w) at ≡ refused 8 place
    unfolding reading step at_place want_open
    opens_full {place} g h =
        Laws.opens_full step (finished x.aim) x.limits n (want w) g (o.does (at_place place opening)) h

    pub no_bracket : {e : Refusal} → Misses an_opening text at e → reading x n text (want w) at ≡ refused_as e
    unfolding reading step at_place
    no_bracket m =
        Laws.lacking step (finished x.aim) x.limits n (want w) an_opening m (unfinished x.aim w)
        (λ t p h. o.does (at_place p t) ∙ Laws.no_opening t (opens (suc d) (want (f p))) h)

  -- a closing one
  module _ {q : State} (c : ClosesAt w q) where
    pub closes_on : {place end : ℕ} → Found text at closing place end → reading x n text (want w) at ≡ reading x n text q end
    unfolding at_place want_close
    closes_on {place} g = goes_on g (c.does (at_place place closing))

    pub no_end : {e : Refusal} → Misses a_closing text at e → reading x n text (want w) at ≡ refused_as e
    unfolding reading step at_place
    no_end m =
        Laws.lacking step (finished x.aim) x.limits n (want w) a_closing m (unfinished x.aim w)
        (λ t p h. c.does (at_place p t) ∙ Laws.no_closing t (go q) h)

  -- a word
  module _ {g : Bytes → Step State} (c : WantsWord w g) where
    pub word_goes
        : {v : Bytes} {place end : ℕ} {q : State} → Found text at (word v) place end → g v ≡ go q
        → reading x n text (want w) at ≡ reading x n text q end
    unfolding at_place want_word
    word_goes {v} {place} f e = goes_on f (c.does (at_place place (word v)) ∙ e)

    pub word_misplaced
        : {v : Bytes} {place end : ℕ} {r : Refusal} → Found text at (word v) place end → g v ≡ misplaced → Misplaced r place
        → reading x n text (want w) at ≡ refused_as r
    unfolding at_place want_word
    word_misplaced {v} {place} f e m = misplaced_found f (c.does (at_place place (word v)) ∙ e) m

    pub no_word : {e : Refusal} → Misses a_word text at e → reading x n text (want w) at ≡ refused_as e
    unfolding reading step at_place
    no_word m =
        Laws.lacking step (finished x.aim) x.limits n (want w) a_word m (unfinished x.aim w)
        (λ t p h. c.does (at_place p t) ∙ Laws.no_word t g h)

  -- a text, which g judges
  module _ {g : Bytes → Step State} (c : WantsText w g) where
    pub text_goes
        : {v : Bytes} {place end : ℕ} {q : State} → Found text at (quoted v) place end → g v ≡ go q
        → reading x n text (want w) at ≡ reading x n text q end
    unfolding at_place want_text
    text_goes {v} {place} f e = goes_on f (c.does (at_place place (quoted v)) ∙ e)

    pub no_text : {e : Refusal} → Misses a_text text at e → reading x n text (want w) at ≡ refused_as e
    unfolding reading step at_place
    no_text m =
        Laws.lacking step (finished x.aim) x.limits n (want w) a_text m (unfinished x.aim w)
        (λ t p h. c.does (at_place p t) ∙ Laws.no_text t g h)

-- ---- the end of a pack

first_token : List Tokens.Placed → Token
first_token [] = broken
first_token (t ∷ ts) = t.token

module _ (x : Job) (n : ℕ) (text : Bytes) (at : ℕ) (w : Want) where
  next_misplaced
      : (place : ℕ) (t : Token) (ts : List Tokens.Placed) → tokens_from text at ≡ at_place place t ∷ ts
      → want_step w (at_place place t) ≡ misplaced → reading x n text (want w) at ≡ refused 7 place
  unfolding reading read_tokens judge_step at_place step
  next_misplaced place t ts e m =
      ap (λ (us : List Tokens.Placed). read_tokens step (finished x.aim) x.limits n (length text) (want w) us) e ∙ rw m

  text_over : tokens_from text at ≡ [] → reading x n text (want w) at ≡ refused 7 (length text)
  unfolding reading or_end
  text_over e =
      Laws.whole_text step (finished x.aim) x.limits n text at (want w) e
      ∙ ap (or_end (length text)) (unfinished x.aim w)

  no_pair_at
      : {place place' : ℕ} → Lacks a_text text at place' → Lacks a_closing text at place
      → ((t : Token) (p : ℕ) → (sort t ≡ a_text → ⊥) → (sort t ≡ a_closing → ⊥) → want_step w (at_place p t) ≡ misplaced)
      → reading x n text (want w) at ≡ refused 7 place
  unfolding at_place first_token
  no_pair_at {place} (another t ts e h) (another t' ts' e' h') m =
      let same : t ≡ t' = ap first_token (sym e ∙ e') in
      next_misplaced place t' ts' e' (m t' place (λ i. h (ap sort same ∙ i)) h')
  no_pair_at (none_left e i) (another t' ts' e' h') m =
      absurd (let z : 0 ≡ suc (length ts') = ap length (sym e ∙ e') in omega arith)
  no_pair_at (another t ts e' h) (none_left e i) m = text_over e ∙ ap (refused 7) (sym i)
  no_pair_at (none_left e' j) (none_left e i) m = text_over e ∙ ap (refused 7) (sym i)

  -- neither a text nor a closing bracket
  pub no_pair
      : {e e' : Refusal} → Misses a_text text at e' → Misses a_closing text at e
      → ((t : Token) (p : ℕ) → (sort t ≡ a_text → ⊥) → (sort t ≡ a_closing → ⊥) → want_step w (at_place p t) ≡ misplaced)
      → reading x n text (want w) at ≡ refused_as e
  no_pair k l m = no_pair_at k.lacks l.lacks m ∙ Laws.as_misplaced refl l.cause
