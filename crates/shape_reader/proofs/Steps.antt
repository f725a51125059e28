-- How reading goes over one token. Assumes nothing.
use Prim.Native.Nat.{ℕ, suc, ◌+◌, ◌-◌, ◌≤◌}
use mathlib.Core.Path.{◌≡◌, refl, ap}
use mathlib.Core.Bool.{true, false}
use mathlib.Core.List.{List}
use native.Mathlib.Omega.{arith}
use lib.ListN.{length}
use Rattle.definitions.specs.declared.Limits.{Limits}
use Rattle.definitions.specs.Bytes.{Bytes, bytes, same}
use Rattle.definitions.specs.Outcome.{refused}
use Rattle.definitions.specs.Shape.{Shape}
use Rattle.definitions.specs.Limits.{over}
use Rattle.definitions.specs.Tokens.{opening, closing, quoted, word, broken, at_place, misplaced, go, opens}
use Rattle.definitions.specs.Tokens.{want_word, where_some, look_word, want_named}
use Rattle.definitions.specs.Tokens as Tokens
use Rattle.definitions.specs.ShapeText.{Parts, Around, Want, shape_word, kind_word, member_open, member_word, member_name}
use Rattle.definitions.specs.ShapeText.{State, want, whole, no_parts, shape_words, member_words, want_step, member_step, step, finished}
use Rattle.laws.specs.Names.{same_eq, same_refl}
use Rattle.laws.specs.Tests.{fails}
use Rattle.pool.specs.Pool.{words}
use Rattle.pool.specs.PoolLaws.{bytes_words}
use Rattle.reading.specs.declared.Refusal.{Refusal}
use Rattle.reading.specs.Refusals.{refused_as}
use Rattle.tokens.specs.TokenRead.{Found}
use Rattle.tokens.specs.ReadingLaws as Laws
use Rattle.tokens.specs.Expecting.{TextPlaced as ReadyAt, Sort, an_opening, a_closing, a_word, sort, Lacks, Misses, MoreAt}
use Rattle.shape_reader.specs.ShapeParts.{reading, Only, shape_bytes, member_bytes}

-- ---- the pool has room for every token

pub next_room
    : {text : Bytes} {pool : List ℕ} {at top : ℕ} → ReadyAt text pool at top
    → (at ≤ length text) × (top + words (length text - at - 1) ≤ length pool)
next_room {text} {pool} {at} {top} r = (
  r.within,
  bytes_words top (length text - at - 1) (length pool) (omega (arith, r.within, r.texts)),
)

-- ---- a token that was found

no_bracket
    : (q : Parts) (o : Around) (t : Tokens.Token) → (sort t ≡ an_opening → ⊥) → (sort t ≡ a_closing → ⊥)
    → want_step (member_open q o) t ≡ misplaced
unfolding sort want_step member_step
no_bracket q o opening h i = absurd (h refl)
no_bracket q o closing h i = absurd (i refl)
no_bracket q o (quoted u) h i = refl
no_bracket q o (word w) h i = refl
no_bracket q o broken h i = refl

module _ (l : Limits) (n : ℕ) {text : Bytes} {at : ℕ} where
  -- one that may stand there
  pub goes_on
      : (w : Want) {t : Tokens.Token} {place end : ℕ} {q : State} → Found text at t place end → want_step w t ≡ go q
      → reading l n text (want w) at ≡ reading l n text q end
  unfolding reading step at_place
  goes_on w f e = Laws.goes_on step finished l n (want w) f e

  -- the bracket of a shape
  pub opens_on
      : (w : Want) {t : Tokens.Token} {place end d : ℕ} {q : State} → Found text at t place end → want_step w t ≡ opens d q
      → over l (suc n) d ≡ false → reading l n text (want w) at ≡ reading l (suc n) text q end
  unfolding reading step at_place
  opens_on w f e h = Laws.opens_on step finished l n (want w) f e h

  pub opens_full
      : (w : Want) {t : Tokens.Token} {place end d : ℕ} {q : State} → Found text at t place end → want_step w t ≡ opens d q
      → over l (suc n) d ≡ true → reading l n text (want w) at ≡ refused 8 place
  unfolding reading step at_place
  opens_full w f e h = Laws.opens_full step finished l n (want w) f e h

  -- one that may not
  pub misplaced_found
      : (w : Want) {t : Tokens.Token} {place end : ℕ} → Found text at t place end → want_step w t ≡ misplaced
      → reading l n text (want w) at ≡ refused 7 place
  unfolding reading step at_place
  misplaced_found w f e = Laws.misplaced_found step finished l n (want w) f e

  -- none of the one sort that may
  pub lacking
      : (w : Want) (k : Sort) {r : Refusal} → Misses k text at r → ((t : Tokens.Token) → (sort t ≡ k → ⊥) → want_step w t ≡ misplaced)
      → reading l n text (want w) at ≡ refused_as r
  unfolding reading step at_place finished
  lacking w k x m = Laws.lacking step finished l n (want w) k x refl (λ t p h. m t h)

  -- neither bracket
  pub lacking_both
      : (q : Parts) (o : Around) {r : Refusal} → Misses an_opening text at r → Misses a_closing text at r
      → reading l n text (want (member_open q o)) at ≡ refused_as r
  unfolding reading step at_place finished
  lacking_both q o x y = Laws.lacking_both step finished l n (want (member_open q o)) x y refl (λ t p h i. no_bracket q o t h i)

  -- none but words, which does the same in two states
  pub same_lacking
      : (w w' : Want) {place : ℕ} → Lacks a_word text at place
      → ((t : Tokens.Token) → (sort t ≡ a_word → ⊥) → want_step w t ≡ want_step w' t)
      → reading l n text (want w) at ≡ reading l n text (want w') at
  unfolding reading step at_place finished
  same_lacking w w' x m = Laws.same_lacking step finished l n (want w) (want w') a_word x refl (λ t p h. m t h)

  -- behind the whole text
  pub more_text : (s : Shape) {r : Refusal} → MoreAt text at r → reading l n text (whole s) at ≡ refused_as r
  unfolding reading step
  more_text s x = Laws.more_text step finished l n (whole s) x (λ t. refl)

-- ---- fixed words

pub only_shape : (o : Around) → Only (shape_word o) (word shape_bytes)
unfolding want_step want_named want_word where_some look_word shape_words bytes
only_shape o opening h = refl
only_shape o closing h = refl
only_shape o (quoted t) h = refl
only_shape o (word v) h = rw (fails (same v shape_bytes) (λ e. h (ap word (same_eq v shape_bytes e))), look_word)
only_shape o broken h = refl

pub shape_goes : (o : Around) → want_step (shape_word o) (word shape_bytes) ≡ go (want (kind_word no_parts o))
unfolding want_step want_named want_word where_some look_word shape_words bytes
shape_goes o = rw (same_refl shape_bytes, look_word)

pub only_member : (q : Parts) (o : Around) → Only (member_word q o) (word member_bytes)
unfolding want_step want_named want_word where_some look_word member_words bytes
only_member q o opening h = refl
only_member q o closing h = refl
only_member q o (quoted t) h = refl
only_member q o (word v) h = rw (fails (same v member_bytes) (λ e. h (ap word (same_eq v member_bytes e))), look_word)
only_member q o broken h = refl

pub member_goes : (q : Parts) (o : Around) → want_step (member_word q o) (word member_bytes) ≡ go (want (member_name q o))
unfolding want_step want_named want_word where_some look_word member_words bytes
member_goes q o = rw (same_refl member_bytes, look_word)
