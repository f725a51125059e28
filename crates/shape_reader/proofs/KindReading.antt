-- The kind words of a shape, read one after the other. Assumes nothing.
use Prim.Native.Nat.{ℕ, ◌+◌, ◌≤◌}
use mathlib.Core.Path.{◌≡◌, refl, sym, ap, ◌∙◌, subst}
use mathlib.Core.Bool.{Bool, true, false}
use mathlib.Core.List.{List, [], ◌∷◌}
use mathlib.Core.Option.{Option, none, some}
use native.Mathlib.Omega.{arith}
use lib.ListN.{length}
use Rattle.definitions.specs.declared.Limits.{Limits}
use Rattle.definitions.specs.Bytes.{Bytes}
use Rattle.definitions.specs.Outcome.{refused}
use Rattle.definitions.specs.Shape.{Kind, among, no_list, no_fields}
use Rattle.definitions.specs.Tokens.{Token, opening, closing, quoted, word, broken, misplaced, go, look_word, where_some, where_true, want_open}
use Rattle.definitions.specs.ShapeText.{Parts, Around, kind_word, want, no_parts, with_kind, depth, kind_words}
use Rattle.definitions.specs.ShapeText.{may_follow, want_step, kind_step, bracket_step, element_step, member_step}
use Rattle.laws.specs.Bools.{clash}
use Rattle.shapes.specs.Shapes.{kind_bit}
use Rattle.reading.specs.declared.Cause.TheVariants.{FormSyntax}
use Rattle.reading.specs.declared.Refusal.{Refusal}
use Rattle.std.specs.Prelude.{Err}
use Rattle.tokens.specs.ReadingLaws.{as_misplaced}
use Rattle.tokens.specs.Expecting.{a_word, sort, Lacks}
use Rattle.tokens.specs.TokenRead.{Found}
use Rattle.shape_reader.specs.ShapeParts.{reading, kind_code, KindsHeld, Follows, parts, behind, KindsRead, ReadsKinds}
use Rattle.shape_reader.proofs.Steps.{goes_on, misplaced_found, same_lacking}
use Rattle.shape_reader.proofs.KindSets.{none_held, held_more}

-- the kinds read up to a place, behind which one more may come
pub record KindsSoFar (text : Bytes) (at kinds i : ℕ) : Type 0 where
  pub listed : List Kind
  pub held : KindsHeld listed kinds
  pub run
      : (l : Limits) (n : ℕ) (o : Around)
      → reading l n text (want (kind_word no_parts o)) at ≡ reading l n text (want (kind_word (parts listed no_list no_fields) o)) i
  pub ahead : at ≤ i
  pub within : i ≤ length text

pub no_kinds : {text : Bytes} {at : ℕ} → at ≤ length text → KindsSoFar text at 0 at
unfolding no_parts
no_kinds h = record { listed = []; held = none_held; run = λ l n o. refl; ahead = omega arith; within = h }

-- ---- a word

module _ {text : Bytes} {at kinds i place end : ℕ} {w : Bytes} (s : KindsSoFar text at kinds i) (f : Found text i (word w) place end) where
  -- what the word does
  word_step
      : (o : Around) {x : Option Kind} → look_word kind_words w ≡ x
      → want_step (kind_word (parts s.listed no_list no_fields) o) (word w)
      ≡ where_some x (λ k. where_true (may_follow s.listed k) (go (want (kind_word (with_kind k (parts s.listed no_list no_fields)) o))))
  unfolding want_step kind_step
  word_step o e = rw e

  pub one_kind : {kind : ℕ} → kind ≡ kind_code (look_word kind_words w) → Follows kinds kind true → KindsSoFar text at (kinds + kind) end
  unfolding kind_code where_some where_true with_kind
  one_kind {kind} e h = pick (look_word kind_words w) refl
    where
      pick : (x : Option Kind) → look_word kind_words w ≡ x → KindsSoFar text at (kinds + kind) end
      pick none g = clash refl (h.no_kind (e ∙ ap kind_code g))
      pick (some k) g =
          let bit_is : kind ≡ kind_bit k = e ∙ ap kind_code g in
          let may : may_follow s.listed k ≡ true = sym (h.judged s.listed s.held k bit_is) in
          record {
            listed = k ∷ s.listed;
            held = subst (λ (x : ℕ). KindsHeld (k ∷ s.listed) (kinds + x)) (sym bit_is) (held_more s.held k may);
            run = λ l n o.
                s.run l n o ∙ goes_on l n (kind_word (parts s.listed no_list no_fields) o) f (word_step o g ∙ rw may);
            ahead = omega (arith, s.ahead, f.from, f.ahead);
            within = f.within;
          }

  pub no_kind_word
      : {kind : ℕ} {r : Refusal} → kind ≡ kind_code (look_word kind_words w) → Follows kinds kind false → r.place ≡ place → r.cause ≡ FormSyntax
      → ReadsKinds text at (Err r)
  unfolding kind_code where_some where_true
  no_kind_word {kind} e h p q =
      record { answer = (q, λ l n o. s.run l n o ∙ pick l n o (look_word kind_words w) refl ∙ as_misplaced p q) }
    where
      pick
          : (l : Limits) (n : ℕ) (o : Around) (x : Option Kind) → look_word kind_words w ≡ x
          → reading l n text (want (kind_word (parts s.listed no_list no_fields) o)) i ≡ refused 7 place
      pick l n o none g = misplaced_found l n (kind_word (parts s.listed no_list no_fields) o) f (word_step o g)
      pick l n o (some k) g =
          let bit_is : kind ≡ kind_bit k = e ∙ ap kind_code g in
          let may : may_follow s.listed k ≡ false = sym (h.judged s.listed s.held k bit_is) in
          misplaced_found l n (kind_word (parts s.listed no_list no_fields) o) f (word_step o g ∙ rw may)

-- ---- another token

-- it does what it does behind the kinds
kind_behind
    : (q : Parts) (o : Around) (t : Token) → (sort t ≡ a_word → ⊥)
    → want_step (kind_word q o) t ≡ want_step (behind (among Kind.list q.kinds) q o) t
unfolding sort want_step kind_step bracket_step element_step member_step want_open behind depth
kind_behind q o opening h = pick (among Kind.list q.kinds)
  where
    pick
        : (b : Bool)
        → elim b [ true ↦ element_step q o opening | false ↦ member_step q o opening ] ≡ want_step (behind b q o) opening
    pick true = refl
    pick false = refl
kind_behind q o closing h = pick (among Kind.list q.kinds)
  where
    pick
        : (b : Bool)
        → elim b [ true ↦ element_step q o closing | false ↦ member_step q o closing ] ≡ want_step (behind b q o) closing
    pick true = refl
    pick false = refl
kind_behind q o (quoted u) h = pick (among Kind.list q.kinds)
  where
    pick : (b : Bool) → misplaced ≡ want_step (behind b q o) (quoted u)
    pick true = refl
    pick false = refl
kind_behind q o (word w) h = absurd (h refl)
kind_behind q o broken h = pick (among Kind.list q.kinds)
  where
    pick : (b : Bool) → misplaced ≡ want_step (behind b q o) broken
    pick true = refl
    pick false = refl

pub kinds_end : {text : Bytes} {at kinds i place : ℕ} → KindsSoFar text at kinds i → Lacks a_word text i place → KindsRead text at kinds i
kinds_end s x =
    record {
      listed = s.listed;
      held = s.held;
      run = λ l n o.
          let q = parts s.listed no_list no_fields in
          s.run l n o ∙ same_lacking l n (kind_word q o) (behind (among Kind.list s.listed) q o) x (kind_behind q o);
      ahead = s.ahead;
      within = s.within;
    }
