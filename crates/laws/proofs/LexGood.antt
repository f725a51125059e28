-- Every JSON text among the tokens of a text is UTF-8. Assumes nothing.
use Rattle.std.specs.Prelude.{ℕ, suc, ◌≡◌, refl, List, [], ◌∷◌, reverse}
use Rattle.std.proofs.Common.{subst}
use Rattle.std.proofs.Math.Option.{Option, none, some}
use Rattle.definitions.specs.Bytes.{Bytes, look}
use Rattle.definitions.specs.Text.{Inside, TextMove, wrong, more, closed, text_step}
use Rattle.definitions.specs.Tokens.{Token, opening, closing, quoted, word, broken, Placed, at_place, Border, space, bracket_open, bracket_close}
use Rattle.definitions.specs.Tokens.{quote, border_table, Partial, no_word, word_from, Lexing, outside, inside, ended, longer, lex, tokens}
use Rattle.laws.specs.Rfc3629.{UTF8Octets}
use Rattle.laws.specs.Steps.{TextSteps, text_stay, text_then, text_steps_append}
use Rattle.laws.proofs.StringSteps.{step_closed}
use Rattle.laws.proofs.StringTokens.{text_utf8}

-- ---- good tokens

pub data GoodToken : Token → Type 0 where
  good_opening : GoodToken opening
  good_closing : GoodToken closing
  good_quoted : {t : Bytes} → UTF8Octets t → GoodToken (quoted t)
  good_word : {w : Bytes} → GoodToken (word w)
  good_broken : GoodToken broken

pub data GoodTokens : List Placed → Type 0 where
  good_no_tokens : GoodTokens []
  good_then : {t : Placed} {ts : List Placed} → GoodToken t.token → GoodTokens ts → GoodTokens (t ∷ ts)

-- ---- the tokens of a text

-- inside a JSON text, its bytes so far led there
pub data Led : Lexing → Type 0 where
  led_outside : {w : Partial} → Led (outside w)
  led_inside : {at : ℕ} {i : Inside} {xs acc : Bytes} → TextSteps Inside.chars [] xs i acc → Led (inside at i acc)

ended_good : (w : Partial) {ts : List Placed} → GoodTokens ts → GoodTokens (ended w ts)
unfolding ended at_place
ended_good no_word g = g
ended_good (word_from at acc) g = good_then good_word g

pub lex_good : (s : Bytes) (p : ℕ) (x : Lexing) → Led x → GoodTokens (lex p x s)
unfolding lex at_place
lex_good [] p (outside w) led_outside = ended_good w good_no_tokens
lex_good [] p (inside at i acc) (led_inside g) = good_then good_broken good_no_tokens
lex_good (b ∷ r) p (outside w) led_outside = told (look border_table b) (λ x h. lex_good r (suc p) x h)
  where
    told
        : (o : Option Border) → ((x : Lexing) → Led x → GoodTokens (lex (suc p) x r))
        → GoodTokens
        (elim o as (λ z. List Placed) [
          | none ↦ lex (suc p) (outside (longer w p b)) r
          | some c ↦
              ended
              w
              (elim c as (λ z. List Placed) [
                | space ↦ lex (suc p) (outside no_word) r
                | bracket_open ↦ at_place p opening ∷ lex (suc p) (outside no_word) r
                | bracket_close ↦ at_place p closing ∷ lex (suc p) (outside no_word) r
                | quote ↦ lex (suc p) (inside p Inside.chars []) r
              ])
        ])
    told none f = f (outside (longer w p b)) led_outside
    told (some space) f = ended_good w (f (outside no_word) led_outside)
    told (some bracket_open) f = ended_good w (good_then good_opening (f (outside no_word) led_outside))
    told (some bracket_close) f = ended_good w (good_then good_closing (f (outside no_word) led_outside))
    told (some quote) f = ended_good w (f (inside p Inside.chars []) (led_inside text_stay))
lex_good (b ∷ r) p (inside at i acc) (led_inside {xs} g) = told (text_step i acc b) refl (λ x h. lex_good r (suc p) x h)
  where
    told
        : (m : TextMove) → text_step i acc b ≡ m → ((x : Lexing) → Led x → GoodTokens (lex (suc p) x r))
        → GoodTokens
        (elim m as (λ z. List Placed) [
          | wrong ↦ at_place at broken ∷ []
          | more i' acc' ↦ lex (suc p) (inside at i' acc') r
          | closed ↦ at_place at (quoted (reverse acc)) ∷ lex (suc p) (outside no_word) r
        ])
    told wrong e f = good_then good_broken good_no_tokens
    told (more i' acc') e f = f (inside at i' acc') (led_inside (text_steps_append g (text_then e text_stay)))
    told closed e f =
        good_then
        (good_quoted (text_utf8 (subst (λ j. TextSteps Inside.chars [] xs j acc) (step_closed acc i b e).0 g)))
        (f (outside no_word) led_outside)

pub tokens_good : (s : Bytes) → GoodTokens (tokens s)
unfolding tokens
tokens_good s = lex_good s 0 (outside no_word) led_outside
