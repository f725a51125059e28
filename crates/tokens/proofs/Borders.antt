-- White space and the bytes that end a word, a byte at a time. Assumes nothing.
use Prim.Native.Nat.{ℕ, suc, ◌+◌, ◌-◌, ◌≤◌, ◌<◌}
use mathlib.Core.Path.{◌≡◌, sym, ap, ◌∙◌, subst}
use mathlib.Core.List.{[], ◌∷◌, ◌++◌}
use native.Mathlib.Numerals.{add-one}
use native.Mathlib.Nat.{sub_self}
use native.Mathlib.Omega.{arith}
use lib.ListN.{length, take, drop, get_or, length-drop}
use lib.Seq.{drop-cons, take-suc, get_or-drop}
use Rattle.definitions.specs.Bytes.{Bytes}
use Rattle.definitions.specs.Tokens.{no_word, outside, lex}
use Rattle.laws.specs.Rfc8259.{ws_char}
use Rattle.laws.specs.TokenGrammar.{WordByte, WordBytes, no_bytes}
use Rattle.laws.proofs.TokenLexing.{lex_white}
use Rattle.laws.proofs.TokenLaws.{word_bytes_more}
use Rattle.tokens.specs.TokenRead.{tokens_from, Runs}

-- ---- one byte

-- the byte at a place
pub byte_here : (text : Bytes) (i : ℕ) → i < length text → drop i text ≡ get_or text i 0 ∷ drop (i + 1) text
byte_here text i h = drop-cons text i 0 h ∙ ap (λ (k : ℕ). get_or text i 0 ∷ drop k text) (sym (add-one i))

-- the bytes of white space
pub space_byte : {b : ℕ} → b ≡ 0x20 → ws_char b
space_byte e = subst ws_char (sym e) ws_char.space

pub tab_byte : {b : ℕ} → b ≡ 0x09 → ws_char b
tab_byte e = subst ws_char (sym e) ws_char.tab

pub line_feed_byte : {b : ℕ} → b ≡ 0x0A → ws_char b
line_feed_byte e = subst ws_char (sym e) ws_char.line_feed

pub return_byte : {b : ℕ} → b ≡ 0x0D → ws_char b
return_byte e = subst ws_char (sym e) ws_char.carriage_return

pub ruleset white_space = (space_byte, tab_byte, line_feed_byte, return_byte)

-- ---- white space passed

pub record Skipping (text : Bytes) (at i : ℕ) : Type 0 where
  pub run : tokens_from text at ≡ tokens_from text i
  pub from : at ≤ i
  pub within : i ≤ length text

pub skipped_on : {text : Bytes} {at i : ℕ} → Skipping text at i → i < length text → ws_char (get_or text i 0) → Skipping text at (i + 1)
unfolding tokens_from
skipped_on {text} {at} {i} s h w =
    record {
      run =
          s.run
          ∙ ap (λ (r : Bytes). lex i (outside no_word) r) (byte_here text i h)
          ∙ lex_white w i (drop (i + 1) text)
          ∙ ap (λ (k : ℕ). lex k (outside no_word) (drop (i + 1) text)) (sym (add-one i));
      from = omega (arith, s.from);
      within = omega arith;
    }

-- ---- a word passed

pub record Running (text : Bytes) (at i : ℕ) : Type 0 where
  pub bytes : WordBytes (take (i - at) (drop at text))
  pub from : at ≤ i
  pub within : i ≤ length text

pub running : {text : Bytes} {at : ℕ} → at ≤ length text → Running text at at
running {text} {at} h =
    record {
      bytes = subst (λ (n : ℕ). WordBytes (take n (drop at text))) (sym (sub_self at)) no_bytes;
      from = omega arith;
      within = h;
    }

pub ran_on : {text : Bytes} {at i : ℕ} → Running text at i → i < length text → WordByte (get_or text i 0) → Running text at (i + 1)
ran_on {text} {at} {i} s h w =
    record {
      bytes = subst WordBytes (sym more) (word_bytes_more s.bytes w);
      from = omega (arith, s.from);
      within = omega arith;
    }
  where
    more : take (i + 1 - at) (drop at text) ≡ take (i - at) (drop at text) ++ get_or text i 0 ∷ []
    more =
        ap (λ (n : ℕ). take n (drop at text)) (let e : i + 1 - at ≡ suc (i - at) = omega (arith, s.from) in e)
        ∙ take-suc (drop at text) (i - at) 0 (omega (arith, s.from, length-drop at text))
        ∙ ap (λ (b : ℕ). take (i - at) (drop at text) ++ b ∷ [])
        (get_or-drop at text (i - at) 0 ∙ ap (λ (n : ℕ). get_or text n 0) (let e : at + (i - at) ≡ i = omega (arith, s.from) in e))

pub runs : {text : Bytes} {at i : ℕ} → Running text at i → (i < length text → WordByte (get_or text i 0) → ⊥) → Runs text at i
runs s h = record { bytes = s.bytes; from = s.from; within = s.within; stops = h }
