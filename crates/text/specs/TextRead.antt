-- What `read_text` answers: how `text_run` ends behind the opening quote, with the text in the pool. Assumes nothing.
use Rattle.std.specs.Prelude.{ℕ, ◌+◌, ◌-◌, ◌*◌, ◌≤◌, ◌<◌, ◌≡◌, List, [], ◌++◌, length, take, drop, replicate, Result, Ok, Err}
use Rattle.definitions.specs.Bytes.{Bytes}
use Rattle.definitions.specs.Text.{Inside}
use Rattle.definitions.specs.Plain.{plain_text}
use Rattle.pool.specs.Pool.{words, text_in}
use Rattle.text.specs.TextRun.{ended, broke, text_run}
use Rattle.text.specs.declared.Decoded.{Decoded}

-- zeros fill the last word of the text of n bytes at word w
unfoldable pub Padded : List ℕ → (w n : ℕ) → Type 0
Padded p w n = text_in p w (8 * words n) ≡ text_in p w n ++ replicate (8 * words n - n) 0

-- a text that ends before place end: n bytes in the pool from word w on, and m in plain JSON; neither is longer than it was
pub record TextClosed (doc : Bytes) (at : ℕ) (p : List ℕ) (w end n m : ℕ) : Type 0 where
  pub run : text_run Inside.chars [] (drop at doc) ≡ ended (text_in p w n) (drop end doc)
  pub size : length (text_in p w n) ≡ n
  pub written : m ≡ length (plain_text (text_in p w n))
  pub shorter : at + n < end
  pub bounded : at + m ≤ end + 1
  pub within : end ≤ length doc
  pub room : w + words n ≤ length p
  pub padded : Padded p w n

-- no text goes on so at place
pub record TextBroken (doc : Bytes) (at place : ℕ) : Type 0 where
  pub run : text_run Inside.chars [] (drop at doc) ≡ broke (drop place doc)
  pub from : at ≤ place
  pub within : place ≤ length doc

abbrev pub TextAnswer : Bytes → ℕ → List ℕ → ℕ → Result Decoded ℕ → Type 0
TextAnswer doc at p w (Ok d) = TextClosed doc at p w d.end d.length d.written
TextAnswer doc at p w (Err place) = TextBroken doc at place

-- the answer r for the text behind place at, and the pool p' that was p
pub record ReadsText (doc : Bytes) (at : ℕ) (p p' : List ℕ) (w : ℕ) (r : Result Decoded ℕ) : Type 0 where
  pub answer : TextAnswer doc at p' w r
  pub kept : length p' ≡ length p
  pub front : take w p' ≡ take w p
