-- White space and the byte behind it. Assumes nothing.
use Prim.Native.Nat.{ℕ, ◌+◌, ◌≤◌, ◌<◌}
use mathlib.Core.Path.{◌≡◌, refl, sym, ap, ◌∙◌}
use mathlib.Core.Bool.{true, false, true≢false}
use mathlib.Core.List.{List, ◌∷◌}
use native.Mathlib.Numerals.{add-one}
use native.Mathlib.Decide.{dec_lt}
use native.Mathlib.Omega.{arith}
use lib.ListN.{length, drop, get_or, get_or-eq_default}
use lib.Seq.{drop-cons}
use Rattle.definitions.specs.declared.Limits.{Limits}
use Rattle.definitions.specs.Bytes.{Bytes, white, white_table, look, found, between}
use Rattle.definitions.specs.Json.{Gap, gap, scan}
use Rattle.number.proofs.Rows.{looked, nowhere, past_one}
use Rattle.json_reader.specs.JsonParts.{Skips, Token}
use Rattle.json_reader.proofs.Scan.{byte_inside, byte_here, scan_white}

-- inside a list any default will do
pub get_d_any : (l : List ℕ) (i d e : ℕ) → i < length l → get_or l i d ≡ get_or l i e
get_d_any l i d e h = cc (drop-cons l i d h, drop-cons l i e h)

-- ---- which bytes are white

pub space_white : {b : ℕ} → b ≡ 0x20 → true ≡ white b
unfolding white white_table found look between
space_white e = rw e

pub tab_white : {b : ℕ} → b ≡ 0x09 → true ≡ white b
unfolding white white_table found look between
tab_white e = rw e

pub line_feed_white : {b : ℕ} → b ≡ 0x0A → true ≡ white b
unfolding white white_table found look between
line_feed_white e = rw e

pub return_white : {b : ℕ} → b ≡ 0x0D → true ≡ white b
unfolding white white_table found look between
return_white e = rw e

pub ruleset white_bytes = (space_white, tab_white, line_feed_white, return_white)

pub other_byte : {b : ℕ} → (b ≡ 0x20 → ⊥) → (b ≡ 0x09 → ⊥) → (b ≡ 0x0A → ⊥) → (b ≡ 0x0D → ⊥) → false ≡ white b
unfolding white white_table found
other_byte h i j k = ap found (looked (past_one h (past_one i (past_one j (past_one k nowhere)))))

-- ---- white space passed

pub record Skipping (doc : Bytes) (at i : ℕ) : Type 0 where
  pub run
      : (l : Limits) (n : ℕ) (kept : Bytes) (g : Gap)
      → scan l n kept (gap g) (drop at doc) ≡ scan l n kept (gap g) (drop i doc)
  pub from : at ≤ i
  pub within : i ≤ length doc

pub skipping : {doc : Bytes} {at : ℕ} → at ≤ length doc → Skipping doc at at
skipping h = record { run = λ l n kept g. refl; from = omega arith; within = h }

-- a white byte is no end
pub white_inside : (doc : Bytes) (i : ℕ) → white (get_or doc i 256) ≡ true → i < length doc
unfolding white white_table found look between
white_inside doc i w = go (dec_lt i (length doc))
  where
    go : Dec (i < length doc) → i < length doc
    go (yes l) = l
    go (no l) = absurd (true≢false (sym w ∙ ap white (get_or-eq_default doc 256 {n = i} (omega arith))))

pub skipped
    : {doc : Bytes} {at i : ℕ} → Skipping doc at i → white (get_or doc i 256) ≡ true → Skipping doc at (i + 1)
skipped {doc} {at} {i} s w =
    let h : i < length doc = white_inside doc i w in
    record {
      run = λ l n kept g.
          s.run l n kept g
          ∙ ap (λ (r : Bytes). scan l n kept (gap g) r)
          (drop-cons doc i 256 h ∙ ap (λ (k : ℕ). get_or doc i 256 ∷ drop k doc) (sym (add-one i)))
          ∙ scan_white l n kept g (get_or doc i 256) (drop (i + 1) doc) w;
      from = omega arith;
      within = omega arith;
    }

-- ---- the byte behind it

-- right there
pub token_here : {doc : Bytes} {at b : ℕ} → get_or doc at 256 ≡ b → b < 256 → Token doc at b (at + 1)
token_here {doc} {at} e h =
    let inside : at < length doc = byte_inside doc at e h in
    record {
      run = λ l n kept g. ap (λ (r : Bytes). scan l n kept (gap g) r) (byte_here doc at e h);
      ahead = omega arith;
      within = omega arith;
    }

pub token
    : {doc : Bytes} {at i b : ℕ} → Skips doc at i → get_or doc i 256 ≡ b → b < 256 → Token doc at b (i + 1)
token {doc} {at} {i} s e h =
    let t = token_here {doc = doc} {at = i} e h in
    record {
      run = λ l n kept g. s.run l n kept g ∙ t.run l n kept g;
      ahead = omega (arith, s.from, t.ahead);
      within = t.within;
    }
