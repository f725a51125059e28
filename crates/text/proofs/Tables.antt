-- The tables of definitions' Text, Utf8 and Plain by computed values: what a hexadecimal digit, an escape and a first byte are, and how a byte is
-- written. Assumes nothing.
use Prim.Native.Nat.{ℕ, ◌-◌, ◌≤◌, ◌<◌}
use mathlib.Core.Path.{◌≡◌, refl, sym, ap, ◌∙◌}
use mathlib.Core.Logic.{◌⊎◌, inl, inr}
use mathlib.Core.Bool.{Bool, true, false, not, ◌&&◌}
use mathlib.Core.List.{List, [], ◌∷◌, ◌++◌}
use mathlib.Core.Option.{Option, none, some}
use Rattle.std.specs.Prelude.{Some, None}
use lib.Dec.{eqb}
use lib.ListN.{length, take}
use lib.Seq.{take-append_seam}
use native.Mathlib.Omega.{arith}
use Rattle.definitions.specs.Bytes.{Bytes, bytes, Row, row, between, look}
use Rattle.definitions.specs.Text.{escape_table, hex_table}
use Rattle.definitions.specs.Plain.{short_escapes, escaped}
use Rattle.laws.specs.Rfc3629.{In}
use Rattle.laws.specs.Ranges.{Hits, hits_look, look_hit, out_between, in_between, between_in, eqb_ne, ne_eqb}
use Rattle.laws.specs.Rfc8259 as Rfc
use Rattle.laws.specs.Bools.{clash, and_left, and_right, not_true}
use Rattle.laws.proofs.StringRows.{Escapes, short_escape, hex_escape, hit_escapes, hit_hexdig}
use Rattle.laws.proofs.StringSound.{hexdig_under}
use Rattle.text.specs.TextParts.{plain_ascii, hex_value}

-- ---- look

-- no row has b
abbrev pub Misses : {A : Type 0} → List (Row A) → ℕ → Type 0
Misses [] b = Unit {0}
Misses (row lo hi a ∷ rows) b = (In lo hi b → ⊥) × Misses rows b

pub misses_look : {A : Type 0} (rows : List (Row A)) (b : ℕ) → Misses rows b → look rows b ≡ none
unfolding look
misses_look [] b h = refl
misses_look (row lo hi a ∷ rows) b h = rw (out_between h.0, look) (misses_look rows b h.1)

-- ---- hexadecimal digits

hex_hits : (b k : ℕ) → Hits hex_table b k → Some (b - k) ≡ hex_value b
unfolding hex_value
hex_hits b k h = rw (hits_look hex_table b k h, hex_value)

hex_misses : (b : ℕ) → Misses hex_table b → None ≡ hex_value b
unfolding hex_value
hex_misses b h = rw (misses_look hex_table b h, hex_value)

pub hex_0 : (b : ℕ) → 48 ≤ b → b ≤ 57 → Some (b - 48) ≡ hex_value b
unfolding hex_table
hex_0 b l h = hex_hits b 48 (inl (omega arith, refl))

pub hex_upper_a : (b : ℕ) → 65 ≤ b → b ≤ 70 → Some (b - 55) ≡ hex_value b
unfolding hex_table
hex_upper_a b l h = hex_hits b 55 (inr (omega arith, inl (omega arith, refl)))

pub hex_a : (b : ℕ) → 97 ≤ b → b ≤ 102 → Some (b - 87) ≡ hex_value b
unfolding hex_table
hex_a b l h = hex_hits b 87 (inr (omega arith, inr (omega arith, inl (omega arith, refl))))

pub hex_none : (b : ℕ) → (b < 48) ⊎ ((57 < b) × (b < 65)) ⊎ ((70 < b) × (b < 97)) ⊎ (102 < b) → None ≡ hex_value b
unfolding hex_table
hex_none b (inl h) = hex_misses b (omega arith, (omega arith, (omega arith, tt)))
hex_none b (inr (inl h)) = hex_misses b (omega arith, (omega arith, (omega arith, tt)))
hex_none b (inr (inr (inl h))) = hex_misses b (omega arith, (omega arith, (omega arith, tt)))
hex_none b (inr (inr (inr h))) = hex_misses b (omega arith, (omega arith, (omega arith, tt)))

-- what stands in the table for a byte by its value
pub data Hex (b : ℕ) : Type 0 where
  no_digit : look hex_table b ≡ none → hex_value b ≡ None → Hex b
  digit : (k : ℕ) → look hex_table b ≡ some k → hex_value b ≡ Some (b - k) → b - k < 16 → b < 256 → Hex b

hexdig_below : {b d : ℕ} → Rfc.HEXDIG b d → b < 256
hexdig_below (Rfc.hex_digit i) = omega arith
hexdig_below (Rfc.hex_upper i) = omega arith
hexdig_below (Rfc.hex_lower i) = omega arith

pub hex_of : (b : ℕ) → Hex b
unfolding hex_value
hex_of b = go (look hex_table b) refl
  where
    go : (o : Option ℕ) → look hex_table b ≡ o → Hex b
    go none e = no_digit e (rw (e, hex_value))
    go (some k) e =
        let h = hit_hexdig (look_hit hex_table b k e) in
        digit k e (rw (e, hex_value)) (hexdig_under h) (hexdig_below h)

-- ---- escapes

-- a function at a byte that is written out
pub value_at : {A : Type 0} (f : ℕ → A) (b k : ℕ) (v : A) → b ≡ k → v ≡ f k → v ≡ f b
value_at f b k v e h = h ∙ ap f (sym e)

-- a byte behind a backslash that means the byte c
pub record Letter (b c : ℕ) : Type 0 where
  pub byte : b < 256
  pub meant : c < 256
  pub short : length (escaped c) ≤ 2

letter : {b c : ℕ} → Rfc.escaped_char b c → Letter b c
unfolding escaped look short_escapes between bytes
letter Rfc.escaped_char.quotation_mark = record { byte = omega arith; meant = omega arith; short = omega arith }
letter Rfc.escaped_char.reverse_solidus = record { byte = omega arith; meant = omega arith; short = omega arith }
letter Rfc.escaped_char.solidus = record { byte = omega arith; meant = omega arith; short = omega arith }
letter Rfc.escaped_char.backspace = record { byte = omega arith; meant = omega arith; short = omega arith }
letter Rfc.escaped_char.form_feed = record { byte = omega arith; meant = omega arith; short = omega arith }
letter Rfc.escaped_char.line_feed = record { byte = omega arith; meant = omega arith; short = omega arith }
letter Rfc.escaped_char.carriage_return = record { byte = omega arith; meant = omega arith; short = omega arith }
letter Rfc.escaped_char.tab = record { byte = omega arith; meant = omega arith; short = omega arith }

short_hit : {b c : ℕ} → Escapes b (some c) → Letter b c
short_hit (short_escape x) = letter x

pub letter_of : (b c : ℕ) → look escape_table b ≡ some (some c) → Letter b c
letter_of b c e = short_hit (hit_escapes (look_hit escape_table b (some c) e))

-- the byte behind a backslash that digits follow
digits_hit : {b : ℕ} → Escapes b none → b ≡ 0x75
digits_hit hex_escape = refl

pub digits_of : (b : ℕ) → look escape_table b ≡ some none → b ≡ 0x75
digits_of b e = digits_hit (hit_escapes (look_hit escape_table b none e))

-- ---- bytes that stand for themselves

plain_ascii_out : (b : ℕ) → (In 0x20 0x7F b → ⊥) → false ≡ plain_ascii b
unfolding plain_ascii
plain_ascii_out b f = let o : between 0x20 0x7F b ≡ false = out_between f in rw (o, plain_ascii)

pub plain_ascii_low : (b : ℕ) → b < 0x20 → false ≡ plain_ascii b
plain_ascii_low b h = plain_ascii_out b (omega arith)

pub plain_ascii_high : (b : ℕ) → 0x7F < b → false ≡ plain_ascii b
plain_ascii_high b h = plain_ascii_out b (omega arith)

pub plain_ascii_in : (b : ℕ) → 0x20 ≤ b → b ≤ 0x7F → (b ≡ 0x22 → ⊥) → (b ≡ 0x5C → ⊥) → true ≡ plain_ascii b
unfolding plain_ascii
plain_ascii_in b l h q s =
    let i : between 0x20 0x7F b ≡ true = in_between (record { from = l; to = h }) in
    let e : eqb b 0x22 ≡ false = ne_eqb q in
    let f : eqb b 0x5C ≡ false = ne_eqb s in
    rw (i, e, f, plain_ascii)

pub plain_ascii_quote : (b : ℕ) → b ≡ 0x22 → false ≡ plain_ascii b
unfolding plain_ascii between
plain_ascii_quote b e = rw e

pub plain_ascii_backslash : (b : ℕ) → b ≡ 0x5C → false ≡ plain_ascii b
unfolding plain_ascii between
plain_ascii_backslash b e = rw e

-- what a byte that stands for itself is
pub record Itself (b : ℕ) : Type 0 where
  pub from : 0x20 ≤ b
  pub to : b ≤ 0x7F
  pub no_quote : b ≡ 0x22 → ⊥
  pub no_backslash : b ≡ 0x5C → ⊥

pub plain_ascii_itself : (b : ℕ) → plain_ascii b ≡ true → Itself b
unfolding plain_ascii
plain_ascii_itself b e =
    let r = between 0x20 0x7F b in
    let q = not (eqb b 0x22) in
    let s = not (eqb b 0x5C) in
    let i = between_in (and_left r q (and_left (r && q) s e)) in
    record {
      from = i.from;
      to = i.to;
      no_quote = eqb_ne (not_true (eqb b 0x22) (and_right r q (and_left (r && q) s e)));
      no_backslash = eqb_ne (not_true (eqb b 0x5C) (and_right (r && q) s e));
    }

-- neither that, nor a quote, nor a backslash: outside ASCII from the space on
pub plain_ascii_outside : (b : ℕ) → plain_ascii b ≡ false → (b ≡ 0x22 → ⊥) → (b ≡ 0x5C → ⊥) → between 0x20 0x7F b ≡ false
unfolding plain_ascii
plain_ascii_outside b e q n = go (between 0x20 0x7F b) refl
  where
    go : (t : Bool) → between 0x20 0x7F b ≡ t → between 0x20 0x7F b ≡ false
    go false f = f
    go true f =
        let x : eqb b 0x22 ≡ false = ne_eqb q in
        let y : eqb b 0x5C ≡ false = ne_eqb n in
        clash (let z : plain_ascii b ≡ true = rw (f, x, y, plain_ascii) in z) e

-- ---- lists

-- the front of a list that is known
pub take_front : (s u z : Bytes) → s ≡ u → take (length s) (u ++ z) ≡ s
take_front s u z e = ap (λ (t : Bytes). take (length t) (u ++ z)) e ∙ take-append_seam u z ∙ sym e
