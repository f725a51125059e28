-- The tables of definitions' Utf8 and Text by their rows: first bytes of UTF-8 characters, escapes, hexadecimal digits.
-- Assumes nothing.
use Rattle.std.specs.Prelude.{ℕ, ◌-◌, ◌≤◌, ◌≡◌, refl}
use Rattle.std.proofs.Common.{inl, inr, arith}
use Rattle.std.proofs.Math.Option.{Option, none, some}
use Rattle.definitions.specs.Bytes.{look, between}
use Rattle.definitions.specs.Utf8.{tails, head_table}
use Rattle.definitions.specs.Text.{escape_table, hex_table}
use Rattle.laws.specs.Ranges.{Hit, here, there, Hits, hits_look, at_one}
use Rattle.laws.specs.Rfc3629.{In}
use Rattle.laws.specs.Rfc8259 as Rfc

-- a byte that begins a character of several bytes, the range of the second, and how many follow that
pub data Heads : ℕ → ℕ → ℕ → ℕ → Type 0 where
  head_c2 : {b : ℕ} → In 0xC2 0xDF b → Heads b 0x80 0xBF 0
  head_e0 : {b : ℕ} → In 0xE0 0xE0 b → Heads b 0xA0 0xBF 1
  head_e1 : {b : ℕ} → In 0xE1 0xEC b → Heads b 0x80 0xBF 1
  head_ed : {b : ℕ} → In 0xED 0xED b → Heads b 0x80 0x9F 1
  head_ee : {b : ℕ} → In 0xEE 0xEF b → Heads b 0x80 0xBF 1
  head_f0 : {b : ℕ} → In 0xF0 0xF0 b → Heads b 0x90 0xBF 2
  head_f1 : {b : ℕ} → In 0xF1 0xF3 b → Heads b 0x80 0xBF 2
  head_f4 : {b : ℕ} → In 0xF4 0xF4 b → Heads b 0x80 0x8F 2

pub hit_heads : {b lo hi n : ℕ} → Hit head_table b (tails lo hi n) → Heads b lo hi n
unfolding head_table
hit_heads (here i) = head_c2 i
hit_heads (there _ (here i)) = head_e0 i
hit_heads (there _ (there _ (here i))) = head_e1 i
hit_heads (there _ (there _ (there _ (here i)))) = head_ed i
hit_heads (there _ (there _ (there _ (there _ (here i))))) = head_ee i
hit_heads (there _ (there _ (there _ (there _ (there _ (here i)))))) = head_f0 i
hit_heads (there _ (there _ (there _ (there _ (there _ (there _ (here i))))))) = head_f1 i
hit_heads (there _ (there _ (there _ (there _ (there _ (there _ (there _ (here i)))))))) = head_f4 i
hit_heads (there _ (there _ (there _ (there _ (there _ (there _ (there _ (there _ x)))))))) = elim x [ ]

heads_hits : {b lo hi n : ℕ} → Heads b lo hi n → Hits head_table b (tails lo hi n)
unfolding head_table
heads_hits (head_c2 i) = inl (i, refl)
heads_hits (head_e0 i) = inr (omega arith, inl (i, refl))
heads_hits (head_e1 i) = inr (omega arith, inr (omega arith, inl (i, refl)))
heads_hits (head_ed i) = inr (omega arith, inr (omega arith, inr (omega arith, inl (i, refl))))
heads_hits (head_ee i) = inr (omega arith, inr (omega arith, inr (omega arith, inr (omega arith, inl (i, refl)))))
heads_hits (head_f0 i) = inr (omega arith, inr (omega arith, inr (omega arith, inr (omega arith, inr (omega arith, inl (i, refl))))))
heads_hits (head_f1 i) = inr (omega arith, inr (omega arith, inr (omega arith, inr (omega arith, inr (omega arith, inr (omega arith, inl (i, refl)))))))
heads_hits (head_f4 i) =
    inr (omega arith, inr (omega arith, inr (omega arith, inr (omega arith, inr (omega arith, inr (omega arith, inr (omega arith, inl (i, refl))))))))

pub heads_look : {b lo hi n : ℕ} → Heads b lo hi n → look head_table b ≡ some (tails lo hi n)
heads_look {b} {lo} {hi} {n} h = hits_look head_table b (tails lo hi n) (heads_hits h)

-- what the byte behind a backslash means: RFC 8259's two-character escapes, and `none` for a `u`
pub data Escapes : ℕ → Option ℕ → Type 0 where
  short_escape : {b c : ℕ} → Rfc.escaped_char b c → Escapes b (some c)
  hex_escape : Escapes 0x75 none

pub hit_escapes : {b : ℕ} {e : Option ℕ} → Hit escape_table b e → Escapes b e
unfolding escape_table
hit_escapes (here i) = short_escape (at_one (λ x. Rfc.escaped_char x 0x22) i Rfc.escaped_char.quotation_mark)
hit_escapes (there _ (here i)) = short_escape (at_one (λ x. Rfc.escaped_char x 0x5C) i Rfc.escaped_char.reverse_solidus)
hit_escapes (there _ (there _ (here i))) = short_escape (at_one (λ x. Rfc.escaped_char x 0x2F) i Rfc.escaped_char.solidus)
hit_escapes (there _ (there _ (there _ (here i)))) = short_escape (at_one (λ x. Rfc.escaped_char x 0x08) i Rfc.escaped_char.backspace)
hit_escapes (there _ (there _ (there _ (there _ (here i))))) = short_escape (at_one (λ x. Rfc.escaped_char x 0x0C) i Rfc.escaped_char.form_feed)
hit_escapes (there _ (there _ (there _ (there _ (there _ (here i)))))) = short_escape (at_one (λ x. Rfc.escaped_char x 0x0A) i Rfc.escaped_char.line_feed)
hit_escapes (there _ (there _ (there _ (there _ (there _ (there _ (here i))))))) =
    short_escape (at_one (λ x. Rfc.escaped_char x 0x0D) i Rfc.escaped_char.carriage_return)
hit_escapes (there _ (there _ (there _ (there _ (there _ (there _ (there _ (here i)))))))) =
    short_escape (at_one (λ x. Rfc.escaped_char x 0x09) i Rfc.escaped_char.tab)
hit_escapes (there _ (there _ (there _ (there _ (there _ (there _ (there _ (there _ (here i))))))))) = at_one (λ x. Escapes x none) i hex_escape
hit_escapes (there _ (there _ (there _ (there _ (there _ (there _ (there _ (there _ (there _ x))))))))) = elim x [ ]

pub escapes_look : {b : ℕ} {e : Option ℕ} → Escapes b e → look escape_table b ≡ some e
unfolding look between escape_table
escapes_look (short_escape Rfc.escaped_char.quotation_mark) = refl
escapes_look (short_escape Rfc.escaped_char.reverse_solidus) = refl
escapes_look (short_escape Rfc.escaped_char.solidus) = refl
escapes_look (short_escape Rfc.escaped_char.backspace) = refl
escapes_look (short_escape Rfc.escaped_char.form_feed) = refl
escapes_look (short_escape Rfc.escaped_char.line_feed) = refl
escapes_look (short_escape Rfc.escaped_char.carriage_return) = refl
escapes_look (short_escape Rfc.escaped_char.tab) = refl
escapes_look hex_escape = refl

-- what is subtracted for a hexadecimal digit's value
pub hit_hexdig : {b k : ℕ} → Hit hex_table b k → Rfc.HEXDIG b (b - k)
unfolding hex_table
hit_hexdig (here i) = Rfc.hex_digit i
hit_hexdig (there _ (here i)) = Rfc.hex_upper i
hit_hexdig (there _ (there _ (here i))) = Rfc.hex_lower i
hit_hexdig (there _ (there _ (there _ x))) = elim x [ ]

pub hexdig_hits : {b d : ℕ} → Rfc.HEXDIG b d → (k : ℕ) × Hits hex_table b k × (b - k ≡ d)
unfolding hex_table
hexdig_hits (Rfc.hex_digit i) = (48, inl (i, refl), refl)
hexdig_hits (Rfc.hex_upper i) = (55, inr (omega arith, inl (i, refl)), refl)
hexdig_hits (Rfc.hex_lower i) = (87, inr (omega arith, inr (omega arith, inl (i, refl))), refl)

pub heads_above : {b lo hi n : ℕ} → Heads b lo hi n → 0xC2 ≤ b
heads_above (head_c2 i) = omega arith
heads_above (head_e0 i) = omega arith
heads_above (head_e1 i) = omega arith
heads_above (head_ed i) = omega arith
heads_above (head_ee i) = omega arith
heads_above (head_f0 i) = omega arith
heads_above (head_f1 i) = omega arith
heads_above (head_f4 i) = omega arith
