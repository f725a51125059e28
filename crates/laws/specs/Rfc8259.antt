-- RFC 8259's grammar of JSON texts, rule by rule with the RFC's names. `X s m r` says that s begins with an X that means m,
-- and that r is left; where a rule has no meaning of its own, `X s r`. The paper's extra rule stands in `char`: an escape
-- of a surrogate comes only as a high one and then a low one. (Its other one, no byte order mark, holds already: no rule
-- begins with EF.) Assumes nothing.
use Rattle.std.specs.Prelude.{ℕ, suc, ◌+◌, ◌-◌, ◌*◌, ◌<◌, ◌⊎◌, Bool, true, false, [], ◌∷◌, ◌++◌}
use Rattle.definitions.specs.Bytes.{Bytes}
use Rattle.definitions.specs.Number.{Numeral}
use Rattle.laws.specs.Rfc3629.{In, UTF82, UTF83, UTF84, Encodes}
use Rattle.laws.specs.Tree.{Tree, Trees, no_trees, tree, Named, no_named, named}

-- ---- section 2: JSON grammar

-- ws = *( %x20 / %x09 / %x0A / %x0D )
pub data ws_char : ℕ → Type 0 where
  space : ws_char 0x20
  tab : ws_char 0x09
  line_feed : ws_char 0x0A
  carriage_return : ws_char 0x0D

pub data ws : Bytes → Bytes → Type 0 where
  ws_none : {s : Bytes} → ws s s
  ws_more : {b : ℕ} {s r : Bytes} → ws_char b → ws s r → ws (b ∷ s) r

-- the six structural characters: ws %xNN ws
pub data structural (c : ℕ) (s r : Bytes) : Type 0 where
  char_of : {t : Bytes} → ws s (c ∷ t) → ws t r → structural c s r

abbrev pub begin_array : Bytes → Bytes → Type 0
begin_array = structural 0x5B

abbrev pub begin_object : Bytes → Bytes → Type 0
begin_object = structural 0x7B

abbrev pub end_array : Bytes → Bytes → Type 0
end_array = structural 0x5D

abbrev pub end_object : Bytes → Bytes → Type 0
end_object = structural 0x7D

abbrev pub name_separator : Bytes → Bytes → Type 0
name_separator = structural 0x3A

abbrev pub value_separator : Bytes → Bytes → Type 0
value_separator = structural 0x2C

-- ---- section 6: numbers

-- DIGIT = %x30-39
abbrev pub DIGIT : ℕ → Type 0
DIGIT b = In 0x30 0x39 b

-- digit1-9 = %x31-39
abbrev pub digit1_9 : ℕ → Type 0
digit1_9 b = In 0x31 0x39 b

-- *DIGIT: the coefficient c before, the coefficient behind, and how many digits there are
pub data digits : (c : ℕ) → Bytes → (behind count : ℕ) → Bytes → Type 0 where
  no_digits : {c : ℕ} {s : Bytes} → digits c s c 0 s
  digit : {b c d n : ℕ} {s r : Bytes} → DIGIT b → digits (c * 10 + (b - 0x30)) s d n r → digits c (b ∷ s) d (suc n) r

-- int = zero / ( digit1-9 *DIGIT )
pub data int : Bytes → ℕ → Bytes → Type 0 where
  int_zero : {r : Bytes} → int (0x30 ∷ r) 0 r
  int_digits : {b c n : ℕ} {s r : Bytes} → digit1_9 b → digits (b - 0x30) s c n r → int (b ∷ s) c r

-- [ frac ], frac = decimal-point 1*DIGIT: the coefficient before and behind, and the scale
pub data frac : (c : ℕ) → Bytes → (behind scale : ℕ) → Bytes → Type 0 where
  no_frac : {c : ℕ} {s : Bytes} → frac c s c 0 s
  point : {b c d n : ℕ} {s r : Bytes} → DIGIT b → digits c (b ∷ s) d (suc n) r → frac c (0x2E ∷ b ∷ s) d (suc n) r

-- e = %x65 / %x45
pub data e : ℕ → Type 0 where
  lower_e : e 0x65
  upper_e : e 0x45

-- [ minus / plus ]
pub data sign : Bytes → Bytes → Type 0 where
  no_sign : {s : Bytes} → sign s s
  minus : {s : Bytes} → sign (0x2D ∷ s) s
  plus : {s : Bytes} → sign (0x2B ∷ s) s

-- [ exp ], exp = e [ minus / plus ] 1*DIGIT; its value has no meaning here
pub data exp : Bytes → Bool → Bytes → Type 0 where
  no_exp : {s : Bytes} → exp s false s
  exponent : {x c d n : ℕ} {s t r : Bytes} → e x → sign s t → digits c t d (suc n) r → exp (x ∷ s) true r

-- [ minus ]
pub data minus_part : Bytes → Bool → Bytes → Type 0 where
  no_minus : {s : Bytes} → minus_part s false s
  has_minus : {s : Bytes} → minus_part (0x2D ∷ s) true s

-- number = [ minus ] int [ frac ] [ exp ]
pub data number : Bytes → Numeral → Bytes → Type 0 where
  numeral
      : {m x : Bool} {c d n : ℕ} {s t u w r : Bytes} → minus_part s m t → int t c u → frac c u d n w → exp w x r
      → number s (record { negative = m; coefficient = d; scale = n; exponent = x }) r

-- ---- section 7: strings

-- HEXDIG in either case, and its value
pub data HEXDIG : ℕ → ℕ → Type 0 where
  hex_digit : {b : ℕ} → In 0x30 0x39 b → HEXDIG b (b - 0x30)
  hex_upper : {b : ℕ} → In 0x41 0x46 b → HEXDIG b (b - 0x37)
  hex_lower : {b : ℕ} → In 0x61 0x66 b → HEXDIG b (b - 0x57)

-- %x5C %x75 4HEXDIG, and its value
pub data unicode : Bytes → ℕ → Bytes → Type 0 where
  hex_4
      : {a b c d i j k l : ℕ} {r : Bytes} → HEXDIG a i → HEXDIG b j → HEXDIG c k → HEXDIG d l
      → unicode (0x5C ∷ 0x75 ∷ a ∷ b ∷ c ∷ d ∷ r) (((i * 16 + j) * 16 + k) * 16 + l) r

-- the character behind a backslash, and the byte that it means
pub data escaped_char : ℕ → ℕ → Type 0 where
  quotation_mark : escaped_char 0x22 0x22
  reverse_solidus : escaped_char 0x5C 0x5C
  solidus : escaped_char 0x2F 0x2F
  backspace : escaped_char 0x62 0x08
  form_feed : escaped_char 0x66 0x0C
  line_feed : escaped_char 0x6E 0x0A
  carriage_return : escaped_char 0x72 0x0D
  tab : escaped_char 0x74 0x09

-- unescaped = %x20-21 / %x23-5B / %x5D-10FFFF, in UTF-8
pub data unescaped : Bytes → Bytes → Bytes → Type 0 where
  plain_1 : {b : ℕ} {r : Bytes} → In 0x20 0x21 b → unescaped (b ∷ r) (b ∷ []) r
  plain_2 : {b : ℕ} {r : Bytes} → In 0x23 0x5B b → unescaped (b ∷ r) (b ∷ []) r
  plain_3 : {b : ℕ} {r : Bytes} → In 0x5D 0x7F b → unescaped (b ∷ r) (b ∷ []) r
  wide_2 : {s t r : Bytes} → UTF82 s t r → unescaped s t r
  wide_3 : {s t r : Bytes} → UTF83 s t r → unescaped s t r
  wide_4 : {s t r : Bytes} → UTF84 s t r → unescaped s t r

-- char, and the bytes that it means
pub data char : Bytes → Bytes → Bytes → Type 0 where
  itself : {s t r : Bytes} → unescaped s t r → char s t r
  escape : {c b : ℕ} {r : Bytes} → escaped_char c b → char (0x5C ∷ c ∷ r) (b ∷ []) r
  -- an escape that is no surrogate
  one_unicode : {c : ℕ} {s t r : Bytes} → unicode s c r → (c < 0xD800) ⊎ (0xDFFF < c) → Encodes c t → char s t r
  -- a high surrogate's and a low one's
  two_unicode
      : {h l : ℕ} {s t u r : Bytes} → unicode s h u → In 0xD800 0xDBFF h → unicode u l r → In 0xDC00 0xDFFF l
      → Encodes (0x10000 + (h - 0xD800) * 0x400 + (l - 0xDC00)) t → char s t r

-- *char
pub data chars : Bytes → Bytes → Bytes → Type 0 where
  no_chars : {s : Bytes} → chars s [] s
  more_chars : {s t u w r : Bytes} → char s t u → chars u w r → chars s (t ++ w) r

-- string = quotation-mark *char quotation-mark
pub data string : Bytes → Bytes → Bytes → Type 0 where
  quoted : {s t r : Bytes} → chars s t (0x22 ∷ r) → string (0x22 ∷ s) t r

-- ---- sections 3 to 5: values, objects, arrays

mutual
  -- value = false / null / true / object / array / number / string
  pub data value : Bytes → Tree → Bytes → Type 0 where
    -- false = %x66.61.6c.73.65
    is_false : {r : Bytes} → value (0x66 ∷ 0x61 ∷ 0x6C ∷ 0x73 ∷ 0x65 ∷ r) (Tree.bool false) r
    -- null = %x6e.75.6c.6c
    is_null : {r : Bytes} → value (0x6E ∷ 0x75 ∷ 0x6C ∷ 0x6C ∷ r) Tree.null r
    -- true = %x74.72.75.65
    is_true : {r : Bytes} → value (0x74 ∷ 0x72 ∷ 0x75 ∷ 0x65 ∷ r) (Tree.bool true) r
    is_object : {ns : Named} {s r : Bytes} → object s ns r → value s (Tree.rec ns) r
    is_array : {ts : Trees} {s r : Bytes} → array s ts r → value s (Tree.list ts) r
    is_number : {d : Numeral} {s r : Bytes} → number s d r → value s (Tree.number d) r
    is_string : {t : Bytes} {s r : Bytes} → string s t r → value s (Tree.text t) r

  -- object = begin-object [ member *( value-separator member ) ] end-object
  pub data object : Bytes → Named → Bytes → Type 0 where
    empty_object : {s t r : Bytes} → begin_object s t → end_object t r → object s no_named r
    members
        : {n : Bytes} {x : Tree} {ns : Named} {s t u w r : Bytes} → begin_object s t → member t n x u → more_members u ns w
        → end_object w r → object s (named n x ns) r

  -- member = string name-separator value
  pub data member : Bytes → Bytes → Tree → Bytes → Type 0 where
    name_value
        : {n : Bytes} {x : Tree} {s t u r : Bytes} → string s n t → name_separator t u → value u x r → member s n x r

  -- *( value-separator member )
  pub data more_members : Bytes → Named → Bytes → Type 0 where
    no_member : {s : Bytes} → more_members s no_named s
    next_member
        : {n : Bytes} {x : Tree} {ns : Named} {s t u r : Bytes} → value_separator s t → member t n x u → more_members u ns r
        → more_members s (named n x ns) r

  -- array = begin-array [ value *( value-separator value ) ] end-array
  pub data array : Bytes → Trees → Bytes → Type 0 where
    empty_array : {s t r : Bytes} → begin_array s t → end_array t r → array s no_trees r
    values
        : {x : Tree} {ts : Trees} {s t u w r : Bytes} → begin_array s t → value t x u → more_values u ts w → end_array w r
        → array s (tree x ts) r

  -- *( value-separator value )
  pub data more_values : Bytes → Trees → Bytes → Type 0 where
    no_value : {s : Bytes} → more_values s no_trees s
    next_value
        : {x : Tree} {ts : Trees} {s t u r : Bytes} → value_separator s t → value t x u → more_values u ts r
        → more_values s (tree x ts) r

-- JSONText = ws value ws, to the end
pub data JSONText : Bytes → Tree → Type 0 where
  json_text : {x : Tree} {s t u : Bytes} → ws s t → value t x u → ws u [] → JSONText s x
