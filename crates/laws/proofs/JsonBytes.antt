-- What a byte between the tokens of a document can be: tests on bytes taken apart, and the moves that they lead to.
-- Assumes nothing.
use Rattle.std.specs.Prelude.{ℕ, ◌≡◌, refl, Bool, true, false, List, [], ◌∷◌, eqb}
use Prim.Native.Char.{Char, code}
use Rattle.std.proofs.Common.{sym, ap, subst}
use Rattle.std.proofs.Math.Option.{Option, none, some, none-ne-some}
use Rattle.definitions.specs.Bytes.{bytes, Row, row, between, look, is, white, white_table, found}
use Rattle.definitions.specs.Text.{Inside}
use Rattle.definitions.specs.Number.{no_digits, Phase, begin, next, int_rows, extend}
use Rattle.definitions.specs.Value.{Value}
use Rattle.definitions.specs.Json.{Open, Gap, Role, State, Move, spell, value_rows, value_move, true_name, false_name, null_name}
use Rattle.laws.specs.Bools.{clash}
use Rattle.laws.specs.Ranges.{eqb_eq, between_in, in_one}
use Rattle.laws.specs.Rfc8259.{ws_char}

-- ---- choices

-- a choice by a test or a table that is known
pub pick_true : {A : Type 0} {z : Bool} (a b : A) → z ≡ true → (elim z as (λ y. A) [ true ↦ a | false ↦ b ]) ≡ a
pick_true {A} a b e = ap (λ (z : Bool). elim z as (λ y. A) [ true ↦ a | false ↦ b ]) e

pub pick_false : {A : Type 0} {z : Bool} (a b : A) → z ≡ false → (elim z as (λ y. A) [ true ↦ a | false ↦ b ]) ≡ b
pick_false {A} a b e = ap (λ (z : Bool). elim z as (λ y. A) [ true ↦ a | false ↦ b ]) e

pub pick_none
    : {A B : Type 0} {z : Option A} (n : B) (s : A → B) → z ≡ none → (elim z as (λ y. B) [ none ↦ n | some a ↦ s a ]) ≡ n
pick_none {A} {B} n s e = ap (λ (z : Option A). elim z as (λ y. B) [ none ↦ n | some a ↦ s a ]) e

pub pick_some
    : {A B : Type 0} {z : Option A} {a : A} (n : B) (s : A → B) → z ≡ some a
    → (elim z as (λ y. B) [ none ↦ n | some a ↦ s a ]) ≡ s a
pick_some {A} {B} n s e = ap (λ (z : Option A). elim z as (λ y. B) [ none ↦ n | some a ↦ s a ]) e

-- ---- tests on bytes

-- what is to be shown of each row of a table, and of a byte that none has
abbrev Rows : {A : Type 0} (P : Option A → Type 0) → ℕ → List (Row A) → Type 0
Rows P b [] = P none
Rows P b (row lo hi a ∷ rows) = (between lo hi b ≡ true → P (some a)) × Rows P b rows

look_cases : {A : Type 0} (P : Option A → Type 0) (b : ℕ) (rows : List (Row A)) → Rows P b rows → P (look rows b)
unfolding look
look_cases P b [] h = h
look_cases {A} P b (row lo hi a ∷ rows) h = at (look_cases P b rows h.1) (between lo hi b) refl
  where
    at : P (look rows b) → (t : Bool) → between lo hi b ≡ t → P (elim t [ true ↦ some a | false ↦ look rows b ])
    at other true e = h.0 e
    at other false e = other

-- a byte is this character, or the test fails
pub is_cases : (P : Bool → Type 0) (c : Char) (b : ℕ) → (b ≡ code c → P true) → P false → P (is c b)
unfolding is
is_cases P c b yes' other = at (eqb b (code c)) refl
  where
    at : (t : Bool) → eqb b (code c) ≡ t → P t
    at true e = yes' (eqb_eq e)
    at false e = other

-- white space or not
pub white_cases : (P : Bool → Type 0) (b : ℕ) → (ws_char b → P true) → P false → P (white b)
unfolding white white_table found
white_cases P b yes' other =
    look_cases (λ z. P (found z)) b white_table
    (at ws_char.space, (at ws_char.tab, (at ws_char.line_feed, (at ws_char.carriage_return, other))))
  where
    at : {c : ℕ} → ws_char c → between c c b ≡ true → P true
    at {c} w e = yes' (subst ws_char (sym (in_one (between_in e))) w)

pub space_white : {b : ℕ} → ws_char b → white b ≡ true
unfolding white white_table found look between
space_white ws_char.space = refl
space_white ws_char.tab = refl
space_white ws_char.line_feed = refl
space_white ws_char.carriage_return = refl

-- a byte that the test fails for, and one that begins a number, is no white space of the grammar's
pub not_space : {b : ℕ} → white b ≡ false → ws_char b → ⊥
not_space e w = clash (space_white w) e

pub space_no_digit : {b : ℕ} {p : Phase} → look (next begin) b ≡ some p → ws_char b → ⊥
unfolding look next int_rows between
space_no_digit {p} e ws_char.space = none-ne-some p e
space_no_digit {p} e ws_char.tab = none-ne-some p e
space_no_digit {p} e ws_char.line_feed = none-ne-some p e
space_no_digit {p} e ws_char.carriage_return = none-ne-some p e

-- ---- a byte where a value must begin

-- what a byte does there
pub data ValueByte (o : Open) : ℕ → Move → Type 0 where
  quote : ValueByte o 0x22 (Move.begin_value o (State.in_text (Role.as_value o) Inside.chars []))
  bracket : ValueByte o 0x5B (Move.begin_value o (State.gap (Gap.first_item o)))
  brace : ValueByte o 0x7B (Move.begin_value o (State.gap (Gap.first_name o)))
  letter_t : ValueByte o 0x74 (Move.begin_value o (State.in_literal 0x72 (0x75 ∷ 0x65 ∷ []) (Value.bool true) o))
  letter_f : ValueByte o 0x66 (Move.begin_value o (State.in_literal 0x61 (0x6C ∷ 0x73 ∷ 0x65 ∷ []) (Value.bool false) o))
  letter_n : ValueByte o 0x6E (Move.begin_value o (State.in_literal 0x75 (0x6C ∷ 0x6C ∷ []) Value.null o))
  digit
      : {b : ℕ} {p : Phase} → look (next begin) b ≡ some p
      → ValueByte o b (Move.begin_number (State.in_number p (extend p no_digits b) o))
  nothing : {b : ℕ} → look (next begin) b ≡ none → ValueByte o b Move.broken

pub value_byte : (o : Open) (b : ℕ) → ValueByte o b (value_move o b)
unfolding value_move value_rows spell bytes true_name false_name null_name
value_byte o b =
    look_cases P b (value_rows o)
    (at quote, (at bracket, (at brace, (at letter_t, (at letter_f, (at letter_n, number (look (next begin) b) refl))))))
  where
    number_or_none : Option Phase → Move
    number_or_none z = elim z [ some p ↦ Move.begin_number (State.in_number p (extend p no_digits b) o) | none ↦ Move.broken ]

    P : Option State → Type 0
    P z = ValueByte o b (elim z [ some q ↦ Move.begin_value o q | none ↦ number_or_none (look (next begin) b) ])

    number : (z : Option Phase) → look (next begin) b ≡ z → ValueByte o b (number_or_none z)
    number none e = nothing e
    number (some p) e = digit e

    at : {c : ℕ} {m : Move} → ValueByte o c m → between c c b ≡ true → ValueByte o b m
    at {c} {m} v e = subst (λ x. ValueByte o x m) (sym (in_one (between_in e))) v
