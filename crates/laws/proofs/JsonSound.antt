-- Soundness of reading: each move from a state that is what it says leads to one that is, so that what a scan reads is what
-- the grammar has. Assumes nothing.
use Rattle.std.specs.Prelude.{ℕ, suc, ◌+◌, ◌<◌, ◌≡◌, refl, Bool, true, false, eqb, length}
use Rattle.std.proofs.Common.{arith, sym, ◌∙◌, ap, ap₂, subst, length-append}
use mathlib.Core.List.{[], ◌∷◌, ◌++◌, append_assoc, reverse, nil≢cons, head-eq_of_cons-eq}
use Rattle.std.proofs.Math.Option.{Option, none, some}
use Rattle.definitions.specs.Bytes.{Bytes, look}
use Rattle.definitions.specs.Text.{Inside, TextMove, wrong, more, closed, text_step}
use Rattle.definitions.specs.Number.{Numeral, no_digits, number_of, Phase, begin, next, complete, extend}
use Rattle.definitions.specs.Value.{Value, size}
use Rattle.definitions.specs.Json.{Gap, Role, State, put, Move, spell, token_move, gap_move, close_move, text_move, number_end, move, gap_end, end_move}
use Rattle.laws.specs.Tree.{Tree, Named, meaning, meaning_named}
use Rattle.laws.specs.Rfc8259 as Rfc
use Rattle.laws.specs.Rfc8259.{ws_none}
use Rattle.laws.specs.Steps.{TextSteps, text_stay, text_then, text_steps_append, NumberSteps, number_stay, number_then, number_steps_append}
use Rattle.laws.specs.Causes.{Context, Before, BeforeName, begun}
use Rattle.laws.proofs.StringTokens.{chars_sound}
use Rattle.laws.proofs.NumberTokens.{number_sound}
use Rattle.laws.specs.Ranges.{eqb_eq}
use Rattle.laws.proofs.JsonContext.{opened, begun_named, count_scalar, ws_next, before_next, before_name_next}
use Rattle.laws.proofs.JsonReached.{Reached, at_value, at_item, at_name, at_next, at_colon, at_behind, in_string, in_name}
use Rattle.laws.proofs.JsonReached.{in_digits, in_word, Starts, Sound, broken_so, broken_number_so, goes, ends_name, ends_number}
use Rattle.laws.proofs.JsonGaps.{starts_number, gap_sound, value_sound, name_sound, item_sound}
use Rattle.laws.proofs.JsonGaps.{first_name_sound, colon_sound, gap_behind_sound, end_behind_sound}

-- ---- moves inside tokens

-- one byte more of a run
longer : {t : Bytes} {c : ℕ} (b : ℕ) (xs r : Bytes) → t ≡ c ∷ (xs ++ b ∷ r) → t ≡ c ∷ ((xs ++ b ∷ []) ++ r)
longer {c} b xs r e = e ∙ ap (λ (z : Bytes). c ∷ z) (sym (append_assoc xs (b ∷ []) r))

-- a closing quote: the bytes from the opening one are a string
string_closed
    : {t acc : Bytes} {i : Inside} (b : ℕ) (xs r : Bytes) → t ≡ 0x22 ∷ (xs ++ b ∷ r) → TextSteps Inside.chars [] xs i acc
    → text_step i acc b ≡ closed
    → Rfc.string t (reverse acc) r
string_closed {t} {acc} {i} b xs r h g q =
    let (e, c) = chars_sound xs r acc i b g q in
    subst (λ (z : Bytes). Rfc.string z (reverse acc) r) (sym (h ∙ ap (λ (z : ℕ). 0x22 ∷ (xs ++ z ∷ r)) e)) (Rfc.quoted c)

string_sound
    : {s kept t r acc : Bytes} {n b : ℕ} {i : Inside} {k : Context} (xs : Bytes) → Before s k t → t ≡ 0x22 ∷ (xs ++ b ∷ r)
    → TextSteps Inside.chars [] xs i acc → n ≡ suc (begun k)
    → Sound s n kept (b ∷ r) r (text_move (Role.as_value (opened k)) acc (text_step i acc b))
unfolding text_move close_move meaning size
string_sound {s} {kept} {t} {r} {acc} {n} {b} {i} {k} xs f h g e = at (text_step i acc b) refl
  where
    at : (z : TextMove) → text_step i acc b ≡ z → Sound s n kept (b ∷ r) r (text_move (Role.as_value (opened k)) acc z)
    at wrong q = broken_so
    at (more j c) q = goes (in_string f (longer b xs r h) (text_steps_append g (text_then q text_stay)) e)
    at closed q =
        goes (at_behind {x = Tree.text (reverse acc)} f (Rfc.is_string (string_closed b xs r h g q)) ws_none
        (count_scalar k (Tree.text (reverse acc)) refl e))

name_text_sound
    : {s kept r acc : Bytes} {n b : ℕ} {i : Inside} {ns : Named} {k : Context} (xs : Bytes) → BeforeName s ns k kept
    → kept ≡ 0x22 ∷ (xs ++ b ∷ r)
    → TextSteps Inside.chars [] xs i acc → n ≡ begun_named ns k
    → Sound s n kept (b ∷ r) r (text_move (Role.as_name (meaning_named ns) (opened k)) acc (text_step i acc b))
unfolding text_move close_move
name_text_sound {s} {kept} {r} {acc} {n} {b} {i} {ns} {k} xs f h g e = at (text_step i acc b) refl
  where
    at
        : (z : TextMove) → text_step i acc b ≡ z
        → Sound s n kept (b ∷ r) r (text_move (Role.as_name (meaning_named ns) (opened k)) acc z)
    at wrong q = broken_so
    at (more j c) q = goes (in_name f (longer b xs r h) (text_steps_append g (text_then q text_stay)) e)
    at closed q = ends_name f (string_closed b xs r h g q) (at_colon f (string_closed b xs r h g q) ws_none e)

-- behind the longest run that begins a number
number_end_sound
    : {s kept here r xs : Bytes} {n c : ℕ} {p : Phase} {d : Numeral} {k : Context} (behind : Gap → Move) → Before s k kept
    → kept ≡ c ∷ (xs ++ here)
    → NumberSteps begin no_digits (c ∷ xs) p d → n ≡ suc (begun k)
    → ((b : ℕ) (w : Bytes) → here ≡ b ∷ w → look (next p) b ≡ none)
    → (Rfc.value kept (Tree.number d) here → n ≡ begun k + size (meaning (Tree.number d))
    → Sound s n kept here r (behind (put (meaning (Tree.number d)) (opened k))))
    → Sound s n kept here r (number_end p d (opened k) behind)
unfolding number_end meaning size
number_end_sound {s} {kept} {here} {r} {xs} {n} {c} {p} {d} {k} behind f h g e none_next m = at (complete p) refl
  where
    starts : Starts kept
    starts = subst Starts (sym h) (starts_number (xs ++ here) g)

    later : length here < length kept
    later =
        let l : length kept ≡ suc (length xs + length here) = ap length h ∙ ap suc (length-append xs here) in
        omega arith

    at
        : (z : Bool) → complete p ≡ z
        → Sound s n kept here r
        (elim z [
          | true ↦ Move.end_number d (opened k) (behind (put (Value.number (number_of d)) (opened k)))
          | false ↦ Move.broken_number (opened k)
        ])
    at true q =
        ends_number f e starts later (c ∷ xs) h g q none_next
        (m (Rfc.is_number (subst (λ (z : Bytes). Rfc.number z d here) (sym h) (number_sound g q here)))
        (count_scalar k (Tree.number d) refl e))
    at false q = broken_number_so f e starts later

digits_sound
    : {s kept r xs : Bytes} {n b c : ℕ} {p : Phase} {d : Numeral} {k : Context} → Before s k kept → kept ≡ c ∷ (xs ++ b ∷ r)
    → NumberSteps begin no_digits (c ∷ xs) p d → n ≡ suc (begun k)
    → Sound s n kept (b ∷ r) r (move (State.in_number p d (opened k)) b)
unfolding move
digits_sound {s} {kept} {r} {xs} {n} {b} {c} {p} {d} {k} f h g e = at (look (next p) b) refl
  where
    at
        : (z : Option Phase) → look (next p) b ≡ z
        → Sound s n kept (b ∷ r) r
        (elim z [
          | some q ↦ Move.go (State.in_number q (extend q d b) (opened k))
          | none ↦ number_end p d (opened k) (λ g. gap_move g b)
        ])
    at none q =
        number_end_sound (λ g. gap_move g b) f h g e
        (λ b' w y. subst (λ (z : ℕ). look (next p) z ≡ none) (head-eq_of_cons-eq y) q)
        (λ v y. gap_behind_sound f v ws_none y)
    at (some q) y = goes (in_digits f (longer b xs r h) (number_steps_append g (number_then y number_stay)) e)

word_sound
    : {s kept t r : Bytes} {n b c : ℕ} {x : Tree} {k : Context} (cs : Bytes) → Before s k t
    → ((w : Bytes) → b ∷ r ≡ c ∷ (cs ++ w) → Rfc.value t x w)
    → n ≡ suc (begun k) → size (meaning x) ≡ 1
    → Sound s n kept (b ∷ r) r (move (State.in_literal c cs (meaning x) (opened k)) b)
unfolding move spell
word_sound {s} {kept} {t} {r} {n} {b} {c} {x} {k} cs f h e one = at (eqb b c) refl
  where
    spelled
        : (cs : Bytes) → ((w : Bytes) → b ∷ r ≡ c ∷ (cs ++ w) → Rfc.value t x w) → b ≡ c
        → Reached s n kept (spell cs (meaning x) (opened k)) r
    spelled [] h q = at_behind f (h r (ap (λ (z : ℕ). z ∷ r) q)) ws_none (count_scalar k x one e)
    spelled (c' ∷ cs) h q = in_word f (λ w y. h w (ap₂ (λ (z : ℕ) (zs : Bytes). z ∷ zs) q y)) e one

    at
        : (z : Bool) → eqb b c ≡ z
        → Sound s n kept (b ∷ r) r (elim z [ true ↦ Move.go (spell cs (meaning x) (opened k)) | false ↦ Move.broken ])
    at true q = goes (spelled cs h (eqb_eq q))
    at false q = broken_so

-- ---- all moves

pub move_sound : {s kept r : Bytes} {n b : ℕ} {q : State} → Reached s n kept q (b ∷ r) → Sound s n kept (b ∷ r) r (move q b)
unfolding move token_move
move_sound (at_value {k} f e) = gap_sound (Gap.value (opened k)) (λ c. at_value (before_next f c) e) (value_sound f e)
move_sound (at_item {k} f e) = gap_sound (Gap.first_item (opened k)) (λ c. at_item (before_next f c) e) (item_sound f e)
move_sound (at_name {k} f e) =
    gap_sound (Gap.first_name (opened k)) (λ c. at_name (before_name_next f c) e) (first_name_sound f e)
move_sound (at_next {ns} {k} f e) =
    gap_sound (Gap.next_name (meaning_named ns) (opened k)) (λ c. at_next (before_name_next f c) e) (name_sound f e)
move_sound (at_colon {m} {ns} {k} f a w e) =
    gap_sound (Gap.colon (meaning_named ns) m (opened k)) (λ c. at_colon f a (ws_next w c) e) (colon_sound f a w e)
move_sound (at_behind f v w e) = gap_behind_sound f v w e
move_sound (in_string {xs} f h g e) = string_sound xs f h g e
move_sound (in_name {xs} f h g e) = name_text_sound xs f h g e
move_sound (in_digits f h g e) = digits_sound f h g e
move_sound (in_word {cs} f h e one) = word_sound cs f h e one

pub end_sound : {s kept : Bytes} {n : ℕ} {q : State} → Reached s n kept q [] → Sound s n kept [] [] (end_move q)
unfolding end_move gap_end
end_sound (at_value f e) = broken_so
end_sound (at_item f e) = broken_so
end_sound (at_name f e) = broken_so
end_sound (at_next f e) = broken_so
end_sound (at_colon f a w e) = broken_so
end_sound (at_behind f v w e) = end_behind_sound f v w
end_sound (in_string f h g e) = broken_so
end_sound (in_name f h g e) = broken_so
end_sound (in_digits f h g e) =
    number_end_sound gap_end f h g e (λ b w y. absurd (nil≢cons y)) (λ v y. end_behind_sound f v ws_none)
end_sound (in_word f h e one) = broken_so
