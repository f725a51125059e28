-- Soundness of reading between tokens: from a state that is what it says, a byte there leads to one that is, or breaks.
-- Assumes nothing.
use Rattle.std.specs.Prelude.{ℕ, suc, ◌+◌, ◌≡◌, refl, Bool, true, false, [], ◌∷◌}
use Rattle.std.proofs.Common.{sym, ap, subst}
use Rattle.std.proofs.Math.Option.{some}
use Rattle.definitions.specs.Bytes.{Bytes, between, look, is, white, white_table, found}
use Rattle.definitions.specs.Text.{Inside}
use Rattle.definitions.specs.Number.{Numeral, no_digits, Phase, begin, next}
use Rattle.definitions.specs.Value.{Value, no_items, items_onto, no_members, members_onto, size}
use Rattle.definitions.specs.Json.{Gap, Role, State, put, Move, value_move, name_move, token_move, gap_move, gap_end}
use Rattle.laws.specs.Tree.{Tree, Trees, no_trees, tree, Named, no_named, named, meaning, meaning_trees, meaning_named}
use Rattle.laws.specs.Rfc8259 as Rfc
use Rattle.laws.specs.Rfc8259.{ws_char, ws, ws_none, char_of, json_text}
use Rattle.laws.specs.Steps.{text_stay, NumberSteps, number_stay, number_then}
use Rattle.laws.specs.Causes.{Context, top, in_array, in_object, Before, BeforeName, begun}
use Rattle.laws.proofs.NumberTokens.{number_sound, number_live}
use Rattle.laws.proofs.JsonBytes.{is_cases, white_cases, not_space, space_no_digit, ValueByte, quote}
use Rattle.laws.proofs.JsonBytes.{bracket, brace, letter_t, letter_f, letter_n, digit, nothing, value_byte}
use Rattle.laws.proofs.JsonContext.{opened, meaning_trees_onto, meaning_named_onto, begun_named, count_array, count_object, count_no_array}
use Rattle.laws.proofs.JsonContext.{count_no_object, count_value, count_member, count_array_end, count_object_end, ws_next, value_close}
use Rattle.laws.proofs.JsonReached.{Reached, at_value, at_item, at_name, at_next, at_behind, in_string, in_name, in_digits}
use Rattle.laws.proofs.JsonReached.{in_word, Starts, Sound, broken_so, goes, begins_value, begins_number, begins_name, ends_text}

-- ---- bytes that begin a value

-- a byte from which a value goes on
starts_with : {b : ℕ} {ys : Bytes} {x : Tree} (r : Bytes) → (ws_char b → ⊥) → Rfc.value (b ∷ ys) x [] → Starts (b ∷ r)
starts_with {b} {ys} {x} r c v =
    record { first = b; others = r; split = refl; no_space = c; rest = ys; tree = x; behind = []; begins = v }

starts_digit : {b : ℕ} {p : Phase} (r : Bytes) → look (next begin) b ≡ some p → Starts (b ∷ r)
starts_digit {b} {p} r e =
    let (ys, q, f, g, c) = number_live (number_then e number_stay) in
    starts_with r (space_no_digit e) (Rfc.is_number (number_sound (number_then e g) c []))

pub starts_number
    : {b : ℕ} {xs : Bytes} {p : Phase} {d : Numeral} (r : Bytes) → NumberSteps begin no_digits (b ∷ xs) p d → Starts (b ∷ r)
starts_number r (number_then e g) = starts_digit r e

-- ---- moves between tokens

-- a byte between tokens is white space, or what a byte does that isn't
pub gap_sound
    : {s kept r : Bytes} {n b : ℕ} (g : Gap) → (ws_char b → Reached s n kept (State.gap g) r)
    → Sound s n kept (b ∷ r) r (token_move g b)
    → Sound s n kept (b ∷ r) r (gap_move g b)
unfolding gap_move
gap_sound {s} {kept} {r} {n} {b} g w m =
    white_cases (λ z. Sound s n kept (b ∷ r) r (elim z [ true ↦ Move.go (State.gap g) | false ↦ token_move g b ])) b
    (λ c. goes (w c)) m

value_byte_sound
    : {s kept r : Bytes} {n b : ℕ} {k : Context} {m : Move} → ValueByte (opened k) b m → Before s k (b ∷ r) → n ≡ begun k
    → Sound s n kept (b ∷ r) r m
unfolding meaning size begun white white_table found look between
value_byte_sound {r} quote f e =
    begins_value f e (starts_with r (not_space refl) (Rfc.is_string (Rfc.quoted Rfc.no_chars)))
    (in_string f refl text_stay (ap suc e))
value_byte_sound {r} {k} bracket f e =
    begins_value f e
    (starts_with r (not_space refl) (Rfc.is_array (Rfc.empty_array (char_of ws_none ws_none) (char_of ws_none ws_none))))
    (at_item (Before.first_value f (char_of ws_none ws_none)) (count_array k e))
value_byte_sound {r} {k} brace f e =
    begins_value f e
    (starts_with r (not_space refl) (Rfc.is_object (Rfc.empty_object (char_of ws_none ws_none) (char_of ws_none ws_none))))
    (at_name (BeforeName.first_name f (char_of ws_none ws_none)) (count_object k e))
value_byte_sound {r} letter_t f e =
    begins_value f e (starts_with r (not_space refl) Rfc.is_true)
    (in_word {x = Tree.bool true} f (λ w g. subst (λ z. Rfc.value (0x74 ∷ z) (Tree.bool true) w) (sym g) Rfc.is_true)
    (ap suc e) refl)
value_byte_sound {r} letter_f f e =
    begins_value f e (starts_with r (not_space refl) Rfc.is_false)
    (in_word {x = Tree.bool false} f (λ w g. subst (λ z. Rfc.value (0x66 ∷ z) (Tree.bool false) w) (sym g) Rfc.is_false)
    (ap suc e) refl)
value_byte_sound {r} letter_n f e =
    begins_value f e (starts_with r (not_space refl) Rfc.is_null)
    (in_word {x = Tree.null} f (λ w g. subst (λ z. Rfc.value (0x6E ∷ z) Tree.null w) (sym g) Rfc.is_null) (ap suc e) refl)
value_byte_sound (digit g) f e = begins_number (in_digits f refl (number_then g number_stay) (ap suc e))
value_byte_sound (nothing g) f e = broken_so

pub value_sound
    : {s kept r : Bytes} {n b : ℕ} {k : Context} → Before s k (b ∷ r) → n ≡ begun k
    → Sound s n kept (b ∷ r) r (value_move (opened k) b)
value_sound {b} {k} f e = value_byte_sound (value_byte (opened k) b) f e

pub name_sound
    : {s kept r : Bytes} {n b : ℕ} {ns : Named} {k : Context} → BeforeName s ns k (b ∷ r) → n ≡ begun_named ns k
    → Sound s n kept (b ∷ r) r (name_move (meaning_named ns) (opened k) b)
unfolding name_move
name_sound {s} {kept} {r} {n} {b} {ns} {k} f e =
    is_cases
    (λ z. Sound s n kept (b ∷ r) r
    (elim z [
      | true ↦ Move.begin_name (State.in_text (Role.as_name (meaning_named ns) (opened k)) Inside.chars [])
      | false ↦ Move.broken
    ]))
    "\"" b (λ g. begins_name (in_name f (ap (λ (z : ℕ). z ∷ r) g) text_stay e)) broken_so

-- behind `[`
pub item_sound
    : {s kept r : Bytes} {n b : ℕ} {k : Context} → Before s (in_array no_trees k) (b ∷ r) → n ≡ begun (in_array no_trees k)
    → Sound s n kept (b ∷ r) r (token_move (Gap.first_item (opened k)) b)
unfolding token_move opened meaning
item_sound {s} {kept} {r} {n} {b} {k} f e =
    is_cases
    (λ z. Sound s n kept (b ∷ r) r
    (elim z [
      | true ↦ Move.go (State.gap (put (Value.list no_items) (opened k)))
      | false ↦ value_move (opened (in_array no_trees k)) b
    ]))
    "]" b (λ g. goes (close (subst (λ (z : ℕ). Before s (in_array no_trees k) (z ∷ r)) g f))) (value_sound f e)
  where
    close
        : Before s (in_array no_trees k) (0x5D ∷ r)
        → Reached s n kept (State.gap (put (meaning (Tree.list no_trees)) (opened k))) r
    close (Before.first_value h w) =
        at_behind h (Rfc.is_array (Rfc.empty_array w (char_of ws_none ws_none))) ws_none (count_no_array k e)

-- behind `{`
pub first_name_sound
    : {s kept r : Bytes} {n b : ℕ} {k : Context} → BeforeName s no_named k (b ∷ r) → n ≡ begun_named no_named k
    → Sound s n kept (b ∷ r) r (token_move (Gap.first_name (opened k)) b)
unfolding token_move meaning
first_name_sound {s} {kept} {r} {n} {b} {k} f e =
    is_cases
    (λ z. Sound s n kept (b ∷ r) r
    (elim z [
      | true ↦ Move.go (State.gap (put (Value.rec no_members) (opened k)))
      | false ↦ name_move no_members (opened k) b
    ]))
    "}" b (λ g. goes (close (subst (λ (z : ℕ). BeforeName s no_named k (z ∷ r)) g f))) (name_sound f e)
  where
    close
        : BeforeName s no_named k (0x7D ∷ r) → Reached s n kept (State.gap (put (meaning (Tree.rec no_named)) (opened k))) r
    close (BeforeName.first_name h w) =
        at_behind h (Rfc.is_object (Rfc.empty_object w (char_of ws_none ws_none))) ws_none (count_no_object k e)

-- behind a name
pub colon_sound
    : {s kept t u m r : Bytes} {n b : ℕ} {ns : Named} {k : Context} → BeforeName s ns k t → Rfc.string t m u → ws u (b ∷ r)
    → n ≡ begun_named ns k → Sound s n kept (b ∷ r) r (token_move (Gap.colon (meaning_named ns) m (opened k)) b)
unfolding token_move opened begun
colon_sound {s} {kept} {u} {m} {r} {n} {b} {ns} {k} f a w e =
    is_cases
    (λ z. Sound s n kept (b ∷ r) r
    (elim z [ true ↦ Move.go (State.gap (Gap.value (opened (in_object ns m k)))) | false ↦ Move.broken ]))
    ":" b (λ g. goes (at_value (Before.member_value f a (char_of (subst (λ (z : ℕ). ws u (z ∷ r)) g w) ws_none)) e)) broken_so

-- a closing bracket
array_end
    : {s kept t u r : Bytes} {n : ℕ} {x : Tree} (ts : Trees) (k : Context) → Before s (in_array ts k) t → Rfc.value t x u
    → ws u (0x5D ∷ r) → n ≡ begun (in_array ts k) + size (meaning x)
    → Reached s n kept (State.gap (put (Value.list (items_onto (meaning_trees (tree x ts)) no_items)) (opened k))) r
unfolding meaning items_onto
array_end {s} {kept} {u} {r} {n} {x} ts k f v w e =
    let (b, g, h) = value_close f in
    subst (λ z. Reached s n kept (State.gap (put (Value.list z) (opened k))) r) (meaning_trees_onto ts (tree x no_trees))
    (at_behind g (Rfc.is_array (h x no_trees u u r v Rfc.no_value (char_of w ws_none))) ws_none (count_array_end k ts x e))

-- a closing brace
object_end
    : {s kept t u m r : Bytes} {n : ℕ} {x : Tree} (ns : Named) (k : Context) → Before s (in_object ns m k) t → Rfc.value t x u
    → ws u (0x7D ∷ r) → n ≡ begun (in_object ns m k) + size (meaning x)
    → Reached s n kept (State.gap (put (Value.rec (members_onto (meaning_named (named m x ns)) no_members)) (opened k))) r
unfolding meaning members_onto
object_end {s} {kept} {u} {m} {r} {n} {x} ns k f v w e =
    let (b, g, h) = value_close f in
    subst (λ z. Reached s n kept (State.gap (put (Value.rec z) (opened k))) r) (meaning_named_onto ns (named m x no_named))
    (at_behind g (Rfc.is_object (h x no_named u u r v Rfc.no_member (char_of w ws_none))) ws_none
    (count_object_end k ns m x e))

-- behind a value
behind_sound
    : {s kept t u r : Bytes} {n b : ℕ} {x : Tree} (k : Context) → Before s k t → Rfc.value t x u → ws u (b ∷ r)
    → n ≡ begun k + size (meaning x) → Sound s n kept (b ∷ r) r (token_move (put (meaning x) (opened k)) b)
unfolding token_move put opened meaning
behind_sound top f v w e = broken_so
behind_sound {s} {kept} {u} {r} {n} {b} {x} (in_array ts k) f v w e =
    is_cases
    (λ z. Sound s n kept (b ∷ r) r
    (elim z [ true ↦ Move.go (State.gap (Gap.value (opened (in_array (tree x ts) k)))) | false ↦ shut (is "]" b) ]))
    "," b (λ g. goes (at_value (Before.next_value f v (char_of (at g) ws_none)) (count_value k ts x e)))
    (is_cases (λ z. Sound s n kept (b ∷ r) r (shut z)) "]" b (λ g. goes (array_end ts k f v (at g) e)) broken_so)
  where
    shut : Bool → Move
    shut z =
        elim z [
          | true ↦ Move.go (State.gap (put (Value.list (items_onto (meaning_trees (tree x ts)) no_items)) (opened k)))
          | false ↦ Move.broken
        ]

    at : {c : ℕ} → b ≡ c → ws u (c ∷ r)
    at {c} g = subst (λ (z : ℕ). ws u (z ∷ r)) g w
behind_sound {s} {kept} {u} {r} {n} {b} {x} (in_object ns m k) f v w e =
    is_cases
    (λ z. Sound s n kept (b ∷ r) r
    (elim z [
      | true ↦ Move.go (State.gap (Gap.next_name (meaning_named (named m x ns)) (opened k)))
      | false ↦ shut (is "}" b)
    ]))
    "," b (λ g. goes
    (at_next {ns = named m x ns} (BeforeName.next_name f v (char_of (at g) ws_none)) (count_member k ns m x e)))
    (is_cases (λ z. Sound s n kept (b ∷ r) r (shut z)) "}" b (λ g. goes (object_end ns k f v (at g) e)) broken_so)
  where
    shut : Bool → Move
    shut z =
        elim z [
          | true ↦ Move.go (State.gap (put (Value.rec (members_onto (meaning_named (named m x ns)) no_members)) (opened k)))
          | false ↦ Move.broken
        ]

    at : {c : ℕ} → b ≡ c → ws u (c ∷ r)
    at {c} g = subst (λ (z : ℕ). ws u (z ∷ r)) g w

pub gap_behind_sound
    : {s kept t u r : Bytes} {n b : ℕ} {x : Tree} {k : Context} → Before s k t → Rfc.value t x u → ws u (b ∷ r)
    → n ≡ begun k + size (meaning x) → Sound s n kept (b ∷ r) r (gap_move (put (meaning x) (opened k)) b)
gap_behind_sound {x} {k} f v w e =
    gap_sound (put (meaning x) (opened k)) (λ c. at_behind f v (ws_next w c) e) (behind_sound k f v w e)

pub end_behind_sound
    : {s kept t u : Bytes} {n : ℕ} {x : Tree} {k : Context} → Before s k t → Rfc.value t x u → ws u []
    → Sound s n kept [] [] (gap_end (put (meaning x) (opened k)))
unfolding gap_end put opened
end_behind_sound (Before.start w) v w' = ends_text refl (json_text w v w')
end_behind_sound (Before.first_value f a) v w' = broken_so
end_behind_sound (Before.next_value f a w) v w' = broken_so
end_behind_sound (Before.member_value f a w) v w' = broken_so
