-- A document of L bytes begins at most (L + nesting) / 2 values that are not too deep, so that a limit of values beyond that judges
-- nothing: each value takes its first byte and one behind it, but for lists and records that are still open. Assumes nothing.
use Prim.Native.Nat.{ℕ, suc, ◌+◌, ◌*◌, ◌/◌, ◌≤◌, ◌<◌, min}
use native.Mathlib.Omega.{arith}
use native.Mathlib.Decide.{dec_lt}
use mathlib.Core.Path.{◌≡◌, refl, sym, ap, ◌∙◌, subst}
use mathlib.Core.Bool.{Bool, true, false}
use mathlib.Core.List.{List, [], ◌∷◌, reverse}
use mathlib.Core.Option.{Option, none, some}
use lib.Dec.{ltb, eqb}
use lib.ListN.{length}
use Rattle.definitions.specs.declared.Limits.{Limits}
use Rattle.definitions.specs.Bytes.{Bytes, Row, row, between, look, is, white}
use Rattle.definitions.specs.Outcome.{Outcome, refused, placed}
use Rattle.definitions.specs.Text.{chars, TextMove, wrong, more, closed, text_step}
use Rattle.definitions.specs.Number.{no_digits, beyond, number_of, Phase, begin, next, complete, extend}
use Rattle.definitions.specs.Value.{Value, Members, no_items, items_onto, no_members, members_onto, has_name}
use Rattle.definitions.specs.Json.{Open, root, in_list, in_rec, Gap, Role, as_value, as_name, State, gap, in_text, in_number, in_literal, put, Move}
use Rattle.definitions.specs.Json.{broken, broken_number, go, begin_value, begin_number, begin_name, end_name, end_number, end_text, spell}
use Rattle.definitions.specs.Json.{value_rows, value_move, name_move, token_move, gap_move, close_move, text_move}
use Rattle.definitions.specs.Json.{number_end, move, gap_end, end_move, depth, full, judge, scan, read_json}
use Rattle.laws.specs.Tests.{lt-ltb, le-ltb}
use Rattle.laws.specs.Bools.{or_right}
use Rattle.slices.specs.Fewer.{with_values}

-- ---- how many bytes the values begun still owe

-- at most so many, between tokens: one for each list or record that is open, and one where a value has just come
abbrev gap_owes : Gap → ℕ
gap_owes (Gap.value o) = depth o
gap_owes (Gap.first_item o) = suc (depth o)
gap_owes (Gap.after_item vs o) = suc (suc (depth o))
gap_owes (Gap.first_name o) = suc (depth o)
gap_owes (Gap.next_name ms o) = suc (depth o)
gap_owes (Gap.colon ms n o) = suc (depth o)
gap_owes (Gap.after_member ms o) = suc (suc (depth o))
gap_owes (Gap.whole v) = 1

abbrev owes : State → ℕ
owes (gap g) = gap_owes g
owes (in_text (as_value o) i acc) = suc (depth o)
owes (in_text (as_name ms o) i acc) = suc (depth o)
owes (in_number p d o) = suc (depth o)
owes (in_literal c cs v o) = suc (depth o)

-- what a move leaves to be owed, where k was: its byte pays one, and a value that begins owes two
abbrev Pays : (k : ℕ) → Move → Type 0
Pays k broken = Unit
Pays k (broken_number o) = k ≤ suc (depth o)
Pays k (go q) = k ≤ suc (owes q)
Pays k (begin_value o q) = (k ≤ depth o) × (suc k ≤ owes q)
Pays k (begin_number q) = suc k ≤ owes q
Pays k (begin_name q) = k ≤ suc (owes q)
Pays k (end_name t ms q) = k ≤ suc (owes q)
Pays k (end_number d o m) = (k ≤ suc (depth o)) × Pays k m
Pays k (end_text v) = Unit

-- ---- what a byte does

-- the two sides of a test
on_test : {A : Type 0} (P : A → Type 0) (b : Bool) (x y : A) → P x → P y → P (elim b as (λ z. A) [ true ↦ x | false ↦ y ])
on_test P true x y p q = p
on_test P false x y p q = q

put_owes : (v : Value) (o : Open) → gap_owes (put v o) ≡ suc (depth o)
unfolding put depth
put_owes v root = refl
put_owes v (in_list vs o) = refl
put_owes v (in_rec ms n o) = refl

spell_owes : (cs : Bytes) (v : Value) (o : Open) → owes (spell cs v o) ≡ suc (depth o)
unfolding spell
spell_owes [] v o = put_owes v o
spell_owes (c ∷ cs) v o = refl

-- what a table says, whatever it is
abbrev Each : {A : Type 0} → (A → Type 0) → List (Row A) → Type 0
Each P [] = Unit
Each P (row lo hi a ∷ rows) = P a × Each P rows

abbrev Told : {A : Type 0} → (A → Type 0) → Option A → Type 0
Told P none = Unit
Told P (some a) = P a

look_told : {A : Type 0} (P : A → Type 0) (rows : List (Row A)) (b : ℕ) → Each P rows → Told P (look rows b)
unfolding look
look_told P [] b e = tt
look_told {A} P (row lo hi a ∷ rows) b (p, e) = on_test (Told P) (between lo hi b) (some a) (look rows b) p (look_told P rows b e)

value_pays : (o : Open) (b : ℕ) → Pays (depth o) (value_move o b)
unfolding value_move value_rows
value_pays o b =
    told (look (value_rows o) b)
    (look_told (λ q. suc (depth o) ≤ owes q) (value_rows o) b
    (omega arith, (omega arith, (omega arith, (literal _ _, (literal _ _, (literal _ _, tt)))))))
  where
    literal : (cs : Bytes) (v : Value) → suc (depth o) ≤ owes (spell cs v o)
    literal cs v = omega (arith, spell_owes cs v o)

    number
        : (x : Option Phase)
        → Pays (depth o) (elim x as (λ z. Move) [ some p ↦ begin_number (in_number p (extend p no_digits b) o) | none ↦ broken ])
    number none = tt
    number (some p) = omega arith

    told
        : (x : Option State) → Told (λ q. suc (depth o) ≤ owes q) x
        → Pays (depth o)
        (elim x as (λ z. Move) [
          | some q ↦ begin_value o q
          | none ↦ elim (look (next begin) b) [ some p ↦ begin_number (in_number p (extend p no_digits b) o) | none ↦ broken ]
        ])
    told none h = number (look (next begin) b)
    told (some q) h = (omega arith, h)

name_pays : (ms : Members) (o : Open) (b : ℕ) → Pays (suc (depth o)) (name_move ms o b)
unfolding name_move
name_pays ms o b = on_test (Pays (suc (depth o))) (is "\"" b) (begin_name (in_text (as_name ms o) chars [])) broken (omega arith) tt

-- behind the bracket that closes a list or a record
close_pays : (k : ℕ) (v : Value) (o : Open) → k ≤ suc (suc (depth o)) → Pays k (go (gap (put v o)))
close_pays k v o h = omega (arith, put_owes v o)

-- behind an element or a member: a comma, or that bracket
next_pays
    : (x y : Bool) (q : State) (v : Value) (o : Open) → suc (depth o) ≤ owes q
    → Pays (suc (suc (depth o)))
    (elim x as (λ z. Move) [ true ↦ go q | false ↦ elim y as (λ z. Move) [ true ↦ go (gap (put v o)) | false ↦ broken ] ])
next_pays true y q v o h = omega arith
next_pays false true q v o h = close_pays (suc (suc (depth o))) v o (omega arith)
next_pays false false q v o h = tt

token_pays : (g : Gap) (b : ℕ) → Pays (gap_owes g) (token_move g b)
unfolding token_move depth
token_pays (Gap.value o) b = value_pays o b
token_pays (Gap.first_item o) b =
    on_test (Pays (suc (depth o))) (is "]" b) (go (gap (put (Value.list no_items) o))) (value_move (in_list no_items o) b)
    (close_pays (suc (depth o)) (Value.list no_items) o (omega arith)) (value_pays (in_list no_items o) b)
token_pays (Gap.after_item vs o) b =
    next_pays (is "," b) (is "]" b) (gap (Gap.value (in_list vs o))) (Value.list (items_onto vs no_items)) o (omega arith)
token_pays (Gap.first_name o) b =
    on_test (Pays (suc (depth o))) (is "}" b) (go (gap (put (Value.rec no_members) o))) (name_move no_members o b)
    (close_pays (suc (depth o)) (Value.rec no_members) o (omega arith)) (name_pays no_members o b)
token_pays (Gap.next_name ms o) b = name_pays ms o b
token_pays (Gap.colon ms n o) b =
    on_test (Pays (suc (depth o))) (is ":" b) (go (gap (Gap.value (in_rec ms n o)))) broken (omega arith) tt
token_pays (Gap.after_member ms o) b =
    next_pays (is "," b) (is "}" b) (gap (Gap.next_name ms o)) (Value.rec (members_onto ms no_members)) o (omega arith)
token_pays (Gap.whole v) b = tt

gap_pays : (g : Gap) (b : ℕ) → Pays (gap_owes g) (gap_move g b)
unfolding gap_move
gap_pays g b = on_test (Pays (gap_owes g)) (white b) (go (gap g)) (token_move g b) (omega arith) (token_pays g b)

move_pays : (q : State) (b : ℕ) → Pays (owes q) (move q b)
unfolding move text_move close_move number_end
move_pays (gap g) b = gap_pays g b
move_pays (in_text r i acc) b = told r (text_step i acc b)
  where
    told : (r : Role) (m : TextMove) → Pays (owes (in_text r i acc)) (text_move r acc m)
    told r wrong = tt
    told (as_value o) (more i' acc') = omega arith
    told (as_name ms o) (more i' acc') = omega arith
    told (as_value o) closed = close_pays _ (Value.text (reverse acc)) o (omega arith)
    told (as_name ms o) closed = omega arith
move_pays (in_number p d o) b = told (look (next p) b)
  where
    behind : Pays (suc (depth o)) (gap_move (put (Value.number (number_of d)) o) b)
    behind = subst (λ k. Pays k (gap_move (put (Value.number (number_of d)) o) b)) (put_owes _ o) (gap_pays (put (Value.number (number_of d)) o) b)

    told
        : (x : Option Phase)
        → Pays (suc (depth o))
        (elim x as (λ z. Move) [
          | some q ↦ go (in_number q (extend q d b) o)
          | none ↦ number_end p d o (λ g. gap_move g b)
        ])
    told (some q) = omega arith
    told none =
        on_test (Pays (suc (depth o))) (complete p) (end_number d o (gap_move (put (Value.number (number_of d)) o) b)) (broken_number o)
        (omega arith, behind) (omega arith)
move_pays (in_literal c cs v o) b =
    on_test (Pays (suc (depth o))) (eqb b c) (go (spell cs v o)) broken (omega (arith, spell_owes cs v o)) tt

-- ---- the limits

-- what one side of a test comes to
on_false
    : (b : Bool) (x : Outcome Bytes Value) {y y' : Outcome Bytes Value} → y ≡ y'
    → ◌≡◌ {A = Outcome Bytes Value} (elim b [ true ↦ x | false ↦ y ]) (elim b [ true ↦ x | false ↦ y' ])
on_false true x e = refl
on_false false x e = e

-- limits that differ in values alone, neither below what a document of so many bytes can begin
module _ (l l' : Limits) (bytes most : ℕ) (a : most ≤ l.values) (b : most ≤ l'.values) (e : l.nesting ≡ l'.nesting)
    (enough : bytes + l.nesting ≤ suc (2 * most)) where
  full_same : (n : ℕ) (o : Open) → 2 * n ≤ bytes + suc (depth o) → full l n o ≡ full l' n o
  unfolding full
  full_same n o h = split (dec_lt l.nesting (suc (depth o)))
    where
      split : Dec (l.nesting < suc (depth o)) → full l n o ≡ full l' n o
      split (yes d) =
          or_right (ltb l.values n) (lt-ltb _ _ d) ∙ sym (or_right (ltb l'.values n) (lt-ltb l'.nesting _ (omega arith)))
      split (no d) =
          let p : n ≤ l.values = omega arith in
          let q : n ≤ l'.values = omega arith in
          rw (le-ltb l.values n p, le-ltb l'.values n q, e) refl

  judge_same
      : (m : Move) (k n left : ℕ) (kept s : Bytes) (on on' : ℕ → Bytes → State → Outcome Bytes Value) → Pays k m
      → 2 * n + suc left ≤ bytes + k
      → ((n' : ℕ) (kept' : Bytes) (q : State) → 2 * n' + left ≤ bytes + owes q → on n' kept' q ≡ on' n' kept' q)
      → judge l n kept s m on ≡ judge l' n kept s m on'
  unfolding judge
  judge_same broken k n left kept s on on' p h f = refl
  judge_same (broken_number o) k n left kept s on on' p h f = rw (full_same n o (omega arith), judge) refl
  judge_same (go q) k n left kept s on on' p h f = f n kept q (omega arith)
  judge_same (begin_value o q) k n left kept s on on' (p, p') h f =
      on_false (full l (suc n) o) (refused 6 s) (f (suc n) kept q (omega arith)) ∙ rw (full_same (suc n) o (omega arith), judge) refl
  judge_same (begin_number q) k n left kept s on on' p h f = f (suc n) s q (omega arith)
  judge_same (begin_name q) k n left kept s on on' p h f = f n s q (omega arith)
  judge_same (end_name t ms q) k n left kept s on on' p h f = on_false (has_name t ms) (refused 5 kept) (f n kept q (omega arith))
  judge_same (end_number d o m) k n left kept s on on' (p, p') h f =
      on_false (beyond d) (refused 4 kept)
      (on_false (full l n o) (refused 6 kept) (judge_same m k n left kept s on on' p' h f) ∙ rw (full_same n o (omega arith), judge) refl)
  judge_same (end_text v) k n left kept s on on' p h f = refl

  -- the end of the text: a number may end there
  gap_end_same
      : (g : Gap) (n : ℕ) (kept : Bytes) (on : ℕ → Bytes → State → Outcome Bytes Value)
      → judge l n kept [] (gap_end g) on ≡ judge l' n kept [] (gap_end g) on
  unfolding judge gap_end
  gap_end_same (Gap.value o) n kept on = refl
  gap_end_same (Gap.first_item o) n kept on = refl
  gap_end_same (Gap.after_item vs o) n kept on = refl
  gap_end_same (Gap.first_name o) n kept on = refl
  gap_end_same (Gap.next_name ms o) n kept on = refl
  gap_end_same (Gap.colon ms k o) n kept on = refl
  gap_end_same (Gap.after_member ms o) n kept on = refl
  gap_end_same (Gap.whole v) n kept on = refl

  end_same
      : (q : State) (n : ℕ) (kept : Bytes) (on : ℕ → Bytes → State → Outcome Bytes Value) → 2 * n ≤ bytes + owes q
      → judge l n kept [] (end_move q) on ≡ judge l' n kept [] (end_move q) on
  unfolding judge end_move number_end
  end_same (gap g) n kept on h = gap_end_same g n kept on
  end_same (in_text r i acc) n kept on h = refl
  end_same (in_number p d o) n kept on h = told (complete p)
    where
      behind : Move
      behind = gap_end (put (Value.number (number_of d)) o)

      told
          : (x : Bool)
          → judge l n kept [] (elim x as (λ z. Move) [ true ↦ end_number d o behind | false ↦ broken_number o ]) on
          ≡ judge l' n kept [] (elim x as (λ z. Move) [ true ↦ end_number d o behind | false ↦ broken_number o ]) on
      told true =
          on_false (beyond d) (refused 4 kept)
          (on_false (full l n o) (refused 6 kept) (gap_end_same (put (Value.number (number_of d)) o) n kept on)
          ∙ rw (full_same n o h, judge) refl)
      told false = rw (full_same n o h, judge) refl
  end_same (in_literal c cs v o) n kept on h = refl

  scan_same
      : (s : Bytes) (n : ℕ) (kept : Bytes) (q : State) → 2 * n + length s ≤ bytes + owes q → scan l n kept q s ≡ scan l' n kept q s
  unfolding scan
  scan_same [] n kept q h = end_same q n kept _ (omega arith)
  scan_same (x ∷ r) n kept q h =
      judge_same (move q x) (owes q) n (length r) kept (x ∷ r) _ _ (move_pays q x) h (λ n' kept' q' i. scan_same r n' kept' q' i)

-- such limits judge a document as the others do
pub few_values
    : (l : Limits) (doc : Bytes) → read_json (with_values l (min l.values ((length doc + l.nesting) / 2))) doc ≡ read_json l doc
unfolding read_json
few_values l doc = split (dec_lt most l.values)
  where
    most : ℕ
    most = (length doc + l.nesting) / 2

    split : Dec (most < l.values) → read_json (with_values l (min l.values most)) doc ≡ read_json l doc
    split (yes h) =
        ap (placed doc)
        (scan_same (with_values l (min l.values most)) l (length doc) most (omega arith) (omega arith) refl (omega arith) doc 0 doc
        (gap (Gap.value root)) (omega arith))
    split (no h) = ap (λ (v : ℕ). read_json (with_values l v) doc) (let e : min l.values most ≡ l.values = omega arith in e)
