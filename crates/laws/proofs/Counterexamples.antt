-- That the theorems say something: with a hypothesis left out, turned round or weakened by one, each is false. Every name
-- says what would go wrong. Assumes nothing.
use Rattle.std.specs.Prelude.{ℕ, zero, suc, ◌≤◌, ◌+◌, ◌≡◌, refl, ◌⊎◌, Bool, true, false, List, [], ◌∷◌, map, length, replicate}
use Rattle.std.proofs.Common.{arith, sym, ap, ◌∙◌, subst, inl, inr, true≢false, lit≤}
use Rattle.std.proofs.lemmas.Bool.{false≢true}
use Rattle.definitions.specs.declared.Limits.{Limits}
use Rattle.definitions.specs.Limits.{standard}
use Rattle.definitions.specs.Bytes.{Bytes, bytes}
use Rattle.definitions.specs.Outcome.{Outcome, ok, refused}
use Rattle.definitions.specs.Value.{Value, no_members, member, size, nesting}
use Rattle.definitions.specs.Json.{read_json}
use Rattle.definitions.specs.Plain.{plain}
use Rattle.definitions.specs.Shape.{Shape, list_of, no_fields, field, rec_of, nothing, ascending, only_null, only_numeric, int_only, only_text, only_list}
use Rattle.definitions.specs.Shape.{only_rec}
use Rattle.definitions.specs.Order.{below}
use Rattle.definitions.specs.Join.{with_null, join, shape_of}
use Rattle.definitions.specs.Admits.{admits}
use Rattle.definitions.specs.ShapeText.{read_shape}
use Rattle.definitions.specs.Reader.{Place, Result, Conversion}
use Rattle.definitions.specs.Checking.{check_reader}
use Rattle.definitions.specs.Running.{run_reader}
use Rattle.definitions.specs.Operations.{Done, Source, check_operation}
use Rattle.definitions.specs.Evaluate.{evaluate}
use Rattle.laws.specs.Distinct.{distinct}
use Rattle.laws.specs.Rfc8259.{ws, ws_none, ws_more, space, char_of, value, is_array, empty_array, values, no_value, JSONText, json_text}
use Rattle.laws.specs.Rfc3629.{UTF8Octets, no_octets, octets, char_1, utf8_1}
use Rattle.laws.specs.Tree.{Tree, no_trees, tree, meaning, NumbersFit, list_fits, tree_fits, no_trees_fit}
use Rattle.laws.specs.Good.{GoodValue, good_null, good_rec, good_member, good_no_members}
use Rattle.laws.specs.Readers.{scoped, scoped_place, proper}
use Rattle.laws.specs.Chain.{Each, each_none, each_one, Call, start, infers, takes, left_by, accepted, reached, Reordered, swap_first}
use Rattle.laws.specs.OldField.{old_field_shape, check_place_by, check_by, old_check_reader, old_field_value, run_place_by, run_by, old_run_reader}

-- ---- values and shapes that serve below

unfoldable pub an_int : Value
an_int = Value.number (record { negative = false; coefficient = 1; scale = 0 })

-- a record with the name a twice, the second time a text
unfoldable pub twice : Value
twice = Value.rec (member (bytes "a") an_int (member (bytes "a") (Value.text []) no_members))

unfoldable pub int_shape : Shape
int_shape = only_numeric int_only

-- a rec whose a is an int
unfoldable pub with_a : Shape
with_a = only_rec (rec_of (field (bytes "a") int_shape no_fields))

-- one outcome is not two
pub clash : {A : Type 0} {o : Outcome ℕ A} {a : A} {n p : ℕ} → o ≡ refused n p → o ≡ ok a → ⊥
clash {A} {o} {a} {n} {p} e f = subst IsOk (sym f ∙ e) tt
  where
    IsOk : Outcome ℕ A → Type 0
    IsOk (ok x) = Unit {0}
    IsOk (refused m q) = ⊥

-- ---- order and join

-- without distinct names a shape would let a value through that it does not admit
pub repeated_name_slips_through
    : ((s : Shape) (v : Value) → ascending s ≡ true → below (shape_of v) s ≡ true → admits s v ≡ true) → ⊥
unfolding evaluate twice with_a int_shape an_int
repeated_name_slips_through h = false≢true (h with_a twice refl refl)

-- a shape with a member name twice would not lie below itself
pub repeated_member_is_not_below_itself : ((s : Shape) → below s s ≡ true) → ⊥
unfolding evaluate int_shape
repeated_member_is_not_below_itself h =
    false≢true (h (only_rec (rec_of (field (bytes "a") int_shape (field (bytes "a") only_text no_fields)))))

-- without sorted names two shapes would lie below each other
a_then_b : Shape
a_then_b = only_rec (rec_of (field (bytes "a") only_null (field (bytes "b") only_text no_fields)))

b_then_a : Shape
b_then_a = only_rec (rec_of (field (bytes "b") only_text (field (bytes "a") only_null no_fields)))

pub unsorted_shapes_lie_below_each_other : ((s t : Shape) → below s t ≡ true → below t s ≡ true → s ≡ t) → ⊥
unfolding evaluate a_then_b b_then_a
unsorted_shapes_lie_below_each_other h = true≢false (ap ascending (h a_then_b b_then_a refl refl))

-- with the order turned round the shape of a value would lie above all that admit it
pub order_turned_round
    : ((s : Shape) (v : Value) → distinct v ≡ true → ascending s ≡ true → admits s v ≡ true → below s (shape_of v) ≡ true) → ⊥
unfolding evaluate distinct with_a int_shape
order_turned_round h =
    false≢true (h (only_rec (rec_of (field (bytes "a") only_null no_fields))) (Value.rec no_members) refl refl refl)

-- ---- soundness

-- (int (it 0))
int_reader : Result
int_reader = Result.convert 0 Conversion.to_int (Place.it 5 0)

-- without the check a reader gets stuck on a document that the shape admits
pub unchecked_reader_gets_stuck
    : ((r : Result) (l : Limits) (s : Shape) (v : Value) (p : ℕ) → ascending s ≡ true → distinct v ≡ true → scoped 1 r ≡ true
    → proper r ≡ true → admits s v ≡ true → run_reader r l v ≡ refused 12 p → ⊥)
    → ⊥
unfolding evaluate int_reader distinct scoped scoped_place proper
unchecked_reader_gets_stuck h = h int_reader standard only_null Value.null 0 refl refl refl refl refl refl

-- a reader that passed gets stuck on a document that the shape does not admit
pub document_not_admitted_gets_stuck
    : ((r : Result) (l : Limits) (s u : Shape) (v : Value) (p : ℕ) → ascending s ≡ true → distinct v ≡ true → scoped 1 r ≡ true
    → proper r ≡ true → check_reader r s ≡ ok u → run_reader r l v ≡ refused 12 p → ⊥)
    → ⊥
unfolding evaluate int_reader int_shape distinct scoped scoped_place proper
document_not_admitted_gets_stuck h = h int_reader standard int_shape int_shape Value.null 0 refl refl refl refl refl refl

-- ---- reading

-- the smallest limits of request Q-6
smallest : Limits
smallest = record { bytes = 1024; values = 16; nesting = 4; steps = 256 }

-- five lists, one in the other
five_lists : Tree
five_lists =
    Tree.list (tree (Tree.list (tree (Tree.list (tree (Tree.list (tree (Tree.list no_trees) no_trees)) no_trees)) no_trees)) no_trees)

inner : {t : Tree} {s r : Bytes} → value s t (0x5D ∷ r) → value (0x5B ∷ s) (Tree.list (tree t no_trees)) r
inner d = is_array (values (char_of ws_none ws_none) d no_value (char_of ws_none ws_none))

five_lists_text : JSONText (bytes "[[[[[]]]]]") five_lists
unfolding evaluate five_lists
five_lists_text =
    json_text ws_none
    (inner (inner (inner (inner (is_array (empty_array (char_of ws_none ws_none) (char_of ws_none ws_none)))))))
    ws_none

five_lists_fit : NumbersFit five_lists
unfolding five_lists
five_lists_fit = one (one (one (one (list_fits no_trees_fit))))
  where
    one : {t : Tree} → NumbersFit t → NumbersFit (Tree.list (tree t no_trees))
    one h = list_fits (tree_fits h no_trees_fit)

-- with a nesting limit one larger than the reader's, texts of the grammar would be accepted that are not
pub one_level_too_deep
    : ((l : Limits) (s : Bytes) (x : Tree) → JSONText s x → NumbersFit x → distinct (meaning x) ≡ true
    → size (meaning x) ≤ l.values → nesting (meaning x) ≤ l.nesting + 1 → read_json l s ≡ ok (meaning x))
    → ⊥
unfolding evaluate five_lists meaning smallest distinct
one_level_too_deep h =
    clash {n = 6} {p = 4} refl
    (h smallest (bytes "[[[[[]]]]]") five_lists five_lists_text five_lists_fit refl (lit≤ tt) (lit≤ tt))

-- ---- round trips

name_a : UTF8Octets (bytes "a")
unfolding evaluate
name_a = octets (char_1 (utf8_1 (record { from = lit≤ tt; to = lit≤ tt }))) no_octets

null_twice : Value
null_twice = Value.rec (member (bytes "a") Value.null (member (bytes "a") Value.null no_members))

null_twice_good : GoodValue null_twice
unfolding null_twice
null_twice_good = good_rec (good_member name_a good_null (good_member name_a good_null good_no_members))

-- without distinct names plain JSON would not read back
pub repeated_name_does_not_read_back
    : ((l : Limits) (v : Value) → GoodValue v → size v ≤ l.values → nesting v ≤ l.nesting → read_json l (plain v) ≡ ok v) → ⊥
unfolding evaluate null_twice
repeated_name_does_not_read_back h = clash {n = 5} {p = 10} refl (h standard null_twice null_twice_good (lit≤ tt) (lit≤ tt))

-- a text that is no UTF-8 would not read back
pub broken_text_does_not_read_back
    : ((l : Limits) (v : Value) → distinct v ≡ true → size v ≤ l.values → nesting v ≤ l.nesting → read_json l (plain v) ≡ ok v) → ⊥
unfolding evaluate distinct
broken_text_does_not_read_back h =
    clash {n = 3} {p = 1} refl (h standard (Value.text (0xFF ∷ [])) refl (lit≤ tt) (lit≤ tt))

-- ---- demand 3

-- a call with room, and one whose output is a byte short of the 16 bytes of `(shape int dec)` and a line feed
ample : Bytes → Call
ample d = record { sample = d; output = replicate 30 0; lent = [] }

scant : Bytes → Call
scant d = record { sample = d; output = replicate 15 0; lent = [] }

-- in another order, with an output one byte shorter than the text reached, a sample is refused
pub short_output_loses_a_sample
    : ((calls others : List Call)
    → Reordered (accepted read_json [] standard calls start) (map (λ c. c.sample) others)
    → Each (λ c. length (reached read_json [] standard calls start) ≤ suc (length c.output)) others
    → accepted read_json [] standard others start ≡ map (λ c. c.sample) others)
    → ⊥
unfolding evaluate start accepted reached takes left_by infers ample scant
short_output_loses_a_sample h =
    false≢true
    (ap one_left
    (h (ample (bytes "1") ∷ ample (bytes "2.5") ∷ []) (ample (bytes "2.5") ∷ scant (bytes "1") ∷ []) swap_first
    (each_one (lit≤ tt) (each_one (lit≤ tt) each_none))))
  where
    one_left : List Bytes → Bool
    one_left [] = false
    one_left (x ∷ []) = false
    one_left (x ∷ y ∷ zs) = true

-- from a source with a refusal whose number is 0, the text reached is no shape text
unfoldable pub zero_source : Source
zero_source l document = refused 0 0

pub unnumbered_refusal_loses_the_shape
    : ((source : Source) → ((l : Limits) (document : Bytes) (v : Value) → source l document ≡ ok v → distinct v ≡ true)
    → (calls : List Call) → (s : Shape) × (read_shape standard (reached source [] standard calls start) ≡ ok s))
    → ⊥
unfolding evaluate start reached takes left_by infers ample zero_source
unnumbered_refusal_loses_the_shape h =
    clash {n = 7} {p = 0} refl (h zero_source (λ l d v e. absurd (clash refl e)) (ample [] ∷ [])).1

-- from a source that gives a name twice, the shape reached does not admit the sample
unfoldable pub twice_source : Source
twice_source l document = ok twice

pub repeated_name_is_not_admitted
    : ((source : Source) (calls : List Call) (s : Shape) (v : Value) (d : Bytes)
    → read_shape standard (reached source [] standard calls start) ≡ ok s
    → accepted source [] standard calls start ≡ d ∷ [] → source standard d ≡ ok v → admits s v ≡ true)
    → ⊥
unfolding evaluate start reached accepted takes left_by infers twice_source twice an_int int_shape with_a
repeated_name_is_not_admitted h =
    false≢true
    (h twice_source (record { sample = []; output = replicate 60 0; lent = [] } ∷ []) with_a twice [] refl refl refl)

-- every document is a record with one name, which is no UTF-8
unfoldable pub odd_source : Source
odd_source l document = ok (Value.rec (member (0xFF ∷ []) Value.null no_members))

pub odd_distinct : (l : Limits) (document : Bytes) (v : Value) → odd_source l document ≡ ok v → distinct v ≡ true
unfolding evaluate odd_source distinct
odd_distinct l document v e = subst DistinctOk e refl
  where
    DistinctOk : Outcome ℕ Value → Type 0
    DistinctOk (ok x) = distinct x ≡ true
    DistinctOk (refused n p) = Unit {0}

-- from a source whose names are distinct and no UTF-8, the text reached is no shape text
pub name_that_is_no_utf8_loses_the_shape
    : ((source : Source) → ((l : Limits) (document : Bytes) (v : Value) → source l document ≡ ok v → distinct v ≡ true)
    → (calls : List Call) → (s : Shape) × (read_shape standard (reached source [] standard calls start) ≡ ok s))
    → ⊥
unfolding evaluate start reached takes left_by infers ample odd_source
name_that_is_no_utf8_loses_the_shape h =
    clash {n = 7} {p = 20} refl (h odd_source odd_distinct (record { sample = []; output = replicate 60 0; lent = [] } ∷ [])).1

-- ---- an empty reader

spaces : (n : ℕ) → ws (replicate n 0x20) []
spaces zero = ws_none
spaces (suc n) = ws_more space (spaces n)

-- with one byte more than the text limit a blank reader would still have to come to what `(none)` does
pub long_blank_reader_is_too_long
    : ((l : Limits) (reader : Bytes) → ws reader [] → length reader ≤ suc l.bytes → (shape output : Bytes)
    → check_operation [] [] l reader shape output ≡ check_operation [] [] l (bytes "(none)") shape output)
    → ⊥
unfolding evaluate
long_blank_reader_is_too_long h =
    let e = ap (λ (d : Done). d.answer.number) (h standard (replicate 16385 0x20) (spaces 16385) (lit≤ tt) (bytes "(shape)") []) in
    let z : Path ℕ 2 15 = e in
    omega arith

-- ---- reading through null

unfoldable pub field_a : Result
field_a = Result.keep 0 (Place.field 6 (bytes "a") (Place.it 17 0))

-- not every check is what it was: it was 9 where the place has null
pub null_was_not_wanted : ((r : Result) (s : Shape) → check_reader r s ≡ old_check_reader r s) → ⊥
unfolding evaluate old_check_reader check_by check_place_by old_field_shape field_a int_shape with_a
null_was_not_wanted h = clash {n = 9} {p = 6} (h field_a (with_null with_a)) refl

-- not every run: it was stuck on null
pub null_was_not_read : ((r : Result) (l : Limits) (v : Value) → run_reader r l v ≡ old_run_reader r l v) → ⊥
unfolding evaluate old_run_reader run_by run_place_by old_field_value field_a
null_was_not_read h = clash {n = 12} {p = 6} (h field_a standard Value.null) refl

-- ---- what a new sample does

-- a rec whose a is a text
other_a : Shape
other_a = only_rec (rec_of (field (bytes "a") only_text no_fields))

-- of two shapes, neither below the other, a reader that passes against both may have results that are not ordered either way
pub unordered_shapes_give_unordered_results
    : ((r : Result) (s t u w : Shape) → ascending s ≡ true → ascending t ≡ true → below s t ≡ false → below t s ≡ false
    → check_reader r s ≡ ok u → check_reader r t ≡ ok w → (below u w ≡ true) ⊎ (below w u ≡ true))
    → ⊥
unfolding evaluate field_a with_a other_a int_shape
unordered_shapes_give_unordered_results h = by (h field_a with_a other_a int_shape only_text refl refl refl refl refl refl)
  where
    by : (below int_shape only_text ≡ true) ⊎ (below only_text int_shape ≡ true) → ⊥
    by (inl e) = false≢true e
    by (inr e) = false≢true e

-- (each (it 0) (int (field "a" (it 0))))
each_a : Result
each_a = Result.each 0 (Place.it 6 0) (Result.convert 13 Conversion.to_int (Place.field 18 (bytes "a") (Place.it 29 0)))

-- with the order turned round a reader would be lost by 10: below a list of records it meets the empty list's nothing
pub name_not_listed_below
    : ((r : Result) (s t u : Shape) (n p : ℕ) → ascending s ≡ true → ascending t ≡ true → below t s ≡ true → check_reader r s ≡ ok u
    → check_reader r t ≡ refused n p → n ≡ 9)
    → ⊥
unfolding evaluate each_a with_a int_shape
name_not_listed_below h =
    let z : Path ℕ 10 9 = h each_a (only_list (list_of with_a)) (only_list (list_of nothing)) (only_list (list_of int_shape)) 10 18 refl refl refl refl refl in
    omega arith

-- a reader that did not pass against the lower may be 10 against the higher: neither lists the name
pub name_listed_by_neither
    : ((r : Result) (s t : Shape) (n p : ℕ) → ascending s ≡ true → ascending t ≡ true → below s t ≡ true → check_reader r t ≡ refused n p
    → n ≡ 9)
    → ⊥
unfolding evaluate field_a
name_listed_by_neither h =
    let z : Path ℕ 10 9 = h field_a (only_rec (rec_of no_fields)) (only_rec (rec_of no_fields)) 10 6 refl refl refl refl in omega arith

-- (if (yes) (keep (it 0)) (keep (it 0)))
either_way : Result
either_way = Result.choose 0 (Result.literal 4 (Value.bool true)) (Result.keep 10 (Place.it 16 0)) (Result.keep 24 (Place.it 30 0))

-- b before a, and a before b
b_first : Shape
b_first = only_rec (rec_of (field (bytes "b") only_text (field (bytes "a") int_shape no_fields)))

a_first : Shape
a_first = only_rec (rec_of (field (bytes "a") int_shape (field (bytes "b") only_text no_fields)))

-- without sorted names the join of a shape with itself would have a member twice, the first with null
pub unsorted_shape_narrows
    : ((r : Result) (s t u w : Shape) → ascending t ≡ true → below s t ≡ true → check_reader r s ≡ ok u → check_reader r t ≡ ok w
    → below u w ≡ true)
    → ⊥
unfolding evaluate either_way b_first a_first int_shape
unsorted_shape_narrows h = false≢true (h either_way b_first a_first (join b_first b_first) a_first refl refl refl refl)
