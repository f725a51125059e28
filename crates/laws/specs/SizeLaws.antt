-- A shape above another has at least as many forms, is nested at least as deep, and has at least as long a text.
-- Assumes nothing.
use Rattle.std.specs.Prelude.{ℕ, suc, ◌≤◌, ◌≡◌, refl, Bool, true, false, List, [], ◌∷◌, ◌++◌, length}
use Rattle.std.proofs.Common.{zero-le, length-append, le_refl, add-le-add, arith}
use Rattle.std.proofs.lemmas.Bool.{false≢true}
use Rattle.definitions.specs.Bytes.{Bytes, bytes}
use Rattle.definitions.specs.Shape.{Kind, all_kinds, Shape, shape, has, element_of, record_of, ascending, forms, forms_element}
use Rattle.definitions.specs.Shape.{forms_record, forms_fields, levels, levels_element, levels_record, levels_fields}
use Rattle.definitions.specs.Order.{below}
use Rattle.definitions.specs.ShapeText.{kind_name, write_kinds, write, write_element, write_record, write_fields, write_shape}
use Rattle.laws.specs.OrderParts.{Kinds}
use Rattle.laws.specs.SizeEmbeds.{Growing, size_mono}

-- ---- forms

forms_shapes
    : (s t : Shape) → forms_element (element_of s) ≤ forms_element (element_of t)
    → forms_record (record_of s) ≤ forms_record (record_of t) → forms s ≤ forms t
unfolding forms element_of record_of
forms_shapes (shape n b m t e r) (shape n' b' m' t' e' r') p q = omega arith

forms_growing : Growing (λ d. forms) (λ d. forms_element) (λ d. forms_record) (λ d. forms_fields)
unfolding forms
forms_growing =
    record {
      shapes = λ d s t f p q. forms_shapes s t p q;
      no_element = λ d e. zero-le;
      elements = λ d a b h. h;
      no_record = λ d r. zero-le;
      records = λ d fs gs h. h;
      no_members = λ d gs. zero-le;
      one_more = λ d n b gs. omega arith;
      members = λ d n a b fs gs h i. add-le-add h i;
    }

pub forms_mono : (s t : Shape) → ascending s ≡ true → ascending t ≡ true → below s t ≡ true → forms s ≤ forms t
forms_mono s t i j h =
    size_mono (λ d. forms) (λ d. forms_element) (λ d. forms_record) (λ d. forms_fields) forms_growing s t i j h 0

-- ---- levels

levels_shapes
    : (s t : Shape) → levels_element (element_of s) ≤ levels_element (element_of t)
    → levels_record (record_of s) ≤ levels_record (record_of t) → levels s ≤ levels t
unfolding levels element_of record_of
levels_shapes (shape n b m t e r) (shape n' b' m' t' e' r') p q = omega arith

levels_growing : Growing (λ d. levels) (λ d. levels_element) (λ d. levels_record) (λ d. levels_fields)
unfolding levels
levels_growing =
    record {
      shapes = λ d s t f p q. levels_shapes s t p q;
      no_element = λ d e. zero-le;
      elements = λ d a b h. h;
      no_record = λ d r. zero-le;
      records = λ d fs gs h. h;
      no_members = λ d gs. zero-le;
      one_more = λ d n b gs. omega arith;
      members = λ d n a b fs gs h i. omega arith;
    }

pub levels_mono : (s t : Shape) → ascending s ≡ true → ascending t ≡ true → below s t ≡ true → levels s ≤ levels t
levels_mono s t i j h =
    size_mono (λ d. levels) (λ d. levels_element) (λ d. levels_record) (λ d. levels_fields) levels_growing s t i j h 0

-- ---- texts

-- one kind's word, where the shape has the kind
kind_word : Bool → Kind → Bytes
kind_word x k = elim x [ true ↦ bytes " " ++ kind_name k | false ↦ [] ]

word_grows : (x y : Bool) (k : Kind) → (x ≡ true → y ≡ true) → length (kind_word x k) ≤ length (kind_word y k)
unfolding kind_word
word_grows false y k f = zero-le
word_grows true false k f = absurd (false≢true (f refl))
word_grows true true k f = le_refl (length (bytes " " ++ kind_name k))

kinds_grow : (s t : Shape) → Kinds s t → (ks : List Kind) → length (write_kinds s ks) ≤ length (write_kinds t ks)
unfolding write_kinds kind_word
kinds_grow s t f [] = zero-le
kinds_grow s t f (k ∷ ks) =
    rw
    (length-append (kind_word (has k s) k) (write_kinds s ks), length-append (kind_word (has k t) k) (write_kinds t ks))
    (add-le-add (word_grows (has k s) (has k t) k (f k)) (kinds_grow s t f ks))

write_shapes
    : (d : ℕ) (s t : Shape) → Kinds s t
    → length (write_element (element_of s) (suc d)) ≤ length (write_element (element_of t) (suc d))
    → length (write_record (record_of s) (suc d)) ≤ length (write_record (record_of t) (suc d))
    → length (write s d) ≤ length (write t d)
unfolding write element_of record_of
write_shapes d (shape n b m t e r) (shape n' b' m' t' e' r') f p q =
    let k
    : length (write_kinds (shape n b m t e r) all_kinds) ≤ length (write_kinds (shape n' b' m' t' e' r') all_kinds)
    = kinds_grow (shape n b m t e r) (shape n' b' m' t' e' r') f all_kinds in
    simp length-append (omega arith)

write_growing
    : Growing
    (λ d s. length (write s d))
    (λ d e. length (write_element e d))
    (λ d r. length (write_record r d))
    (λ d fs. length (write_fields fs d))
unfolding write
write_growing =
    record {
      shapes = write_shapes;
      no_element = λ d e. zero-le;
      elements = λ d a b h. simp length-append (omega arith);
      no_record = λ d r. zero-le;
      records = λ d fs gs h. h;
      no_members = λ d gs. zero-le;
      one_more = λ d n b gs. simp length-append (omega arith);
      members = λ d n a b fs gs h i. simp length-append (omega arith);
    }

-- a shape's form, with so many forms around it
pub write_form_mono
    : (s t : Shape) → ascending s ≡ true → ascending t ≡ true → below s t ≡ true → (d : ℕ)
    → length (write s d) ≤ length (write t d)
write_form_mono =
    size_mono
    (λ d s. length (write s d))
    (λ d e. length (write_element e d))
    (λ d r. length (write_record r d))
    (λ d fs. length (write_fields fs d))
    write_growing

pub write_mono
    : (s t : Shape) → ascending s ≡ true → ascending t ≡ true → below s t ≡ true
    → length (write_shape s) ≤ length (write_shape t)
unfolding write_shape
write_mono s t i j h = let k : length (write s 0) ≤ length (write t 0) = write_form_mono s t i j h 0 in simp length-append (omega arith)
