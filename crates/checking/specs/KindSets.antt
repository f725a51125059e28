-- Sets of kinds as bits: those that pass a test, those of a shape, and what is left of them behind `when`. Assumes nothing.
use Rattle.std.specs.Prelude.{ℕ, ◌+◌, ◌*◌, ◌<◌, ◌≡◌, refl, Bool, true, false, not, ◌&&◌, ◌||◌, List, eqb}
use Rattle.std.proofs.Common.{sym, ap, ap₂, ◌∙◌, arith}
use Rattle.laws.specs.Bools.{bool_eq, clash}
use Rattle.laws.specs.Tests.{eqb_eq, eq-eqb, ne_eqb}
use Rattle.std.specs.Int.Bits.{bit_and}
use Rattle.std.proofs.lemmas.Nat.{and_block}
use Rattle.definitions.specs.Shape.{Kind, among, Numeric, no_number, int_only, int_and_dec, Shape, shape, Element, no_list, list_of}
use Rattle.definitions.specs.Shape.{Record, Fields, no_rec, rec_of, has, has_int, has_dec, has_list}
use Rattle.definitions.specs.Shape.{has_rec, within, every, all_kinds, rank, element_of, record_of}
use Rattle.definitions.specs.Reader.{Test}
use Rattle.definitions.specs.Checking.{gain_null, test_kinds, stay, stay_numeric, stay_element, stay_record, cut_to, taken_out}
use Rattle.shapes.specs.Shapes.{bit, kind_bits}
use Rattle.shapes.specs.ShapesLaws.{numeric_sum}
use Rattle.forms.specs.Forms.{test_code}

-- ---- the bits of a set

-- the bits of the kinds that pass a test, the first kind's first
unfoldable pub flags : (Kind → Bool) → ℕ
flags f =
    bit (f Kind.null)
    + 2 * (bit (f Kind.bool)
    + 2 * (bit (f Kind.int)
    + 2 * (bit (f Kind.dec) + 2 * (bit (f Kind.text) + 2 * (bit (f Kind.list) + 2 * bit (f Kind.rec))))))

-- those of a shape
pub kinds_flags : (s : Shape) → kind_bits s ≡ flags (λ k. has k s)
unfolding kind_bits flags has
kinds_flags (shape n b m t e r) = omega (arith, numeric_sum m)

-- ---- two sets

and_two : (a b : Bool) → bit_and (bit a) (bit b) ≡ bit (a && b)
unfolding bit
and_two true true = refl
and_two true false = refl
and_two false true = refl
and_two false false = refl

bit_lt : (a : Bool) → bit a < 2
unfolding bit
bit_lt true = omega arith
bit_lt false = omega arith

-- the first bit apart from those behind it
and_step : (a b : Bool) (x y : ℕ) → bit_and (bit a + 2 * x) (bit b + 2 * y) ≡ bit (a && b) + 2 * bit_and x y
and_step a b x y =
    ap₂
    (λ (u v : ℕ). bit_and u v)
    (let g : bit a + 2 * x ≡ x * 2 + bit a = omega arith in g)
    (let g : bit b + 2 * y ≡ y * 2 + bit b = omega arith in g)
    ∙ and_block 1 x y (bit a) (bit b) (bit_lt a) (bit_lt b)
    ∙ ap (λ (u : ℕ). bit_and x y * 2 + u) (and_two a b)
    ∙ omega arith

-- what is in both
pub flags_and : (f g : Kind → Bool) → bit_and (flags f) (flags g) ≡ flags (λ k. f k && g k)
unfolding flags
flags_and f g =
    and_step (f Kind.null) (g Kind.null) _ _
    ∙ ap (λ (x : ℕ). bit (f Kind.null && g Kind.null) + 2 * x)
    (and_step (f Kind.bool) (g Kind.bool) _ _
    ∙ ap (λ (x : ℕ). bit (f Kind.bool && g Kind.bool) + 2 * x)
    (and_step (f Kind.int) (g Kind.int) _ _
    ∙ ap (λ (x : ℕ). bit (f Kind.int && g Kind.int) + 2 * x)
    (and_step (f Kind.dec) (g Kind.dec) _ _
    ∙ ap (λ (x : ℕ). bit (f Kind.dec && g Kind.dec) + 2 * x)
    (and_step (f Kind.text) (g Kind.text) _ _
    ∙ ap (λ (x : ℕ). bit (f Kind.text && g Kind.text) + 2 * x)
    (and_step (f Kind.list) (g Kind.list) _ _
    ∙ ap (λ (x : ℕ). bit (f Kind.list && g Kind.list) + 2 * x) (and_two (f Kind.rec) (g Kind.rec)))))))

-- ---- a set within another

pub eqb_same : (m n x y : ℕ) → (m ≡ n → x ≡ y) → (x ≡ y → m ≡ n) → eqb m n ≡ eqb x y
eqb_same m n x y f g = bool_eq (eqb m n) (eqb x y) (λ e. eq-eqb (f (eqb_eq e))) (λ e. eq-eqb (g (eqb_eq e)))

-- the first bit of a set is in another, and those behind it
first_in : (a b : Bool) (z x : ℕ) → eqb (bit (a && b) + 2 * z) (bit a + 2 * x) ≡ ((not a || b) && eqb z x)
unfolding bit
first_in true true z x = eqb_same (1 + 2 * z) (1 + 2 * x) z x (λ e. omega arith) (λ e. omega arith)
first_in true false z x = ne_eqb {m = 0 + 2 * z} {n = 1 + 2 * x} (λ e. omega arith)
first_in false true z x = eqb_same (0 + 2 * z) (0 + 2 * x) z x (λ e. omega arith) (λ e. omega arith)
first_in false false z x = eqb_same (0 + 2 * z) (0 + 2 * x) z x (λ e. omega arith) (λ e. omega arith)

last_in : (a b : Bool) → eqb (bit (a && b)) (bit a) ≡ ((not a || b) && true)
unfolding bit
last_in true true = refl
last_in true false = refl
last_in false true = refl
last_in false false = refl

each_in
    : (f g : Kind → Bool) → eqb (flags (λ k. f k && g k)) (flags f) ≡ every (λ k. not (f k) || g k) all_kinds
unfolding flags every all_kinds
each_in f g =
    first_in (f Kind.null) (g Kind.null) _ _
    ∙ ap (λ (x : Bool). (not (f Kind.null) || g Kind.null) && x)
    (first_in (f Kind.bool) (g Kind.bool) _ _
    ∙ ap (λ (x : Bool). (not (f Kind.bool) || g Kind.bool) && x)
    (first_in (f Kind.int) (g Kind.int) _ _
    ∙ ap (λ (x : Bool). (not (f Kind.int) || g Kind.int) && x)
    (first_in (f Kind.dec) (g Kind.dec) _ _
    ∙ ap (λ (x : Bool). (not (f Kind.dec) || g Kind.dec) && x)
    (first_in (f Kind.text) (g Kind.text) _ _
    ∙ ap (λ (x : Bool). (not (f Kind.text) || g Kind.text) && x)
    (first_in (f Kind.list) (g Kind.list) _ _
    ∙ ap (λ (x : Bool). (not (f Kind.list) || g Kind.list) && x) (last_in (f Kind.rec) (g Kind.rec)))))))

flags_within : (f g : Kind → Bool) → eqb (bit_and (flags f) (flags g)) (flags f) ≡ every (λ k. not (f k) || g k) all_kinds
flags_within f g = ap (λ (x : ℕ). eqb x (flags f)) (flags_and f g) ∙ each_in f g

-- whether a shape's kinds are among some
pub within_bits : (ks : List Kind) (s : Shape) → eqb (bit_and (kind_bits s) (flags (λ k. among k ks))) (kind_bits s) ≡ within ks s
unfolding within
within_bits ks s =
    ap (λ (x : ℕ). eqb (bit_and x (flags (λ k. among k ks))) x) (kinds_flags s) ∙ flags_within (λ k. has k s) (λ k. among k ks)

-- ---- the kinds that stay

-- where dec stays alone, it isn't there
abbrev Stays : (Kind → Bool) → Shape → Type 0
Stays kept s = (not (kept Kind.dec) || (kept Kind.int || not (has Kind.dec s))) ≡ true

stay_int : (i d : Bool) (m : Numeric) → (not d || (i || not (has_dec m))) ≡ true → has_int (stay_numeric i d m) ≡ (has_int m && i)
unfolding stay_numeric has_int has_dec
stay_int true true no_number h = refl
stay_int true true int_only h = refl
stay_int true true int_and_dec h = refl
stay_int true false no_number h = refl
stay_int true false int_only h = refl
stay_int true false int_and_dec h = refl
stay_int false true no_number h = refl
stay_int false true int_only h = refl
stay_int false true int_and_dec h = clash {b = false} h refl
stay_int false false no_number h = refl
stay_int false false int_only h = refl
stay_int false false int_and_dec h = refl

stay_dec : (i d : Bool) (m : Numeric) → (not d || (i || not (has_dec m))) ≡ true → has_dec (stay_numeric i d m) ≡ (has_dec m && d)
unfolding stay_numeric has_int has_dec
stay_dec true true no_number h = refl
stay_dec true true int_only h = refl
stay_dec true true int_and_dec h = refl
stay_dec true false no_number h = refl
stay_dec true false int_only h = refl
stay_dec true false int_and_dec h = refl
stay_dec false true no_number h = refl
stay_dec false true int_only h = refl
stay_dec false true int_and_dec h = refl
stay_dec false false no_number h = refl
stay_dec false false int_only h = refl
stay_dec false false int_and_dec h = refl

swap : (a b : Bool) → (a && b) ≡ (b && a)
swap true true = refl
swap true false = refl
swap false true = refl
swap false false = refl

stay_list : (q : Bool) (e : Element) → has_list (stay_element q e) ≡ (has_list e && q)
unfolding stay_element has_list
stay_list true no_list = refl
stay_list true (list_of a) = refl
stay_list false no_list = refl
stay_list false (list_of a) = refl

stay_rec : (q : Bool) (r : Record) → has_rec (stay_record q r) ≡ (has_rec r && q)
unfolding stay_record has_rec
stay_rec true no_rec = refl
stay_rec true (rec_of fs) = refl
stay_rec false no_rec = refl
stay_rec false (rec_of fs) = refl

stay_has : (kept : Kind → Bool) (s : Shape) → Stays kept s → (j : Kind) → has j (stay kept s) ≡ (has j s && kept j)
unfolding stay has
stay_has kept (shape n b m t e r) h Kind.null = swap (kept Kind.null) n
stay_has kept (shape n b m t e r) h Kind.bool = swap (kept Kind.bool) b
stay_has kept (shape n b m t e r) h Kind.int = stay_int (kept Kind.int) (kept Kind.dec) m h
stay_has kept (shape n b m t e r) h Kind.dec = stay_dec (kept Kind.int) (kept Kind.dec) m h
stay_has kept (shape n b m t e r) h Kind.text = swap (kept Kind.text) t
stay_has kept (shape n b m t e r) h Kind.list = stay_list (kept Kind.list) e
stay_has kept (shape n b m t e r) h Kind.rec = stay_rec (kept Kind.rec) r

flags_same : (f g : Kind → Bool) → ((k : Kind) → f k ≡ g k) → flags f ≡ flags g
unfolding flags
flags_same f g h =
    omega (
      arith,
      ap bit (h Kind.null),
      ap bit (h Kind.bool),
      ap bit (h Kind.int),
      ap bit (h Kind.dec),
      ap bit (h Kind.text),
      ap bit (h Kind.list),
      ap bit (h Kind.rec),
    )

stay_bits : (kept : Kind → Bool) (s : Shape) → Stays kept s → kind_bits (stay kept s) ≡ bit_and (kind_bits s) (flags kept)
stay_bits kept s h =
    kinds_flags (stay kept s)
    ∙ flags_same (λ j. has j (stay kept s)) (λ j. has j s && kept j) (stay_has kept s h)
    ∙ sym (ap (λ (x : ℕ). bit_and x (flags kept)) (kinds_flags s) ∙ flags_and (λ j. has j s) kept)

-- the bits of K's kinds, and of those that aren't K's
abbrev pub test_flags : Test → ℕ
test_flags k = flags (λ j. among j (test_kinds k))

abbrev pub other_flags : Test → ℕ
other_flags k = flags (λ j. not (among j (test_kinds k)))

cut_stays : (k : Test) (s : Shape) → Stays (λ j. among j (test_kinds k)) s
unfolding among rank test_kinds
cut_stays Test.null s = refl
cut_stays Test.bool s = refl
cut_stays Test.int s = refl
cut_stays Test.num s = refl
cut_stays Test.text s = refl
cut_stays Test.list s = refl
cut_stays Test.rec s = refl

pub cut_bits : (k : Test) (s : Shape) → kind_bits (cut_to k s) ≡ bit_and (kind_bits s) (test_flags k)
unfolding cut_to
cut_bits k s = stay_bits (λ j. among j (test_kinds k)) s (cut_stays k s)

out_stays : (k : Test) (s : Shape) → (k ≡ Test.int → has Kind.dec s ≡ false) → Stays (λ j. not (among j (test_kinds k))) s
unfolding among rank test_kinds
out_stays Test.null s h = refl
out_stays Test.bool s h = refl
out_stays Test.int s h = ap not (h refl)
out_stays Test.num s h = refl
out_stays Test.text s h = refl
out_stays Test.list s h = refl
out_stays Test.rec s h = refl

-- "K's kinds taken out"
pub out_bits
    : (k : Test) (s : Shape) → (k ≡ Test.int → has Kind.dec s ≡ false)
    → kind_bits (taken_out k s) ≡ bit_and (kind_bits s) (other_flags k)
unfolding taken_out
out_bits k s h = stay_bits (λ j. not (among j (test_kinds k))) s (out_stays k s h)

-- "except that taking out int leaves int and dec where dec is there"
pub int_of_decimals : (s : Shape) → has Kind.dec s ≡ true → taken_out Test.int s ≡ s
unfolding taken_out stay among rank test_kinds stay_numeric stay_element stay_record has has_dec
int_of_decimals (shape n b no_number t e r) h = clash {b = false} h refl
int_of_decimals (shape n b int_only t e r) h = clash {b = false} h refl
int_of_decimals (shape n b int_and_dec t e r) h = refl

-- ---- the parts that stay

element_stays : (q : Bool) (e : Element) (a : Shape) → stay_element q e ≡ list_of a → e ≡ list_of a
unfolding stay_element has_list
element_stays true e a h = h
element_stays false e a h = clash {b = false} (ap has_list h) refl

pub stay_element_of : (kept : Kind → Bool) (s a : Shape) → element_of (stay kept s) ≡ list_of a → element_of s ≡ list_of a
unfolding stay element_of
stay_element_of kept (shape n b m t e r) a h = element_stays (kept Kind.list) e a h

record_stays : (q : Bool) (r : Record) (fs : Fields) → stay_record q r ≡ rec_of fs → r ≡ rec_of fs
unfolding stay_record has_rec
record_stays true r fs h = h
record_stays false r fs h = clash {b = false} (ap has_rec h) refl

pub stay_record_of : (kept : Kind → Bool) (s : Shape) (fs : Fields) → record_of (stay kept s) ≡ rec_of fs → record_of s ≡ rec_of fs
unfolding stay record_of
stay_record_of kept (shape n b m t e r) fs h = record_stays (kept Kind.rec) r fs h

-- ---- what is told of kinds

abbrev pub TellsTest : (test r : ℕ) → Type 0
TellsTest test r = (k : Test) → test ≡ test_code k → r ≡ test_flags k

abbrev pub TellsCut : (kinds test r : ℕ) → Type 0
TellsCut kinds test r = (k : Test) (s : Shape) → test ≡ test_code k → kinds ≡ kind_bits s → r ≡ kind_bits (cut_to k s)

abbrev pub TellsOut : (kinds test r : ℕ) → Type 0
TellsOut kinds test r = (k : Test) (s : Shape) → test ≡ test_code k → kinds ≡ kind_bits s → r ≡ kind_bits (taken_out k s)

abbrev pub TellsGain : (kinds place r : ℕ) → Type 0
TellsGain kinds place r = (s t : Shape) → kinds ≡ kind_bits t → place ≡ kind_bits s → r ≡ kind_bits (gain_null (has Kind.null s) t)
