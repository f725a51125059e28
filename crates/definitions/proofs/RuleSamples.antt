-- Rows of check and run at rules that no sample of the sheet reaches, of the numbers that request Q-5 calls ints, and of checks behind a further
-- sample, proved by evaluation. Assumes nothing.
use Rattle.std.specs.Prelude.{ℕ, ◌≡◌, refl, true, false, [], ◌++◌, length, take, drop, replicate}
use Prim.Native.String.{String}
use Rattle.definitions.specs.declared.Limits.{Limits}
use Rattle.definitions.specs.Limits.{standard, smallest}
use Rattle.definitions.specs.Bytes.{Bytes, bytes}
use Rattle.definitions.specs.Json.{read_json}
use Rattle.definitions.specs.Operations.{Done, refusal, written, said, plain_operation, infer_operation, below_operation}
use Rattle.definitions.specs.Operations.{admits_operation, check_operation, run_operation}
use Rattle.definitions.specs.Evaluate.{evaluate}

abbrev room : Bytes
room = replicate 300 0xA5

abbrev plain : String → Done
plain document = plain_operation read_json [] [] standard (bytes document) room

abbrev infer : String → Done
infer document = infer_operation read_json [] [] standard (bytes "(shape)") (bytes document) room

abbrev check : String → String → Done
check reader shape = check_operation [] [] standard (bytes reader) (bytes shape) room

abbrev run : Limits → String → String → Done
run l reader document = run_operation read_json [] [] l (bytes reader) (bytes document) room

abbrev writes : String → (steps : ℕ) → Done
writes t n = record { answer = written (length (bytes t)) n false; output = bytes t ++ drop (length (bytes t)) room }

abbrev refuses : (number place : ℕ) → Done
refuses n p = record { answer = refusal n 1 p; output = room }

-- ---- checking

-- "at one form 9 before 10": an int is neither rec nor null, and a isn't listed
nine_before_ten : check "(keep (field \"a\" (it 0)))" "(shape int rec (member \"b\" (shape int)))" ≡ refuses 9 6
unfolding evaluate
nine_before_ten = refl

name_not_listed : check "(keep (field \"b\" (it 0)))" "(shape rec (member \"a\" (shape int)))" ≡ refuses 10 6
unfolding evaluate
name_not_listed = refl

-- request Q-2: null is wanted, and "a name that isn't listed still meets 10", on null alone too
not_listed_on_null : check "(keep (field \"a\" (it 0)))" "(shape null)" ≡ refuses 10 6
unfolding evaluate
not_listed_on_null = refl

-- request Q-2: a motor that was null in some samples is read through, and its members gain null
listed_through_null
    : check "(keep (field \"rpm\" (field \"motor\" (it 0))))" "(shape rec (member \"motor\" (shape null rec (member \"rpm\" (shape int)))))"
    ≡ writes "(shape null int)\n" 0
unfolding evaluate
listed_through_null = refl

-- one that was null in every sample lists no member
unlisted_through_null
    : check "(keep (field \"rpm\" (field \"motor\" (it 0))))" "(shape rec (member \"motor\" (shape null)))" ≡ refuses 10 6
unfolding evaluate
unlisted_through_null = refl

-- nothing gains null too
nothing_gains_null : check "(keep (field \"a\" (it 0)))" "(shape null rec (member \"a\" (shape)))" ≡ writes "(shape null)\n" 0
unfolding evaluate
nothing_gains_null = refl

-- where the place has no null, none is gained
no_null_gained : check "(keep (field \"a\" (it 0)))" "(shape rec (member \"a\" (shape int)))" ≡ writes "(shape int)\n" 0
unfolding evaluate
no_null_gained = refl

-- no other kind is let through
text_has_no_member : check "(keep (field \"a\" (it 0)))" "(shape null text rec (member \"a\" (shape int)))" ≡ refuses 9 6
unfolding evaluate
text_has_no_member = refl

-- a part that is refused stops the form before its own kinds are judged: the list of `each` is none here
part_before_form : check "(each (it 0) (int (it 1)))" "(shape text)" ≡ refuses 9 13
unfolding evaluate
part_before_form = refl

-- both branches are checked, and their join is the result
both_branches : check "(when null (it 0) (num 0) (text (it 0)))" "(shape null text)" ≡ writes "(shape int text)\n" 0
unfolding evaluate
both_branches = refl

-- ---- request Q-13: "A case where it no longer passes belongs in the samples."

-- the bytes that a call wrote
abbrev wrote : Done → Bytes
wrote d = take d.answer.length d.output

-- the shape text that a sample leaves behind another
abbrev after : Limits → Bytes → String → Bytes
after l shape document = wrote (infer_operation read_json [] [] l shape (bytes document) room)

abbrev one_bay : Bytes
one_bay = after standard (bytes "(shape)\n") "{\"bay\":4}"

abbrev two_bays : Bytes
two_bays = after standard one_bay "{\"bay\":4.5}"

-- `(int (field "bay" (it 0)))` passes after the first sample, and after the second its bay may be a decimal
int_passes : check_operation [] [] standard (bytes "(int (field \"bay\" (it 0)))") one_bay room ≡ writes "(shape int)\n" 0
unfolding evaluate
int_passes = refl

int_no_longer_passes : check_operation [] [] standard (bytes "(int (field \"bay\" (it 0)))") two_bays room ≡ refuses 9 0
unfolding evaluate
int_no_longer_passes = refl

-- `keep` passes after both, and its result is wider behind the second
keep_passes : check_operation [] [] standard (bytes "(keep (field \"bay\" (it 0)))") one_bay room ≡ writes "(shape int)\n" 0
unfolding evaluate
keep_passes = refl

keep_is_widened : check_operation [] [] standard (bytes "(keep (field \"bay\" (it 0)))") two_bays room ≡ writes "(shape int dec)\n" 0
unfolding evaluate
keep_is_widened = refl

widened_is_above : below_operation [] [] standard (bytes "(shape int)\n") (bytes "(shape int dec)\n") ≡ said true
unfolding evaluate
widened_is_above = refl

widened_is_not_below : below_operation [] [] standard (bytes "(shape int dec)\n") (bytes "(shape int)\n") ≡ said false
unfolding evaluate
widened_is_not_below = refl

-- S9's reader passes where no decimal was seen; behind one it is 9 at 23, as the sheet has it
nine_at_23_passes : check "(when int (it 0) (yes) (int (it 0)))" "(shape int)" ≡ writes "(shape bool int)\n" 0
unfolding evaluate
nine_at_23_passes = refl

-- at nesting 4 a reader that packs twice passes after 4, and its result is too deep once a sample was a list in a list
abbrev a_number : Bytes
a_number = after smallest (bytes "(shape)\n") "4"

packed_passes
    : check_operation [] [] smallest (bytes "(pack \"a\" (pack \"b\" (keep (it 0))))") a_number room
    ≡ writes "(shape rec\n (member \"a\"\n  (shape rec\n   (member \"b\"\n    (shape int)))))\n" 0
unfolding evaluate
packed_passes = refl

packed_too_deep
    : check_operation [] [] smallest (bytes "(pack \"a\" (pack \"b\" (keep (it 0))))") (after smallest a_number "[[]]") room
    ≡ record { answer = refusal 11 0 0; output = room }
unfolding evaluate
packed_too_deep = refl

-- ---- running

-- "int: no decimal; num: int or decimal"
int_is_an_int : run standard "(when int (it 0) (yes) (no))" "4" ≡ writes "true" 3
unfolding evaluate
int_is_an_int = refl

decimal_is_no_int : run standard "(when int (it 0) (yes) (no))" "4.5" ≡ writes "false" 3
unfolding evaluate
decimal_is_no_int = refl

decimal_is_a_num : run standard "(when num (it 0) (yes) (no))" "4.5" ≡ writes "true" 3
unfolding evaluate
decimal_is_a_num = refl

-- request Q-2: "On null it reads null", in the steps that a record takes
reads_through_null : run standard "(keep (field \"rpm\" (field \"motor\" (it 0))))" "{\"motor\":null}" ≡ writes "null" 4
unfolding evaluate
reads_through_null = refl

reads_through_record : run standard "(keep (field \"rpm\" (field \"motor\" (it 0))))" "{\"motor\":{\"rpm\":60}}" ≡ writes "60" 4
unfolding evaluate
reads_through_record = refl

-- a missing member is null, and read through alike
reads_through_missing : run standard "(keep (field \"b\" (field \"a\" (it 0))))" "{}" ≡ writes "null" 4
unfolding evaluate
reads_through_missing = refl

-- any other kind is stuck, at its field
stuck_on_text : run standard "(keep (field \"b\" (field \"a\" (it 0))))" "{\"a\":\"t\"}" ≡ refuses 12 6
unfolding evaluate
stuck_on_text = refl

-- `each` is stuck behind P and before any R
each_before_its_result : run standard "(each (it 0) (int (it 1)))" "\"t\"" ≡ refuses 12 0
unfolding evaluate
each_before_its_result = refl

-- ---- request Q-5: "a number whose fraction digits are all zero is an int"

-- "This goes for shapes": a fraction of zeros alone is no reason for dec
ints_have_int : infer "[12.0, 12]" ≡ writes "(shape list\n (shape int))\n" 0
unfolding evaluate
ints_have_int = refl

decimals_have_both : infer "[12.0, 12.5, 12]" ≡ writes "(shape list\n (shape int dec))\n" 0
unfolding evaluate
decimals_have_both = refl

-- one digit that is no zero makes a decimal, wherever it stands among them
last_digit_counts : infer "12.000000001" ≡ writes "(shape int dec)\n" 0
unfolding evaluate
last_digit_counts = refl

first_digit_counts : infer "12.500000000" ≡ writes "(shape int dec)\n" 0
unfolding evaluate
first_digit_counts = refl

-- "admitting"
int_admits_zeros : admits_operation read_json [] [] standard (bytes "(shape int)") (bytes "12.0") ≡ said true
unfolding evaluate
int_admits_zeros = refl

int_admits_no_decimal : admits_operation read_json [] [] standard (bytes "(shape int)") (bytes "12.50") ≡ said false
unfolding evaluate
int_admits_no_decimal = refl

-- "`when int`": the value that it binds has its fraction
when_int_takes_zeros : run standard "(when int (it 0) (keep (it 0)) (no))" "12.0" ≡ writes "12.0" 4
unfolding evaluate
when_int_takes_zeros = refl

-- "and the int conversion, which writes it without fraction"
int_without_fraction : run standard "(int (it 0))" "12.0" ≡ writes "12" 2
unfolding evaluate
int_without_fraction = refl

int_of_zero : run standard "(int (it 0))" "-0.0" ≡ writes "0" 2
unfolding evaluate
int_of_zero = refl

int_with_its_sign : run standard "(int (it 0))" "-10.00" ≡ writes "-10" 2
unfolding evaluate
int_with_its_sign = refl

no_int_of_a_decimal : run standard "(int (it 0))" "12.50" ≡ refuses 12 0
unfolding evaluate
no_int_of_a_decimal = refl

-- the three numbers, each by its kind
ints_and_decimals
    : run standard "(each (it 0) (when int (it 0) (int (it 0)) (dec (it 0))))" "[12.0, 12.5, 12]" ≡ writes "[12,12.5,12]" 14
unfolding evaluate
ints_and_decimals = refl

-- "Plain JSON keeps its spelling", and so do the other forms
spelling_kept : plain "[12.0, 12.5, 12]" ≡ writes "[12.0,12.5,12]" 0
unfolding evaluate
spelling_kept = refl

dec_keeps_zeros : run standard "(dec (it 0))" "12.0" ≡ writes "12.0" 2
unfolding evaluate
dec_keeps_zeros = refl

literal_keeps_zeros : run standard "(num 12.0)" "null" ≡ writes "12.0" 1
unfolding evaluate
literal_keeps_zeros = refl

-- "Literals give their value's shape"
literal_of_zeros_is_int : check "(num 12.0)" "(shape)" ≡ writes "(shape int)\n" 0
unfolding evaluate
literal_of_zeros_is_int = refl

-- N of `it` and the digits of refusal 4 are as written
index_as_spelled : check "(keep (it 0.0))" "(shape int)" ≡ refuses 7 10
unfolding evaluate
index_as_spelled = refl

ten_zeros_are_too_many : plain "12.0000000000" ≡ refuses 4 0
unfolding evaluate
ten_zeros_are_too_many = refl

-- ---- 13, at the fewest steps that request Q-6 allows

abbrev few_steps : Limits
few_steps = record { bytes = 16384; values = 512; nesting = 32; steps = 256 }

-- on a list of two: 254 steps in six loops, one in the other, of 2 in the innermost; one for `pack`, one for each `none`
steps_256
    : (run few_steps
    "(pack \"a\" (each (it 0) (each (it 1) (each (it 2) (each (it 3) (each (it 4) (each (it 5) (keep (it 0)))))))) \"b\" (none))"
    "[0,0]"
    ).answer
    ≡ written 268 256 false
unfolding evaluate
steps_256 = refl

-- the step past the limit is refused at the form that would count it, the last one
steps_257
    : run few_steps
    "(pack \"a\" (each (it 0) (each (it 1) (each (it 2) (each (it 3) (each (it 4) (each (it 5) (keep (it 0)))))))) \"b\" (none) \"c\" (none))"
    "[0,0]"
    ≡ refuses 13 123
unfolding evaluate
steps_257 = refl
