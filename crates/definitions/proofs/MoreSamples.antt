-- Rows beyond the sample sheet, proved by evaluation: work slices, the C calls, a place read alone, and rules that no
-- sample of the sheet reaches. Assumes nothing.
use Rattle.std.specs.Prelude.{ℕ, ◌≡◌, refl, true, false, List, [], ◌∷◌, ◌++◌, replicate}
use Rattle.definitions.specs.declared.Limits.{Limits}
use Rattle.definitions.specs.declared.Answer.{Answer}
use Rattle.definitions.specs.Limits.{set_of, standard, smallest}
use Rattle.definitions.specs.Bytes.{Bytes, bytes}
use Rattle.definitions.specs.Outcome.{ok, refused}
use Rattle.definitions.specs.Value.{Value}
use Rattle.definitions.specs.Json.{read_json}
use Rattle.definitions.specs.Shape.{only_null, only_text, only_rec, rec_of, field, no_fields, ascending}
use Rattle.definitions.specs.Reader.{Place, Result, read_reader, read_place}
use Rattle.definitions.specs.Operations.{Done, refusal, written, said, plain_operation, below_operation, admits_operation, check_operation}
use Rattle.definitions.specs.Operations.{run_operation}
use Rattle.definitions.specs.Calls.{plain_call, admits_call}
use Rattle.definitions.specs.WorkSlices.{plain_slices, infer_slices, admits_slices, join_slices, below_slices, check_slices, run_slices}
use Rattle.definitions.specs.WorkSlices.{for_document, for_shape_document, for_grown_document, for_two_shapes, for_reader_shape, for_reader_document}
use Rattle.definitions.specs.Evaluate.{evaluate}

-- an output or answer buffer of n bytes
abbrev room : ℕ → Bytes
room n = replicate n 0xA5

-- five words of the answer buffer, each below 65,536
abbrev words : (text place length steps yes : ℕ) → Bytes
words t p k s y =
    t ∷ 0 ∷ 0 ∷ 0 ∷ 0 ∷ 0 ∷ 0 ∷ 0 ∷ p ∷ 0 ∷ 0 ∷ 0 ∷ 0 ∷ 0 ∷ 0 ∷ 0 ∷ k ∷ 0 ∷ 0 ∷ 0 ∷ 0 ∷ 0 ∷ 0 ∷ 0 ∷ s ∷ 0 ∷ 0 ∷ 0 ∷ 0 ∷ 0 ∷ 0 ∷ 0
    ∷ y ∷ 0 ∷ 0 ∷ 0 ∷ 0 ∷ 0 ∷ 0 ∷ 0 ∷ []

-- ---- work slices: the lengths that `docs/WORK-SLICES.md` prints

published_for_plain : plain_slices standard ≡ 1536 ∷ 2559 ∷ []
unfolding evaluate
published_for_plain = refl

published_for_infer : infer_slices standard ≡ 1024 ∷ 1536 ∷ 4607 ∷ []
unfolding evaluate
published_for_infer = refl

published_for_admits : admits_slices standard ≡ 1024 ∷ 1536 ∷ 4607 ∷ []
unfolding evaluate
published_for_admits = refl

published_for_join : join_slices standard ≡ 1024 ∷ 1024 ∷ 4096 ∷ []
unfolding evaluate
published_for_join = refl

published_for_below : below_slices standard ≡ 1024 ∷ 1024 ∷ 4096 ∷ []
unfolding evaluate
published_for_below = refl

published_for_check : check_slices standard ≡ 1536 ∷ 1024 ∷ 1024 ∷ 32 ∷ 4416 ∷ []
unfolding evaluate
published_for_check = refl

published_for_run : run_slices standard ≡ 1536 ∷ 1536 ∷ 1536 ∷ 32 ∷ 4927 ∷ []
unfolding evaluate
published_for_run = refl

published_for_plain_at_the_smallest : plain_slices smallest ≡ 48 ∷ 143 ∷ []
unfolding evaluate
published_for_plain_at_the_smallest = refl

published_for_infer_at_the_smallest : infer_slices smallest ≡ 32 ∷ 48 ∷ 271 ∷ []
unfolding evaluate
published_for_infer_at_the_smallest = refl

published_for_admits_at_the_smallest : admits_slices smallest ≡ 32 ∷ 48 ∷ 271 ∷ []
unfolding evaluate
published_for_admits_at_the_smallest = refl

published_for_join_at_the_smallest : join_slices smallest ≡ 32 ∷ 32 ∷ 256 ∷ []
unfolding evaluate
published_for_join_at_the_smallest = refl

published_for_below_at_the_smallest : below_slices smallest ≡ 32 ∷ 32 ∷ 256 ∷ []
unfolding evaluate
published_for_below_at_the_smallest = refl

published_for_check_at_the_smallest : check_slices smallest ≡ 48 ∷ 32 ∷ 32 ∷ 4 ∷ 266 ∷ []
unfolding evaluate
published_for_check_at_the_smallest = refl

published_for_run_at_the_smallest : run_slices smallest ≡ 48 ∷ 48 ∷ 48 ∷ 4 ∷ 281 ∷ []
unfolding evaluate
published_for_run_at_the_smallest = refl

-- ---- request Q-6: 18, "a limit outside its range, before 1"; each end is in range, one past it is not

abbrev at_set : Limits → Answer
at_set l = (plain_operation read_json (plain_slices l) (0 ∷ []) l (bytes "1") []).answer

at_the_largest : at_set standard ≡ refusal 1 0 0
unfolding evaluate
at_the_largest = refl

at_the_smallest : at_set smallest ≡ refusal 1 0 0
unfolding evaluate
at_the_smallest = refl

few_bytes : at_set (set_of 1023 16 4 256) ≡ refusal 18 0 0
unfolding evaluate
few_bytes = refl

many_bytes : at_set (set_of 16385 16 4 256) ≡ refusal 18 0 0
unfolding evaluate
many_bytes = refl

few_values : at_set (set_of 1024 15 4 256) ≡ refusal 18 0 0
unfolding evaluate
few_values = refl

many_values : at_set (set_of 1024 513 4 256) ≡ refusal 18 0 0
unfolding evaluate
many_values = refl

flat : at_set (set_of 1024 16 3 256) ≡ refusal 18 0 0
unfolding evaluate
flat = refl

deep : at_set (set_of 1024 16 33 256) ≡ refusal 18 0 0
unfolding evaluate
deep = refl

few_steps_handed : at_set (set_of 1024 16 4 255) ≡ refusal 18 0 0
unfolding evaluate
few_steps_handed = refl

many_steps_handed : at_set (set_of 1024 16 4 65537) ≡ refusal 18 0 0
unfolding evaluate
many_steps_handed = refl

-- "judged as whole 64-bit numbers"
beyond_a_word_of_32 : at_set (set_of 4294968320 16 4 256) ≡ refusal 18 0 0
unfolding evaluate
beyond_a_word_of_32 = refl

-- in C an answer buffer under 40 bytes included: the number alone is told, and nothing is written
out_of_range_call : plain_call read_json (set_of 1023 16 4 256) (bytes "1") (room 1) (room 39) ≡ record { number = 18; answer = room 39; output = room 1 }
unfolding evaluate
out_of_range_call = refl

out_of_range_told
    : plain_call read_json (set_of 1023 16 4 256) (bytes "1") (room 1) (room 41)
    ≡ record { number = 18; answer = words 0 0 0 0 0 ++ room 1; output = room 1 }
unfolding evaluate
out_of_range_told = refl

-- what short texts ask for; of an empty document 16 values, since 32 brackets that are open are 32 in as many bytes
asked_by_nothing : for_document standard 0 ≡ 48 ∷ 15 ∷ []
unfolding evaluate
asked_by_nothing = refl

asked_by_255_bytes : for_document standard 255 ≡ 429 ∷ 174 ∷ []
unfolding evaluate
asked_by_255_bytes = refl

asked_by_a_short_shape : for_shape_document standard 511 255 ≡ 146 ∷ 429 ∷ 238 ∷ []
unfolding evaluate
asked_by_a_short_shape = refl

asked_by_a_shape_that_grows : for_grown_document standard 511 255 ≡ 1024 ∷ 429 ∷ 238 ∷ []
unfolding evaluate
asked_by_a_shape_that_grows = refl

asked_by_two_short_shapes : for_two_shapes standard 1023 1023 ≡ 294 ∷ 294 ∷ 256 ∷ []
unfolding evaluate
asked_by_two_short_shapes = refl

asked_by_a_short_reader : for_reader_shape standard 255 511 ≡ 255 ∷ 146 ∷ 1024 ∷ 32 ∷ 149 ∷ []
unfolding evaluate
asked_by_a_short_reader = refl

asked_by_a_short_run : for_reader_document standard 255 255 ≡ 255 ∷ 429 ∷ 1536 ∷ 32 ∷ 259 ∷ []
unfolding evaluate
asked_by_a_short_run = refl

-- ---- refusal 1

abbrev plain_lent : (published lent : List ℕ) → Bytes → Done
plain_lent published lent document = plain_operation read_json published lent standard document (room 4)

one_word_short : plain_lent (10 ∷ 20 ∷ []) (10 ∷ 19 ∷ []) (bytes "1") ≡ record { answer = refusal 1 0 0; output = room 4 }
unfolding evaluate
one_word_short = refl

one_not_lent : plain_lent (10 ∷ 20 ∷ []) (10 ∷ []) (bytes "1") ≡ record { answer = refusal 1 0 0; output = room 4 }
unfolding evaluate
one_not_lent = refl

longer_is_used : plain_lent (10 ∷ 20 ∷ []) (10 ∷ 9000 ∷ []) (bytes "1") ≡ record { answer = written 1 0 false; output = bytes "1" ++ room 3 }
unfolding evaluate
longer_is_used = refl

-- 1 goes before the causes of a text
slices_first : plain_lent (10 ∷ []) (9 ∷ []) (bytes "[") ≡ record { answer = refusal 1 0 0; output = room 4 }
unfolding evaluate
slices_first = refl

-- ---- the C calls

buffer_of_39 : plain_call read_json standard (bytes "[ 1 ]") (room 4) (room 39) ≡ record { number = 1; answer = room 39; output = room 4 }
unfolding evaluate
buffer_of_39 = refl

-- the bytes behind the fortieth, and behind what is written, are kept
buffer_of_41
    : plain_call read_json standard (bytes "[ 1 ]") (room 4) (room 41)
    ≡ record { number = 0; answer = words 0 0 3 0 0 ++ room 1; output = bytes "[1]" ++ room 1 }
unfolding evaluate
buffer_of_41 = refl

call_refused : plain_call read_json standard (bytes "[1 x]") (room 4) (room 40) ≡ record { number = 3; answer = words 1 3 0 0 0; output = room 4 }
unfolding evaluate
call_refused = refl

call_without_room : plain_call read_json standard (bytes "[ 1 ]") (room 2) (room 40) ≡ record { number = 15; answer = words 0 0 3 0 0; output = room 2 }
unfolding evaluate
call_without_room = refl

call_says_yes : admits_call read_json standard (bytes "(shape null)") (bytes "null") (room 40) ≡ record { number = 0; answer = words 0 0 0 0 1; output = [] }
unfolding evaluate
call_says_yes = refl

-- the lowest byte of a word comes first: place 258 is 2 and 1
low_byte_first
    : plain_call read_json standard (replicate 258 0x20) [] (room 40)
    ≡ record { number = 3; answer = 1 ∷ 0 ∷ 0 ∷ 0 ∷ 0 ∷ 0 ∷ 0 ∷ 0 ∷ 2 ∷ 1 ∷ replicate 30 0; output = [] }
unfolding evaluate
low_byte_first = refl

-- ---- a place read alone

place_alone : read_place standard (bytes "(field \"a\" (it 0))") ≡ ok (Place.field 0 (bytes "a") (Place.it 11 0))
unfolding evaluate
place_alone = refl

only_the_document_is_bound : read_place standard (bytes "(it 1)") ≡ refused 7 4
unfolding evaluate
only_the_document_is_bound = refl

-- ---- names strictly ascending

in_order : ascending (only_rec (rec_of (field (bytes "a") only_null (field (bytes "ab") only_text no_fields)))) ≡ true
unfolding evaluate
in_order = refl

not_in_order : ascending (only_rec (rec_of (field (bytes "a") only_null (field (bytes "a") only_text no_fields)))) ≡ false
unfolding evaluate
not_in_order = refl

-- ---- rules that no sample reaches

abbrev plain : Bytes → Done
plain document = plain_operation read_json [] [] standard document (room 10)

-- a control byte without a two-character escape is written in lower case
lower_case_hex : plain (bytes "\"\\u001F\"") ≡ record { answer = written 8 0 false; output = bytes "\"\\u001f\"" ++ room 2 }
unfolding evaluate
lower_case_hex = refl

lone_low_surrogate : plain (bytes "\"\\uDC00\"") ≡ record { answer = refusal 3 1 4; output = room 10 }
unfolding evaluate
lone_low_surrogate = refl

-- E0 wants A0 to BF behind it
overlong : plain (0x22 ∷ 0xE0 ∷ 0x9F ∷ 0x80 ∷ 0x22 ∷ []) ≡ record { answer = refusal 3 1 2; output = room 10 }
unfolding evaluate
overlong = refl

-- a listed member that the value lacks has null
missing_member : admits_operation read_json [] [] standard (bytes "(shape rec (member \"a\" (shape int)))") (bytes "{}") ≡ said false
unfolding evaluate
missing_member = refl

-- P of `each` stands outside the new binding
outside_the_binding
    : check_operation [] [] standard (bytes "(each (it 1) (yes))") (bytes "(shape list (shape))") (room 4)
    ≡ record { answer = refusal 7 1 10; output = room 4 }
unfolding evaluate
outside_the_binding = refl

-- ---- a text with no token: `(none)` as a reader, refused as a shape and as a place

-- its place is 0, wherever the text ends
blank_reader_at_0 : read_reader standard (bytes "\t\r\n ") ≡ ok (Result.literal 0 Value.null)
unfolding evaluate
blank_reader_at_0 = refl

-- no form is written, so that no limit of forms or nesting counts one
blank_reader_of_no_form : read_reader (set_of 0 0 0 0) [] ≡ ok (Result.literal 0 Value.null)
unfolding evaluate
blank_reader_of_no_form = refl

abbrev null_shape : Bytes
null_shape = bytes "(shape null)\n"

empty_reader_checked
    : check_operation [] [] standard [] (bytes "(shape)") (room 14) ≡ record { answer = written 13 0 false; output = null_shape ++ room 1 }
unfolding evaluate
empty_reader_checked = refl

blank_reader_checked
    : check_operation [] [] standard (bytes "  ") (bytes "(shape int)") (room 14) ≡ record { answer = written 13 0 false; output = null_shape ++ room 1 }
unfolding evaluate
blank_reader_checked = refl

empty_reader_run
    : run_operation read_json [] [] standard [] (bytes "{}") (room 5) ≡ record { answer = written 4 1 false; output = bytes "null" ++ room 1 }
unfolding evaluate
empty_reader_run = refl

blank_reader_run
    : run_operation read_json [] [] smallest (bytes " \n") (bytes "7") (room 5) ≡ record { answer = written 4 1 false; output = bytes "null" ++ room 1 }
unfolding evaluate
blank_reader_run = refl

-- the second text is read and refused as ever, and a blank shape is 7 at its length
blank_shape : check_operation [] [] standard [] (bytes "  ") (room 4) ≡ record { answer = refusal 7 2 2; output = room 4 }
unfolding evaluate
blank_shape = refl

empty_shape : below_operation [] [] standard [] (bytes "(shape)") ≡ refusal 7 1 0
unfolding evaluate
empty_shape = refl

blank_place : read_place standard (bytes " ") ≡ refused 7 1
unfolding evaluate
blank_place = refl

-- one bracket is a token, and what JSON does not call white space is a word
reader_cut_behind_its_bracket : read_reader standard (bytes " (") ≡ refused 7 2
unfolding evaluate
reader_cut_behind_its_bracket = refl

vertical_tab_is_a_word : read_reader standard (0x20 ∷ 0x0B ∷ []) ≡ refused 7 1
unfolding evaluate
vertical_tab_is_a_word = refl
