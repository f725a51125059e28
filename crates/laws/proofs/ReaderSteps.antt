-- The tokens that lead on in each state of reading a reader. Assumes nothing.
use Rattle.std.specs.Prelude.{ℕ, suc, ◌<◌, ◌≡◌, refl, true, false}
use Rattle.std.proofs.Math.Option.{some}
use Rattle.std.proofs.Common.{arith}
use Rattle.definitions.specs.Bytes.{Bytes, bytes, order, same}
use Rattle.definitions.specs.Number.{Number, Numeral}
use Rattle.definitions.specs.Value.{Value}
use Rattle.definitions.specs.Reader.{Place, Conversion, Test, Result, Pairs, no_pairs, if_first, pack_part, Around, in_form, converts, keeps}
use Rattle.definitions.specs.Reader.{counts, maps, tests, PlaceAround, in_field, in_result, place_open, place_word, it_index, field_name}
use Rattle.definitions.specs.Reader.{place_close, result_open, result_word, when_test, num_number, str_text, pack_name, result_close, want}
use Rattle.definitions.specs.Reader.{put_place, put_result, depth, place_depth, place_bindings, word_number, index_fits, among_pairs}
use Rattle.definitions.specs.Reader.{pairs_onto, test_words, place_words, result_words, index_step, literal_step, pack_step, want_step, step}
use Rattle.definitions.specs.Tokens.{opening, closing, quoted, word, go, opens, want_open, want_close}
use Rattle.definitions.specs.Tokens.{want_text, want_word, want_named, where_true, where_some, look_word}
use Rattle.laws.specs.Bools.{and_intro, not_false}
use Rattle.laws.proofs.NumberWords.{number_spelled}
use Rattle.laws.specs.FormGrammar.{at, NumberWord, number_word, NumberMeant, number_meant, IndexWord, index_word, ConversionWord, int_word}
use Rattle.laws.specs.FormGrammar.{dec_word, bool_word, text_word, TestWord, null_test, bool_test, int_test, num_test, text_test, list_test, rec_test}
use Rattle.laws.specs.Tests.{eq-eqb, lt-ltb}

-- ---- steps that lead on: places

pub place_opens
    : (o : PlaceAround) (x : ℕ) → step (want (place_open o)) (at x opening) ≡ opens (suc (place_depth o)) (want (place_word x o))
unfolding step want_step want_open
place_opens o x = refl

pub it_named : (x : ℕ) (o : PlaceAround) (y : ℕ) → step (want (place_word x o)) (at y (word (bytes "it"))) ≡ go (want (it_index x o))
unfolding step want_step want_named want_word where_some look_word place_words same order bytes
it_named x o y = refl

pub field_named
    : (x : ℕ) (o : PlaceAround) (y : ℕ) → step (want (place_word x o)) (at y (word (bytes "field"))) ≡ go (want (field_name x o))
unfolding step want_step want_named want_word where_some look_word place_words same order bytes
field_named x o y = refl

pub field_called
    : (x : ℕ) (o : PlaceAround) (n : Bytes) (y : ℕ)
    → step (want (field_name x o)) (at y (quoted n)) ≡ go (want (place_open (in_field x n o)))
unfolding step want_step want_text
field_called x o n y = refl

pub place_closed : (p : Place) (o : PlaceAround) (y : ℕ) → step (want (place_close p o)) (at y closing) ≡ go (put_place p o)
unfolding step want_step want_close
place_closed p o y = refl

word_is_number : {w : Bytes} {d : Numeral} → NumberWord w d → word_number w ≡ some d
unfolding word_number
word_is_number {w} {d} (number_word e f) = rw (number_spelled w d e, word_number, f)

pub index_goes
    : {k n : ℕ} {w : Bytes} → IndexWord k w n → (x : ℕ) (o : PlaceAround) (y : ℕ) → k ≡ place_bindings o
    → step (want (it_index x o)) (at y (word w)) ≡ go (want (place_close (Place.it x n) o))
unfolding step want_step want_word where_some index_step index_fits where_true
index_goes (index_word {d = d} n a b c) x o y e =
    rw (word_is_number n, where_some) (rw (fits, where_true))
  where
    fits : index_fits (place_bindings o) d ≡ true
    fits =
        and_intro
        (and_intro (not_false a) (eq-eqb b))
        (lt-ltb d.coefficient (place_bindings o) (let z : d.coefficient < place_bindings o = omega arith in z))

-- ---- steps that lead on: results

pub result_opens : (o : Around) (x : ℕ) → step (want (result_open o)) (at x opening) ≡ opens (suc (depth o)) (want (result_word x o))
unfolding step want_step want_open
result_opens o x = refl

pub result_closed : (r : Result) (o : Around) (y : ℕ) → step (want (result_close r o)) (at y closing) ≡ go (put_result r o)
unfolding step want_step want_close
result_closed r o y = refl

pub convert_named
    : {c : Conversion} {w : Bytes} → ConversionWord c w → (x : ℕ) (o : Around) (y : ℕ)
    → step (want (result_word x o)) (at y (word w)) ≡ go (want (place_open (in_result x (converts c) o)))
unfolding step want_step want_named want_word where_some look_word result_words same order bytes
convert_named int_word x o y = refl
convert_named dec_word x o y = refl
convert_named bool_word x o y = refl
convert_named text_word x o y = refl

pub keep_named
    : (x : ℕ) (o : Around) (y : ℕ) → step (want (result_word x o)) (at y (word (bytes "keep"))) ≡ go (want (place_open (in_result x keeps o)))
unfolding step want_step want_named want_word where_some look_word result_words same order bytes
keep_named x o y = refl

pub count_named
    : (x : ℕ) (o : Around) (y : ℕ) → step (want (result_word x o)) (at y (word (bytes "count"))) ≡ go (want (place_open (in_result x counts o)))
unfolding step want_step want_named want_word where_some look_word result_words same order bytes
count_named x o y = refl

pub each_named
    : (x : ℕ) (o : Around) (y : ℕ) → step (want (result_word x o)) (at y (word (bytes "each"))) ≡ go (want (place_open (in_result x maps o)))
unfolding step want_step want_named want_word where_some look_word result_words same order bytes
each_named x o y = refl

pub when_named
    : (x : ℕ) (o : Around) (y : ℕ) → step (want (result_word x o)) (at y (word (bytes "when"))) ≡ go (want (when_test x o))
unfolding step want_step want_named want_word where_some look_word result_words same order bytes
when_named x o y = refl

pub if_named
    : (x : ℕ) (o : Around) (y : ℕ) → step (want (result_word x o)) (at y (word (bytes "if"))) ≡ go (want (result_open (in_form x if_first o)))
unfolding step want_step want_named want_word where_some look_word result_words same order bytes
if_named x o y = refl

pub num_named
    : (x : ℕ) (o : Around) (y : ℕ) → step (want (result_word x o)) (at y (word (bytes "num"))) ≡ go (want (num_number x o))
unfolding step want_step want_named want_word where_some look_word result_words same order bytes
num_named x o y = refl

pub str_named
    : (x : ℕ) (o : Around) (y : ℕ) → step (want (result_word x o)) (at y (word (bytes "str"))) ≡ go (want (str_text x o))
unfolding step want_step want_named want_word where_some look_word result_words same order bytes
str_named x o y = refl

pub yes_named
    : (x : ℕ) (o : Around) (y : ℕ) → step (want (result_word x o)) (at y (word (bytes "yes"))) ≡ go (want (result_close (Result.literal x (Value.bool true)) o))
unfolding step want_step want_named want_word where_some look_word result_words same order bytes
yes_named x o y = refl

pub no_named
    : (x : ℕ) (o : Around) (y : ℕ) → step (want (result_word x o)) (at y (word (bytes "no"))) ≡ go (want (result_close (Result.literal x (Value.bool false)) o))
unfolding step want_step want_named want_word where_some look_word result_words same order bytes
no_named x o y = refl

pub none_named
    : (x : ℕ) (o : Around) (y : ℕ) → step (want (result_word x o)) (at y (word (bytes "none"))) ≡ go (want (result_close (Result.literal x Value.null) o))
unfolding step want_step want_named want_word where_some look_word result_words same order bytes
none_named x o y = refl

pub pack_named
    : (x : ℕ) (o : Around) (y : ℕ) → step (want (result_word x o)) (at y (word (bytes "pack"))) ≡ go (want (pack_name x no_pairs o))
unfolding step want_step want_named want_word where_some look_word result_words same order bytes
pack_named x o y = refl

pub test_named
    : {t : Test} {w : Bytes} → TestWord t w → (x : ℕ) (o : Around) (y : ℕ)
    → step (want (when_test x o)) (at y (word w)) ≡ go (want (place_open (in_result x (tests t) o)))
unfolding step want_step want_named want_word where_some look_word test_words same order bytes
test_named null_test x o y = refl
test_named bool_test x o y = refl
test_named int_test x o y = refl
test_named num_test x o y = refl
test_named text_test x o y = refl
test_named list_test x o y = refl
test_named rec_test x o y = refl

pub number_goes
    : {w : Bytes} {n : Number} → NumberMeant w n → (x : ℕ) (o : Around) (y : ℕ)
    → step (want (num_number x o)) (at y (word w)) ≡ go (want (result_close (Result.literal x (Value.number n)) o))
unfolding step want_step want_word where_some literal_step
number_goes (number_meant n) x o y = rw (word_is_number n, where_some)

pub text_goes
    : (t : Bytes) (x : ℕ) (o : Around) (y : ℕ)
    → step (want (str_text x o)) (at y (quoted t)) ≡ go (want (result_close (Result.literal x (Value.text t)) o))
unfolding step want_step want_text literal_step
text_goes t x o y = refl

pub pack_called
    : (n : Bytes) (x : ℕ) (ps : Pairs) (o : Around) (y : ℕ) → among_pairs n ps ≡ false
    → step (want (pack_name x ps o)) (at y (quoted n)) ≡ go (want (result_open (in_form x (pack_part ps n) o)))
unfolding step want_step pack_step where_true
pack_called n x ps o y h = rw (not_false h, where_true)

pub pack_closed
    : (x : ℕ) (ps : Pairs) (o : Around) (y : ℕ)
    → step (want (pack_name x ps o)) (at y closing) ≡ go (put_result (Result.pack x (pairs_onto ps no_pairs)) o)
unfolding step want_step pack_step
pack_closed x ps o y = refl
