-- A reader of R bytes begins at most (R + 2) / 3 forms: a bracket and a word of two bytes for each before the last, whose own
-- bracket is one byte. A text with no token begins none, and is read whatever the limits. Assumes nothing.
use Prim.Native.Nat.{ℕ, suc, ◌+◌, ◌/◌, ◌≤◌, ◌<◌, min}
use native.Mathlib.Omega.{arith}
use native.Mathlib.Decide.{dec_lt}
use mathlib.Core.Path.{◌≡◌, refl, ap}
use mathlib.Core.Bool.{true, not}
use mathlib.Core.List.{List, [], ◌∷◌}
use lib.ListN.{length}
use Rattle.definitions.specs.declared.Limits.{Limits}
use Rattle.definitions.specs.Evaluate.{evaluate}
use Rattle.definitions.specs.Bytes.{Bytes}
use Rattle.definitions.specs.Number.{Numeral, number_of}
use Rattle.definitions.specs.Value.{Value}
use Rattle.definitions.specs.Tokens.{Token, opening, closing, quoted, word, broken, Placed, tokens, go, opens, where_some}
use Rattle.definitions.specs.Reader.{Place, Pairs, pack_part, Around, text_end, in_form, PlaceAround, in_field}
use Rattle.definitions.specs.Reader.{in_result, tests, place_open, place_word, it_index, field_name, place_close, result_open, result_word}
use Rattle.definitions.specs.Reader.{when_test, num_number, str_text, pack_name, result_close, State, want, whole_place, whole_result}
use Rattle.definitions.specs.Reader.{put_place, put_result, depth, place_depth, place_bindings, word_number, index_fits, among_pairs}
use Rattle.definitions.specs.Reader.{test_words, place_words, result_words, index_step, literal_step, pack_step, want_step, step}
use Rattle.definitions.specs.Reader.{finished_result, read_result, read_reader}
use Rattle.slices.specs.Fewer.{with_values}
use Rattle.inputs.proofs.FewForms.{width, widths, tokens_width, Pays, open_pays, close_pays, text_pays, word_pays, true_pays, some_pays, long_names}
use Rattle.inputs.proofs.FewForms.{named_pays, read_same}

-- the word of a form, behind its bracket
abbrev owes : State → ℕ
owes (want (place_open o)) = 0
owes (want (place_word at o)) = 2
owes (want (it_index at o)) = 0
owes (want (field_name at o)) = 0
owes (want (place_close p o)) = 0
owes (want (result_open o)) = 0
owes (want (result_word at o)) = 2
owes (want (when_test at o)) = 0
owes (want (num_number at o)) = 0
owes (want (str_text at o)) = 0
owes (want (pack_name at ps o)) = 0
owes (want (result_close r o)) = 0
owes (whole_place p) = 0
owes (whole_result r) = 0

long_places : long_names 2 place_words ≡ true
unfolding evaluate
long_places = refl

long_results : long_names 2 result_words ≡ true
unfolding evaluate
long_results = refl

long_tests : long_names 3 test_words ≡ true
unfolding evaluate
long_tests = refl

index_pays : (at w : ℕ) (o : PlaceAround) (d : Numeral) → Pays 3 owes 0 w (index_step at o d)
unfolding index_step
index_pays at w o d =
    true_pays 3 owes 0 w (index_fits (place_bindings o) d) (go (want (place_close (Place.it at d.coefficient) o))) (omega arith)

literal_pays : (at w : ℕ) (o : Around) (v : Value) → Pays 3 owes 0 w (literal_step at o v)
unfolding literal_step
literal_pays at w o v = omega arith

pack_pays : (at : ℕ) (ps : Pairs) (o : Around) (t : Token) → Pays 3 owes 0 (width t) (pack_step at ps o t)
unfolding pack_step
pack_pays at ps o opening = tt
pack_pays at ps o closing = omega arith
pack_pays at ps o (quoted n) =
    true_pays 3 owes 0 0 (not (among_pairs n ps)) (go (want (result_open (in_form at (pack_part ps n) o)))) (omega arith)
pack_pays at ps o (word w) = tt
pack_pays at ps o broken = tt

pays : (q : State) (t : Placed) → Pays 3 owes (owes q) (width t.token) (step q t)
unfolding step want_step
pays (want (place_open o)) t =
    open_pays 3 owes 0 t.token (opens (suc (place_depth o)) (want (place_word t.at o))) (refl, omega arith, omega arith)
pays (want (place_word at o)) t =
    named_pays 3 owes 2 2 place_words t.token (λ f. go (want (f at o))) long_places (λ f w h. omega arith)
pays (want (it_index at o)) t =
    word_pays 3 owes 0 t.token (λ w. where_some (word_number w) (λ d. index_step at o d))
    (λ w. some_pays 3 owes 0 (length w) (word_number w) (λ d. index_step at o d) (λ d. index_pays at (length w) o d))
pays (want (field_name at o)) t = text_pays 3 owes 0 t.token (λ n. go (want (place_open (in_field at n o)))) (λ n. omega arith)
pays (want (place_close p o)) t = close_pays 3 owes 0 t.token (go (put_place p o)) (omega arith)
pays (want (result_open o)) t =
    open_pays 3 owes 0 t.token (opens (suc (depth o)) (want (result_word t.at o))) (refl, omega arith, omega arith)
pays (want (result_word at o)) t =
    named_pays 3 owes 2 2 result_words t.token (λ f. go (want (f at o))) long_results (λ f w h. omega arith)
pays (want (when_test at o)) t =
    named_pays 3 owes 3 0 test_words t.token (λ k. go (want (place_open (in_result at (tests k) o)))) long_tests (λ k w h. omega arith)
pays (want (num_number at o)) t =
    word_pays 3 owes 0 t.token (λ w. where_some (word_number w) (λ d. literal_step at o (Value.number (number_of d))))
    (λ w. some_pays 3 owes 0 (length w) (word_number w) (λ d. literal_step at o (Value.number (number_of d)))
    (λ d. literal_pays at (length w) o (Value.number (number_of d))))
pays (want (str_text at o)) t =
    text_pays 3 owes 0 t.token (λ s. literal_step at o (Value.text s)) (λ s. literal_pays at 0 o (Value.text s))
pays (want (pack_name at ps o)) t = pack_pays at ps o t.token
pays (want (result_close r o)) t = close_pays 3 owes 0 t.token (go (put_result r o)) (omega arith)
pays (whole_place p) t = tt
pays (whole_result r) t = tt

-- limits with so many values, or more, judge it as the others do
pub few_reader_forms
    : (l : Limits) (text : Bytes) (most : ℕ) → (length text + 2) / 3 ≤ most
    → read_reader (with_values l (min l.values most)) text ≡ read_reader l text
unfolding read_reader read_result
few_reader_forms l text most enough = split (dec_lt most l.values)
  where
    same : most < l.values → (ts : List Placed) → widths ts ≤ length text
        → read_result (with_values l (min l.values most)) (length text) ts ≡ read_result l (length text) ts
    same h [] g = refl
    same h (t ∷ ts) g =
        read_same 3 owes step finished_result pays (with_values l (min l.values most)) l (length text) most (omega arith) (omega arith) refl
        (λ n i. omega arith) (t ∷ ts) 0 (length text) (want (result_open text_end)) (omega arith)

    split : Dec (most < l.values) → read_reader (with_values l (min l.values most)) text ≡ read_reader l text
    split (yes h) = same h (tokens text) (tokens_width text)
    split (no h) = ap (λ (v : ℕ). read_reader (with_values l v) text) (let e : min l.values most ≡ l.values = omega arith in e)
